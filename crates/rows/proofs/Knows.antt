-- What the code keeps is what the lines so far said: it judges the next line by that as the definitions do, and keeps on knowing.
use Prim.Native.Nat.{ℕ, suc, ◌+◌, ◌*◌, ◌%◌, ◌≤◌, ◌<◌, min}
use mathlib.Core.Path.{◌≡◌, refl, sym, ap, ap₂, ◌∙◌, subst}
use mathlib.Core.Bool.{Bool, true, false, cond, not, ◌&&◌, ◌||◌, or-false, false≢true}
use mathlib.Core.List.{List, [], ◌∷◌, ◌++◌, append-nil, append_assoc}
use mathlib.Core.Logic.{⊎_elim}
use native.Mathlib.Omega.{arith}
use borrow.Author.Tests.{eq-eqb, eqb-true, le-leb, leb-true, not-false}
use lib.Dec.{leb, eqb}
use lib.ListN.{length, get_or, length-append}
use Rattle.bits.proofs.Tests.{both_left, both_right, or_right, either, same_test, neither, cond_cases}
use Rattle.rules.specs.Lists.{some_in, each_in, count_in, same}
use Rattle.rules.proofs.Lists.{some_append, same_is}
use Rattle.words.specs.Words.{value}
use Rattle.words.specs.Counted.{most}
use Rattle.std.specs.Option.{is_some}
use Rattle.std.specs.declared.option.Option.{Option}
use Rattle.std.specs.declared.option.Option.TheVariants.{None, Some}
use Rattle.terms.specs.declared.Term.{Term as TermRead}
use Rattle.terms.specs.declared.Line.{Line}
use Rattle.terms.specs.declared.Line.TheVariants.{Inputs, Output, Fr, Terms, Term}
use Rattle.terms.specs.Terms.{Says, keyword, term, end, malformed, unknown, dot, dot_e, alone, second, takes, is_keyword, keyword_line, says_by, is_input, well_formed, output, cube_of, dot_i, dot_o, dot_type, dot_p, on_char, off_char}
use Rattle.terms.specs.Seen.{term_of, term_seen, seen}
use Rattle.rows.specs.declared.Known.{Known}
use Rattle.rows.specs.Rows.{of_keyword, of_term, is_of, stands, told, complete, terms, miscounted, line_code, cube_with, cubes_with}
use Rattle.rows.specs.Known.{all_known, tells, fits_in, code_by, more_if, learnt}
use Rattle.rows.proofs.First.{is_term}

-- ---- a keyword is one of four

pub keyword_cases : (Q : List ℕ → Type 0) → Q dot_i → Q dot_o → Q dot_type → Q dot_p → (name : List ℕ) → is_keyword name ≡ true
    → Q name
keyword_cases Q i o t p name e =
    let at : (word : List ℕ) → Q word → same name word ≡ true → Q name = λ word q h. subst Q (sym (same_is name word h)) q in
    ⊎_elim
    (λ (three : same name dot_i || same name dot_o || same name dot_type ≡ true).
    ⊎_elim (λ (two : same name dot_i || same name dot_o ≡ true). ⊎_elim (at dot_i i) (at dot_o o)
    (either (same name dot_i) (same name dot_o) two)) (at dot_type t)
    (either (same name dot_i || same name dot_o) (same name dot_type) three))
    (at dot_p p)
    (either (same name dot_i || same name dot_o || same name dot_type) (same name dot_p) e)

-- a keyword is kept in one of four ways
pub by_keyword : (Q : Line → Type 0) (name v : List ℕ) → Q (Inputs (min (value v) most)) → Q Output → Q Fr
    → Q (Terms (min (value v) most)) → Q (seen (keyword name v))
unfolding seen
by_keyword Q name v i o t p =
    cond_cases Q (same name dot_i) _ _ i (cond_cases Q (same name dot_o) _ _ o (cond_cases Q (same name dot_type) _ _ t p))

-- a line that says a keyword says one of them
abbrev pub proper : Says → Bool
proper s = of_keyword (λ name v. is_keyword name) true s

pub says_proper : (ws : List (List ℕ)) → proper (says_by ws) ≡ true
unfolding says_by keyword_line of_keyword
says_proper [] = refl
says_proper (w ∷ ws) =
    cond_cases (λ s. proper s ≡ true) (eqb (get_or w 0 0) dot) _ (term w ws)
    (cond_cases (λ s. proper s ≡ true) (same w dot_e) end _ refl (known (is_keyword w) refl)) refl
  where
    known : (t : Bool) → is_keyword w ≡ t
        → proper (cond t (cond (alone ws && takes w (second ws)) (keyword w (second ws)) malformed) unknown) ≡ true
    known true e = cond_cases (λ s. proper s ≡ true) (alone ws && takes w (second ws)) (keyword w (second ws)) malformed e refl
    known false e = refl

-- ---- one line more

module _ (name : List ℕ) (said : List Says) (s : Says) where
  pub stands_next : stands name (said ++ (s ∷ [])) ≡ stands name said || is_of name s
  unfolding some_in
  stands_next = some_append (is_of name) said (s ∷ []) ∙ ap (λ (t : Bool). stands name said || t) (or-false (is_of name s))

  pub stands_same : is_of name s ≡ false → stands name (said ++ (s ∷ [])) ≡ stands name said
  stands_same e = stands_next ∙ ap (λ (t : Bool). stands name said || t) e ∙ or-false (stands name said)

pub told_same : (name : List ℕ) (said : List Says) (s : Says) → is_of name s ≡ false
    → told name (said ++ (s ∷ [])) ≡ told name said
unfolding told
told_same name [] s e = simp e
told_same name (r ∷ said) s e = ap (cond (is_of name r) (of_keyword (λ w v. value v) 0 r)) (told_same name said s e)

pub told_new : (name v : List ℕ) (said : List Says) → stands name said ≡ false → same name name ≡ true
    → told name (said ++ (keyword name v ∷ [])) ≡ value v
unfolding told some_in of_keyword
told_new name v [] h own = simp own
told_new name v (r ∷ said) h own =
    let none = neither (is_of name r) (stands name said) h in simp none.0 (told_new name v said none.1 own)

pub terms_next : (said : List Says) (s : Says) → terms (said ++ (s ∷ [])) ≡ terms said + cond (is_term s) 1 0
unfolding count_in
terms_next [] s = omega arith
terms_next (r ∷ said) s = omega (arith, terms_next said s)

pub cubes_next : (c : ℕ) (said more : List Says) → cubes_with c (said ++ more) ≡ cubes_with c said ++ cubes_with c more
unfolding cubes_with
cubes_next c [] more = refl
cubes_next c (r ∷ said) more =
    ap (λ (l : List ℕ). cube_with c r ++ l) (cubes_next c said more)
    ∙ sym (append_assoc (cube_with c r) (cubes_with c said) (cubes_with c more))

-- the cube of one line more
pub cube_next : (c : ℕ) (said : List Says) (s : Says) → cubes_with c (said ++ (s ∷ [])) ≡ cubes_with c said ++ cube_with c s
unfolding cubes_with
cube_next c said s = cubes_next c said (s ∷ []) ∙ ap (λ (l : List ℕ). cubes_with c said ++ l) (append-nil (cube_with c s))

-- something of a term's words, or what is fixed
of_term_cases : {A : Type 0} (Q : A → Type 0) (f : List ℕ → List (List ℕ) → A) (a : A) (s : Says)
    → ((w : List ℕ) (ws : List (List ℕ)) → Q (f w ws)) → Q a → Q (of_term f a s)
unfolding of_term
of_term_cases Q f a (term w ws) h g = h w ws
of_term_cases Q f a s h g = g

-- no more terms than lines, and no more cubes
pub terms_most : (said : List Says) → terms said ≤ length said
unfolding count_in
terms_most [] = omega arith
terms_most (s ∷ said) =
    cond_cases (λ k. k + terms said ≤ suc (length said)) (is_term s) 1 0 (omega (arith, terms_most said))
    (omega (arith, terms_most said))

pub cubes_most : (c : ℕ) (said : List Says) → length (cubes_with c said) ≤ 2 * length said
unfolding cubes_with
cubes_most c [] = omega arith
cubes_most c (s ∷ said) = omega (arith, length-append (cube_with c s) (cubes_with c said), cubes_most c said, one_most s)
  where
    one_most : (s : Says) → length (cube_with c s) ≤ 2
    one_most s =
        of_term_cases (λ l. length l ≤ 2) _ [] s
        (λ w ws. cond_cases (λ l. length l ≤ 2) (eqb (output ws) c) (cube_of w) [] (omega arith) (omega arith)) (omega arith)

-- ---- what is known

-- a number that was told, if it was
abbrev pub if_told : (ℕ → ℕ) → List ℕ → List Says → Option ℕ
if_told f name said = cond (stands name said) (Some (f (told name said))) None

-- a number of `.p` is cut at the largest
abbrev pub cut : ℕ → ℕ
cut v = min v most

abbrev whole : ℕ → ℕ
whole v = v

-- of the keywords
pub record Stood (k : Known) (said : List Says) : Type 0 where
  pub inputs_told : k.n ≡ if_told whole dot_i said
  pub least : stands dot_i said ≡ true → 1 ≤ told dot_i said
  pub few : told dot_i said ≤ 8
  pub one_stands : k.one ≡ stands dot_o said
  pub fr_stands : k.fr ≡ stands dot_type said
  pub count_told : k.told ≡ if_told cut dot_p said

-- of the terms
pub record Counts (k : Known) (said : List Says) : Type 0 where
  pub terms_are : k.terms ≡ terms said
  pub on_are : length (cubes_with on_char said) ≡ 2 * k.on
  pub off_are : length (cubes_with off_char said) ≡ 2 * k.off

pub record Knows (k : Known) (said : List Says) : Type 0 where
  pub stood : Stood k said
  pub counts : Counts k said

-- ---- a line judged

-- a term that is well-formed has that many inputs, and is kept as it is
pub own_length : (n : ℕ) (w : List ℕ) (ws : List (List ℕ)) → well_formed n w ws ≡ true → length w ≡ n
unfolding well_formed
own_length n w ws e =
    eqb-true (length w) n (both_left (eqb (length w) n) _ (both_left (eqb (length w) n && each_in is_input w) _ e))

pub term_kept : (n : ℕ) (w : List ℕ) (ws : List (List ℕ)) → n ≤ 8 → well_formed n w ws ≡ true
    → term_seen w ws ≡ Some (term_of w (output ws))
unfolding term_seen
term_kept n w ws most e =
    let own = own_length n w ws e in
    simp (le-leb (length w) 8 (omega (arith, own)), ap (λ (m : ℕ). well_formed m w ws) own ∙ e)

-- it is well-formed for n exactly if it is kept with n
term_known : (n : ℕ) (w : List ℕ) (ws : List (List ℕ)) → n ≤ 8 → fits_in (Some n) (term_seen w ws) ≡ well_formed n w ws
unfolding term_seen
term_known n w ws most =
    same_test _ _ (back (leb (length w) 8 && well_formed (length w) w ws) refl)
    (λ e. ap (fits_in (Some n)) (term_kept n w ws most e) ∙ eq-eqb (length w) n (own_length n w ws e))
  where
    back : (t : Bool) → leb (length w) 8 && well_formed (length w) w ws ≡ t
        → fits_in (Some n) (cond t (Some (term_of w (output ws))) None) ≡ true → well_formed n w ws ≡ true
    back true e q = ap (λ (m : ℕ). well_formed m w ws) (sym (eqb-true (length w) n q)) ∙ both_right (leb (length w) 8) _ e
    back false e q = absurd (false≢true q)

-- something is kept where it was told
told_some : (t : Bool) (v : ℕ) → is_some (cond t (Some v) None) ≡ t
told_some true v = refl
told_some false v = refl

module _ (k : Known) (said : List Says) (knows : Knows k said) where
  -- `.i` and `.p` stood where their numbers are kept
  pub inputs_stand : is_some k.n ≡ stands dot_i said
  inputs_stand = ap is_some knows.stood.inputs_told ∙ told_some (stands dot_i said) (told dot_i said)

  pub count_stands : is_some k.told ≡ stands dot_p said
  count_stands = ap is_some knows.stood.count_told ∙ told_some (stands dot_p said) (cut (told dot_p said))

  complete_known : all_known k ≡ complete said
  complete_known = λ i. inputs_stand i && knows.stood.one_stands i && knows.stood.fr_stands i

  -- a number that is cut at the largest is from 1 to 8 all the same
  cut_range : (v : ℕ) → leb 1 (min v most) && leb (min v most) 8 ≡ leb 1 v && leb v 8
  cut_range v =
      ap₂ ◌&&◌ (same_test _ _ (λ e. le-leb 1 v (omega (arith, leb-true 1 (min v most) e)))
      (λ e. le-leb 1 (min v most) (omega (arith, leb-true 1 v e))))
      (same_test _ _ (λ e. le-leb v 8 (omega (arith, leb-true (min v most) 8 e)))
      (λ e. le-leb (min v most) 8 (omega (arith, leb-true v 8 e))))

  -- the order of 3 and 0 the other way round
  turned : (t : Bool) → ◌≡◌ {A = ℕ} (cond t 0 3) (cond (not t) 3 0)
  turned true = refl
  turned false = refl

  -- a count of terms is below the largest number, so cutting the number of `.p` there changes nothing
  cut_told : length said < most → is_some k.told && not (tells k.told k.terms) ≡ miscounted said
  cut_told h =
      ap₂ (λ (o : Option ℕ) (n : ℕ). is_some o && not (tells o n)) knows.stood.count_told knows.counts.terms_are
      ∙ go (stands dot_p said)
    where
      few : terms said < most
      few = omega (arith, terms_most said, h)

      same_count : eqb (terms said) (cut (told dot_p said)) ≡ eqb (terms said) (told dot_p said)
      same_count =
          same_test _ _ (λ e. eq-eqb (terms said) (told dot_p said)
          (omega (arith, few, eqb-true (terms said) (cut (told dot_p said)) e)))
          (λ e. eq-eqb (terms said) (cut (told dot_p said)) (omega (arith, few, eqb-true (terms said) (told dot_p said) e)))

      go : (t : Bool) → is_some (cond t (Some (cut (told dot_p said))) None) && not
          (tells (cond t (Some (cut (told dot_p said))) None) (terms said)) ≡ t && not (eqb (terms said) (told dot_p said))
      go true = ap not same_count
      go false = refl

  pub code_known : (s : Says) → proper s ≡ true → length said < most → code_by k (seen s) ≡ line_code said s
  unfolding line_code seen of_keyword same
  code_known (keyword name v) p h =
      keyword_cases (λ name. code_by k (seen (keyword name v)) ≡ line_code said (keyword name v))
      (ap₂ (λ (t : Bool) (c : ℕ). cond t 20 c) inputs_stand
      (ap {B = ℕ} (λ (t : Bool). cond t 0 3) (cut_range (value v)) ∙ turned (leb 1 (value v) && leb (value v) 8)))
      (ap {B = ℕ} (λ (t : Bool). cond t 20 0) knows.stood.one_stands)
      (ap {B = ℕ} (λ (t : Bool). cond t 20 0) knows.stood.fr_stands)
      (ap {B = ℕ} (λ (t : Bool). cond t 20 0) count_stands)
      name p
  code_known (term w ws) p h = go (complete said) refl
    where
      n : ℕ
      n = told dot_i said

      go : (t : Bool) → complete said ≡ t
          → ◌≡◌ {A = ℕ} (cond (all_known k) (cond (fits_in k.n (term_seen w ws)) 0 20) 21)
          (cond t (cond (well_formed n w ws) 0 20) 21)
      go true e =
          let there : stands dot_i said ≡ true =
          both_left (stands dot_i said) _ (both_left (stands dot_i said && stands dot_o said) _ e) in
          let is : k.n ≡ Some n = knows.stood.inputs_told ∙ ap (λ (t : Bool). cond t (Some n) None) there in
          ap {B = ℕ} (λ (t : Bool). cond t (cond (fits_in k.n (term_seen w ws)) 0 20) 21) (complete_known ∙ e)
          ∙ ap {B = ℕ} (λ (t : Bool). cond t 0 20)
          (ap (λ (o : Option ℕ). fits_in o (term_seen w ws)) is ∙ term_known n w ws knows.stood.few)
      go false e = ap {B = ℕ} (λ (t : Bool). cond t (cond (fits_in k.n (term_seen w ws)) 0 20) 21) (complete_known ∙ e)
  code_known end p h = λ i. cond (complete_known i) (cond (cut_told h i) 22 0) 21
  code_known s p h = refl

-- ---- one line more is known

-- what was told stays, where the line is of another keyword or of none
if_told_same : (f : ℕ → ℕ) (name : List ℕ) (said : List Says) (s : Says) → is_of name s ≡ false
    → if_told f name (said ++ (s ∷ [])) ≡ if_told f name said
if_told_same f name said s e = λ i. cond (stands_same name said s e i) (Some (f (told_same name said s e i))) None

least_same : (said : List Says) (s : Says) → is_of dot_i s ≡ false → (stands dot_i said ≡ true → 1 ≤ told dot_i said)
    → stands dot_i (said ++ (s ∷ [])) ≡ true → 1 ≤ told dot_i (said ++ (s ∷ []))
least_same said s e h t = subst (λ (m : ℕ). 1 ≤ m) (sym (told_same dot_i said s e)) (h (sym (stands_same dot_i said s e) ∙ t))

few_same : (said : List Says) (s : Says) → is_of dot_i s ≡ false → told dot_i said ≤ 8 → told dot_i (said ++ (s ∷ [])) ≤ 8
few_same said s e = subst (λ (m : ℕ). m ≤ 8) (sym (told_same dot_i said s e))

-- a line that is no keyword changes nothing of the keywords, and one that is no term nothing of the terms
module _ (k k' : Known) (said : List Says) (s : Says) where
  stood_same : k'.n ≡ k.n → k'.one ≡ k.one → k'.fr ≡ k.fr → k'.told ≡ k.told → ((name : List ℕ) → is_of name s ≡ false)
      → Stood k said → Stood k' (said ++ (s ∷ []))
  stood_same n one fr told' none h =
      record {
        inputs_told = n ∙ h.inputs_told ∙ sym (if_told_same whole dot_i said s (none dot_i));
        least = least_same said s (none dot_i) h.least;
        few = few_same said s (none dot_i) h.few;
        one_stands = one ∙ h.one_stands ∙ sym (stands_same dot_o said s (none dot_o));
        fr_stands = fr ∙ h.fr_stands ∙ sym (stands_same dot_type said s (none dot_type));
        count_told = told' ∙ h.count_told ∙ sym (if_told_same cut dot_p said s (none dot_p));
      }

  counts_same : k'.terms ≡ k.terms → k'.on ≡ k.on → k'.off ≡ k.off → is_term s ≡ false → ((c : ℕ) → cube_with c s ≡ [])
      → Counts k said → Counts k' (said ++ (s ∷ []))
  counts_same terms' on off no_term none h =
      record {
        terms_are =
            terms' ∙ h.terms_are ∙ sym (terms_next said s ∙ ap (λ (t : Bool). terms said + cond t 1 0) no_term ∙ omega arith);
        on_are = ap length (same_cubes on_char) ∙ h.on_are ∙ ap (λ (m : ℕ). 2 * m) (sym on);
        off_are = ap length (same_cubes off_char) ∙ h.off_are ∙ ap (λ (m : ℕ). 2 * m) (sym off);
      }
    where
      same_cubes : (c : ℕ) → cubes_with c (said ++ (s ∷ [])) ≡ cubes_with c said
      same_cubes c = cube_next c said s ∙ ap (λ (l : List ℕ). cubes_with c said ++ l) (none c) ∙ append-nil (cubes_with c said)

-- what a line without fault has shown
pub keyword_passed : (said : List Says) (name v : List ℕ) → line_code said (keyword name v) ≡ 0
    → (stands name said ≡ false) × (same name dot_i && not (leb 1 (value v) && leb (value v) 8) ≡ false)
unfolding line_code
keyword_passed said name v e = go (stands name said) (same name dot_i && not (leb 1 (value v) && leb (value v) 8)) refl refl e
  where
    go : (t u : Bool) → stands name said ≡ t → same name dot_i && not (leb 1 (value v) && leb (value v) 8) ≡ u
        → ◌≡◌ {A = ℕ} (cond t 20 (cond u 3 0)) 0
        → (stands name said ≡ false) × (same name dot_i && not (leb 1 (value v) && leb (value v) 8) ≡ false)
    go true u a b z = absurd (omega (arith, z))
    go false true a b z = absurd (omega (arith, z))
    go false false a b z = (a, b)

pub term_passed : (said : List Says) (w : List ℕ) (ws : List (List ℕ)) → line_code said (term w ws) ≡ 0
    → well_formed (told dot_i said) w ws ≡ true
unfolding line_code
term_passed said w ws e = go (complete said) (well_formed (told dot_i said) w ws) refl e
  where
    go : (t u : Bool) → well_formed (told dot_i said) w ws ≡ u → ◌≡◌ {A = ℕ} (cond t (cond u 0 20) 21) 0
        → well_formed (told dot_i said) w ws ≡ true
    go true true b z = b
    go true false b z = absurd (omega (arith, z))
    go false u b z = absurd (omega (arith, z))

pub in_range : (v : ℕ) → not (leb 1 v && leb v 8) ≡ false → (1 ≤ v) × (v ≤ 8)
in_range v e =
    let t = not-false (leb 1 v && leb v 8) e in (leb-true 1 v (both_left (leb 1 v) _ t), leb-true v 8 (both_right (leb 1 v) _ t))

-- a cube more, if the term has that output
cubes_counted : (c count : ℕ) (said : List Says) (w : List ℕ) (ws : List (List ℕ)) → length (cubes_with c said) ≡ 2 * count
    → length (cubes_with c (said ++ (term w ws ∷ []))) ≡ 2 * more_if (output ws) c count
unfolding of_term
cubes_counted c count said w ws h =
    ap length (cube_next c said (term w ws)) ∙ length-append (cubes_with c said) _ ∙ go (eqb (output ws) c)
  where
    go : (t : Bool) → length (cubes_with c said) + length (cond t (cube_of w) []) ≡ 2 * (count + cond t 1 0)
    go true = omega (arith, h)
    go false = omega (arith, h)

module _ (k : Known) (said : List Says) (knows : Knows k said) where
  abbrev Next : Says → Type 0
  Next s = Knows (learnt k (seen s)) (said ++ (s ∷ []))

  silent : (s : Says) → ((name : List ℕ) → is_of name s ≡ false) → is_term s ≡ false → ((c : ℕ) → cube_with c s ≡ [])
      → Knows k (said ++ (s ∷ []))
  silent s none no_term no_cubes =
      record {
        stood = stood_same k k said s refl refl refl refl none knows.stood;
        counts = counts_same k k said s refl refl refl no_term no_cubes knows.counts;
      }

  -- a keyword that did not stand, with its value
  module _ (v : List ℕ) where
    stood_now : (name : List ℕ) → same name name ≡ true → stands name (said ++ (keyword name v ∷ [])) ≡ true
    unfolding of_keyword
    stood_now name own = stands_next name said (keyword name v) ∙ or_right (stands name said) own

    -- and its number is kept, if it did not stand
    told_now : (f : ℕ → ℕ) (name : List ℕ) → same name name ≡ true → stands name said ≡ false
        → if_told f name (said ++ (keyword name v ∷ [])) ≡ Some (f (value v))
    told_now f name own new =
        ap₂ (λ (t : Bool) (m : ℕ). cond t (Some (f m)) None) (stood_now name own) (told_new name v said new own)

    -- one that is not `.i`: n stays, and each other value is given with its proof
    module _ (name : List ℕ) (k' : Known) (none : same dot_i name ≡ false) (n : k'.n ≡ k.n) where
      other : k'.one ≡ stands dot_o (said ++ (keyword name v ∷ [])) → k'.fr ≡ stands dot_type (said ++ (keyword name v ∷ []))
          → k'.told ≡ if_told cut dot_p (said ++ (keyword name v ∷ [])) → k'.terms ≡ k.terms → k'.on ≡ k.on → k'.off ≡ k.off
          → Knows k' (said ++ (keyword name v ∷ []))
      unfolding of_keyword of_term
      other one fr told' terms' on off =
          let s = knows.stood in
          let this = keyword name v in
          record {
            stood = record {
              inputs_told = n ∙ s.inputs_told ∙ sym (if_told_same whole dot_i said this none);
              least = least_same said this none s.least;
              few = few_same said this none s.few;
              one_stands = one;
              fr_stands = fr;
              count_told = told';
            };
            counts = counts_same k k' said this terms' on off refl (λ c. refl) knows.counts;
          }

    one_same : (name : List ℕ) → same dot_o name ≡ false → k.one ≡ stands dot_o (said ++ (keyword name v ∷ []))
    unfolding of_keyword
    one_same name none = knows.stood.one_stands ∙ sym (stands_same dot_o said (keyword name v) none)

    fr_same : (name : List ℕ) → same dot_type name ≡ false → k.fr ≡ stands dot_type (said ++ (keyword name v ∷ []))
    unfolding of_keyword
    fr_same name none = knows.stood.fr_stands ∙ sym (stands_same dot_type said (keyword name v) none)

    count_same : (name : List ℕ) → same dot_p name ≡ false → k.told ≡ if_told cut dot_p (said ++ (keyword name v ∷ []))
    unfolding of_keyword
    count_same name none = knows.stood.count_told ∙ sym (if_told_same cut dot_p said (keyword name v) none)

    next_i : line_code said (keyword dot_i v) ≡ 0 → Next (keyword dot_i v)
    unfolding seen of_keyword of_term same
    next_i e =
        let passed = keyword_passed said dot_i v e in
        let range = in_range (value v) passed.1 in
        let this = keyword dot_i v in
        let new = told_new dot_i v said passed.0 refl in
        let is : cut (value v) % 256 ≡ value v = omega (arith, range.1) in
        record {
          stood = record {
            inputs_told = ap Some is ∙ sym (told_now whole dot_i refl passed.0);
            least = λ _. omega (arith, new, range.0);
            few = omega (arith, new, range.1);
            one_stands = one_same dot_i refl;
            fr_stands = fr_same dot_i refl;
            count_told = count_same dot_i refl;
          };
          counts = counts_same k _ said this refl refl refl refl (λ c. refl) knows.counts;
        }

    next_o : Next (keyword dot_o v)
    unfolding seen same
    next_o = other dot_o _ refl refl (sym (stood_now dot_o refl)) (fr_same dot_o refl) (count_same dot_o refl) refl refl refl

    next_type : Next (keyword dot_type v)
    unfolding seen same
    next_type =
        other dot_type _ refl refl (one_same dot_type refl) (sym (stood_now dot_type refl)) (count_same dot_type refl) refl refl
        refl

    next_p : line_code said (keyword dot_p v) ≡ 0 → Next (keyword dot_p v)
    unfolding seen same
    next_p e =
        other dot_p _ refl refl (one_same dot_p refl) (fr_same dot_p refl)
        (sym (told_now cut dot_p refl (keyword_passed said dot_p v e).0)) refl refl refl

  next_term : (w : List ℕ) (ws : List (List ℕ)) → line_code said (term w ws) ≡ 0 → Next (term w ws)
  unfolding seen of_keyword of_term
  next_term w ws e =
      let is = term_kept (told dot_i said) w ws knows.stood.few (term_passed said w ws e) in
      subst (λ (t : Option TermRead). Knows (learnt k (Term t)) (said ++ (term w ws ∷ []))) (sym is)
      (record {
        stood = stood_same k _ said (term w ws) refl refl refl refl (λ name. refl) knows.stood;
        counts = record {
          terms_are = omega (arith, knows.counts.terms_are, terms_next said (term w ws));
          on_are = cubes_counted on_char k.on said w ws knows.counts.on_are;
          off_are = cubes_counted off_char k.off said w ws knows.counts.off_are;
        };
      })

  pub learnt_known : (s : Says) → proper s ≡ true → line_code said s ≡ 0 → Next s
  unfolding seen of_keyword of_term
  learnt_known (keyword name v) p e =
      keyword_cases (λ name. line_code said (keyword name v) ≡ 0 → Next (keyword name v)) (next_i v) (λ _. next_o v)
      (λ _. next_type v) (next_p v) name p e
  learnt_known (term w ws) p e = next_term w ws e
  learnt_known s p e = silent s (λ name. refl) refl (λ c. refl)
