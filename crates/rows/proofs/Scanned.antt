-- The walk over the lines of a text: what remains decides, and what was kept is what the lines before said.
use Prim.Native.Nat.{ℕ, suc, ◌+◌, ◌*◌, ◌-◌, ◌^◌, ◌≤◌, ◌<◌}
use mathlib.Core.Path.{◌≡◌, refl, sym, ap, ap₂, ◌∙◌, subst, subst₂}
use mathlib.Core.Bool.{Bool, true, false, cond, ◌&&◌, false≢true}
use mathlib.Core.List.{List, [], ◌∷◌, ◌++◌, map, append-nil}
use native.Mathlib.Omega.{arith}
use borrow.Author.Tests.{eq-eqb, ne_eqb, ltb-true, ltb-false}
use lib.Dec.{ltb, eqb}
use lib.ListN.{length, take, drop, length-append, length-drop, length-take, drop_of_length-le}
use lib.Seq.{sets, sets-eq, length-sets, drop-drop, take_at, append_snoc}
use Rattle.answers.specs.declared.Fault.{Fault}
use Rattle.answers.specs.Answers.{fault, sound}
use Rattle.bits.proofs.Tests.{both_left}
use Rattle.rules.specs.Lists.{some_in, count_in, passed_over}
use Rattle.words.specs.Words.{before, lines, words, pieces, is_lf, ends_bare}
use Rattle.words.proofs.Pieces.{passed_over_within, over_from, pieces_step, bare_line, line_beyond}
use Rattle.std.specs.Option.{unwrap_or}
use Rattle.std.specs.declared.option.Option.{Option}
use Rattle.std.specs.declared.option.Option.TheVariants.{None, Some}
use Rattle.std.proofs.Common.{Ok, Err}
use Rattle.answers.specs.declared.Code.{Code}
use Rattle.answers.specs.declared.Code.TheVariants.{Keyword}
use Rattle.answers.specs.Verdicts.{number, verdict}
use Rattle.answers.proofs.Verdicts.{numbered, verdict_at, verdict_sound}
use Rattle.terms.specs.declared.Term.{Term as TermRead}
use Rattle.terms.specs.declared.Line.TheVariants.{Term, End}
use Rattle.terms.proofs.InLine.{over_in_text}
use Rattle.terms.specs.declared.Line.{Line}
use Rattle.terms.specs.Terms.{Says, keyword, term, end, says, says_by, output, inputs_with, dot_i, dot_o, on_char, off_char}
use Rattle.terms.specs.Seen.{term_of, seen}
use Rattle.rows.specs.declared.Known.{Known}
use Rattle.rows.specs.Rows.{of_term, is_end, stands, complete, miscounted, told, line_code, first_faulty, table_fault, up_to_end, said_in, cube_with, cubes_with}
use Rattle.rows.specs.Known.{nothing_known, code_by, more_if, learnt, kept, kept_by, n_at_end, Gathered}
use Rattle.rows.proofs.Knows.{Knows, says_proper, term_passed, term_kept, by_keyword, cube_next, code_known, learnt_known, terms_most, cubes_most}

-- ---- the cubes of one list, in their buffer

pub record Kept (c : ℕ) (said : List Says) (count : ℕ) (l : List ℕ) : Type 0 where
  pub room : length l ≡ 128
  pub stored : count ≤ 64 → take (2 * count) l ≡ cubes_with c said

-- what a line does to the count of a list; and whether it is the end
abbrev pub counted_by : ℕ → Line → ℕ → ℕ
counted_by c (Term (Some t)) count = more_if t.out c count
counted_by c line count = count

abbrev pub ends_with : Line → Bool
ends_with End = true
ends_with line = false

-- n is known there, unless the end is at fault
ends_known : (k : Known) (line : Line) (n : ℕ) → n_at_end k line ≡ Some n → (ends_with line ≡ true) × (k.n ≡ Some n)
ends_known k End n e = (refl, e)
ends_known k line n e = cc

no_end : (k : Known) (line : Line) → n_at_end k line ≡ None → 0 ≡ code_by k line → ends_with line ≡ false
no_end k End e good =
    let z : ◌≡◌ {A = ℕ} 0 21 =
    good ∙ ap {B = ℕ} (λ (o : Option ℕ). code_by (record k { n = o }) End) e in absurd (omega (arith, z))
no_end k line e good = refl

-- the code sees `.e` where the line says it
pub ends_seen : (s : Says) → ends_with (seen s) ≡ is_end s
unfolding seen is_end
ends_seen (keyword name v) = by_keyword (λ l. ends_with l ≡ false) name v refl refl refl refl
ends_seen s = refl

-- what stood before, and what is stored behind it
take_behind : (l more : List ℕ) (k : ℕ) → k + length more ≤ length l → take (k + length more) (sets l k more) ≡ take k l ++ more
take_behind l more k h =
    ap (take (k + length more)) (sets-eq more l k h)
    ∙ take_at (take k l ++ more) (drop (k + length more) l) (k + length more)
    (length-append (take k l) more ∙ omega (arith, length-take k l))

module _ (c : ℕ) (said : List Says) (count : ℕ) (l : List ℕ) (k : Kept c said count l) where
  -- a line that is no term leaves the list
  kept_same : (s : Says) → cube_with c s ≡ [] → Kept c (said ++ (s ∷ [])) count l
  kept_same s none =
      record {
        room = k.room;
        stored = λ few. k.stored few
            ∙ sym (cube_next c said s ∙ ap (λ (m : List ℕ). cubes_with c said ++ m) none ∙ append-nil (cubes_with c said));
      }

  kept_term : (w : List ℕ) (ws : List (List ℕ))
      → Kept c (said ++ (term w ws ∷ [])) (more_if (output ws) c count) (kept c (term_of w (output ws)) count l)
  unfolding of_term
  kept_term w ws = go (eqb (output ws) c) refl
    where
      P : ℕ
      P = inputs_with on_char w

      N : ℕ
      N = inputs_with off_char w

      next : (t : Bool) → eqb (output ws) c ≡ t
          → cubes_with c (said ++ (term w ws ∷ [])) ≡ cubes_with c said ++ cond t (P ∷ N ∷ []) []
      next t q = cube_next c said (term w ws) ∙ ap (λ (t : Bool). cubes_with c said ++ cond t (P ∷ N ∷ []) []) q

      two : 2 * (count + 1) ≡ 2 * count + 2
      two = omega arith

      none : count + 0 ≡ count
      none = omega arith

      room_for : eqb (output ws) c ≡ true → (u : Bool) → ltb count 64 ≡ u
          → Kept c (said ++ (term w ws ∷ [])) (count + 1) (cond u (sets l (2 * count) (P ∷ N ∷ [])) l)
      room_for q true f =
          let below = ltb-true count 64 f in
          record {
            room = length-sets l (2 * count) (P ∷ N ∷ []) ∙ k.room;
            stored = λ few.
                ap (λ (m : ℕ). take m (sets l (2 * count) (P ∷ N ∷ []))) two
                ∙ take_behind l (P ∷ N ∷ []) (2 * count) (omega (arith, k.room, below))
                ∙ ap (λ (m : List ℕ). m ++ (P ∷ N ∷ [])) (k.stored (omega (arith, below))) ∙ sym (next true q);
          }
      room_for q false f = record { room = k.room; stored = λ few. absurd (omega (arith, ltb-false count 64 f, few)) }

      go : (t : Bool) → eqb (output ws) c ≡ t
          → Kept c (said ++ (term w ws ∷ [])) (count + cond t 1 0) (cond (t && ltb count 64) (sets l (2 * count) (P ∷ N ∷ [])) l)
      go true q = room_for q (ltb count 64) refl
      go false q =
          record {
            room = k.room;
            stored =
                λ few. ap (λ (m : ℕ). take (2 * m) l) none ∙ k.stored (omega (arith, few))
                ∙ sym (next false q ∙ append-nil (cubes_with c said));
          }

  abbrev pub Next : Says → Line → Type 0
  Next s line = Kept c (said ++ (s ∷ [])) (counted_by c line count) (kept_by c line count l)

  -- the next line, if it has no fault
  pub kept_next : (s : Says) → told dot_i said ≤ 8 → line_code said s ≡ 0 → Next s (seen s)
  unfolding of_term seen
  kept_next (keyword name v) few e =
      let same = kept_same (keyword name v) refl in
      by_keyword (Next (keyword name v)) name v same same same same
  kept_next (term w ws) few e =
      subst (λ (t : Option TermRead). Next (term w ws) (Term t))
      (sym (term_kept (told dot_i said) w ws few (term_passed said w ws e))) (kept_term w ws)
  kept_next s few e = kept_same s refl

-- the counts go with it
pub counts_learnt : (k : Known) (line : Line)
    → ((learnt k line).on ≡ counted_by on_char line k.on) × ((learnt k line).off ≡ counted_by off_char line k.off)
counts_learnt k (Term (Some t)) = (refl, refl)
counts_learnt k line = (refl, refl)

-- ---- a line of the text

-- `to` is a place in it, from which on its end was looked for
module _ (text : List ℕ) (at : ℕ) (h : at < length text) (to last : ℕ) (low : at ≤ to)
    (high : to ≤ at + passed_over ends_bare (drop at text))
    (ends : last ≡ to + passed_over is_lf (drop to text)) where
  line_ends : last ≡ at + passed_over is_lf (drop at text)
  line_ends =
      let back : at + (to - at) ≡ to = omega (arith, low) in
      let far = over_from is_lf (to - at) (drop at text) (omega (arith, high, line_beyond (drop at text))) in
      omega (arith, low, ends, far, ap (passed_over is_lf) (drop-drop (to - at) at text ∙ ap (λ (k : ℕ). drop k text) back))

  pub last_within : (at ≤ last) × (last ≤ length text)
  last_within = (omega (arith, line_ends), omega (arith, line_ends, passed_over_within is_lf (drop at text), length-drop at text))

  pub line_here : map says (lines (drop at text))
      ≡ says_by (words (before ends_bare (drop at text))) ∷ map says (lines (drop (last + 1) text))
  line_here =
      let s = drop at text in
      let k = passed_over is_lf s in
      let far : at + suc k ≡ last + 1 = omega (arith, line_ends) in
      ap (map says) (pieces_step is_lf s (omega (arith, h, length-drop at text)))
      ∙ ap₂ (λ (l : List ℕ) (rest : List ℕ). says_by (words l) ∷ map says (lines rest)) (bare_line s)
      (drop-drop (suc k) at text ∙ ap (λ (m : ℕ). drop m text) far)

-- ---- the walk

-- the lines before `at` are read and have no fault, none of them is the end, and what remains decides
pub record Walked (text : List ℕ) (at row : ℕ) (k : Known) (on off : List ℕ) : Type 0 where
  pub said : List Says
  pub rows : row ≡ length said + 1
  pub fewer : length said ≤ at
  pub few : (k.terms ≤ at) × (k.on ≤ at) × (k.off ≤ at)
  pub faults : table_fault text ≡ first_faulty said (map says (lines (drop at text)))
  pub front : said_in text ≡ said ++ up_to_end (map says (lines (drop at text)))
  pub knows : Knows k said
  pub on_kept : Kept on_char said k.on on
  pub off_kept : Kept off_char said k.off off

-- no more terms are counted than there are lines, and no more cubes
counts_few : (k : Known) (said : List Says) → Knows k said → (at : ℕ) → length said ≤ at
    → (k.terms ≤ at) × (k.on ≤ at) × (k.off ≤ at)
counts_few k said knows at h =
    let counts = knows.counts in (
      omega (arith, counts.terms_are, terms_most said, h),
      omega (arith, counts.on_are, cubes_most on_char said, h),
      omega (arith, counts.off_are, cubes_most off_char said, h),
    )

none_said : Knows nothing_known []
unfolding told some_in count_in cubes_with
none_said =
    record {
      stood =
          record {
            inputs_told = refl;
            least = λ e. absurd (false≢true e);
            few = omega arith;
            one_stands = refl;
            fr_stands = refl;
            count_told = refl;
          };
      counts = record { terms_are = refl; on_are = refl; off_are = refl };
    }

none_kept : (c : ℕ) (l : List ℕ) → length l ≡ 128 → Kept c [] 0 l
unfolding cubes_with
none_kept c l room = record { room = room; stored = λ few. refl }

pub walk_starts : (text on off : List ℕ) → length on ≡ 128 → length off ≡ 128 → Walked text 0 1 nothing_known on off
unfolding table_fault
walk_starts text on off a b =
    record {
      said = [];
      rows = refl;
      fewer = omega arith;
      few = (omega arith, omega arith, omega arith);
      faults = refl;
      front = refl;
      knows = none_said;
      on_kept = none_kept on_char on a;
      off_kept = none_kept off_char off b;
    }

module _ (text : List ℕ) (at row : ℕ) (k : Known) (on off : List ℕ) (w : Walked text at row k on off) where
  -- a stop at a fault
  pub stopped : (code : Code) (f : Fault) → f ≡ fault (number code) row → table_fault text ≡ fault (number code) row
      → Gathered text on off (Err f)
  stopped code f is e =
      record {
        found = ap Err is
            ∙ sym (ap verdict e ∙ verdict_at code row 0);
        on_room = w.on_kept.room;
        off_room = w.off_kept.room;
        kept_both = tt;
      }

  -- after the last line
  pub scanned_last : length text ≤ at → table_fault text ≡ fault 21 row
  unfolding pieces first_faulty
  scanned_last h =
      w.faults ∙ ap (λ (l : List ℕ). first_faulty w.said (map says (lines l))) (drop_of_length-le text h)
      ∙ ap (fault 21) (sym w.rows)

  pub walk_ends : length text ≤ at → (f : Fault) → f ≡ fault 21 row → Gathered text on off (Err f)
  walk_ends h f is = stopped Keyword f is (scanned_last h)

  module _ (s : Says) (rest : List Says) (here : map says (lines (drop at text)) ≡ s ∷ rest) where
    pub faulty : (line_code w.said s ≡ 0 → ⊥) → table_fault text ≡ fault (line_code w.said s) row
    unfolding first_faulty
    faulty bad =
        w.faults ∙ ap (first_faulty w.said) here
        ∙ simp (ne_eqb (line_code w.said s) 0 bad) (ap (fault (line_code w.said s)) (sym w.rows))

    module _ (good : line_code w.said s ≡ 0) where
      pub ended : is_end s ≡ true → (table_fault text ≡ sound) × (said_in text ≡ w.said)
      unfolding first_faulty up_to_end
      ended e = (
        w.faults ∙ ap (first_faulty w.said) here ∙ simp (eq-eqb (line_code w.said s) 0 good, e),
        w.front ∙ ap (λ (l : List Says). w.said ++ up_to_end l) here ∙ simp e (append-nil w.said),
      )

      pub goes_on : is_end s ≡ false
          → (table_fault text ≡ first_faulty (w.said ++ (s ∷ [])) rest) × (said_in text ≡ (w.said ++ (s ∷ [])) ++ up_to_end rest)
      unfolding first_faulty up_to_end
      goes_on e = (
        w.faults ∙ ap (first_faulty w.said) here ∙ simp (eq-eqb (line_code w.said s) 0 good, e),
        w.front ∙ ap (λ (l : List Says). w.said ++ up_to_end l) here ∙ simp e (sym (append_snoc w.said s (up_to_end rest))),
      )

-- at an end without fault the three keywords stand
pub end_complete : (said : List Says) (s : Says) → is_end s ≡ true → line_code said s ≡ 0 → complete said ≡ true
unfolding is_end line_code
end_complete said end e z = go (complete said) (miscounted said) refl z
  where
    go : (t u : Bool) → complete said ≡ t → ◌≡◌ {A = ℕ} (cond t (cond u 22 0) 21) 0 → complete said ≡ true
    go true u q z = q
    go false u q z = absurd (omega (arith, z))
end_complete said s e z = absurd (false≢true e)

-- a turn of the walk, with what the calls gave
module _ (text : List ℕ) (at row : ℕ) (k : Known) (on off : List ℕ) (w : Walked text at row k on off) (h : at < length text)
    (small : length text < 2 ^ 63) (to : ℕ)
    (low : at ≤ to) (high : to ≤ at + passed_over ends_bare (drop at text)) where
  -- what the line says
  abbrev this : Says
  this = says_by (words (before ends_bare (drop at text)))

  abbrev after : ℕ
  after = to + passed_over is_lf (drop to text)

  abbrev rest : List Says
  rest = map says (lines (drop (after + 1) text))

  here : map says (lines (drop at text)) ≡ this ∷ rest
  here = line_here text at h to after low high refl

  module _ (line : Line) (is : line ≡ seen this) where
    judged : code_by k line ≡ line_code w.said this
    judged =
        ap (code_by k) is
        ∙ code_known k w.said w.knows this (says_proper (words (before ends_bare (drop at text))))
        (omega (arith, w.fewer, h, small))

    pub turn_fault : (code : Code) → number code ≡ code_by k line → (f : Fault) → f ≡ fault (number code) row
        → Gathered text on off (Err f)
    turn_fault code e f told =
        let is_code = e ∙ judged in
        stopped text at row k on off w code f told
        (faulty text at row k on off w this rest here (λ z. numbered code (is_code ∙ z))
        ∙ ap (λ (c : ℕ). fault c row) (sym is_code))

    module _ (good : 0 ≡ code_by k line) where
      sound_line : line_code w.said this ≡ 0
      sound_line = sym (good ∙ judged)

      pub turn_end : (n : ℕ) → n_at_end k line ≡ Some n → Gathered text on off (Ok (record { n = n; on = k.on; off = k.off }))
      turn_end n e =
          let end = ends_known k line n e in
          let ends = sym (ends_seen this) ∙ ap ends_with (sym is) ∙ end.0 in
          let whole = ended text at row k on off w this rest here sound_line ends in
          let all = whole.1 in
          let stood = w.knows.stood in
          let there : stands dot_i w.said ≡ true =
          both_left (stands dot_i w.said) _
          (both_left (stands dot_i w.said && stands dot_o w.said) _ (end_complete w.said this ends sound_line)) in
          let n_is : n ≡ told dot_i w.said =
          ap (λ (o : Option ℕ). unwrap_or o 0)
          (sym end.1 ∙ stood.inputs_told ∙ ap (λ (t : Bool). cond t (Some (told dot_i w.said)) None) there) in
          record {
            found = sym (verdict_sound (table_fault text) (ap (λ (f : Fault). f.code) whole.0));
            on_room = w.on_kept.room;
            off_room = w.off_kept.room;
            kept_both = record {
              least = omega (arith, n_is, stood.least there);
              most = omega (arith, n_is, stood.few);
              inputs_are = n_is ∙ ap (told dot_i) (sym all);
              on_count = ap (λ (l : List Says). length (cubes_with on_char l)) all ∙ w.knows.counts.on_are;
              off_count = ap (λ (l : List Says). length (cubes_with off_char l)) all ∙ w.knows.counts.off_are;
              on_stored = λ few. w.on_kept.stored few ∙ ap (cubes_with on_char) (sym all);
              off_stored = λ few. w.off_kept.stored few ∙ ap (cubes_with off_char) (sym all);
            };
          }

      next : n_at_end k line ≡ None
          → Walked text (after + 1) (row + 1) (learnt k line) (kept_by on_char line k.on on) (kept_by off_char line k.off off)
      next e =
          let further =
          goes_on text at row k on off w this rest here sound_line
          (sym (ends_seen this) ∙ ap ends_with (sym is) ∙ no_end k line e good) in
          let few = w.knows.stood.few in
          let counts = counts_learnt k line in
          let longer : length (w.said ++ (this ∷ [])) ≤ after + 1 =
          omega (arith, w.fewer, (last_within text at h to after low high refl).0, length-append w.said (this ∷ [])) in
          let knows : Knows (learnt k line) (w.said ++ (this ∷ [])) =
          subst (λ (l : Line). Knows (learnt k l) (w.said ++ (this ∷ []))) (sym is)
          (learnt_known k w.said w.knows this (says_proper (words (before ends_bare (drop at text)))) sound_line) in
          record {
            said = w.said ++ (this ∷ []);
            rows = omega (arith, w.rows, length-append w.said (this ∷ []));
            fewer = longer;
            few = counts_few (learnt k line) (w.said ++ (this ∷ [])) knows (after + 1) longer;
            faults = further.0;
            front = further.1;
            knows = knows;
            on_kept =
                subst₂ (λ (count : ℕ) (l : Line). Kept on_char (w.said ++ (this ∷ [])) count (kept_by on_char l k.on on))
                (ap (λ (l : Line). counted_by on_char l k.on) (sym is) ∙ sym counts.0) (sym is)
                (kept_next on_char w.said k.on on w.on_kept this few sound_line);
            off_kept =
                subst₂ (λ (count : ℕ) (l : Line). Kept off_char (w.said ++ (this ∷ [])) count (kept_by off_char l k.off off))
                (ap (λ (l : Line). counted_by off_char l k.off) (sym is) ∙ sym counts.1) (sym is)
                (kept_next off_char w.said k.off off w.off_kept this few sound_line);
          }

      -- as the calls leave it
      pub turn_next : n_at_end k line ≡ None → (last : ℕ) → last ≡ after → (k' : Known) → k' ≡ learnt k line
          → (on' off' : List ℕ) → on' ≡ kept_by on_char line k.on on → off' ≡ kept_by off_char line k.off off
          → Walked text (last + 1) (row + 1) k' on' off'
      turn_next e last is_last k' is_known on' off' is_on is_off =
          subst (λ (A : Type 0). A)
          (λ i. Walked text (sym is_last i + 1) (row + 1) (sym is_known i) (sym is_on i) (sym is_off i)) (next e)

-- what the walk does on its way
pub ruleset walking = (walk_starts, over_in_text, last_within, turn_next)
