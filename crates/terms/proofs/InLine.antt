-- The words of a line, one after another, as they are found; of those after the first it matters only whether there is just one,
-- and which. They are looked for in the text itself: a scan that stops at LF and # finds there what it would find in the line
-- alone, its comment apart.
use Prim.Native.Nat.{ℕ, zero, suc, ◌+◌, ◌-◌, ◌≤◌, ◌<◌}
use mathlib.Core.Path.{◌≡◌, refl, sym, ap, ap₂, ◌∙◌, subst}
use mathlib.Core.Bool.{Bool, true, false, cond, not, ◌&&◌, ◌||◌, and-false}
use mathlib.Core.List.{List, [], ◌∷◌}
use mathlib.Core.Logic.{⊎_elim}
use native.Mathlib.Omega.{arith}
use borrow.Author.Tests.{not-true, eq-eqb, ne_eqb, eqb-true, eqb-false, lt-ltb, le-ltb, lt-leb, le-leb}
use lib.Dec.{ltb, leb, eqb}
use lib.ListN.{length, get_or, take, drop, length-take, length-drop, drop_of_length-le}
use lib.Seq.{drop-drop, get_or-drop, get_or-take, take-take, take-nil}
use Rattle.bits.proofs.Tests.{either, below_or_not}
use Rattle.rules.specs.Lists.{passed_over}
use Rattle.words.specs.Words.{before, words, is_blank, is_lf, is_hash, ends_bare, ends_word}
use Rattle.words.proofs.Scans.{from_here}
use Rattle.words.proofs.Pieces.{passed_over_within, place_passes, some_before, over_from, before_from, over_before, over_implied, words_from, words_none, words_step}
use Rattle.terms.specs.declared.Line.TheVariants.{Nothing, Term}
use Rattle.terms.specs.Terms.{term, dot, alone, second, keyword_line, says_by, well_formed}
use Rattle.terms.specs.Seen.{seen, term_seen, after}

some_more : (k : ℕ) → eqb (suc k) 0 ≡ false
some_more k = ne_eqb (suc k) 0 (λ z. omega (arith, z))

just_one : (k : ℕ) → eqb (suc k) 1 ≡ eqb k 0
just_one zero = refl
just_one (suc k) = ne_eqb (suc (suc k)) 1 (λ z. omega (arith, z)) ∙ sym (some_more k)

pub over_in_text : (p : ℕ → Bool) (at : ℕ) (s : List ℕ) → at ≤ length s → at + passed_over p (drop at s) ≤ length s
over_in_text p at s h = omega (arith, h, passed_over_within p (drop at s), length-drop at s)

module _ (s : List ℕ) where
  -- the part of the line from q to e
  abbrev pub part : ℕ → ℕ → List ℕ
  part q e = take (e - q) (drop q s)

  -- from place p on, the next word starts at q and ends at e
  pub record Word (p q e : ℕ) : Type 0 where
    pub in_line : p ≤ length s
    pub starts : q ≡ p + passed_over (λ c. not (is_blank c)) (drop p s)
    pub ends : e ≡ q + passed_over is_blank (drop q s)

  module _ (p q e : ℕ) (w : Word p q e) where
    pub start_within : q ≤ length s
    start_within = omega (arith, w.starts, w.in_line, passed_over_within (λ c. not (is_blank c)) (drop p s), length-drop p s)

    pub end_within : e ≤ length s
    end_within = omega (arith, w.ends, start_within, passed_over_within is_blank (drop q s), length-drop q s)

    from_start : words (drop p s) ≡ words (drop q s)
    from_start = words_from (drop p s) ∙ ap words (drop-drop _ p s ∙ ap (λ (k : ℕ). drop k s) (sym w.starts))

    pub word_none : length s ≤ q → words (drop p s) ≡ []
    word_none h = from_start ∙ ap words (drop_of_length-le s h) ∙ words_none

    no_blank : q < length s → is_blank (get_or (drop q s) 0 0) ≡ false
    no_blank h =
        let k = passed_over (λ c. not (is_blank c)) (drop p s) in
        let at : get_or (drop p s) k 0 ≡ get_or (drop q s) 0 0 =
        get_or-drop p s k 0 ∙ ap (λ (i : ℕ). get_or s i 0) (omega (arith, w.starts)) ∙ sym (get_or-drop q s 0 0) in
        ap is_blank (sym at) ∙ not-true (is_blank (get_or (drop p s) k 0))
        (place_passes (λ c. not (is_blank c)) (drop p s) (omega (arith, w.starts, h, length-drop p s)))

    pub word_there : q < length s → (q < e) × (words (drop p s) ≡ part q e ∷ words (drop e s))
    word_there h =
        let k = passed_over is_blank (drop q s) in
        let some : 0 < length (drop q s) = omega (arith, h, length-drop q s) in
        let long : k ≡ e - q = omega (arith, w.ends) in (
          omega (arith, w.ends, some_before is_blank (drop q s) some (no_blank h)),
          from_start ∙ words_step (drop q s) some (no_blank h)
              ∙ ap₂ (λ (k : ℕ) (l : List ℕ). take k (drop q s) ∷ words l) long
              (drop-drop k q s ∙ ap (λ (i : ℕ). drop i s) (sym w.ends)),
        )

    -- whether this word is there, and no other after it
    pub alone_here : alone (words (drop p s)) ≡ ltb q e && eqb (length (words (drop e s))) 0
    alone_here = ⊎_elim there gone (below_or_not q (length s))
      where
        there : q < length s → alone (words (drop p s)) ≡ ltb q e && eqb (length (words (drop e s))) 0
        there h = let t = word_there h in ap alone t.1 ∙ just_one (length (words (drop e s))) ∙ simp (lt-ltb q e t.0)

        gone : length s ≤ q → alone (words (drop p s)) ≡ ltb q e && eqb (length (words (drop e s))) 0
        gone h = ap alone (word_none h) ∙ simp (le-ltb q e (omega (arith, h, end_within)))

    pub second_here : second (words (drop p s)) ≡ part q e
    second_here = ⊎_elim there gone (below_or_not q (length s))
      where
        there : q < length s → second (words (drop p s)) ≡ part q e
        there h = ap second (word_there h).1

        gone : length s ≤ q → second (words (drop p s)) ≡ part q e
        gone h = ap second (word_none h) ∙ sym (ap (take (e - q)) (drop_of_length-le s h) ∙ take-nil (e - q))

  -- there is no word from a place on exactly if the next would start at the line's end
  pub none_after : (p q : ℕ) → p ≤ length s → q ≡ p + passed_over (λ c. not (is_blank c)) (drop p s)
      → eqb q (length s) ≡ eqb (length (words (drop p s))) 0
  none_after p q h starts = ⊎_elim there gone (below_or_not q (length s))
    where
      w : Word p q (q + passed_over is_blank (drop q s))
      w = record { in_line = h; starts = starts; ends = refl }

      there : q < length s → eqb q (length s) ≡ eqb (length (words (drop p s))) 0
      there l =
          ne_eqb q (length s) (λ z. omega (arith, l, z))
          ∙ sym (ap (λ (ws : List (List ℕ)). eqb (length ws) 0) (word_there p q _ w l).1
          ∙ some_more (length (words (drop (q + passed_over is_blank (drop q s)) s))))

      gone : length s ≤ q → eqb q (length s) ≡ eqb (length (words (drop p s))) 0
      gone l =
          eq-eqb q (length s) (omega (arith, l, start_within p q _ w))
          ∙ sym (ap (λ (ws : List (List ℕ)). eqb (length ws) 0) (word_none p q _ w l))

-- ---- the line that begins at a place of a text, its comment apart: what the scans of the text find is what they would find in
-- the line alone

-- LF and # are no blanks
bare_no_blank : (c : ℕ) → ends_bare c ≡ true → not (is_blank c) ≡ true
bare_no_blank c e =
    ⊎_elim (λ (z : is_lf c ≡ true). is c 10 (eqb-true c 10 z) refl) (λ (z : is_hash c ≡ true). is c 35 (eqb-true c 35 z) refl)
    (either (is_lf c) (is_hash c) e)
  where
    is : (c k : ℕ) → c ≡ k → not (is_blank k) ≡ true → not (is_blank c) ≡ true
    is c k z f = ap (λ (m : ℕ). not (is_blank m)) z ∙ f

-- nothing passes ends_bare at the text's end, at LF and at #, and at every other character something does
pub ended_told : (s : List ℕ) (i : ℕ) → eqb (passed_over ends_bare (drop i s)) 0 ≡ leb (length s) i || ends_bare (get_or s i 0)
unfolding passed_over
ended_told s i = ⊎_elim there gone (below_or_not i (length s))
  where
    go : (b : Bool) → eqb (cond b 0 (suc (passed_over ends_bare (drop (i + 1) s)))) 0 ≡ b
    go true = refl
    go false = some_more _

    there : i < length s → eqb (passed_over ends_bare (drop i s)) 0 ≡ leb (length s) i || ends_bare (get_or s i 0)
    there h =
        simp (lt-leb (length s) i h)
        (ap (λ (l : List ℕ). eqb (passed_over ends_bare l) 0) (from_here s i h) ∙ go (ends_bare (get_or s i 0)))

    gone : length s ≤ i → eqb (passed_over ends_bare (drop i s)) 0 ≡ leb (length s) i || ends_bare (get_or s i 0)
    gone h = simp (le-leb (length s) i h) (ap (λ (l : List ℕ). eqb (passed_over ends_bare l) 0) (drop_of_length-le s h))

module _ (text : List ℕ) (at : ℕ) where
  abbrev pub bare_here : List ℕ
  bare_here = before ends_bare (drop at text)

  pub bare_long : length bare_here ≡ passed_over ends_bare (drop at text)
  bare_long =
      omega (
        arith,
        length-take (passed_over ends_bare (drop at text)) (drop at text),
        passed_over_within ends_bare (drop at text),
      )

  pub bare_in_text : at ≤ length text → at + length bare_here ≤ length text
  bare_in_text h = omega (arith, h, bare_long, passed_over_within ends_bare (drop at text), length-drop at text)

  -- a place of the text that lies in the line
  pub record Here (x : ℕ) : Type 0 where
    pub low : at ≤ x
    pub high : x ≤ at + length bare_here

  module _ (x : ℕ) (h : Here x) where
    there : drop (x - at) (drop at text) ≡ drop x text
    there =
        let back : at + (x - at) ≡ x = omega (arith, h.low) in
        drop-drop (x - at) at text ∙ ap (λ (k : ℕ). drop k text) back

    -- the line from there on
    pub bare_rest : drop (x - at) bare_here ≡ before ends_bare (drop x text)
    bare_rest = before_from ends_bare (x - at) (drop at text) (omega (arith, h.high, bare_long)) ∙ ap (before ends_bare) there

    -- how far its end is
    pub bare_left : passed_over ends_bare (drop x text) ≡ at + length bare_here - x
    bare_left =
        let far = over_from ends_bare (x - at) (drop at text) (omega (arith, h.high, bare_long)) in
        omega (arith, far, ap (passed_over ends_bare) there, bare_long, h.low, h.high)

    pub start_here : (y : ℕ) → y ≡ x + passed_over (λ c. not (is_blank c)) (drop x text)
        → y - at ≡ x - at + passed_over (λ c. not (is_blank c)) (drop (x - at) bare_here)
    start_here y e =
        let same =
        ap (passed_over (λ c. not (is_blank c))) bare_rest
        ∙ over_implied (λ c. not (is_blank c)) ends_bare bare_no_blank (drop x text) in
        omega (arith, e, same, h.low)

    pub end_here : (y : ℕ) → y ≡ x + passed_over ends_word (drop x text)
        → y - at ≡ x - at + passed_over is_blank (drop (x - at) bare_here)
    end_here y e =
        let same : passed_over is_blank (drop (x - at) bare_here) ≡ passed_over ends_word (drop x text) =
        ap (passed_over is_blank) bare_rest ∙ over_before is_blank ends_bare (drop x text) in
        omega (arith, e, same, h.low)

    -- a part of the text that lies in the line is that part of the line
    pub part_here : (y : ℕ) → Here y → take (y - x) (drop x text) ≡ part bare_here (x - at) (y - at)
    part_here y g =
        let long : y - x ≡ y - at - (x - at) = omega (arith, h.low, g.low) in
        sym (take-take (y - x) (passed_over ends_bare (drop x text)) (drop x text) (omega (arith, bare_left, g.high)))
        ∙ ap₂ take long (sym bare_rest)

    -- and so is a character
    pub char_here : x < at + length bare_here → get_or text x 0 ≡ get_or bare_here (x - at) 0
    char_here l =
        let back : x ≡ at + (x - at) = omega (arith, h.low) in
        ap (λ (k : ℕ). get_or text k 0) back ∙ sym (get_or-drop at text (x - at) 0)
        ∙ sym (get_or-take (passed_over ends_bare (drop at text)) (drop at text) (x - at) 0 (omega (arith, l, h.low, bare_long)))

    -- where a word starts or ends lies in the line too
    pub start_lies : (y : ℕ) → y ≡ x + passed_over (λ c. not (is_blank c)) (drop x text) → Here y
    start_lies y e =
        let most = passed_over_within (λ c. not (is_blank c)) (drop (x - at) bare_here) in
        record {
          low = omega (arith, e, h.low);
          high = omega (arith, e, start_here y e, most, length-drop (x - at) bare_here, h.low, h.high);
        }

    pub end_lies : (y : ℕ) → y ≡ x + passed_over ends_word (drop x text) → Here y
    end_lies y e =
        let most = passed_over_within is_blank (drop (x - at) bare_here) in
        record {
          low = omega (arith, e, h.low);
          high = omega (arith, e, end_here y e, most, length-drop (x - at) bare_here, h.low, h.high);
        }

  pub starts_here : Here at
  starts_here = record { low = omega arith; high = omega arith }

  -- a place of the line lies in the text
  pub in_text : at ≤ length text → (x : ℕ) → Here x → x ≤ length text
  in_text h x g = omega (arith, bare_in_text h, g.high)

  -- a word of the line, from a place on, as the scans of the text find it
  pub word_here : (x q e : ℕ) → Here x → q ≡ x + passed_over (λ c. not (is_blank c)) (drop x text)
      → e ≡ q + passed_over ends_word (drop q text)
      → Word bare_here (x - at) (q - at) (e - at)
  word_here x q e h a b =
      record { in_line = omega (arith, h.high); starts = start_here x h q a; ends = end_here q (start_lies x h q a) e b }

  -- whether the line ends at a place
  pub end_told : (x : ℕ) → Here x → eqb (passed_over ends_bare (drop x text)) 0 ≡ eqb (x - at) (length bare_here)
  end_told x h = ⊎_elim there gone (below_or_not (x - at) (length bare_here))
    where
      there : x - at < length bare_here → eqb (passed_over ends_bare (drop x text)) 0 ≡ eqb (x - at) (length bare_here)
      there l =
          ne_eqb (passed_over ends_bare (drop x text)) 0 (λ z. omega (arith, z, bare_left x h, l, h.low))
          ∙ sym (ne_eqb (x - at) (length bare_here) (λ z. omega (arith, z, l)))

      gone : length bare_here ≤ x - at → eqb (passed_over ends_bare (drop x text)) 0 ≡ eqb (x - at) (length bare_here)
      gone l =
          eq-eqb (passed_over ends_bare (drop x text)) 0 (omega (arith, bare_left x h, l, h.low))
          ∙ sym (eq-eqb (x - at) (length bare_here) (omega (arith, l, h.low, h.high)))

  -- no word follows exactly if the next would start at the line's end
  pub none_here : (x y : ℕ) → Here x → y ≡ x + passed_over (λ c. not (is_blank c)) (drop x text)
      → eqb (passed_over ends_bare (drop y text)) 0 ≡ eqb (length (words (drop (x - at) bare_here))) 0
  none_here x y h e =
      end_told y (start_lies x h y e) ∙ none_after bare_here (x - at) (y - at) (omega (arith, h.high)) (start_here x h y e)

-- ---- the words after the first

keyword_after : (w : List ℕ) (ws : List (List ℕ)) (b : Bool) → alone ws ≡ b
    → keyword_line w ws ≡ keyword_line w (after b (second ws))
unfolding keyword_line
keyword_after w ws true e = simp e
keyword_after w ws false e = simp e

term_after : (w : List ℕ) (ws : List (List ℕ)) (b : Bool) → alone ws ≡ b → term_seen w ws ≡ term_seen w (after b (second ws))
unfolding term_seen well_formed
term_after w ws true e = simp e
term_after w ws false e = simp (e, and-false)

pub seen_after : (w v : List ℕ) (ws : List (List ℕ)) (b : Bool) → alone ws ≡ b → second ws ≡ v
    → seen (says_by (w ∷ ws)) ≡ seen (says_by (w ∷ after b v))
unfolding says_by seen
seen_after w v ws b e s = go (eqb (get_or w 0 0) dot) ∙ ap (λ (v : List ℕ). seen (says_by (w ∷ after b v))) s
  where
    go : (t : Bool) → seen (cond t (keyword_line w ws) (term w ws))
        ≡ seen (cond t (keyword_line w (after b (second ws))) (term w (after b (second ws))))
    go true = ap seen (keyword_after w ws b e)
    go false = ap Term (term_after w ws b e)

-- ---- a line whose first word goes from p to e, and the next from q to d

module _ (s : List ℕ) (p e q d : ℕ) (first : Word s 0 p e) (next : Word s e q d) where
  pub line_seen : p < length s → (b : Bool) → b ≡ ltb q d && eqb (length (words (drop d s))) 0
      → seen (says_by (words s)) ≡ seen (says_by (part s p e ∷ after b (part s q d)))
  line_seen h b e' =
      ap (λ (ws : List (List ℕ)). seen (says_by ws)) (word_there s 0 p e first h).1
      ∙ seen_after (part s p e) (part s q d) (words (drop e s)) b (alone_here s e q d next ∙ sym e') (second_here s e q d next)

  -- the first word begins with the character at p
  pub first_char : p < length s → get_or (part s p e) 0 0 ≡ get_or s p 0
  first_char h =
      get_or-take (e - p) (drop p s) 0 0 (omega (arith, (word_there s 0 p e first h).0)) ∙ get_or-drop p s 0 0
      ∙ ap (λ (i : ℕ). get_or s i 0) (omega arith)

  -- with a dot it is a keyword's line, else a term's
  pub dot_first : (ws : List (List ℕ)) → p < length s → get_or s p 0 ≡ dot
      → says_by (part s p e ∷ ws) ≡ keyword_line (part s p e) ws
  unfolding says_by
  dot_first ws h is = simp (eq-eqb _ _ (first_char h ∙ is))

  pub no_dot_first : (ws : List (List ℕ)) → p < length s → (get_or s p 0 ≡ dot → ⊥)
      → says_by (part s p e ∷ ws) ≡ term (part s p e) ws
  unfolding says_by
  no_dot_first ws h is = simp (ne_eqb _ _ (λ z. is (sym (first_char h) ∙ z)))

-- ---- the line of a text that begins at `at`: its first word goes from `from` to `to`, the next from `start` to `end`, and one
-- more would start at `next`

pub no_word : (text : List ℕ) (at from : ℕ) → at ≤ length text → from ≡ at + passed_over (λ c. not (is_blank c)) (drop at text)
    → eqb (passed_over ends_bare (drop from text)) 0 ≡ true → words (bare_here text at) ≡ []
no_word text at from h a e =
    let lies = start_lies text at at (starts_here text at) from a in
    let none : at - at ≡ 0 = omega arith in
    let over_here = eqb-true (passed_over ends_bare (drop from text)) 0 e in
    ap (λ (k : ℕ). words (drop k (bare_here text at))) (sym none)
    ∙ word_none (bare_here text at) (at - at) (from - at) _ (word_here text at at from _ (starts_here text at) a refl)
    (omega (arith, bare_left text at from lies, over_here, lies.low))

-- the first word starts no farther than the line's end
pub start_near : (text : List ℕ) (at from : ℕ) → from ≡ at + passed_over (λ c. not (is_blank c)) (drop at text)
    → from ≤ at + passed_over ends_bare (drop at text)
start_near text at from a = omega (arith, (start_lies text at at (starts_here text at) from a).high, bare_long text at)

-- what the scans found, one after another
pub record Found (text : List ℕ) (at from to start end next : ℕ) : Type 0 where
  pub begins : at ≤ length text
  pub first_starts : from ≡ at + passed_over (λ c. not (is_blank c)) (drop at text)
  pub first_ends : to ≡ from + passed_over ends_word (drop from text)
  pub next_starts : start ≡ to + passed_over (λ c. not (is_blank c)) (drop to text)
  pub next_ends : end ≡ start + passed_over ends_word (drop start text)
  pub more_starts : next ≡ end + passed_over (λ c. not (is_blank c)) (drop end text)

module _ (text : List ℕ) (at from to start end next : ℕ) (f : Found text at from to start end next) where
  abbrev s : List ℕ
  s = bare_here text at

  from_lies : Here text at from
  from_lies = start_lies text at at (starts_here text at) from f.first_starts

  to_lies : Here text at to
  to_lies = end_lies text at from from_lies to f.first_ends

  start_lies_here : Here text at start
  start_lies_here = start_lies text at to to_lies start f.next_starts

  end_lies_here : Here text at end
  end_lies_here = end_lies text at start start_lies_here end f.next_ends

  next_lies : Here text at next
  next_lies = start_lies text at end end_lies_here next f.more_starts

  first_word : Word s 0 (from - at) (to - at)
  first_word =
      let none : at - at ≡ 0 = omega arith in
      subst (λ (k : ℕ). Word s k (from - at) (to - at)) none
      (word_here text at at from to (starts_here text at) f.first_starts f.first_ends)

  next_word : Word s (to - at) (start - at) (end - at)
  next_word = word_here text at to start end to_lies f.next_starts f.next_ends

  shifted : ltb start end ≡ ltb (start - at) (end - at)
  shifted = ⊎_elim there gone (below_or_not start end)
    where
      there : start < end → ltb start end ≡ ltb (start - at) (end - at)
      there l = lt-ltb start end l ∙ sym (lt-ltb (start - at) (end - at) (omega (arith, l, start_lies_here.low)))

      gone : end ≤ start → ltb start end ≡ ltb (start - at) (end - at)
      gone l = le-ltb start end l ∙ sym (le-ltb (start - at) (end - at) (omega (arith, l)))

  module _ (some : eqb (passed_over ends_bare (drop from text)) 0 ≡ false) (t : Bool)
      (is : t ≡ ltb start end && eqb (passed_over ends_bare (drop next text)) 0) where
    before_end : from - at < length s
    before_end =
        let more = eqb-false (passed_over ends_bare (drop from text)) 0 some in
        ⊎_elim (λ (l : from - at < length s). l)
        (λ (l : length s ≤ from - at). absurd (more (omega (arith, l, bare_left text at from from_lies, from_lies.low))))
        (below_or_not (from - at) (length s))

    -- the two words as parts of the text
    abbrev one : List ℕ
    one = take (to - from) (drop from text)

    abbrev two : List ℕ
    two = take (end - start) (drop start text)

    one_is : one ≡ part s (from - at) (to - at)
    one_is = part_here text at from from_lies to to_lies

    two_is : two ≡ part s (start - at) (end - at)
    two_is = part_here text at start start_lies_here end end_lies_here

    said : seen (says_by (words s)) ≡ seen (says_by (part s (from - at) (to - at) ∷ after t (part s (start - at) (end - at))))
    said =
        line_seen s (from - at) (to - at) (start - at) (end - at) first_word next_word before_end t
        (is ∙ ap₂ (λ (x y : Bool). x && y) shifted (none_here text at end next end_lies_here f.more_starts))

    char_is : get_or text from 0 ≡ get_or s (from - at) 0
    char_is = char_here text at from from_lies (omega (arith, before_end, from_lies.low))

    -- a keyword's line
    pub keyword_said : get_or text from 0 ≡ dot → seen (says_by (words s)) ≡ seen (keyword_line one (after t two))
    keyword_said z =
        said ∙ ap seen (dot_first s (from - at) (to - at) (start - at) (end - at) first_word next_word _ before_end
        (sym char_is ∙ z))
        ∙ ap₂ (λ (w v : List ℕ). seen (keyword_line w (after t v))) (sym one_is) (sym two_is)

    -- a term's
    pub term_said : (get_or text from 0 ≡ dot → ⊥) → seen (says_by (words s)) ≡ Term (term_seen one (after t two))
    unfolding seen
    term_said z =
        said ∙ ap seen (no_dot_first s (from - at) (to - at) (start - at) (end - at) first_word next_word _ before_end
        (λ y. z (char_is ∙ y)))
        ∙ ap₂ (λ (w v : List ℕ). Term (term_seen w (after t v))) (sym one_is) (sym two_is)

-- ---- and so the code finds it

-- where the word after a place starts, and where one ends
abbrev pub start_of : List ℕ → ℕ → ℕ
start_of text x = x + passed_over (λ c. not (is_blank c)) (drop x text)

abbrev pub end_of : List ℕ → ℕ → ℕ
end_of text x = x + passed_over ends_word (drop x text)

module _ (text : List ℕ) (at : ℕ) (h : at ≤ length text) where
  abbrev from : ℕ
  from = start_of text at

  abbrev to : ℕ
  to = end_of text from

  abbrev start : ℕ
  start = start_of text to

  abbrev end : ℕ
  end = end_of text start

  abbrev next : ℕ
  next = start_of text end

  found : Found text at from to start end next
  found = record { begins = h; first_starts = refl; first_ends = refl; next_starts = refl; next_ends = refl; more_starts = refl }

  abbrev others : List (List ℕ)
  others = after (ltb start end && eqb (passed_over ends_bare (drop next text)) 0) (take (end - start) (drop start text))

  pub line_told : seen (says_by (words (bare_here text at)))
      ≡ cond (eqb (passed_over ends_bare (drop from text)) 0) Nothing
      (cond (eqb (get_or text from 0) dot) (seen (keyword_line (take (to - from) (drop from text)) others))
      (Term (term_seen (take (to - from) (drop from text)) others)))
  unfolding says_by seen
  line_told = go (eqb (passed_over ends_bare (drop from text)) 0) (eqb (get_or text from 0) dot) refl refl
    where
      go : (t u : Bool) → eqb (passed_over ends_bare (drop from text)) 0 ≡ t → eqb (get_or text from 0) dot ≡ u
          → seen (says_by (words (bare_here text at)))
          ≡ cond t Nothing (cond u (seen (keyword_line (take (to - from) (drop from text)) others))
          (Term (term_seen (take (to - from) (drop from text)) others)))
      go true u e d = ap (λ (ws : List (List ℕ)). seen (says_by ws)) (no_word text at from h refl e)
      go false true e d = keyword_said text at from to start end next found e _ refl (eqb-true _ _ d)
      go false false e d = term_said text at from to start end next found e _ refl (eqb-false _ _ d)

  -- and these places lie in the line
  pub first_near : from ≤ at + passed_over ends_bare (drop at text)
  first_near = start_near text at from refl

  pub next_near : next ≤ at + passed_over ends_bare (drop at text)
  next_near = omega (arith, (next_lies text at from to start end next found).high, bare_long text at)

-- what the scans of a line come to
pub ruleset scanning = (over_in_text, line_told, first_near, next_near)
