-- A pair of cubes is dead exactly when no completion separates it. The idea: an unplaced input of f can still be given any
-- choice of a free input of g, so a literal there can be set against any literal that g has on a free input.
use Prim.Native.Nat.{ℕ, zero, suc, ◌+◌, ◌-◌, ◌≤◌, ◌<◌}
use mathlib.Core.Path.{◌≡◌, refl, sym, ap, ap₂, ◌∙◌}
use mathlib.Core.Bool.{Bool, true, false, cond, not, ◌&&◌, ◌||◌, and-true, or_comm, false≢true}
use mathlib.Core.List.{List, [], ◌∷◌, ◌++◌}
use mathlib.Core.Logic.{◌⊎◌, inl, inr, ⊎_elim}
use native.Mathlib.Nat.{not-suc-le-zero, le_of_suc-le-suc, eq-or-lt_of_le}
use native.Mathlib.Omega.{arith}
use borrow.Author.Tests.{leb-true, le-leb, eqb-false, ne_eqb, not-true}
use lib.Dec.{leb, eqb}
use lib.ListN.{length, get_or, length-append, get_or-append}
use lib.Seq.{get_or_at, get_or-append-add}
use Rattle.bits.specs.Bits.{has}
use Rattle.bits.proofs.Tests.{both, both_left, both_right, either, or_left, or_right, same_test, below_or_not, neither, not_or, not_and}
use Rattle.bits.proofs.Below.{any_at, any_if, any_none}
use Rattle.cubes.specs.Cubes.{cube_names}
use Rattle.rules.specs.Lists.{some_in}
use Rattle.rules.specs.Rules.{completions, follows, ◌adding◌}
use Rattle.rules.proofs.Lists.{In, in_flat, in_filter, some_at, some_if}
use Rattle.rules.proofs.Completions.{adding_append, completion_extends, completions_length}
use Rattle.wirings.specs.Wirings.{input_of, inverted, choices_from, uses, free_choice, straight, is_choice}
use Rattle.wirings.specs.Pairs.{asks_one, asks_zero, opposed, separates, unplaced_literal, unused_literal, dead}
use Rattle.wirings.proofs.Choices.{choice_input, plain_choice, inverted_choice, choice_in, listed, uses_adding, place_next, free_input}

-- ---- an unplaced input can still be given any free choice

module _ (n : ℕ) where
  -- b is a choice of an input that w leaves free
  abbrev Free : List ℕ → ℕ → Type 0
  Free w b = (is_choice n b ≡ true) × (uses w (input_of b) ≡ false)

  -- whatever may follow w is such a choice
  later_free : (w r : List ℕ) → follows (straight n) w r ≡ true → (m : ℕ) → m < length r → Free w (get_or r m 0)
  unfolding follows
  later_free w [] e m h = absurd (not-suc-le-zero h)
  later_free w (b ∷ r) e zero h =
      let Listed_b = some_in (eqb b) (choices_from 0 n) in
      let may = both_left (Listed_b && free_choice w b) (follows (straight n) (w adding b) r) e in
      (sym (listed n b) ∙ both_left Listed_b (free_choice w b) may, not-true (uses w (input_of b)) (both_right Listed_b (free_choice w b) may))
  later_free w (b ∷ r) e (suc m) h =
      let rest = both_right (some_in (eqb b) (choices_from 0 n) && free_choice w b) (follows (straight n) (w adding b) r) e in
      let later = later_free (w adding b) r rest m (le_of_suc-le-suc h) in
      (later.0, (neither _ _ (sym (uses_adding w b (input_of (get_or r m 0))) ∙ later.1)).0)

  -- a completion of one free choice more is a completion
  grown : (k : ℕ) (w : List ℕ) (b : ℕ) → Free w b → (v : List ℕ) → In v (completions (straight n) k (w adding b)) → In v (completions (straight n) (suc k) w)
  unfolding completions
  grown k w b free v i =
      in_flat (λ b. completions (straight n) k (w adding b)) b v _ (in_filter (free_choice w) b (choices_from 0 n) (choice_in n b free.0) (ap not free.1)) i

  total_next : (k : ℕ) (w : List ℕ) (b : ℕ) → suc k + length w ≡ n → k + length (w adding b) ≡ n
  total_next k w b total = omega (arith, length-append w (b ∷ []))

  module _ (small : n ≤ 16) where
    plain_free : (w : List ℕ) (j : ℕ) → j < n → uses w j ≡ false → Free w j
    plain_free w j h new = let c = plain_choice n small j h in (c.0, ap (uses w) c.1 ∙ new)

    -- there is always a completion
    pub completion_exists : (k : ℕ) (w : List ℕ) → follows (straight n) [] w ≡ true → k + length w ≡ n → (v : List ℕ) × In v (completions (straight n) k w)
    unfolding In completions
    completion_exists zero w allowed total = (w, inl refl)
    completion_exists (suc k) w allowed total =
        let x = free_input n small w allowed (omega arith) in
        let j = x.0 in
        let free = plain_free w j x.1 x.2 in
        let v = completion_exists k (w adding j) (place_next n w j allowed free.0 free.1) (total_next k w j total) in
        (v.0, grown k w j free v.0 v.1)

    -- with two inputs to place, another can go before b: w with b added is allowed too, and leaves an input free
    other_free : (w : List ℕ) (b : ℕ) → follows (straight n) [] w ≡ true → suc (length w) < n → Free w b → (j : ℕ) × Free w j × (uses (w adding j) (input_of b) ≡ false)
    other_free w b allowed more free =
        let x = free_input n small (w adding b) (place_next n w b allowed free.0 free.1) (omega (arith, length-append w (b ∷ []))) in
        let j = x.0 in
        let other = neither (uses w j) (eqb (input_of b) j) (sym (uses_adding w b j) ∙ x.2) in
        let same = (plain_choice n small j x.1).1 in
        let unlike = ne_eqb (input_of j) (input_of b) (λ e. eqb-false (input_of b) j other.1 (sym e ∙ same)) in
        (j, plain_free w j x.1 other.0, uses_adding w j (input_of b) ∙ ap₂ ◌||◌ free.1 unlike)

    -- and one with any free choice at any unplaced input
    pub completion_with : (k : ℕ) (w : List ℕ) → follows (straight n) [] w ≡ true → k + length w ≡ n → (i : ℕ) → length w ≤ i → i < n
        → (b : ℕ) → is_choice n b ≡ true → uses w (input_of b) ≡ false → (v : List ℕ) × In v (completions (straight n) k w) × (get_or v i 0 ≡ b)
    completion_with zero w allowed total i from below b choice new = absurd (omega arith)
    completion_with (suc k) w allowed total i from below b choice new =
        ⊎_elim
        (λ (here : length w ≡ i).
        let v = completion_exists k (w adding b) (place_next n w b allowed choice new) (total_next k w b total) in
        let x = completion_extends (straight n) k (w adding b) v.0 v.1 in
        (v.0, grown k w b (choice, new) v.0 v.1, ap (λ (u : List ℕ). get_or u i 0) (x.1 ∙ adding_append w b x.0) ∙ get_or_at w b x.0 0 i here))
        (λ (later : length w < i).
        let o = other_free w b allowed (omega arith) (choice, new) in
        let j = o.0 in
        let allowed_j = place_next n w j allowed o.1.0 o.1.1 in
        let v = completion_with k (w adding j) allowed_j (total_next k w j total) i (omega (arith, length-append w (j ∷ []))) below b choice o.2 in
        (v.0, grown k w j o.1 v.0 v.1, v.2))
        (eq-or-lt_of_le from)

-- ---- separated

-- what the cube of f asks for through a choice, it names
asks_names : (t p n : Bool) → cond t n p || cond t p n ≡ p || n
asks_names true p n = or_comm n p
asks_names false p n = refl

-- plainly or inverted, a literal can be set against any other
set_against : (p n p' n' : Bool) → p || n ≡ true → p' || n' ≡ true → (p && n' || n && p' ≡ true) ⊎ (n && n' || p && p' ≡ true)
set_against true n true n' a b = inr (or_right (n && n') refl)
set_against true n false true a b = inl refl
set_against true n false false a b = absurd (false≢true b)
set_against false true true n' a b = inl refl
set_against false true false true a b = inr refl
set_against false true false false a b = absurd (false≢true b)
set_against false false p' n' a b = absurd (false≢true a)

module _ (P N P' N' : ℕ) where
  -- opposed literals are literals
  opposed_names : (b i : ℕ) → opposed b P N P' N' i ≡ true → (cube_names P N i ≡ true) × (cube_names P' N' (input_of b) ≡ true)
  opposed_names b i e =
      let one = asks_one b P N i in
      let zero = asks_zero b P N i in
      let names : one || zero ≡ cube_names P N i = asks_names (inverted b) (has P i) (has N i) in
      let j = input_of b in
      ⊎_elim
      (λ (h : one && has N' j ≡ true). (sym names ∙ or_left zero (both_left one (has N' j) h), or_right (has P' j) (both_right one (has N' j) h)))
      (λ (h : zero && has P' j ≡ true). (sym names ∙ or_right one (both_left zero (has P' j) h), or_left (has N' j) (both_right zero (has P' j) h)))
      (either (one && has N' j) (zero && has P' j) e)

  -- and any two literals are opposed by one of the two choices
  opposed_by : (n : ℕ) → n ≤ 16 → (i j : ℕ) → j < n → cube_names P N i ≡ true → cube_names P' N' j ≡ true
      → (b : ℕ) × (is_choice n b ≡ true) × (input_of b ≡ j) × (opposed b P N P' N' i ≡ true)
  opposed_by n small i j h f g =
      let c = plain_choice n small j h in
      let d = inverted_choice n small j h in
      ⊎_elim (λ e. (j, c.0, c.1, at j false c.2 c.1 ∙ e)) (λ e. (j + 16, d.0, d.1, at (j + 16) true d.2 d.1 ∙ e))
      (set_against (has P i) (has N i) (has P' j) (has N' j) f g)
    where
      at : (b : ℕ) (t : Bool) → inverted b ≡ t → input_of b ≡ j → opposed b P N P' N' i ≡ cond t (has N i) (has P i) && has N' j || cond t (has P i) (has N i) && has P' j
      at b t p q = ap₂ (λ (s : Bool) (m : ℕ). cond s (has N i) (has P i) && has N' m || cond s (has P i) (has N i) && has P' m) p q

  -- a list of choices separates where one of them opposes literals
  separates_at : (w : List ℕ) → separates w P N P' N' ≡ true → (i : ℕ) × (i < length w) × (opposed (get_or w i 0) P N P' N' i ≡ true)
  unfolding separates
  separates_at w e = any_at (λ i. opposed (get_or w i 0) P N P' N' i) (length w) e

  separates_if : (w : List ℕ) (i : ℕ) → i < length w → (b : ℕ) → get_or w i 0 ≡ b → opposed b P N P' N' i ≡ true → separates w P N P' N' ≡ true
  unfolding separates
  separates_if w i h b p e = any_if (λ i. opposed (get_or w i 0) P N P' N' i) (length w) i h (ap (λ (c : ℕ). opposed c P N P' N' i) p ∙ e)

  -- what is separated stays so
  pub separates_prefix : (w r : List ℕ) → separates w P N P' N' ≡ true → separates (w ++ r) P N P' N' ≡ true
  separates_prefix w r e =
      let x = separates_at w e in
      separates_if (w ++ r) x.0 (omega (arith, length-append w r, x.1)) (get_or w x.0 0) (get_or-append w r 0 x.0 x.1) x.2

  -- it can still become so: it is separated, or f has a literal on an unplaced input and g one on an unused input
  abbrev can : ℕ → List ℕ → Bool
  can n w = separates w P N P' N' || unplaced_literal n w P N && unused_literal n w P' N'

  -- and does, in some completion
  abbrev separated : ℕ → ℕ → List ℕ → Bool
  separated n k w = some_in (λ v. separates v P N P' N') (completions (straight n) k w)

  separated_if : (n k : ℕ) (w v : List ℕ) → In v (completions (straight n) k w) → separates v P N P' N' ≡ true → separated n k w ≡ true
  separated_if n k w v i e = some_if (λ v. separates v P N P' N') v (completions (straight n) k w) i e

  module _ (n : ℕ) (small : n ≤ 16) (k : ℕ) (w : List ℕ) where
    -- a later choice that opposes literals is of an unplaced input and of an unused one
    opposed_later : (r : List ℕ) → follows (straight n) w r ≡ true → (i : ℕ) → length w ≤ i → i < length w + length r → i < n
        → opposed (get_or (w ++ r) i 0) P N P' N' i ≡ true → unplaced_literal n w P N && unused_literal n w P' N' ≡ true
    opposed_later r may i from within below o =
        let m = i - length w in
        let b = get_or r m 0 in
        let there : get_or (w ++ r) i 0 ≡ b = ap (λ (a : ℕ). get_or (w ++ r) a 0) (omega arith) ∙ get_or-append-add w r m 0 in
        let free = later_free n w r may m (omega arith) in
        let names = opposed_names b i (ap (λ (b : ℕ). opposed b P N P' N' i) (sym there) ∙ o) in
        both (any_if (λ i. leb (length w) i && cube_names P N i) n i below (both (le-leb (length w) i from) names.0))
        (any_if (λ j. not (uses w j) && cube_names P' N' j) n (input_of b) (choice_input n small b free.0) (both (ap not free.1) names.1))

    separated_can : k + length w ≡ n → separated n k w ≡ true → can n w ≡ true
    separated_can total e =
        let v = some_at (λ v. separates v P N P' N') (completions (straight n) k w) e in
        let x = completion_extends (straight n) k w v.0 v.1 in
        let r = x.0 in
        let y = separates_at (w ++ r) (ap (λ (u : List ℕ). separates u P N P' N') (sym x.1) ∙ v.2) in
        let i = y.0 in
        let within : i < length w + length r = omega (arith, y.1, length-append w r) in
        ⊎_elim
        (λ (l : i < length w). or_left (unplaced_literal n w P N && unused_literal n w P' N') (separates_if w i l (get_or (w ++ r) i 0) (sym (get_or-append w r 0 i l)) y.2))
        (λ (l : length w ≤ i). or_right (separates w P N P' N') (opposed_later r x.3 i l within (omega (arith, x.2)) y.2))
        (below_or_not i (length w))

    module _ (allowed : follows (straight n) [] w ≡ true) (total : k + length w ≡ n) where
      -- where w separates, any completion does
      prefix_separated : separates w P N P' N' ≡ true → separated n k w ≡ true
      prefix_separated e =
          let v = completion_exists n small k w allowed total in
          let x = completion_extends (straight n) k w v.0 v.1 in
          separated_if n k w v.0 v.1 (ap (λ (u : List ℕ). separates u P N P' N') x.1 ∙ separates_prefix w x.0 e)

      -- and a literal on an unplaced input can be set against one on an unused input
      literals_separated : unplaced_literal n w P N ≡ true → unused_literal n w P' N' ≡ true → separated n k w ≡ true
      literals_separated e d =
          let x = any_at (λ i. leb (length w) i && cube_names P N i) n e in
          let y = any_at (λ j. not (uses w j) && cube_names P' N' j) n d in
          let i = x.0 in
          let j = y.0 in
          let from = leb-true (length w) i (both_left (leb (length w) i) (cube_names P N i) x.2) in
          let unused = not-true (uses w j) (both_left (not (uses w j)) (cube_names P' N' j) y.2) in
          let c = opposed_by n small i j y.1 (both_right (leb (length w) i) (cube_names P N i) x.2) (both_right (not (uses w j)) (cube_names P' N' j) y.2) in
          let v = completion_with n small k w allowed total i from x.1 c.0 c.1 (ap (uses w) c.2 ∙ unused) in
          let long = completions_length (straight n) k w v.0 v.1 in
          separated_if n k w v.0 v.1 (separates_if v.0 i (omega (arith, x.1)) c.0 v.2 c.3)

      separated_is : separated n k w ≡ can n w
      separated_is =
          let a = unplaced_literal n w P N in
          let b = unused_literal n w P' N' in
          same_test (separated n k w) (can n w) (separated_can total)
          (λ e. ⊎_elim prefix_separated (λ (h : a && b ≡ true). literals_separated (both_left a b h) (both_right a b h)) (either (separates w P N P' N') (a && b) e))

-- ---- dead

-- neither separated nor to be: 01's words
pub not_either : (s u v : Bool) → not (s || u && v) ≡ not s && (not u || not v)
not_either s u v = not_or s (u && v) ∙ ap (λ (t : Bool). not s && t) (not_and u v)

pub dead_exactly : (n : ℕ) → n ≤ 16 → (k : ℕ) (w : List ℕ) → follows (straight n) [] w ≡ true → k + length w ≡ n
    → (P N P' N' : ℕ) → dead n w P N P' N' ≡ not (some_in (λ v. separates v P N P' N') (completions (straight n) k w))
unfolding dead
dead_exactly n small k w allowed total P N P' N' =
    sym (not_either (separates w P N P' N') (unplaced_literal n w P N) (unused_literal n w P' N')) ∙ ap not (sym (separated_is P N P' N' n small k w allowed total))

-- of a whole wiring, a pair is dead where it is not separated
pub dead_whole : (n : ℕ) (w : List ℕ) → length w ≡ n → (P N P' N' : ℕ) → dead n w P N P' N' ≡ not (separates w P N P' N')
unfolding dead
dead_whole n w whole P N P' N' =
    let none = any_none (λ i. leb (length w) i && cube_names P N i) n (λ i h e. omega (arith, leb-true (length w) i (both_left (leb (length w) i) (cube_names P N i) e))) in
    ap (λ (u : Bool). not (separates w P N P' N') && (not u || not (unused_literal n w P' N'))) none ∙ and-true (not (separates w P N P' N'))
