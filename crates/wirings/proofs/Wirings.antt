-- Every wiring, once, in the stated order, and how many there are. The idea: the choice bytes stand in order of rank, so the
-- wirings stand in order, and each once; with k inputs to come there are 2 * k choices, whichever came before.
use Prim.Native.Nat.{ℕ, zero, suc, ◌+◌, ◌*◌, ◌^◌, ◌≤◌, ◌<◌}
use mathlib.Core.Path.{◌≡◌, refl, sym, ap, ap₂, ◌∙◌, subst}
use mathlib.Core.Bool.{Bool, true, cond, ◌&&◌, and_assoc, false≢true}
use mathlib.Core.List.{List, [], ◌∷◌, map}
use mathlib.Core.Logic.{inl, inr, ⊎_elim}
use native.Mathlib.Nat.{mul_comm, mul-mul-mul_comm, pow-succ'}
use native.Mathlib.Omega.{arith}
use borrow.Author.Tests.{eqb-true, eq-eqb, lt-ltb, ltb-true, le-leb, lt-leb}
use lib.Dec.{ltb, eqb}
use lib.ListN.{length, length-map}
use Rattle.bits.proofs.Tests.{both, both_left, both_right, or_right, same_test}
use Rattle.rules.specs.Lists.{run, some_in, each_in, same, times}
use Rattle.rules.specs.Rules.{next, completions, follows, before, ◌adding◌}
use Rattle.rules.proofs.Lists.{In, in_map, map_in, map_same, in_flat, flat_in, length_flat, some_at, some_if, in_run, run_in, same_is, same_self}
use Rattle.rules.proofs.Completions.{completion_extends, completion_in}
use Rattle.rules.proofs.Order.{Rising, rising_map, rising_flat, rising_once, before_at, completions_rise}
use Rattle.rules.proofs.Cut.{Reached, reached_next, reached_start}
use Rattle.wirings.specs.Wirings.{input_of, choices_from, straight, is_choice, apart, is_wiring, rank, wirings}
use Rattle.wirings.proofs.Choices.{follows_is, free_number}

-- 1 · 2 · .. · k
unfoldable pub factorial : ℕ → ℕ
factorial zero = 1
factorial (suc k) = suc k * factorial k

-- ---- the order

-- the choices of input j, plain and inverted, have the ranks 2j and 2j + 1
rank_plain : (j : ℕ) → j < 16 → rank j ≡ 2 * j
rank_plain j h = ap {B = ℕ} (λ (t : Bool). 2 * input_of j + cond t 1 0) (lt-leb 16 j h) ∙ omega arith

rank_inverted : (j : ℕ) → j < 16 → rank (j + 16) ≡ 2 * j + 1
rank_inverted j h = ap {B = ℕ} (λ (t : Bool). 2 * input_of (j + 16) + cond t 1 0) (le-leb 16 (j + 16) (omega arith)) ∙ omega arith

-- among the choices from input j on, none has a lower rank than j
rank_from : (j k b : ℕ) → j + k ≤ 16 → In b (choices_from j k) → 2 * j ≤ rank b
unfolding In choices_from
rank_from j zero b h i = elim i [ ]
rank_from j (suc k) b h (inl e) = omega (arith, ap rank e, rank_plain j (omega arith))
rank_from j (suc k) b h (inr (inl e)) = omega (arith, ap rank e, rank_inverted j (omega arith))
rank_from j (suc k) b h (inr (inr i)) = omega (arith, rank_from (suc j) k b (omega arith) i)

-- so the choices stand in order of rank
from_rise : (j k : ℕ) → j + k ≤ 16 → Rising (λ a b. ltb (rank a) (rank b)) (choices_from j k)
unfolding Rising In choices_from
from_rise j zero h = tt
from_rise j (suc k) h =
    let plain = rank_plain j (omega arith) in
    let inverse = rank_inverted j (omega arith) in
    let later : (b : ℕ) → In b (choices_from (suc j) k) → 2 * suc j ≤ rank b = λ b i. rank_from (suc j) k b (omega arith) i in (
      λ b i. lt-ltb (rank j) (rank b) (⊎_elim (λ (e : b ≡ j + 16). omega (arith, ap rank e)) (λ (i : In b (choices_from (suc j) k)). omega (arith, later b i)) i),
      (λ b i. lt-ltb (rank (j + 16)) (rank b) (omega (arith, later b i)), from_rise (suc j) k (omega arith)),
    )

pub choices_rise : (n : ℕ) → n ≤ 16 → Rising (λ a b. ltb (rank a) (rank b)) (choices_from 0 n)
choices_rise n small = from_rise 0 n (omega arith)

-- the wirings of one phase
abbrev of_phase : ℕ → ℕ → List (List ℕ)
of_phase n q = map (λ (w : List ℕ). q ∷ w) (completions (straight n) n [])

-- the wirings stand in the stated order
pub wirings_rise : (n : ℕ) → n ≤ 16 → Rising (before rank) (wirings n)
unfolding wirings Rising In before
wirings_rise n small =
    rising_flat (λ p q. ltb (rank p) (rank q)) (before rank) (of_phase n)
    (λ q. rising_map (before rank) (before rank) (λ w. q ∷ w) (λ u v p. or_right (ltb (rank q) (rank q)) (both (eq-eqb q q refl) p)) whole
    (completions_rise rank (straight n) (choices_rise n small) n []))
    (λ p q u v h i j.
    let x = map_in (λ (w : List ℕ). p ∷ w) u whole i in
    let y = map_in (λ (w : List ℕ). q ∷ w) v whole j in
    ap₂ (before rank) x.2 y.2 ∙ before_at rank [] p q x.0 y.0 h)
    (0 ∷ 1 ∷ []) (λ q i. ⊎_elim (λ (e : q ≡ 1). ap (λ (a : ℕ). ltb 0 (rank a)) e) (λ (e : ⊥). absurd e) i, (λ q i. absurd i, tt))
  where
    whole : List (List ℕ)
    whole = completions (straight n) n []

-- ---- each wiring, and nothing else

-- a wiring: a phase, and n choices that may follow one another
wiring_is : (n q : ℕ) (w : List ℕ) → is_wiring n (q ∷ w) ≡ ltb q 2 && eqb (length w) n && follows (straight n) [] w
unfolding is_wiring
wiring_is n q w = and_assoc (ltb q 2 && eqb (length w) n) (each_in (is_choice n) w) (apart w) ∙ ap (λ (t : Bool). ltb q 2 && eqb (length w) n && t) (sym (follows_is n w))

pub wiring_parts : (n q : ℕ) (w : List ℕ) → is_wiring n (q ∷ w) ≡ true → (q < 2) × (length w ≡ n) × (follows (straight n) [] w ≡ true)
wiring_parts n q w e =
    let parts = sym (wiring_is n q w) ∙ e in
    let sized = both_left (ltb q 2 && eqb (length w) n) _ parts in
    (ltb-true q 2 (both_left (ltb q 2) _ sized), eqb-true (length w) n (both_right (ltb q 2) _ sized), both_right (ltb q 2 && eqb (length w) n) _ parts)

pub parts_wiring : (n q : ℕ) (w : List ℕ) → q < 2 → length w ≡ n → follows (straight n) [] w ≡ true → is_wiring n (q ∷ w) ≡ true
parts_wiring n q w h e f = wiring_is n q w ∙ both (both (lt-ltb q 2 h) (eq-eqb (length w) n e)) f

-- its choices are a way to go on from the start
pub whole_in : (n q : ℕ) (w : List ℕ) → is_wiring n (q ∷ w) ≡ true → In w (completions (straight n) n [])
whole_in n q w e = let x = wiring_parts n q w e in subst (λ (k : ℕ). In w (completions (straight n) k [])) x.1 (completion_in (straight n) [] w x.2)

-- the list has every wiring, and only wirings
pub wiring_in : (n : ℕ) (v : List ℕ) → is_wiring n v ≡ true → In v (wirings n)
unfolding is_wiring wirings run
wiring_in n [] e = absurd (false≢true e)
wiring_in n (q ∷ w) e =
    in_flat (of_phase n) q (q ∷ w) (0 ∷ 1 ∷ []) (run_in q 0 2 (omega arith) (wiring_parts n q w e).0)
    (in_map (λ (w : List ℕ). q ∷ w) w (completions (straight n) n []) (whole_in n q w e))

pub in_wiring : (n : ℕ) (v : List ℕ) → In v (wirings n) → is_wiring n v ≡ true
unfolding wirings run
in_wiring n v i =
    let x = flat_in (of_phase n) v (0 ∷ 1 ∷ []) i in
    let y = map_in (λ (w : List ℕ). x.0 ∷ w) v (completions (straight n) n []) x.2 in
    let c = completion_extends (straight n) n [] y.0 y.1 in
    ap (is_wiring n) (y.2 ∙ ap (λ (w : List ℕ). x.0 ∷ w) c.1) ∙ parts_wiring n x.0 c.0 (in_run x.0 0 2 x.1).1 c.2 c.3

-- each wiring stands in the list once
pub wirings_once : (n : ℕ) → n ≤ 16 → (v : List ℕ) → times v (wirings n) ≡ cond (is_wiring n v) 1 0
wirings_once n small v =
    rising_once rank v (wirings n) (wirings_rise n small)
    ∙ ap {B = ℕ} (λ (t : Bool). cond t 1 0)
    (same_test (some_in (same v) (wirings n)) (is_wiring n v)
    (λ e. let x = some_at (same v) (wirings n) e in ap (is_wiring n) (same_is v x.0 x.2) ∙ in_wiring n x.0 x.1)
    (λ e. some_if (same v) v (wirings n) (wiring_in n v e) (same_self v)))

-- ---- how many

-- with k inputs to come: 2 * k choices, then 2 * (k − 1), and so on
completions_number : (n : ℕ) → n ≤ 16 → (k : ℕ) (w : List ℕ) → Reached (straight n) n k w → length (completions (straight n) k w) ≡ factorial k * 2 ^ k
unfolding completions factorial
completions_number n small zero w r = refl
completions_number n small (suc k) w r =
    let c = factorial k * 2 ^ k in
    length_flat (λ b. completions (straight n) k (w adding b)) c (next (straight n) w)
    (λ b i. completions_number n small k (w adding b) (reached_next (straight n) n k w b r i))
    ∙ ap (λ (m : ℕ). m * c) (free_number n small w r.allowed (suc k) r.total ∙ mul_comm 2 (suc k))
    ∙ mul-mul-mul_comm (suc k) 2 (factorial k) (2 ^ k) ∙ ap (λ (p : ℕ). suc k * factorial k * p) (sym (pow-succ' 2 k))

-- with two phases, 2 · n! · 2ⁿ wirings
pub wirings_number : (n : ℕ) → n ≤ 16 → length (wirings n) ≡ 2 * (factorial n * 2 ^ n)
unfolding wirings
wirings_number n small =
    length_flat (of_phase n) (factorial n * 2 ^ n) (0 ∷ 1 ∷ [])
    (λ q _. length-map (completions (straight n) n []) (λ w. q ∷ w) ∙ completions_number n small n [] (reached_start (straight n) n))

-- for 1 to 8 inputs
pub the_numbers :
    map (λ n. length (wirings n)) (1 ∷ 2 ∷ 3 ∷ 4 ∷ 5 ∷ 6 ∷ 7 ∷ 8 ∷ []) ≡ 4 ∷ 16 ∷ 96 ∷ 768 ∷ 7680 ∷ 92160 ∷ 1290240 ∷ 20643840 ∷ []
unfolding factorial run
the_numbers =
    map_same (λ n. length (wirings n)) (λ n. 2 * (factorial n * 2 ^ n)) (run 1 8) (λ n i. wirings_number n (let h = in_run n 1 8 i in omega arith))
