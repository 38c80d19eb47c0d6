-- No shorter bound would do: for each number of inputs there is a refusal as long as the longest. The idea: a cube without literals
-- cannot be kept apart from any other, so its pairs are dead under every choice, and a tree that closes with such a pair may split
-- all the same, down to the last input.
use Prim.Native.Nat.{ℕ, zero, suc, ◌*◌, ◌^◌, ◌≤◌}
use mathlib.Core.Path.{◌≡◌, refl, ap, ◌∙◌, subst}
use mathlib.Core.Bool.{Bool, true, false, not, cond, ◌&&◌, ◌||◌, and-false}
use mathlib.Core.List.{List, [], ◌∷◌}
use mathlib.Core.Logic.{inl, inr}
use native.Mathlib.Nat.{suc-mul}
use native.Mathlib.Omega.{arith}
use borrow.Author.Tests.{ltb-true, eqb-true}
use lib.Dec.{ltb}
use lib.ListN.{length, get_or, length-append}
use Rattle.bits.specs.Bits.{bit, any, every, has}
use Rattle.bits.proofs.Tests.{both, both_left, both_right, or_left}
use Rattle.bits.proofs.Below.{any_same, any_never}
use Rattle.bits.proofs.Bit.{has_zero}
use Rattle.cubes.specs.Cubes.{cube_names, cube_holds, cubes_share, some_cube}
use Rattle.rules.specs.Lists.{run, each_in}
use Rattle.rules.specs.Rules.{◌adding◌, next}
use Rattle.rules.proofs.Lists.{In, each_at, run_in}
use Rattle.rules.proofs.Cut.{Reached, reached_next, reached_start}
use Rattle.answers.specs.Answers.{is_sound, ◌then◌, byte_fault, length_fault}
use Rattle.records.specs.Records.{inputs, on_list, off_list, cube_code, clash_code, first_fault, header_bytes, header_fault, record_fault, Bytes, Accepted}
use Rattle.wirings.specs.Wirings.{input_of, inverted, straight}
use Rattle.wirings.specs.Pairs.{Pair, opposed, separates, unplaced, dead, side, against}
use Rattle.wirings.proofs.Choices.{free_number}
use Rattle.claims.specs.Trees.{Tree, Trees, closing, split, end, ◌and◌, tree_bytes, trees_bytes, right_each, right, longest_tree}
use Rattle.claims.specs.Claims.{IsRefusal, names_pair, closes, refusal_claim, longest_refusal}

-- ---- the full tree: splits down to the last input, and everywhere the closing 0, 0, 0

-- one tree for each of m choices
copies : ℕ → Tree → Trees
copies zero t = end
copies (suc m) t = t and copies m t

full : ℕ → Tree
full zero = closing 0 0 0
full (suc k) = split (copies (2 * suc k) (full k))

copies_length : (m : ℕ) (t : Tree) → length (trees_bytes (copies m t)) ≡ m * length (tree_bytes t)
unfolding copies trees_bytes
copies_length zero t = omega arith
copies_length (suc m) t = omega (arith, length-append (tree_bytes t) (trees_bytes (copies m t)), copies_length m t, suc-mul m (length (tree_bytes t)))

-- it is as long as the longest
full_length : (k : ℕ) → length (tree_bytes (full k)) ≡ longest_tree k
unfolding full tree_bytes longest_tree
full_length zero = refl
full_length (suc k) = omega (arith, copies_length (2 * suc k) (full k), ap (λ (m : ℕ). 2 * suc k * m) (full_length k))

copies_right : (right_of : ℕ → Tree → Bool) (t : Tree) (l : List ℕ) → ((b : ℕ) → In b l → right_of b t ≡ true) → right_each right_of l (copies (length l) t) ≡ true
unfolding copies right_each In
copies_right right_of t [] h = refl
copies_right right_of t (b ∷ l) h = both (h b (inl refl)) (copies_right right_of t l (λ a i. h a (inr i)))

-- and right, where 0, 0, 0 closes after any choices
full_right : (n : ℕ) → n ≤ 16 → (closes : List ℕ → Pair → Bool) → ((w : List ℕ) → closes w (0, 0, 0) ≡ true)
    → (k : ℕ) (w : List ℕ) → Reached (straight n) n k w → right (straight n) closes k w (full k) ≡ true
unfolding full right
full_right n small closes h zero w r = h w
full_right n small closes h (suc k) w r =
    subst (λ (m : ℕ). right_each (λ b. right (straight n) closes k (w adding b)) (next (straight n) w) (copies m (full k)) ≡ true)
    (free_number n small w r.allowed (suc k) r.total)
    (copies_right (λ b. right (straight n) closes k (w adding b)) (full k) (next (straight n) w) (λ b i. full_right n small closes h k (w adding b) (reached_next (straight n) n k w b r i)))

-- ---- a cube without literals

-- its pair with any cube is dead after any choices
bare_dead : (n : ℕ) (w : List ℕ) (P' N' : ℕ) → dead n w 0 0 P' N' ≡ true
unfolding dead separates
bare_dead n w P' N' =
    both (ap not (any_same (λ i. opposed (get_or w i 0) 0 0 P' N' i) (λ i. false) (length w) (λ i _. unopposed (get_or w i 0) i) ∙ any_never (length w)))
    (or_left _ (ap not (any_same (λ i. unplaced w i && cube_names 0 0 i) (λ i. false) n (λ i _. ap (λ (t : Bool). unplaced w i && (t || t)) (has_zero i) ∙ and-false (unplaced w i)) ∙ any_never n)))
  where
    unopposed : (b i : ℕ) → opposed b 0 0 P' N' i ≡ false
    unopposed b i =
        ap (λ (t : Bool). cond (inverted b) t t && has N' (input_of b) || cond (inverted b) t t && has P' (input_of b)) (has_zero i)
        ∙ (elim (inverted b) as (λ t. cond t false false && has N' (input_of b) || cond t false false && has P' (input_of b) ≡ false) [ true ↦ refl | false ↦ refl ])

-- ---- the two functions

-- on at every pattern
abbrev constant : ℕ → List ℕ
constant n = 0x46 ∷ 0x4E ∷ n ∷ 1 ∷ 0 ∷ 0 ∷ 0 ∷ []

-- on where input 0 is 1, off where it is 0
abbrev wire : ℕ → List ℕ
wire n = 0x46 ∷ 0x4E ∷ n ∷ 1 ∷ 1 ∷ 1 ∷ 0 ∷ 0 ∷ 1 ∷ []

-- bytes, and sound as a record: both functions are, by computing
abbrev all_bytes : List ℕ → Bool
all_bytes s = each_in (λ b. ltb b (2 ^ 8)) s

abbrev passes : List ℕ → Bool
passes s = all_bytes s && is_sound (record_fault s)

both_pass : each_in (λ n. passes (constant n) && passes (wire n)) (run 1 8) ≡ true
unfolding each_in run record_fault header_fault header_bytes first_fault cube_code clash_code on_list off_list some_cube cubes_share cube_holds any every bit ◌then◌ byte_fault length_fault
both_pass = refl

bytes_if : (l : List ℕ) → all_bytes l ≡ true → Bytes l
unfolding each_in
bytes_if [] e i = omega arith
bytes_if (b ∷ l) e zero = ltb-true b (2 ^ 8) (both_left (ltb b (2 ^ 8)) (all_bytes l) e)
bytes_if (b ∷ l) e (suc i) = bytes_if l (both_right (ltb b (2 ^ 8)) (all_bytes l) e) i

both_accepted : (n : ℕ) → 1 ≤ n → n ≤ 8 → Accepted (constant n) (wire n)
both_accepted n least most =
    let f = constant n in
    let g = wire n in
    let each = each_at (λ n. passes (constant n) && passes (wire n)) n (run 1 8) both_pass (run_in n 1 8 least (omega arith)) in
    let of_f = both_left (passes f) (passes g) each in
    let of_g = both_right (passes f) (passes g) each in
    record {
      bytes_f = bytes_if f (both_left (all_bytes f) (is_sound (record_fault f)) of_f);
      bytes_g = bytes_if g (both_left (all_bytes g) (is_sound (record_fault g)) of_g);
      fine_f = eqb-true (record_fault f).code 0 (both_right (all_bytes f) (is_sound (record_fault f)) of_f);
      fine_g = eqb-true (record_fault g).code 0 (both_right (all_bytes g) (is_sound (record_fault g)) of_g);
      equal = refl;
    }

-- ---- their longest refusal

full_refusal : (n : ℕ) → n ≤ 16 → IsRefusal (constant n) (wire n) (refusal_claim n (full n) (full n))
unfolding names_pair side against on_list off_list
full_refusal n small = record {
  tree₀ = full n;
  tree₁ = full n;
  right₀ = full_right n small (closes 0 (constant n) (wire n)) (λ w. bare_dead n w 0 1) n [] (reached_start (straight n) n);
  right₁ = full_right n small (closes 1 (constant n) (wire n)) (λ w. bare_dead n w 1 0) n [] (reached_start (straight n) n);
  bytes = refl;
}

-- so the bound on a refusal's length is reached, for 1 to 8 inputs
pub longest_reached : (n : ℕ) → 1 ≤ n → n ≤ 8
    → (f : List ℕ) × (g : List ℕ) × (c : List ℕ) × Accepted f g × IsRefusal f g c × (inputs g ≡ n) × (length c ≡ longest_refusal n)
longest_reached n least most = (
  constant n,
  wire n,
  refusal_claim n (full n) (full n),
  both_accepted n least most,
  full_refusal n (omega arith),
  refl,
  omega (arith, length-append (tree_bytes (full n)) (tree_bytes (full n)), full_length n),
)
