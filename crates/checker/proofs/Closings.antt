-- What the reading of a closing tests, one after the other, and the cubes that it tests.
use Prim.Native.Nat.{ℕ, zero, suc, ◌+◌, ◌*◌, ◌<◌}
use mathlib.Core.Path.{◌≡◌, refl, sym, ap₂, ◌∙◌}
use mathlib.Core.Bool.{Bool, true, false, cond}
use mathlib.Core.List.{List, [], ◌∷◌}
use borrow.Author.Tests.{leb-false, lt-leb, ltb-true, lt-ltb}
use native.Mathlib.Omega.{arith}
use lib.Dec.{leb, ltb}
use lib.ListN.{length, get_or}
use Rattle.answers.specs.declared.Fault.{Fault}
use Rattle.answers.specs.Answers.{fault, sound, byte_fault, ◌then◌}
use Rattle.answers.proofs.Faults.{then_assoc, then_next, then_both}
use Rattle.cubes.specs.Values.{in_pairs}
use Rattle.wirings.specs.Pairs.{cubes_in, side, against, of_pair, dead}
use Rattle.claims.specs.Reading.{read_to}
use Rattle.checker.specs.Checking.{index_fault, closing_fault}

-- an index without fault is there, and below the number of cubes
pub record Index (c : List ℕ) (k number : ℕ) : Type 0 where
  pub there : k < length c
  pub below : get_or c k 0 < number

pub index_sound : (c : List ℕ) (k number : ℕ) → (index_fault c k number).code ≡ 0 → Index c k number
unfolding index_fault
index_sound c k number e = go (leb (length c) k) (ltb (get_or c k 0) number) refl refl e
  where
    go : (short less : Bool) → leb (length c) k ≡ short → ltb (get_or c k 0) number ≡ less
        → (cond short (fault 1 (length c)) (cond less sound (fault 15 k))).code ≡ 0 → Index c k number
    go true less p q h = absurd (omega (arith, h))
    go false true p q h = record { there = leb-false _ _ p; below = ltb-true _ _ q }
    go false false p q h = absurd (omega (arith, h))

-- and one that is there and below it has no fault
pub index_good : (c : List ℕ) (k number : ℕ) → Index c k number → index_fault c k number ≡ sound
unfolding index_fault
index_good c k number h = simp (lt-leb _ _ h.there, lt-ltb _ _ h.below)

-- the fault of u, the fault of v, and whether their pair is dead
abbrev pub u_fault : List ℕ → List ℕ → ℕ → Fault
u_fault f c at = index_fault c (at + 1) (cubes_in (side (get_or c at 0) f))

abbrev pub v_fault : ℕ → List ℕ → List ℕ → ℕ → Fault
v_fault q g c at = index_fault c (at + 2) (cubes_in (side (against q (get_or c at 0)) g))

abbrev pub named_dead : ℕ → ℕ → List ℕ → List ℕ → List ℕ → List ℕ → ℕ → Bool
named_dead n q f g c w at = of_pair q f g (dead n w) (get_or c at 0, get_or c (at + 1) 0, get_or c (at + 2) 0)

-- test by test
pub closing_steps : (n q : ℕ) (f g c w : List ℕ) (at : ℕ)
    → closing_fault n q f g c w at ≡ byte_fault c at 0 1 15 then (u_fault f c at then (v_fault q g c at then (cond (named_dead n q f g c w at) sound (fault 17 at) then read_to (at + 3))))
unfolding closing_fault
closing_steps n q f g c w at =
    let d = cond (named_dead n q f g c w at) sound (fault 17 at) then read_to (at + 3) in
    then_assoc _ (cond (named_dead n q f g c w at) sound (fault 17 at)) (read_to (at + 3)) ∙ then_assoc _ (v_fault q g c at) d ∙ then_assoc _ (u_fault f c at) (v_fault q g c at then d)

-- without fault it is read to its end
pub closing_ends : (n q : ℕ) (f g c w : List ℕ) (at : ℕ) → (closing_fault n q f g c w at).code ≡ 0 → closing_fault n q f g c w at ≡ read_to (at + 3)
unfolding closing_fault
closing_ends n q f g c w at e = then_next _ (read_to (at + 3)) (then_both _ (read_to (at + 3)) e).0

-- ---- cube k of a list, among its pairs

pub pairs_number : (l : List ℕ) → length (in_pairs l) ≡ cubes_in l
unfolding in_pairs
pairs_number [] = refl
pairs_number (P ∷ []) = refl
pairs_number (P ∷ N ∷ l) = omega (arith, pairs_number l)

pub pair_at : (l : List ℕ) (k : ℕ) (d : List ℕ) → k < cubes_in l → get_or (in_pairs l) k d ≡ get_or l (2 * k) 0 ∷ get_or l (2 * k + 1) 0 ∷ []
unfolding in_pairs
pair_at [] k d h = absurd (omega (arith, h))
pair_at (P ∷ []) k d h = absurd (omega (arith, h))
pair_at (P ∷ N ∷ l) zero d h = refl
pair_at (P ∷ N ∷ l) (suc k) d h =
    let pos : 2 * suc k ≡ suc (suc (2 * k)) = omega arith in
    let neg : 2 * suc k + 1 ≡ suc (suc (2 * k + 1)) = omega arith in
    pair_at l k d (omega (arith, h))
    ∙ ap₂ (λ (i j : ℕ). get_or (P ∷ N ∷ l) i 0 ∷ get_or (P ∷ N ∷ l) j 0 ∷ []) (sym pos) (sym neg)
