-- The bytes at fault: the faults of f and g say which part of which record is handed back.
use Prim.Native.Nat.{ℕ, ◌+◌, ◌-◌, ◌≤◌}
use mathlib.Core.Path.{◌≡◌, ◌∙◌, sym, ap, subst}
use mathlib.Core.Bool.{true, false}
use mathlib.Core.List.{List, []}
use borrow.Author.Tests.{eq-eqb, ne_eqb}
use native.Mathlib.Nat.{add-sub_cancel_left}
use lib.ListN.{length, take, drop}
use Rattle.std.proofs.Common.{Ok, Err}
use Rattle.answers.specs.declared.Fault.{Fault}
use Rattle.answers.specs.Verdicts.{verdict}
use Rattle.answers.proofs.Verdicts.{verdict_ok, verdict_err}
use Rattle.records.specs.Records.{is_cubes, record_fault, bytes_at_fault, memory_at_fault, AtFault}
use Rattle.records.proofs.Places.{cubes_place, sound_no_cube}

-- the part that the code takes, for a fault F in a record that lies at `at`
abbrev place_in : Fault → ℕ × ℕ → ℕ × ℕ
place_in F at = (at.0, F.place + at.1)

abbrev part_in : Fault → List ℕ → List ℕ
part_in F s = take (F.place + 2 - F.place) (drop F.place s)

two : (F : Fault) (s : List ℕ) → part_in F s ≡ take 2 (drop F.place s)
two F s = ap (λ (k : ℕ). take k (drop F.place s)) (add-sub_cancel_left F.place 2)

-- the part ends within the record
pub part_within : (s : List ℕ) (F : Fault) → verdict (record_fault s) ≡ Err F → is_cubes F ≡ true → F.place + 2 ≤ length s
part_within s F e = subst (λ (G : Fault). is_cubes G ≡ true → G.place + 2 ≤ length s) (sym (verdict_err _ F e).is) (cubes_place s)

-- the four ends
module _ (f g : List ℕ) (at_f at_g : ℕ × ℕ) (F : Fault) where
  module _ (e : verdict (record_fault f) ≡ Err F) where
    pub in_f : is_cubes F ≡ true → AtFault f g at_f at_g (place_in F at_f) (part_in F f)
    unfolding bytes_at_fault memory_at_fault
    in_f =
        subst (λ (F : Fault). is_cubes F ≡ true → AtFault f g at_f at_g (place_in F at_f) (part_in F f)) (sym (verdict_err _ F e).is)
        (λ h. record { memory = simp h; bytes = simp h (two (record_fault f) f) })

    pub none_in_f : is_cubes F ≡ false → AtFault f g at_f at_g at_f []
    unfolding bytes_at_fault memory_at_fault
    none_in_f h =
        let found = verdict_err _ F e in
        subst (λ (F : Fault). is_cubes F ≡ false → (F.code ≡ 0 → ⊥) → AtFault f g at_f at_g at_f []) (sym found.is)
        (λ h bad. record { memory = simp (h, ne_eqb _ 0 bad); bytes = simp (h, ne_eqb _ 0 bad) }) h found.coded

  module _ (u : Unit {0}) (good : verdict (record_fault f) ≡ Ok u) (e : verdict (record_fault g) ≡ Err F) where
    z : (record_fault f).code ≡ 0
    z = verdict_ok _ u good

    pub in_g : is_cubes F ≡ true → AtFault f g at_f at_g (place_in F at_g) (part_in F g)
    unfolding bytes_at_fault memory_at_fault
    in_g =
        subst (λ (G : Fault). is_cubes G ≡ true → AtFault f g at_f at_g (place_in G at_g) (part_in G g)) (sym (verdict_err _ F e).is)
        (λ h. record { memory = simp (sound_no_cube (record_fault f) z, eq-eqb _ 0 z, h); bytes = simp (sound_no_cube (record_fault f) z, eq-eqb _ 0 z, h) (two (record_fault g) g) })

-- nothing where g has no fault of a cube
module _ (f g : List ℕ) (at_f at_g : ℕ × ℕ) (u : Unit {0}) (good : verdict (record_fault f) ≡ Ok u) where
  pub none_in_g : is_cubes (record_fault g) ≡ false → AtFault f g at_f at_g at_f []
  unfolding bytes_at_fault memory_at_fault
  none_in_g h =
      let z : (record_fault f).code ≡ 0 = verdict_ok _ u good in
      record { memory = simp (sound_no_cube (record_fault f) z, eq-eqb _ 0 z, h); bytes = simp (sound_no_cube (record_fault f) z, eq-eqb _ 0 z, h) }

  pub no_cube_in_g : (F : Fault) → verdict (record_fault g) ≡ Err F → is_cubes F ≡ false → AtFault f g at_f at_g at_f []
  no_cube_in_g F e h = none_in_g (ap is_cubes (sym (verdict_err _ F e).is) ∙ h)

  pub sound_in_g : (v : Unit {0}) → verdict (record_fault g) ≡ Ok v → AtFault f g at_f at_g at_f []
  sound_in_g v e = none_in_g (sound_no_cube (record_fault g) (verdict_ok _ v e))
