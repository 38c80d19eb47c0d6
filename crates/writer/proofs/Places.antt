-- Every place that the writer tells is within the longest record, but for the length of a list, which may be any: 19. So a host is
-- told each of its other answers as it is.
use Prim.Native.Nat.{ℕ, ◌%◌, ◌≤◌, zero-le}
use mathlib.Core.Path.{◌≡◌, refl}
use mathlib.Core.List.{List}
use native.Mathlib.Omega.{arith}
use lib.Dec.{ltb, eqb}
use lib.ListN.{length}
use Rattle.bits.proofs.Tests.{cond_cases}
use Rattle.answers.specs.declared.Answer.{Answer}
use Rattle.answers.specs.declared.Fault.{Fault}
use Rattle.answers.specs.Answers.{refused_by, fits, by, told, ◌or_else◌}
use Rattle.answers.proofs.Faults.{chosen_elim}
use Rattle.answers.proofs.Told.{told_fits}
use Rattle.records.specs.Records.{first_fault, cube_code, clash_code, clash_pattern, no_pattern}
use Rattle.records.proofs.Places.{first_place}
use Rattle.writer.specs.Writing.{record_bytes, few, sizes, cubes, writing}
use Rattle.writer.proofs.Laws.{Sized, sizes_sound, record_long}

abbrev Near : Answer → Type 0
Near a = (a.code ≡ 19 → ⊥) → a.place ≤ 261

sizes_near : (n : ℕ) (on off : List ℕ) → Near (sizes n on off)
unfolding sizes few
sizes_near n on off =
    let few_told : 128 ≤ 261 = omega arith in
    cond_cases Near (ltb n 1) _ _ (λ _. zero-le)
    (cond_cases Near (ltb 8 n) _ _ (λ _. zero-le)
    (cond_cases Near (eqb (length on % 2) 1) _ _ (λ h. absurd (h refl))
    (cond_cases Near (eqb (length off % 2) 1) _ _ (λ h. absurd (h refl))
    (cond_cases Near (ltb 128 (length on)) _ _ (λ _. few_told)
    (cond_cases Near (ltb 128 (length off)) _ _ (λ _. few_told) (λ _. zero-le))))))

by_near : (who : ℕ) (f : Fault) (next : Answer) → f.place ≤ 261 → Near next → Near (by who f next)
unfolding by
by_near who f next h later = chosen_elim Near f.code next (refused_by who f) (λ _ _. h) (λ _. later)

cubes_near : (n : ℕ) (on off : List ℕ) → Sized n on off → Near (cubes n on off)
unfolding cubes
cubes_near n on off s =
    by_near 1 _ _ (within (cube_code n) no_pattern on s.on_few)
    (by_near 2 _ _ (within (cube_code n) no_pattern off s.off_few)
    (by_near 1 _ _ (within (clash_code n off) (clash_pattern n off) on s.on_few) (λ _. zero-le)))
  where
    within : (code pattern : ℕ → ℕ → ℕ) (l : List ℕ) → length l ≤ 128 → (first_fault code pattern l 0).place ≤ 261
    within code pattern l h = omega (arith, first_place code pattern l 0)

fits_near : (n : ℕ) (on off : List ℕ) (room : ℕ) → Sized n on off → Near (fits 3 room (length (record_bytes n on off)))
unfolding fits
fits_near n on off room s =
    let long : length (record_bytes n on off) ≤ 261 = omega (arith, record_long n on off, s.on_few, s.off_few) in
    cond_cases Near (ltb room (length (record_bytes n on off))) _ _ (λ _. long) (λ _. long)

pub writing_place : (n : ℕ) (on off : List ℕ) (room : ℕ) → ((writing n on off room).code ≡ 19 → ⊥) → (writing n on off room).place ≤ 261
unfolding writing ◌or_else◌
writing_place n on off room =
    chosen_elim Near (sizes n on off).code _ _ (λ _. sizes_near n on off)
    (λ z.
    let s = sizes_sound n on off z in
    chosen_elim Near (cubes n on off).code _ _ (λ _. cubes_near n on off s) (λ _. fits_near n on off room s))

pub writing_told : (n : ℕ) (on off : List ℕ) (room : ℕ) → ((writing n on off room).code ≡ 19 → ⊥) → told (writing n on off room) ≡ writing n on off room
writing_told n on off room h = let most = writing_place n on off room h in told_fits _ (omega (arith, most))
