-- What the writer's code 7 names, and that none of its other codes names a pattern: every other answer is accepted, or refused for
-- a size, a cube of its own or the room.
use Prim.Native.Nat.{ℕ, ◌%◌}
use mathlib.Core.Path.{◌≡◌, refl}
use mathlib.Core.List.{List}
use borrow.Author.Tests.{eqb-false}
use lib.Dec.{ltb, eqb}
use lib.ListN.{length}
use Rattle.bits.proofs.Tests.{cond_cases}
use Rattle.answers.specs.declared.Answer.{Answer}
use Rattle.answers.specs.declared.Fault.{Fault}
use Rattle.answers.specs.Answers.{accepted, refused, refused_by, is_sound, by, ◌or_else◌, fits}
use Rattle.answers.proofs.Faults.{Plain, plain, KeptBy, chosen_elim}
use Rattle.records.specs.Records.{cube_code, clash_code, clash_pattern, no_pattern, first_fault}
use Rattle.records.proofs.Places.{first_cases, cube_codes}
use Rattle.records.proofs.Patterns.{ClashNamed, clash_named, clash_kept}
use Rattle.writer.specs.Writing.{record_bytes, few, sizes, cubes, writing}

-- where the on cubes clash with the off cubes
abbrev clash : ℕ → List ℕ → List ℕ → Fault
clash n on off = first_fault (clash_code n off) (clash_pattern n off) on 0

module _ (Q : Answer → Type 0) (good : (kind place : ℕ) → Q (accepted kind place)) (else_plain : (code who place : ℕ) → Plain code → Q (refused code who place)) where
  own_fault : (who : ℕ) (n : ℕ) (l : List ℕ) → Q (refused_by who (first_fault (cube_code n) no_pattern l 0))
  own_fault who n l =
      first_cases (λ (f : Fault). Q (refused_by who f)) (else_plain 0 who 0 (plain 0 refl refl)) (cube_code n) no_pattern l 0
      (λ P N k _. else_plain _ who k (cube_codes Plain (plain 0 refl refl) n P N (plain 5 refl refl) (plain 6 refl refl)))

  sizes_plain : (n : ℕ) (on off : List ℕ) → Q (sizes n on off)
  unfolding sizes few
  sizes_plain n on off =
      cond_cases Q (ltb n 1) _ _ (else_plain 3 0 0 (plain 3 refl refl))
      (cond_cases Q (ltb 8 n) _ _ (else_plain 3 0 0 (plain 3 refl refl))
      (cond_cases Q (eqb (length on % 2) 1) _ _ (else_plain 19 1 _ (plain 19 refl refl))
      (cond_cases Q (eqb (length off % 2) 1) _ _ (else_plain 19 2 _ (plain 19 refl refl))
      (cond_cases Q (ltb 128 (length on)) _ _ (else_plain 4 1 128 (plain 4 refl refl))
      (cond_cases Q (ltb 128 (length off)) _ _ (else_plain 4 2 128 (plain 4 refl refl)) (good 3 0))))))

  writing_plain : (n : ℕ) (on off : List ℕ) (room : ℕ) → (((clash n on off).code ≡ 0 → ⊥) → Q (refused_by 1 (clash n on off))) → Q (writing n on off room)
  unfolding writing cubes by ◌or_else◌ fits
  writing_plain n on off room at_clash =
      cond_cases Q (eqb (sizes n on off).code 0) _ _
      (cond_cases Q (eqb (cubes n on off).code 0) _ _
      (cond_cases Q (ltb room (length (record_bytes n on off))) _ _ (else_plain 18 4 _ (plain 18 refl refl)) (good 3 _))
      (cond_cases Q (is_sound (first_fault (cube_code n) no_pattern on 0)) _ _
      (cond_cases Q (is_sound (first_fault (cube_code n) no_pattern off 0)) _ _
      (chosen_elim Q (clash n on off).code _ _ at_clash (λ _. good 3 0))
      (own_fault 2 n off))
      (own_fault 1 n on)))
      (sizes_plain n on off)

-- code 7 names an on cube and the smallest pattern that it shares with the off list
pub writing_named : (n : ℕ) (on off : List ℕ) (room : ℕ) → (writing n on off room).code ≡ 7 → ClashNamed n on off 0 (writing n on off room).place (writing n on off room).pattern
writing_named n on off room =
    writing_plain (λ (a : Answer). a.code ≡ 7 → ClashNamed n on off 0 a.place a.pattern) (λ kind place e. absurd (eqb-false 0 7 refl e)) (λ code who place p e. absurd (p.0 e)) n on off room
    (λ bad _. clash_named n on off 0 bad)

pub writing_kept : (n : ℕ) (on off : List ℕ) (room : ℕ) → KeptBy (writing n on off room)
writing_kept n on off room = writing_plain KeptBy (λ kind place _. refl) (λ code who place _ _. refl) n on off room (λ _. clash_kept n on off 0)
