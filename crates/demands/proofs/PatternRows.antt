-- W-202 at cases, by computing: the wrong patterns that the contracts rule out.
use Prim.Native.Nat.{ℕ}
use mathlib.Core.Path.{◌≡◌, refl, ap}
use mathlib.Core.List.{List, [], ◌∷◌, flat_map}
use contract.Lifetimes.{Lfts}
use borrow.Fn.Kinds.{Dens, res_t, ended_of}
use denote.MutBor.{at_last}
use Rattle.demands.proofs.Lent.{lending}
use denote.Triple.Clauses.{AtExit}
use lib.ListN.{replicate}
use Rattle.bits.specs.Bits.{bit, number, every, any, smallest, or_next, or_zero}
use Rattle.cubes.specs.Cubes.{cube_holds, cubes_share, some_cube, least_with}
use Rattle.answers.specs.Answers.{accepted, refused_at, ◌then◌, by, ◌or_else◌, byte_fault, length_fault, fits, buffer_after}
use Rattle.records.specs.Records.{on_list, off_list, cube_code, clash_code, clash_pattern, first_fault, header_bytes, header_fault, record_fault, both_read, reading, summing}
use Rattle.writer.specs.Writing.{few, sizes, cubes, writing}
use Rattle.wirings.specs.Wirings.{served, read_at, disagree_at, agrees, disagreement}
use Rattle.checker.specs.Checking.{header_fault as claim_header, choice_code, choices_fault, agreement_fault, match_fault, claim_fault, kind_of, checking}
use Rattle.matcher.specs.Matching.{matching}
use Rattle.rules.specs.Lists.{some_in}
use Rattle.demands.proofs.Table.{conj_record, disj_record, wire_record, conj_disj_claim, Row, check_of, match_of, AllRight}
use Rattle.records.proofs.read.Kinds as read_kinds
use Rattle.records.proofs.read.Reads as read
use Rattle.records.proofs.summary.Kinds as summary_kinds
use Rattle.records.proofs.summary.Reads as summary
use Rattle.writer.proofs.write.Kinds as write_kinds
use Rattle.writer.proofs.write.Reads as write

-- ---- code 7

-- on cubes x1 and x0', off cubes x0·x1 and x0'. The first on cube shares 3 with the first off cube and 2 with the second; the second on
-- cube shares 0 with the second off cube
abbrev twice_record : List ℕ
twice_record = 0x46 ∷ 0x4E ∷ 2 ∷ 2 ∷ 2 ∷ 2 ∷ 0 ∷ 0 ∷ 1 ∷ 3 ∷ 0 ∷ 0 ∷ 1 ∷ []

-- the answer is 2: not 3, the largest and the first off cube's; not 0, that of another on cube than the named one
pub smallest_of_the_named : (κs : Lfts 1) (a : Dens κs read_kinds.ps) (r : (res_t read_kinds.r κs).Denot) (s : AtExit (ended_of 1 read_kinds.ps read_kinds.r) κs)
    → read.Post κs (lending a.0 twice_record, tt) r s → r.answer ≡ refused_at 7 1 5 2
unfolding bit every any cube_holds cubes_share some_cube least_with smallest or_next or_zero ◌then◌ byte_fault length_fault on_list off_list cube_code clash_code clash_pattern first_fault header_bytes header_fault record_fault reading
smallest_of_the_named κs a r s p = ap (λ x. x.answer) p

pub smallest_in_a_summary : (κs : Lfts 1) (a : Dens κs summary_kinds.ps) (r : (res_t summary_kinds.r κs).Denot) (s : AtExit (ended_of 1 summary_kinds.ps summary_kinds.r) κs)
    → summary.Post κs (lending a.0 twice_record, tt) r s → r.answer ≡ refused_at 7 1 5 2
unfolding bit every any cube_holds cubes_share some_cube least_with smallest or_next or_zero ◌then◌ byte_fault length_fault on_list off_list cube_code clash_code clash_pattern first_fault header_bytes header_fault record_fault summing
smallest_in_a_summary κs a r s p = ap (λ x. x.answer) p

-- and so from the writer, at the cube's place in its list
pub smallest_when_written : (κs : Lfts 3) (a : Dens κs write_kinds.ps) (r : (res_t write_kinds.r κs).Denot) (s : AtExit (ended_of 3 write_kinds.ps write_kinds.r) κs)
    → write.Post κs (2, (lending a.1.0 (2 ∷ 0 ∷ 0 ∷ 1 ∷ []), (lending a.1.1.0 (3 ∷ 0 ∷ 0 ∷ 1 ∷ []), (at_last a.1.1.1.0 (replicate 13 0), tt)))) r s → r ≡ refused_at 7 1 0 2
unfolding bit every any cube_holds cubes_share some_cube least_with smallest or_next or_zero by ◌or_else◌ cube_code clash_code clash_pattern first_fault few sizes cubes writing
smallest_when_written κs a r s p = p.returned

-- ---- the checker and the matcher

-- on at 3 and at 1, by two cubes in this order, and nowhere off
abbrev on_twice_record : List ℕ
on_twice_record = 0x46 ∷ 0x4E ∷ 2 ∷ 2 ∷ 0 ∷ 3 ∷ 0 ∷ 1 ∷ 2 ∷ []

-- in this order: read through 01 10, Conj is on at 2 alone, so it disagrees with Disj at 1 and 3, where it is read at 0 and 1: not 3,
-- the largest; not 0, a pattern of f. With the output inverted, On-twice disagrees with itself at 3 and 1: not 3, which the first
-- pair shares. With the output plain it agrees, and no pattern is left in the answer, as in that to 01's claim. Code 7 of g, by
-- the checker and by the matcher, whose buffer stays
abbrev pub pattern_rows : List Row
pattern_rows =
    check_of conj_record disj_record (0x4D ∷ 0x54 ∷ 2 ∷ 0 ∷ 0x01 ∷ 0x10 ∷ []) (refused_at 14 3 0 1)
    ∷ check_of on_twice_record on_twice_record (0x4D ∷ 0x54 ∷ 2 ∷ 1 ∷ 0x00 ∷ 0x01 ∷ []) (refused_at 14 3 0 1)
    ∷ check_of on_twice_record on_twice_record (0x4D ∷ 0x54 ∷ 2 ∷ 0 ∷ 0x00 ∷ 0x01 ∷ []) (accepted 1 6)
    ∷ check_of conj_record disj_record conj_disj_claim (accepted 1 6)
    ∷ check_of wire_record twice_record [] (refused_at 7 2 5 2)
    ∷ match_of wire_record twice_record (replicate 3 0xEE) (refused_at 7 2 5 2) (replicate 3 0xEE)
    ∷ []

pub pattern_rows_right : AllRight pattern_rows
unfolding flat_map bit number every any cube_holds cubes_share some_cube least_with smallest or_next or_zero ◌then◌ by ◌or_else◌ byte_fault length_fault fits buffer_after some_in on_list off_list cube_code clash_code clash_pattern first_fault header_bytes header_fault record_fault both_read served read_at disagree_at agrees disagreement claim_header choice_code choices_fault agreement_fault match_fault claim_fault kind_of checking matching
pattern_rows_right = (refl, (refl, (refl, (refl, (refl, ((refl, refl), tt))))))
