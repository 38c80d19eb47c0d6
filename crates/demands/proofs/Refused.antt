-- Wrong versions that the contracts rule out, each at a case: whatever outcome the contract allows there is the right one.
use Prim.Native.Nat.{ℕ, ◌+◌}
use mathlib.Core.Path.{◌≡◌, refl, ap, ◌∙◌}
use mathlib.Core.List.{List, [], ◌∷◌, ◌++◌, flat_map}
use contract.Lifetimes.{Lfts}
use borrow.Fn.Kinds.{Dens, res_t, ended_of}
use denote.MutBor.{at_last}
use Rattle.demands.proofs.Lent.{lending}
use denote.Triple.Clauses.{AtExit}
use lib.ListN.{length, replicate}
use Rattle.bits.specs.Bits.{bit, number, every, any, count, smallest, or_next, or_zero}
use Rattle.cubes.specs.Cubes.{cube_holds, cubes_share, some_cube, least_with}
use Rattle.answers.specs.declared.Answer.{Answer}
use Rattle.answers.specs.Answers.{accepted, refused, refused_at, ◌then◌, ◌or_else◌, by, byte_fault, length_fault, fits, buffer_after, Delivered}
use Rattle.rules.specs.Lists.{run, filter, first, some_in}
use Rattle.rules.specs.Rules.{completions}
use Rattle.records.specs.Records.{on_list, off_list, cube_code, clash_code, clash_pattern, first_fault, header_bytes, header_fault, record_fault, both_read, reading, bytes_at_fault, memory_at_fault}
use Rattle.writer.specs.Writing.{record_bytes, few, sizes, cubes, writing}
use Rattle.wirings.specs.Wirings.{choices_from, served, read_at, disagree_at, agrees, disagreement, wirings}
use Rattle.wirings.specs.Pairs.{separates, dead, side, against, pairs, first_dead}
use Rattle.claims.specs.Trees.{tree_bytes, trees_bytes, closed_by, tree_each, own}
use Rattle.claims.specs.Claims.{own_tree}
use Rattle.claims.specs.Reading.{◌onward◌, in_turn, read_tree}
use Rattle.checker.specs.Checking.{header_fault as claim_header, choice_code, choices_fault, agreement_fault, match_fault, index_fault, closing_fault, tree_fault, refusal_fault, claim_fault, kind_of, checking}
use Rattle.matcher.specs.Matching.{first_agreeing, claim_of, kind_found, claim_for, matching}
use Rattle.demands.proofs.Table.{conj_record, disj_record, odd_record, const_record, wire_record, conj_disj_claim, const_wire_claim, one_input, Row, check_of, match_of, AllRight}
use Rattle.checker.proofs.check.Kinds as check_kinds
use Rattle.checker.proofs.check.Reads as check
use Rattle.matcher.proofs.find.Kinds as find_kinds
use Rattle.matcher.proofs.find.Reads as find
use Rattle.records.proofs.read.Kinds as read_kinds
use Rattle.records.proofs.read.Reads as read
use Rattle.records.proofs.at_fault.Kinds as at_fault_kinds
use Rattle.records.proofs.at_fault.Reads as at_fault
use Rattle.writer.proofs.write.Kinds as write_kinds
use Rattle.writer.proofs.write.Reads as write

-- a reader that tests 6 before 5: of one input, the cube 02 02 names input 1 in both masks, and is refused by 5
pub five_before_six : (κs : Lfts 1) (a : Dens κs read_kinds.ps) (r : (res_t read_kinds.r κs).Denot) (s : AtExit (ended_of 1 read_kinds.ps read_kinds.r) κs)
    → read.Post κs (lending a.0 (0x46 ∷ 0x4E ∷ 1 ∷ 1 ∷ 0 ∷ 2 ∷ 2 ∷ []), tt) r s → r.answer ≡ refused 5 1 5
unfolding bit every any count some_cube ◌then◌ byte_fault length_fault on_list off_list cube_code first_fault header_bytes header_fault record_fault reading
five_before_six κs a r s p = ap (λ x. x.answer) p

-- a writer that leaves the buffer untouched: Conj's n and lists, and eleven zeros
pub buffer_written : (κs : Lfts 3) (a : Dens κs write_kinds.ps) (r : (res_t write_kinds.r κs).Denot) (s : AtExit (ended_of 3 write_kinds.ps write_kinds.r) κs)
    → write.Post κs (2, (lending a.1.0 (3 ∷ 0 ∷ []), (lending a.1.1.0 (0 ∷ 1 ∷ 0 ∷ 2 ∷ []), (at_last a.1.1.1.0 (replicate 11 0), tt)))) r s
    → s.1.1.1.0.now ≡ conj_record
unfolding bit every any count cube_holds cubes_share some_cube by ◌or_else◌ buffer_after cube_code clash_code first_fault record_bytes few sizes cubes fits writing smallest or_next or_zero clash_pattern least_with
buffer_written κs a r s p = p.buffer

-- ---- the checker: the answer at each of these cases is settled

pub checker_answers : (κs : Lfts 3) (a : Dens κs check_kinds.ps) (f g c : List ℕ) (answer : Answer) → checking f g c ≡ answer
    → (r : (res_t check_kinds.r κs).Denot) (s : AtExit (ended_of 3 check_kinds.ps check_kinds.r) κs)
    → check.Post κs (lending a.0 f, (lending a.1.0 g, (lending a.1.1.0 c, tt))) r s → r ≡ answer
checker_answers κs a f g c answer e r s p = p ∙ e

-- on at every pattern, with as many inputs as Conj
abbrev const_2_record : List ℕ
const_2_record = 0x46 ∷ 0x4E ∷ 0x02 ∷ 0x01 ∷ 0x00 ∷ 0x00 ∷ 0x00 ∷ []

-- the functions of example 2.1 of the paper
abbrev f_2_1_record : List ℕ
f_2_1_record = 0x46 ∷ 0x4E ∷ 0x03 ∷ 0x02 ∷ 0x01 ∷ 0x00 ∷ 0x03 ∷ 0x04 ∷ 0x01 ∷ 0x05 ∷ 0x00 ∷ []

abbrev g_2_1_record : List ℕ
g_2_1_record = 0x46 ∷ 0x4E ∷ 0x03 ∷ 0x01 ∷ 0x01 ∷ 0x01 ∷ 0x04 ∷ 0x02 ∷ 0x01 ∷ []

-- besides the table's own rows (Conj to Disj is accepted: not one that refuses all; 13 at the second use: not one that gives it at
-- the first), in this order: one that reads the first tree and only skips the second; a closing without the dead test, or 17 at
-- another byte than the node's first; g's index tested against the wrong list with q = 1; on tested against off with q = 1; a split
-- at depth n; bytes after the end; j applied the wrong way round, which would change the last two answers for one another
abbrev pub wrong_checkers : List Row
wrong_checkers =
    check_of const_record wire_record (0x52 ∷ 0x46 ∷ 0x01 ∷ 0x00 ∷ 0x00 ∷ 0x00 ∷ 0x00 ∷ 0x00 ∷ 0x01 ∷ []) (refused 15 3 8)
    ∷ check_of conj_record odd_record (0x52 ∷ 0x46 ∷ 0x02 ∷ 0x00 ∷ 0x00 ∷ 0x00 ∷ []) (refused 17 3 3)
    ∷ check_of const_2_record conj_record (0x52 ∷ 0x46 ∷ 0x02 ∷ 0x00 ∷ 0x00 ∷ 0x01 ∷ 0x00 ∷ 0x00 ∷ 0x01 ∷ []) (refused 15 3 8)
    ∷ check_of wire_record wire_record (one_input 0x01 0x00) (refused 14 3 0)
    ∷ check_of const_record wire_record (0x52 ∷ 0x46 ∷ 0x01 ∷ 0xFF ∷ 0xFF ∷ []) (refused 16 3 4)
    ∷ check_of const_record wire_record (const_wire_claim ++ (0x00 ∷ [])) (refused 8 3 9)
    ∷ check_of f_2_1_record g_2_1_record (0x4D ∷ 0x54 ∷ 0x03 ∷ 0x00 ∷ 0x01 ∷ 0x02 ∷ 0x10 ∷ []) (accepted 1 7)
    ∷ check_of f_2_1_record g_2_1_record (0x4D ∷ 0x54 ∷ 0x03 ∷ 0x00 ∷ 0x12 ∷ 0x00 ∷ 0x01 ∷ []) (refused_at 14 3 0 3)
    ∷ []

pub wrong_checkers_ruled_out : AllRight wrong_checkers
unfolding bit number every any count cube_holds cubes_share some_cube ◌then◌ by ◌or_else◌ byte_fault length_fault filter some_in on_list off_list cube_code clash_code first_fault header_bytes header_fault record_fault both_read choices_from served read_at disagree_at agrees separates dead side against ◌onward◌ in_turn read_tree claim_header choice_code choices_fault match_fault index_fault closing_fault tree_fault refusal_fault claim_fault kind_of checking smallest or_next or_zero clash_pattern least_with disagreement agreement_fault
wrong_checkers_ruled_out = (refl, (refl, (refl, (refl, (refl, (refl, (refl, (refl, tt))))))))

-- ---- the matcher: the answer at each of these cases is settled, and so is the buffer afterwards

-- of a call that lends a buffer: what the contract names is the outcome
pub delivered_as : (named : Answer) (bytes before after : List ℕ) (r answer : Answer) (left : List ℕ) → Delivered named bytes before after r
    → (named ≡ answer) × (buffer_after answer bytes before ≡ left) → (r ≡ answer) × (after ≡ left)
delivered_as named bytes before after r answer left d e =
    (d.returned ∙ e.0, d.buffer ∙ ap (λ (x : Answer). buffer_after x bytes before) e.0 ∙ e.1)

pub matcher_answers : (κs : Lfts 3) (a : Dens κs find_kinds.ps) (f g before after : List ℕ) (answer : Answer)
    → (matching f g (length before) ≡ answer) × (buffer_after answer (claim_for f g) before ≡ after)
    → (r : (res_t find_kinds.r κs).Denot) (s : AtExit (ended_of 3 find_kinds.ps find_kinds.r) κs)
    → find.Post κs (lending a.0 f, (lending a.1.0 g, (at_last a.1.1.0 before, tt))) r s → (r ≡ answer) × (s.1.1.0.now ≡ after)
matcher_answers κs a f g before after answer e r s p = delivered_as _ _ _ _ r answer after p e

-- f is on where x2·x0' and off where x2', g on where y0·y1' and off where y0': the first wiring is x0 = y0', x1 = y2, x2 = y1'. With j
-- the wrong way round the bytes would be 10 12 01
abbrev f_round_record : List ℕ
f_round_record = 0x46 ∷ 0x4E ∷ 0x03 ∷ 0x01 ∷ 0x01 ∷ 0x04 ∷ 0x01 ∷ 0x00 ∷ 0x04 ∷ []

abbrev g_round_record : List ℕ
g_round_record = 0x46 ∷ 0x4E ∷ 0x03 ∷ 0x01 ∷ 0x01 ∷ 0x01 ∷ 0x02 ∷ 0x00 ∷ 0x01 ∷ []

-- besides the table's own rows (Conj to Disj: not the straight wiring, not a buffer left untouched, not a byte past the claim's end;
-- Open to Wire: not open read as off, not the last agreeing wiring), in this order: 18 given when the buffer is exactly long enough,
-- and not given when it is a byte too short, or the buffer written all the same; on tested against off with q = 1; j applied the
-- wrong way round; a tree closed with another dead pair than the first: both off cubes of Conj make one with the constant's cube
abbrev pub wrong_matchers : List Row
wrong_matchers =
    match_of conj_record disj_record (replicate 6 0xEE) (accepted 1 6) conj_disj_claim
    ∷ match_of conj_record disj_record (replicate 5 0xEE) (refused 18 4 6) (replicate 5 0xEE)
    ∷ match_of wire_record const_record (replicate 9 0xEE) (accepted 2 9) (0x52 ∷ 0x46 ∷ 0x01 ∷ 0x01 ∷ 0x00 ∷ 0x00 ∷ 0x00 ∷ 0x00 ∷ 0x00 ∷ [])
    ∷ match_of f_round_record g_round_record (replicate 7 0xEE) (accepted 1 7) (0x4D ∷ 0x54 ∷ 0x03 ∷ 0x00 ∷ 0x10 ∷ 0x02 ∷ 0x11 ∷ [])
    ∷ match_of const_2_record conj_record (replicate 9 0xEE) (accepted 2 9) (0x52 ∷ 0x46 ∷ 0x02 ∷ 0x00 ∷ 0x00 ∷ 0x00 ∷ 0x00 ∷ 0x00 ∷ 0x00 ∷ [])
    ∷ []

pub wrong_matchers_ruled_out : AllRight wrong_matchers
unfolding flat_map bit number every any count cube_holds cubes_share some_cube ◌then◌ by ◌or_else◌ byte_fault length_fault fits buffer_after run filter first some_in completions on_list off_list cube_code clash_code first_fault header_bytes header_fault record_fault both_read choices_from served read_at disagree_at agrees wirings separates dead side against pairs first_dead tree_bytes trees_bytes closed_by tree_each own own_tree first_agreeing claim_of kind_found matching smallest or_next or_zero clash_pattern least_with
wrong_matchers_ruled_out = ((refl, refl), ((refl, refl), ((refl, refl), ((refl, refl), ((refl, refl), tt)))))

-- ---- the bytes at fault

-- a fault call that hands back bytes of f for a fault of g: Conj is sound, and g's first cube is at fault
pub fault_of_g : (κs : Lfts 1) (a : Dens κs at_fault_kinds.ps) (r : (res_t at_fault_kinds.r κs).Denot) (s : AtExit (ended_of 1 at_fault_kinds.ps at_fault_kinds.r) κs)
    → at_fault.Post κs (lending a.0 conj_record, (lending a.1.0 (0x46 ∷ 0x4E ∷ 1 ∷ 1 ∷ 0 ∷ 2 ∷ 2 ∷ []), tt)) r s
    → (r.ref_ptr ≡ (a.1.0.ref_ptr.0, 5 + a.1.0.ref_ptr.1)) × (r.now ≡ 2 ∷ 2 ∷ [])
unfolding bit every any count cube_holds cubes_share some_cube ◌then◌ byte_fault length_fault on_list off_list cube_code clash_code first_fault header_bytes header_fault record_fault bytes_at_fault memory_at_fault smallest or_next or_zero clash_pattern least_with
fault_of_g κs a r s p = (p.memory, p.bytes)
