-- The cases of document 01 that are marked *, as one table under one claim, proved from the definitions by computing.
use Prim.Native.Nat.{ℕ}
use mathlib.Core.Path.{◌≡◌, refl}
use mathlib.Core.List.{List, [], ◌∷◌, ◌++◌, flat_map}
use lib.ListN.{length, replicate}
use Rattle.bits.specs.Bits.{bit, number, every, any, count, smallest, or_next, or_zero}
use Rattle.cubes.specs.Cubes.{cube_holds, cubes_share, some_cube, least_with, patterns_held, inputs_used}
use Rattle.answers.specs.declared.Answer.{Answer}
use Rattle.answers.specs.Answers.{accepted, refused, ◌then◌, by, ◌or_else◌, byte_fault, length_fault, fits, buffer_after}
use Rattle.rules.specs.Lists.{run, filter, first, some_in}
use Rattle.rules.specs.Rules.{completions}
use Rattle.records.specs.Records.{on_list, off_list, cube_code, clash_code, clash_pattern, first_fault, header_bytes, header_fault, record_fault, both_read, with_figures, summing}
use Rattle.wirings.specs.Wirings.{choices_from, served, read_at, disagree_at, agrees, disagreement, wirings}
use Rattle.wirings.specs.Pairs.{separates, dead, side, against, pairs, first_dead}
use Rattle.claims.specs.Trees.{tree_bytes, trees_bytes, closed_by, tree_each, own}
use Rattle.claims.specs.Claims.{own_tree}
use Rattle.claims.specs.Reading.{◌onward◌, in_turn, read_tree}
use Rattle.checker.specs.Checking.{header_fault as claim_header, choice_code, choices_fault, agreement_fault, match_fault, index_fault, closing_fault, tree_fault, refusal_fault, claim_fault, kind_of, checking}
use Rattle.matcher.specs.Matching.{first_agreeing, claim_of, kind_found, claim_for, matching}
use Rattle.tables.specs.Tables.{record_of, table_reading, table_of, table_writing}

-- ---- the functions of "Small functions to try"

abbrev pub conj_record : List ℕ
conj_record = 0x46 ∷ 0x4E ∷ 0x02 ∷ 0x01 ∷ 0x02 ∷ 0x03 ∷ 0x00 ∷ 0x00 ∷ 0x01 ∷ 0x00 ∷ 0x02 ∷ []

abbrev pub disj_record : List ℕ
disj_record = 0x46 ∷ 0x4E ∷ 0x02 ∷ 0x02 ∷ 0x01 ∷ 0x01 ∷ 0x00 ∷ 0x02 ∷ 0x00 ∷ 0x00 ∷ 0x03 ∷ []

abbrev pub odd_record : List ℕ
odd_record = 0x46 ∷ 0x4E ∷ 0x02 ∷ 0x02 ∷ 0x02 ∷ 0x01 ∷ 0x02 ∷ 0x02 ∷ 0x01 ∷ 0x03 ∷ 0x00 ∷ 0x00 ∷ 0x03 ∷ []

abbrev pub const_record : List ℕ
const_record = 0x46 ∷ 0x4E ∷ 0x01 ∷ 0x01 ∷ 0x00 ∷ 0x00 ∷ 0x00 ∷ []

abbrev pub wire_record : List ℕ
wire_record = 0x46 ∷ 0x4E ∷ 0x01 ∷ 0x01 ∷ 0x01 ∷ 0x01 ∷ 0x00 ∷ 0x00 ∷ 0x01 ∷ []

abbrev pub open_record : List ℕ
open_record = 0x46 ∷ 0x4E ∷ 0x01 ∷ 0x00 ∷ 0x00 ∷ []

-- ---- the claims that it names

abbrev pub conj_disj_claim : List ℕ
conj_disj_claim = 0x4D ∷ 0x54 ∷ 0x02 ∷ 0x01 ∷ 0x10 ∷ 0x11 ∷ []

abbrev pub conj_odd_claim : List ℕ
conj_odd_claim =
    0x52 ∷ 0x46 ∷ 0x02
    ∷ 0xFF ∷ 0x01 ∷ 0x00 ∷ 0x01 ∷ 0x01 ∷ 0x00 ∷ 0x00 ∷ 0x01 ∷ 0x00 ∷ 0x00 ∷ 0x01 ∷ 0x00 ∷ 0x01
    ∷ 0xFF ∷ 0x01 ∷ 0x00 ∷ 0x01 ∷ 0x01 ∷ 0x00 ∷ 0x00 ∷ 0x01 ∷ 0x00 ∷ 0x01 ∷ 0x01 ∷ 0x00 ∷ 0x00 ∷ []

abbrev pub const_wire_claim : List ℕ
const_wire_claim = 0x52 ∷ 0x46 ∷ 0x01 ∷ 0x00 ∷ 0x00 ∷ 0x00 ∷ 0x00 ∷ 0x00 ∷ 0x00 ∷ []

-- a match claim for one input: q, and its choice
abbrev pub one_input : ℕ → ℕ → List ℕ
one_input q b = 0x4D ∷ 0x54 ∷ 0x01 ∷ q ∷ b ∷ []

-- ---- the rows: what a call is asked, and what it has to answer

pub data Row : Type 0 where
  summary_of : List ℕ → ℕ → ℕ → ℕ → Row
  check_of : List ℕ → List ℕ → List ℕ → Answer → Row
  match_of : List ℕ → List ℕ → List ℕ → Answer → List ℕ → Row
  reads_of : List ℕ → List ℕ → Answer → List ℕ → Row
  writes_of : List ℕ → List ℕ → Answer → List ℕ → Row

abbrev pub Right : Row → Type 0
Right (summary_of s on off used) = summing s ≡ with_figures (accepted 3 (length s)) on off used
Right (check_of f g c answer) = checking f g c ≡ answer
Right (match_of f g before answer after) = (matching f g (length before) ≡ answer) × (buffer_after answer (claim_for f g) before ≡ after)
Right (reads_of text before answer after) = (table_reading text (length before) ≡ answer) × (buffer_after answer (record_of text) before ≡ after)
Right (writes_of s before answer after) = (table_writing s (length before) ≡ answer) × (buffer_after answer (table_of s) before ≡ after)

abbrev pub AllRight : List Row → Type 0
AllRight [] = Unit {0}
AllRight (row ∷ rows) = Right row × AllRight rows

abbrev pub starred : List Row
starred =
    match_of conj_record disj_record (replicate 8 0xEE) (accepted 1 6) (conj_disj_claim ++ replicate 2 0xEE)
    ∷ check_of conj_record disj_record conj_disj_claim (accepted 1 6)
    ∷ match_of conj_record odd_record (replicate 31 0xEE) (accepted 2 29) (conj_odd_claim ++ replicate 2 0xEE)
    ∷ check_of conj_record odd_record conj_odd_claim (accepted 2 29)
    ∷ match_of const_record wire_record (replicate 11 0xEE) (accepted 2 9) (const_wire_claim ++ replicate 2 0xEE)
    ∷ check_of const_record wire_record const_wire_claim (accepted 2 9)
    ∷ match_of open_record wire_record (replicate 7 0xEE) (accepted 1 5) (one_input 0x00 0x00 ++ replicate 2 0xEE)
    ∷ check_of open_record wire_record (one_input 0x00 0x00) (accepted 1 5)
    ∷ check_of open_record wire_record (one_input 0x00 0x10) (accepted 1 5)
    ∷ check_of wire_record wire_record (one_input 0x00 0x10) (refused 14 3 0)
    ∷ check_of wire_record wire_record (one_input 0x01 0x10) (accepted 1 5)
    ∷ match_of wire_record conj_record (replicate 7 0xEE) (refused 9 2 2) (replicate 7 0xEE)
    ∷ check_of wire_record conj_record [] (refused 9 2 2)
    ∷ check_of conj_record disj_record (0x4D ∷ 0x54 ∷ 0x02 ∷ 0x01 ∷ 0x10 ∷ 0x10 ∷ []) (refused 13 3 5)
    ∷ check_of const_record wire_record (0x52 ∷ 0x46 ∷ 0x01 ∷ 0xFF ∷ []) (refused 1 3 4)
    ∷ check_of const_record wire_record (0x52 ∷ 0x46 ∷ 0x01 ∷ 0x00 ∷ 0x00 ∷ 0x01 ∷ []) (refused 15 3 5)
    ∷ summary_of conj_record 1 3 2
    ∷ summary_of odd_record 2 2 2
    ∷ summary_of open_record 0 0 0
    ∷ []

pub starred_right : AllRight starred
unfolding flat_map bit number every any count cube_holds cubes_share some_cube patterns_held inputs_used ◌then◌ by ◌or_else◌ byte_fault length_fault fits buffer_after run filter first some_in completions on_list off_list cube_code clash_code first_fault header_bytes header_fault record_fault both_read summing choices_from served read_at disagree_at agrees wirings separates dead side against pairs first_dead tree_bytes trees_bytes closed_by tree_each own own_tree ◌onward◌ in_turn read_tree claim_header choice_code choices_fault match_fault index_fault closing_fault tree_fault refusal_fault claim_fault kind_of checking first_agreeing claim_of kind_found matching smallest or_next or_zero clash_pattern least_with disagreement agreement_fault
starred_right =
    ((refl, refl), (refl, ((refl, refl), (refl, ((refl, refl), (refl, ((refl, refl), (refl, (refl, (refl, (refl, ((refl, refl), (refl, (refl, (refl, (refl, (refl, (refl, (refl, tt)))))))))))))))))))
