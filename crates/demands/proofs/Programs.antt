-- What the programs print at cases of document 01, by computing from the definitions, and over the contracts of `match_lines` and
-- `check_lines`. Text is ASCII; each line of it stands as a comment.
use Prim.Native.Nat.{ℕ, ◌≤◌}
use mathlib.Core.Path.{◌≡◌, refl}
use mathlib.Core.List.{List, [], ◌∷◌, ◌++◌, flat_map}
use native.Mathlib.Omega.{arith}
use contract.Lifetimes.{Lfts}
use borrow.Fn.Kinds.{Dens, res_t, ended_of}
use denote.Triple.Clauses.{AtExit}
use lib.ListN.{length}
use Rattle.bits.specs.Bits.{bit, number, every, any, count, smallest, or_next, or_zero}
use Rattle.cubes.specs.Cubes.{cube_holds, cubes_share, some_cube, least_with}
use Rattle.answers.specs.Answers.{◌then◌, by, ◌or_else◌, byte_fault, length_fault, fits}
use Rattle.rules.specs.Lists.{run, filter, first, some_in}
use Rattle.rules.specs.Rules.{completions}
use Rattle.records.specs.Records.{on_list, off_list, cube_code, clash_code, clash_pattern, first_fault, header_bytes, header_fault, record_fault, both_read}
use Rattle.wirings.specs.Wirings.{choices_from, served, read_at, disagree_at, agrees, disagreement, wirings}
use Rattle.wirings.specs.Pairs.{separates, dead, side, against, pairs, first_dead}
use Rattle.claims.specs.Trees.{tree_bytes, trees_bytes, closed_by, tree_each, own}
use Rattle.claims.specs.Claims.{own_tree}
use Rattle.claims.specs.Reading.{◌onward◌, in_turn, read_tree}
use Rattle.checker.specs.Checking.{header_fault as claim_header, choice_code, choices_fault, agreement_fault, match_fault, index_fault, closing_fault, tree_fault, refusal_fault, claim_fault, kind_of, checking}
use Rattle.matcher.specs.Matching.{first_agreeing, claim_of, kind_found, matching}
use Rattle.words.specs.Words.{decimal_within, line}
use Rattle.lines.specs.Lines.{answer_line, text, match_text, match_lines, check_text, check_lines}
use Rattle.answers.proofs.Stores.{Stands, leaves_stands}
use Rattle.lines.proofs.match_lines.Kinds as match_kinds
use Rattle.lines.proofs.match_lines.Reads as match
use Rattle.lines.proofs.check_lines.Kinds as check_kinds
use Rattle.lines.proofs.check_lines.Reads as check
use Rattle.demands.proofs.Table.{conj_record, disj_record, odd_record, wire_record, conj_disj_claim}

-- `0 1 0 6 0`, LF
abbrev accepted_six : List ℕ
accepted_six = 0x30 ∷ 0x20 ∷ 0x31 ∷ 0x20 ∷ 0x30 ∷ 0x20 ∷ 0x36 ∷ 0x20 ∷ 0x30 ∷ 0x0A ∷ []

-- `4D 54 02 01 10 11`, LF
abbrev claim_in_hex : List ℕ
claim_in_hex = 0x34 ∷ 0x44 ∷ 0x20 ∷ 0x35 ∷ 0x34 ∷ 0x20 ∷ 0x30 ∷ 0x32 ∷ 0x20 ∷ 0x30 ∷ 0x31 ∷ 0x20 ∷ 0x31 ∷ 0x30 ∷ 0x20 ∷ 0x31 ∷ 0x31 ∷ 0x0A ∷ []

pub record Printed : Type 0 where
  -- 01's own example, and the same with bytes after g
  pub conj_disj : match_lines (conj_record ++ disj_record) ≡ accepted_six ++ claim_in_hex
  pub ignored : match_lines (conj_record ++ (disj_record ++ odd_record)) ≡ accepted_six ++ claim_in_hex
  -- nothing at all: `1 0 1 0 0`
  pub nothing : match_lines [] ≡ 0x31 ∷ 0x20 ∷ 0x30 ∷ 0x20 ∷ 0x31 ∷ 0x20 ∷ 0x30 ∷ 0x20 ∷ 0x30 ∷ 0x0A ∷ []
  -- fewer than five bytes are all f: `3 0 1 2 0`
  pub few : match_lines (0x46 ∷ 0x4E ∷ 0x00 ∷ []) ≡ 0x33 ∷ 0x20 ∷ 0x30 ∷ 0x20 ∷ 0x31 ∷ 0x20 ∷ 0x32 ∷ 0x20 ∷ 0x30 ∷ 0x0A ∷ []
  -- a refusal shows no claim: `9 0 2 2 0`
  pub differ : match_lines (wire_record ++ conj_record) ≡ 0x39 ∷ 0x20 ∷ 0x30 ∷ 0x20 ∷ 0x32 ∷ 0x20 ∷ 0x32 ∷ 0x20 ∷ 0x30 ∷ 0x0A ∷ []
  -- the check program prints the first line only; the rest is the claim, here 01's, and here with a byte after it: `8 0 3 6 0`
  pub checked : check_lines (conj_record ++ (disj_record ++ conj_disj_claim)) ≡ accepted_six
  pub longer : check_lines (conj_record ++ (disj_record ++ (conj_disj_claim ++ (0x00 ∷ [])))) ≡ 0x38 ∷ 0x20 ∷ 0x30 ∷ 0x20 ∷ 0x33 ∷ 0x20 ∷ 0x36 ∷ 0x20 ∷ 0x30 ∷ 0x0A ∷ []
  -- a wiring under which they disagree first at pattern 1 of Disj: `14 0 3 0 1`
  pub disagreeing : check_lines (conj_record ++ (disj_record ++ (0x4D ∷ 0x54 ∷ 0x02 ∷ 0x00 ∷ 0x01 ∷ 0x10 ∷ []))) ≡ 0x31 ∷ 0x34 ∷ 0x20 ∷ 0x30 ∷ 0x20 ∷ 0x33 ∷ 0x20 ∷ 0x30 ∷ 0x20 ∷ 0x31 ∷ 0x0A ∷ []

pub printed : Printed
unfolding flat_map bit number every any count cube_holds cubes_share some_cube ◌then◌ by ◌or_else◌ byte_fault length_fault fits run filter first some_in completions on_list off_list cube_code clash_code first_fault header_bytes header_fault record_fault both_read choices_from served read_at disagree_at agrees wirings separates dead side against pairs first_dead tree_bytes trees_bytes closed_by tree_each own own_tree ◌onward◌ in_turn read_tree claim_header choice_code choices_fault match_fault index_fault closing_fault tree_fault refusal_fault claim_fault kind_of checking first_agreeing claim_of kind_found matching decimal_within line answer_line text match_text match_lines check_text check_lines smallest or_next or_zero clash_pattern least_with disagreement agreement_fault
printed = record { conj_disj = refl; ignored = refl; nothing = refl; few = refl; differ = refl; checked = refl; longer = refl; disagreeing = refl }

-- ---- over the contracts: with room for the longest text, the whole text stands at the buffer's start, whatever the input is

pub match_prints : (κs : Lfts 2) (a : Dens κs match_kinds.ps) (r : (res_t match_kinds.r κs).Denot) (s : AtExit (ended_of 2 match_kinds.ps match_kinds.r) κs)
    → 12325 ≤ length a.1.0.now → match.Post κs a r s → Stands (match_lines a.0.now) a.1.0.now s.1.0.now r
match_prints κs a r s room p = leaves_stands (match_lines a.0.now) a.1.0.now s.1.0.now r p.1 (omega (arith, room, p.0, p.1.returned))

pub check_prints : (κs : Lfts 2) (a : Dens κs check_kinds.ps) (r : (res_t check_kinds.r κs).Denot) (s : AtExit (ended_of 2 check_kinds.ps check_kinds.r) κs)
    → 37 ≤ length a.1.0.now → check.Post κs a r s → Stands (check_lines a.0.now) a.1.0.now s.1.0.now r
check_prints κs a r s room p = leaves_stands (check_lines a.0.now) a.1.0.now s.1.0.now r p.1 (omega (arith, room, p.0, p.1.returned))
