-- The cases of W-201 as one table under one claim, proved from the definitions by computing; and that the contracts of `read_table`
-- and `write_table` allow no other outcome at them. The idea: a case is a text as it would be typed, line by line. Above the rows
-- stands what they are about, and each wrong version that they rule out.
use Prim.Native.Nat.{ℕ, ◌+◌}
use Prim.Native.Char.{code}
use Prim.Native.String.{String, [] as no_text, ◌∷◌ as ◌in_front_of◌}
use mathlib.Core.Path.{◌≡◌, refl}
use mathlib.Core.List.{List, [], ◌∷◌, ◌++◌}
use contract.Lifetimes.{Lfts}
use borrow.Fn.Kinds.{Dens, res_t, ended_of}
use denote.MutBor.{at_last}
use Rattle.demands.proofs.Lent.{lending}
use denote.Triple.Clauses.{AtExit}
use lib.ListN.{length, replicate}
use Rattle.bits.specs.Bits.{bit, number, every, any, count, smallest, or_next, or_zero}
use Rattle.cubes.specs.Cubes.{cube_holds, cubes_share, some_cube, least_with}
use Rattle.answers.specs.declared.Answer.{Answer}
use Rattle.answers.specs.Answers.{accepted, refused, refused_at, ◌then◌, by, byte_fault, length_fault, fits, buffer_after}
use Rattle.rules.specs.Lists.{run, filter, passed_over, some_in, each_in, count_in, same}
use Rattle.records.specs.Records.{on_list, off_list, cube_code, clash_code, clash_pattern, first_fault, header_bytes, header_fault, record_fault}
use Rattle.writer.specs.Writing.{record_bytes}
use Rattle.words.specs.Words.{onto, pieces, read_on, decimal_within, line}
use Rattle.terms.specs.Terms.{keyword_line, says_by, well_formed, term_lines}
use Rattle.rows.specs.Rows.{of_keyword, of_term, is_end, told, line_code, first_faulty, table_fault, up_to_end, cubes_with}
use Rattle.tables.specs.Tables.{record_of, table_reading, table_head, table_of, table_writing}
use Rattle.demands.proofs.Table.{conj_record, open_record, Row, reads_of, writes_of, Right, AllRight}
use Rattle.demands.proofs.Refused.{delivered_as}
use Rattle.tables.proofs.read_table.Kinds as read_kinds
use Rattle.tables.proofs.read_table.Reads as read_table
use Rattle.tables.proofs.write_table.Kinds as write_kinds
use Rattle.tables.proofs.write_table.Reads as write_table

-- ---- texts

unfoldable pub ascii : String → List ℕ
ascii no_text = []
ascii (c in_front_of s) = code c ∷ ascii s

-- each line with its LF
unfoldable pub lines_of : List String → List ℕ
lines_of [] = []
lines_of (l ∷ ls) = ascii l ++ (10 ∷ lines_of ls)

-- the three keywords that must stand, for two inputs
abbrev pub two_inputs : List String → List String
two_inputs ls = ".i 2" ∷ ".o 1" ∷ ".type fr" ∷ ls

-- a table of one input with so many terms
abbrev pub many : ℕ → String → List String → List String
many k term ls = ".i 1" ∷ ".o 1" ∷ ".type fr" ∷ replicate k term ++ ls

-- ---- kinds of rows

-- bytes of a lent buffer that have to stay
abbrev pub free : ℕ → List ℕ
free k = replicate k 0xAA

-- refused at a line, or at a place in the record
abbrev pub stops : ℕ → ℕ → List String → Row
stops code place ls = reads_of (lines_of ls) (free 9) (refused code 1 place) (free 9)

-- read into this record, with two bytes behind it
abbrev pub gives : List ℕ → List String → Row
gives bytes ls = reads_of (lines_of ls) (free (length bytes + 2)) (accepted 3 (length bytes)) (bytes ++ free 2)

-- written as this text, with two bytes behind it
abbrev pub is_written : List ℕ → List String → Row
is_written bytes ls = writes_of bytes (free (length (lines_of ls) + 2)) (accepted 3 (length (lines_of ls))) (lines_of ls ++ free 2)

-- ---- the rows

-- on where both inputs are 1, and nothing else said
abbrev one_record : List ℕ
one_record = 0x46 ∷ 0x4E ∷ 2 ∷ 1 ∷ 0 ∷ 3 ∷ 0 ∷ []

-- inputs 0 and 7 are 1, inputs 3 and 4 are 0
abbrev eight_record : List ℕ
eight_record = 0x46 ∷ 0x4E ∷ 8 ∷ 1 ∷ 0 ∷ 0x81 ∷ 0x18 ∷ []

abbrev pub table_rows : List Row
table_rows =
    -- 20: a value missing, one too many, or another one
    stops 20 1 (".i" ∷ [])
    ∷ stops 20 1 (".i 2 2" ∷ [])
    ∷ stops 20 1 (".i +2" ∷ [])
    ∷ stops 20 1 (".o 2" ∷ [])
    ∷ stops 20 1 (".o 01" ∷ [])
    ∷ stops 20 1 (".type f" ∷ [])
    ∷ stops 20 1 (".p x" ∷ [])
    -- 20: terms without a blank, too long, too short, with a blank inside, with other characters, with no output or two
    ∷ stops 20 4 (two_inputs ("111" ∷ ".e" ∷ []))
    ∷ stops 20 4 (two_inputs ("111 1" ∷ ".e" ∷ []))
    ∷ stops 20 4 (two_inputs ("1 1" ∷ ".e" ∷ []))
    ∷ stops 20 4 (two_inputs ("1 1 1" ∷ ".e" ∷ []))
    ∷ stops 20 4 (two_inputs ("12 1" ∷ ".e" ∷ []))
    ∷ stops 20 4 (two_inputs ("1~ 1" ∷ ".e" ∷ []))
    ∷ stops 20 4 (two_inputs ("11 2" ∷ ".e" ∷ []))
    ∷ stops 20 4 (two_inputs ("11 # 1" ∷ ".e" ∷ []))
    ∷ stops 20 4 (two_inputs ("11 11" ∷ ".e" ∷ []))
    ∷ stops 20 5 (two_inputs ("11 1" ∷ "garbage" ∷ ".e" ∷ []))
    -- 20: a repeated keyword, with a number that is no `.i` too, and after a term. Ruled out: one that takes it
    ∷ stops 20 2 (".i 2" ∷ ".i 2" ∷ ".o 1" ∷ ".type fr" ∷ "11 1" ∷ ".e" ∷ [])
    ∷ stops 20 2 (".i 2" ∷ ".i 9" ∷ [])
    ∷ stops 20 4 (two_inputs (".o 1" ∷ ".e" ∷ []))
    ∷ stops 20 4 (two_inputs (".type fr" ∷ ".e" ∷ []))
    ∷ stops 20 5 (two_inputs (".p 1" ∷ ".p 1" ∷ "11 1" ∷ ".e" ∷ []))
    ∷ stops 20 5 (two_inputs ("11 1" ∷ ".i 2" ∷ ".e" ∷ []))
    -- 21: an unknown keyword
    ∷ stops 21 1 (".i2" ∷ [])
    ∷ stops 21 1 (".I 2" ∷ [])
    ∷ stops 21 4 (two_inputs (".end" ∷ []))
    ∷ stops 21 4 (two_inputs ("." ∷ ".e" ∷ []))
    -- 21: one missing at the first term, malformed or not. Ruled out: 20 before 21 there
    ∷ stops 21 3 (".i 2" ∷ ".o 1" ∷ "11 1" ∷ ".type fr" ∷ ".e" ∷ [])
    ∷ stops 21 3 (".i 2" ∷ ".type fr" ∷ "111" ∷ ".o 1" ∷ ".e" ∷ [])
    ∷ stops 21 1 ("garbage" ∷ [])
    -- 21: one missing at `.e`, whatever `.p` says. Ruled out: 22 before 21 there
    ∷ stops 21 3 (".i 2" ∷ ".o 1" ∷ ".e" ∷ [])
    ∷ stops 21 4 (".o 1" ∷ ".type fr" ∷ ".p 5" ∷ ".e" ∷ [])
    -- 21: no `.e`, at the line after the last, and 1 for the empty text; a last line without LF is a line. Ruled out: lines counted from 0
    ∷ stops 21 1 []
    ∷ stops 21 2 (".i 2" ∷ [])
    ∷ reads_of (ascii ".i 2") (free 5) (refused 21 1 2) (free 5)
    ∷ stops 21 5 (two_inputs ("11 1" ∷ []))
    -- 3, however large the number is, at lines that count the empty ones
    ∷ stops 3 1 (".i 0" ∷ [])
    ∷ stops 3 1 (".i 9" ∷ [])
    ∷ stops 3 1 (".i 258" ∷ [])
    ∷ stops 3 1 (".i 18446744073709551618" ∷ [])
    ∷ stops 3 1 (".i 99999999999999999999" ∷ [])
    ∷ stops 3 4 ("" ∷ "# a comment" ∷ " \t\r" ∷ ".i 9" ∷ [])
    -- the first faulty line, and at `.e` 22, however large the number is
    ∷ stops 3 1 (".i 9" ∷ ".o 2" ∷ [])
    ∷ stops 20 1 (".o 2" ∷ ".i 9" ∷ [])
    ∷ stops 22 6 (two_inputs (".p 2" ∷ "11 1" ∷ ".e" ∷ []))
    ∷ stops 22 6 (two_inputs (".p 0" ∷ "11 1" ∷ ".e" ∷ []))
    ∷ stops 22 5 (two_inputs (".p 1" ∷ ".e" ∷ []))
    ∷ stops 22 6 (two_inputs (".p 18446744073709551617" ∷ "11 1" ∷ ".e" ∷ []))
    ∷ stops 22 6 (two_inputs (".p 99999999999999999999" ∷ "11 1" ∷ ".e" ∷ []))
    -- `.p` left out, and an off term first. Ruled out: cubes in the text's order, in place of on cubes first
    ∷ gives conj_record (two_inputs ("11 1" ∷ "0- 0" ∷ "-0 0" ∷ ".e" ∷ []))
    ∷ gives conj_record (two_inputs ("0- 0" ∷ "11 1" ∷ "-0 0" ∷ ".e" ∷ []))
    -- ruled out: input 0 taken last
    ∷ gives (0x46 ∷ 0x4E ∷ 2 ∷ 1 ∷ 1 ∷ 1 ∷ 2 ∷ 2 ∷ 1 ∷ []) (two_inputs ("10 1" ∷ "01 0" ∷ ".e" ∷ []))
    -- terms that add nothing. Ruled out: output - or ~ added to a list, or not counted by `.p`
    ∷ gives (0x46 ∷ 0x4E ∷ 2 ∷ 1 ∷ 1 ∷ 3 ∷ 0 ∷ 0 ∷ 1 ∷ []) (two_inputs (".p 4" ∷ "11 1" ∷ "10 -" ∷ "01 ~" ∷ "0- 0" ∷ ".e" ∷ []))
    -- ruled out: what follows `.e` read, on its line or later
    ∷ gives one_record (two_inputs ("11 1" ∷ ".e .i 9" ∷ "garbage" ∷ ".i 9" ∷ ".e" ∷ []))
    -- CR LF and tabs; comments; leading zeros; another order, and `.p` after the terms; the order of the terms kept, and each of them
    ∷ gives one_record (".i\t2\r" ∷ "\t.o 1 \r" ∷ "  .type  fr\r" ∷ "\r" ∷ "11\t 1\r" ∷ ".e\r" ∷ [])
    ∷ gives one_record ("# a comment" ∷ ".i 2# two" ∷ ".o 1 # one" ∷ ".type fr" ∷ "" ∷ "11 1 # 00 1" ∷ "#00 1" ∷ ".e#" ∷ [])
    ∷ gives one_record (".i 002" ∷ ".o 1" ∷ ".type fr" ∷ ".p 0001" ∷ "11 1" ∷ ".e" ∷ [])
    ∷ gives one_record (".type fr" ∷ ".o 1" ∷ ".i 2" ∷ "11 1" ∷ ".p 1" ∷ ".e" ∷ [])
    ∷ gives (0x46 ∷ 0x4E ∷ 2 ∷ 3 ∷ 0 ∷ 0 ∷ 3 ∷ 3 ∷ 0 ∷ 0 ∷ 3 ∷ []) (two_inputs ("00 1" ∷ "11 1" ∷ "00 1" ∷ ".e" ∷ []))
    -- no term, and no LF after `.e`; eight inputs
    ∷ reads_of (ascii ".i 1\n.o 1\n.type fr\n.e") (free 6) (accepted 3 5) (open_record ++ free 1)
    ∷ gives eight_record (".i 8" ∷ ".o 1" ∷ ".type fr" ∷ "1--00--1 1" ∷ ".e" ∷ [])
    -- 4 and 7 at their places in the record, on list first, after each faulty line. Ruled out: 4 or 7 told by its line
    ∷ stops 4 3 (many 65 "1 1" (".e" ∷ []))
    ∷ stops 4 4 (many 65 "0 0" (".e" ∷ []))
    ∷ stops 7 7 (two_inputs ("11 1" ∷ "00 1" ∷ "0- 0" ∷ ".e" ∷ []))
    ∷ stops 4 3 (many 65 "1 1" ("1 0" ∷ ".e" ∷ []))
    ∷ stops 21 6 (two_inputs ("11 1" ∷ "11 0" ∷ []))
    -- 18 last, with the length needed; just enough room
    ∷ reads_of (lines_of (two_inputs ("11 1" ∷ "0- 0" ∷ "-0 0" ∷ ".e" ∷ []))) (free 10) (refused 18 4 11) (free 10)
    ∷ reads_of (lines_of (two_inputs ("11 1" ∷ "0- 0" ∷ "-0 0" ∷ ".e" ∷ []))) (free 11) (accepted 3 11) conj_record
    ∷ reads_of (lines_of (two_inputs ("11 1" ∷ "-1 0" ∷ ".e" ∷ []))) [] (refused_at 7 1 5 3) []
    -- 7 with the smallest pattern of its own on cube, here 2, over all off cubes. Ruled out: 3, the largest and the first off cube's; 0,
    -- that of the other on cube
    ∷ reads_of (lines_of (two_inputs ("-1 1" ∷ "0- 1" ∷ "11 0" ∷ "0- 0" ∷ ".e" ∷ []))) [] (refused_at 7 1 5 2) []
    ∷ reads_of (lines_of (".i 9" ∷ [])) [] (refused 3 1 1) []
    -- export: on cubes first, then off cubes; no cube; eight inputs; ten terms
    ∷ is_written conj_record (two_inputs (".p 3" ∷ "11 1" ∷ "0- 0" ∷ "-0 0" ∷ ".e" ∷ []))
    ∷ is_written open_record (".i 1" ∷ ".o 1" ∷ ".type fr" ∷ ".p 0" ∷ ".e" ∷ [])
    ∷ is_written eight_record (".i 8" ∷ ".o 1" ∷ ".type fr" ∷ ".p 1" ∷ "1--00--1 1" ∷ ".e" ∷ [])
    ∷ is_written ((0x46 ∷ 0x4E ∷ 1 ∷ 10 ∷ 0 ∷ []) ++ replicate 20 0) (".i 1" ∷ ".o 1" ∷ ".type fr" ∷ ".p 10" ∷ replicate 10 "- 1" ++ (".e" ∷ []))
    -- its room, and the record's own refusals before it: another mark, a shared pattern
    ∷ writes_of conj_record (free 41) (refused 18 4 42) (free 41)
    ∷ writes_of conj_record (free 42) (accepted 3 42) (lines_of (two_inputs (".p 3" ∷ "11 1" ∷ "0- 0" ∷ "-0 0" ∷ ".e" ∷ [])))
    ∷ writes_of (0x46 ∷ 0x50 ∷ 2 ∷ 0 ∷ 0 ∷ []) (free 9) (refused 2 1 1) (free 9)
    ∷ writes_of (0x46 ∷ 0x4E ∷ 2 ∷ 2 ∷ 1 ∷ 3 ∷ 0 ∷ 0 ∷ 3 ∷ 0 ∷ 1 ∷ []) [] (refused 7 1 7) []
    ∷ []

pub table_rows_right : AllRight table_rows
unfolding ascii lines_of bit number every any count cube_holds cubes_share some_cube ◌then◌ by byte_fault length_fault fits buffer_after run filter passed_over some_in each_in count_in same on_list off_list cube_code clash_code first_fault header_bytes header_fault record_fault record_bytes onto pieces read_on decimal_within line keyword_line says_by well_formed term_lines of_keyword of_term is_end told line_code first_faulty table_fault up_to_end cubes_with record_of table_reading table_head table_of table_writing smallest or_next or_zero clash_pattern least_with
table_rows_right = ((refl, refl), ((refl, refl), ((refl, refl), ((refl, refl), ((refl, refl), ((refl, refl), ((refl, refl), ((refl, refl), ((refl, refl), ((refl, refl), ((refl, refl), ((refl, refl), ((refl, refl), ((refl, refl), ((refl, refl), ((refl, refl), ((refl, refl), ((refl, refl), ((refl, refl), ((refl, refl), ((refl, refl), ((refl, refl), ((refl, refl), ((refl, refl), ((refl, refl), ((refl, refl), ((refl, refl), ((refl, refl), ((refl, refl), ((refl, refl), ((refl, refl), ((refl, refl), ((refl, refl), ((refl, refl), ((refl, refl), ((refl, refl), ((refl, refl), ((refl, refl), ((refl, refl), ((refl, refl), ((refl, refl), ((refl, refl), ((refl, refl), ((refl, refl), ((refl, refl), ((refl, refl), ((refl, refl), ((refl, refl), ((refl, refl), ((refl, refl), ((refl, refl), ((refl, refl), ((refl, refl), ((refl, refl), ((refl, refl), ((refl, refl), ((refl, refl), ((refl, refl), ((refl, refl), ((refl, refl), ((refl, refl), ((refl, refl), ((refl, refl), ((refl, refl), ((refl, refl), ((refl, refl), ((refl, refl), ((refl, refl), ((refl, refl), ((refl, refl), ((refl, refl), ((refl, refl), ((refl, refl), ((refl, refl), ((refl, refl), ((refl, refl), ((refl, refl), ((refl, refl), ((refl, refl), tt)))))))))))))))))))))))))))))))))))))))))))))))))))))))))))))))))))))))))))))))

-- ---- over the contracts: whatever outcome the contract allows at what a right row asks is the row's

pub read_row_forced : (text before after : List ℕ) (answer : Answer) → Right (reads_of text before answer after)
    → (κs : Lfts 2) (a : Dens κs read_kinds.ps) (r : (res_t read_kinds.r κs).Denot) (s : AtExit (ended_of 2 read_kinds.ps read_kinds.r) κs)
    → read_table.Post κs (lending a.0 text, (at_last a.1.0 before, tt)) r s → (r ≡ answer) × (s.1.0.now ≡ after)
read_row_forced text before after answer e κs a r s p = delivered_as _ _ _ _ r answer after p e

pub write_row_forced : (bytes before after : List ℕ) (answer : Answer) → Right (writes_of bytes before answer after)
    → (κs : Lfts 2) (a : Dens κs write_kinds.ps) (r : (res_t write_kinds.r κs).Denot) (s : AtExit (ended_of 2 write_kinds.ps write_kinds.r) κs)
    → write_table.Post κs (lending a.0 bytes, (at_last a.1.0 before, tt)) r s → (r ≡ answer) × (s.1.0.now ≡ after)
write_row_forced bytes before after answer e κs a r s p = delivered_as _ _ _ _ r answer after p e
