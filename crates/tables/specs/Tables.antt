-- Espresso tables with one output, in the words of document 02, W-201: the record of a text, and the table of a record.
use Rattle.std.specs.Prelude.{ℕ, ◌+◌, List, [], ◌∷◌, ◌++◌, length}
use Rattle.answers.specs.declared.Answer.{Answer}
use Rattle.answers.specs.Answers.{by, fits}
use Rattle.records.specs.Records.{inputs, on_count, off_count, on_list, off_list, record_fault}
use Rattle.writer.specs.Writing.{record_bytes}
use Rattle.words.specs.Words.{decimal, line}
use Rattle.terms.specs.Terms.{dot_i, dot_o, one, dot_type, fr, dot_p, dot_e, on_char, off_char, term_lines}
use Rattle.rows.specs.Rows.{told, table_fault, said_in, cubes_with}

-- ---- the record of a text

-- output 1 adds to the on list, 0 to the off list, - and ~ add nothing
unfoldable pub record_of : List ℕ → List ℕ
record_of text = record_bytes (told dot_i (said_in text)) (cubes_with on_char (said_in text)) (cubes_with off_char (said_in text))

-- the faulty line first, then 4 and 7 at their places in the record, then 18
unfoldable pub table_reading : List ℕ → ℕ → Answer
table_reading text room = by 1 (table_fault text) (by 1 (record_fault (record_of text)) (fits 3 room (length (record_of text))))

-- ---- the table of a record

-- all but comments in that order, on cubes first, single blanks, LF after each line
unfoldable pub table_head : ℕ → ℕ → List ℕ
table_head n terms =
    line (dot_i ∷ decimal n ∷ [])
    ++ (line (dot_o ∷ one ∷ [])
    ++ (line (dot_type ∷ fr ∷ [])
    ++ line (dot_p ∷ decimal terms ∷ [])))

unfoldable pub table_of : List ℕ → List ℕ
table_of s =
    table_head (inputs s) (on_count s + off_count s)
    ++ (term_lines (inputs s) on_char (on_list s)
    ++ (term_lines (inputs s) off_char (off_list s)
    ++ line (dot_e ∷ [])))

-- the record's faults first, then 18
unfoldable pub table_writing : List ℕ → ℕ → Answer
table_writing s room = by 1 (record_fault s) (fits 3 room (length (table_of s)))
