-- What code 7 of a table names: a clash in the record that the table gives. A faulty line names no pattern, and so the record's own
-- laws decide.
use Prim.Native.Nat.{ℕ}
use mathlib.Core.Path.{◌≡◌, refl, sym, ap, ◌∙◌}
use mathlib.Core.Bool.{false≢true}
use mathlib.Core.List.{List, map}
use borrow.Author.Tests.{eqb-false}
use lib.Dec.{ltb, eqb}
use lib.ListN.{length}
use Rattle.answers.specs.declared.Answer.{Answer}
use Rattle.answers.specs.declared.Fault.{Fault}
use Rattle.answers.specs.Answers.{by, fits}
use Rattle.answers.proofs.Faults.{Kept, KeptBy, chosen_elim, by_kept, fits_kept}
use Rattle.bits.proofs.Tests.{cond_cases}
use Rattle.records.specs.Records.{record_fault}
use Rattle.records.proofs.Patterns.{RecordNamed, record_named, record_kept}
use Rattle.terms.specs.Terms.{says}
use Rattle.words.specs.Words.{lines}
use Rattle.rows.specs.Rows.{table_fault}
use Rattle.rows.proofs.First.{walk}
use Rattle.tables.specs.Tables.{record_of, table_reading, table_of, table_writing}
use Rattle.tables.proofs.Codes.{of_lines, fault_codes}

line_kept : (text : List ℕ) → Kept (table_fault text).code (table_fault text).pattern
unfolding table_fault
line_kept text _ = walk (map says (lines text)) (λ (f : Fault). f.pattern ≡ 0) (λ k there passed bad. refl) (λ k there passed good ends. refl) (λ passed. refl)

-- a record's clash, told of the record or of a table that gives it
abbrev Named : List ℕ → Answer → Type 0
Named s a = a.code ≡ 7 → RecordNamed s a.place a.pattern

-- the record decides, and then the room
module _ (s : List ℕ) (room needed : ℕ) where
  by_record : Named s (by 1 (record_fault s) (fits 3 room needed))
  unfolding by fits
  by_record =
      cond_cases (Named s) (eqb (record_fault s).code 0) _ _
      (cond_cases (Named s) (ltb room needed) _ _ (λ e. absurd (eqb-false 18 7 refl e)) (λ e. absurd (eqb-false 0 7 refl e)))
      (record_named s)

pub table_writing_named : (s : List ℕ) (room : ℕ) → (table_writing s room).code ≡ 7 → RecordNamed s (table_writing s room).place (table_writing s room).pattern
unfolding table_writing
table_writing_named s room = by_record s room (length (table_of s))

pub table_reading_named : (text : List ℕ) (room : ℕ) → (table_reading text room).code ≡ 7 → RecordNamed (record_of text) (table_reading text room).place (table_reading text room).pattern
unfolding table_reading by
table_reading_named text room =
    chosen_elim (Named (record_of text)) (table_fault text).code _ _
    (λ bad e. absurd (false≢true (ap of_lines (sym e) ∙ fault_codes text bad)))
    (λ _. by_record (record_of text) room (length (record_of text)))

pub table_reading_kept : (text : List ℕ) (room : ℕ) → KeptBy (table_reading text room)
unfolding table_reading
table_reading_kept text room = by_kept 1 _ _ (line_kept text) (by_kept 1 _ _ (record_kept (record_of text)) (fits_kept 3 room (length (record_of text))))

pub table_writing_kept : (s : List ℕ) (room : ℕ) → KeptBy (table_writing s room)
unfolding table_writing
table_writing_kept s room = by_kept 1 _ _ (record_kept s) (fits_kept 3 room _)
