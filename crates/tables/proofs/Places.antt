-- Every place that the writer of tables tells is within the longest table, so a host is told each of its answers as it is. The
-- reader tells a line's number, one more than the lines at most, or a place in the record or its length: so a host is told each
-- of its answers as it is where the text has fewer than 2^32 - 1 bytes.
use Prim.Native.Nat.{ℕ, suc, ◌+◌, ◌^◌, ◌≤◌, ◌<◌, max, zero-le}
use mathlib.Core.Path.{◌≡◌, refl}
use mathlib.Core.Bool.{Bool}
use mathlib.Core.List.{List, [], ◌∷◌, map}
use native.Mathlib.Omega.{arith}
use lib.Dec.{ltb}
use lib.ListN.{length}
use Rattle.bits.proofs.Tests.{cond_cases}
use Rattle.answers.specs.declared.Answer.{Answer}
use Rattle.answers.specs.declared.Fault.{Fault}
use Rattle.answers.specs.Answers.{by, fits}
use Rattle.answers.proofs.Faults.{chosen_elim}
use Rattle.records.specs.Records.{record_fault}
use Rattle.records.proofs.Frame.{record_sound}
use Rattle.records.proofs.Places.{record_place}
use Rattle.words.specs.Words.{onto, pieces, lines, is_lf}
use Rattle.terms.specs.Terms.{says}
use Rattle.rows.specs.Rows.{table_fault}
use Rattle.tables.specs.Tables.{record_of, table_reading, table_of, table_writing}
use Rattle.rows.proofs.First.{walk}
use Rattle.tables.proofs.Export.{table_long}

-- ---- the writer

-- a fault's place in the record, or the table's length
pub table_writing_within : (s : List ℕ) (room : ℕ) → (table_writing s room).place ≤ 1437
unfolding table_writing by fits
table_writing_within s room =
    chosen_elim Near (record_fault s).code _ _ (λ _. omega (arith, record_place s))
    (λ ok. let long = table_long s ok in cond_cases Near (ltb room (length (table_of s))) _ _ long long)
  where
    Near : Answer → Type 0
    Near a = a.place ≤ 1437

pub table_writing_place : (s : List ℕ) (room : ℕ) → (table_writing s room).place < 2 ^ 32
table_writing_place s room = omega (arith, table_writing_within s room)

-- ---- the reader

-- no more lines than characters
onto_most : (c : ℕ) (l : List (List ℕ)) → length (onto c l) ≤ suc (length l)
unfolding onto
onto_most c [] = omega arith
onto_most c (w ∷ l) = omega arith

pieces_most : (ends : ℕ → Bool) (s : List ℕ) → length (pieces ends s) ≤ length s
unfolding pieces
pieces_most ends [] = zero-le
pieces_most ends (c ∷ s) =
    cond_cases (λ (l : List (List ℕ)). length l ≤ suc (length s)) (ends c) ([] ∷ pieces ends s) (onto c (pieces ends s)) (omega (arith, pieces_most ends s))
    (omega (arith, onto_most c (pieces ends s), pieces_most ends s))

said_long : (l : List (List ℕ)) → length (map says l) ≡ length l
said_long [] = refl
said_long (w ∷ l) = omega (arith, said_long l)

-- so a faulty line's number is one more than the characters at most
pub fault_line_within : (text : List ℕ) → (table_fault text).place ≤ length text + 1
unfolding table_fault
fault_line_within text =
    let few : length (map says (lines text)) ≤ length text = omega (arith, said_long (lines text), pieces_most is_lf text) in
    walk (map says (lines text)) (λ (f : Fault). f.place ≤ length text + 1) (λ k there passed bad. omega (arith, there, few)) (λ k there passed good ends. zero-le) (λ passed. omega (arith, few))

pub table_reading_within : (text : List ℕ) (room : ℕ) → (table_reading text room).place ≤ max (length text + 1) 261
unfolding table_reading by fits
table_reading_within text room =
    chosen_elim Near (table_fault text).code _ _ (λ _. omega (arith, fault_line_within text))
    (λ _. chosen_elim Near (record_fault (record_of text)).code _ _ (λ _. omega (arith, record_place (record_of text)))
    (λ ok.
    let h = (record_sound (record_of text) ok).framed in
    let long : length (record_of text) ≤ 261 = omega arith in
    cond_cases Near (ltb room (length (record_of text))) _ _ (omega (arith, long)) (omega (arith, long))))
  where
    Near : Answer → Type 0
    Near a = a.place ≤ max (length text + 1) 261

pub table_reading_place : (text : List ℕ) (room : ℕ) → length text + 1 < 2 ^ 32 → (table_reading text room).place < 2 ^ 32
table_reading_place text room h = omega (arith, h, table_reading_within text room)
