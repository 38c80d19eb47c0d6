-- Tables in and out, W-201, over the contracts themselves: of any outcome that the contract of a call allows. The idea: a contract
-- names the one answer and the one run of bytes, so an accepted answer says that neither the lines nor the record is at fault, and
-- what is proved of the text and of its record is proved of the outcome.
use Prim.Native.Nat.{ℕ, ◌+◌, ◌^◌, ◌≤◌, ◌<◌}
use mathlib.Core.Path.{◌≡◌, refl, sym, ap, ◌∙◌, subst, subst₂}
use mathlib.Core.Bool.{true, false, false≢true}
use mathlib.Core.List.{List, map}
use mathlib.Core.Logic.{⊎_elim}
use native.Mathlib.Omega.{arith}
use contract.Lifetimes.{Lfts}
use borrow.Fn.Kinds.{Dens, res_t, ended_of}
use denote.Triple.Clauses.{AtExit}
use lib.ListN.{length, take}
use Rattle.bits.proofs.Tests.{below_or_not}
use Rattle.answers.specs.declared.Answer.{Answer}
use Rattle.answers.specs.Answers.{accepted, refused_by, fits, Delivered, Tells}
use Rattle.answers.proofs.Faults.{by_both, by_next, by_stop}
use Rattle.answers.proofs.Stores.{Stands, delivered_stands, delivered_unchanged}
use Rattle.answers.proofs.Told.{told_fits}
use Rattle.records.specs.Records.{record_fault, reading, Bytes}
use Rattle.words.specs.Words.{lines}
use Rattle.terms.specs.Terms.{Says, says}
use Rattle.rows.specs.Rows.{table_fault}
use Rattle.tables.specs.Tables.{record_of, table_reading, table_of, table_writing}
use Rattle.rows.proofs.First.{line_at, FirstFaulty, first_faulty_named, first_asked, code_in_order}
use Rattle.tables.proofs.Meaning.{Meaning, table_means}
use Rattle.tables.proofs.RoundTrip.{record_back, table_back as table_read_back}
use Rattle.tables.proofs.Codes.{of_lines, fault_codes, AfterLines, after_not_of_lines, after_lines}
use Rattle.tables.proofs.Places.{table_reading_place}
use Rattle.records.proofs.read.Kinds as read_kinds
use Rattle.records.proofs.read.Reads as read
use Rattle.tables.proofs.read_table.Kinds as read_table_kinds
use Rattle.tables.proofs.read_table.Reads as read_table
use Rattle.tables.proofs.write_table.Kinds as write_table_kinds
use Rattle.tables.proofs.write_table.Reads as write_table
use Rattle.host.proofs.zap_read_table.Kinds as zap_read_table_kinds
use Rattle.host.proofs.zap_read_table.Reads as zap_read_table
use Rattle.host.proofs.zap_write_table.Kinds as zap_write_table_kinds
use Rattle.host.proofs.zap_write_table.Reads as zap_write_table

-- ---- accepted: neither the lines nor the record is at fault, and room was asked for last

module _ (text : List ℕ) (room : ℕ) (z : (table_reading text room).code ≡ 0) where
  lines_sound : (table_fault text).code ≡ 0
  unfolding table_reading
  lines_sound = (by_both 1 _ _ z).0

  record_good : (record_fault (record_of text)).code ≡ 0
  unfolding table_reading
  record_good = (by_both 1 _ _ (by_both 1 _ _ z).1).0

  reading_by_room : table_reading text room ≡ fits 3 room (length (record_of text))
  unfolding table_reading
  reading_by_room = sym (by_next 1 (table_fault text) (table_fault text) _ _ refl lines_sound (by_next 1 (record_fault (record_of text)) (record_fault (record_of text)) _ _ refl record_good refl))

reading_stands : (text before after : List ℕ) (r : Answer) → Delivered (table_reading text (length before)) (record_of text) before after r → r.code ≡ 0
    → Stands (record_of text) before after r.place
reading_stands text before after r = delivered_stands (table_reading text (length before)) 3 (record_of text) before after r (reading_by_room text (length before))

-- ---- reading a table

module _ (κs : Lfts 2) (a : Dens κs read_table_kinds.ps) (r : (res_t read_table_kinds.r κs).Denot) (s : AtExit (ended_of 2 read_table_kinds.ps read_table_kinds.r) κs)
    (p : read_table.Post κs a r s) where
  abbrev text : List ℕ
  text = a.0.now

  abbrev before : List ℕ
  before = a.1.0.now

  abbrev after : List ℕ
  after = s.1.0.now

  -- what the lines say, one by one
  abbrev said : List Says
  said = map says (lines text)

  module _ (good : r.code ≡ 0) where
    reading_good : (table_reading text (length before)).code ≡ 0
    reading_good = ap (λ (x : Answer). x.code) (sym p.returned) ∙ good

    -- where it is accepted, the record stands at the buffer's start; the reader accepts that record, its inputs are those of `.i`,
    -- and it is on exactly where some term line with output 1 fits, and off where one with output 0 does
    pub table_read : Stands (record_of text) before after r.place × Meaning text
    table_read = (reading_stands text before after r p good, table_means text (lines_sound text (length before) reading_good) (record_good text (length before) reading_good))

    -- so the reader, called on those bytes, accepts them
    pub table_record_read : (κs₁ : Lfts 1) (b : Dens κs₁ read_kinds.ps) (t : (res_t read_kinds.r κs₁).Denot) (u : AtExit (ended_of 1 read_kinds.ps read_kinds.r) κs₁)
        → read.Post κs₁ b t u → b.0.now ≡ take r.place after → t.answer ≡ accepted 3 r.place
    table_record_read κs₁ b t u q same =
        let there = table_read.0 in
        ap (λ x. x.answer) (q ∙ ap reading (same ∙ there.front) ∙ table_read.1.answer) ∙ ap (accepted 3) (sym there.long)

  -- where it is refused, no byte of the buffer changes
  pub table_refused : (r.code ≡ 0 → ⊥) → after ≡ before
  table_refused bad = delivered_unchanged _ _ _ _ r p bad

  by_line : ((table_fault text).code ≡ 0 → ⊥) → r ≡ refused_by 1 (table_fault text)
  unfolding table_reading
  by_line bad = p.returned ∙ sym (by_stop 1 (table_fault text) (table_fault text) _ _ refl bad refl)

  -- a code of the lines, 20, 21, 3 or 22: the answer names the first faulty line by its number from 1, as record 1
  module _ (named : of_lines r.code ≡ true) where
    bad : (table_fault text).code ≡ 0 → ⊥
    bad z = false≢true (sym (after_not_of_lines text (length before) r (subst (AfterLines text (length before)) (sym p.returned) (after_lines text z (length before)))) ∙ named)

    pub table_first : (r.«record» ≡ 1) × FirstFaulty said r.code r.place
    table_first = (
      ap (λ (x : Answer). x.«record») (by_line bad),
      subst (λ (x : Answer). FirstFaulty said x.code x.place) (sym (by_line bad)) (first_faulty_named text bad),
    )

    -- and its code is the first in the request's order at that line, or 21 at the line after the last
    pub table_first_code : (f : FirstFaulty said r.code r.place) → f.index < length said → r.code ≡ first_asked (take f.index said) (line_at said f.index)
    table_first_code f there =
        ⊎_elim (λ here. sym here.1 ∙ code_in_order (take f.index said) (line_at said f.index)) (λ beyond. absurd (omega (arith, there, beyond.0))) f.here

  -- any other: 4 or 7 at its place in the record, then 18, or accepted
  pub table_after_lines : of_lines r.code ≡ false → AfterLines text (length before) r
  table_after_lines other =
      ⊎_elim
      (λ (h : 0 < (table_fault text).code).
      let bad : (table_fault text).code ≡ 0 → ⊥ = λ z. omega (arith, h, z) in
      absurd (false≢true (sym other ∙ ap (λ (x : Answer). of_lines x.code) (by_line bad) ∙ fault_codes text bad)))
      (λ (h : (table_fault text).code ≤ 0). subst (AfterLines text (length before)) (sym p.returned) (after_lines text (omega (arith, h)) (length before)))
      (below_or_not 0 (table_fault text).code)

-- ---- writing a table

module _ (κs : Lfts 2) (a : Dens κs write_table_kinds.ps) (r : (res_t write_table_kinds.r κs).Denot) (s : AtExit (ended_of 2 write_table_kinds.ps write_table_kinds.r) κs)
    (p : write_table.Post κs a r s) where
  -- where it is accepted, so was the record, and its table stands at the buffer's start
  pub table_written : r.code ≡ 0 → ((record_fault a.0.now).code ≡ 0) × Stands (table_of a.0.now) a.1.0.now s.1.0.now r.place
  unfolding table_writing
  table_written good = (
    (by_both 1 _ _ (ap (λ (x : Answer). x.code) (sym p.returned) ∙ good)).0,
    delivered_stands _ 3 _ _ _ r (λ z. sym (by_next 1 _ _ _ _ refl (by_both 1 _ _ z).0 refl)) p good,
  )

  -- where it is refused, no byte of the buffer changes
  pub table_not_written : (r.code ≡ 0 → ⊥) → s.1.0.now ≡ a.1.0.now
  table_not_written bad = delivered_unchanged _ _ _ _ r p bad

-- ---- a table that was written, read again: the record's own bytes stand at the buffer's start

module _ (κs₁ κs₂ : Lfts 2) (a₁ : Dens κs₁ write_table_kinds.ps) (a₂ : Dens κs₂ read_table_kinds.ps) (r₁ : (res_t write_table_kinds.r κs₁).Denot) (r₂ : (res_t read_table_kinds.r κs₂).Denot)
    (s₁ : AtExit (ended_of 2 write_table_kinds.ps write_table_kinds.r) κs₁) (s₂ : AtExit (ended_of 2 read_table_kinds.ps read_table_kinds.r) κs₂) where
  pub table_back : write_table.Post κs₁ a₁ r₁ s₁ → read_table.Post κs₂ a₂ r₂ s₂
      → let bytes = a₁.0.now in let table = take r₁.place s₁.1.0.now in let before = a₂.1.0.now in let after = s₂.1.0.now in
      Bytes bytes → r₁.code ≡ 0 → a₂.0.now ≡ table → length bytes ≤ length before
      → (r₂ ≡ accepted 3 (length bytes)) × Stands bytes before after (length bytes)
  table_back p₁ p₂ are_bytes good same room =
      let bytes = a₁.0.now in
      let before = a₂.1.0.now in
      let after = s₂.1.0.now in
      let written = table_written κs₁ a₁ r₁ s₁ p₁ good in
      let q : Delivered (table_reading (table_of bytes) (length before)) (record_of (table_of bytes)) before after r₂ =
      subst (λ (t : List ℕ). Delivered (table_reading t (length before)) (record_of t) before after r₂) (same ∙ written.1.front) p₂ in
      let is : r₂ ≡ accepted 3 (length bytes) = q.returned ∙ table_read_back bytes written.0 are_bytes (length before) room in (
        is,
        subst₂ (λ (l : List ℕ) (place : ℕ). Stands l before after place) (record_back bytes written.0 are_bytes) (ap (λ (x : Answer). x.place) is) (reading_stands (table_of bytes) before after r₂ q (ap (λ (x : Answer). x.code) is)),
      )

-- ---- what a host is told

-- the writer's answer as it is
pub zap_write_table_tells : (κs : Lfts 2) (a : Dens κs zap_write_table_kinds.ps) (r : (res_t zap_write_table_kinds.r κs).Denot) (s : AtExit (ended_of 2 zap_write_table_kinds.ps zap_write_table_kinds.r) κs)
    → zap_write_table.Post κs a r s → Tells (table_writing a.0.now (length a.1.0.now)) r
zap_write_table_tells κs a r s p = p.1.0

module _ (κs : Lfts 2) (a : Dens κs zap_read_table_kinds.ps) (r : (res_t zap_read_table_kinds.r κs).Denot) (s : AtExit (ended_of 2 zap_read_table_kinds.ps zap_read_table_kinds.r) κs)
    (p : zap_read_table.Post κs a r s) where
  abbrev answer : Answer
  answer = table_reading a.0.now (length a.1.0.now)

  -- the reader's answer as it is, wherever its place fits
  pub zap_read_table_tells : answer.place < 2 ^ 32 → Tells answer r
  zap_read_table_tells h = subst (λ (x : Answer). Tells x r) (told_fits answer (omega (arith, h))) p.1.0

  -- and it does for each text that is shorter than the largest place
  pub zap_read_table_tells_all : length a.0.now + 1 < 2 ^ 32 → Tells answer r
  zap_read_table_tells_all h = zap_read_table_tells (table_reading_place a.0.now (length a.1.0.now) h)
