-- W-202 over the contracts themselves: what the fifth number of an answer is. Of any outcome that the contract of a call allows.
use Prim.Native.Nat.{ℕ, ◌/◌, ◌^◌}
use mathlib.Core.Path.{◌≡◌, refl, sym, subst}
use mathlib.Core.List.{List}
use borrow.Author.Tests.{eqb-false}
use contract.Lifetimes.{Lfts}
use borrow.Fn.Kinds.{Dens, res_t, ended_of}
use denote.Triple.Clauses.{AtExit}
use lib.Dec.{ltb, eqb}
use lib.ListN.{length}
use Rattle.bits.specs.Bits.{IsSmallest}
use Rattle.bits.proofs.Tests.{cond_cases}
use Rattle.answers.specs.declared.Answer.{Answer}
use Rattle.answers.specs.Answers.{◌or_else◌, fits, told}
use Rattle.answers.proofs.Faults.{KeptBy, or_else_kept, fits_kept}
use Rattle.records.specs.Records.{inputs, both_read}
use Rattle.records.proofs.Patterns.{ClashNamed, RecordNamed, EitherNamed, reading_named, summing_named, both_named, reading_kept, summing_kept, both_kept}
use Rattle.writer.specs.Writing.{writing}
use Rattle.writer.proofs.Patterns.{writing_named, writing_kept}
use Rattle.tables.specs.Tables.{record_of, table_reading}
use Rattle.tables.proofs.Patterns.{table_reading_named, table_writing_named, table_reading_kept, table_writing_kept}
use Rattle.checker.proofs.Named.{disagree_by, checking_disagreement, checking_clash, checking_kept}
use Rattle.matcher.specs.Matching.{claim_for, matching}
use Rattle.records.proofs.read.Kinds as read_kinds
use Rattle.records.proofs.read.Reads as read
use Rattle.records.proofs.summary.Kinds as summary_kinds
use Rattle.records.proofs.summary.Reads as summary
use Rattle.writer.proofs.write.Kinds as write_kinds
use Rattle.writer.proofs.write.Reads as write
use Rattle.tables.proofs.read_table.Kinds as read_table_kinds
use Rattle.tables.proofs.read_table.Reads as read_table
use Rattle.tables.proofs.write_table.Kinds as write_table_kinds
use Rattle.tables.proofs.write_table.Reads as write_table
use Rattle.checker.proofs.check.Kinds as check_kinds
use Rattle.checker.proofs.check.Reads as check
use Rattle.matcher.proofs.find.Kinds as find_kinds
use Rattle.matcher.proofs.find.Reads as find
use Rattle.host.proofs.zap_write.Kinds as zap_write_kinds
use Rattle.host.proofs.zap_write.Reads as zap_write
use Rattle.host.proofs.zap_read_table.Kinds as zap_read_table_kinds
use Rattle.host.proofs.zap_read_table.Reads as zap_read_table

-- ---- the reader and the summary

module _ (κs : Lfts 1) (a : Dens κs read_kinds.ps) (r : (res_t read_kinds.r κs).Denot) (s : AtExit (ended_of 1 read_kinds.ps read_kinds.r) κs) (p : read.Post κs a r s) where
  -- code 7: the place is that of an on cube, and no on cube before it shares a pattern with an off cube; the pattern is held by that
  -- on cube and by an off cube, and no smaller one is
  pub read_pattern : r.answer.code ≡ 7 → RecordNamed a.0.now r.answer.place r.answer.pattern
  read_pattern e = subst (λ x. x.answer.code ≡ 7 → RecordNamed a.0.now x.answer.place x.answer.pattern) (sym p) (reading_named a.0.now) e

  -- any other: 0
  pub read_no_pattern : KeptBy r.answer
  read_no_pattern = subst (λ x. KeptBy x.answer) (sym p) (reading_kept a.0.now)

module _ (κs : Lfts 1) (a : Dens κs summary_kinds.ps) (r : (res_t summary_kinds.r κs).Denot) (s : AtExit (ended_of 1 summary_kinds.ps summary_kinds.r) κs) (p : summary.Post κs a r s) where
  pub summary_pattern : r.answer.code ≡ 7 → RecordNamed a.0.now r.answer.place r.answer.pattern
  summary_pattern e = subst (λ x. x.answer.code ≡ 7 → RecordNamed a.0.now x.answer.place x.answer.pattern) (sym p) (summing_named a.0.now) e

  pub summary_no_pattern : KeptBy r.answer
  summary_no_pattern = subst (λ x. KeptBy x.answer) (sym p) (summing_kept a.0.now)

-- ---- the writer: places count within the on list

module _ (κs : Lfts 3) (a : Dens κs write_kinds.ps) (r : (res_t write_kinds.r κs).Denot) (s : AtExit (ended_of 3 write_kinds.ps write_kinds.r) κs) (p : write.Post κs a r s) where
  pub write_pattern : r.code ≡ 7 → ClashNamed a.0 a.1.0.now a.1.1.0.now 0 r.place r.pattern
  write_pattern e = subst (λ (x : Answer). x.code ≡ 7 → ClashNamed a.0 a.1.0.now a.1.1.0.now 0 x.place x.pattern) (sym p.returned) (writing_named a.0 _ _ _) e

  pub write_no_pattern : KeptBy r
  write_no_pattern = subst KeptBy (sym p.returned) (writing_kept a.0 _ _ _)

-- ---- tables: the record is that which the table gives, or the one that is written

module _ (κs : Lfts 2) (a : Dens κs read_table_kinds.ps) (r : (res_t read_table_kinds.r κs).Denot) (s : AtExit (ended_of 2 read_table_kinds.ps read_table_kinds.r) κs) (p : read_table.Post κs a r s) where
  pub read_table_pattern : r.code ≡ 7 → RecordNamed (record_of a.0.now) r.place r.pattern
  read_table_pattern e = subst (λ (x : Answer). x.code ≡ 7 → RecordNamed (record_of a.0.now) x.place x.pattern) (sym p.returned) (table_reading_named a.0.now _) e

  pub read_table_no_pattern : KeptBy r
  read_table_no_pattern = subst KeptBy (sym p.returned) (table_reading_kept a.0.now _)

module _ (κs : Lfts 2) (a : Dens κs write_table_kinds.ps) (r : (res_t write_table_kinds.r κs).Denot) (s : AtExit (ended_of 2 write_table_kinds.ps write_table_kinds.r) κs) (p : write_table.Post κs a r s) where
  pub write_table_pattern : r.code ≡ 7 → RecordNamed a.0.now r.place r.pattern
  write_table_pattern e = subst (λ (x : Answer). x.code ≡ 7 → RecordNamed a.0.now x.place x.pattern) (sym p.returned) (table_writing_named a.0.now _) e

  pub write_table_no_pattern : KeptBy r
  write_table_no_pattern = subst KeptBy (sym p.returned) (table_writing_kept a.0.now _)

-- ---- the checker

module _ (κs : Lfts 3) (a : Dens κs check_kinds.ps) (r : (res_t check_kinds.r κs).Denot) (s : AtExit (ended_of 3 check_kinds.ps check_kinds.r) κs) (p : check.Post κs a r s) where
  abbrev f : List ℕ
  f = a.0.now

  abbrev g : List ℕ
  g = a.1.0.now

  abbrev c : List ℕ
  c = a.1.1.0.now

  -- code 14: f and g disagree at that pattern of g, through the claim's wiring and under its phase, and at no smaller one
  pub check_disagreement : r.code ≡ 14 → (r.«record» ≡ 3) × IsSmallest (2 ^ inputs g) (disagree_by f g c) r.pattern
  check_disagreement = subst (λ (x : Answer). x.code ≡ 14 → (x.«record» ≡ 3) × IsSmallest (2 ^ inputs g) (disagree_by f g c) x.pattern) (sym p) (checking_disagreement f g c)

  -- code 7: of f or of g, as the reader tells it
  pub check_pattern : r.code ≡ 7 → EitherNamed f g r
  check_pattern = subst (λ (x : Answer). x.code ≡ 7 → EitherNamed f g x) (sym p) (checking_clash f g c)

  pub check_no_pattern : KeptBy r
  check_no_pattern = subst KeptBy (sym p) (checking_kept f g c)

-- ---- the matcher: code 14 is none of its codes

matching_clash : (f g : List ℕ) (room : ℕ) → (matching f g room).code ≡ 7 → EitherNamed f g (matching f g room)
unfolding matching ◌or_else◌ fits
matching_clash f g room =
    cond_cases Named (eqb (both_read f g).code 0) _ _
    (cond_cases Named (ltb room (length (claim_for f g))) _ _ (λ e. absurd (eqb-false 18 7 refl e)) (λ e. absurd (eqb-false 0 7 refl e)))
    (both_named f g)
  where
    Named : Answer → Type 0
    Named x = x.code ≡ 7 → EitherNamed f g x

matching_kept : (f g : List ℕ) (room : ℕ) → KeptBy (matching f g room)
unfolding matching
matching_kept f g room = or_else_kept (both_read f g) _ (both_kept f g) (fits_kept _ room _)

module _ (κs : Lfts 3) (a : Dens κs find_kinds.ps) (r : (res_t find_kinds.r κs).Denot) (s : AtExit (ended_of 3 find_kinds.ps find_kinds.r) κs) (p : find.Post κs a r s) where
  pub find_pattern : r.code ≡ 7 → EitherNamed a.0.now a.1.0.now r
  find_pattern = subst (λ (x : Answer). x.code ≡ 7 → EitherNamed a.0.now a.1.0.now x) (sym p.returned) (matching_clash a.0.now a.1.0.now _)

  pub find_no_pattern : KeptBy r
  find_no_pattern = subst KeptBy (sym p.returned) (matching_kept a.0.now a.1.0.now _)

-- ---- the host: the top eight bits are the pattern, whatever the place; these two calls alone can have a place beyond 32 bits

pub zap_write_pattern : (κs : Lfts 3) (a : Dens κs zap_write_kinds.ps) (r : (res_t zap_write_kinds.r κs).Denot) (s : AtExit (ended_of 3 zap_write_kinds.ps zap_write_kinds.r) κs)
    → zap_write.Post κs a r s → r / 2 ^ 56 ≡ (writing a.0 a.1.0.now a.1.1.0.now (length a.1.1.1.0.now)).pattern
unfolding told
zap_write_pattern κs a r s p = p.1.0.pattern_told

pub zap_read_table_pattern : (κs : Lfts 2) (a : Dens κs zap_read_table_kinds.ps) (r : (res_t zap_read_table_kinds.r κs).Denot) (s : AtExit (ended_of 2 zap_read_table_kinds.ps zap_read_table_kinds.r) κs)
    → zap_read_table.Post κs a r s → r / 2 ^ 56 ≡ (table_reading a.0.now (length a.1.0.now)).pattern
unfolding told
zap_read_table_pattern κs a r s p = p.1.0.pattern_told
