-- Demand 2 for function records, over the contracts themselves: of any outcome that the contract of a call allows.
use Prim.Native.Nat.{ℕ, ◌+◌, ◌^◌, ◌≤◌}
use mathlib.Core.Path.{◌≡◌, sym, ap, subst, ◌∙◌}
use mathlib.Core.Bool.{◌||◌}
use mathlib.Core.List.{List}
use native.Mathlib.Omega.{arith}
use contract.Lifetimes.{Lfts}
use borrow.Fn.Kinds.{Dens, res_t, ended_of}
use denote.Triple.Clauses.{AtExit}
use lib.ListN.{length}
use Rattle.bits.specs.Bits.{count}
use Rattle.cubes.specs.Cubes.{some_cube, cube_names, some_holds, patterns_held, inputs_used}
use Rattle.answers.specs.declared.Answer.{Answer}
use Rattle.answers.specs.Answers.{accepted, Tells}
use Rattle.answers.proofs.Stores.{Stands, delivered_unchanged}
use Rattle.records.specs.Records.{inputs, on_list, off_list}
use Rattle.records.proofs.Frame.{record_sound, reading_accepted, reading_code, summing_accepted, summing_code}
use Rattle.records.proofs.Meaning.{Both, accepted_apart, patterns_bound, inputs_bound}
use Rattle.writer.specs.Writing.{record_bytes, writing}
use Rattle.writer.proofs.Places.{writing_told}
use Rattle.writer.proofs.RoundTrip.{Same, written_read, written_stands, bytes_again, written_again}
use Rattle.records.proofs.read.Kinds as read_kinds
use Rattle.records.proofs.read.Reads as read
use Rattle.records.proofs.summary.Kinds as summary_kinds
use Rattle.records.proofs.summary.Reads as summary
use Rattle.writer.proofs.write.Kinds as write_kinds
use Rattle.writer.proofs.write.Reads as write
use Rattle.host.proofs.zap_write.Kinds as zap_write_kinds
use Rattle.host.proofs.zap_write.Reads as zap_write

-- a record that the reader accepts has no pattern that is both on and off
pub read_apart : (κs : Lfts 1) (a : Dens κs read_kinds.ps) (r : (res_t read_kinds.r κs).Denot) (s : AtExit (ended_of 1 read_kinds.ps read_kinds.r) κs)
    → read.Post κs a r s → r.answer.code ≡ 0 → Both a.0.now → ⊥
read_apart κs a r s p e = accepted_apart a.0.now (reading_code a.0.now (ap (λ x. x.answer.code) (sym p) ∙ e))

-- where the writer accepts, the record stands at the buffer's start, and the reader finds in it the n, counts and cubes that
-- the writer was given
pub write_read : (κs : Lfts 3) (a : Dens κs write_kinds.ps) (r : (res_t write_kinds.r κs).Denot) (s : AtExit (ended_of 3 write_kinds.ps write_kinds.r) κs)
    → write.Post κs a r s → r.code ≡ 0
    → let n = a.0 in let on = a.1.0.now in let off = a.1.1.0.now in let before = a.1.1.1.0.now in let after = s.1.1.1.0.now in
    Stands (record_bytes n on off) before after r.place × Same n on off (record_bytes n on off)
write_read κs a r s p e =
    (written_stands _ _ _ _ _ r p e, written_read _ _ _ _ (ap (λ (x : Answer). x.code) (sym p.returned) ∙ e))

-- where it refuses, no byte of the buffer changes
pub write_refuses : (κs : Lfts 3) (a : Dens κs write_kinds.ps) (r : (res_t write_kinds.r κs).Denot) (s : AtExit (ended_of 3 write_kinds.ps write_kinds.r) κs)
    → write.Post κs a r s → (r.code ≡ 0 → ⊥) → s.1.1.1.0.now ≡ a.1.1.1.0.now
write_refuses κs a r s p bad = delivered_unchanged _ _ _ _ r p bad

-- the host's number tells the writer's answer as it is, unless that is 19: then a list's length may be too long for it
pub zap_write_tells : (κs : Lfts 3) (a : Dens κs zap_write_kinds.ps) (r : (res_t zap_write_kinds.r κs).Denot) (s : AtExit (ended_of 3 zap_write_kinds.ps zap_write_kinds.r) κs)
    → zap_write.Post κs a r s
    → let answer = writing a.0 a.1.0.now a.1.1.0.now (length a.1.1.1.0.now) in
    (answer.code ≡ 19 → ⊥) → Tells answer r
zap_write_tells κs a r s p h = subst (λ (x : Answer). Tells x r) (writing_told _ _ _ _ h) p.1.0

-- an accepted record's own n and lists give its bytes again
pub read_write : (κs : Lfts 1) (a : Dens κs read_kinds.ps) (r : (res_t read_kinds.r κs).Denot) (s : AtExit (ended_of 1 read_kinds.ps read_kinds.r) κs)
    → read.Post κs a r s → r.answer.code ≡ 0
    → let bytes = a.0.now in
    (record_bytes r.n (on_list bytes) (off_list bytes) ≡ bytes)
    × ((room : ℕ) → length bytes ≤ room → writing r.n (on_list bytes) (off_list bytes) room ≡ accepted 3 (length bytes))
read_write κs a r s p e =
    let bytes = a.0.now in
    let ok = reading_code bytes (ap (λ x. x.answer.code) (sym p) ∙ e) in
    let n : r.n ≡ inputs bytes = ap (λ x. x.n) (p ∙ reading_accepted bytes ok) in (
      ap (λ (n : ℕ). record_bytes n (on_list bytes) (off_list bytes)) n ∙ bytes_again bytes (record_sound bytes ok).framed,
      λ room h. ap (λ (n : ℕ). writing n (on_list bytes) (off_list bytes) room) n ∙ written_again bytes ok room h,
    )

-- the summary of an accepted record: the numbers of its on patterns, its off patterns and its inputs in use, within their bounds
pub record Counted (s : List ℕ) (on off used : ℕ) : Type 0 where
  pub on_patterns : on ≡ count (2 ^ inputs s) (some_holds (on_list s))
  pub off_patterns : off ≡ count (2 ^ inputs s) (some_holds (off_list s))
  pub in_use : used ≡ count 8 (λ i. some_cube (λ P N. cube_names P N i) (on_list s) || some_cube (λ P N. cube_names P N i) (off_list s))
  pub within : on + off ≤ 2 ^ inputs s
  pub few : used ≤ inputs s

pub summary_counts : (κs : Lfts 1) (a : Dens κs summary_kinds.ps) (r : (res_t summary_kinds.r κs).Denot) (s : AtExit (ended_of 1 summary_kinds.ps summary_kinds.r) κs)
    → summary.Post κs a r s → r.answer.code ≡ 0 → Counted a.0.now r.on r.off r.used
unfolding patterns_held inputs_used
summary_counts κs a r s p e =
    let bytes = a.0.now in
    let ok = summing_code bytes (ap (λ x. x.answer.code) (sym p) ∙ e) in
    let q = p ∙ summing_accepted bytes ok in
    let on = ap (λ x. x.on) q in
    let off = ap (λ x. x.off) q in
    let used = ap (λ x. x.used) q in
    record {
      on_patterns = on;
      off_patterns = off;
      in_use = used;
      within = omega (arith, patterns_bound bytes ok);
      few = omega (arith, inputs_bound bytes ok);
    }
