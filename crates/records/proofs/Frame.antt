-- What a sound header says of a record, and that a record of that form has a sound header.
use Prim.Native.Nat.{ℕ, ◌≤◌}
use mathlib.Core.Path.{◌≡◌, refl, sym, ap, ◌∙◌}
use mathlib.Core.Bool.{Bool, true, false, cond}
use mathlib.Core.List.{List}
use borrow.Author.Tests.{eqb-true, eq-eqb}
use native.Mathlib.Omega.{arith}
use lib.Dec.{eqb}
use lib.ListN.{length}
use Rattle.answers.specs.declared.Fault.{Fault}
use Rattle.cubes.specs.Cubes.{patterns_held, inputs_used}
use Rattle.answers.specs.Answers.{accepted, fine, refused, refused_by, is_sound, sound, ◌then◌, by, length_fault}
use Rattle.std.proofs.Common.{Ok, Err}
use Rattle.std.specs.declared.result.Result.{Result}
use Rattle.answers.specs.Verdicts.{verdict, unless_refused}
use Rattle.answers.proofs.Verdicts.{refusal_first, unless_by, unless_fine, unless_coded, verdict_ok}
use Rattle.answers.proofs.Faults.{Byte, byte_sound, byte_good, length_sound, length_good, then_both, then_next, then_stop, by_both, next_chosen, chosen}
use Rattle.records.specs.declared.Reading.{Reading}
use Rattle.records.specs.declared.Figures.{Figures}
use Rattle.records.specs.Records.{inputs, on_count, off_count, record_end, on_list, off_list, with_counts, reading, with_figures, summing, header_bytes, header_fault, cubes_fault, clash_fault, record_fault, both_read, Bytes, Accepted}

-- the header bytes are there, and each is in its range
pub record Header (s : List ℕ) : Type 0 where
  pub mark₀ : Byte s 0 0x46 0x46
  pub mark₁ : Byte s 1 0x4E 0x4E
  pub n_byte : Byte s 2 1 8
  pub a_byte : Byte s 3 0 64
  pub b_byte : Byte s 4 0 64

-- and the record ends where they say
pub record Framed (s : List ℕ) : Type 0 where
  pub header : Header s
  pub long : record_end s ≡ length s

pub bytes_sound : (s : List ℕ) → (header_bytes s).code ≡ 0 → Header s
unfolding header_bytes
bytes_sound s e =
    let b₄ = then_both _ _ e in
    let b₃ = then_both _ _ b₄.0 in
    let b₂ = then_both _ _ b₃.0 in
    let b₁ = then_both _ _ b₂.0 in
    record {
      mark₀ = byte_sound s 0 0x46 0x46 1 b₁.0;
      mark₁ = byte_sound s 1 0x4E 0x4E 1 b₁.1;
      n_byte = byte_sound s 2 1 8 2 b₂.1;
      a_byte = byte_sound s 3 0 64 3 b₃.1;
      b_byte = byte_sound s 4 0 64 3 b₄.1;
    }

pub header_sound : (s : List ℕ) → (header_fault s).code ≡ 0 → Framed s
unfolding header_fault
header_sound s e =
    let parts = then_both _ _ e in
    record { header = bytes_sound s parts.0; long = sym (length_sound _ _ parts.1) }

-- a sound record: its frame, its cubes one by one, and its on cubes against its off cubes
pub record Sound (s : List ℕ) : Type 0 where
  pub framed : Framed s
  pub cubes : (cubes_fault s).code ≡ 0
  pub apart : (clash_fault s).code ≡ 0

pub record_sound : (s : List ℕ) → (record_fault s).code ≡ 0 → Sound s
unfolding record_fault
record_sound s e =
    let clash = then_both _ _ e in
    let parts = then_both _ _ clash.0 in
    record { framed = header_sound s parts.0; cubes = parts.1; apart = clash.1 }

-- two sound records with as many inputs
pub both_fine : (f g : List ℕ) → (both_read f g).code ≡ 0 → ((record_fault f).code ≡ 0) × ((record_fault g).code ≡ 0) × (inputs f ≡ inputs g)
unfolding both_read
both_fine f g e =
    let first = by_both 1 (record_fault f) _ e in
    let second = by_both 2 (record_fault g) _ first.1 in
    (first.0, second.0, same (eqb (inputs f) (inputs g)) refl second.1)
  where
    same : (t : Bool) → eqb (inputs f) (inputs g) ≡ t → (cond t fine (refused 9 2 2)).code ≡ 0 → inputs f ≡ inputs g
    same true q h = eqb-true _ _ q
    same false q h = absurd (omega (arith, h))

-- the three ways in which the reading ends
pub ends_at_header : (s : List ℕ) → ((header_fault s).code ≡ 0 → ⊥) → record_fault s ≡ header_fault s
unfolding record_fault
ends_at_header s h = ap (λ (f : Fault). f then clash_fault s) (then_stop _ _ h) ∙ then_stop _ _ h

pub ends_at_cubes : (s : List ℕ) → (header_fault s).code ≡ 0 → ((cubes_fault s).code ≡ 0 → ⊥) → record_fault s ≡ cubes_fault s
unfolding record_fault
ends_at_cubes s h c = ap (λ (f : Fault). f then clash_fault s) (then_next _ _ h) ∙ then_stop _ _ c

pub ends_at_clash : (s : List ℕ) → (header_fault s).code ≡ 0 → (cubes_fault s).code ≡ 0 → record_fault s ≡ clash_fault s
unfolding record_fault
ends_at_clash s h c = ap (λ (f : Fault). f then clash_fault s) (then_next _ _ h) ∙ then_next _ _ c

-- what the calls answer, by what the record's test comes to
abbrev pub read_as : List ℕ → Result (Unit {0}) Fault → Reading
read_as s (Ok u) = with_counts (accepted 3 (length s)) (inputs s) (on_count s) (off_count s)
read_as s (Err f) = with_counts (refused_by 1 f) 0 0 0

pub reading_by : (s : List ℕ) → reading s ≡ read_as s (verdict (record_fault s))
unfolding reading verdict
reading_by s = elim (is_sound (record_fault s)) as (λ t. cond t (read_as s (Ok (tt {0}))) (read_as s (Err (record_fault s))) ≡ read_as s (cond t (Ok (tt {0})) (Err (record_fault s)))) [ true ↦ refl | false ↦ refl ]

abbrev pub summed_as : List ℕ → Result (Unit {0}) Fault → Figures
summed_as s (Ok u) = with_figures (accepted 3 (length s)) (patterns_held (inputs s) (on_list s)) (patterns_held (inputs s) (off_list s)) (inputs_used (on_list s) (off_list s))
summed_as s (Err f) = with_figures (refused_by 1 f) 0 0 0

pub summing_by : (s : List ℕ) → summing s ≡ summed_as s (verdict (record_fault s))
unfolding summing verdict
summing_by s = elim (is_sound (record_fault s)) as (λ t. cond t (summed_as s (Ok (tt {0}))) (summed_as s (Err (record_fault s))) ≡ summed_as s (cond t (Ok (tt {0})) (Err (record_fault s)))) [ true ↦ refl | false ↦ refl ]

pub both_by : (f g : List ℕ) → unless_refused (both_read f g)
    ≡ refusal_first 1 (verdict (record_fault f)) (refusal_first 2 (verdict (record_fault g)) (cond (eqb (inputs f) (inputs g)) (Ok (tt {0})) (Err (refused 9 2 2))))
unfolding both_read
both_by f g =
    unless_by 1 (record_fault f) _
    ∙ ap (refusal_first 1 (verdict (record_fault f)))
    (unless_by 2 (record_fault g) _
    ∙ ap (refusal_first 2 (verdict (record_fault g)))
    (elim (eqb (inputs f) (inputs g)) as (λ t. unless_refused (cond t fine (refused 9 2 2)) ≡ cond t (Ok (tt {0})) (Err (refused 9 2 2))) [ true ↦ unless_fine | false ↦ unless_coded 9 2 2 refl ]))

-- ---- and the other way: a record of this form is accepted

bytes_good : (s : List ℕ) → Header s → header_bytes s ≡ sound
unfolding header_bytes ◌then◌
bytes_good s h i =
    byte_good s 0 0x46 0x46 2 h.mark₀ i then byte_good s 1 0x4E 0x4E 2 h.mark₁ i then byte_good s 2 1 8 3 h.n_byte i
    then byte_good s 3 0 64 4 h.a_byte i then byte_good s 4 0 64 4 h.b_byte i

pub header_good : (s : List ℕ) → Framed s → header_fault s ≡ sound
unfolding header_fault ◌then◌
header_good s f i = bytes_good s f.header i then (ap (λ (end : ℕ). length_fault (length s) end) f.long ∙ length_good (length s)) i

-- the reader's answer to an accepted record
pub reading_accepted : (s : List ℕ) → (record_fault s).code ≡ 0 → reading s ≡ with_counts (accepted 3 (length s)) (inputs s) (on_count s) (off_count s)
unfolding reading
reading_accepted s = next_chosen (record_fault s).code _ _

pub summing_accepted : (s : List ℕ) → (record_fault s).code ≡ 0
    → summing s ≡ with_figures (accepted 3 (length s)) (patterns_held (inputs s) (on_list s)) (patterns_held (inputs s) (off_list s)) (inputs_used (on_list s) (off_list s))
unfolding summing
summing_accepted s = next_chosen (record_fault s).code _ _

-- reader and summary accept exactly the records without a fault
pub reading_code : (s : List ℕ) → (reading s).answer.code ≡ 0 → (record_fault s).code ≡ 0
unfolding reading
reading_code s e = (chosen (λ (r : Reading). r.answer.code) (record_fault s).code _ _ refl e).0

pub summing_code : (s : List ℕ) → (summing s).answer.code ≡ 0 → (record_fault s).code ≡ 0
unfolding summing
summing_code s e = (chosen (λ (r : Figures). r.answer.code) (record_fault s).code _ _ refl e).0

-- the reading of both accepts just two accepted records with as many inputs
pub both_good : (f g : List ℕ) → Accepted f g → (both_read f g).code ≡ 0
unfolding both_read by
both_good f g ok = simp (eq-eqb (record_fault f).code 0 ok.fine_f, eq-eqb (record_fault g).code 0 ok.fine_g, eq-eqb (inputs f) (inputs g) ok.equal)

pub both_sound : (f g : List ℕ) → Bytes f → Bytes g → (both_read f g).code ≡ 0 → Accepted f g
both_sound f g bytes_f bytes_g e = let x = both_fine f g e in record { bytes_f = bytes_f; bytes_g = bytes_g; fine_f = x.0; fine_g = x.1; equal = x.2 }

-- as the code finds it
pub accepted_by : (f g : List ℕ) (u v : Unit {0}) → Bytes f → Bytes g → verdict (record_fault f) ≡ Ok u → verdict (record_fault g) ≡ Ok v → inputs f ≡ inputs g → Accepted f g
accepted_by f g u v bytes_f bytes_g p q e =
    record { bytes_f = bytes_f; bytes_g = bytes_g; fine_f = verdict_ok _ u p; fine_g = verdict_ok _ v q; equal = e }

-- both end where their headers say
pub framed_both : (f g : List ℕ) → Accepted f g → Framed f × Framed g
framed_both f g ok = ((record_sound f ok.fine_f).framed, (record_sound g ok.fine_g).framed)

-- there are at most eight inputs
pub few_inputs : (f g : List ℕ) → Accepted f g → inputs g ≤ 8
few_inputs f g ok = (record_sound g ok.fine_g).framed.header.n_byte.most
