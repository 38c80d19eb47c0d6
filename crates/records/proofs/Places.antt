-- Which codes each part of the reading gives, and which places: a cube's fault lies two bytes or more before the record's end.
use Prim.Native.Nat.{ℕ, ◌+◌, ◌*◌, ◌≤◌, zero-le}
use mathlib.Core.Path.{◌≡◌, refl, sym, ap, ◌∙◌}
use mathlib.Core.Bool.{Bool, true, false, ◌&&◌, false≢true}
use mathlib.Core.List.{List, [], ◌∷◌}
use native.Mathlib.Nat.{le_trans}
use native.Mathlib.Omega.{arith}
use lib.Dec.{leb, eqb}
use lib.ListN.{length, drop, length-take, length-drop}
use Rattle.bits.specs.Bits.{has, any}
use Rattle.cubes.specs.Cubes.{cube_names}
use Rattle.bits.proofs.Tests.{cond_cases}
use Rattle.answers.specs.declared.Fault.{Fault}
use Rattle.answers.specs.declared.Answer.{Answer}
use Rattle.answers.specs.Answers.{fault_at, sound, fine, refused, by, byte_fault}
use Rattle.answers.proofs.Faults.{then_cases, byte_cases, length_cases, chosen_elim, then_elim, then_both, byte_place, length_place}
use Rattle.records.specs.declared.Figures.{Figures}
use Rattle.records.specs.Records.{inputs, on_count, cubes_at, on_list, off_list, is_cubes, header_bytes, header_fault, cubes_fault, clash_fault, record_end, record_fault, both_read, summing, first_fault, cube_code, clash_code, clash_pattern, no_pattern}
use Rattle.records.proofs.Frame.{Framed, bytes_sound, header_sound, record_sound}

-- ---- by cases: what holds of each fault that a part of the reading gives holds of the one that is found

module _ (Q : Fault → Type 0) where
  pub bytes_cases : (s : List ℕ) → Q (byte_fault s 0 0x46 0x46 2) → Q (byte_fault s 1 0x4E 0x4E 2) → Q (byte_fault s 2 1 8 3) → Q (byte_fault s 3 0 64 4) → Q (byte_fault s 4 0 64 4) → Q (header_bytes s)
  unfolding header_bytes
  bytes_cases s b₀ b₁ b₂ b₃ b₄ = then_cases Q _ _ (then_cases Q _ _ (then_cases Q _ _ (then_cases Q _ _ b₀ b₁) b₂) b₃) b₄

  -- the fault of a cube lies two bytes or more before the list's end
  pub first_cases : Q sound → (code pattern : ℕ → ℕ → ℕ) (l : List ℕ) (at : ℕ) → ((P N k : ℕ) → k + 2 ≤ at + length l → Q (fault_at (code P N) k (pattern P N))) → Q (first_fault code pattern l at)
  unfolding first_fault
  first_cases fine code pattern [] at found = fine
  first_cases fine code pattern (P ∷ []) at found = fine
  first_cases fine code pattern (P ∷ N ∷ l) at found =
      cond_cases Q (eqb (code P N) 0) _ _ (first_cases fine code pattern l (at + 2) (λ P N k h. found P N k (omega arith))) (found P N at (omega arith))

  -- cubes are read where the header is sound
  pub record_cases : (s : List ℕ) → Q (header_fault s) → (Framed s → Q (cubes_fault s)) → (Framed s → Q (clash_fault s)) → Q (record_fault s)
  unfolding record_fault
  record_cases s header cubes clash =
      then_elim Q _ _ (λ _. then_elim Q _ _ (λ _. header) (λ z. cubes (header_sound s z))) (λ z. clash (header_sound s (then_both _ _ z).0))

-- ---- codes

module _ (Q : ℕ → Type 0) (q₀ : Q 0) where
  abbrev OfCode : Fault → Type 0
  OfCode f = Q f.code

  pub header_codes : (s : List ℕ) → Q 1 → Q 2 → Q 3 → Q 4 → Q 8 → Q (header_fault s).code
  unfolding header_fault
  header_codes s q₁ q₂ q₃ q₄ q₈ =
      let byte : (k low high code : ℕ) → Q code → Q (byte_fault s k low high code).code = λ k low high code. byte_cases OfCode s k low high code q₀ (λ _. q₁) in
      then_cases OfCode _ _
      (bytes_cases OfCode s (byte 0 0x46 0x46 2 q₂) (byte 1 0x4E 0x4E 2 q₂) (byte 2 1 8 3 q₃) (byte 3 0 64 4 q₄) (byte 4 0 64 4 q₄))
      (length_cases OfCode (length s) _ q₀ (λ _. q₁) q₈)

  pub first_codes : (code pattern : ℕ → ℕ → ℕ) (l : List ℕ) (at : ℕ) → ((P N : ℕ) → Q (code P N)) → Q (first_fault code pattern l at).code
  first_codes code pattern l at f = first_cases OfCode q₀ code pattern l at (λ P N k h. f P N)

  pub cube_codes : (n P N : ℕ) → Q 5 → Q 6 → Q (cube_code n P N)
  unfolding cube_code
  cube_codes n P N q₅ q₆ = cond_cases Q (any 8 (λ i. leb n i && cube_names P N i)) 5 _ q₅ (cond_cases Q (any 8 (λ i. has P i && has N i)) 6 0 q₆ q₀)

-- ---- places

on_end : (s : List ℕ) → Framed s → cubes_at s + length (on_list s) ≤ length s
unfolding on_list
on_end s h = omega (arith, length-take (2 * on_count s) (drop (cubes_at s) s), length-drop (cubes_at s) s)

-- the codes of cubes
abbrev of_cubes : ℕ → Bool
of_cubes code = leb 5 code && leb code 7

pub cubes_place : (s : List ℕ) → is_cubes (record_fault s) ≡ true → (record_fault s).place + 2 ≤ length s
cubes_place s =
    record_cases Placed s (λ e. absurd (false≢true (sym (header_codes (λ (code : ℕ). of_cubes code ≡ false) refl s refl refl refl refl refl) ∙ e)))
    (λ h. within (cube_code (inputs s)) no_pattern (drop (cubes_at s) s) (omega (arith, length-drop (cubes_at s) s)))
    (λ h. within (clash_code (inputs s) (off_list s)) (clash_pattern (inputs s) (off_list s)) (on_list s) (on_end s h))
  where
    Placed : Fault → Type 0
    Placed f = is_cubes f ≡ true → f.place + 2 ≤ length s

    within : (code pattern : ℕ → ℕ → ℕ) (l : List ℕ) → cubes_at s + length l ≤ length s → Placed (first_fault code pattern l (cubes_at s))
    within code pattern l fits = first_cases Placed (λ e. absurd (false≢true e)) code pattern l (cubes_at s) (λ P N k h e. le_trans h fits)

-- in any list of cubes
pub first_place : (code pattern : ℕ → ℕ → ℕ) (l : List ℕ) (at : ℕ) → (first_fault code pattern l at).place ≤ at + length l
first_place code pattern l at = first_cases (λ (f : Fault). f.place ≤ at + length l) zero-le code pattern l at (λ P N k h. omega arith)

-- every place is within the longest record, or just after it
pub record_place : (s : List ℕ) → (record_fault s).place ≤ 261
unfolding header_fault
record_place s =
    record_cases Near s
    (then_elim Near _ _ (λ _. bytes_cases Near s (byte 0 _ _ _ zero-le) (byte 1 _ _ _ (omega arith)) (byte 2 _ _ _ (omega arith)) (byte 3 _ _ _ (omega arith)) (byte 4 _ _ _ (omega arith)))
    (λ z. let h = bytes_sound s z in omega (arith, length_place (length s) (record_end s))))
    (λ h. within (cube_code (inputs s)) no_pattern (drop (cubes_at s) s) h (omega (arith, length-drop (cubes_at s) s)))
    (λ h. within (clash_code (inputs s) (off_list s)) (clash_pattern (inputs s) (off_list s)) (on_list s) h (on_end s h))
  where
    Near : Fault → Type 0
    Near f = f.place ≤ 261

    byte : (k low high code : ℕ) → k ≤ 261 → Near (byte_fault s k low high code)
    byte k low high code h = le_trans (byte_place s k low high code) h

    within : (code pattern : ℕ → ℕ → ℕ) (l : List ℕ) → Framed s → cubes_at s + length l ≤ length s → Near (first_fault code pattern l (cubes_at s))
    within code pattern l h fits = first_cases Near zero-le code pattern l (cubes_at s) (λ P N k l. omega arith)

-- so with two records
pub both_place : (f g : List ℕ) → (both_read f g).place ≤ 261
unfolding both_read by
both_place f g =
    chosen_elim Near (record_fault f).code _ _ (λ _. record_place f)
    (λ _. chosen_elim Near (record_fault g).code _ _ (λ _. record_place g)
    (λ _. cond_cases Near (eqb (inputs f) (inputs g)) fine (refused 9 2 2) zero-le (omega arith)))
  where
    Near : Answer → Type 0
    Near a = a.place ≤ 261

-- and with a summary: an accepted record's place is its length
pub summing_place : (s : List ℕ) → (summing s).answer.place ≤ 261
unfolding summing
summing_place s =
    chosen_elim (λ (r : Figures). r.answer.place ≤ 261) (record_fault s).code _ _ (λ _. record_place s) (λ z. let h = record_sound s z in omega arith)

-- a sound record has no cube at fault
pub sound_no_cube : (f : Fault) → f.code ≡ 0 → is_cubes f ≡ false
sound_no_cube f z = ap of_cubes z
