-- Reading and writing undo each other: an accepted record is written from its own n and lists again, and what the writer
-- wrote is read with the same n, counts and cubes.
use Prim.Native.Nat.{ℕ, ◌*◌, ◌/◌, ◌%◌, ◌≤◌}
use mathlib.Core.Path.{◌≡◌, refl, sym, ap, ap₂, ◌∙◌}
use mathlib.Core.List.{List, [], ◌∷◌, ◌++◌}
use native.Mathlib.Omega.{arith}
use lib.ListN.{length, get_or, take, drop, length-append, length-take, length-drop, take-append-drop}
use lib.Seq.{take_all, drop-drop, take_at, drop_at}
use Rattle.cubes.proofs.Lists.{Each}
use Rattle.answers.specs.declared.Answer.{Answer}
use Rattle.answers.specs.declared.Fault.{Fault}
use Rattle.answers.specs.Answers.{accepted, fits, Delivered}
use Rattle.answers.proofs.Faults.{or_else_next, or_else_both}
use Rattle.answers.proofs.Stores.{fits_enough, Stands, delivered_stands}
use Rattle.records.specs.Records.{inputs, on_count, off_count, off_at, on_list, off_list, record_fault, cubes_fault, first_fault, cube_code, clash_code, clash_pattern, no_pattern, reading, with_counts}
use Rattle.records.proofs.Frame.{Framed, record_sound, header_good, ends_at_clash, reading_accepted}
use Rattle.records.proofs.Cubes.{first_each, each_first}
use Rattle.records.proofs.Meaning.{each_on, each_off}
use Rattle.writer.specs.Writing.{record_bytes, writing}
use Rattle.writer.proofs.Laws.{Sized, sizes_good, sizes_sound, Right, cubes_good, cubes_right}

-- ---- an accepted record, written again

-- the five header bytes, and the rest
header_and_cubes : (s : List ℕ) → 5 ≤ length s → s ≡ get_or s 0 0 ∷ get_or s 1 0 ∷ get_or s 2 0 ∷ get_or s 3 0 ∷ get_or s 4 0 ∷ drop 5 s
header_and_cubes [] h = absurd (omega (arith, h))
header_and_cubes (a ∷ []) h = absurd (omega (arith, h))
header_and_cubes (a ∷ b ∷ []) h = absurd (omega (arith, h))
header_and_cubes (a ∷ b ∷ c ∷ []) h = absurd (omega (arith, h))
header_and_cubes (a ∷ b ∷ c ∷ d ∷ []) h = absurd (omega (arith, h))
header_and_cubes (a ∷ b ∷ c ∷ d ∷ e ∷ s) h = refl

module _ (s : List ℕ) (framed : Framed s) where
  pub on_long : length (on_list s) ≡ 2 * on_count s
  unfolding on_list
  on_long = omega (arith, length-take (2 * on_count s) (drop 5 s), length-drop 5 s)

  pub off_long : length (off_list s) ≡ 2 * off_count s
  unfolding off_list
  off_long = omega (arith, length-take (2 * off_count s) (drop (off_at s) s), length-drop (off_at s) s)

  both_lists : on_list s ++ off_list s ≡ drop 5 s
  unfolding on_list off_list
  both_lists =
      ap (λ (off : List ℕ). take (2 * on_count s) (drop 5 s) ++ off)
      (take_all (2 * off_count s) (drop (off_at s) s) (omega (arith, length-drop (off_at s) s)) ∙ sym (drop-drop (2 * on_count s) 5 s))
      ∙ take-append-drop (2 * on_count s) (drop 5 s)

  -- the record's own bytes come back
  pub bytes_again : record_bytes (inputs s) (on_list s) (off_list s) ≡ s
  unfolding record_bytes
  bytes_again =
      (λ i. e₀ i ∷ e₁ i ∷ inputs s ∷ e₃ i ∷ e₄ i ∷ both_lists i) ∙ sym (header_and_cubes s (omega arith))
    where
      e₀ : 0x46 ≡ get_or s 0 0
      e₀ = omega arith

      e₁ : 0x4E ≡ get_or s 1 0
      e₁ = omega arith

      e₃ : length (on_list s) / 2 ≡ on_count s
      e₃ = omega (arith, on_long)

      e₄ : length (off_list s) / 2 ≡ off_count s
      e₄ = omega (arith, off_long)

module _ (s : List ℕ) (ok : (record_fault s).code ≡ 0) where
  lists_sized : Sized (inputs s) (on_list s) (off_list s)
  lists_sized =
      let f = (record_sound s ok).framed in
      let on = on_long s f in
      let off = off_long s f in
      record { least = omega arith; most = omega arith; on_even = omega arith; off_even = omega arith; on_few = omega arith; off_few = omega arith }

  lists_right : Right (inputs s) (on_list s) (off_list s)
  lists_right = record { on_cubes = each_on s ok; off_cubes = each_off s ok; apart = first_each _ _ _ _ (record_sound s ok).apart }

  -- and the writer accepts, wherever the buffer has room for the record
  pub written_again : (room : ℕ) → length s ≤ room → writing (inputs s) (on_list s) (off_list s) room ≡ accepted 3 (length s)
  unfolding writing
  written_again room h =
      or_else_next _ _ (ap (λ a. a.code) (sizes_good _ _ _ lists_sized))
      ∙ or_else_next _ _ (ap (λ a. a.code) (cubes_good _ _ _ lists_right))
      ∙ ap (λ (b : List ℕ). fits 3 room (length b)) (bytes_again s (record_sound s ok).framed)
      ∙ fits_enough 3 room (length s) h

-- ---- what was written, read again

-- each cube of two lists put together
each_join : (Q : ℕ → ℕ → Type 0) (l m : List ℕ) → length l % 2 ≡ 0 → Each Q l → Each Q m → Each Q (l ++ m)
unfolding Each
each_join Q [] m even e d = d
each_join Q (P ∷ []) m even e d = absurd (omega (arith, even))
each_join Q (P ∷ N ∷ l) m even e d = (e.0, each_join Q l m (omega (arith, even)) e.1 d)

module _ (n : ℕ) (on off : List ℕ) (sized : Sized n on off) where
  -- the lists are found where they were put
  pub on_again : on_list (record_bytes n on off) ≡ on
  unfolding record_bytes on_list
  on_again = take_at on off (2 * (length on / 2)) (omega arith)

  pub off_again : off_list (record_bytes n on off) ≡ off
  unfolding record_bytes off_list
  off_again =
      ap (take (2 * (length off / 2)))
      (sym (drop-drop (2 * (length on / 2)) 5 (0x46 ∷ 0x4E ∷ n ∷ length on / 2 ∷ length off / 2 ∷ on ++ off)) ∙ drop_at on off (2 * (length on / 2)) (omega arith))
      ∙ take_all (2 * (length off / 2)) off (omega arith)

  framed_again : Framed (record_bytes n on off)
  unfolding record_bytes
  framed_again =
      let long = length-append on off in
      record {
        header = record {
          mark₀ = record { there = omega arith; least = omega arith; most = omega arith };
          mark₁ = record { there = omega arith; least = omega arith; most = omega arith };
          n_byte = record { there = omega arith; least = sized.least; most = sized.most };
          a_byte = record { there = omega arith; least = omega arith; most = omega arith };
          b_byte = record { there = omega arith; least = omega arith; most = omega arith };
        };
        long = omega arith;
      }

  module _ (on_cubes : Each (λ P N. cube_code n P N ≡ 0) on) (off_cubes : Each (λ P N. cube_code n P N ≡ 0) off) where
    cubes_again : (cubes_fault (record_bytes n on off)).code ≡ 0
    unfolding record_bytes
    cubes_again = ap (λ (f : Fault). f.code) (each_first (cube_code n) no_pattern (on ++ off) 5 (each_join _ on off sized.on_even on_cubes off_cubes))

    -- so the record can have no fault but a shared pattern
    pub clash_again : record_fault (record_bytes n on off) ≡ first_fault (clash_code n off) (clash_pattern n off) on 5
    unfolding record_bytes
    clash_again =
        ends_at_clash (record_bytes n on off) (ap (λ (f : Fault). f.code) (header_good (record_bytes n on off) framed_again)) cubes_again
        ∙ ap₂ (λ (on' off' : List ℕ). first_fault (clash_code n off') (clash_pattern n off') on' 5) on_again off_again

  module _ (right : Right n on off) where
    sound_again : (record_fault (record_bytes n on off)).code ≡ 0
    sound_again = ap (λ (f : Fault). f.code) (clash_again right.on_cubes right.off_cubes ∙ each_first (clash_code n off) (clash_pattern n off) on 5 right.apart)

    -- accepted, with the same n and counts
    pub read_again : reading (record_bytes n on off) ≡ with_counts (accepted 3 (length (record_bytes n on off))) n (length on / 2) (length off / 2)
    unfolding record_bytes
    read_again = reading_accepted (record_bytes n on off) sound_again

-- in all: where the writer accepts, its bytes are read as the n and the lists that it was given
pub record Same (n : ℕ) (on off s : List ℕ) : Type 0 where
  pub answer : reading s ≡ with_counts (accepted 3 (length s)) n (length on / 2) (length off / 2)
  pub on_cubes : on_list s ≡ on
  pub off_cubes : off_list s ≡ off

pub written_read : (n : ℕ) (on off : List ℕ) (room : ℕ) → (writing n on off room).code ≡ 0 → Same n on off (record_bytes n on off)
unfolding writing
written_read n on off room e =
    let first = or_else_both _ _ e in
    let sized = sizes_sound n on off first.0 in
    let right = cubes_right n on off (or_else_both _ _ first.1).0 in
    record { answer = read_again n on off sized right; on_cubes = on_again n on off sized; off_cubes = off_again n on off sized }

-- ---- what a caller finds in the buffer

-- where the writer's contract allows an accepted answer, the record stands at the buffer's start
pub written_stands : (n : ℕ) (on off before after : List ℕ) (r : Answer)
    → Delivered (writing n on off (length before)) (record_bytes n on off) before after r → r.code ≡ 0 → Stands (record_bytes n on off) before after r.place
unfolding writing
written_stands n on off before after r =
    delivered_stands (writing n on off (length before)) 3 (record_bytes n on off) before after r
    (λ z. let first = or_else_both _ _ z in or_else_next _ _ first.0 ∙ or_else_next _ _ (or_else_both _ _ first.1).0)
