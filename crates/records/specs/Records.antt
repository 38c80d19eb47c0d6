-- Function records, in the words and the order of document 01. A record is the list of its bytes.
use Rattle.std.specs.Prelude.{ℕ, ◌+◌, ◌*◌, ◌^◌, ◌≤◌, ◌<◌, ◌≡◌, Bool, cond, ◌&&◌, List, [], ◌∷◌, leb, eqb, length, get_or, take, drop}
use Rattle.bits.specs.Bits.{has, any, or_zero}
use Rattle.cubes.specs.Cubes.{cube_names, cubes_share, some_cube, least_with, patterns_held, inputs_used}
use Rattle.answers.specs.declared.Answer.{Answer}
use Rattle.answers.specs.declared.Fault.{Fault}
use Rattle.answers.specs.Answers.{accepted, refused, fine, fault_at, sound, is_sound, byte_fault, length_fault, ◌then◌, refused_by, by}
use Rattle.records.specs.declared.Reading.{Reading}
use Rattle.records.specs.declared.Figures.{Figures}

-- ---- the parts of a record: the mark 46 4E, then n, a, b, then a + b cubes of two bytes each, on list first

abbrev pub inputs : List ℕ → ℕ
inputs s = get_or s 2 0

abbrev pub on_count : List ℕ → ℕ
on_count s = get_or s 3 0

abbrev pub off_count : List ℕ → ℕ
off_count s = get_or s 4 0

-- where the cubes start, where the off list starts, and where the record ends
abbrev pub cubes_at : List ℕ → ℕ
cubes_at s = 5

abbrev pub off_at : List ℕ → ℕ
off_at s = cubes_at s + 2 * on_count s

abbrev pub record_end : List ℕ → ℕ
record_end s = cubes_at s + 2 * (on_count s + off_count s)

unfoldable pub on_list : List ℕ → List ℕ
on_list s = take (2 * on_count s) (drop (cubes_at s) s)

unfoldable pub off_list : List ℕ → List ℕ
off_list s = take (2 * off_count s) (drop (off_at s) s)

-- ---- faults

-- the code for one cube: 5 where it names an input at or above n, else 6 where it has an input in both masks, else 0
unfoldable pub cube_code : ℕ → ℕ → ℕ → ℕ
cube_code n P N = cond (any 8 (λ i. leb n i && cube_names P N i)) 5 (cond (any 8 (λ i. has P i && has N i)) 6 0)

-- the code for an on cube: 7 where it shares a pattern with a cube of the off list, else 0
unfoldable pub clash_code : ℕ → List ℕ → ℕ → ℕ → ℕ
clash_code n off P N = cond (some_cube (cubes_share n P N) off) 7 0

-- and the pattern that goes with it: the smallest that the cube shares with any cube of the off list
unfoldable pub clash_pattern : ℕ → List ℕ → ℕ → ℕ → ℕ
clash_pattern n off P N = or_zero (least_with n P N off)

-- no other code names a pattern
abbrev pub no_pattern : ℕ → ℕ → ℕ
no_pattern P N = 0

-- the first cube of a list whose code is not 0: its first byte's place, where the list starts at place `at`, and its pattern
unfoldable pub first_fault : (ℕ → ℕ → ℕ) → (ℕ → ℕ → ℕ) → List ℕ → ℕ → Fault
first_fault code pattern [] at = sound
first_fault code pattern (P ∷ []) at = sound
first_fault code pattern (P ∷ N ∷ rest) at =
    cond (eqb (code P N) 0) (first_fault code pattern rest (at + 2)) (fault_at (code P N) at (pattern P N))

-- header bytes one by one, then the length
unfoldable pub header_bytes : List ℕ → Fault
header_bytes s =
    byte_fault s 0 0x46 0x46 2
    then byte_fault s 1 0x4E 0x4E 2
    then byte_fault s 2 1 8 3
    then byte_fault s 3 0 64 4
    then byte_fault s 4 0 64 4

unfoldable pub header_fault : List ℕ → Fault
header_fault s = header_bytes s then length_fault (length s) (record_end s)

-- the cubes in order
abbrev pub cubes_fault : List ℕ → Fault
cubes_fault s = first_fault (cube_code (inputs s)) no_pattern (drop (cubes_at s) s) (cubes_at s)

-- the on cubes against the off cubes
abbrev pub clash_fault : List ℕ → Fault
clash_fault s = first_fault (clash_code (inputs s) (off_list s)) (clash_pattern (inputs s) (off_list s)) (on_list s) (cubes_at s)

unfoldable pub record_fault : List ℕ → Fault
record_fault s = header_fault s then cubes_fault s then clash_fault s

-- what a record without a fault is known to be: it has its header, in its ranges, and ends where that says
pub record Sized (s : List ℕ) : Type 0 where
  pub there : 5 ≤ length s
  pub least : 1 ≤ inputs s
  pub most : inputs s ≤ 8
  pub on_most : on_count s ≤ 64
  pub off_most : off_count s ≤ 64
  pub ends : record_end s ≡ length s

-- ---- what the calls answer

-- the reader: n, a and b beside the answer, three zeros if refused
abbrev pub with_counts : Answer → ℕ → ℕ → ℕ → Reading
with_counts answer n a b = record { answer = answer; n = n; a = a; b = b }

-- refused for the record's fault, as record 1
abbrev pub refusal : List ℕ → Answer
refusal s = refused_by 1 (record_fault s)

unfoldable pub reading : List ℕ → Reading
reading s =
    cond (is_sound (record_fault s))
    (with_counts (accepted 3 (length s)) (inputs s) (on_count s) (off_count s))
    (with_counts (refusal s) 0 0 0)

-- the summary: on patterns, off patterns, and inputs in use beside the answer, three zeros if refused
abbrev pub with_figures : Answer → ℕ → ℕ → ℕ → Figures
with_figures answer on off used = record { answer = answer; on = on; off = off; used = used }

abbrev pub figures_of : Figures → List ℕ
figures_of r = r.on ∷ r.off ∷ r.used ∷ []

unfoldable pub summing : List ℕ → Figures
summing s =
    cond (is_sound (record_fault s))
    (with_figures (accepted 3 (length s)) (patterns_held (inputs s) (on_list s)) (patterns_held (inputs s) (off_list s)) (inputs_used (on_list s) (off_list s)))
    (with_figures (refusal s) 0 0 0)

-- ---- two functions: f, then g, then whether they have as many inputs

unfoldable pub both_read : List ℕ → List ℕ → Answer
both_read f g = by 1 (record_fault f) (by 2 (record_fault g) (cond (eqb (inputs f) (inputs g)) fine (refused 9 2 2)))

-- what that says of two records: both are accepted and have as many inputs. Their elements are bytes, as those of every slice are
abbrev pub Bytes : List ℕ → Type 0
Bytes s = (i : ℕ) → get_or s i 0 < 2 ^ 8

pub record Accepted (f g : List ℕ) : Type 0 where
  pub bytes_f : Bytes f
  pub bytes_g : Bytes g
  pub fine_f : (record_fault f).code ≡ 0
  pub fine_g : (record_fault g).code ≡ 0
  pub equal : inputs f ≡ inputs g

-- ---- the bytes at fault: the two bytes of a cube for codes 5, 6 and 7

-- the fault is a cube's
abbrev pub is_cubes : Fault → Bool
is_cubes f = leb 5 f.code && leb f.code 7

-- it lies in f; or f is sound, and it lies in g
abbrev pub faulty_f : List ℕ → Bool
faulty_f f = is_cubes (record_fault f)

abbrev pub faulty_g : List ℕ → List ℕ → Bool
faulty_g f g = is_sound (record_fault f) && is_cubes (record_fault g)

-- the bytes, and where they lie: in f's memory or in g's, at the fault's place, or nothing at the start of f. Where a
-- record lies is its block of memory and its offset in it
unfoldable pub bytes_at_fault : List ℕ → List ℕ → List ℕ
bytes_at_fault f g =
    cond (faulty_f f) (take 2 (drop (record_fault f).place f))
    (cond (faulty_g f g) (take 2 (drop (record_fault g).place g)) [])

unfoldable pub memory_at_fault : List ℕ → List ℕ → ℕ × ℕ → ℕ × ℕ → ℕ × ℕ
memory_at_fault f g at_f at_g =
    cond (faulty_f f) (at_f.0, (record_fault f).place + at_f.1)
    (cond (faulty_g f g) (at_g.0, (record_fault g).place + at_g.1) at_f)

-- what the call hands back, as memory and as bytes
pub record AtFault (f g : List ℕ) (at_f at_g at_r : ℕ × ℕ) (r : List ℕ) : Type 0 where
  pub memory : at_r ≡ memory_at_fault f g at_f at_g
  pub bytes : r ≡ bytes_at_fault f g
