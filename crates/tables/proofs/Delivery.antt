-- The record of the lines: its cubes have no fault of their own, so 4 and 7 are all that can be wrong with it.
use Prim.Native.Nat.{ℕ, ◌+◌, ◌*◌, ◌/◌, ◌%◌, ◌^◌, ◌≤◌, ◌<◌}
use mathlib.Core.Path.{◌≡◌, refl, sym, ap, ap₂, ◌∙◌, subst₂}
use mathlib.Core.Bool.{Bool, true, false, cond, ◌&&◌, ◌||◌, false≢true}
use mathlib.Core.List.{List, [], ◌∷◌, ◌++◌}
use native.Mathlib.Omega.{arith}
use borrow.Author.Tests.{eqb-true, eqb-false, eq-eqb, ne_eqb, lt-leb, le-leb, leb-true}
use lib.Dec.{leb, ltb, eqb}
use lib.ListN.{length, get_or, take, length-take}
use Rattle.bits.proofs.Tests.{both_left, both_right}
use Rattle.bits.specs.Bits.{has}
use Rattle.bits.proofs.Below.{any_none}
use Rattle.bits.proofs.Mask.{mask_at, mask_above}
use Rattle.cubes.proofs.Lists.{Each}
use Rattle.answers.specs.declared.Answer.{Answer}
use Rattle.answers.specs.declared.Fault.{Fault}
use Rattle.answers.specs.Answers.{fault, fault_at, sound, is_sound, refused, refused_by, fits, byte_fault, ◌then◌, Delivered}
use Rattle.std.proofs.Common.{Ok, Err}
use Rattle.answers.specs.Answers.{by}
use Rattle.answers.proofs.Faults.{by_next, by_stop, then_stop, byte_good, next_chosen}
use Rattle.answers.proofs.Verdicts.{verdict_ok, verdict_err}
use Rattle.rules.specs.Lists.{each_in}
use Rattle.records.specs.Records.{first_fault, cube_code, clash_code, clash_pattern, no_pattern, header_bytes, header_fault, record_fault}
use Rattle.records.proofs.Cubes.{first_each, each_first, clean_list, clash_width}
use Rattle.records.proofs.Frame.{ends_at_header}
use Rattle.writer.specs.Writing.{record_bytes}
use Rattle.writer.proofs.Laws.{Sized}
use Rattle.writer.proofs.RoundTrip.{clash_again}
use Rattle.terms.specs.Terms.{Says, nothing, keyword, term, end, malformed, unknown, on_char, off_char, output, cube_of, inputs_with, well_formed, dot_i}
use Rattle.rows.specs.Rows.{of_term, told, table_fault, said_in, cubes_with}
use Rattle.tables.specs.Tables.{record_of, table_reading}
use Rattle.rows.specs.declared.Scan.{Scan}
use Rattle.rows.specs.Known.{Scanned, Gathered}
use Rattle.tables.specs.Ready.{Ready, record_reading}
use Rattle.rows.proofs.Knows.{own_length}
use Rattle.tables.proofs.Meaning.{term_right, terms_right, cubes_even}

-- ---- a fault in a list that starts further on lies further on

-- the fault d places further on
abbrev moved : ℕ → Fault → Fault
moved d f = fault_at f.code (d + f.place) f.pattern

first_moved : (code pattern : ℕ → ℕ → ℕ) (l : List ℕ) (at d : ℕ)
    → let f = first_fault code pattern l at in
    first_fault code pattern l (d + at) ≡ cond (is_sound f) sound (moved d f)
unfolding first_fault
first_moved code pattern [] at d = refl
first_moved code pattern (P ∷ []) at d = refl
first_moved code pattern (P ∷ N ∷ l) at d = go (eqb (code P N) 0) refl (first_moved code pattern l (at + 2) d)
  where
    further : d + at + 2 ≡ d + (at + 2)
    further = omega arith

    go : (t : Bool) → eqb (code P N) 0 ≡ t
        → let next = first_fault code pattern l (at + 2) in
        first_fault code pattern l (d + (at + 2)) ≡ cond (is_sound next) sound (moved d next)
        → let f : Fault = cond t next (fault_at (code P N) at (pattern P N)) in
        cond t (first_fault code pattern l (d + at + 2)) (fault_at (code P N) (d + at) (pattern P N)) ≡ cond (is_sound f) sound (moved d f)
    go true e later = ap (first_fault code pattern l) further ∙ later
    go false e later = simp e

-- ---- what `deliver` finds

module _ (n : ℕ) (on off : List ℕ) (ready : Ready n on off) (on_bytes : (i : ℕ) → get_or on i 0 < 2 ^ 8) (off_bytes : (i : ℕ) → get_or off i 0 < 2 ^ 8) where
  pub ready_sized : Sized n on off
  ready_sized = record { least = ready.least; most = ready.most; on_even = ready.on_even; off_even = ready.off_even; on_few = ready.on_few; off_few = ready.off_few }

  -- the record's fault is the clash that was looked for, five bytes further on
  clash_is : (f : Fault) → f ≡ first_fault (clash_code 8 off) (clash_pattern 8 off) on 0 → record_fault (record_bytes n on off) ≡ cond (is_sound f) sound (moved 5 f)
  clash_is f e =
      clash_again n on off ready_sized (first_each (cube_code n) no_pattern on 0 ready.on_cubes) (first_each (cube_code n) no_pattern off 0 ready.off_cubes)
      ∙ clash_width n ready.most on off 5 (clean_list n on 0 on_bytes ready.on_cubes) (clean_list n off 0 off_bytes ready.off_cubes)
      ∙ first_moved (clash_code 8 off) (clash_pattern 8 off) on 0 5
      ∙ ap (λ (f : Fault). cond (is_sound f) sound (moved 5 f)) (sym e)

  pub clash_refused : (f : Fault) → f ≡ first_fault (clash_code 8 off) (clash_pattern 8 off) on 0 → (f.code ≡ 0 → ⊥) → (r : Answer) → r ≡ refused_by 1 (moved 5 f) → (room : ℕ) → r ≡ record_reading (record_bytes n on off) room
  clash_refused f e bad r is room =
      let found : record_fault (record_bytes n on off) ≡ moved 5 f = clash_is f e ∙ simp (ne_eqb f.code 0 bad) in
      by_stop 1 (moved 5 f) (record_fault (record_bytes n on off)) r _ (sym found) bad is

  pub clash_none : (f : Fault) → f ≡ first_fault (clash_code 8 off) (clash_pattern 8 off) on 0 → f.code ≡ 0 → (room : ℕ) → record_reading (record_bytes n on off) room ≡ fits 3 room (length (record_bytes n on off))
  clash_none f e good room = sym (by_next 1 sound (record_fault (record_bytes n on off)) _ _ (sym (clash_is f e ∙ simp (eq-eqb f.code 0 good))) refl refl)

-- ---- the cubes of terms have no fault of their own

-- they name no input beyond the characters, and no character is both 1 and 0
cube_right : (w : List ℕ) → cube_code (length w) (inputs_with on_char w) (inputs_with off_char w) ≡ 0
unfolding cube_code
cube_right w = simp (any_none (λ i. leb (length w) i && (has P i || has N i)) 8 (λ i _ e. beyond i e), any_none (λ i. has P i && has N i) 8 (λ i _ e. twice i e))
  where
    with_mark : ℕ → ℕ → Bool
    with_mark c i = eqb (get_or w i 0) c

    P : ℕ
    P = inputs_with on_char w

    N : ℕ
    N = inputs_with off_char w

    beyond : (i : ℕ) → leb (length w) i && (has P i || has N i) ≡ true → ⊥
    beyond i e =
        let above = leb-true (length w) i (both_left (leb (length w) i) _ e) in
        false≢true (sym (ap₂ ◌||◌ (mask_above (length w) (with_mark on_char) i above) (mask_above (length w) (with_mark off_char) i above)) ∙ both_right (leb (length w) i) _ e)

    marked : (c i : ℕ) → has (inputs_with c w) i ≡ true → get_or w i 0 ≡ c
    marked c i e = eqb-true (get_or w i 0) c (both_right (ltb i (length w)) _ (sym (mask_at (length w) (with_mark c) i) ∙ e))

    twice : (i : ℕ) → has P i && has N i ≡ true → ⊥
    twice i e = omega (arith, marked on_char i (both_left (has P i) _ e), marked off_char i (both_right (has P i) _ e))

pub each_right : (n c : ℕ) (said : List Says) → each_in (term_right n) said ≡ true → Each (λ P N. cube_code n P N ≡ 0) (cubes_with c said)
unfolding Each cubes_with each_in of_term
each_right n c [] e = tt
each_right n c (nothing ∷ said) e = each_right n c said e
each_right n c (keyword name v ∷ said) e = each_right n c said e
each_right n c (term w ws ∷ said) e =
    let later = each_right n c said (both_right (well_formed n w ws) _ e) in
    let right : cube_code n (inputs_with on_char w) (inputs_with off_char w) ≡ 0 =
    ap (λ (m : ℕ). cube_code m (inputs_with on_char w) (inputs_with off_char w)) (sym (own_length n w ws (both_left (well_formed n w ws) _ e))) ∙ cube_right w in
    elim (eqb (output ws) c) as (λ t. Each (λ P N. cube_code n P N ≡ 0) (cond t (cube_of w) [] ++ cubes_with c said)) [ true ↦ (right, later) | false ↦ later ]
each_right n c (end ∷ said) e = each_right n c said e
each_right n c (malformed ∷ said) e = each_right n c said e
each_right n c (unknown ∷ said) e = each_right n c said e

-- ---- the record of a text without a faulty line

-- a byte of the header above its range
byte_high : (s : List ℕ) (k high code : ℕ) → k < length s → high < get_or s k 0 → byte_fault s k 0 high code ≡ fault code k
unfolding byte_fault
byte_high s k high code h above = simp (lt-leb (length s) k h, le-leb 0 (get_or s k 0) (omega arith), lt-leb (get_or s k 0) high above)

-- too many cubes in a list: 4 at its count
module _ (n : ℕ) (on off : List ℕ) (least : 1 ≤ n) (most : n ≤ 8) where
  -- a header that stops at a count
  header_stops : (k : ℕ) → header_bytes (record_bytes n on off) ≡ fault 4 k → (room : ℕ) (r : Answer) → r ≡ refused 4 1 k → r ≡ record_reading (record_bytes n on off) room
  unfolding header_fault
  header_stops k e room r is =
      let s = record_bytes n on off in
      let bad : (header_bytes s).code ≡ 0 → ⊥ = λ z. eqb-false 4 0 refl (sym (ap (λ (f : Fault). f.code) e) ∙ z) in
      let stops : header_fault s ≡ header_bytes s = then_stop _ _ bad in
      let found : record_fault s ≡ fault 4 k = ends_at_header s (λ z. bad (sym (ap (λ (f : Fault). f.code) stops) ∙ z)) ∙ stops ∙ e in
      by_stop 1 (fault 4 k) (record_fault s) r _ (sym found) (eqb-false 4 0 refl) is

  abbrev front : List ℕ
  front = record_bytes n on off

  marks : (byte_fault front 0 0x46 0x46 2 ≡ sound) × (byte_fault front 1 0x4E 0x4E 2 ≡ sound) × (byte_fault front 2 1 8 3 ≡ sound)
  unfolding record_bytes
  marks = (
    byte_good front 0 0x46 0x46 2 (record { there = omega arith; least = omega arith; most = omega arith }),
    byte_good front 1 0x4E 0x4E 2 (record { there = omega arith; least = omega arith; most = omega arith }),
    byte_good front 2 1 8 3 (record { there = omega arith; least = least; most = most }),
  )

  pub many_on : 64 < length on / 2 → (room : ℕ) (r : Answer) → r ≡ refused 4 1 3 → r ≡ record_reading front room
  unfolding header_bytes record_bytes ◌then◌
  many_on h =
      header_stops 3 (λ i. marks.0 i then marks.1 i then marks.2 i then byte_high front 3 64 4 (omega arith) h i then byte_fault front 4 0 64 4)

  pub many_off : length on / 2 ≤ 64 → 64 < length off / 2 → (room : ℕ) (r : Answer) → r ≡ refused 4 1 4 → r ≡ record_reading front room
  unfolding header_bytes record_bytes ◌then◌
  many_off g h =
      header_stops 4
      (λ i.
      marks.0 i then marks.1 i then marks.2 i then byte_good front 3 0 64 4 (record { there = omega arith; least = omega arith; most = g }) i
      then byte_high front 4 64 4 (omega arith) h i)

-- few enough: nothing but a shared pattern can be wrong
pub ready_lists : (text : List ℕ) → (table_fault text).code ≡ 0 → (n : ℕ) → 1 ≤ n → n ≤ 8 → n ≡ told dot_i (said_in text) → (on off : List ℕ) → on ≡ cubes_with on_char (said_in text) → off ≡ cubes_with off_char (said_in text)
    → length on ≤ 128 → length off ≤ 128 → Ready n on off
ready_lists text sound_text n least most is on off on_is off_is on_few off_few =
    record {
      least = least;
      most = most;
      on_even = ap (λ (l : List ℕ). length l % 2) on_is ∙ cubes_even on_char (said_in text);
      off_even = ap (λ (l : List ℕ). length l % 2) off_is ∙ cubes_even off_char (said_in text);
      on_few = on_few;
      off_few = off_few;
      on_cubes = right on_char on on_is;
      off_cubes = right off_char off off_is;
    }
  where
    right : (c : ℕ) (l : List ℕ) → l ≡ cubes_with c (said_in text) → (first_fault (cube_code n) no_pattern l 0).code ≡ 0
    right c l e =
        ap₂ (λ (m : ℕ) (l : List ℕ). (first_fault (cube_code m) no_pattern l 0).code) is e
        ∙ ap (λ (f : Fault). f.code) (each_first _ _ (cubes_with c (said_in text)) 0 (each_right _ c (said_in text) (terms_right text sound_text)))

-- ---- what `read_table` makes of what was gathered

-- a faulty line
pub gathered_refused : (text on off : List ℕ) (F : Fault) → Gathered text on off (Err F) → (r : Answer) → r ≡ refused_by 1 F → (room : ℕ) → r ≡ table_reading text room
unfolding table_reading
gathered_refused text on off F g r is room =
    let found = verdict_err (table_fault text) F (sym g.found) in
    by_stop 1 F (table_fault text) r _ found.is found.coded is

-- or none
module _ (text on off : List ℕ) (found : Scan) (g : Gathered text on off (Ok found)) where
  sound_text : (table_fault text).code ≡ 0
  sound_text = verdict_ok (table_fault text) (tt {0}) (sym g.found)

  k : Scanned text on off found
  k = g.kept_both

  told_range : (1 ≤ told dot_i (said_in text)) × (told dot_i (said_in text) ≤ 8)
  told_range = (omega (arith, k.least, k.inputs_are), omega (arith, k.most, k.inputs_are))

  -- the record decides
  by_record : (room : ℕ) (r : Answer) → r ≡ record_reading (record_of text) room → r ≡ table_reading text room
  unfolding table_reading by
  by_record room r is = is ∙ sym (next_chosen (table_fault text).code _ _ sound_text)

  pub gathered_many_on : 64 < found.on → (r : Answer) → r ≡ refused 4 1 3 → (room : ℕ) → r ≡ table_reading text room
  unfolding record_of
  gathered_many_on h r is room = by_record room r (many_on _ _ _ told_range.0 told_range.1 (omega (arith, h, k.on_count)) room r is)

  module _ (on_few : found.on ≤ 64) where
    pub gathered_many_off : 64 < found.off → (r : Answer) → r ≡ refused 4 1 4 → (room : ℕ) → r ≡ table_reading text room
    unfolding record_of
    gathered_many_off h r is room =
        by_record room r (many_off _ _ _ told_range.0 told_range.1 (omega (arith, on_few, k.on_count)) (omega (arith, h, k.off_count)) room r is)

    module _ (off_few : found.off ≤ 64) where
      pub gathered_ready : Ready found.n (take (2 * found.on) on) (take (2 * found.off) off)
      gathered_ready =
          ready_lists text sound_text found.n k.least k.most k.inputs_are _ _ (k.on_stored on_few) (k.off_stored off_few)
          (omega (arith, on_few, length-take (2 * found.on) on)) (omega (arith, off_few, length-take (2 * found.off) off))

      record_is : record_bytes found.n (take (2 * found.on) on) (take (2 * found.off) off) ≡ record_of text
      unfolding record_of
      record_is i = record_bytes (k.inputs_are i) (k.on_stored on_few i) (k.off_stored off_few i)

      pub gathered_delivered : (before after : List ℕ) (r : Answer)
          → let s = record_bytes found.n (take (2 * found.on) on) (take (2 * found.off) off) in
          Delivered (record_reading s (length before)) s before after r → Delivered (table_reading text (length before)) (record_of text) before after r
      gathered_delivered before after r d =
          let same = sym (by_record (length before) _ refl) in
          subst₂ (λ (a : Answer) (s : List ℕ). Delivered a s before after r) (ap (λ (s : List ℕ). record_reading s (length before)) record_is ∙ sym same) record_is d
