-- What code 7 names. The idea: the first on cube with a code is found at its place with its own pattern, and the pattern of an on
-- cube that meets the off list is by definition the smallest at which it does.
use Prim.Native.Nat.{ℕ, zero, suc, ◌+◌, ◌*◌, ◌^◌, ◌<◌}
use mathlib.Core.Path.{◌≡◌, refl, sym, ap, ap₂, ◌∙◌, subst}
use mathlib.Core.Bool.{Bool, true, false, cond, ◌&&◌}
use mathlib.Core.List.{List, [], ◌∷◌}
use mathlib.Core.Logic.{◌⊎◌, inl, inr}
use native.Mathlib.Omega.{arith}
use borrow.Author.Tests.{eqb-true, eqb-false}
use lib.Dec.{eqb}
use lib.ListN.{length, get_or}
use Rattle.bits.specs.Bits.{any, IsSmallest}
use Rattle.bits.proofs.Tests.{cond_cases}
use Rattle.bits.proofs.Smallest.{smallest_some}
use Rattle.cubes.specs.Cubes.{cube_holds, cubes_share, some_cube, some_holds, least_with}
use Rattle.answers.specs.declared.Answer.{Answer}
use Rattle.answers.specs.declared.Fault.{Fault}
use Rattle.answers.specs.Answers.{fault, fault_at, fine, refused, by, byte_fault}
use Rattle.answers.proofs.Faults.{Plain, plain, Kept, KeptBy, by_kept, then_cases, none_plain, byte_plain, length_plain}
use Rattle.records.specs.declared.Reading.{Reading}
use Rattle.records.specs.declared.Figures.{Figures}
use Rattle.records.specs.Records.{inputs, cubes_at, on_list, off_list, clash_code, clash_pattern, first_fault, header_fault, clash_fault, record_fault, both_read, reading, summing}
use Rattle.records.proofs.Cubes.{first_each, each_first, met, code_met}
use Rattle.records.proofs.Places.{bytes_cases, first_cases, first_codes, cube_codes, record_cases}

-- ---- the cube that a walk names

module _ (code pattern : ℕ → ℕ → ℕ) where
  -- what is told of cube k of the list
  abbrev told_of : (ℕ → ℕ → ℕ) → List ℕ → ℕ → ℕ
  told_of t l k = t (get_or l (2 * k) 0) (get_or l (2 * k + 1) 0)

  -- a fault is that of the list's first cube with a code
  record FirstNamed (l : List ℕ) (at : ℕ) (f : Fault) : Type 0 where
    cube : ℕ
    there : 2 * cube + 1 < length l
    placed : f.place ≡ at + 2 * cube
    coded : f.code ≡ told_of code l cube
    named : f.pattern ≡ told_of pattern l cube
    before : (k : ℕ) → k < cube → told_of code l k ≡ 0

  first_named : (l : List ℕ) (at : ℕ) → ((first_fault code pattern l at).code ≡ 0 → ⊥) → FirstNamed l at (first_fault code pattern l at)
  unfolding first_fault
  first_named [] at bad = absurd (bad refl)
  first_named (P ∷ []) at bad = absurd (bad refl)
  first_named (P ∷ N ∷ l) at bad = go (eqb (code P N) 0) refl bad (first_named l (at + 2))
    where
      -- cube k + 1 of the list is cube k of the rest
      next : (t : ℕ → ℕ → ℕ) (k : ℕ) → told_of t (P ∷ N ∷ l) (suc k) ≡ told_of t l k
      next t k =
          let first : 2 * suc k ≡ suc (suc (2 * k)) = omega arith in
          let second : 2 * suc k + 1 ≡ suc (suc (2 * k + 1)) = omega arith in
          ap₂ (λ (i j : ℕ). t (get_or (P ∷ N ∷ l) i 0) (get_or (P ∷ N ∷ l) j 0)) first second

      earlier : eqb (code P N) 0 ≡ true → (x : FirstNamed l (at + 2) (first_fault code pattern l (at + 2))) (k : ℕ) → k < suc x.cube → told_of code (P ∷ N ∷ l) k ≡ 0
      earlier e x zero h = eqb-true _ _ e
      earlier e x (suc k) h = next code k ∙ x.before k (omega (arith, h))

      go : (t : Bool) → eqb (code P N) 0 ≡ t → ((cond t (first_fault code pattern l (at + 2)) (fault_at (code P N) at (pattern P N))).code ≡ 0 → ⊥)
          → (((first_fault code pattern l (at + 2)).code ≡ 0 → ⊥) → FirstNamed l (at + 2) (first_fault code pattern l (at + 2)))
          → FirstNamed (P ∷ N ∷ l) at (cond t (first_fault code pattern l (at + 2)) (fault_at (code P N) at (pattern P N)))
      go true e bad later =
          let x = later bad in
          record {
            cube = suc x.cube;
            there = omega (arith, x.there);
            placed = omega (arith, x.placed);
            coded = x.coded ∙ sym (next code x.cube);
            named = x.named ∙ sym (next pattern x.cube);
            before = λ k h. earlier e x k h;
          }
      go false e bad later = record { cube = 0; there = omega arith; placed = omega arith; coded = refl; named = refl; before = λ k h. absurd (omega (arith, h)) }

-- ---- code 7

-- cube k of the on list holds x, and so does a cube of the off list
abbrev pub shared_by : List ℕ → List ℕ → ℕ → ℕ → Bool
shared_by on off k x = cube_holds (get_or on (2 * k) 0) (get_or on (2 * k + 1) 0) x && some_holds off x

-- the cube that is named is the first on cube that shares a pattern with the off list, whose bytes start at place `at`; the pattern
-- is the smallest that it shares
pub record ClashNamed (n : ℕ) (on off : List ℕ) (at place pattern : ℕ) : Type 0 where
  pub cube : ℕ
  pub there : 2 * cube + 1 < length on
  pub placed : place ≡ at + 2 * cube
  pub smallest : IsSmallest (2 ^ n) (shared_by on off cube) pattern
  pub first : (k : ℕ) → k < cube → any (2 ^ n) (shared_by on off k) ≡ false

-- the code of an on cube tells whether it shares one
module _ (n : ℕ) (off : List ℕ) (P N : ℕ) where
  by_code : (t : Bool) → any (2 ^ n) (met off P N) ≡ t → ((clash_code n off P N ≡ 0 → ⊥) → t ≡ true) × (clash_code n off P N ≡ 0 → t ≡ false)
  by_code true e = (λ _. refl, λ z. absurd (eqb-false 7 0 refl (sym (code_met n off P N _ e) ∙ z)))
  by_code false e = (λ bad. absurd (bad (code_met n off P N _ e)), λ _. refl)

  met_at : (clash_code n off P N ≡ 0 → ⊥) → IsSmallest (2 ^ n) (met off P N) (clash_pattern n off P N)
  unfolding clash_pattern least_with
  met_at bad = smallest_some (met off P N) (2 ^ n) ((by_code (any (2 ^ n) (met off P N)) refl).0 bad)

  met_nowhere : clash_code n off P N ≡ 0 → any (2 ^ n) (met off P N) ≡ false
  met_nowhere z = (by_code (any (2 ^ n) (met off P N)) refl).1 z

-- a clash has code 7
seven_or_none : (n : ℕ) (off : List ℕ) (P N : ℕ) → (clash_code n off P N ≡ 0 → ⊥) → clash_code n off P N ≡ 7
unfolding clash_code
seven_or_none n off P N = cond_cases (λ c. (c ≡ 0 → ⊥) → c ≡ 7) (some_cube (cubes_share n P N) off) 7 0 (λ _. refl) (λ bad. absurd (bad refl))

pub clash_seven : (n : ℕ) (on off : List ℕ) (at : ℕ) → let f = first_fault (clash_code n off) (clash_pattern n off) on at in (f.code ≡ 0 → ⊥) → f.code ≡ 7
clash_seven n on off at = first_codes (λ (code : ℕ). (code ≡ 0 → ⊥) → code ≡ 7) (λ bad. absurd (bad refl)) _ _ on at (seven_or_none n off)

pub clash_named : (n : ℕ) (on off : List ℕ) (at : ℕ) → let f = first_fault (clash_code n off) (clash_pattern n off) on at in
    (f.code ≡ 0 → ⊥) → ClashNamed n on off at f.place f.pattern
clash_named n on off at bad =
    let x = first_named (clash_code n off) (clash_pattern n off) on at bad in
    let P = get_or on (2 * x.cube) 0 in
    let N = get_or on (2 * x.cube + 1) 0 in
    record {
      cube = x.cube;
      there = x.there;
      placed = x.placed;
      smallest = subst (IsSmallest (2 ^ n) (shared_by on off x.cube)) (sym x.named) (met_at n off P N (λ z. bad (x.coded ∙ z)));
      first = λ k h. met_nowhere n off _ _ (x.before k h);
    }

-- ---- a record

module _ (Q : Fault → Type 0) (else_plain : (code place : ℕ) → Plain code → Q (fault code place)) where
  -- what holds of each fault without a pattern, and of a clash, holds of the record's
  pub record_plain : (s : List ℕ) → Q (clash_fault s) → Q (record_fault s)
  unfolding header_fault
  record_plain s clash =
      record_cases Q s
      (then_cases Q _ _
      (bytes_cases Q s (byte 0 0x46 0x46 2 (plain 2 refl refl)) (byte 1 0x4E 0x4E 2 (plain 2 refl refl)) (byte 2 1 8 3 (plain 3 refl refl)) (byte 3 0 64 4 (plain 4 refl refl)) (byte 4 0 64 4 (plain 4 refl refl)))
      (length_plain Q else_plain (length s) _))
      (λ _. first_cases Q (none_plain Q else_plain 0) _ _ _ _ (λ P N k _. else_plain _ k (cube_codes Plain (plain 0 refl refl) _ P N (plain 5 refl refl) (plain 6 refl refl))))
      (λ _. clash)
    where
      byte : (k low high code : ℕ) → Plain code → Q (byte_fault s k low high code)
      byte = byte_plain Q else_plain s

-- code 7 of a record names an on cube of it and its pattern
abbrev pub RecordNamed : List ℕ → ℕ → ℕ → Type 0
RecordNamed s = ClashNamed (inputs s) (on_list s) (off_list s) (cubes_at s)

pub record_named : (s : List ℕ) → (record_fault s).code ≡ 7 → RecordNamed s (record_fault s).place (record_fault s).pattern
record_named s =
    record_plain (λ (f : Fault). f.code ≡ 7 → RecordNamed s f.place f.pattern)
    (λ code place p e. absurd (p.0 e)) s
    (λ e. clash_named (inputs s) (on_list s) (off_list s) (cubes_at s) (λ z. eqb-false 7 0 refl (sym e ∙ z)))

-- and no other code of a record names a pattern: a clash has code 7, or is none
pub clash_kept : (n : ℕ) (on off : List ℕ) (at : ℕ) → let f = first_fault (clash_code n off) (clash_pattern n off) on at in Kept f.code f.pattern
clash_kept n on off at p = go (eqb (first_fault code pattern on at).code 0) refl
  where
    code : ℕ → ℕ → ℕ
    code = clash_code n off

    pattern : ℕ → ℕ → ℕ
    pattern = clash_pattern n off

    go : (t : Bool) → eqb (first_fault code pattern on at).code 0 ≡ t → (first_fault code pattern on at).pattern ≡ 0
    go true e = ap (λ (f : Fault). f.pattern) (each_first code pattern on at (first_each code pattern on at (eqb-true _ _ e)))
    go false e = absurd (p.0 (clash_seven n on off at (eqb-false _ _ e)))

pub record_kept : (s : List ℕ) → Kept (record_fault s).code (record_fault s).pattern
record_kept s = record_plain (λ (f : Fault). Kept f.code f.pattern) (λ code place _ _. refl) s (clash_kept (inputs s) (on_list s) (off_list s) (cubes_at s))

-- none has code 14
record_not_fourteen : (s : List ℕ) → (record_fault s).code ≡ 14 → ⊥
unfolding clash_code
record_not_fourteen s =
    record_plain (λ (f : Fault). f.code ≡ 14 → ⊥) (λ code place p. p.1) s
    (first_codes (λ (code : ℕ). code ≡ 14 → ⊥) (eqb-false 0 14 refl) _ _ (on_list s) (cubes_at s) (λ P N. of_clash P N))
  where
    of_clash : (P N : ℕ) → clash_code (inputs s) (off_list s) P N ≡ 14 → ⊥
    of_clash P N = cond_cases (λ code. code ≡ 14 → ⊥) (some_cube (cubes_share (inputs s) P N) (off_list s)) 7 0 (eqb-false 7 14 refl) (eqb-false 0 14 refl)

-- so with the reader, the summary and two functions
pub reading_named : (s : List ℕ) → (reading s).answer.code ≡ 7 → RecordNamed s (reading s).answer.place (reading s).answer.pattern
unfolding reading
reading_named s =
    cond_cases (λ (r : Reading). r.answer.code ≡ 7 → RecordNamed s r.answer.place r.answer.pattern) (eqb (record_fault s).code 0) _ _ (λ e. absurd (eqb-false 0 7 refl e)) (record_named s)

pub summing_named : (s : List ℕ) → (summing s).answer.code ≡ 7 → RecordNamed s (summing s).answer.place (summing s).answer.pattern
unfolding summing
summing_named s =
    cond_cases (λ (r : Figures). r.answer.code ≡ 7 → RecordNamed s r.answer.place r.answer.pattern) (eqb (record_fault s).code 0) _ _ (λ e. absurd (eqb-false 0 7 refl e)) (record_named s)

-- of two functions, f is record 1 and g record 2
abbrev pub EitherNamed : List ℕ → List ℕ → Answer → Type 0
EitherNamed f g a = ((a.«record» ≡ 1) × RecordNamed f a.place a.pattern) ⊎ ((a.«record» ≡ 2) × RecordNamed g a.place a.pattern)

pub both_named : (f g : List ℕ) → (both_read f g).code ≡ 7 → EitherNamed f g (both_read f g)
unfolding both_read by
both_named f g =
    cond_cases Named (eqb (record_fault f).code 0) _ _
    (cond_cases Named (eqb (record_fault g).code 0) _ _
    (cond_cases Named (eqb (inputs f) (inputs g)) fine (refused 9 2 2) (λ e. absurd (eqb-false 0 7 refl e)) (λ e. absurd (eqb-false 9 7 refl e)))
    (λ e. inr (refl, record_named g e)))
    (λ e. inl (refl, record_named f e))
  where
    Named : Answer → Type 0
    Named a = a.code ≡ 7 → EitherNamed f g a

pub both_not_fourteen : (f g : List ℕ) → (both_read f g).code ≡ 14 → ⊥
unfolding both_read by
both_not_fourteen f g =
    cond_cases Not (eqb (record_fault f).code 0) _ _
    (cond_cases Not (eqb (record_fault g).code 0) _ _ (cond_cases Not (eqb (inputs f) (inputs g)) fine (refused 9 2 2) (eqb-false 0 14 refl) (eqb-false 9 14 refl)) (record_not_fourteen g))
    (record_not_fourteen f)
  where
    Not : Answer → Type 0
    Not a = a.code ≡ 14 → ⊥

pub reading_kept : (s : List ℕ) → KeptBy (reading s).answer
unfolding reading
reading_kept s = cond_cases (λ (r : Reading). KeptBy r.answer) (eqb (record_fault s).code 0) _ _ (λ _. refl) (record_kept s)

pub summing_kept : (s : List ℕ) → KeptBy (summing s).answer
unfolding summing
summing_kept s = cond_cases (λ (r : Figures). KeptBy r.answer) (eqb (record_fault s).code 0) _ _ (λ _. refl) (record_kept s)

pub both_kept : (f g : List ℕ) → KeptBy (both_read f g)
unfolding both_read
both_kept f g =
    by_kept 1 _ _ (record_kept f) (by_kept 2 _ _ (record_kept g) (cond_cases KeptBy (eqb (inputs f) (inputs g)) fine (refused 9 2 2) (λ _. refl) (λ _. refl)))
