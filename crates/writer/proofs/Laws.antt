-- What the writer's first tests say, and the length of the record.
use Prim.Native.Nat.{ℕ, suc, ◌+◌, ◌%◌, ◌≤◌}
use mathlib.Core.Path.{◌≡◌, refl, sym}
use mathlib.Core.Bool.{Bool, true, false, cond}
use mathlib.Core.List.{List}
use borrow.Author.Tests.{le-ltb, ltb-false, ne_eqb, eqb-false}
use native.Mathlib.Omega.{arith}
use lib.Dec.{ltb, eqb}
use lib.ListN.{length, length-append}
use Rattle.answers.specs.declared.Answer.{Answer}
use Rattle.cubes.proofs.Lists.{Each}
use Rattle.records.specs.Records.{Bytes, first_fault, cube_code, clash_code, clash_pattern, no_pattern}
use Rattle.records.proofs.Cubes.{first_each, each_first, clean_list, clash_width}
use Rattle.std.proofs.Common.{Ok, Err, ap, ap₂, ◌∙◌}
use Rattle.std.specs.declared.result.Result.{Result}
use Rattle.answers.specs.declared.Fault.{Fault}
use Rattle.answers.specs.Answers.{fine, refused, sound, by, fits, ◌or_else◌}
use Rattle.answers.specs.Verdicts.{verdict, unless_refused}
use Rattle.answers.proofs.Verdicts.{refusal_first, unless_by, unless_fine, verdict_ok}
use Rattle.answers.proofs.Faults.{by_both, by_next}
use Rattle.writer.specs.Writing.{record_bytes, few, sizes, cubes, writing}

pub record Sized (n : ℕ) (on off : List ℕ) : Type 0 where
  pub least : 1 ≤ n
  pub most : n ≤ 8
  pub on_even : length on % 2 ≡ 0
  pub off_even : length off % 2 ≡ 0
  pub on_few : length on ≤ 128
  pub off_few : length off ≤ 128

pub sizes_sound : (n : ℕ) (on off : List ℕ) → (sizes n on off).code ≡ 0 → Sized n on off
unfolding sizes few
sizes_sound n on off e =
    let s₁ = passed (ltb n 1) 2 0 0 _ e in
    let s₂ = passed (ltb 8 n) 2 0 0 _ s₁.1 in
    let s₃ = passed (eqb (length on % 2) 1) 18 1 (length on) _ s₂.1 in
    let s₄ = passed (eqb (length off % 2) 1) 18 2 (length off) _ s₃.1 in
    let s₅ = passed (ltb 128 (length on)) 3 1 128 _ s₄.1 in
    let s₆ = passed (ltb 128 (length off)) 3 2 128 _ s₅.1 in
    let on_odd : length on % 2 ≡ 1 → ⊥ = eqb-false _ _ s₃.0 in
    let off_odd : length off % 2 ≡ 1 → ⊥ = eqb-false _ _ s₄.0 in
    record {
      least = ltb-false _ _ s₁.0;
      most = ltb-false _ _ s₂.0;
      on_even = omega arith;
      off_even = omega arith;
      on_few = ltb-false _ _ s₅.0;
      off_few = ltb-false _ _ s₆.0;
    }
  where
    passed : (t : Bool) (code who place : ℕ) (next : Answer) → (cond t (refused (suc code) who place) next).code ≡ 0 → (t ≡ false) × (next.code ≡ 0)
    passed true code who place next h = absurd (omega (arith, h))
    passed false code who place next h = (refl, h)

pub record_long : (n : ℕ) (on off : List ℕ) → length (record_bytes n on off) ≡ 5 + length on + length off
unfolding record_bytes
record_long n on off = omega (arith, length-append on off)

pub sizes_good : (n : ℕ) (on off : List ℕ) → Sized n on off → sizes n on off ≡ fine
unfolding sizes few
sizes_good n on off h =
    simp
    (le-ltb _ _ h.least, le-ltb _ _ h.most, ne_eqb _ _ (odd h.on_even), ne_eqb _ _ (odd h.off_even), le-ltb _ _ h.on_few, le-ltb _ _ h.off_few)
  where
    odd : {k : ℕ} → k ≡ 0 → k ≡ 1 → ⊥
    odd p q = omega arith

-- ---- the cubes

-- neither list has a fault, and no on cube shares a pattern with an off cube
pub record Right (n : ℕ) (on off : List ℕ) : Type 0 where
  pub on_cubes : Each (λ P N. cube_code n P N ≡ 0) on
  pub off_cubes : Each (λ P N. cube_code n P N ≡ 0) off
  pub apart : Each (λ P N. clash_code n off P N ≡ 0) on

pub cubes_right : (n : ℕ) (on off : List ℕ) → (cubes n on off).code ≡ 0 → Right n on off
unfolding cubes
cubes_right n on off e =
    let c₁ = by_both 1 _ _ e in
    let c₂ = by_both 2 _ _ c₁.1 in
    let c₃ = by_both 1 _ _ c₂.1 in
    record { on_cubes = first_each _ _ on 0 c₁.0; off_cubes = first_each _ _ off 0 c₂.0; apart = first_each _ _ on 0 c₃.0 }

pub cubes_good : (n : ℕ) (on off : List ℕ) → Right n on off → cubes n on off ≡ fine
unfolding cubes
cubes_good n on off h =
    sym
    (by_next 1 sound _ _ _ (sym (each_first _ _ on 0 h.on_cubes)) refl
    (by_next 2 sound _ _ _ (sym (each_first _ _ off 0 h.off_cubes)) refl
    (by_next 1 sound _ _ _ (sym (each_first _ _ on 0 h.apart)) refl refl)))

-- as the code finds it: it tests the on cubes against the off cubes with eight inputs
pub cubes_by : (n : ℕ) (on off : List ℕ) → n ≤ 8 → Bytes on → Bytes off → unless_refused (cubes n on off)
    ≡ refusal_first 1 (verdict (first_fault (cube_code n) no_pattern on 0))
    (refusal_first 2 (verdict (first_fault (cube_code n) no_pattern off 0))
    (refusal_first 1 (verdict (first_fault (clash_code 8 off) (clash_pattern 8 off) on 0)) (Ok (tt {0}))))
unfolding cubes
cubes_by n on off few on_bytes off_bytes =
    unless_by 1 (first_fault (cube_code n) no_pattern on 0) _ ∙ go (verdict (first_fault (cube_code n) no_pattern on 0)) refl
  where
    last : Result (Unit {0}) Answer
    last = refusal_first 1 (verdict (first_fault (clash_code 8 off) (clash_pattern 8 off) on 0)) (Ok (tt {0}))

    own : List ℕ → Fault
    own l = first_fault (cube_code n) no_pattern l 0

    clash : ℕ → Fault
    clash k = first_fault (clash_code k off) (clash_pattern k off) on 0

    width : (own on).code ≡ 0 → (own off).code ≡ 0 → unless_refused (by 1 (clash n) fine) ≡ last
    width p q =
        unless_by 1 (clash n) fine
        ∙ ap₂ (λ (f : Fault) (r : Result (Unit {0}) Answer). refusal_first 1 (verdict f) r) (clash_width n few on off 0 (clean_list n on 0 on_bytes p) (clean_list n off 0 off_bytes q)) unless_fine

    second : (r : Result (Unit {0}) Fault) → verdict (own off) ≡ r → (own on).code ≡ 0 → refusal_first 2 r (unless_refused (by 1 (clash n) fine)) ≡ refusal_first 2 r last
    second (Ok u) e p = width p (verdict_ok _ u e)
    second (Err f) e p = refl

    go : (r : Result (Unit {0}) Fault) → verdict (own on) ≡ r → refusal_first 1 r (unless_refused (by 2 (own off) (by 1 (clash n) fine))) ≡ refusal_first 1 r (refusal_first 2 (verdict (own off)) last)
    go (Ok u) e = unless_by 2 (own off) _ ∙ second (verdict (own off)) refl (verdict_ok _ u e)
    go (Err f) e = refl

-- with the record's length, room is asked for
pub writing_by : (n : ℕ) (on off : List ℕ) (room : ℕ) → writing n on off room ≡ sizes n on off or_else cubes n on off or_else fits 3 room (5 + length on + length off)
unfolding writing
writing_by n on off room = ap (λ (k : ℕ). sizes n on off or_else cubes n on off or_else fits 3 room k) (record_long n on off)
