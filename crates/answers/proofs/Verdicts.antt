-- Tests one after the other, as the code makes them: the first that finds a fault ends them.
use Rattle.std.proofs.Common.{◌≡◌, ℕ, List, Bool, true, false, cond, ◌&&◌, refl, Ok, Err, ap, sym, ◌∙◌}
use Rattle.std.specs.declared.result.Result.{Result}
use Rattle.std.specs.Result.{result_and}
use borrow.Author.Tests.{eqb-true, eqb-false, ne_eqb}
use native.Mathlib.Omega.{arith}
use lib.Dec.{eqb, leb}
use lib.ListN.{length, get_or}
use Rattle.answers.specs.declared.Answer.{Answer}
use Rattle.answers.specs.declared.Code.{Code}
use Rattle.answers.specs.declared.Code.TheVariants.{EndsEarly, WrongMark, BadN, BadCount, BeyondN, InBothMasks, OnAndOff, BytesFollow, NDiffers, ClaimN, BadQ, BadChoice, UsedTwice, NotAgreeing, BadNode, SplitAtN, NotDead, BufferShort, OddList, BadLine, Keyword, TermCount}
use Rattle.answers.specs.declared.Fault.{Fault}
use Rattle.answers.specs.Answers.{fault, fault_at, fine, is_sound, refused, refused_by, ◌then◌, by, ◌or_else◌, byte_fault, Delivered}
use Rattle.answers.proofs.Faults.{or_else_next, or_else_stop}
use Rattle.answers.proofs.Stores.{delivered_refusal}
use Rattle.answers.specs.Verdicts.{number, verdict, unless_refused, byte_test}

-- no code has number 0
pub numbered : (code : Code) → number code ≡ 0 → ⊥
numbered EndsEarly e = omega (arith, e)
numbered WrongMark e = omega (arith, e)
numbered BadN e = omega (arith, e)
numbered BadCount e = omega (arith, e)
numbered BeyondN e = omega (arith, e)
numbered InBothMasks e = omega (arith, e)
numbered OnAndOff e = omega (arith, e)
numbered BytesFollow e = omega (arith, e)
numbered NDiffers e = omega (arith, e)
numbered ClaimN e = omega (arith, e)
numbered BadQ e = omega (arith, e)
numbered BadChoice e = omega (arith, e)
numbered UsedTwice e = omega (arith, e)
numbered NotAgreeing e = omega (arith, e)
numbered BadNode e = omega (arith, e)
numbered SplitAtN e = omega (arith, e)
numbered NotDead e = omega (arith, e)
numbered BufferShort e = omega (arith, e)
numbered OddList e = omega (arith, e)
numbered BadLine e = omega (arith, e)
numbered Keyword e = omega (arith, e)
numbered TermCount e = omega (arith, e)

-- a fault with a code is told
pub verdict_at : (code : Code) (place pattern : ℕ) → verdict (fault_at (number code) place pattern) ≡ Err (fault_at (number code) place pattern)
unfolding verdict
verdict_at code place pattern = simp (ne_eqb _ 0 (numbered code)) refl

-- two tests: the second is made where the first finds no fault
pub verdict_then : (f g : Fault) → verdict (f then g) ≡ result_and (verdict f) (verdict g)
unfolding verdict ◌then◌
verdict_then f g = go (is_sound f) refl
  where
    go : (t : Bool) → is_sound f ≡ t → cond (is_sound (cond t g f)) (Ok (tt {0})) (Err (cond t g f)) ≡ result_and (cond t (Ok (tt {0})) (Err f)) (cond (is_sound g) (Ok (tt {0})) (Err g))
    go true e = refl
    go false e = simp e refl

-- a header byte's test is its fault's, where the fault has a code
pub byte_verdict : (s : List ℕ) (k low high code : ℕ) → eqb code 0 ≡ false → byte_test s k low high code ≡ verdict (byte_fault s k low high code)
unfolding verdict byte_test byte_fault
byte_verdict s k low high code e = go (leb (length s) k) (leb low (get_or s k 0) && leb (get_or s k 0) high)
  where
    go : (a b : Bool) → cond a (Err (fault 1 (length s))) (cond b (Ok (tt {0})) (Err (fault code k))) ≡ verdict (cond a (fault 1 (length s)) (cond b (fault 0 0) (fault code k)))
    go true b = refl
    go false true = refl
    go false false = simp e refl

-- the answer that comes of a test, and of a refusal or none
abbrev pub answered : ℕ → Result (Unit {0}) Fault → Answer → Answer
answered who (Ok u) next = next
answered who (Err f) next = refused_by who f

abbrev pub answer_or : Result (Unit {0}) Answer → Answer → Answer
answer_or (Ok u) next = next
answer_or (Err a) next = a

pub by_answered : (who : ℕ) (f : Fault) (next : Answer) → by who f next ≡ answered who (verdict f) next
unfolding by verdict
by_answered who f next = elim (is_sound f) as (λ t. cond t next (refused_by who f) ≡ answered who (cond t (Ok (tt {0})) (Err f)) next) [ true ↦ refl | false ↦ refl ]

pub or_else_answer : (a b : Answer) → a or_else b ≡ answer_or (unless_refused a) b
unfolding ◌or_else◌ unless_refused
or_else_answer a b = elim (eqb a.code 0) as (λ t. cond t b a ≡ answer_or (cond t (Ok (tt {0})) (Err a)) b) [ true ↦ refl | false ↦ refl ]

-- a fault that is found has a code, so that its refusal is one
abbrev pub refusal_first : ℕ → Result (Unit {0}) Fault → Result (Unit {0}) Answer → Result (Unit {0}) Answer
refusal_first who (Ok u) next = next
refusal_first who (Err f) next = Err (refused_by who f)

pub unless_by : (who : ℕ) (f : Fault) (next : Answer) → unless_refused (by who f next) ≡ refusal_first who (verdict f) (unless_refused next)
unfolding by verdict unless_refused
unless_by who f next = go (is_sound f) refl
  where
    go : (t : Bool) → is_sound f ≡ t → cond (eqb (cond t next (refused_by who f)).code 0) (Ok (tt {0})) (Err (cond t next (refused_by who f))) ≡ refusal_first who (cond t (Ok (tt {0})) (Err f)) (cond (eqb next.code 0) (Ok (tt {0})) (Err next))
    go true e = refl
    go false e = simp e refl

-- what a test says of the fault
pub verdict_ok : (f : Fault) (u : Unit {0}) → verdict f ≡ Ok u → f.code ≡ 0
unfolding verdict
verdict_ok f u e = go (is_sound f) refl e
  where
    go : (t : Bool) → is_sound f ≡ t → cond t (Ok (tt {0})) (Err f) ≡ Ok u → f.code ≡ 0
    go true s e = eqb-true _ _ s
    go false s e = cc

pub verdict_sound : (f : Fault) → f.code ≡ 0 → verdict f ≡ Ok (tt {0})
unfolding verdict
verdict_sound f e = simp e refl

-- a fault that was found is that one, and has a code
pub record Found (f e : Fault) : Type 0 where
  pub is : e ≡ f
  pub coded : e.code ≡ 0 → ⊥

pub verdict_err : (f e : Fault) → verdict f ≡ Err e → Found f e
unfolding verdict
verdict_err f e = go (is_sound f) refl
  where
    go : (t : Bool) → is_sound f ≡ t → cond t (Ok (tt {0})) (Err f) ≡ Err e → Found f e
    go true s h = cc
    go false s h = let q : e ≡ f = cc in record { is = q; coded = λ z. eqb-false _ _ s (ap (λ (f : Fault). f.code) (sym q) ∙ z) }

-- a refusal with a code is one
pub unless_coded : (code who place : ℕ) → eqb code 0 ≡ false → unless_refused (refused code who place) ≡ Err (refused code who place)
unfolding unless_refused
unless_coded code who place e = simp e refl

pub unless_fine : unless_refused fine ≡ Ok (tt {0})
unfolding unless_refused
unless_fine = refl

-- what the first refusal, or none, says of the answer
pub unless_ok : (a : Answer) (u : Unit {0}) → unless_refused a ≡ Ok u → a.code ≡ 0
unfolding unless_refused
unless_ok a u = go (eqb a.code 0) refl
  where
    go : (t : Bool) → eqb a.code 0 ≡ t → cond t (Ok (tt {0})) (Err a) ≡ Ok u → a.code ≡ 0
    go true s e = eqb-true _ _ s
    go false s e = cc

pub record Refusal (a e : Answer) : Type 0 where
  pub is : e ≡ a
  pub coded : e.code ≡ 0 → ⊥

pub unless_err : (a e : Answer) → unless_refused a ≡ Err e → Refusal a e
unfolding unless_refused
unless_err a e = go (eqb a.code 0) refl
  where
    go : (t : Bool) → eqb a.code 0 ≡ t → cond t (Ok (tt {0})) (Err a) ≡ Err e → Refusal a e
    go true s h = cc
    go false s h = let q : e ≡ a = cc in record { is = q; coded = λ z. eqb-false _ _ s (ap (λ (a : Answer). a.code) (sym q) ∙ z) }

-- so the next answer decides, or the refusal stands and leaves the buffer
pub unless_next : (a b : Answer) (u : Unit {0}) → unless_refused a ≡ Ok u → a or_else b ≡ b
unless_next a b u e = or_else_next a b (unless_ok a u e)

pub unless_stop : (a b e : Answer) (bytes before : List ℕ) → unless_refused a ≡ Err e → Delivered (a or_else b) bytes before before e
unless_stop a b e bytes before h =
    let r = unless_err a e h in
    delivered_refusal _ bytes before e (r.is ∙ sym (or_else_stop a b (λ z. r.coded (ap (λ (a : Answer). a.code) r.is ∙ z)))) r.coded
