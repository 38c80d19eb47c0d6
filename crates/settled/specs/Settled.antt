-- A contract settles its call where any two outcomes that it allows, for the same arguments, are seen alike. It is stated over
-- the contract itself: `Q` is the plain reading of a function's `ensures`, made from the source by the toolchain, `ps` and `r`
-- are the kinds of its parameters and of its result.
use Rattle.std.specs.Prelude.{ℕ, ◌≡◌, List}
use contract.Lifetimes.{Lfts}
use borrow.Fn.Kind.{ParamKind, ResultKind}
use borrow.Fn.Kinds.{Dens, res_t, Out, ended_of}
use denote.Triple.Clauses.{AtExit}

module _ (n : ℕ) (ps : List (ParamKind n)) (r : ResultKind n) where
  -- what a caller can see of an outcome, the result and the parameters at exit, is the same for both
  abbrev pub SettledAs : (B : Lfts n → Type 0) → ((κs : Lfts n) → (res_t r κs).Denot → AtExit (ended_of n ps r) κs → B κs) → Out n ps r → Type 0
  SettledAs B seen Q =
      (κs : Lfts n) (a : Dens κs ps) (r₁ r₂ : (res_t r κs).Denot) (s₁ s₂ : AtExit (ended_of n ps r) κs)
      → Q κs a r₁ s₁ → Q κs a r₂ s₂ → seen κs r₁ s₁ ≡ seen κs r₂ s₂

  -- a call that lends no buffer: the results are equal
  abbrev pub Settled : Out n ps r → Type 0
  Settled Q = SettledAs (λ κs. (res_t r κs).Denot) (λ κs x s. x) Q
