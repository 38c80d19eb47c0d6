-- Any two outcomes that a public contract allows are equal.
use Prim.Native.Nat.{ℕ}
use mathlib.Core.Path.{sym, ◌∙◌}
use mathlib.Core.List.{List}
use Rattle.settled.specs.Settled.{SettledAs}
use Rattle.terms.specs.declared.Line.{Line}
use Rattle.terms.proofs.says.Kinds as says_kinds
use Rattle.terms.proofs.says.Reads as says
use Rattle.terms.proofs.put_terms.Kinds as put_terms_kinds
use Rattle.terms.proofs.put_terms.Reads as put_terms

-- what the line says; of the place in it no more is told than that it is one
pub says_settled : SettledAs 1 says_kinds.ps says_kinds.r (λ κs. Line) (λ κs x s. x.line) says.Post
says_settled κs a r₁ r₂ s₁ s₂ p q = p.0 ∙ sym q.0

-- where the lines end, and the buffer afterwards
pub put_terms_settled : SettledAs 2 put_terms_kinds.ps put_terms_kinds.r (λ κs. ℕ × List ℕ) (λ κs x s. (x, s.1.1.1.0.now))
    put_terms.Post
put_terms_settled κs a r₁ r₂ s₁ s₂ p q i = ((p.0 ∙ sym q.0) i, (p.1 ∙ sym q.1) i)
