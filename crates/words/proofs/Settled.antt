-- Any two outcomes that a public contract allows are equal.
use Prim.Native.Nat.{ℕ}
use mathlib.Core.Path.{sym, ◌∙◌}
use mathlib.Core.List.{List}
use Rattle.settled.specs.Settled.{Settled, SettledAs}
use Rattle.words.proofs.line_end.Kinds as line_end_kinds
use Rattle.words.proofs.line_end.Reads as line_end
use Rattle.words.proofs.word_start.Kinds as word_start_kinds
use Rattle.words.proofs.word_start.Reads as word_start
use Rattle.words.proofs.word_end.Kinds as word_end_kinds
use Rattle.words.proofs.word_end.Reads as word_end
use Rattle.words.proofs.same.Kinds as same_kinds
use Rattle.words.proofs.same.Reads as same
use Rattle.words.proofs.count.Kinds as count_kinds
use Rattle.words.proofs.count.Reads as count
use Rattle.words.proofs.digit.Kinds as digit_kinds
use Rattle.words.proofs.digit.Reads as digit
use Rattle.words.proofs.put_number.Kinds as put_number_kinds
use Rattle.words.proofs.put_number.Reads as put_number

pub line_end_settled : Settled 1 line_end_kinds.ps line_end_kinds.r line_end.Post
line_end_settled κs a r₁ r₂ s₁ s₂ p q = p ∙ sym q

pub word_start_settled : Settled 1 word_start_kinds.ps word_start_kinds.r word_start.Post
word_start_settled κs a r₁ r₂ s₁ s₂ p q = p ∙ sym q

pub word_end_settled : Settled 1 word_end_kinds.ps word_end_kinds.r word_end.Post
word_end_settled κs a r₁ r₂ s₁ s₂ p q = p ∙ sym q

pub same_settled : Settled 2 same_kinds.ps same_kinds.r same.Post
same_settled κs a r₁ r₂ s₁ s₂ p q = p ∙ sym q

pub count_settled : Settled 1 count_kinds.ps count_kinds.r count.Post
count_settled κs a r₁ r₂ s₁ s₂ p q = p ∙ sym q

pub digit_settled : Settled 0 digit_kinds.ps digit_kinds.r digit.Post
digit_settled κs a r₁ r₂ s₁ s₂ p q = p ∙ sym q

-- where the number ends, and the buffer afterwards
pub put_number_settled : SettledAs 1 put_number_kinds.ps put_number_kinds.r (λ κs. ℕ × List ℕ) (λ κs x s. (x, s.1.1.0.now)) put_number.Post
put_number_settled κs a r₁ r₂ s₁ s₂ p q i = ((p.0 ∙ sym q.0) i, (p.1 ∙ sym q.1) i)
