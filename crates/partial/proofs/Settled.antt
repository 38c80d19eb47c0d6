-- Any two outcomes that a public contract allows are equal.
use Prim.Native.Nat.{ℕ}
use mathlib.Core.Path.{◌≡◌, sym, ◌∙◌}
use mathlib.Core.HLevel.{is_prop→PathP}
use mathlib.Core.List.{List}
use Rattle.settled.specs.Settled.{Settled, SettledAs}
use Rattle.std.proofs.Props.{props}
use Rattle.partial.specs.declared.Masks.{Masks}
use Rattle.partial.specs.declared.Wiring.{Wiring}
use Rattle.partial.specs.Partial.{Formed}
use Rattle.partial.proofs.choice.Kinds as choice_kinds
use Rattle.partial.proofs.choice.Reads as choice
use Rattle.partial.proofs.rank.Kinds as rank_kinds
use Rattle.partial.proofs.rank.Reads as rank
use Rattle.partial.proofs.is_choice.Kinds as is_choice_kinds
use Rattle.partial.proofs.is_choice.Reads as is_choice
use Rattle.partial.proofs.side.Kinds as side_kinds
use Rattle.partial.proofs.side.Reads as side
use Rattle.partial.proofs.against.Kinds as against_kinds
use Rattle.partial.proofs.against.Reads as against
use Rattle.partial.proofs.Carried.opposes.Kinds as opposes_kinds
use Rattle.partial.proofs.Carried.opposes.Reads as opposes
use Rattle.partial.proofs.Carried.clears.Kinds as clears_kinds
use Rattle.partial.proofs.Carried.clears.Reads as clears
use Rattle.partial.proofs.Wiring.start.Kinds as start_kinds
use Rattle.partial.proofs.Wiring.start.Reads as start
use Rattle.partial.proofs.Wiring.free.Kinds as free_kinds
use Rattle.partial.proofs.Wiring.free.Reads as free
use Rattle.partial.proofs.Wiring.offer.Kinds as offer_kinds
use Rattle.partial.proofs.Wiring.offer.Reads as offer
use Rattle.partial.proofs.Wiring.place.Kinds as place_kinds
use Rattle.partial.proofs.Wiring.place.Reads as place
use Rattle.partial.proofs.Wiring.last.Kinds as last_kinds
use Rattle.partial.proofs.Wiring.last.Reads as last
use Rattle.partial.proofs.Wiring.back.Kinds as back_kinds
use Rattle.partial.proofs.Wiring.back.Reads as back
use Rattle.partial.proofs.Wiring.locate.Kinds as locate_kinds
use Rattle.partial.proofs.Wiring.locate.Reads as locate
use Rattle.partial.proofs.Wiring.carry.Kinds as carry_kinds
use Rattle.partial.proofs.Wiring.carry.Reads as carry
use Rattle.partial.proofs.Wiring.separated.Kinds as separated_kinds
use Rattle.partial.proofs.Wiring.separated.Reads as separated
use Rattle.partial.proofs.Wiring.dead.Kinds as dead_kinds
use Rattle.partial.proofs.Wiring.dead.Reads as dead
use Rattle.partial.proofs.Wiring.first_dead.Kinds as first_dead_kinds
use Rattle.partial.proofs.Wiring.first_dead.Reads as first_dead

pub choice_settled : Settled 0 choice_kinds.ps choice_kinds.r choice.Post
choice_settled κs a r₁ r₂ s₁ s₂ p q = p ∙ sym q

pub rank_settled : Settled 0 rank_kinds.ps rank_kinds.r rank.Post
rank_settled κs a r₁ r₂ s₁ s₂ p q = p ∙ sym q

pub is_choice_settled : Settled 0 is_choice_kinds.ps is_choice_kinds.r is_choice.Post
is_choice_settled κs a r₁ r₂ s₁ s₂ p q = p ∙ sym q

-- of a part that is handed back, its bytes are seen
pub side_settled : SettledAs 1 side_kinds.ps side_kinds.r (λ κs. List ℕ) (λ κs x s. x.now) side.Post
side_settled κs a r₁ r₂ s₁ s₂ p q = p ∙ sym q

pub against_settled : Settled 0 against_kinds.ps against_kinds.r against.Post
against_settled κs a r₁ r₂ s₁ s₂ p q = p ∙ sym q

pub opposes_settled : Settled 0 opposes_kinds.ps opposes_kinds.r opposes.Post
opposes_settled κs a r₁ r₂ s₁ s₂ p q = p ∙ sym q

pub clears_settled : Settled 0 clears_kinds.ps clears_kinds.r clears.Post
clears_settled κs a r₁ r₂ s₁ s₂ p q = p ∙ sym q

-- a wiring is its masks: that they are formed is a fact with one proof at most
formed_one : (m : Masks) → IsProp (Formed m)
formed_one m = Prim.hlevel props

pub wiring_one : (x y : Wiring) → x.masks ≡ y.masks → x ≡ y
wiring_one x y e = λ i. record { masks = e i; formed = is_prop→PathP (λ j. Formed (e j)) (λ j. formed_one (e j)) x.formed y.formed i }

-- and so is fixed by n and its choices
pub start_settled : Settled 0 start_kinds.ps start_kinds.r start.Post
start_settled κs a r₁ r₂ s₁ s₂ p q = wiring_one r₁ r₂ (p.is ∙ sym q.is)

pub free_settled : Settled 0 free_kinds.ps free_kinds.r free.Post
free_settled κs a r₁ r₂ s₁ s₂ p q = p ∙ sym q

pub offer_settled : Settled 0 offer_kinds.ps offer_kinds.r offer.Post
offer_settled κs a r₁ r₂ s₁ s₂ p q = p ∙ sym q

pub place_settled : Settled 0 place_kinds.ps place_kinds.r place.Post
place_settled κs a r₁ r₂ s₁ s₂ p q = wiring_one r₁ r₂ (p.is ∙ sym q.is)

pub last_settled : Settled 0 last_kinds.ps last_kinds.r last.Post
last_settled κs a r₁ r₂ s₁ s₂ p q = p ∙ sym q

pub back_settled : Settled 0 back_kinds.ps back_kinds.r back.Post
back_settled κs a r₁ r₂ s₁ s₂ p q = wiring_one r₁ r₂ (p.is ∙ sym q.is)

pub locate_settled : Settled 0 locate_kinds.ps locate_kinds.r locate.Post
locate_settled κs a r₁ r₂ s₁ s₂ p q = p ∙ sym q

pub carry_settled : Settled 0 carry_kinds.ps carry_kinds.r carry.Post
carry_settled κs a r₁ r₂ s₁ s₂ p q = p ∙ sym q

pub separated_settled : Settled 0 separated_kinds.ps separated_kinds.r separated.Post
separated_settled κs a r₁ r₂ s₁ s₂ p q = p ∙ sym q

pub dead_settled : Settled 0 dead_kinds.ps dead_kinds.r dead.Post
dead_settled κs a r₁ r₂ s₁ s₂ p q = p ∙ sym q

pub first_dead_settled : Settled 2 first_dead_kinds.ps first_dead_kinds.r first_dead.Post
first_dead_settled κs a r₁ r₂ s₁ s₂ p q = p ∙ sym q
