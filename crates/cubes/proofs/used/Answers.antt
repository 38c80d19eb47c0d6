-- The ones of the collected mask are counted, bit by bit.
use mathlib.Core.Path.{◌∙◌, ap₂}
use mathlib.Core.Bool.{◌||◌}
use lib.Bits.{or_lt}
use Rattle.bits.proofs.Below.{count_same}
use Rattle.bits.proofs.Bit.{has_or, ones_count}
use Rattle.cubes.specs.Cubes.{inputs_used}
use Rattle.cubes.proofs.used.Goals as goal

pub returns : goal.returns
unfolding inputs_used
returns c =
    let a = c.names in
    let b = c.names-2 in
    ones_count 8 _ (or_lt 8 a.result b.result a.type_inv b.type_inv)
    ∙ count_same _ _ 8 (λ i h. has_or a.result b.result i ∙ ap₂ ◌||◌ (a.ensures i) (b.ensures i))
