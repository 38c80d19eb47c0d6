-- A byte that is 255 is copied whole.
use Rattle.std.proofs.Common.{◌∙◌}
use Rattle.partial.proofs.Bytes.{spread_is}
use Rattle.partial.proofs.spread.Goals as goal

pub returns : goal.returns
returns c = c.copied.ensures ∙ spread_is c.args.inputs
