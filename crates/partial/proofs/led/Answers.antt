-- Each byte is kept whole or left out.
use Rattle.std.proofs.Common.{◌∙◌}
use Rattle.partial.proofs.Bytes.{led_is}
use Rattle.partial.proofs.led.Goals as goal

pub returns : goal.returns
returns c = c.folded.ensures ∙ led_is c.args.bits c.args.inputs c.spread.result c.spread.ensures
