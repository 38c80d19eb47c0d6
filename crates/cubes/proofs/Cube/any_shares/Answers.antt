-- The chain asks each pair; to share a pattern is to have a least one.
use Rattle.std.proofs.Common.{rules, tests, is_some, ◌∙◌}
use Rattle.std.proofs.lemmas.Iterator.{YieldsList-from_slice}
use Rattle.std.proofs.lemmas.Iterator.Search.{any_from_yields_List}
use Rattle.cubes.specs.Cubes.{least_shared}
use Rattle.cubes.specs.Values.{in_pairs}
use Rattle.cubes.proofs.Lists.{of_pair, pairs_share}
use Rattle.cubes.proofs.Cube.any_shares.Goals as goal

pub returns : goal.returns
returns c =
    let a = c.args in
    any_from_yields_List (of_pair (λ P N. is_some (least_shared 8 a.self.pos a.self.neg P N))) _ _ _ c.any.ensures.ran
    (YieldsList-from_slice (in_pairs a.list.now) cc) (λ x b q k. search (rules, tests))
    ∙ pairs_share a.self.pos a.self.neg a.list.now
