-- The chain counts the patterns that are held, as `count` does.
use Rattle.std.proofs.Common.{rules, tests, ◌∙◌, ◌≡◌, ◌^◌, ◌*◌, ◌%◌, ℕ, bit_and, arith, ap}
use Rattle.std.proofs.lemmas.Grind.{common_steps}
use Rattle.std.proofs.lemmas.Iterator.{YieldsList-from_range}
use Rattle.std.proofs.lemmas.Iterator.Consumers.{count_from_yields_List, YieldsList-from_filter}
use Rattle.cubes.specs.Cubes.{some_holds}
use Rattle.cubes.proofs.Lists.{patterns_counted}
use Rattle.cubes.proofs.patterns.Goals as goal

pub returns : goal.returns
returns c =
    let a = c.args in
    let last : 1 * 2 ^ a.n % 2 ^ 32 ≡ 2 ^ a.n = grind (arith, common_steps, c.requires) in
    count_from_yields_List c.filter.result _ c.count.ensures.ran
    (YieldsList-from_filter _ (λ x. some_holds a.list.now (bit_and x 255))
    (YieldsList-from_range 0 (2 ^ a.n) (2 ^ a.n)
    (c.filter.ensures.source ∙ ap (λ (m : ℕ). record { start = 0; end = m }) last)
    (omega arith))
    c.filter.ensures.closure (λ x b q k. search (rules, tests)))
    ∙ patterns_counted a.list.now a.n c.requires
