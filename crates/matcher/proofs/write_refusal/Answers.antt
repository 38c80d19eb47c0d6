-- Too short for the claim, the buffer left alone; or header and two trees, one after the other, as long as was measured.
use Rattle.std.proofs.Common.{◌≡◌, refl, ap, ◌∙◌, length, arith}
use Rattle.answers.specs.Answers.{accepted, refused}
use Rattle.answers.proofs.Stores.{delivered_short, delivered_whole}
use Rattle.matcher.specs.Matching.{own_refusal}
use Rattle.matcher.proofs.Claiming.{trees_long, refusal_stored}
use Rattle.matcher.proofs.write_refusal.Goals as goal

pub returns-then-needed-out : goal.returns-then-needed-out
returns-then-needed-out c =
    let long = c.requires in
    delivered_short _ 2 _ _ _ refl _ (omega (arith, c.if-needed-out.true, long)) (c.refused.ensures ∙ ap (refused 18 4) long)

pub returns : goal.returns
returns c =
    let a = c.args in
    let n = c.n-n.ensures.value in
    let s = rw n at c.start-start.ensures in
    let header = rw n at c.put.ensures in
    let t₀ = c.write_tree-second.ensures in
    let t₁ = c.write_tree-end.ensures in
    let end : c.write_tree-end.result ≡ length (own_refusal a.both.f.bytes.now a.both.g.bytes.now) =
    omega (arith, t₀.value, t₁.value, trees_long a.both.f.bytes.now a.both.g.bytes.now _ s) in
    delivered_whole _ 2 _ _ _ refl _ (omega (arith, c.if-needed-out.false, c.requires))
    (c.accepted.ensures ∙ ap (accepted 2) end) _
    (refusal_stored a.both.f.bytes.now a.both.g.bytes.now _ s _ _ _ _ _ header t₀.out_after t₀.value t₁.out_after)
