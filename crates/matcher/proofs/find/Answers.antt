-- Refused by the functions, the buffer left alone; else what the search with q = 0 comes to, what that with q = 1 does, or the
-- refusal that both measured.
use Rattle.std.proofs.Common.{sym, arith}
use Rattle.answers.proofs.Verdicts.{unless_stop}
use Rattle.matcher.specs.Matching.{matching}
use Rattle.matcher.proofs.Claiming.{comes, measured_most, plain_delivered, turned_delivered, refusal_long, refusal_delivered, delivered_as}
use Rattle.matcher.proofs.find.Goals as goal

pub returns-in-Err : goal.returns-in-Err
unfolding matching
returns-in-Err c = unless_stop _ _ _ _ _ (sym c.in-Err.ensures.value)

pub returns-in-Ok-search : goal.returns-in-Ok-search
returns-in-Ok-search c =
    let n = c.n-n.ensures.value in
    let start = rw n at c.start.ensures in
    let written = rw n at c.write_match.ensures in
    let plain = comes 0 _ _ _ start _ c.in-Ok-search.ensures in
    delivered_as c.in-Ok.ensures.same_f c.in-Ok.ensures.same_g (plain_delivered _ _ c.in-Ok.both.accepted _ _ _ _ plain written)

pub returns-in-Ok-search-2 : goal.returns-in-Ok-search-2
returns-in-Ok-search-2 c =
    let n = c.n-n.ensures.value in
    let start = rw n at c.start.ensures in
    let start₂ = rw n at c.start-2.ensures in
    let written = rw n at c.write_match-in-Ok-search-2.ensures in
    let plain = comes 0 _ _ _ start _ c.in-Err-search.ensures in
    let turned = comes 1 _ _ _ start₂ _ c.in-Ok-search-2.ensures in
    delivered_as c.in-Ok.ensures.same_f c.in-Ok.ensures.same_g (turned_delivered _ _ c.in-Ok.both.accepted _ _ _ _ _ plain turned written)

pub overflow_add-plain : goal.overflow_add-plain
overflow_add-plain c =
    let start = rw c.n-n.ensures.value at c.start.ensures in
    let plain = comes 0 _ _ _ start _ c.in-Err-search.ensures in
    omega (arith, measured_most 0 _ _ c.in-Ok.both.accepted _ plain)

pub overflow_add-plain-2 : goal.overflow_add-plain-2
overflow_add-plain-2 c =
    let start = rw c.n-n.ensures.value at c.start.ensures in
    let start₂ = rw c.n-n.ensures.value at c.start-2.ensures in
    let ok = c.in-Ok.both.accepted in
    let plain = comes 0 _ _ _ start _ c.in-Err-search.ensures in
    let turned = comes 1 _ _ _ start₂ _ c.in-Err-search-2.ensures in
    omega (arith, measured_most 0 _ _ ok _ plain, measured_most 1 _ _ ok _ turned)

pub write_refusal-requires : goal.write_refusal-requires
write_refusal-requires c =
    let start = rw c.n-n.ensures.value at c.start.ensures in
    let start₂ = rw c.n-n.ensures.value at c.start-2.ensures in
    let plain = comes 0 _ _ _ start _ c.in-Err-search.ensures in
    let turned = comes 1 _ _ _ start₂ _ c.in-Err-search-2.ensures in
    refusal_long c.in-Ok.both.f.bytes.now c.in-Ok.both.g.bytes.now _ _ plain turned

pub returns : goal.returns
returns c =
    let start = rw c.n-n.ensures.value at c.start.ensures in
    let start₂ = rw c.n-n.ensures.value at c.start-2.ensures in
    let plain = comes 0 _ _ _ start _ c.in-Err-search.ensures in
    let turned = comes 1 _ _ _ start₂ _ c.in-Err-search-2.ensures in
    delivered_as c.in-Ok.ensures.same_f c.in-Ok.ensures.same_g (refusal_delivered _ _ c.in-Ok.both.accepted _ _ _ _ _ plain turned c.write_refusal.ensures)
