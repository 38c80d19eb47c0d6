use Rattle.std.proofs.KnownBytes.{Appends-trans}
use Rattle.show.proofs.Pieces.{then_last}
use Rattle.show.proofs.numbers.Goals as goal

pub returns : goal.returns
returns g c =
    let first = Appends-trans _ _ _ _ _ c.in_ok-three.ensures c.in_ok-text.ensures in
    let fourth = Appends-trans _ _ _ _ _ first c.in_ok-number.ensures in
    then_last _ _ _ _ _ _ (Appends-trans _ _ _ _ _ fourth c.in_ok-text-2.ensures) c.number-2.ensures
