use Rattle.std.proofs.KnownBytes.{Appends-trans}
use Rattle.show.proofs.Pieces.{then_last}
use Rattle.show.proofs.answer.Goals as goal

pub returns : goal.returns
returns g c =
    let named = Appends-trans _ _ _ _ _ c.in_ok-text.ensures c.in_ok-text-2.ensures in
    then_last _ _ _ _ _ _ (Appends-trans _ _ _ _ _ named c.in_ok-numbers.ensures) c.text-3.ensures
