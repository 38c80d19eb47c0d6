-- What a call is lent: a shared reference as it is, but to these bytes.
use denote.Bor.{Bor}

abbrev pub lending : {X : Type 0} → Bor X → X → Bor X
lending x bytes = record { ref_ptr = x.ref_ptr; now = bytes }
