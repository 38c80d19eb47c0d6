-- What a mapped error leaves alone: what was read, and what was written.
use Rattle.std.proofs.Common.{◌≡◌, Bool, true, false, sym, ◌∙◌, OnOk, IsErrAnd, MatchResult, Ok, Err, is_ok}
use Rattle.std.specs.declared.result.Result.{Result}

module _ {T E D : Type 0} where
  pub ok_before : (Q : E → D → Type 0) (r : Result T E) (m : Result T D) (x : T) → MatchResult r (λ y. m ≡ Ok y) (λ e. IsErrAnd m (Q e)) → m ≡ Ok x → r ≡ Ok x
  ok_before Q (Ok y) m x c e = cc
  ok_before Q (Err d) (Ok y) x c e = absurd c
  ok_before Q (Err d) (Err y) x c e = cc

  pub on_ok_mapped : (P : Type 0) (r : Result T E) (m : Result T D) → is_ok m ≡ is_ok r → OnOk r P → OnOk m P
  on_ok_mapped P (Ok x) (Ok y) e h = h
  on_ok_mapped P (Ok x) (Err y) e h = tt
  on_ok_mapped P (Err x) (Ok y) e h = cc
  on_ok_mapped P (Err x) (Err y) e h = tt
