-- What was read are the first bytes that the reader had, as many as there was room for.
use Rattle.std.proofs.Common.{◌≡◌, ℕ, ◌<◌, ◌≤◌, List, [], ◌++◌, IfSome, None, Some, inl, inr, sym, ap, ◌∙◌, subst, arith, length, take, append-nil, length-take-le, take_all}
use Rattle.std.proofs.Math.Nat.{eq-or-lt_of_le}
use Rattle.std.proofs.Math.Seq.{take-append_seam}
use Rattle.std.specs.declared.option.Option.{Option}
use Rattle.std.specs.Io.KnownBytes.{Appends, Consumes, IsAtEnd}

-- a front that fills the room, or behind which there is nothing
front_is : (room n : ℕ) (front rest : List ℕ) → length front ≡ n → n ≤ room → (n < room → rest ≡ []) → front ≡ take room (front ++ rest)
front_is room n front rest long within end = elim (eq-or-lt_of_le within) [
  | inl full ↦ sym (ap (λ (k : ℕ). take k (front ++ rest)) (sym full ∙ sym long) ∙ take-append_seam front rest)
  | inr less ↦
      let all : front ++ rest ≡ front = ap (λ l. front ++ l) (end less) ∙ append-nil front in
      sym (ap (take room) all ∙ take_all room front (omega (arith, long, less)))
]

pub read_first : (old new : Option (List ℕ)) (buf : List ℕ) (n : ℕ) → n ≤ length buf → Consumes old new (take n buf) → (n < length buf → IsAtEnd new)
    → IfSome old (λ xs. take n buf ≡ take (length buf) xs)
read_first None new buf n within read end = tt
read_first (Some xs) None buf n within read end = absurd read
read_first (Some xs) (Some ys) buf n within read end =
    front_is (length buf) n (take n buf) ys (length-take-le n buf within) within end ∙ ap (take (length buf)) (sym read)

-- where a text made of the first bytes is that of all, what was written for what was read was written for the whole input
pub of_all : (Fine : List ℕ → Type 0) (text : List ℕ → List ℕ) (room : ℕ) → ((xs : List ℕ) → Fine xs → text (take room xs) ≡ text xs)
    → (input : Option (List ℕ)) (read : List ℕ) (a b : Option (List ℕ)) → IfSome input (λ xs. read ≡ take room xs)
    → Appends a b (text read) → IfSome input (λ xs. Fine xs → Appends a b (text xs))
of_all Fine text room enough None read a b first p = tt
of_all Fine text room enough (Some xs) read a b first p = λ fine. subst (Appends a b) (ap text first ∙ enough xs fine) p
