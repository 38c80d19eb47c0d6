-- The search for the first cube with a fault, over the pairs of a list: what remains decides.
use Rattle.std.proofs.Common.{◌≡◌, ℕ, List, [], ◌∷◌, ◌+◌, ◌*◌, ◌-◌, ◌≤◌, ◌<◌, suc, Bool, cond, length, get_or, take, drop, refl, sym, ap, ap₂, ◌∙◌, arith, add-one, drop-cons, Err, Ok}
use borrow.Author.Tests.{eq-eqb, ne_eqb}
use lib.Dec.{eqb}
use lib.ListN.{drop_of_length-le, length-drop}
use Rattle.std.proofs.lemmas.List.{take_all}
use Rattle.cubes.specs.Values.{in_pairs}
use Rattle.answers.specs.declared.Fault.{Fault}
use Rattle.answers.specs.declared.Code.{Code}
use Rattle.answers.specs.Answers.{fault_at, sound}
use Rattle.answers.specs.Verdicts.{number, verdict}
use Rattle.answers.proofs.Verdicts.{numbered, verdict_at, verdict_sound}
use Rattle.records.specs.Records.{first_fault}

-- the pairs of what comes from a place on
pub rest_pairs : (l : List ℕ) (from : ℕ) {ps : List (List ℕ)} → ps ≡ in_pairs (take (length l - from) (drop from l)) → ps ≡ in_pairs (drop from l)
rest_pairs l from e = e ∙ ap in_pairs (take_all (length l - from) (drop from l) (omega (arith, length-drop from l)))

module _ (code pattern : ℕ → ℕ → ℕ) where
  -- what the function says of a pair
  abbrev pub at_pair : (ℕ → ℕ → ℕ) → List ℕ → ℕ
  at_pair f c = f (get_or c 0 0) (get_or c 1 0)

  -- the first fault of a list in pairs
  unfoldable pub fault_in : List (List ℕ) → ℕ → Fault
  fault_in [] at = sound
  fault_in (c ∷ ps) at = cond (eqb (at_pair code c) 0) (fault_in ps (at + 2)) (fault_at (at_pair code c) at (at_pair pattern c))

  pub pairs_fault : (l : List ℕ) (at : ℕ) → first_fault code pattern l at ≡ fault_in (in_pairs l) at
  unfolding first_fault fault_in in_pairs
  pairs_fault [] at = refl
  pairs_fault (P ∷ []) at = refl
  pairs_fault (P ∷ N ∷ l) at = ap (λ (f : Fault). cond (eqb (code P N) 0) f (fault_at (code P N) at (pattern P N))) (pairs_fault l (at + 2))

  -- the search has come to pair k and found no fault
  pub record Search (l : List ℕ) (from k : ℕ) : Type 0 where
    pub rest : first_fault code pattern l from ≡ fault_in (drop k (in_pairs l)) (from + 2 * k)

  pub search_starts : (l : List ℕ) (from : ℕ) → Search l from 0
  search_starts l from = record { rest = pairs_fault l from ∙ ap (fault_in (in_pairs l)) (omega arith) }

  module _ (l : List ℕ) (from k : ℕ) (w : Search l from k) (ps : List (List ℕ)) (e : ps ≡ in_pairs l) where
    step : (d : List ℕ) → k < length ps
        → first_fault code pattern l from ≡ cond (eqb (at_pair code (get_or ps k d)) 0) (fault_in (drop (k + 1) ps) (from + 2 * (k + 1))) (fault_at (at_pair code (get_or ps k d)) (from + 2 * k) (at_pair pattern (get_or ps k d)))
    unfolding fault_in
    step d h =
        let x = get_or ps k d in
        w.rest ∙ ap (λ (ps : List (List ℕ)). fault_in (drop k ps) (from + 2 * k)) (sym e) ∙ ap (λ (ps : List (List ℕ)). fault_in ps (from + 2 * k)) (drop-cons ps k d h)
        ∙ rw add-one (ap (λ (at : ℕ). cond (eqb (at_pair code x) 0) (fault_in (drop (suc k) ps) at) (fault_at (at_pair code x) (from + 2 * k) (at_pair pattern x))) (omega arith))

    pub search_goes : (d : List ℕ) → k < length ps → at_pair code (get_or ps k d) ≡ 0 → Search l from (k + 1)
    search_goes d h z =
        record { rest = step d h ∙ simp (eq-eqb _ _ z) (ap (λ (ps : List (List ℕ)). fault_in (drop (k + 1) ps) (from + 2 * (k + 1))) e) }

    -- a pair with any code but 0 is the first with a fault
    pub search_found_any : (d : List ℕ) → k < length ps → (at_pair code (get_or ps k d) ≡ 0 → ⊥)
        → first_fault code pattern l from ≡ fault_at (at_pair code (get_or ps k d)) (from + 2 * k) (at_pair pattern (get_or ps k d))
    search_found_any d h bad =
        let c = get_or ps k d in
        step d h ∙ ap (λ (t : Bool). cond t (fault_in (drop (k + 1) ps) (from + 2 * (k + 1))) (fault_at (at_pair code c) (from + 2 * k) (at_pair pattern c))) (ne_eqb _ 0 bad)

    -- as the code tells it
    pub search_found : (d : List ℕ) (x : Code) (p : ℕ) → k < length ps → number x ≡ at_pair code (get_or ps k d) → p ≡ at_pair pattern (get_or ps k d)
        → Err (fault_at (number x) (from + 2 * k) p) ≡ verdict (first_fault code pattern l from)
    search_found d x p h q r =
        sym
        (ap verdict
        (search_found_any d h (λ z. numbered x (q ∙ z)) ∙ ap₂ (λ code p. fault_at code (from + 2 * k) p) (sym q) (sym r)) ∙ verdict_at x (from + 2 * k) p)

    -- where no pair is left, none has a fault
    pub search_sound : length ps ≤ k → first_fault code pattern l from ≡ sound
    unfolding fault_in
    search_sound h =
        w.rest ∙ ap (λ (ps : List (List ℕ)). fault_in (drop k ps) (from + 2 * k)) (sym e) ∙ ap (λ (ps : List (List ℕ)). fault_in ps (from + 2 * k)) (drop_of_length-le ps h)

    pub search_ends : length ps ≤ k → Ok (tt {0}) ≡ verdict (first_fault code pattern l from)
    search_ends h = sym (verdict_sound (first_fault code pattern l from) (ap (λ (f : Fault). f.code) (search_sound h)))
