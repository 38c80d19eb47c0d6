-- The two searches from the start, and the claim. The idea: the list of all wirings is those with q = 0, then those with q = 1,
-- so its first that agrees is what the search with q = 0 comes to, else that with q = 1; and where both come to nothing, what
-- they measured is the length of the refusal.
use Prim.Native.Nat.{ℕ, ◌+◌, ◌≤◌}
use mathlib.Core.Path.{◌≡◌, refl, sym, ap, ap₂, ◌∙◌, subst₂}
use mathlib.Core.List.{List, [], ◌∷◌, ◌++◌, map, flat_map}
use Rattle.std.specs.Option.{option_map}
use Rattle.std.proofs.Common.{Ok, Err}
use Rattle.std.specs.declared.result.Result.{Result}
use Rattle.std.specs.declared.option.Option.{Option}
use Rattle.std.specs.declared.option.Option.TheVariants.{None, Some}
use native.Mathlib.Nat.{sub-zero}
use native.Mathlib.Omega.{arith}
use lib.ListN.{length}
use lib.Seq.{sets}
use Rattle.rules.specs.Lists.{first}
use Rattle.rules.specs.Rules.{completions, follows}
use Rattle.rules.proofs.Lists.{first_found, first_some, first_flat, first_map, ◌else◌}
use Rattle.rules.proofs.Seek.{else_nothing}
use Rattle.rules.proofs.Cut.{Reached, start_reached}
use Rattle.answers.specs.declared.Answer.{Answer}
use Rattle.answers.specs.Answers.{fits, Delivered}
use Rattle.answers.proofs.Stores.{three_stored}
use Rattle.records.specs.Records.{inputs, Accepted}
use Rattle.records.proofs.Frame.{both_good, few_inputs}
use Rattle.wirings.specs.Wirings.{straight, wirings, agrees, agreeing}
use Rattle.partial.specs.declared.Masks.{Masks}
use Rattle.partial.specs.Partial.{StandsFor, prefix, as_number, as_bytes}
use Rattle.partial.proofs.Joined.{number_bytes}
use Rattle.partial.proofs.Standing.{stands_as, placed_bytes}
use Rattle.claims.specs.Claims.{match_claim}
use Rattle.matcher.specs.Matching.{first_agreeing, own_refusal, claim_of, kind_found, claim_for, matching, first_from, searched}
use Rattle.matcher.proofs.Nodes.{node_bytes, node_most}
use Rattle.matcher.proofs.Searching.{sought, searched_ok, searched_err}
use Rattle.matcher.proofs.Exact.{refusal_parts, matching_room}

-- ---- from the start

-- what the search from the empty wiring comes to
abbrev pub Comes : ℕ → List ℕ → List ℕ → Result ℕ ℕ → Type 0
Comes q f g o = o ≡ searched (first_from (inputs g) q f g []) (length (node_bytes (inputs g) q f g []))

pub comes : (q : ℕ) (f g : List ℕ) (r : Masks) → StandsFor r (inputs g) [] → (o : Result ℕ ℕ) → o ≡ sought r q f g
    → Comes q f g o
comes q f g r s o e = e ∙ stands_as r (inputs g) [] s (λ n w. searched (first_from n q f g w) (length (node_bytes n q f g w)))

-- a length that was measured is no longer than the longest tree
pub measured_few : (n q : ℕ) (f g : List ℕ) → n ≤ 8 → (m : ℕ) → Err m ≡ searched (first_from n q f g []) (length (node_bytes n q f g [])) → m ≤ 37661809
unfolding follows
measured_few n q f g few m none = omega (arith, (searched_err _ _ m none).1, node_most n q f g [] few refl)

pub measured_most : (q : ℕ) (f g : List ℕ) → Accepted f g → (m : ℕ) → Comes q f g (Err m) → m ≤ 37661809
measured_most q f g ok = measured_few (inputs g) q f g (few_inputs f g ok)

module _ (n q : ℕ) (f g : List ℕ) where
  -- what is found there is a whole wiring
  found_whole : (w : List ℕ) → first_from n q f g [] ≡ Some w → Reached (straight n) n 0 w
  unfolding first_from
  found_whole w e =
      start_reached (straight n) n w (first_found (agrees q f g) w (completions (straight n) n []) (rw sub-zero at e)).0

  -- and its choices are read back from their number
  found_bytes : n ≤ 8 → (w : List ℕ) → first_from n q f g [] ≡ Some w → as_bytes n (as_number w) ≡ w
  found_bytes few w e =
      let r = found_whole w e in
      ap (λ (k : ℕ). as_bytes k (as_number w)) (omega (arith, r.total)) ∙ number_bytes w (placed_bytes n few w r.allowed)

-- ---- the first of all

module _ (f g : List ℕ) where
  abbrev n : ℕ
  n = inputs g

  abbrev pub with_phase : ℕ → Option (List ℕ) → Option (List ℕ)
  with_phase q = option_map (λ (w : List ℕ). q ∷ w)

  -- what q = 0 gives, else q = 1
  pub phases : first_agreeing f g ≡ (with_phase 0 (first_from n 0 f g []) else with_phase 1 (first_from n 1 f g []))
  unfolding first_agreeing first_from wirings flat_map first_some
  phases =
      rw sub-zero
      (first_flat (agreeing f g) (λ q. map (λ (w : List ℕ). q ∷ w) all) (0 ∷ 1 ∷ [])
      ∙ ap₂ (λ (a b : Option (List ℕ)). a else b) (each 0) (else_nothing _ ∙ each 1))
    where
      all : List (List ℕ)
      all = completions (straight n) n []

      each : (q : ℕ) → first (agreeing f g) (map (λ (w : List ℕ). q ∷ w) all) ≡ with_phase q (first (agrees q f g) all)
      each q = first_map (agreeing f g) (λ (w : List ℕ). q ∷ w) all

  first_plain : (w : List ℕ) → first_from n 0 f g [] ≡ Some w → first_agreeing f g ≡ Some (0 ∷ w)
  unfolding ◌else◌
  first_plain w e = phases ∙ ap (λ (o : Option (List ℕ)). with_phase 0 o else with_phase 1 (first_from n 1 f g [])) e

  first_turned : (o : Option (List ℕ)) → first_from n 0 f g [] ≡ None → first_from n 1 f g [] ≡ o
      → first_agreeing f g ≡ with_phase 1 o
  unfolding ◌else◌
  first_turned o e₀ e₁ = phases ∙ ap₂ (λ (o₀ o₁ : Option (List ℕ)). with_phase 0 o₀ else with_phase 1 o₁) e₀ e₁

  -- ---- the trees of the refusal, written one after the other, from the empty wiring

  module _ (w : Masks) (s : StandsFor w n []) where
    abbrev tree : ℕ → List ℕ
    tree q = node_bytes w.n q f g (prefix w)

    is : (q : ℕ) → tree q ≡ node_bytes n q f g []
    is q = stands_as w n [] s (λ m v. node_bytes m q f g v)

    pub trees_long : length (tree 0) + length (tree 1) + 3 ≡ length (own_refusal f g)
    trees_long = omega (arith, ap length (is 0), ap length (is 1), refusal_parts f g)

    pub refusal_stored : (before l₁ l₂ l₃ : List ℕ) (at : ℕ) → l₁ ≡ sets before 0 (0x52 ∷ 0x46 ∷ n ∷ []) → l₂ ≡ sets l₁ 3 (tree 0)
        → at ≡ 3 + length (tree 0) → l₃ ≡ sets l₂ at (tree 1) → l₃ ≡ sets before 0 (own_refusal f g)
    refusal_stored before l₁ l₂ l₃ at header first end second =
        second
        ∙ ap₂ (λ (l : List ℕ) (at : ℕ). sets l at (tree 1)) (first ∙ ap (λ (l : List ℕ). sets l 3 (tree 0)) header) end
        ∙ three_stored before (0x52 ∷ 0x46 ∷ n ∷ []) (tree 0) (tree 1) 3 refl
        ∙ ap₂ (λ (a b : List ℕ). sets before 0 (0x52 ∷ 0x46 ∷ n ∷ a ++ b)) (is 0) (is 1)

  -- two searches that come to none have measured the refusal
  pub refusal_long : (plain turned : ℕ) → Comes 0 f g (Err plain) → Comes 1 f g (Err turned)
      → 3 + plain + turned ≡ length (own_refusal f g)
  refusal_long plain turned none₀ none₁ =
      omega (arith, (searched_err _ _ plain none₀).1, (searched_err _ _ turned none₁).1, refusal_parts f g)

  -- ---- the answer

  module _ (ok : Accepted f g) (before after : List ℕ) (r : Answer) where
    abbrev pub Claimed : Type 0
    Claimed = Delivered (matching f g (length before)) (claim_for f g) before after r

    -- both functions are read, so that room for the claim is all that is asked for
    of_claim : (o : Option (List ℕ)) → first_agreeing f g ≡ o
        → Delivered (fits (kind_found o) (length before) (length (claim_of f g o))) (claim_of f g o) before after r → Claimed
    of_claim o e d =
        let by_room = matching_room f g (length before) (both_good f g ok) in
        subst₂ (λ (a : Answer) (c : List ℕ). Delivered a c before after r)
        (ap (λ (o : Option (List ℕ)). fits (kind_found o) (length before) (length (claim_of f g o))) (sym e) ∙ sym by_room)
        (ap (claim_of f g) (sym e)) d

    abbrev pub Match : ℕ → ℕ → Type 0
    Match q choices = Delivered (fits 1 (length before) (4 + n)) (match_claim n (q ∷ as_bytes n choices)) before after r

    -- a search that comes to choices: a match
    pub matched : (q choices : ℕ) (w : List ℕ) → first_from n q f g [] ≡ Some w → choices ≡ as_number w
        → first_agreeing f g ≡ Some (q ∷ w) → Match q choices → Claimed
    unfolding claim_of kind_found
    matched q choices w found number first d =
        let bytes : as_bytes n choices ≡ w = ap (as_bytes n) number ∙ found_bytes n q f g (few_inputs f g ok) w found in
        let long : 4 + n ≡ length (match_claim n (q ∷ w)) = omega (arith, (found_whole n q f g w found).total) in
        of_claim (Some (q ∷ w)) first
        (subst₂ (λ (w : List ℕ) (k : ℕ). Delivered (fits 1 (length before) k) (match_claim n (q ∷ w)) before after r) bytes long d)

    pub plain_delivered : (choices : ℕ) → Comes 0 f g (Ok choices) → Match 0 choices → Claimed
    plain_delivered choices came =
        let x = searched_ok _ _ choices came in
        matched 0 choices x.0 x.1 x.2 (first_plain x.0 x.1)

    pub turned_delivered : (plain choices : ℕ) → Comes 0 f g (Err plain) → Comes 1 f g (Ok choices) → Match 1 choices → Claimed
    turned_delivered plain choices none came =
        let x = searched_ok _ _ choices came in
        matched 1 choices x.0 x.1 x.2 (first_turned (Some x.0) (searched_err _ _ plain none).0 x.1)

    -- two that come to none: the refusal
    pub refusal_delivered : (plain turned : ℕ) → Comes 0 f g (Err plain) → Comes 1 f g (Err turned)
        → Delivered (fits 2 (length before) (length (own_refusal f g))) (own_refusal f g) before after r → Claimed
    unfolding claim_of kind_found
    refusal_delivered plain turned none₀ none₁ =
        of_claim None (first_turned None (searched_err _ _ plain none₀).0 (searched_err _ _ turned none₁).0)

-- what is delivered of two functions is delivered of the bytes that they were read from
pub delivered_as : {F G f g : List ℕ} → F ≡ f → G ≡ g → {before after : List ℕ} {r : Answer}
    → Delivered (matching F G (length before)) (claim_for F G) before after r → Delivered (matching f g (length before)) (claim_for f g) before after r
delivered_as p q {before} {after} {r} d = subst₂ (λ (f g : List ℕ). Delivered (matching f g (length before)) (claim_for f g) before after r) p q d
