-- Demand 2 for the matcher, over its contract, and the last sentence of demand 3: of any outcome that the contract allows. That the
-- slices hold bytes is said where it is needed.
use Prim.Native.Nat.{ℕ, ◌+◌, ◌≤◌, ◌<◌}
use mathlib.Core.Path.{◌≡◌, refl, sym, ap, ap₂, ◌∙◌, subst}
use mathlib.Core.Bool.{true, false, false≢true}
use mathlib.Core.List.{List}
use Rattle.std.specs.declared.option.Option.{Option}
use Rattle.std.specs.declared.option.Option.TheVariants.{None, Some}
use mathlib.Core.Logic.{◌⊎◌}
use native.Mathlib.Nat.{le_trans}
use native.Mathlib.Omega.{arith}
use contract.Lifetimes.{Lfts}
use borrow.Fn.Kinds.{Dens, res_t, ended_of}
use denote.Triple.Clauses.{AtExit}
use lib.ListN.{length, take}
use Rattle.rules.proofs.Lists.{AfterNone}
use Rattle.answers.specs.declared.Answer.{Answer}
use Rattle.answers.specs.Answers.{accepted, refused, fits}
use Rattle.answers.proofs.Stores.{fits_short, fits_enough, Stands, delivered_unchanged, delivered_is, delivered_stands}
use Rattle.records.specs.Records.{inputs, both_read, Bytes, Accepted}
use Rattle.records.proofs.Frame.{both_good, both_sound, few_inputs}
use Rattle.wirings.specs.Wirings.{is_wiring, wirings, agreeing}
use Rattle.claims.specs.Claims.{match_claim}
use Rattle.claims.proofs.Refusals.{match_length}
use Rattle.checker.specs.Checking.{checking}
use Rattle.checker.proofs.Exact.{match_accepted, refusal_accepted}
use Rattle.checker.proofs.check.Kinds as check_kinds
use Rattle.checker.proofs.check.Reads as check
use Rattle.matcher.specs.Matching.{first_agreeing, own_refusal, claim_of, kind_found, claim_for, matching}
use Rattle.matcher.proofs.Exact.{first_is, none_agree, claim_match, claim_refusal, claim_most, kind_match, kind_refusal, kind_either, matching_room, matching_read, matching_place}
use Rattle.matcher.proofs.find.Kinds as find_kinds
use Rattle.matcher.proofs.find.Reads as find

-- ---- what a caller finds in the buffer

-- a match: the claim of a wiring that agrees, and no earlier one does
pub record FirstMatch (f g before after : List ℕ) (place : ℕ) : Type 0 where
  pub functions : Accepted f g
  pub wiring : List ℕ
  pub stands : Stands (match_claim (inputs g) wiring) before after place
  pub whole : is_wiring (inputs g) wiring ≡ true
  pub agrees : agreeing f g wiring ≡ true
  pub first : AfterNone (agreeing f g) wiring (wirings (inputs g))

-- "no match": the refusal with the matcher's own trees, and no wiring agrees
pub record NoMatch (f g before after : List ℕ) (place : ℕ) : Type 0 where
  pub functions : Accepted f g
  pub stands : Stands (own_refusal f g) before after place
  pub no_wiring : (v : List ℕ) → is_wiring (inputs g) v ≡ true → agreeing f g v ≡ false

-- ---- the matcher's claim before the checker

-- it is accepted, with its own kind and length
pub claim_accepted : (f g : List ℕ) → Accepted f g → checking f g (claim_for f g) ≡ accepted (kind_found (first_agreeing f g)) (length (claim_for f g))
unfolding kind_found
claim_accepted f g ok = go (first_agreeing f g) refl
  where
    go : (o : Option (List ℕ)) → first_agreeing f g ≡ o → checking f g (claim_for f g) ≡ accepted (kind_found o) (length (claim_for f g))
    go (Some v) e = match_accepted f g _ ok (claim_match f g v e)
    go None e = refusal_accepted f g _ ok (claim_refusal f g ok e)

checker_accepts : (κs : Lfts 3) (a : Dens κs check_kinds.ps) (r : (res_t check_kinds.r κs).Denot) (s : AtExit (ended_of 3 check_kinds.ps check_kinds.r) κs)
    → check.Post κs a r s → (f g : List ℕ) → a.0.now ≡ f → a.1.0.now ≡ g → a.1.1.0.now ≡ claim_for f g → Accepted f g
    → r ≡ accepted (kind_found (first_agreeing f g)) (length (claim_for f g))
checker_accepts κs a r s p f g same_f same_g same_c ok = p ∙ (λ i. checking (same_f i) (same_g i) (same_c i)) ∙ claim_accepted f g ok

-- so each pair of accepted functions with as many inputs has an acceptable claim; `never_both` is the sentence's other half
pub always_claimed : (f g : List ℕ) → Accepted f g
    → (c : List ℕ)
    × ((κs : Lfts 3) (a : Dens κs check_kinds.ps) (r : (res_t check_kinds.r κs).Denot) (s : AtExit (ended_of 3 check_kinds.ps check_kinds.r) κs)
    → check.Post κs a r s → a.0.now ≡ f → a.1.0.now ≡ g → a.1.1.0.now ≡ c → r.code ≡ 0)
always_claimed f g ok = (claim_for f g, λ κs a r s p same_f same_g same_c. ap (λ (x : Answer). x.code) (checker_accepts κs a r s p f g same_f same_g same_c ok))

-- ---- the matcher

module _ (κs : Lfts 3) (a : Dens κs find_kinds.ps) (r : (res_t find_kinds.r κs).Denot) (s : AtExit (ended_of 3 find_kinds.ps find_kinds.r) κs)
    (p : find.Post κs a r s) where
  abbrev f : List ℕ
  f = a.0.now

  abbrev g : List ℕ
  g = a.1.0.now

  abbrev before : List ℕ
  before = a.1.1.0.now

  abbrev after : List ℕ
  after = s.1.1.0.now

  abbrev claim : List ℕ
  claim = claim_for f g

  abbrev kind : ℕ
  kind = kind_found (first_agreeing f g)

  -- where it refuses, no byte of the buffer changes
  pub find_refuses : (r.code ≡ 0 → ⊥) → after ≡ before
  find_refuses bad = delivered_unchanged _ _ _ _ r p bad

  -- every place returned is at most the length of the longest refusal, so that it fits the host's number
  pub find_place : r.place ≤ 75323621
  find_place = subst (λ (x : Answer). x.place ≤ 75323621) (sym p.returned) (matching_place f g (length before))

  module _ (ok : Accepted f g) where
    -- where both functions are accepted, the claim is returned if the buffer holds it, and else its length
    by_room : r ≡ fits kind (length before) (length claim)
    by_room = p.returned ∙ matching_room f g (length before) (both_good f g ok)

    pub find_fits : length claim ≤ length before → r ≡ accepted kind (length claim)
    find_fits h = by_room ∙ fits_enough kind (length before) (length claim) h

    pub find_short : length before < length claim → r ≡ refused 18 4 (length claim)
    find_short h = by_room ∙ fits_short kind (length before) (length claim) h

    -- a buffer for the longest refusal holds every claim
    pub find_answers : 75323621 ≤ length before → r.code ≡ 0
    find_answers h = ap (λ (x : Answer). x.code) (find_fits (le_trans (claim_most f g (few_inputs f g ok)) h))

    -- where some wiring agrees, a buffer for a match claim is enough
    pub find_agreeing : (v : List ℕ) → is_wiring (inputs g) v ≡ true → agreeing f g v ≡ true → 4 + inputs g ≤ length before → r ≡ accepted 1 (4 + inputs g)
    unfolding kind_found
    find_agreeing v whole agree h = go (first_agreeing f g) refl
      where
        go : (o : Option (List ℕ)) → first_agreeing f g ≡ o → r ≡ accepted 1 (4 + inputs g)
        go (Some u) e = let long = match_length f g claim (claim_match f g u e) in find_fits (omega arith) ∙ ap₂ accepted (ap kind_found e) long
        go None e = absurd (false≢true (sym (none_agree f g e v whole) ∙ agree))

  module _ (e : r.code ≡ 0) where
    read : (both_read f g).code ≡ 0
    read = matching_read f g (length before) (ap (λ (x : Answer). x.code) (sym p.returned) ∙ e)

    by_claim : (matching f g (length before)).code ≡ 0 → matching f g (length before) ≡ fits kind (length before) (length claim)
    by_claim z = matching_room f g (length before) (matching_read f g (length before) z)

    is_accepted : r ≡ accepted kind (length claim)
    is_accepted = delivered_is (matching f g (length before)) kind claim before after r by_claim p e

    claim_stands : Stands claim before after r.place
    claim_stands = delivered_stands (matching f g (length before)) kind claim before after r by_claim p e

    is_kind : kind ≡ r.kind
    is_kind = ap (λ (x : Answer). x.kind) (sym is_accepted)

    -- an accepted answer is a match or says "no match"
    pub find_kind : (r.kind ≡ 1) ⊎ (r.kind ≡ 2)
    find_kind = subst (λ (k : ℕ). (k ≡ 1) ⊎ (k ≡ 2)) is_kind (kind_either (first_agreeing f g))

  module _ (bytes_f : Bytes f) (bytes_g : Bytes g) (e : r.code ≡ 0) where
    functions_read : Accepted f g
    functions_read = both_sound f g bytes_f bytes_g (read e)

    -- of all wirings that agree, it returns the first
    pub find_match : r.kind ≡ 1 → FirstMatch f g before after r.place
    unfolding claim_of
    find_match k =
        let x = kind_match (first_agreeing f g) (is_kind e ∙ k) in
        let y = first_is f g x.0 x.1 in
        record {
          functions = functions_read;
          wiring = x.0;
          stands = subst (λ (c : List ℕ). Stands c before after r.place) (ap (claim_of f g) x.1) (claim_stands e);
          whole = y.0;
          agrees = y.1;
          first = y.2;
        }

    -- it says "no match" only if there is none
    pub find_refusal : r.kind ≡ 2 → NoMatch f g before after r.place
    unfolding claim_of
    find_refusal k =
        let x = kind_refusal (first_agreeing f g) (is_kind e ∙ k) in
        record {
          functions = functions_read;
          stands = subst (λ (c : List ℕ). Stands c before after r.place) (ap (claim_of f g) x) (claim_stands e);
          no_wiring = none_agree f g x;
        }

    -- and the checker accepts what it leaves in the buffer, with the same kind and length
    pub own_accepted : (κs₂ : Lfts 3) (a₂ : Dens κs₂ check_kinds.ps) (r₂ : (res_t check_kinds.r κs₂).Denot) (s₂ : AtExit (ended_of 3 check_kinds.ps check_kinds.r) κs₂)
        → check.Post κs₂ a₂ r₂ s₂ → a₂.0.now ≡ f → a₂.1.0.now ≡ g → a₂.1.1.0.now ≡ take r.place after → r₂ ≡ accepted r.kind r.place
    own_accepted κs₂ a₂ r₂ s₂ p₂ same_f same_g same_c =
        checker_accepts κs₂ a₂ r₂ s₂ p₂ f g same_f same_g (same_c ∙ (claim_stands e).front) functions_read
        ∙ ap (λ (x : Answer). accepted x.kind x.place) (sym (is_accepted e))
