-- Demand 3 for whatever is claimed, over the checker's contract: of any outcome that the contract allows. That the slices hold
-- bytes is said where it is needed.
use Prim.Native.Nat.{ℕ, ◌≤◌}
use mathlib.Core.Path.{◌≡◌, sym, ap, ap₂, ◌∙◌, subst}
use mathlib.Core.Bool.{true, false}
use mathlib.Core.List.{List}
use mathlib.Core.Logic.{◌⊎◌}
use contract.Lifetimes.{Lfts}
use borrow.Fn.Kinds.{Dens, res_t, ended_of}
use denote.Triple.Clauses.{AtExit}
use lib.ListN.{length}
use Rattle.answers.specs.declared.Answer.{Answer}
use Rattle.answers.specs.Answers.{accepted}
use Rattle.records.specs.Records.{inputs, Bytes, Accepted}
use Rattle.wirings.specs.Wirings.{is_wiring, agreeing}
use Rattle.claims.specs.Claims.{match_claim, IsMatch, IsRefusal}
use Rattle.claims.proofs.Refusals.{refusal_none, not_both}
use Rattle.checker.specs.Checking.{checking}
use Rattle.checker.proofs.Exact.{match_accepted, refusal_accepted, accepted_kind, accepted_match, accepted_refusal}
use Rattle.checker.proofs.Places.{checking_place}
use Rattle.checker.proofs.check.Kinds as check_kinds
use Rattle.checker.proofs.check.Reads as check

module _ (κs : Lfts 3) (a : Dens κs check_kinds.ps) (r : (res_t check_kinds.r κs).Denot) (s : AtExit (ended_of 3 check_kinds.ps check_kinds.r) κs)
    (p : check.Post κs a r s) where
  abbrev f : List ℕ
  f = a.0.now

  abbrev g : List ℕ
  g = a.1.0.now

  abbrev c : List ℕ
  c = a.1.1.0.now

  -- for two accepted functions with as many inputs, every agreeing wiring is accepted
  pub agreeing_accepted : Accepted f g → (v : List ℕ) → is_wiring (inputs g) v ≡ true → agreeing f g v ≡ true → c ≡ match_claim (inputs g) v → r ≡ accepted 1 (length c)
  agreeing_accepted ok v whole agree is = p ∙ match_accepted f g c ok (record { wiring = v; whole = whole; agrees = agree; bytes = is })

  -- and so is every refusal tree written by the rules
  pub rules_accepted : Accepted f g → IsRefusal f g c → r ≡ accepted 2 (length c)
  rules_accepted ok t = p ∙ refusal_accepted f g c ok t

  module _ (e : r.code ≡ 0) where
    is_accepted : (checking f g c).code ≡ 0
    is_accepted = ap (λ (x : Answer). x.code) (sym p) ∙ e

    -- what is accepted is a match or a refusal
    pub match_or_refusal : (r.kind ≡ 1) ⊎ (r.kind ≡ 2)
    match_or_refusal = subst (λ (x : Answer). (x.kind ≡ 1) ⊎ (x.kind ≡ 2)) (sym p) (accepted_kind f g c is_accepted)

  module _ (bytes_f : Bytes f) (bytes_g : Bytes g) (e : r.code ≡ 0) where
    -- what is accepted as a match: two accepted functions, and a wiring under which they agree on every pattern that both specify,
    -- output phase included
    pub match_agrees : r.kind ≡ 1 → Accepted f g × IsMatch f g c
    match_agrees k = accepted_match f g c bytes_f bytes_g (is_accepted e) (ap (λ (x : Answer). x.kind) (sym p) ∙ k)

    -- what is accepted as a refusal is written by the rules
    pub refusal_by_rules : r.kind ≡ 2 → Accepted f g × IsRefusal f g c
    refusal_by_rules k = accepted_refusal f g c bytes_f bytes_g (is_accepted e) (ap (λ (x : Answer). x.kind) (sym p) ∙ k)

    -- and then no wiring agrees
    pub refusal_means_none : r.kind ≡ 2 → (v : List ℕ) → is_wiring (inputs g) v ≡ true → agreeing f g v ≡ false
    refusal_means_none k v whole = let x = refusal_by_rules k in refusal_none f g x.0 c x.1 v whole

  -- every place returned is at most the length of the longest refusal, so that it fits the host's number
  pub place_most : r.place ≤ 75323621
  place_most = subst (λ (x : Answer). x.place ≤ 75323621) (sym p) (checking_place f g c)

-- no two functions have accepted claims of both kinds
pub never_both : (κs₁ κs₂ : Lfts 3) (a₁ : Dens κs₁ check_kinds.ps) (a₂ : Dens κs₂ check_kinds.ps) (r₁ : (res_t check_kinds.r κs₁).Denot) (r₂ : (res_t check_kinds.r κs₂).Denot)
    (s₁ : AtExit (ended_of 3 check_kinds.ps check_kinds.r) κs₁) (s₂ : AtExit (ended_of 3 check_kinds.ps check_kinds.r) κs₂)
    → check.Post κs₁ a₁ r₁ s₁ → check.Post κs₂ a₂ r₂ s₂ → a₂.0.now ≡ a₁.0.now → a₂.1.0.now ≡ a₁.1.0.now → Bytes a₁.0.now → Bytes a₁.1.0.now
    → r₁.code ≡ 0 → r₁.kind ≡ 1 → r₂.code ≡ 0 → r₂.kind ≡ 2 → ⊥
never_both κs₁ κs₂ a₁ a₂ r₁ r₂ s₁ s₂ p₁ p₂ same_f same_g bytes_f bytes_g e₁ k₁ e₂ k₂ =
    let m = match_agrees κs₁ a₁ r₁ s₁ p₁ bytes_f bytes_g e₁ k₁ in
    let c = a₂.1.1.0.now in
    let q : r₂ ≡ checking a₁.0.now a₁.1.0.now c = p₂ ∙ ap₂ (λ (f g : List ℕ). checking f g c) same_f same_g in
    let t = accepted_refusal _ _ c bytes_f bytes_g (ap (λ (x : Answer). x.code) (sym q) ∙ e₂) (ap (λ (x : Answer). x.kind) (sym q) ∙ k₂) in
    not_both _ _ m.0 _ c m.1 t.1
