-- What the matcher's claim says. The idea: the wiring that is claimed is the first of the list that agrees; and where none agrees, the
-- matcher's own two trees are right, so that the claim is a refusal by the rules. Either is no longer than the longest refusal.
use Prim.Native.Nat.{ℕ, ◌+◌, ◌≤◌, ◌<◌}
use mathlib.Core.Path.{◌≡◌, refl, ap}
use mathlib.Core.Bool.{true, false}
use mathlib.Core.List.{List, [], ◌∷◌}
use Rattle.std.specs.declared.option.Option.{Option}
use Rattle.std.specs.declared.option.Option.TheVariants.{None, Some}
use mathlib.Core.Logic.{◌⊎◌, inl, inr}
use native.Mathlib.Nat.{le_trans}
use native.Mathlib.Omega.{arith}
use lib.Dec.{ltb}
use lib.ListN.{length, length-append}
use Rattle.bits.proofs.Tests.{cond_cases}
use Rattle.rules.specs.Rules.{completions, follows}
use Rattle.rules.proofs.Lists.{In, none_first, first_found, AfterNone, first_after}
use Rattle.rules.proofs.Cut.{start_reached}
use Rattle.answers.specs.declared.Answer.{Answer}
use Rattle.answers.specs.Answers.{fits, ◌or_else◌}
use Rattle.answers.proofs.Faults.{chosen_elim, or_else_both, or_else_next}
use Rattle.records.specs.Records.{inputs, both_read, Accepted}
use Rattle.records.proofs.Frame.{record_sound, both_fine}
use Rattle.records.proofs.Places.{both_place}
use Rattle.wirings.specs.Wirings.{straight, is_wiring, wirings, agrees, agreeing}
use Rattle.wirings.proofs.Wirings.{parts_wiring, wiring_in, in_wiring}
use Rattle.claims.specs.Claims.{IsMatch, IsRefusal, own_tree}
use Rattle.claims.proofs.Refusals.{match_length}
use Rattle.claims.proofs.Own.{own_right_for}
use Rattle.matcher.specs.Matching.{first_agreeing, own_refusal, claim_of, kind_found, claim_for, matching}
use Rattle.matcher.proofs.Nodes.{node_bytes, node_most}

module _ (f g : List ℕ) where
  -- ---- the first agreeing wiring

  -- what is found is a wiring that agrees, and no earlier one does
  pub first_is : (v : List ℕ) → first_agreeing f g ≡ Some v → (is_wiring (inputs g) v ≡ true) × (agreeing f g v ≡ true) × AfterNone (agreeing f g) v (wirings (inputs g))
  unfolding first_agreeing
  first_is v e =
      let x = first_found (agreeing f g) v (wirings (inputs g)) e in
      (in_wiring (inputs g) v x.0, x.1, first_after (agreeing f g) v (wirings (inputs g)) e)

  module _ (e : first_agreeing f g ≡ None) where
    -- where nothing is found, no wiring agrees
    pub none_agree : (v : List ℕ) → is_wiring (inputs g) v ≡ true → agreeing f g v ≡ false
    unfolding first_agreeing
    none_agree v h = none_first (agreeing f g) v (wirings (inputs g)) e (wiring_in (inputs g) v h)

    -- whatever its phase
    none_in : (q : ℕ) → q < 2 → (w : List ℕ) → In w (completions (straight (inputs g)) (inputs g) []) → agrees q f g w ≡ false
    none_in q h w i =
        let r = start_reached (straight (inputs g)) (inputs g) w i in
        none_agree (q ∷ w) (parts_wiring (inputs g) q w h (omega (arith, r.total)) r.allowed)

  -- ---- the claim

  -- a match where a wiring was found, and a refusal by the rules where none was
  pub claim_match : (v : List ℕ) → first_agreeing f g ≡ Some v → IsMatch f g (claim_for f g)
  unfolding claim_of
  claim_match v e = let x = first_is v e in record { wiring = v; whole = x.0; agrees = x.1; bytes = ap (claim_of f g) e }

  pub claim_refusal : Accepted f g → first_agreeing f g ≡ None → IsRefusal f g (claim_for f g)
  unfolding claim_of
  claim_refusal ok e = record {
    tree₀ = own_tree (inputs g) 0 f g [];
    tree₁ = own_tree (inputs g) 1 f g [];
    right₀ = own_right_for 0 f g ok (none_in e 0 (omega arith));
    right₁ = own_right_for 1 f g ok (none_in e 1 (omega arith));
    bytes = ap (claim_of f g) e;
  }

  -- the refusal is three bytes and the bytes of two trees
  pub refusal_parts : length (own_refusal f g) ≡ 3 + length (node_bytes (inputs g) 0 f g []) + length (node_bytes (inputs g) 1 f g [])
  refusal_parts = omega (arith, length-append (node_bytes (inputs g) 0 f g []) (node_bytes (inputs g) 1 f g []))

  -- no claim is longer than the longest refusal, whatever the functions
  pub claim_most : inputs g ≤ 8 → length (claim_for f g) ≤ 75323621
  unfolding claim_of follows
  claim_most few = go (first_agreeing f g) refl
    where
      go : (o : Option (List ℕ)) → first_agreeing f g ≡ o → length (claim_of f g o) ≤ 75323621
      go (Some v) e = omega (arith, match_length f g (claim_for f g) (claim_match v e), ap (λ (o : Option (List ℕ)). length (claim_of f g o)) e)
      go None e = omega (arith, refusal_parts, node_most (inputs g) 0 f g [] few refl, node_most (inputs g) 1 f g [] few refl)

-- ---- the whole answer

-- a match is of kind 1, a refusal of kind 2
pub kind_match : (o : Option (List ℕ)) → kind_found o ≡ 1 → (v : List ℕ) × (o ≡ Some v)
unfolding kind_found
kind_match (Some v) e = (v, refl)
kind_match None e = absurd (omega (arith, e))

pub kind_refusal : (o : Option (List ℕ)) → kind_found o ≡ 2 → o ≡ None
unfolding kind_found
kind_refusal (Some v) e = absurd (omega (arith, e))
kind_refusal None e = refl

pub kind_either : (o : Option (List ℕ)) → (kind_found o ≡ 1) ⊎ (kind_found o ≡ 2)
unfolding kind_found
kind_either (Some v) = inl refl
kind_either None = inr refl

module _ (f g : List ℕ) (room : ℕ) where
  -- where both functions are read, room is all that is asked for
  pub matching_room : (both_read f g).code ≡ 0 → matching f g room ≡ fits (kind_found (first_agreeing f g)) room (length (claim_for f g))
  unfolding matching
  matching_room = or_else_next _ _

  -- and what is accepted was read
  pub matching_read : (matching f g room).code ≡ 0 → (both_read f g).code ≡ 0
  unfolding matching
  matching_read e = (or_else_both _ _ e).0

  -- every place is at most the length of the longest refusal, so that it fits the host's number
  pub matching_place : (matching f g room).place ≤ 75323621
  unfolding matching ◌or_else◌ fits
  matching_place =
      chosen_elim Near (both_read f g).code _ _ (λ _. le_trans (both_place f g) (omega arith))
      (λ z.
      let most = claim_most f g (record_sound g (both_fine f g z).1).framed.header.n_byte.most in
      cond_cases Near (ltb room (length (claim_for f g))) _ _ most most)
    where
      Near : Answer → Type 0
      Near a = a.place ≤ 75323621
