-- Every place that the checker returns is at most 75,323,621. The idea: whatever is found, each part of the reading ends within what it
-- may take, so a fault lies no further on than the longest claim does; and what is accepted is no longer.
use Prim.Native.Nat.{ℕ, ◌+◌, ◌≤◌, zero-le}
use mathlib.Core.Path.{◌≡◌}
use mathlib.Core.List.{List, [], ◌∷◌}
use mathlib.Core.Logic.{⊎_elim}
use native.Mathlib.Nat.{le_refl, le_trans, sub-zero}
use native.Mathlib.Omega.{arith}
use lib.Dec.{ltb, eqb}
use lib.ListN.{length, get_or, drop, length-drop}
use Rattle.bits.proofs.Tests.{cond_cases}
use Rattle.answers.specs.declared.Answer.{Answer}
use Rattle.answers.specs.declared.Fault.{Fault}
use Rattle.answers.specs.Answers.{by, ◌or_else◌, length_fault}
use Rattle.answers.proofs.Faults.{then_cases, present_cases, chosen_elim, then_elim, then_both, length_sound, byte_place, length_place}
use Rattle.rules.specs.Rules.{◌adding◌}
use Rattle.rules.proofs.Cut.{reached_start}
use Rattle.records.specs.Records.{inputs, record_fault, both_read}
use Rattle.records.proofs.Frame.{record_sound, both_fine}
use Rattle.records.proofs.Places.{both_place}
use Rattle.wirings.specs.Wirings.{straight, agrees}
use Rattle.claims.specs.Trees.{longest_tree}
use Rattle.claims.specs.Claims.{longest_refusal}
use Rattle.claims.specs.Reading.{◌onward◌}
use Rattle.claims.proofs.Reading.{onward_place, tree_place}
use Rattle.claims.proofs.Trees.{longest_grows}
use Rattle.claims.proofs.Refusals.{two_each, match_length, refusal_length, longest_most}
use Rattle.checker.specs.Checking.{header_fault, choice_code, choices_fault, agreement_fault, match_fault, index_fault, closing_fault, tree_fault, refusal_fault, claim_fault, checking}
use Rattle.checker.proofs.Closings.{named_dead}
use Rattle.checker.proofs.Exact.{claim_sound}

-- by m at the latest
abbrev By : ℕ → Fault → Type 0
By m f = f.place ≤ m

-- ---- the parts of a claim

header_place : (c : List ℕ) (mark n : ℕ) → By 2 (header_fault c mark n)
unfolding header_fault
header_place c mark n = then_cases (By 2) _ _ (le_trans (byte_place c 1 mark mark 2) (omega arith)) (byte_place c 2 n n 10)

choices_place : (n : ℕ) (w rest : List ℕ) (at : ℕ) → By (at + length rest) (choices_fault n w rest at)
unfolding choices_fault
choices_place n w [] at = zero-le
choices_place n w (b ∷ rest) at =
    cond_cases (By (at + length (b ∷ rest))) (eqb (choice_code n w b) 0) _ _ (omega (arith, choices_place n (w adding b) rest (at + 1))) (omega arith)

index_place : (c : List ℕ) (k number : ℕ) → By k (index_fault c k number)
unfolding index_fault
index_place c k number = present_cases (By k) c k _ (λ h. h) (cond_cases (By k) (ltb (get_or c k 0) number) _ _ zero-le (le_refl k))

-- a closing, read or refused, ends within its three bytes
pub closing_near : (n q : ℕ) (f g c w : List ℕ) (at : ℕ) → (closing_fault n q f g c w at).place ≤ at + 3
unfolding closing_fault
closing_near n q f g c w at =
    let near = By (at + 3) in
    then_cases near _ _
    (then_cases near _ _
    (then_cases near _ _
    (then_cases near _ _ (le_trans (byte_place c at 0 1 15) (omega arith)) (le_trans (index_place c (at + 1) _) (omega arith)))
    (le_trans (index_place c (at + 2) _) (omega arith)))
    (cond_cases near (named_dead n q f g c w at) _ _ zero-le (omega arith)))
    (le_refl (at + 3))

-- ---- a claim, for a sound g

module _ (f g c : List ℕ) (fine : (record_fault g).code ≡ 0) where
  abbrev n : ℕ
  n = inputs g

  few : n ≤ 8
  few = (record_sound g fine).framed.header.n_byte.most

  -- no match claim is longer than the longest refusal
  match_short : 4 + n ≤ longest_refusal n
  unfolding longest_tree
  match_short = omega (arith, few, longest_grows 1 n (record_sound g fine).framed.header.n_byte.least)

  abbrev Within : Fault → Type 0
  Within = By (longest_refusal n)

  match_place : Within (match_fault f g c)
  unfolding match_fault agreement_fault
  match_place =
      then_cases Within _ _
      (then_elim Within _ _
      (λ _.
      then_cases Within _ _ (then_cases Within _ _ (omega (arith, header_place c 0x54 n, match_short)) (le_trans (length_place (length c) (4 + n)) match_short))
      (omega (arith, byte_place c 3 0 1 11, match_short)))
      (λ z.
      let long = length_sound (length c) (4 + n) (then_both _ _ (then_both _ _ z).0).1 in
      omega (arith, choices_place n [] (drop 4 c) 4, length-drop 4 c, match_short)))
      (cond_cases Within (agrees (get_or c 3 0) f g (drop 4 c)) _ _ zero-le zero-le)

  tree_near : (q at : ℕ) → By (at + longest_tree n) (tree_fault n q f g c [] at)
  unfolding tree_fault
  tree_near q at = rw sub-zero (tree_place (straight n) (closing_fault n q f g c) c n (two_each n (omega (arith, few))) (closing_near n q f g c) n [] (reached_start (straight n) n) at)

  refusal_place : Within (refusal_fault f g c)
  unfolding refusal_fault ◌onward◌
  refusal_place =
      let long = longest_tree n in
      let tree₀ = tree_fault n 0 f g c [] 3 in
      let tree₁ = tree_fault n 1 f g c [] in
      let trees = onward_place tree₀ tree₁ (3 + long) long (tree_near 0 3) (tree_near 1 tree₀.place) in
      then_cases Within _ _ (omega (arith, header_place c 0x46 n))
      (omega (arith, onward_place (tree₀ onward tree₁) (length_fault (length c)) (3 + long + long) 0 trees (omega (arith, length_place (length c) (tree₀ onward tree₁).place))))

  pub claim_place : (claim_fault f g c).place ≤ longest_refusal n
  unfolding claim_fault
  claim_place =
      present_cases Within c 0 _ (λ h. omega arith)
      (cond_cases Within (eqb (get_or c 0 0) 0x4D) _ _ match_place (cond_cases Within (eqb (get_or c 0 0) 0x52) _ _ refusal_place zero-le))

  -- without fault, it is no longer
  claim_length : (claim_fault f g c).code ≡ 0 → length c ≤ longest_refusal n
  claim_length e = ⊎_elim (λ m. omega (arith, match_length f g c m.1, match_short)) (λ r. refusal_length f g c few r.1) (claim_sound f g c e)

-- ---- the whole answer

pub checking_place : (f g c : List ℕ) → (checking f g c).place ≤ 75323621
unfolding checking ◌or_else◌ by
checking_place f g c =
    chosen_elim Near (both_read f g).code _ _ (λ _. le_trans (both_place f g) (omega arith))
    (λ z.
    let fine = (both_fine f g z).1 in
    let most = longest_most (inputs g) (few f g c fine) in
    chosen_elim Near (claim_fault f g c).code _ _ (λ _. le_trans (claim_place f g c fine) most) (λ e. le_trans (claim_length f g c fine e) most))
  where
    Near : Answer → Type 0
    Near a = a.place ≤ 75323621
