-- What code 14 names, and that no other code of a claim names a pattern. The idea: of all the faults that reading a claim can give,
-- the last of a match claim alone has a pattern; so what holds of a fault without one, and of that last, holds of the claim's.
use Prim.Native.Nat.{ℕ, zero, suc, ◌+◌, ◌^◌}
use mathlib.Core.Path.{◌≡◌, refl}
use mathlib.Core.Bool.{Bool, true, false, cond}
use mathlib.Core.List.{List, [], ◌∷◌}
use borrow.Author.Tests.{eqb-false, not-false}
use lib.Dec.{ltb, eqb}
use lib.ListN.{length, get_or, drop}
use Rattle.bits.specs.Bits.{IsSmallest, or_zero}
use Rattle.bits.proofs.Tests.{cond_cases}
use Rattle.bits.proofs.Smallest.{smallest_some}
use Rattle.answers.specs.declared.Answer.{Answer}
use Rattle.answers.specs.declared.Fault.{Fault}
use Rattle.answers.specs.Answers.{fault, fault_at, sound, is_sound, byte_fault, by, ◌or_else◌}
use Rattle.answers.proofs.Faults.{Plain, plain, Kept, KeptBy, by_kept, or_else_kept, then_cases, present_cases, none_plain, short_plain, byte_plain, length_plain}
use Rattle.rules.specs.Rules.{Rule, ◌adding◌, next}
use Rattle.records.specs.Records.{inputs, both_read}
use Rattle.records.proofs.Patterns.{EitherNamed, both_named, both_not_fourteen, both_kept}
use Rattle.wirings.specs.Wirings.{is_choice, free_choice, straight, read_at, disagree_at, agrees, disagreement}
use Rattle.claims.specs.Reading.{◌onward◌, in_turn, read_tree}
use Rattle.checker.specs.Checking.{header_fault, choice_code, choices_fault, agreement_fault, match_fault, index_fault, closing_fault, tree_fault, refusal_fault, claim_fault, checking}
use Rattle.checker.proofs.Closings.{named_dead}

module _ (Q : Fault → Type 0) (else_plain : (code place : ℕ) → Plain code → Q (fault code place)) where
  abbrev good : (place : ℕ) → Q (fault 0 place)
  good = none_plain Q else_plain

  abbrev short : (place : ℕ) → Q (fault 1 place)
  short = short_plain Q else_plain

  abbrev byte : (s : List ℕ) (k low high code : ℕ) → Plain code → Q (byte_fault s k low high code)
  byte = byte_plain Q else_plain

  -- ---- a tree, over any rule and any reading of a closing

  onward_plain : (f : Fault) (next : ℕ → Fault) → Q f → ((at : ℕ) → Q (next at)) → Q (f onward next)
  unfolding ◌onward◌
  onward_plain f next this later = cond_cases Q (is_sound f) (next f.place) f (later f.place) this

  turns_plain : (read : ℕ → ℕ → Fault) → ((b at : ℕ) → Q (read b at)) → (l : List ℕ) (at : ℕ) → Q (in_turn read l at)
  unfolding in_turn
  turns_plain read each [] at = good at
  turns_plain read each (b ∷ l) at = onward_plain (read b at) (in_turn read l) (each b at) (turns_plain read each l)

  tree_plain : (R : Rule) (read_closing : List ℕ → ℕ → Fault) (c : List ℕ) → ((w : List ℕ) (at : ℕ) → Q (read_closing w at)) → (k : ℕ) (w : List ℕ) (at : ℕ) → Q (read_tree R read_closing c k w at)
  unfolding read_tree
  tree_plain R read_closing c closing zero w at =
      present_cases Q c at _ (λ _. short _) (cond_cases Q (eqb (get_or c at 0) 0xFF) _ _ (else_plain 16 at (plain 16 refl refl)) (closing w at))
  tree_plain R read_closing c closing (suc k) w at =
      present_cases Q c at _ (λ _. short _)
      (cond_cases Q (eqb (get_or c at 0) 0xFF) _ _
      (turns_plain (λ b. read_tree R read_closing c k (w adding b)) (λ b. tree_plain R read_closing c closing k (w adding b)) (next R w) (at + 1)) (closing w at))

  -- ---- the parts of a claim

  header_plain : (c : List ℕ) (mark n : ℕ) → Q (header_fault c mark n)
  unfolding header_fault
  header_plain c mark n = then_cases Q _ _ (byte c 1 mark mark 2 (plain 2 refl refl)) (byte c 2 n n 10 (plain 10 refl refl))

  choices_plain : (n : ℕ) (w rest : List ℕ) (at : ℕ) → Q (choices_fault n w rest at)
  unfolding choices_fault choice_code
  choices_plain n w [] at = good 0
  choices_plain n w (b ∷ rest) at =
      cond_cases Q (eqb (choice_code n w b) 0) _ _ (choices_plain n (w adding b) rest (at + 1))
      (else_plain _ at (cond_cases Plain (is_choice n b) _ _ (cond_cases Plain (free_choice w b) 0 13 (plain 0 refl refl) (plain 13 refl refl)) (plain 12 refl refl)))

  index_plain : (c : List ℕ) (k number : ℕ) → Q (index_fault c k number)
  unfolding index_fault
  index_plain c k number = present_cases Q c k _ (λ _. short _) (cond_cases Q (ltb (get_or c k 0) number) _ _ (good 0) (else_plain 15 k (plain 15 refl refl)))

  closing_plain : (n q : ℕ) (f g c w : List ℕ) (at : ℕ) → Q (closing_fault n q f g c w at)
  unfolding closing_fault
  closing_plain n q f g c w at =
      then_cases Q _ _
      (then_cases Q _ _
      (then_cases Q _ _ (then_cases Q _ _ (byte c at 0 1 15 (plain 15 refl refl)) (index_plain c (at + 1) _)) (index_plain c (at + 2) _))
      (cond_cases Q (named_dead n q f g c w at) _ _ (good 0) (else_plain 17 at (plain 17 refl refl))))
      (good (at + 3))

  refusal_plain : (f g c : List ℕ) → Q (refusal_fault f g c)
  unfolding refusal_fault tree_fault
  refusal_plain f g c =
      then_cases Q _ _ (header_plain c 0x46 (inputs g))
      (onward_plain _ _ (onward_plain _ _ (onward_plain _ _ (good 3) (tree 0)) (tree 1)) (length_plain Q else_plain (length c)))
    where
      tree : (q at : ℕ) → Q (tree_fault (inputs g) q f g c [] at)
      tree q at = tree_plain (straight (inputs g)) (closing_fault (inputs g) q f g c) c (closing_plain (inputs g) q f g c) _ [] at

  claim_plain : (f g c : List ℕ) → Q (agreement_fault (get_or c 3 0) f g (drop 4 c)) → Q (claim_fault f g c)
  unfolding claim_fault match_fault
  claim_plain f g c agreement =
      present_cases Q c 0 _ (λ _. short _)
      (cond_cases Q (eqb (get_or c 0 0) 0x4D) _ _
      (then_cases Q _ _
      (then_cases Q _ _
      (then_cases Q _ _ (then_cases Q _ _ (header_plain c 0x54 (inputs g)) (length_plain Q else_plain (length c) (4 + inputs g))) (byte c 3 0 1 11 (plain 11 refl refl)))
      (choices_plain (inputs g) [] (drop 4 c) 4))
      agreement)
      (cond_cases Q (eqb (get_or c 0 0) 0x52) _ _ (refusal_plain f g c) (else_plain 2 0 (plain 2 refl refl))))

-- ---- code 14

-- f and g disagree at the pattern y of g, through the wiring of a match claim and under its phase
abbrev pub disagree_by : List ℕ → List ℕ → List ℕ → ℕ → Bool
disagree_by f g c y = disagree_at (get_or c 3 0) f g (read_at (drop 4 c) y) y

-- the pattern that it names is the smallest of g at which they do
abbrev pub Disagreement : List ℕ → List ℕ → List ℕ → ℕ → Type 0
Disagreement f g c pattern = IsSmallest (2 ^ inputs g) (disagree_by f g c) pattern

claim_named : (f g c : List ℕ) → (claim_fault f g c).code ≡ 14 → Disagreement f g c (claim_fault f g c).pattern
unfolding agreement_fault agrees disagreement
claim_named f g c =
    claim_plain (λ (x : Fault). x.code ≡ 14 → Disagreement f g c x.pattern) (λ code place p e. absurd (p.1 e)) f g c (go (agrees (get_or c 3 0) f g (drop 4 c)) refl)
  where
    fourteen : Fault
    fourteen = fault_at 14 0 (or_zero (disagreement (get_or c 3 0) f g (drop 4 c)))

    go : (t : Bool) → agrees (get_or c 3 0) f g (drop 4 c) ≡ t → (cond t sound fourteen).code ≡ 14 → Disagreement f g c (cond t sound fourteen).pattern
    go true e h = absurd (eqb-false 0 14 refl h)
    go false e h = smallest_some (disagree_by f g c) (2 ^ inputs g) (not-false _ e)

claim_kept : (f g c : List ℕ) → Kept (claim_fault f g c).code (claim_fault f g c).pattern
unfolding agreement_fault
claim_kept f g c =
    claim_plain (λ (x : Fault). Kept x.code x.pattern) (λ code place _ _. refl) f g c
    (cond_cases (λ (x : Fault). Kept x.code x.pattern) (agrees (get_or c 3 0) f g (drop 4 c)) _ _ (λ _. refl) (λ p. absurd (p.1 refl)))

-- ---- the whole answer

claim_not_seven : (f g c : List ℕ) → (claim_fault f g c).code ≡ 7 → ⊥
unfolding agreement_fault
claim_not_seven f g c =
    claim_plain (λ (x : Fault). x.code ≡ 7 → ⊥) (λ code place p. p.0) f g c
    (cond_cases (λ (x : Fault). x.code ≡ 7 → ⊥) (agrees (get_or c 3 0) f g (drop 4 c)) _ _ (eqb-false 0 7 refl) (eqb-false 14 7 refl))

pub checking_clash : (f g c : List ℕ) → (checking f g c).code ≡ 7 → EitherNamed f g (checking f g c)
unfolding checking ◌or_else◌ by
checking_clash f g c =
    cond_cases Named (eqb (both_read f g).code 0) _ _
    (cond_cases Named (eqb (claim_fault f g c).code 0) _ _ (λ e. absurd (eqb-false 0 7 refl e)) (λ e. absurd (claim_not_seven f g c e)))
    (both_named f g)
  where
    Named : Answer → Type 0
    Named a = a.code ≡ 7 → EitherNamed f g a

pub checking_disagreement : (f g c : List ℕ) → (checking f g c).code ≡ 14 → ((checking f g c).«record» ≡ 3) × Disagreement f g c (checking f g c).pattern
unfolding checking ◌or_else◌ by
checking_disagreement f g c =
    cond_cases Named (eqb (both_read f g).code 0) _ _
    (cond_cases Named (eqb (claim_fault f g c).code 0) _ _ (λ e. absurd (eqb-false 0 14 refl e)) (λ e. (refl, claim_named f g c e)))
    (λ e. absurd (both_not_fourteen f g e))
  where
    Named : Answer → Type 0
    Named a = a.code ≡ 14 → (a.«record» ≡ 3) × Disagreement f g c a.pattern

pub checking_kept : (f g c : List ℕ) → KeptBy (checking f g c)
unfolding checking
checking_kept f g c = or_else_kept (both_read f g) _ (both_kept f g) (by_kept 3 (claim_fault f g c) _ (claim_kept f g c) (λ _. refl))
