-- What is kept of a term line: what it is of, test by test, and the masks character by character.
use Rattle.std.proofs.Common.{◌≡◌, ℕ, List, ◌+◌, ◌*◌, ◌≤◌, ◌<◌, ◌^◌, Bool, true, false, cond, ◌&&◌, length, get_or, drop, refl, sym, ap, ◌∙◌, arith, add-one}
use mathlib.Core.Bool.{and-false}
use borrow.Author.Tests.{eq-eqb, lt-leb}
use lib.Pow.{pow_mono}
use native.Mathlib.Nat.{pow-suc}
use lib.Dec.{eqb, leb}
use lib.ListN.{drop_of_length-le}
use Rattle.std.specs.declared.option.Option.{Option}
use Rattle.std.specs.declared.option.Option.TheVariants.{None, Some}
use Rattle.bits.specs.Bits.{number, mask}
use Rattle.bits.proofs.Mask.{mask_lt}
use Rattle.rules.specs.Lists.{each_in}
use Rattle.words.proofs.Scans.{from_here}
use Rattle.terms.specs.declared.Term.{Term}
use Rattle.terms.specs.Terms.{is_input, is_output, on_char, off_char, well_formed}
use Rattle.terms.specs.Seen.{masked, term_seen, after}

-- the next weight is twice this one
pub next_weight : (i x : ℕ) → x ≡ 2 ^ i → x * 2 ≡ 2 ^ (i + 1)
next_weight i x e = ap (λ (y : ℕ). y * 2) e ∙ sym (ap (λ (k : ℕ). 2 ^ k) (add-one i) ∙ pow-suc 2 i)

-- and the weight of input i is 256 at most, for eight inputs
pub weight_most : (i x : ℕ) → x ≡ 2 ^ i → i ≤ 8 → x ≤ 256
weight_most i x weighs few = omega (arith, weighs, pow_mono {i = i} {j = 8} few)

module _ (w : List ℕ) where
  -- the mask of the first i inputs with a character, and whether those from i on are all inputs
  unfoldable pub so_far : ℕ → ℕ → ℕ
  so_far c i = mask i (λ k. eqb (get_or w k 0) c)

  unfoldable pub inputs_from : ℕ → Bool
  inputs_from i = each_in is_input (drop i w)

  pub masked_by : (out : ℕ) → masked w out
      ≡ cond (inputs_from 0)
      (Some (record {
        n = length w;
        cube = record { pos = so_far on_char (length w); neg = so_far off_char (length w) };
        out = out;
      })) None
  unfolding masked so_far inputs_from
  masked_by out = refl

  pub none_so_far : (c : ℕ) → so_far c 0 ≡ 0
  unfolding so_far number
  none_so_far c = refl

  -- it is below the weight of input i; so with one such weight more it is below 512
  pub below_weight : (c i p x : ℕ) → p ≡ so_far c i → x ≡ 2 ^ i → p < x
  unfolding so_far
  below_weight c i p x e weighs = omega (arith, e, weighs, mask_lt i (λ k. eqb (get_or w k 0) c))

  pub sum_most : (c i p x v : ℕ) → p ≡ so_far c i → x ≡ 2 ^ i → i ≤ 8 → v ≤ x → p + v < 512
  sum_most c i p x v e weighs few l = omega (arith, below_weight c i p x e weighs, weight_most i x weighs few, l)

  -- one more input adds its weight, or none
  pub one_more : (c i p x v : ℕ) → p ≡ so_far c i → x ≡ 2 ^ i → v ≡ cond (eqb (get_or w i 0) c) x 0 → p + v ≡ so_far c (i + 1)
  unfolding so_far number
  one_more c i p x v e weighs worth = go (eqb (get_or w i 0) c) worth ∙ ap (so_far c) (sym (add-one i))
    where
      go : (t : Bool) → v ≡ cond t x 0 → p + v ≡ cond t 1 0 * 2 ^ i + so_far c i
      go true k = omega (arith, k, e, weighs)
      go false k = omega (arith, k, e)

  pub next_decides : (i : ℕ) → i < length w → inputs_from i ≡ is_input (get_or w i 0) && inputs_from (i + 1)
  unfolding inputs_from each_in
  next_decides i h = ap (each_in is_input) (from_here w i h)

  pub goes_on : (i : ℕ) → i < length w → (t : Bool) → t ≡ is_input (get_or w i 0) → t ≡ true → inputs_from i ≡ inputs_from (i + 1)
  goes_on i h t e k = next_decides i h ∙ ap (λ (b : Bool). b && inputs_from (i + 1)) (sym e ∙ k)

  pub end_decides : (i : ℕ) → length w ≤ i → inputs_from i ≡ true
  unfolding inputs_from each_in
  end_decides i h = ap (each_in is_input) (drop_of_length-le w h)

pub ruleset masking = (masked_by, none_so_far, below_weight, weight_most, next_decides, end_decides)

-- nothing is seen in more than eight characters
pub term_long : (w : List ℕ) (ws : List (List ℕ)) → 8 < length w → term_seen w ws ≡ None
unfolding term_seen
term_long w ws h = simp (lt-leb _ _ h)

-- a term is seen in eight characters at most with an output alone behind them, if they are inputs
pub term_by : (w out : List ℕ) (b : Bool)
    → term_seen w (after b out)
    ≡ cond (b && leb (length w) 8 && (eqb (length out) 1 && is_output (get_or out 0 0))) (masked w (get_or out 0 0)) None
unfolding term_seen well_formed masked
term_by w out false = simp (and-false)
term_by w out true =
    simp (eq-eqb (length w) (length w) refl)
    (go _ (leb (length w) 8) (each_in is_input w) (eqb (length out) 1 && is_output (get_or out 0 0)))
  where
    go : (x : Option Term) (a b c : Bool) → cond (a && (b && c)) x None ≡ cond (a && c) (cond b x None) None
    go x true true c = refl
    go x true false true = refl
    go x true false false = refl
    go x false b c = refl
