-- One choice less. The idea: what a choice more changes in each mask, taken back, leaves the mask as it was, since the choice's own
-- bits were not what they became.
use Prim.Native.Nat.{ℕ, suc, ◌+◌, ◌-◌, ◌*◌, ◌/◌, ◌%◌, ◌≤◌, ◌<◌, ◌^◌}
use mathlib.Core.Path.{◌≡◌, refl, sym, ap, ap₂, ◌∙◌, subst}
use mathlib.Core.Bool.{Bool, true, false, not, ◌&&◌, ◌||◌}
use mathlib.Core.List.{List, [], ◌∷◌}
use native.Mathlib.Nat.{le_refl, mod-eq_of_lt}
use native.Mathlib.Omega.{arith}
use borrow.Author.Tests.{not-true, le-leb, le-ltb, eqb-true}
use lib.Bits.{bit_and, bit_or, and_mask}
use lib.Dec.{eqb, leb, ltb}
use lib.ListN.{length, get_or, take, length-append, length-take}
use lib.Seq.{take_all, take-suc}
use Rattle.bits.specs.Bits.{mask}
use Rattle.bits.proofs.Tests.{both_left, both_right}
use Rattle.bits.proofs.Bit.{one_shifted}
use Rattle.bits.proofs.Mask.{mask_same, mask_add, mask_drop}
use Rattle.rules.specs.Lists.{some_in}
use Rattle.rules.specs.Rules.{follows, ◌adding◌}
use Rattle.rules.proofs.Completions.{follows_append}
use Rattle.wirings.specs.Wirings.{input_of, inverted, straight, choices_from, is_choice, uses, free_choice}
use Rattle.wirings.specs.Pairs.{unplaced, unused}
use Rattle.wirings.proofs.Choices.{listed, choice_input, placed_choice}
use Rattle.partial.specs.declared.Masks.{Masks}
use Rattle.partial.specs.Partial.{as_number, inverts, serves, partial, prefix, StandsFor, Formed}
use Rattle.partial.proofs.Joined.{number_add}
use Rattle.partial.proofs.Standing.{depth_few, choice_shifted, placed_within, placed_fits, stands_n, stands_depth, stands_unplaced, stands_free, stands_inverted, stands_bits, stands_choices, past, but, tested, in_byte}

-- a bit that was 1 is set again, and one that was 0 is cleared again
set_again : (t e : Bool) → (e ≡ true → t ≡ true) → t && not e || e && true ≡ t
set_again true true was = refl
set_again true false was = refl
set_again false true was = sym (was refl)
set_again false false was = refl

cleared_again : (t e x : Bool) → (e ≡ true → t ≡ false) → (t || e && x) && not e ≡ t
cleared_again true true x was = sym (was refl)
cleared_again true false x was = refl
cleared_again false true true was = refl
cleared_again false true false was = refl
cleared_again false false x was = refl

module _ (r : Masks) (n : ℕ) (u : List ℕ) (b : ℕ) (s : StandsFor r n (u adding b)) where
  abbrev d : ℕ
  d = length u

  abbrev more : List ℕ
  more = u adding b

  one_more : length more ≡ d + 1
  one_more = length-append u (b ∷ [])

  depth_less : r.depth - 1 ≡ d
  depth_less = omega (arith, stands_depth r n more s, one_more)

  pub room : d < n
  room = omega (arith, placed_within n s.few more s.allowed, one_more)

  -- the choices before the last are allowed, and it uses an input of g that they leave free
  allowed_both : follows (straight n) [] u && follows (straight n) u (b ∷ []) ≡ true
  allowed_both = sym (follows_append (straight n) [] u (b ∷ [])) ∙ s.allowed

  may_last : some_in (eqb b) (choices_from 0 n) && free_choice u b ≡ true
  unfolding follows
  may_last = both_left (some_in (eqb b) (choices_from 0 n) && free_choice u b) true (both_right (follows (straight n) [] u) (follows (straight n) u (b ∷ [])) allowed_both)

  new : uses u (input_of b) ≡ false
  new = not-true (uses u (input_of b)) (both_right (some_in (eqb b) (choices_from 0 n)) (free_choice u b) may_last)

  input_below : input_of b < n
  input_below = choice_input n (omega (arith, s.few)) b (sym (listed n b) ∙ both_left (some_in (eqb b) (choices_from 0 n)) (free_choice u b) may_last)

  pub input_room : bit_and b 15 < 8
  input_room = omega (arith, and_mask b 4, input_below, s.few)

  -- the choice at its place in the packed number
  grown : r.choices ≡ as_number u + b * 2 ^ (8 * (r.depth - 1))
  grown = stands_choices r n more s ∙ number_add u b ∙ ap (λ (k : ℕ). as_number u + b * 2 ^ (8 * k)) (sym depth_less)

  shift_exact : (b * 2 ^ (8 * (r.depth - 1))) % 2 ^ 64 ≡ b * 2 ^ (8 * (r.depth - 1))
  shift_exact = mod-eq_of_lt (omega (arith, grown, stands_choices r n more s, placed_fits n s.few more s.allowed))

  pub choices_hold : (b * 2 ^ (8 * (r.depth - 1))) % 2 ^ 64 ≤ r.choices
  choices_hold = omega (arith, shift_exact, grown)

  choices_less : r.choices - (b * 2 ^ (8 * (r.depth - 1))) % 2 ^ 64 ≡ as_number u
  choices_less = omega (arith, shift_exact, grown)

  here : d < 8
  here = omega (arith, room, s.few)

  unplaced_less : bit_or r.unplaced ((1 * 2 ^ (r.depth - 1)) % 256) ≡ mask n (unplaced u)
  unplaced_less =
      ap₂ (λ (m k : ℕ). bit_or m ((1 * 2 ^ k) % 256)) (stands_unplaced r n more s) depth_less
      ∙ ap (bit_or (mask n (unplaced more))) (one_shifted 8 d here)
      ∙ mask_add n (unplaced more) d room true
      ∙ mask_same n _ (unplaced u)
      (λ i l. ap (λ (t : Bool). t || eqb i d && true) (sym (past d (length more) i one_more)) ∙ set_again (leb d i) (eqb i d) (λ e. le-leb d i (omega (arith, eqb-true i d e))))

  free_less : bit_or r.free ((1 * 2 ^ (bit_and b 15)) % 256) ≡ mask n (unused u)
  free_less =
      ap₂ (λ (m j : ℕ). bit_or m ((1 * 2 ^ j) % 256)) (stands_free r n more s) (and_mask b 4)
      ∙ ap (bit_or (mask n (unused more))) (one_shifted 8 (input_of b) (omega (arith, input_below, s.few)))
      ∙ mask_add n (unused more) (input_of b) input_below true
      ∙ mask_same n _ (unused u)
      (λ j l.
      ap (λ (t : Bool). t || eqb j (input_of b) && true) (sym (but u b j))
      ∙ set_again (unused u j) (eqb j (input_of b)) (λ e. ap (λ (k : ℕ). not (uses u k)) (eqb-true j (input_of b) e) ∙ ap not new))

  -- a mask of the choices, without the last
  dropped : (t : ℕ → Bool) (i : ℕ) → (ltb i (length more) && t (get_or more i 0)) && not (eqb i d) ≡ ltb i d && t (get_or u i 0)
  dropped t i =
      ap (λ (x : Bool). x && not (eqb i d)) (sym (tested t u b i))
      ∙ cleared_again (ltb i d && t (get_or u i 0)) (eqb i d) (t b) (λ e. ap (λ (x : Bool). x && t (get_or u i 0)) (le-ltb i d (omega (arith, eqb-true i d e))))

  inverted_less : bit_and r.inverted (255 - (1 * 2 ^ (r.depth - 1)) % 256) ≡ mask 8 (inverts u)
  inverted_less =
      ap₂ (λ (m k : ℕ). bit_and m (255 - (1 * 2 ^ k) % 256)) (stands_inverted r n more s) depth_less
      ∙ ap (λ (m : ℕ). bit_and (mask 8 (inverts more)) (255 - m)) (one_shifted 8 d here)
      ∙ mask_drop 8 8 (le_refl 8) (inverts more) d here
      ∙ mask_same 8 _ (inverts u) (λ i l. dropped inverted i)

  bits_less : bit_and r.bits (2 ^ 64 - 1 - (1 * 2 ^ (8 * (r.depth - 1) + bit_and b 15)) % 2 ^ 64) ≡ mask 64 (serves u)
  bits_less =
      let at : ℕ = 8 * d + input_of b in
      let inside : at < 64 = omega (arith, here, input_below, s.few) in
      let low : input_of b < 8 = omega (arith, input_below, s.few) in
      ap₂ (λ (m k : ℕ). bit_and m (2 ^ 64 - 1 - (1 * 2 ^ k) % 2 ^ 64)) (stands_bits r n more s) (ap₂ (λ (i j : ℕ). 8 * i + j) depth_less (and_mask b 4))
      ∙ ap (λ (m : ℕ). bit_and (mask 64 (serves more)) (2 ^ 64 - 1 - m)) (one_shifted 64 at inside)
      ∙ mask_drop 64 64 (le_refl 64) (serves more) at inside
      ∙ mask_same 64 _ (serves u)
      (λ k l.
      ap (λ (t : Bool). t && not (eqb k at)) (sym (tested (λ b. eqb (k % 8) (input_of b)) u b (k / 8)) ∙ ap (λ (t : Bool). serves u k || t) (sym (in_byte d (input_of b) k low)))
      ∙ cleared_again (serves u k) (eqb k at) true (λ e. ap (λ (x : Bool). x && eqb (k % 8) (input_of (get_or u (k / 8) 0))) (le-ltb (k / 8) d (omega (arith, eqb-true k at e)))))

  pub taken_back : StandsFor (record {
    n = r.n;
    depth = r.depth - 1;
    unplaced = bit_or r.unplaced ((1 * 2 ^ (r.depth - 1)) % 256);
    free = bit_or r.free ((1 * 2 ^ (bit_and b 15)) % 256);
    inverted = bit_and r.inverted (255 - (1 * 2 ^ (r.depth - 1)) % 256);
    choices = r.choices - (b * 2 ^ (8 * (r.depth - 1))) % 2 ^ 64;
    bits = bit_and r.bits (2 ^ 64 - 1 - (1 * 2 ^ (8 * (r.depth - 1) + bit_and b 15)) % 2 ^ 64);
  }) n u
  unfolding partial
  taken_back =
      let n_is = stands_n r n more s in
      record {
        is = λ i. record { n = n_is i; depth = depth_less i; unplaced = unplaced_less i; free = free_less i; inverted = inverted_less i; choices = choices_less i; bits = bits_less i };
        few = s.few;
        allowed = both_left (follows (straight n) [] u) (follows (straight n) u (b ∷ [])) allowed_both;
      }

-- ---- as the code meets it: the choices before the last, and the last

module _ (r : Masks) (s : Formed r) (some : 0 < r.depth) where
  abbrev pub before : List ℕ
  before = take (r.depth - 1) (prefix r)

  pub last_there : r.depth - 1 < length (prefix r)
  last_there = omega (arith, stands_depth r r.n (prefix r) s)

  -- the last is a choice of n inputs
  pub last_choice : (b : ℕ) → b ≡ get_or (prefix r) (r.depth - 1) 0 → is_choice r.n b ≡ true
  last_choice b is = ap (is_choice r.n) is ∙ placed_choice r.n (omega (arith, s.few)) (prefix r) s.allowed (r.depth - 1) last_there

  pub stands_last : (b : ℕ) → b ≡ get_or (prefix r) (r.depth - 1) 0 → StandsFor r r.n (before adding b)
  stands_last b is =
      let i = r.depth - 1 in
      let all = take_all (suc i) (prefix r) (omega (arith, stands_depth r r.n (prefix r) s)) in
      let split : prefix r ≡ before adding b = sym all ∙ take-suc (prefix r) i 0 last_there ∙ ap (λ (b : ℕ). before adding b) (sym is) in
      subst (StandsFor r r.n) split s

  module _ (b : ℕ) (is : b ≡ get_or (prefix r) (r.depth - 1) 0) where
    -- its input of g is below 8, and its byte can be taken away
    pub last_input : bit_and b 15 < 8
    last_input = input_room r r.n before b (stands_last b is)

    pub last_fits : (b * 2 ^ (8 * (r.depth - 1))) % 2 ^ 64 ≤ r.choices
    last_fits = choices_hold r r.n before b (stands_last b is)

  -- without it, the depth is one less
  pub back_depth : (r' : Masks) → StandsFor r' r.n before → r'.depth ≡ r.depth - 1
  back_depth r' back = omega (arith, stands_depth r' r.n before back, length-take (r.depth - 1) (prefix r), last_there)

-- the last choice is there, and can be taken away
pub ruleset taking = (depth_few, choice_shifted, last_there, last_input, last_fits)
