-- What a partial wiring by value stands for. The idea: its fields are fixed by n and the choices, and the choices can be read
-- back from it, so that a caller knows a wiring by n and its choices alone.
use Prim.Native.Nat.{ℕ, zero, suc, ◌+◌, ◌-◌, ◌*◌, ◌/◌, ◌%◌, ◌≤◌, ◌<◌, ◌^◌}
use mathlib.Core.Path.{◌≡◌, refl, sym, ap, ap₂, ◌∙◌, subst, subst₂}
use mathlib.Core.Bool.{Bool, true, false, cond, not, ◌&&◌, ◌||◌, and-true, or-false}
use mathlib.Core.List.{List, [], ◌∷◌}
use mathlib.Core.Logic.{⊎_elim}
use native.Mathlib.Nat.{le_trans, lt_of_lt_of_le, mod-eq_of_lt, zero-mul}
use native.Mathlib.Omega.{arith}
use borrow.Author.Tests.{not-true, leb-true, le-leb, lt-leb, lt-ltb, le-ltb, eqb-true, eqb-false, eq-eqb, ne_eqb}
use lib.Bits.{bit_and, bit_or, bit_xor, and_mask, and_high, xor_zero_r, xor_add_and}
use lib.Dec.{eqb, leb, ltb, leb-suc-zero, leb-suc-suc, eqb-zero-suc, eqb-suc-zero, eqb-suc-suc}
use lib.ListN.{length, get_or, length-append, get_or-eq_default}
use lib.Pow.{pow_mono}
use Rattle.bits.specs.Bits.{bit, mask}
use Rattle.bits.proofs.Tests.{both, both_left, both_right, same_test, eqb_comm, below_or_not, not_passed, not_or}
use Rattle.bits.proofs.Bit.{bit_le, one_shifted}
use Rattle.bits.proofs.Mask.{mask_at, mask_same, mask_none, mask_add, mask_drop, mask_all}
use Rattle.rules.specs.Lists.{some_in}
use Rattle.rules.specs.Rules.{follows, ◌adding◌}
use Rattle.records.specs.Records.{Bytes}
use Rattle.wirings.specs.Wirings.{input_of, inverted, straight, is_choice, uses, free_choice}
use Rattle.wirings.specs.Pairs.{unplaced, unused}
use Rattle.wirings.proofs.Choices.{choice_input, choice_byte, choice_below, place_next, free_count, uses_adding, placed_choice}
use Rattle.partial.specs.declared.Masks.{Masks}
use Rattle.partial.specs.Partial.{as_number, inverts, serves, partial, prefix, StandsFor, Formed, may_place, located}
use Rattle.partial.proofs.Joined.{number_lt, number_add, number_at, number_bytes}

module _ (n : ℕ) (few : n ≤ 8) (w : List ℕ) (allowed : follows (straight n) [] w ≡ true) where
  pub placed_bytes : Bytes w
  placed_bytes i =
      ⊎_elim (λ (h : i < length w). le_trans (choice_byte n (omega arith) (get_or w i 0) (placed_choice n (omega arith) w allowed i h)) (omega arith))
      (λ (h : length w ≤ i). omega (arith, get_or-eq_default w 0 h))
      (below_or_not i (length w))

  pub placed_within : length w ≤ n
  placed_within = omega (arith, free_count n (omega arith) w allowed)

  -- as one number they fit a word
  pub placed_fits : as_number w < 2 ^ 64
  placed_fits =
      let bits : 8 * length w ≤ 64 = omega (arith, placed_within) in
      lt_of_lt_of_le (number_lt w placed_bytes) (pow_mono bits)

module _ (r : Masks) (n : ℕ) (w : List ℕ) (s : StandsFor r n w) where
  pub stands_n : r.n ≡ n
  unfolding partial
  stands_n = ap (λ (r : Masks). r.n) s.is

  pub stands_depth : r.depth ≡ length w
  unfolding partial
  stands_depth = ap (λ (r : Masks). r.depth) s.is

  pub stands_unplaced : r.unplaced ≡ mask n (unplaced w)
  unfolding partial
  stands_unplaced = ap (λ (r : Masks). r.unplaced) s.is

  pub stands_free : r.free ≡ mask n (unused w)
  unfolding partial
  stands_free = ap (λ (r : Masks). r.free) s.is

  pub stands_inverted : r.inverted ≡ mask 8 (inverts w)
  unfolding partial
  stands_inverted = ap (λ (r : Masks). r.inverted) s.is

  pub stands_bits : r.bits ≡ mask 64 (serves w)
  unfolding partial
  stands_bits = ap (λ (r : Masks). r.bits) s.is

  pub stands_choices : r.choices ≡ as_number w
  unfolding partial
  stands_choices = ap (λ (r : Masks). r.choices) s.is

  -- the choices are read back
  pub stands_prefix : prefix r ≡ w
  unfolding partial
  stands_prefix = ap prefix s.is ∙ number_bytes w (placed_bytes n s.few w s.allowed)

  -- so that whatever is said of its n and its choices is said of n and w
  pub stands_as : {A : Type 0} (said : ℕ → List ℕ → A) → said r.n (prefix r) ≡ said n w
  stands_as said = ap₂ said stands_n stands_prefix

  pub stands_formed : Formed r
  stands_formed = subst₂ (StandsFor r) (sym stands_n) (sym stands_prefix) s

-- ---- whether an input is free

-- a bit that is not 0 is 1
not_zero : (b : ℕ) → b ≤ 1 → not (eqb b 0) ≡ eqb b 1
not_zero zero h = refl
not_zero (suc zero) h = refl
not_zero (suc (suc b)) h = absurd (omega (arith, h))

module _ (r : Masks) (b : ℕ) (s : Formed r) where
  -- a byte of 32 or more is no choice
  pub too_large : 32 ≤ b → false ≡ may_place r b
  too_large h =
      sym (ap (λ (t : Bool). t && free_choice (prefix r) b) (not_passed (is_choice r.n b) (λ e. omega (arith, choice_byte r.n (omega (arith, s.few)) b e))))

  -- of a byte below 32, the bit of its input decides
  pub free_masks : b < 32 → not (eqb (bit_and (r.free / 2 ^ bit_and b 15) 1) 0) ≡ may_place r b
  unfolding bit
  free_masks low =
      let j = input_of b in
      let m = mask r.n (unused (prefix r)) in
      ap (λ (k : ℕ). not (eqb k 0)) (and_mask (r.free / 2 ^ bit_and b 15) 1 ∙ ap₂ (λ (m k : ℕ). m / 2 ^ k % 2) (stands_free r r.n (prefix r) s) (and_mask b 4))
      ∙ not_zero (bit j m) (bit_le j m) ∙ mask_at r.n (unused (prefix r)) j
      ∙ ap (λ (u : Bool). u && free_choice (prefix r) b) (sym (choice_below r.n (omega (arith, s.few)) b low))

-- ---- the empty one

pub started : (n : ℕ) → n ≤ 8 → let all = (1 * 2 ^ n) % 2 ^ 32 - 1 in StandsFor (record { n = n; depth = 0; unplaced = all; free = all; inverted = 0; choices = 0; bits = 0 }) n []
unfolding partial as_number some_in follows
started n h =
    let all : (1 * 2 ^ n) % 2 ^ 32 - 1 ≡ mask n (λ i. true) = ap (λ (m : ℕ). m - 1) (one_shifted 32 n (omega arith)) ∙ mask_all n in
    let unplaced_is = all ∙ mask_same n (λ i. true) (unplaced []) (λ i l. sym (le-leb 0 i (omega arith))) in
    let inverted_is = sym (mask_none 8 (inverts []) (λ i l. ap (λ (t : Bool). t && inverted 0) (le-ltb i 0 (omega arith)))) in
    let bits_is = sym (mask_none 64 (serves []) (λ k l. ap (λ (t : Bool). t && eqb (k % 8) 0) (le-ltb (k / 8) 0 (omega arith)))) in
    record {
      is = λ i. record { n = n; depth = 0; unplaced = unplaced_is i; free = all i; inverted = inverted_is i; choices = 0; bits = bits_is i };
      few = h;
      allowed = refl;
    }

-- ---- where a literal goes

pub depth_few : (r : Masks) → Formed r → r.depth ≤ 8
depth_few r s = omega (arith, stands_depth r r.n (prefix r) s, placed_within r.n s.few (prefix r) s.allowed, s.few)

-- the choice of a placed input is found by a shift
pub choice_shifted : (r : Masks) → Formed r → (i : ℕ) → i < length (prefix r) → bit_and (r.choices / 2 ^ (8 * i)) 255 ≡ get_or (prefix r) i 0
choice_shifted r s i h =
    and_mask (r.choices / 2 ^ (8 * i)) 8 ∙ ap (λ (c : ℕ). c / 2 ^ (8 * i) % 256) (stands_choices r r.n (prefix r) s) ∙ number_at (prefix r) (placed_bytes r.n s.few (prefix r) s.allowed) i h

-- bit 4 alone
sixteen : (b : ℕ) → bit_and b 16 ≡ b / 16 % 2 * 16
sixteen b = and_high b 1 4

plain_four : (b : ℕ) → b < 16 → bit_and b 16 ≡ 0
plain_four b h = omega (arith, sixteen b)

inverted_four : (b : ℕ) → 16 ≤ b → b < 32 → bit_and b 16 ≡ 16
inverted_four b h l = omega (arith, sixteen b)

module _ (r : Masks) (l : ℕ) (s : Formed r) (literal : is_choice r.depth l ≡ true) where
  literal_placed : input_of l < length (prefix r)
  literal_placed = subst (λ (d : ℕ). input_of l < d) (stands_depth r r.n (prefix r) s) (choice_input r.depth (omega (arith, depth_few r s)) l literal)

  -- the shift is by less than 64
  pub literal_room : bit_and l 15 < 8
  literal_room = omega (arith, and_mask l 4, choice_input r.depth (omega (arith, depth_few r s)) l literal, depth_few r s)

  pub located_masks : bit_xor (bit_and (r.choices / 2 ^ (8 * bit_and l 15)) 255) (bit_and l 16) ≡ located (prefix r) l
  unfolding located
  located_masks =
      let w = prefix r in
      let b = get_or w (input_of l) 0 in
      let here : bit_and (r.choices / 2 ^ (8 * bit_and l 15)) 255 ≡ b =
      ap (λ (i : ℕ). bit_and (r.choices / 2 ^ (8 * i)) 255) (and_mask l 4) ∙ choice_shifted r s (input_of l) literal_placed in
      let low : b < 32 = choice_byte r.n (omega (arith, s.few)) b (placed_choice r.n (omega (arith, s.few)) w s.allowed (input_of l) literal_placed) in
      let short : l < 32 = choice_byte r.depth (omega (arith, depth_few r s)) l literal in
      ap (λ (m : ℕ). bit_xor m (bit_and l 16)) here ∙ turned l b short low
    where
      -- a negated literal turns the choice round
      turned : (l b : ℕ) → l < 32 → b < 32 → bit_xor b (bit_and l 16) ≡ cond (inverted l) (cond (inverted b) (b - 16) (b + 16)) b
      turned l b short low =
          ⊎_elim (λ (h : l < 16). simp (lt-leb 16 l h) (ap (bit_xor b) (plain_four l h) ∙ xor_zero_r b))
          (λ (h : 16 ≤ l).
          simp (le-leb 16 l h)
          (ap (bit_xor b) (inverted_four l h short)
          ∙ ⊎_elim (λ (k : b < 16). simp (lt-leb 16 b k) (omega (arith, xor_add_and b 16, plain_four b k)))
          (λ (k : 16 ≤ b). simp (le-leb 16 b k) (omega (arith, xor_add_and b 16, inverted_four b k low)))
          (below_or_not b 16)))
          (below_or_not l 16)

-- ---- one choice more

-- the inputs past the next one
pub past : (d e i : ℕ) → e ≡ d + 1 → leb d i && not (eqb i d) ≡ leb e i
past d e i q =
    same_test (leb d i && not (eqb i d)) (leb e i)
    (λ p.
    let no = eqb-false i d (not-true (eqb i d) (both_right (leb d i) (not (eqb i d)) p)) in
    le-leb e i (omega (arith, leb-true d i (both_left (leb d i) (not (eqb i d)) p))))
    (λ p. both (le-leb d i (omega (arith, leb-true e i p))) (ap not (ne_eqb i d (λ h. omega (arith, leb-true e i p)))))

-- the unused inputs but that of one choice more
pub but : (w : List ℕ) (b j : ℕ) → unused w j && not (eqb j (input_of b)) ≡ unused (w adding b) j
but w b j =
    sym (not_or (uses w j) (eqb j (input_of b))) ∙ ap not (ap (λ (e : Bool). uses w j || e) (eqb_comm j (input_of b)) ∙ sym (uses_adding w b j))

-- a test of the choices of the placed inputs, with one choice more
pub tested : (t : ℕ → Bool) (w : List ℕ) (b i : ℕ)
    → ltb i (length w) && t (get_or w i 0) || eqb i (length w) && t b ≡ ltb i (length (w adding b)) && t (get_or (w adding b) i 0)
tested t [] b zero = refl
tested t [] b (suc i) = simp (leb-suc-zero, eqb-suc-zero, le-ltb (suc i) 1 (omega arith)) refl
tested t (a ∷ w) b zero = simp (lt-ltb 0 (suc (length w)) (omega arith), lt-ltb 0 (suc (length (w adding b))) (omega arith), eqb-zero-suc) (or-false (t a))
tested t (a ∷ w) b (suc i) = simp (leb-suc-suc, eqb-suc-suc) (tested t w b i)

-- bit 4 of a choice, moved to bit d
mark_moved : (b d : ℕ) → b < 32 → d < 8 → (b / 16 * 2 ^ d) % 256 ≡ cond (inverted b) (2 ^ d) 0
mark_moved b d low few =
    ⊎_elim (λ (h : b < 16). let none : b / 16 ≡ 0 = omega arith in simp (lt-leb 16 b h) (ap (λ (m : ℕ). (m * 2 ^ d) % 256) none ∙ ap (λ (m : ℕ). m % 256) (zero-mul (2 ^ d))))
    (λ (h : 16 ≤ b). let one : b / 16 ≡ 1 = omega arith in simp (le-leb 16 b h) (ap (λ (m : ℕ). (m * 2 ^ d) % 256) one ∙ one_shifted 8 d few))
    (below_or_not b 16)

-- bit 8·d + j is bit j of byte d
pub in_byte : (d j k : ℕ) → j < 8 → eqb k (8 * d + j) && true ≡ eqb (k / 8) d && eqb (k % 8) j
in_byte d j k h =
    and-true (eqb k (8 * d + j))
    ∙ same_test (eqb k (8 * d + j)) (eqb (k / 8) d && eqb (k % 8) j)
    (λ e. both (eq-eqb (k / 8) d (omega (arith, eqb-true k (8 * d + j) e))) (eq-eqb (k % 8) j (omega (arith, eqb-true k (8 * d + j) e))))
    (λ e. eq-eqb k (8 * d + j) (omega (arith, eqb-true (k / 8) d (both_left _ _ e), eqb-true (k % 8) j (both_right (eqb (k / 8) d) _ e))))

module _ (r : Masks) (b : ℕ) (s : Formed r) (may : may_place r b ≡ true) where
  choice : is_choice r.n b ≡ true
  choice = both_left (is_choice r.n b) (free_choice (prefix r) b) may

  abbrev w : List ℕ
  w = prefix r

  abbrev more : List ℕ
  more = w adding b

  allowed_more : follows (straight r.n) [] more ≡ true
  allowed_more = place_next r.n w b s.allowed choice (not-true (uses w (input_of b)) (both_right (is_choice r.n b) (free_choice w b) may))

  pub room : length w < r.n
  room = omega (arith, placed_within r.n s.few more allowed_more, length-append w (b ∷ []))

  pub depth_room : r.depth < 8
  depth_room = omega (arith, room, stands_depth r r.n w s, s.few)

  pub input_room : bit_and b 15 < 8
  input_room = omega (arith, and_mask b 4, choice_input r.n (omega (arith, s.few)) b choice, s.few)

  -- the choice at its place in the packed number
  grown : r.choices + b * 2 ^ (8 * r.depth) ≡ as_number more
  grown = ap₂ (λ (c d : ℕ). c + b * 2 ^ (8 * d)) (stands_choices r r.n w s) (stands_depth r r.n w s) ∙ sym (number_add w b)

  shift_exact : (b * 2 ^ (8 * r.depth)) % 2 ^ 64 ≡ b * 2 ^ (8 * r.depth)
  shift_exact = mod-eq_of_lt (omega (arith, grown, placed_fits r.n s.few more allowed_more))

  pub choices_fit : r.choices + (b * 2 ^ (8 * r.depth)) % 2 ^ 64 < 2 ^ 64
  choices_fit = omega (arith, shift_exact, grown, placed_fits r.n s.few more allowed_more)

  unplaced_more : bit_and r.unplaced (255 - (1 * 2 ^ r.depth) % 256) ≡ mask r.n (unplaced more)
  unplaced_more =
      let here : length w < 8 = omega (arith, room, s.few) in
      ap₂ (λ (m d : ℕ). bit_and m (255 - (1 * 2 ^ d) % 256)) (stands_unplaced r r.n w s) (stands_depth r r.n w s)
      ∙ ap (λ (m : ℕ). bit_and (mask r.n (unplaced w)) (255 - m)) (one_shifted 8 (length w) here)
      ∙ mask_drop 8 r.n s.few (unplaced w) (length w) here
      ∙ mask_same r.n _ (unplaced more) (λ i l. past (length w) (length more) i (length-append w (b ∷ [])))

  unused_more : bit_and r.free (255 - (1 * 2 ^ (bit_and b 15)) % 256) ≡ mask r.n (unused more)
  unused_more =
      let here : input_of b < 8 = omega (arith, and_mask b 4, input_room) in
      ap₂ (λ (m j : ℕ). bit_and m (255 - (1 * 2 ^ j) % 256)) (stands_free r r.n w s) (and_mask b 4)
      ∙ ap (λ (m : ℕ). bit_and (mask r.n (unused w)) (255 - m)) (one_shifted 8 (input_of b) here)
      ∙ mask_drop 8 r.n s.few (unused w) (input_of b) here
      ∙ mask_same r.n _ (unused more) (λ j l. but w b j)

  inverted_more : bit_or r.inverted ((b / 16 * 2 ^ r.depth) % 256) ≡ mask 8 (inverts more)
  inverted_more =
      let here : length w < 8 = omega (arith, room, s.few) in
      ap₂ (λ (m d : ℕ). bit_or m ((b / 16 * 2 ^ d) % 256)) (stands_inverted r r.n w s) (stands_depth r r.n w s)
      ∙ ap (bit_or (mask 8 (inverts w))) (mark_moved b (length w) (choice_byte r.n (omega (arith, s.few)) b choice) here)
      ∙ mask_add 8 (inverts w) (length w) here (inverted b)
      ∙ mask_same 8 _ (inverts more) (λ i l. tested inverted w b i)

  bits_more : bit_or r.bits ((1 * 2 ^ (8 * r.depth + bit_and b 15)) % 2 ^ 64) ≡ mask 64 (serves more)
  bits_more =
      let here : input_of b < 8 = omega (arith, and_mask b 4, input_room) in
      let at : ℕ = 8 * length w + input_of b in
      let inside : at < 64 = omega (arith, room, s.few) in
      ap₂ (λ (m k : ℕ). bit_or m ((1 * 2 ^ k) % 2 ^ 64)) (stands_bits r r.n w s) (ap₂ (λ (d j : ℕ). 8 * d + j) (stands_depth r r.n w s) (and_mask b 4))
      ∙ ap (bit_or (mask 64 (serves w))) (one_shifted 64 at inside)
      ∙ mask_add 64 (serves w) at inside true
      ∙ mask_same 64 _ (serves more)
      (λ k l. ap (λ (t : Bool). serves w k || t) (in_byte (length w) (input_of b) k here) ∙ tested (λ b. eqb (k % 8) (input_of b)) w b (k / 8))

  pub placed : StandsFor (record {
    n = r.n;
    depth = r.depth + 1;
    unplaced = bit_and r.unplaced (255 - (1 * 2 ^ r.depth) % 256);
    free = bit_and r.free (255 - (1 * 2 ^ (bit_and b 15)) % 256);
    inverted = bit_or r.inverted ((b / 16 * 2 ^ r.depth) % 256);
    choices = r.choices + (b * 2 ^ (8 * r.depth)) % 2 ^ 64;
    bits = bit_or r.bits ((1 * 2 ^ (8 * r.depth + bit_and b 15)) % 2 ^ 64);
  }) r.n more
  unfolding partial
  placed =
      let depth_is : r.depth + 1 ≡ length more = omega (arith, stands_depth r r.n w s, length-append w (b ∷ [])) in
      let choices_is = ap (λ (m : ℕ). r.choices + m) shift_exact ∙ grown in
      record {
        is = λ i. record { n = r.n; depth = depth_is i; unplaced = unplaced_more i; free = unused_more i; inverted = inverted_more i; choices = choices_is i; bits = bits_more i };
        few = s.few;
        allowed = allowed_more;
      }

-- one more choice fits
pub ruleset placing = (depth_room, input_room, choices_fit)
