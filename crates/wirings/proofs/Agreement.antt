-- Agreement on patterns is separation of pairs. The idea: carried over by a wiring, a cube of f is a cube of g's inputs that holds
-- y exactly where the cube holds the x read at y; and two cubes, neither of them empty, share a pattern exactly where no literal
-- of the one is the opposite of a literal of the other (lemma 2.1). So a wiring agrees exactly when it separates every pair.
use Prim.Native.Nat.{ℕ, zero, suc, ◌-◌, ◌^◌, ◌≤◌, ◌<◌}
use mathlib.Core.Path.{◌≡◌, refl, sym, ap, ap₂, ◌∙◌, subst}
use mathlib.Core.Bool.{Bool, true, false, cond, not, ◌&&◌, ◌||◌, false≢true, not-not, or-false, and-true, and-false, and_comm}
use mathlib.Core.List.{List, [], ◌∷◌}
use mathlib.Core.Logic.{◌↔◌, ⊎_elim}
use native.Mathlib.Nat.{le_trans, lt_of_le_of_lt, le_of_suc-le-suc, not-suc-le-zero}
use native.Mathlib.Omega.{arith}
use borrow.Author.Tests.{eqb-true, eq-eqb, ne_eqb, not-true}
use lib.Bits.{bit_and, bit_or, and_le_l, and_le_r, or_lt}
use lib.Dec.{eqb}
use lib.ListN.{length, get_or}
use lib.Pow.{pow_mono}
use Rattle.bits.specs.Bits.{bit, has, mask, number, any, every}
use Rattle.bits.proofs.Tests.{both, both_left, both_right, same_test, decide, below_or_not}
use Rattle.bits.proofs.Below.{any_at, any_if, any_none, any_same, any_or}
use Rattle.bits.proofs.Bit.{bit_le, bit_above, has_or, has_and, has_zero, bits_zero, bit_not_one, any_bit, number_bit}
use Rattle.bits.proofs.Mask.{mask_lt, mask_has, narrow_mask}
use Rattle.cubes.specs.Cubes.{cube_holds, cubes_share, some_holds}
use Rattle.cubes.proofs.Masks.{holds_at, holds_if, share_masks}
use Rattle.cubes.proofs.Lists.{each_map, some_same, lists_meet}
use Rattle.rules.specs.Lists.{each_in}
use Rattle.rules.specs.Rules.{follows}
use Rattle.rules.proofs.Lists.{some_if, each_some, getD_in}
use Rattle.records.specs.Records.{inputs, on_list, off_list, record_fault, Bytes, Accepted}
use Rattle.records.proofs.Frame.{record_sound, few_inputs}
use Rattle.records.proofs.Cubes.{CleanList, all_clean, on_each, off_each}
use Rattle.wirings.specs.Wirings.{input_of, inverted, uses, straight, apart, served, read_at, disagree_at, agrees}
use Rattle.wirings.specs.Pairs.{asks_one, asks_zero, separates, lands, carried_pos, carried_neg, side, against, pairs, of_pair}
use Rattle.wirings.proofs.Choices.{placed_input, placed_apart}
use Rattle.wirings.proofs.Indexed.{some_on, some_pair}

-- ---- reading f through a choice

-- what a choice serves is a bit
served_le : (y b : ℕ) → served y b ≤ 1
unfolding served
served_le y b = let j = input_of b in elim (inverted b) as (λ t. cond t (1 - bit j y) (bit j y) ≤ 1) [ true ↦ omega arith | false ↦ bit_le j y ]

-- bit i of the x read at y is what the choice for input i serves
pub read_bit : (w : List ℕ) (y i : ℕ) → i < length w → bit i (read_at w y) ≡ served y (get_or w i 0)
unfolding read_at
read_bit w y i h = number_bit (λ i. served y (get_or w i 0)) (λ i. served_le y (get_or w i 0)) (length w) i h

-- a bit is as asked, to be 1 or to be 0
abbrev Obeys : Bool → Bool → ℕ → Type 0
Obeys p n b = (p ≡ true → b ≡ 1) × (n ≡ true → b ≡ 0)

-- an inverted choice turns round both what is asked and what is read
obeys_served : (y b : ℕ) (p n : Bool) → Obeys (cond (inverted b) n p) (cond (inverted b) p n) (bit (input_of b) y) ↔ Obeys p n (served y b)
unfolding served
obeys_served y b p n = turned (inverted b) (bit (input_of b) y) (bit_le (input_of b) y)
  where
    turned : (t : Bool) (v : ℕ) → v ≤ 1 → Obeys (cond t n p) (cond t p n) v ↔ Obeys p n (cond t (1 - v) v)
    turned true v h = (λ o. (λ e. omega (arith, o.1 e), λ e. omega (arith, o.0 e)), λ o. (λ e. omega (arith, o.1 e), λ e. omega (arith, o.0 e)))
    turned false v h = (λ o. o, λ o. o)

-- a cube holds a pattern exactly when each bit is as it asks
module _ (P N x : ℕ) where
  holds_obeys : cube_holds P N x ≡ true → (i : ℕ) → i < 8 → Obeys (has P i) (has N i) (bit i x)
  holds_obeys e i h =
      let m = holds_at P N x e i h in
      (λ p. omega (arith, m.ones, eqb-true (bit i P) 1 p, bit_le i x), λ n. omega (arith, m.zeros, eqb-true (bit i N) 1 n))

  obeys_holds : ((i : ℕ) → i < 8 → Obeys (has P i) (has N i) (bit i x)) → cube_holds P N x ≡ true
  obeys_holds f =
      holds_if P N x (λ i h. record {
        ones = ⊎_elim (λ p. omega (arith, (f i h).0 p, bit_le i P)) (λ p. omega (arith, unset P i p)) (decide (has P i));
        zeros = ⊎_elim (λ p. omega (arith, (f i h).1 p, bit_le i N)) (λ p. omega (arith, unset N i p, bit_le i x)) (decide (has N i));
      })
    where
      unset : (M i : ℕ) → has M i ≡ false → bit i M ≡ 0
      unset M i p = bit_not_one i M (λ q. false≢true (sym p ∙ q))

-- ---- a cube carried over

-- where literals land, and where they come from; `asks` is asks-one or asks-zero
module _ (asks : ℕ → ℕ → ℕ → ℕ → Bool) (w : List ℕ) (P N : ℕ) where
  -- the inputs of g on which some literal lands
  abbrev landed : ℕ
  landed = mask 8 (lands asks w P N)

  -- the literal on input i lands on input j
  abbrev lands_by : ℕ → ℕ → Bool
  lands_by j i = eqb j (input_of (get_or w i 0)) && asks (get_or w i 0) P N i

  -- a literal lands on the input of its choice, and what lands there comes from some literal
  lands_at : (i : ℕ) → i < length w → input_of (get_or w i 0) < 8 → asks (get_or w i 0) P N i ≡ true → has landed (input_of (get_or w i 0)) ≡ true
  lands_at i h inside a =
      let j = input_of (get_or w i 0) in
      mask_has 8 (lands asks w P N) j inside ∙ any_if (lands_by j) (length w) i h (both (eq-eqb j j refl) a)

  lands_from : (j : ℕ) → j < 8 → has landed j ≡ true → (i : ℕ) × (i < length w) × (j ≡ input_of (get_or w i 0)) × (asks (get_or w i 0) P N i ≡ true)
  lands_from j h e =
      let x = any_at (lands_by j) (length w) (sym (mask_has 8 (lands asks w P N) j h) ∙ e) in
      let b = get_or w x.0 0 in
      (x.0, x.1, eqb-true j (input_of b) (both_left (eqb j (input_of b)) (asks b P N x.0) x.2), both_right (eqb j (input_of b)) (asks b P N x.0) x.2)

  -- some literal carried over meets a literal of another cube exactly when some choice takes it there
  pub lands_any : ((i : ℕ) → i < length w → input_of (get_or w i 0) < 8) → (M : ℕ)
      → any 8 (λ j. has landed j && has M j) ≡ any (length w) (λ i. asks (get_or w i 0) P N i && has M (input_of (get_or w i 0)))
  lands_any inside M =
      same_test (any 8 at_g) (any (length w) at_f)
      (λ e.
      let x = any_at at_g 8 e in
      let y = lands_from x.0 x.1 (both_left (has landed x.0) (has M x.0) x.2) in
      any_if at_f (length w) y.0 y.1 (both y.3 (ap (has M) (sym y.2) ∙ both_right (has landed x.0) (has M x.0) x.2)))
      (λ e.
      let x = any_at at_f (length w) e in
      let b = get_or w x.0 0 in
      any_if at_g 8 (input_of b) (inside x.0 x.1)
      (both (lands_at x.0 x.1 (inside x.0 x.1) (both_left (asks b P N x.0) (has M (input_of b)) x.2)) (both_right (asks b P N x.0) (has M (input_of b)) x.2)))
    where
      at_g : ℕ → Bool
      at_g j = has landed j && has M j

      at_f : ℕ → Bool
      at_f i = asks (get_or w i 0) P N i && has M (input_of (get_or w i 0))

-- a carried cube holds y exactly when the cube holds the x read at y
pub carried_holds : (n : ℕ) → n ≤ 8 → (w : List ℕ) → length w ≡ n → ((i : ℕ) → i < n → input_of (get_or w i 0) < 8)
    → (P N : ℕ) → P < 2 ^ n → N < 2 ^ n → (y : ℕ) → cube_holds (carried_pos w P N) (carried_neg w P N) y ≡ cube_holds P N (read_at w y)
carried_holds n small w whole inside P N p m y =
    same_test (cube_holds (carried_pos w P N) (carried_neg w P N) y) (cube_holds P N (read_at w y))
    (λ e. obeys_holds P N (read_at w y) (λ i h. ⊎_elim (placed e i) (λ l. (above P p i l (bit i (read_at w y) ≡ 1), above N m i l (bit i (read_at w y) ≡ 0))) (below_or_not i n)))
    (λ e. obeys_holds (carried_pos w P N) (carried_neg w P N) y (λ j h. (
      λ q. let x = lands_from asks_one w P N j h q in ap (λ (k : ℕ). bit k y) x.2 ∙ (read e x.0 x.1).0 x.3,
      λ q. let x = lands_from asks_zero w P N j h q in ap (λ (k : ℕ). bit k y) x.2 ∙ (read e x.0 x.1).1 x.3,
    )))
  where
    -- what the carried cube asks of y, the cube asks of x
    placed : cube_holds (carried_pos w P N) (carried_neg w P N) y ≡ true → (i : ℕ) → i < n → Obeys (has P i) (has N i) (bit i (read_at w y))
    placed e i l =
        let b = get_or w i 0 in
        let within : i < length w = omega arith in
        let o = holds_obeys (carried_pos w P N) (carried_neg w P N) y e (input_of b) (inside i l) in
        subst (Obeys (has P i) (has N i)) (sym (read_bit w y i within))
        ((obeys_served y b (has P i) (has N i)).0 (λ q. o.0 (lands_at asks_one w P N i within (inside i l) q), λ q. o.1 (lands_at asks_zero w P N i within (inside i l) q)))

    -- and what the cube asks of x, it asks through the choice of y
    read : cube_holds P N (read_at w y) ≡ true → (i : ℕ) → i < length w → Obeys (asks_one (get_or w i 0) P N i) (asks_zero (get_or w i 0) P N i) (bit (input_of (get_or w i 0)) y)
    read e i l =
        (obeys_served y (get_or w i 0) (has P i) (has N i)).1
        (subst (Obeys (has P i) (has N i)) (read_bit w y i l) (holds_obeys P N (read_at w y) e i (omega arith)))

    -- above n it asks nothing
    above : (M : ℕ) → M < 2 ^ n → (i : ℕ) → n ≤ i → (R : Type 0) → has M i ≡ true → R
    above M s i l R q = absurd (omega (arith, bit_above i n s l, eqb-true (bit i M) 1 q))

-- where no input of g is used twice, choices that use one input are one choice
later_other : (b : ℕ) (w : List ℕ) → apart (b ∷ w) ≡ true → (k : ℕ) → k < length w → input_of (get_or w k 0) ≡ input_of b → ⊥
unfolding apart
later_other b w a k l e =
    false≢true
    (sym (not-true (uses w (input_of b)) (both_left (not (uses w (input_of b))) (apart w) a))
    ∙ some_if (λ c. eqb (input_of c) (input_of b)) (get_or w k 0) w (getD_in w k l) (eq-eqb (input_of (get_or w k 0)) (input_of b) e))

apart_at : (w : List ℕ) → apart w ≡ true → (i k : ℕ) → i < length w → k < length w → input_of (get_or w i 0) ≡ input_of (get_or w k 0) → i ≡ k
unfolding apart
apart_at [] a i k h l e = absurd (not-suc-le-zero h)
apart_at (b ∷ w) a zero zero h l e = refl
apart_at (b ∷ w) a zero (suc k) h l e = absurd (later_other b w a k (le_of_suc-le-suc l) (sym e))
apart_at (b ∷ w) a (suc i) zero h l e = absurd (later_other b w a i (le_of_suc-le-suc h) e)
apart_at (b ∷ w) a (suc i) (suc k) h l e = ap suc (apart_at w (both_right (not (uses w (input_of b))) (apart w) a) i k (le_of_suc-le-suc h) (le_of_suc-le-suc l) e)

-- where no two inputs of f share an input of g, a cube that is not empty is not empty when carried over. This, and that the cube
-- of g is not empty either, is where lemma 2.1 uses that no cube is empty
pub carried_apart : (w : List ℕ) (P N : ℕ) → apart w ≡ true → bit_and P N ≡ 0 → bit_and (carried_pos w P N) (carried_neg w P N) ≡ 0
carried_apart w P N a e =
    let C = carried_pos w P N in
    let D = carried_neg w P N in
    bits_zero 8 (bit_and C D) (lt_of_le_of_lt (and_le_l C D) (mask_lt 8 (lands asks_one w P N)))
    (λ j h.
    bit_not_one j (bit_and C D)
    (λ q.
    let two = sym (has_and C D j) ∙ q in
    let x = lands_from asks_one w P N j h (both_left (has C j) (has D j) two) in
    let y = lands_from asks_zero w P N j h (both_right (has C j) (has D j) two) in
    let i = x.0 in
    let same = apart_at w a y.0 i y.1 x.1 (sym y.2 ∙ x.2) in
    let nought = subst (λ (k : ℕ). asks_zero (get_or w k 0) P N k ≡ true) same y.3 in
    false≢true (sym (has_zero i) ∙ ap (λ (m : ℕ). has m i) (sym e) ∙ has_and P N i ∙ sym (asked (inverted (get_or w i 0)) (has P i) (has N i)) ∙ both x.3 nought)))
  where
    asked : (t p n : Bool) → cond t n p && cond t p n ≡ p && n
    asked true p n = and_comm n p
    asked false p n = refl

-- it is needed: no literal separates the cube with input 0 in both masks from the cube that holds every pattern, and yet, being
-- empty, it shares none with it
pub empty_cube : (any (2 ^ 1) (λ y. cube_holds 1 1 (read_at (0 ∷ []) y) && cube_holds 0 0 y) ≡ false) × (separates (0 ∷ []) 1 1 0 0 ≡ false)
unfolding any every bit number cube_holds served read_at separates
empty_cube = (refl, refl)

-- ---- lemma 2.1

module _ (n : ℕ) (small : n ≤ 8) (w : List ℕ) (allowed : follows (straight n) [] w ≡ true) (whole : length w ≡ n) where
  -- each of its choices uses an input of g, below n and so below 8
  below_n : (i : ℕ) → i < length w → input_of (get_or w i 0) < n
  below_n = placed_input n (omega arith) w allowed

  pub placed_byte : (i : ℕ) → i < length w → input_of (get_or w i 0) < 8
  placed_byte i h = le_trans (below_n i h) small

  -- so a cube carried over names inputs below n alone
  pub landed_lt : (asks : ℕ → ℕ → ℕ → ℕ → Bool) (P N : ℕ) → landed asks w P N < 2 ^ n
  landed_lt asks P N =
      narrow_mask 8 n small (lands asks w P N)
      (λ j from.
      any_none (lands_by asks w P N j) (length w)
      (λ i h e. let here = eqb-true j (input_of (get_or w i 0)) (both_left (eqb j (input_of (get_or w i 0))) (asks (get_or w i 0) P N i) e) in omega (arith, below_n i h)))

  module _ (P N P' N' : ℕ) where
    -- the inputs of g asked to be 1, by the carried cube or by the cube of g, and asked to be 0 too
    abbrev clashing : ℕ
    clashing = bit_and (bit_or (carried_pos w P N) P') (bit_or (carried_neg w P N) N')

    -- where neither cube is empty, an input asked to be both is asked so by a literal of the one and its opposite in the other
    clash_separates : bit_and P N ≡ 0 → bit_and P' N' ≡ 0 → any 8 (has clashing) ≡ separates w P N P' N'
    unfolding separates
    clash_separates e e' =
        let C = carried_pos w P N in
        let D = carried_neg w P N in
        any_same _ _ 8
        (λ j _.
        has_and (bit_or C P') (bit_or D N') j ∙ ap₂ ◌&&◌ (has_or C P' j) (has_or D N' j)
        ∙ cross (has C j) (has D j) (has P' j) (has N' j) (never_both C D (carried_apart w P N (placed_apart n (omega arith) w allowed) e) j) (never_both P' N' e' j))
        ∙ sym (any_or (λ j. has C j && has N' j) (λ j. has D j && has P' j) 8)
        ∙ ap₂ ◌||◌ (lands_any asks_one w P N placed_byte N') (lands_any asks_zero w P N placed_byte P')
        ∙ any_or _ _ (length w)
      where
        never_both : (A B : ℕ) → bit_and A B ≡ 0 → (j : ℕ) → has A j && has B j ≡ false
        never_both A B d j = sym (has_and A B j) ∙ ap (λ (m : ℕ). has m j) d ∙ has_zero j

        cross : (c d p n : Bool) → c && d ≡ false → p && n ≡ false → (c || p) && (d || n) ≡ c && n || d && p
        cross true true p n h k = absurd (false≢true (sym h))
        cross true false p n h k = sym (or-false n)
        cross false d true true h k = absurd (false≢true (sym k))
        cross false d true false h k = or-false d ∙ sym (and-true d)
        cross false d false n h k = sym (and-false d)

    -- two cubes, neither of them empty, share a pattern through the wiring exactly when it does not separate them
    pub lemma_2_1 : P < 2 ^ n → N < 2 ^ n → P' < 2 ^ n → N' < 2 ^ n → bit_and P N ≡ 0 → bit_and P' N' ≡ 0
        → any (2 ^ n) (λ y. cube_holds P N (read_at w y) && cube_holds P' N' y) ≡ not (separates w P N P' N')
    unfolding cubes_share
    lemma_2_1 p m p' m' e e' =
        let C = carried_pos w P N in
        let D = carried_neg w P N in
        let d = mask_lt 8 (lands asks_zero w P N) in
        let d' : N' < 2 ^ 8 = le_trans m' (pow_mono small) in
        any_same _ _ (2 ^ n) (λ y _. ap (λ (t : Bool). t && cube_holds P' N' y) (sym (carried_holds n small w whole (λ i h. placed_byte i (omega arith)) P N p m y)))
        ∙ share_masks C D P' N' n (landed_lt asks_one P N) p' d d'
        ∙ sym (not-not (eqb clashing 0))
        ∙ ap not (sym (any_bit 8 clashing (lt_of_le_of_lt (and_le_r (bit_or C P') (bit_or D N')) (or_lt 8 D N' d d'))) ∙ clash_separates e e')

-- ---- accepted records

-- each cube of an accepted record is clean; above all, it is not empty
pub clean_side : (s : ℕ) (f : List ℕ) → Bytes f → (record_fault f).code ≡ 0 → CleanList (inputs f) (side s f)
unfolding side
clean_side s f bytes fine =
    let clean = all_clean f bytes (record_sound f fine).cubes in
    elim (eqb s 0) as (λ t. CleanList (inputs f) (cond t (on_list f) (off_list f))) [ true ↦ on_each _ f clean | false ↦ off_each _ f clean ]

-- some cube of f's list s holds x, and some cube of the list of g against it holds y: f and g disagree where that is so of a list
abbrev pub both_hold : ℕ → List ℕ → List ℕ → ℕ → ℕ → ℕ → Bool
both_hold q f g s x y = some_holds (side s f) x && some_holds (side (against q s) g) y

pub disagree_is : (q : ℕ) (f g : List ℕ) (x y : ℕ) → disagree_at q f g x y ≡ both_hold q f g 0 x y || both_hold q f g 1 x y
unfolding disagree_at side against
disagree_is zero f g x y = refl
disagree_is (suc q) f g x y = simp (ne_eqb (suc q) 0 (λ e. omega (arith, e)))

-- a wiring of accepted records agrees, on patterns, exactly when it separates every pair to be kept apart, for q = 0 and q = 1 (any
-- other q counts as 1)
pub agrees_separates : (q : ℕ) (f g : List ℕ) → Accepted f g → (w : List ℕ) → follows (straight (inputs g)) [] w ≡ true → length w ≡ inputs g
    → agrees q f g w ≡ each_in (of_pair q f g (separates w)) (pairs q f g)
unfolding agrees
agrees_separates q f g ok w allowed whole =
    ap not
    (any_same _ _ (2 ^ n) (λ y _. disagree_is q f g (read_at w y) y)
    ∙ sym (any_or (λ y. both_hold q f g 0 (read_at w y) y) (λ y. both_hold q f g 1 (read_at w y) y) (2 ^ n))
    ∙ ap₂ ◌||◌ (list 0) (list 1)
    ∙ sym (some_pair q f g (λ P N P' N'. not (separates w P N P' N'))))
    ∙ sym (each_some (of_pair q f g (separates w)) (pairs q f g))
  where
    n : ℕ
    n = inputs g

    list : (s : ℕ) → any (2 ^ n) (λ y. both_hold q f g s (read_at w y) y) ≡ some_on q f g (λ P N P' N'. not (separates w P N P' N')) s
    list s =
        let l = side s f in
        let m = side (against q s) g in
        sym (lists_meet (2 ^ n) (read_at w) l m)
        ∙ some_same _ _ l
        (each_map _ _
        (λ P N c.
        some_same _ _ m
        (each_map _ _
        (λ P' N' d. lemma_2_1 n (few_inputs f g ok) w allowed whole P N P' N' c.pos c.neg d.pos d.neg c.apart d.apart)
        m (clean_side (against q s) g ok.bytes_g ok.fine_g)))
        l (subst (λ (k : ℕ). CleanList k l) ok.equal (clean_side s f ok.bytes_f ok.fine_f)))
