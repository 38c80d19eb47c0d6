-- From a node to its children. The idea: the choices that may follow are offered one by one, in order; what is left to offer from a
-- place on begins with the choice there, and goes on at the next place that is offered.
use Prim.Native.Nat.{ℕ, zero, suc, ◌+◌, ◌-◌, ◌*◌, ◌/◌, ◌%◌, ◌≤◌, ◌<◌}
use mathlib.Core.Path.{◌≡◌, refl, sym, ap, ap₂, ◌∙◌, subst}
use mathlib.Core.Bool.{Bool, true, false, cond, ◌&&◌}
use mathlib.Core.List.{List, [], ◌∷◌}
use mathlib.Core.Logic.{⊎_elim}
use native.Mathlib.Nat.{add-zero, eq-or-lt_of_le}
use native.Mathlib.Omega.{arith}
use borrow.Author.Tests.{le-leb, lt-leb}
use lib.ListN.{length, length-append, drop_of_length-le}
use Rattle.bits.proofs.Tests.{decide, below_or_not, cond_cases}
use Rattle.rules.specs.Lists.{passed_over}
use Rattle.rules.specs.Rules.{◌adding◌}
use Rattle.wirings.specs.Wirings.{input_of, inverted, choices_from, choice_at, rank, is_choice, free_choice}
use Rattle.wirings.proofs.Choices.{choice_input, choices_at, choices_length, choice_at_is, offered, offered_skip, offered_take, offered_end, free_number}
use Rattle.partial.specs.declared.Masks.{Masks}
use Rattle.partial.specs.Partial.{StandsFor, Formed, prefix, may_place, offer_from}
use Rattle.partial.proofs.Standing.{stands_n, stands_depth, placed_within}

-- ---- the place of a choice in the order

pub rank_at : (k : ℕ) → k < 32 → rank (choice_at k) ≡ k
rank_at k h =
    let j : input_of (choice_at k) ≡ k / 2 = omega arith in
    ⊎_elim (λ (e : k % 2 < 1). simp (lt-leb 16 (choice_at k) (omega arith)) (omega arith))
    (λ (e : 1 ≤ k % 2). simp (le-leb 16 (choice_at k) (omega arith)) (omega arith))
    (below_or_not (k % 2) 1)

pub rank_below : (n : ℕ) → n ≤ 16 → (b : ℕ) → is_choice n b ≡ true → rank b < 2 * n
rank_below n small b e =
    let one : cond (inverted b) 1 0 ≤ 1 = cond_cases (λ (m : ℕ). m ≤ 1) (inverted b) 1 0 (omega arith) (omega arith) in
    omega (arith, choice_input n small b e)

-- ---- the next place that is offered

module _ (n : ℕ) (w : List ℕ) where
  module _ (k : ℕ) where
    -- it is this one, or comes after it
    pub offer_here : k < 2 * n → free_choice w (choice_at k) ≡ true → offer_from n w k ≡ k
    unfolding offer_from passed_over
    offer_here h e = simp (choices_at n k h, e) (add-zero k)

    pub offer_later : k < 2 * n → free_choice w (choice_at k) ≡ false → offer_from n w k ≡ offer_from n w (k + 1)
    unfolding offer_from passed_over
    offer_later h e = simp (choices_at n k h, e) (omega arith)

    pub offer_end : 2 * n ≤ k → offer_from n w k ≡ k
    unfolding offer_from passed_over
    offer_end h =
        let past : length (choices_from 0 n) ≤ k = omega (arith, choices_length 0 n) in
        simp (drop_of_length-le (choices_from 0 n) past) (add-zero k)

  -- places that are not free are passed over
  pub skip_to : (m c : ℕ) → ((k : ℕ) → c ≤ k → k < c + m → (k < 2 * n) × (free_choice w (choice_at k) ≡ false)) → offer_from n w c ≡ offer_from n w (c + m)
  skip_to zero c h = ap (offer_from n w) (sym (add-zero c))
  skip_to (suc m) c h =
      let here = h c (omega arith) (omega arith) in
      offer_later c here.0 here.1 ∙ skip_to m (c + 1) (λ k l u. h k (omega arith) (omega arith)) ∙ ap (offer_from n w) (omega arith)

  pub offer_after : (c k : ℕ) → k ≡ offer_from n w c → c ≤ k
  unfolding offer_from
  offer_after c k e = omega arith

  -- k is a place that is offered, or the end
  pub record Next (k : ℕ) : Type 0 where
    pub within : k ≤ 2 * n
    pub free : k < 2 * n → free_choice w (choice_at k) ≡ true

  -- k is the next such place from c on: what is offered from c on is offered from k on
  abbrev Offers : ℕ → ℕ → Type 0
  Offers c k = Next k × (offered n w c ≡ offered n w k)

  offers_left : (m c : ℕ) → c + m ≡ 2 * n → Offers c (offer_from n w c)
  offers_left zero c e =
      let over : 2 * n ≤ c = omega arith in
      subst (Offers c) (sym (offer_end c over)) (record { within = omega arith; free = λ h. absurd (omega arith) }, refl)
  offers_left (suc m) c e =
      let h : c < 2 * n = omega arith in
      ⊎_elim (λ (p : free_choice w (choice_at c) ≡ true). subst (Offers c) (sym (offer_here c h p)) (record { within = omega arith; free = λ _. p }, refl))
      (λ (p : free_choice w (choice_at c) ≡ false).
      let i = offers_left m (c + 1) (omega arith) in
      subst (Offers c) (sym (offer_later c h p)) (i.0, offered_skip n w c h p ∙ i.1))
      (decide (free_choice w (choice_at c)))

  pub offers : (c k : ℕ) → c ≤ 2 * n → k ≡ offer_from n w c → Offers c k
  offers c k h e = subst (Offers c) (sym e) (offers_left (2 * n - c) c (omega arith))

-- ---- as the code meets it, with the choices in a wiring by value

module _ (r : Masks) (s : Formed r) where
  abbrev n : ℕ
  n = r.n

  abbrev w : List ℕ
  w = prefix r

  pub depth_is : length w ≡ r.depth
  depth_is = sym (stands_depth r n w s)

  -- an input is left where the depth is not n
  pub left_over : (r.depth ≡ n → ⊥) → length w < n
  left_over h =
      ⊎_elim (λ e. absurd (h (sym depth_is ∙ e))) (λ l. l) (eq-or-lt_of_le (placed_within n s.few w s.allowed))

  -- after one more choice, one input less
  pub less_left : (b : ℕ) (r' : Masks) → StandsFor r' n (w adding b) → r'.n - r'.depth < n - r.depth
  less_left b r' placed =
      omega (
        arith,
        depth_is,
        stands_n r' n (w adding b) placed,
        stands_depth r' n (w adding b) placed,
        length-append w (b ∷ []),
        placed_within n s.few (w adding b) placed.allowed,
      )

  module _ (k b : ℕ) (h : k < 2 * n) (is : b ≡ choice_at k) where
    -- what the wiring's test says of the choice at a place
    tested : may_place r b ≡ free_choice w (choice_at k)
    tested =
        ap (may_place r) is ∙ ap (λ (t : Bool). t && free_choice w (choice_at k)) (choice_at_is n (omega (arith, s.few)) k h)

    module _ (here : Next n w k) where
      pub may_take : may_place r b ≡ true
      may_take = tested ∙ here.free h

      -- what is left begins with it, and goes on at the next place
      module _ (k' : ℕ) (next : k' ≡ offer_from n w (k + 1)) where
        pub goes_on : Next n w k'
        goes_on = (offers n w (k + 1) k' (omega arith) next).0

        pub takes : offered n w k ≡ b ∷ offered n w k'
        takes = offered_take n w k h (here.free h) ∙ ap₂ (λ (b : ℕ) (l : List ℕ). b ∷ l) (sym is) (offers n w (k + 1) k' (omega arith) next).1

  -- the first place
  module _ (k : ℕ) (first : k ≡ offer_from n w 0) where
    pub begins : Next n w k
    begins = (offers n w 0 k (omega arith) first).0

    pub begins_all : offered n w 0 ≡ offered n w k
    begins_all = (offers n w 0 k (omega arith) first).1

    -- there is one where an input is left
    pub begins_within : length w < n → k < 2 * n
    unfolding offered
    begins_within more =
        ⊎_elim (λ (h : k < 2 * n). h)
        (λ (h : 2 * n ≤ k).
        let left = n - length w in
        let all = free_number n (omega (arith, s.few)) w s.allowed left (omega arith) in
        absurd (omega (arith, all, ap length (begins_all ∙ offered_end n w k h))))
        (below_or_not k (2 * n))
