-- The choices that 01's rule leaves. The idea: a prefix that the rule allows is a list of choice bytes with no input of g used
-- twice; so with k inputs still to be placed, k inputs of g are free, and 2 * k choices. Counting asks for at most 16 inputs:
-- only then the bytes j and j + 16 are told apart.
use Prim.Native.Nat.{ℕ, zero, suc, ◌+◌, ◌*◌, ◌%◌, ◌≤◌, ◌<◌}
use mathlib.Core.Path.{◌≡◌, refl, sym, ap, ap₂, ◌∙◌}
use mathlib.Core.Bool.{Bool, true, false, cond, not, ◌&&◌, ◌||◌, and-true, and_assoc, or-false, and-false}
use mathlib.Core.List.{List, [], ◌∷◌, ◌++◌, append-nil}
use mathlib.Core.Logic.{◌⊎◌, inl, inr, ⊎_elim}
use native.Mathlib.Nat.{add-zero, zero-add, eq-or-lt_of_le}
use native.Mathlib.Numerals.{add-one}
use native.Mathlib.Omega.{arith}
use borrow.Author.Tests.{ltb-true, leb-true, lt-ltb, le-leb, lt-leb, eq-eqb, ne_eqb, eqb-true, not-true}
use lib.Dec.{leb, ltb, eqb}
use lib.ListN.{length, drop, get_or, drop_of_length-le}
use Rattle.bits.specs.Bits.{count}
use Rattle.bits.proofs.Tests.{both, both_left, both_right, either, or_left, or_right, same_test, eqb_comm, below_or_not}
use Rattle.bits.proofs.Below.{count_low, count_same, count_all, count_at, count_less}
use Rattle.rules.specs.Lists.{filter, some_in, each_in}
use Rattle.rules.specs.Rules.{next, follows, ◌adding◌}
use Rattle.rules.proofs.Lists.{In, some_at, some_if, some_append, each_at, getD_in}
use Rattle.rules.proofs.Completions.{adding_append, follows_append}
use Rattle.wirings.specs.Wirings.{input_of, inverted, choices_from, choice_at, uses, free_choice, straight, is_choice, apart}

-- ---- choice bytes

-- b is a plain or an inverted choice among k inputs from j on
abbrev Choice : ℕ → ℕ → ℕ → Type 0
Choice j k b = ((j ≤ b) × (b < j + k)) ⊎ ((j + 16 ≤ b) × (b < j + 16 + k))

choice_test : (n b : ℕ) → Choice 0 n b → is_choice n b ≡ true
choice_test n b (inl h) = or_left (leb 16 b && ltb b (16 + n)) (lt-ltb b n (omega arith))
choice_test n b (inr h) = or_right (ltb b n) (both (le-leb 16 b (omega arith)) (lt-ltb b (16 + n) (omega arith)))

test_choice : (n b : ℕ) → is_choice n b ≡ true → Choice 0 n b
test_choice n b e =
    ⊎_elim (λ (p : ltb b n ≡ true). inl (omega (arith, ltb-true b n p)))
    (λ (p : leb 16 b && ltb b (16 + n) ≡ true). inr (omega (arith, leb-true 16 b (both_left (leb 16 b) (ltb b (16 + n)) p), ltb-true b (16 + n) (both_right (leb 16 b) (ltb b (16 + n)) p))))
    (either (ltb b n) (leb 16 b && ltb b (16 + n)) e)

-- a choice names an input of g
pub choice_input : (n : ℕ) → n ≤ 16 → (b : ℕ) → is_choice n b ≡ true → input_of b < n
choice_input n small b e = ⊎_elim (λ (h : (0 ≤ b) × (b < 0 + n)). omega arith) (λ (h : (0 + 16 ≤ b) × (b < 0 + 16 + n)). omega arith) (test_choice n b e)

-- and is a byte below 32
pub choice_byte : (n : ℕ) → n ≤ 16 → (b : ℕ) → is_choice n b ≡ true → b < 32
choice_byte n small b e = ⊎_elim (λ (h : (0 ≤ b) × (b < 0 + n)). omega arith) (λ (h : (0 + 16 ≤ b) × (b < 0 + 16 + n)). omega arith) (test_choice n b e)

-- of a byte below 32, its input decides
pub choice_below : (n : ℕ) → n ≤ 16 → (b : ℕ) → b < 32 → is_choice n b ≡ ltb (input_of b) n
choice_below n small b low =
    same_test (is_choice n b) (ltb (input_of b) n) (λ e. lt-ltb (input_of b) n (choice_input n small b e))
    (λ e.
    let h = ltb-true (input_of b) n e in
    choice_test n b (⊎_elim (λ (l : b < 16). inl (omega arith)) (λ (l : 16 ≤ b). inr (omega arith)) (below_or_not b 16)))

-- each input j of g has two choices: j, and j + 16
pub plain_choice : (n : ℕ) → n ≤ 16 → (j : ℕ) → j < n → (is_choice n j ≡ true) × (input_of j ≡ j) × (inverted j ≡ false)
plain_choice n small j h = (choice_test n j (inl (omega arith)), omega arith, lt-leb 16 j (omega arith))

pub inverted_choice : (n : ℕ) → n ≤ 16 → (j : ℕ) → j < n → (is_choice n (j + 16) ≡ true) × (input_of (j + 16) ≡ j) × (inverted (j + 16) ≡ true)
inverted_choice n small j h = (choice_test n (j + 16) (inr (omega arith)), omega arith, le-leb 16 (j + 16) (omega arith))

-- the choices are the bytes of the rule
in_from : (j k b : ℕ) → In b (choices_from j k) → Choice j k b
unfolding In choices_from
in_from j zero b i = elim i [ ]
in_from j (suc k) b (inl e) = inl (omega arith)
in_from j (suc k) b (inr (inl e)) = inr (omega arith)
in_from j (suc k) b (inr (inr i)) =
    ⊎_elim (λ (h : (suc j ≤ b) × (b < suc j + k)). inl (omega arith)) (λ (h : (suc j + 16 ≤ b) × (b < suc j + 16 + k)). inr (omega arith)) (in_from (suc j) k b i)

from_in : (j k b : ℕ) → Choice j k b → In b (choices_from j k)
unfolding In choices_from
from_in j zero b (inl h) = absurd (omega arith)
from_in j zero b (inr h) = absurd (omega arith)
from_in j (suc k) b (inl h) = ⊎_elim (λ e. inl (sym e)) (λ l. inr (inr (from_in (suc j) k b (inl (omega arith))))) (eq-or-lt_of_le h.0)
from_in j (suc k) b (inr h) = ⊎_elim (λ e. inr (inl (sym e))) (λ l. inr (inr (from_in (suc j) k b (inr (omega arith))))) (eq-or-lt_of_le h.0)

pub in_choice : (n b : ℕ) → In b (choices_from 0 n) → is_choice n b ≡ true
in_choice n b i = choice_test n b (in_from 0 n b i)

pub choice_in : (n b : ℕ) → is_choice n b ≡ true → In b (choices_from 0 n)
choice_in n b e = from_in 0 n b (test_choice n b e)

-- as the rule tests it
pub listed : (n b : ℕ) → some_in (eqb b) (choices_from 0 n) ≡ is_choice n b
listed n b =
    same_test (some_in (eqb b) (choices_from 0 n)) (is_choice n b)
    (λ e. let x = some_at (eqb b) (choices_from 0 n) e in ap (is_choice n) (eqb-true b x.0 x.2) ∙ in_choice n x.0 x.1)
    (λ e. some_if (eqb b) b (choices_from 0 n) (choice_in n b e) (eq-eqb b b refl))

-- one by one: the choice at place c, and those after it
from_at : (j k c : ℕ) → c < 2 * k → drop c (choices_from j k) ≡ choice_at (2 * j + c) ∷ drop (suc c) (choices_from j k)
unfolding choices_from
from_at j zero c h = absurd (omega (arith, h))
from_at j (suc k) zero h = ap (λ (b : ℕ). b ∷ (j + 16) ∷ choices_from (suc j) k) (omega arith)
from_at j (suc k) (suc zero) h = ap (λ (b : ℕ). b ∷ choices_from (suc j) k) (omega arith)
from_at j (suc k) (suc (suc c)) h =
    from_at (suc j) k c (omega arith) ∙ ap (λ (m : ℕ). choice_at m ∷ drop (suc c) (choices_from (suc j) k)) (omega arith)

pub choices_at : (n c : ℕ) → c < 2 * n → drop c (choices_from 0 n) ≡ choice_at c ∷ drop (c + 1) (choices_from 0 n)
choices_at n c h = rw add-one (from_at 0 n c h ∙ ap (λ (m : ℕ). choice_at m ∷ drop (suc c) (choices_from 0 n)) (omega arith))

pub choices_length : (j k : ℕ) → length (choices_from j k) ≡ 2 * k
unfolding choices_from
choices_length j zero = refl
choices_length j (suc k) = omega (arith, choices_length (suc j) k)

-- and is a choice of n inputs
pub choice_at_is : (n : ℕ) → n ≤ 16 → (c : ℕ) → c < 2 * n → is_choice n (choice_at c) ≡ true
choice_at_is n small c h = ⊎_elim (λ (e : c % 2 < 1). choice_test n (choice_at c) (inl (omega arith))) (λ (e : 1 ≤ c % 2). choice_test n (choice_at c) (inr (omega arith))) (below_or_not (c % 2) 1)

-- ---- offered: the choices from place k of the order on that may follow w; from place 0, all that may

module _ (n : ℕ) (w : List ℕ) where
  unfoldable pub offered : ℕ → List ℕ
  offered k = filter (free_choice w) (drop k (choices_from 0 n))

  module _ (k : ℕ) where
    -- a choice that may not follow is passed over
    pub offered_skip : k < 2 * n → free_choice w (choice_at k) ≡ false → offered k ≡ offered (k + 1)
    unfolding offered filter
    offered_skip h e = simp (choices_at n k h, e) refl

    pub offered_take : k < 2 * n → free_choice w (choice_at k) ≡ true → offered k ≡ choice_at k ∷ offered (k + 1)
    unfolding offered filter
    offered_take h e = simp (choices_at n k h, e) refl

    -- after the last there is none
    pub offered_end : 2 * n ≤ k → offered k ≡ []
    unfolding offered filter
    offered_end h =
        let past : length (choices_from 0 n) ≤ k = omega (arith, choices_length 0 n) in
        simp (drop_of_length-le (choices_from 0 n) past) refl

-- ---- used inputs

pub uses_append : (w v : List ℕ) (j : ℕ) → uses (w ++ v) j ≡ uses w j || uses v j
uses_append w v j = some_append (λ b. eqb (input_of b) j) w v

-- one choice more uses its own input too
pub uses_adding : (w : List ℕ) (b j : ℕ) → uses (w adding b) j ≡ uses w j || eqb (input_of b) j
unfolding some_in
uses_adding w b j = uses_append w (b ∷ []) j ∙ ap (λ (t : Bool). uses w j || t) (or-false (eqb (input_of b) j))

-- one choice more is apart where it uses a free input
apart_adding : (w : List ℕ) (b : ℕ) → apart (w adding b) ≡ apart w && free_choice w b
unfolding apart some_in
apart_adding [] b = refl
apart_adding (c ∷ w) b =
    ap₂ (λ (x y : Bool). not x && y) (uses_adding w b (input_of c) ∙ ap (λ (t : Bool). uses w (input_of c) || t) (eqb_comm (input_of b) (input_of c))) (apart_adding w b)
    ∙ turn (uses w (input_of c)) (eqb (input_of c) (input_of b)) (apart w) (uses w (input_of b))
  where
    turn : (x y a z : Bool) → not (x || y) && (a && not z) ≡ not x && a && not (y || z)
    turn true y a z = refl
    turn false true a z = sym (and-false a)
    turn false false a z = refl

-- ---- what the rule allows: choices, no two of which share an input

follows_from : (n : ℕ) (u w : List ℕ) → apart u && follows (straight n) u w ≡ each_in (is_choice n) w && apart (u ++ w)
unfolding follows each_in
follows_from n u [] = and-true (apart u) ∙ sym (ap apart (append-nil u))
follows_from n u (b ∷ w) =
    let later = follows (straight n) (u adding b) w in
    ap (λ (t : Bool). apart u && (t && free_choice u b && later)) (listed n b)
    ∙ turn (apart u) (is_choice n b) (free_choice u b) later
    ∙ ap (λ (t : Bool). is_choice n b && t)
    (ap (λ (t : Bool). t && later) (sym (apart_adding u b)) ∙ follows_from n (u adding b) w ∙ ap (λ (v : List ℕ). each_in (is_choice n) w && apart v) (adding_append u b w))
    ∙ sym (and_assoc (is_choice n b) (each_in (is_choice n) w) (apart (u ++ b ∷ w)))
  where
    turn : (a c f l : Bool) → a && (c && f && l) ≡ c && (a && f && l)
    turn true true f l = refl
    turn true false f l = refl
    turn false true f l = refl
    turn false false f l = refl

pub follows_is : (n : ℕ) (w : List ℕ) → follows (straight n) [] w ≡ each_in (is_choice n) w && apart w
unfolding apart
follows_is n w = follows_from n [] w

-- so a choice of a free input may come next
pub place_next : (n : ℕ) (w : List ℕ) (b : ℕ) → follows (straight n) [] w ≡ true → is_choice n b ≡ true → uses w (input_of b) ≡ false → follows (straight n) [] (w adding b) ≡ true
unfolding follows
place_next n w b allowed choice new = follows_append (straight n) [] w (b ∷ []) ∙ both allowed (both (both (listed n b ∙ choice) (ap not new)) refl)

-- ---- how many inputs are free

-- each choice made uses one input more
apart_count : (n : ℕ) → n ≤ 16 → (w : List ℕ) → each_in (is_choice n) w ≡ true → apart w ≡ true → count n (λ j. not (uses w j)) + length w ≡ n
unfolding each_in apart some_in
apart_count n small [] e a = omega (arith, count_all n)
apart_count n small (b ∷ w) e a =
    let c = both_left (is_choice n b) (each_in (is_choice n) w) e in
    let new = both_left (free_choice w b) (apart w) a in
    let rest = apart_count n small w (both_right (is_choice n b) (each_in (is_choice n) w) e) (both_right (free_choice w b) (apart w) a) in
    let less =
    count_less (λ j. not (uses w j)) (λ j. not (uses (b ∷ w) j)) n (input_of b) (choice_input n small b c) new
    (ap (λ (t : Bool). not (t || uses w (input_of b))) (eq-eqb (input_of b) (input_of b) refl))
    (λ j d. ap (λ (t : Bool). not (t || uses w j)) (ne_eqb (input_of b) j d))
    in
    omega arith

-- the choices of the free inputs are two each
choices_number : (p : ℕ → Bool) (j k : ℕ) → j + k ≤ 16 → length (filter (λ b. p (input_of b)) (choices_from j k)) ≡ 2 * count k (λ i. p (j + i))
unfolding choices_from filter count
choices_number p j zero h = refl
choices_number p j (suc k) h =
    let plain : input_of j ≡ j = omega arith in
    let inverse : input_of (j + 16) ≡ j = omega arith in
    let low = count_low (λ i. p (j + i)) k in
    let first : p (j + 0) ≡ p j = ap p (add-zero j) in
    let later = choices_number p (suc j) k (omega arith) ∙ ap (λ (c : ℕ). 2 * c) (count_same (λ i. p (suc j + i)) (λ i. p (j + suc i)) k (λ i l. ap p (omega arith))) in
    simp (ap p plain, ap p inverse) (two (p j) j (j + 16) (filter (λ b. p (input_of b)) (choices_from (suc j) k)) ∙ omega (arith, ap {B = ℕ} (λ (t : Bool). cond t 1 0) first))
  where
    two : (t : Bool) (x y : ℕ) (l : List ℕ) → length (cond t (x ∷ cond t (y ∷ l) l) (cond t (y ∷ l) l)) ≡ 2 * cond t 1 0 + length l
    two true x y l = omega arith
    two false x y l = omega arith

-- ---- of a prefix that the rule allows

module _ (n : ℕ) (small : n ≤ 16) (w : List ℕ) (allowed : follows (straight n) [] w ≡ true) where
  -- as many inputs of g are free as inputs of f are unplaced
  pub free_count : count n (λ j. not (uses w j)) + length w ≡ n
  free_count =
      let is = sym (follows_is n w) ∙ allowed in
      apart_count n small w (both_left (each_in (is_choice n) w) (apart w) is) (both_right (each_in (is_choice n) w) (apart w) is)

  pub free_number : (k : ℕ) → k + length w ≡ n → length (next (straight n) w) ≡ 2 * k
  free_number k total =
      let whole = count_same (λ i. not (uses w (0 + i))) (λ j. not (uses w j)) n (λ i l. ap (λ (j : ℕ). not (uses w j)) (zero-add i)) in
      choices_number (λ j. not (uses w j)) 0 n (omega arith) ∙ omega (arith, free_count)

  pub free_input : length w < n → (j : ℕ) × (j < n) × (uses w j ≡ false)
  free_input more = let x = count_at (λ j. not (uses w j)) n (omega (arith, free_count)) in (x.0, x.1, not-true (uses w x.0) x.2)

  -- each choice made is a choice byte of n inputs, and names an input of g
  pub placed_choice : (i : ℕ) → i < length w → is_choice n (get_or w i 0) ≡ true
  placed_choice i h = each_at (is_choice n) (get_or w i 0) w (both_left (each_in (is_choice n) w) (apart w) (sym (follows_is n w) ∙ allowed)) (getD_in w i h)

  pub placed_input : (i : ℕ) → i < length w → input_of (get_or w i 0) < n
  placed_input i h = choice_input n small (get_or w i 0) (placed_choice i h)

  -- no two of them share one
  pub placed_apart : apart w ≡ true
  placed_apart = both_right (each_in (is_choice n) w) (apart w) (sym (follows_is n w) ∙ allowed)
