-- What the mask tests say of patterns. The idea: a cube holds x where, at each input, P ≤ x and N + x ≤ 1 as bits; the
-- operators of the code act bit by bit, so each law is one question of arithmetic on single bits.
use Prim.Native.Nat.{ℕ, ◌+◌, ◌-◌, ◌*◌, ◌/◌, ◌%◌, ◌^◌, ◌≤◌, ◌<◌, min, max}
use mathlib.Core.Path.{◌≡◌, refl, sym, ap, ap₂, ◌∙◌}
use mathlib.Core.Bool.{Bool, true, false, cond, ◌&&◌}
use Rattle.std.specs.declared.option.Option.TheVariants.{Some, None}
use mathlib.Core.Logic.{⊎_elim}
use native.Mathlib.Nat.{lt_of_le_of_lt}
use native.Mathlib.Omega.{arith}
use borrow.Author.Tests.{leb-true, le-leb, eqb-true, eqb-false, eq-eqb}
use lib.Bits.{bit_and, bit_or, and_le_r, and_comm, and_block, or_lt, or_mod, or_shr}
use lib.Dec.{leb, eqb}
use Rattle.bits.specs.Bits.{bit}
use Rattle.bits.proofs.Tests.{both, both_left, both_right, same_test, not_passed, below_or_not}
use Rattle.bits.proofs.Below.{every_at, every_if, any_at, any_if}
use Rattle.bits.proofs.Bit.{bit_le, bit-and, bit-or, bit_not, bit_zero, bit_mod, bit_above, bits_le, bits_eq, bits_zero}
use Rattle.bits.proofs.Smallest.{smallest_by}
use Rattle.cubes.specs.Cubes.{meets, cube_holds, cubes_share, least_shared}

-- ---- a cube holds a pattern exactly when each input is as it asks

-- input i is as the cube asks, as two orders of bits
pub record Meets (P N x i : ℕ) : Type 0 where
  pub ones : bit i P ≤ bit i x
  pub zeros : bit i N + bit i x ≤ 1

pub holds_at : (P N x : ℕ) → cube_holds P N x ≡ true → (i : ℕ) → i < 8 → Meets P N x i
unfolding cube_holds
holds_at P N x e i h =
    let t : meets P N x i ≡ true = every_at (meets P N x) 8 e i h in
    let one : Bool = leb (bit i P) (bit i x) in
    let zero : Bool = leb (bit i N + bit i x) 1 in
    record { ones = leb-true _ _ (both_left one zero t); zeros = leb-true _ _ (both_right one zero t) }

pub holds_if : (P N x : ℕ) → ((i : ℕ) → i < 8 → Meets P N x i) → cube_holds P N x ≡ true
unfolding cube_holds
holds_if P N x f = every_if (meets P N x) 8 (λ i h. both (le-leb _ _ (f i h).ones) (le-leb _ _ (f i h).zeros))

-- a pattern is the cube that names every input as it has it: to share a pattern with that cube is to hold this one
pub as_cube : (P N x : ℕ) → x < 2 ^ 8 → cubes_share 8 x (2 ^ 8 - 1 - x) P N ≡ cube_holds P N x
unfolding cubes_share
as_cube P N x h =
    same_test _ _
    (λ e.
    let w = any_at (λ y. cube_holds x y' y && cube_holds P N y) (2 ^ 8) e in
    let y = w.0 in
    let own = holds_at x y' y (both_left (cube_holds x y' y) (cube_holds P N y) w.2) in
    let same : y ≡ x = bits_eq 8 y x w.1 h (λ i l. omega (arith, (own i l).ones, (own i l).zeros, bit_not 8 i x h l)) in
    ap (cube_holds P N) (sym same) ∙ both_right (cube_holds x y' y) (cube_holds P N y) w.2)
    (λ e. any_if (λ y. cube_holds x y' y && cube_holds P N y) (2 ^ 8) x h (both (holds_if x y' x (λ i l. record { ones = omega arith; zeros = omega (arith, bit_not 8 i x h l) })) e))
  where
    y' : ℕ
    y' = 2 ^ 8 - 1 - x

-- ---- two cubes share a pattern exactly when no input is asked to be both 1 and 0; the witness is P or P'

module _ (P N P' N' : ℕ) where
  -- no input is in P or P' and in N or N' too
  abbrev pub Clear : Type 0
  Clear = bit_and (bit_or P P') (bit_or N N') ≡ 0

  clear_at : Clear → (i : ℕ) → min (max (bit i P) (bit i P')) (max (bit i N) (bit i N')) ≡ 0
  clear_at e i =
      ap₂ min (sym (bit-or i P P')) (sym (bit-or i N N')) ∙ sym (bit-and i (bit_or P P') (bit_or N N')) ∙ ap (bit i) e ∙ bit_zero i

  pub witness : Clear → (cube_holds P N (bit_or P P') ≡ true) × (cube_holds P' N' (bit_or P P') ≡ true)
  witness e = (
    holds_if P N (bit_or P P') (λ i h. record {
      ones = omega (arith, bit-or i P P');
      zeros = omega (arith, bit-or i P P', clear_at e i, bit_le i P, bit_le i P', bit_le i N);
    }),
    holds_if P' N' (bit_or P P') (λ i h. record {
      ones = omega (arith, bit-or i P P');
      zeros = omega (arith, bit-or i P P', clear_at e i, bit_le i P, bit_le i P', bit_le i N');
    }),
  )

  -- where both hold any pattern, no input is asked to be both
  pub shared_clear : N < 2 ^ 8 → N' < 2 ^ 8 → (x : ℕ) → cube_holds P N x ≡ true → cube_holds P' N' x ≡ true → Clear
  shared_clear n n' x e e' =
      bits_zero 8 (bit_and (bit_or P P') (bit_or N N'))
      (lt_of_le_of_lt (and_le_r (bit_or P P') (bit_or N N')) (or_lt 8 N N' n n'))
      (λ i h.
      bit-and i (bit_or P P') (bit_or N N') ∙ ap₂ min (bit-or i P P') (bit-or i N N')
      ∙ omega (arith, (holds_at P N x e i h).ones, (holds_at P N x e i h).zeros, (holds_at P' N' x e' i h).ones, (holds_at P' N' x e' i h).zeros))

  -- and no input is asked to be 1 by the one and 0 by the other
  pub not_crossed : N' < 2 ^ 8 → (x : ℕ) → cube_holds P N x ≡ true → cube_holds P' N' x ≡ true → bit_and P N' ≡ 0
  not_crossed n' x e e' =
      bits_zero 8 (bit_and P N') (lt_of_le_of_lt (and_le_r P N') n') (λ i h. bit-and i P N' ∙ omega (arith, (holds_at P N x e i h).ones, (holds_at P' N' x e' i h).zeros))

  -- the test by masks, for cubes of any number of inputs
  pub share_masks : (n : ℕ) → P < 2 ^ n → P' < 2 ^ n → N < 2 ^ 8 → N' < 2 ^ 8 → cubes_share n P N P' N' ≡ eqb (bit_and (bit_or P P') (bit_or N N')) 0
  unfolding cubes_share
  share_masks n p p' h h' =
      same_test _ _
      (λ e.
      let w = any_at (λ x. cube_holds P N x && cube_holds P' N' x) (2 ^ n) e in
      eq-eqb _ _
      (shared_clear h h' w.0
      (both_left (cube_holds P N w.0) (cube_holds P' N' w.0) w.2)
      (both_right (cube_holds P N w.0) (cube_holds P' N' w.0) w.2)))
      (λ e.
      let w = witness (eqb-true _ _ e) in
      any_if (λ x. cube_holds P N x && cube_holds P' N' x) (2 ^ n) (bit_or P P') (or_lt n P P' p p') (both w.0 w.1))

  -- the smallest pattern that they share: each input that is asked to be 1 is 1 in every shared pattern
  pub shared_none : N < 2 ^ 8 → N' < 2 ^ 8 → (Clear → ⊥) → least_shared 8 P N P' N' ≡ None
  unfolding least_shared
  shared_none n n' crossed =
      smallest_by _ (2 ^ 8) None
      (λ x _.
      not_passed _
      (λ e. crossed (shared_clear n n' x (both_left (cube_holds P N x) (cube_holds P' N' x) e) (both_right (cube_holds P N x) (cube_holds P' N' x) e))))

  pub shared_least : P < 2 ^ 8 → P' < 2 ^ 8 → Clear → least_shared 8 P N P' N' ≡ Some (bit_or P P')
  unfolding least_shared
  shared_least p p' clear =
      let w = witness clear in
      smallest_by shared (2 ^ 8) (Some (bit_or P P')) record {
        within = or_lt 8 P P' p p';
        passes = both w.0 w.1;
        none_below = λ y l. not_passed (shared y) (λ q. omega (arith, l, not_below y q));
      }
    where
      shared : ℕ → Bool
      shared x = cube_holds P N x && cube_holds P' N' x

      not_below : (x : ℕ) → shared x ≡ true → bit_or P P' ≤ x
      not_below x e =
          bits_le 8 (bit_or P P') x (or_lt 8 P P' p p')
          (λ i h.
          omega (
            arith,
            bit-or i P P',
            (holds_at P N x (both_left (cube_holds P N x) (cube_holds P' N' x) e) i h).ones,
            (holds_at P' N' x (both_right (cube_holds P N x) (cube_holds P' N' x) e) i h).ones,
          ))

  -- in one: there is one if no input is asked to be both
  pub least_masks : P < 2 ^ 8 → N < 2 ^ 8 → P' < 2 ^ 8 → N' < 2 ^ 8
      → least_shared 8 P N P' N' ≡ cond (eqb (bit_and (bit_or P P') (bit_or N N')) 0) (Some (bit_or P P')) None
  least_masks p n p' n' = go (eqb (bit_and (bit_or P P') (bit_or N N')) 0) refl
    where
      go : (t : Bool) → eqb (bit_and (bit_or P P') (bit_or N N')) 0 ≡ t → least_shared 8 P N P' N' ≡ cond t (Some (bit_or P P')) None
      go true e = shared_least p p' (eqb-true _ _ e)
      go false e = shared_none n n' (eqb-false _ _ e)

-- two cubes share none where one of them asks for a 1 and the other for a 0; one number has both questions
pub opposed_none : (P N P' N' own other : ℕ) → N < 2 ^ 8 → P' < 2 ^ 8 → N' < 2 ^ 8 → own ≡ P * 256 + N → other ≡ N' * 256 + P'
    → (bit_and own other ≡ 0 → ⊥) → least_shared 8 P N P' N' ≡ None
unfolding least_shared
opposed_none P N P' N' own other n p' n' e e' asked =
    smallest_by _ (2 ^ 8) None
    (λ x _. not_passed _ (λ h. asked (nothing x (both_left (cube_holds P N x) (cube_holds P' N' x) h) (both_right (cube_holds P N x) (cube_holds P' N' x) h))))
  where
    nothing : (x : ℕ) → cube_holds P N x ≡ true → cube_holds P' N' x ≡ true → bit_and own other ≡ 0
    nothing x h h' =
        ap₂ bit_and e e' ∙ and_block 8 P N' N P' n p'
        ∙ ap₂ (λ (a b : ℕ). a * 256 + b) (not_crossed P N P' N' n' x h h') (and_comm N P' ∙ not_crossed P' N' P N n x h' h)

-- masks that stand in one number: those of an or of two
pub or_low : (own other : ℕ) → bit_or own other % 256 ≡ bit_or (own % 256) (other % 256)
or_low own other = or_mod own other 8

pub or_high : (own other : ℕ) → bit_or own other / 256 ≡ bit_or (own / 256) (other / 256)
or_high own other = or_shr own other 8

-- what shared masks give, whether they stand apart or in one number
pub ruleset shared = (shared_none, shared_least, or_low, or_high)

-- masks in one number are read off again
pub least_apart : (P N P' N' own other : ℕ) → P < 2 ^ 8 → P' < 2 ^ 8 → own ≡ N * 256 + P → other ≡ N' * 256 + P'
    → least_shared 8 (own % 256) (own / 256) (other % 256) (other / 256) ≡ least_shared 8 P N P' N'
least_apart P N P' N' own other p p' e e' =
    let ones : own % 256 ≡ P = omega arith in
    let zeros : own / 256 ≡ N = omega arith in
    let ones' : other % 256 ≡ P' = omega arith in
    let zeros' : other / 256 ≡ N' = omega arith in
    cc

-- ---- a cube of n inputs looks at no others

-- so what it holds it holds with any other values of the others
holds_alike : (n P N : ℕ) → P < 2 ^ n → N < 2 ^ n → (x y : ℕ) → ((i : ℕ) → i < n → bit i x ≡ bit i y) → cube_holds P N x ≡ true → cube_holds P N y ≡ true
holds_alike n P N p m x y same e =
    holds_if P N y (λ i h.
    let o = holds_at P N x e i h in
    ⊎_elim
    (λ (l : i < n). record { ones = omega (arith, o.ones, same i l); zeros = omega (arith, o.zeros, same i l) })
    (λ (l : n ≤ i). record { ones = omega (arith, bit_above i n p l); zeros = omega (arith, bit_above i n m l, bit_le i y) })
    (below_or_not i n))

pub holds_low : (n P N : ℕ) → P < 2 ^ n → N < 2 ^ n → (x : ℕ) → cube_holds P N x ≡ cube_holds P N (x % 2 ^ n)
holds_low n P N p m x =
    same_test (cube_holds P N x) (cube_holds P N (x % 2 ^ n))
    (holds_alike n P N p m x (x % 2 ^ n) (λ i l. sym (bit_mod i n x l)))
    (holds_alike n P N p m (x % 2 ^ n) x (λ i l. bit_mod i n x l))
