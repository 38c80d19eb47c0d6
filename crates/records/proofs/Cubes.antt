-- Lists of cubes without a fault, and what code 7 says on patterns.
use Prim.Native.Nat.{ℕ, ◌+◌, ◌*◌, ◌^◌, ◌≤◌, ◌<◌}
use mathlib.Core.Path.{◌≡◌, refl, sym, ap, ap₂, ◌∙◌, subst}
use mathlib.Core.Bool.{Bool, true, false, cond, ◌&&◌}
use mathlib.Core.List.{List, [], ◌∷◌}
use borrow.Author.Tests.{eq-eqb, eqb-true, eqb-false}
use native.Mathlib.Omega.{arith}
use lib.Dec.{eqb}
use lib.ListN.{get_or, take, drop}
use lib.Seq.{take-add, drop_at, drop-drop, get_or-drop, length-take-le}
use Rattle.bits.specs.Bits.{any, or_zero}
use Rattle.bits.proofs.Smallest.{found_any, none_any, smallest_narrow}
use Rattle.cubes.specs.Cubes.{cube_holds, cubes_share, some_cube, some_holds, least_with}
use Rattle.std.specs.declared.option.Option.TheVariants.{None, Some}
use Rattle.cubes.proofs.Masks.{share_masks, holds_low}
use Rattle.cubes.proofs.Lists.{Each, each_map, each_bytes, each_take, each_drop, some_same, cube_meets, lists_meet}
use Rattle.answers.specs.Answers.{fault_at, sound}
use Rattle.records.specs.Records.{Bytes, inputs, on_count, off_count, cubes_at, off_at, on_list, off_list, cube_code, clash_code, clash_pattern, no_pattern, first_fault, header_fault, cubes_fault, clash_fault, record_fault}
use Rattle.records.proofs.Frame.{Framed, header_sound, ends_at_clash}
use Rattle.records.proofs.Codes.{Clean, code_clean}

-- ---- a list has no fault exactly when each cube has none

module _ (code pattern : ℕ → ℕ → ℕ) where
  pub first_each : (l : List ℕ) (at : ℕ) → (first_fault code pattern l at).code ≡ 0 → Each (λ P N. code P N ≡ 0) l
  unfolding first_fault Each
  first_each [] at e = tt
  first_each (P ∷ []) at e = tt
  first_each (P ∷ N ∷ l) at e = go (eqb (code P N) 0) refl e (first_each l (at + 2))
    where
      go : (t : Bool) → eqb (code P N) 0 ≡ t → (cond t (first_fault code pattern l (at + 2)) (fault_at (code P N) at (pattern P N))).code ≡ 0
          → ((first_fault code pattern l (at + 2)).code ≡ 0 → Each (λ P N. code P N ≡ 0) l) → (code P N ≡ 0) × Each (λ P N. code P N ≡ 0) l
      go true q h rest = (eqb-true _ _ q, rest h)
      go false q h rest = absurd (eqb-false _ _ q h)

  pub each_first : (l : List ℕ) (at : ℕ) → Each (λ P N. code P N ≡ 0) l → first_fault code pattern l at ≡ sound
  unfolding first_fault Each
  each_first [] at e = refl
  each_first (P ∷ []) at e = refl
  each_first (P ∷ N ∷ l) at e = simp (eq-eqb _ _ e.0) (each_first l (at + 2) e.1)

-- codes and patterns that agree at each cube give the same fault
pub first_same : (code pattern code' pattern' : ℕ → ℕ → ℕ) (l : List ℕ) (at : ℕ) → Each (λ P N. (code P N ≡ code' P N) × (pattern P N ≡ pattern' P N)) l
    → first_fault code pattern l at ≡ first_fault code' pattern' l at
unfolding first_fault Each
first_same code pattern code' pattern' [] at e = refl
first_same code pattern code' pattern' (P ∷ []) at e = refl
first_same code pattern code' pattern' (P ∷ N ∷ l) at e =
    λ i. cond (eqb (e.0.0 i) 0) (first_same code pattern code' pattern' l (at + 2) e.1 i) (fault_at (e.0.0 i) at (e.0.1 i))

-- ---- the width of the shared-pattern test: for clean cubes of n inputs, patterns of n inputs and of eight say the same

abbrev pub CleanList : ℕ → List ℕ → Type 0
CleanList n l = Each (Clean n) l

pub clean_list : (n : ℕ) (l : List ℕ) (at : ℕ) → ((i : ℕ) → get_or l i 0 < 2 ^ 8) → (first_fault (cube_code n) no_pattern l at).code ≡ 0 → CleanList n l
clean_list n l at b e =
    each_map _ _ (λ P N h. code_clean n P N h.0 h.1 h.2) l (each_bytes _ l b (first_each (cube_code n) no_pattern l at e))

pub clash_width : (n : ℕ) → n ≤ 8 → (on off : List ℕ) (at : ℕ) → CleanList n on → CleanList n off
    → first_fault (clash_code n off) (clash_pattern n off) on at ≡ first_fault (clash_code 8 off) (clash_pattern 8 off) on at
unfolding clash_code clash_pattern least_with
clash_width n small on off at c d = first_same _ _ _ _ on at (each_map _ _ (λ P N p. (same_code P N p, same_pattern P N p)) on c)
  where
    same_code : (P N : ℕ) → Clean n P N → clash_code n off P N ≡ clash_code 8 off P N
    same_code P N p =
        ap {B = ℕ} (λ (t : Bool). cond t 7 0)
        (some_same _ _ off
        (each_map _ _ (λ P' N' q. share_masks P N P' N' n p.pos q.pos p.neg_byte q.neg_byte ∙ sym (share_masks P N P' N' 8 p.pos_byte q.pos_byte p.neg_byte q.neg_byte)) off d))

    same_pattern : (P N : ℕ) → Clean n P N → clash_pattern n off P N ≡ clash_pattern 8 off P N
    same_pattern P N p =
        ap or_zero
        (sym (smallest_narrow (λ x. cube_holds P N x && some_holds off x) n 8 small (λ x.
        ap₂ ◌&&◌ (holds_low n P N p.pos p.neg x) (some_same _ _ off (each_map _ _ (λ P' N' q. holds_low n P' N' q.pos q.neg x) off d)))))

-- ---- what was found for an on cube: code 7 with the pattern, or no code

-- the cube and the off list meet at x
abbrev pub met : List ℕ → ℕ → ℕ → ℕ → Bool
met off P N x = cube_holds P N x && some_holds off x

-- whether they do anywhere decides the code
pub code_met : (n : ℕ) (off : List ℕ) (P N : ℕ) (t : Bool) → any (2 ^ n) (met off P N) ≡ t → clash_code n off P N ≡ cond t 7 0
unfolding clash_code cubes_share
code_met n off P N t e = ap {B = ℕ} (λ (t : Bool). cond t 7 0) (cube_meets (2 ^ n) (λ x. x) P N off ∙ e)

module _ (n : ℕ) (off : List ℕ) (P N : ℕ) where
  pub clash_at : (x : ℕ) → Some x ≡ least_with n P N off → (clash_code n off P N ≡ 7) × (clash_pattern n off P N ≡ x)
  unfolding clash_pattern least_with or_zero
  clash_at x e = (code_met n off P N true (found_any (met off P N) (2 ^ n) x (sym e)), ap or_zero (sym e))

  pub clash_nowhere : None ≡ least_with n P N off → clash_code n off P N ≡ 0
  unfolding least_with
  clash_nowhere e = code_met n off P N false (none_any (met off P N) (2 ^ n) (sym e))

-- ---- the two lists of a record: what holds of each of its cubes holds of each cube of either list

module _ (Q : ℕ → ℕ → Type 0) (s : List ℕ) (each : Each Q (drop (cubes_at s) s)) where
  pub on_each : Each Q (on_list s)
  unfolding on_list
  on_each = each_take Q (on_count s) (drop (cubes_at s) s) each

  pub off_each : Each Q (off_list s)
  unfolding off_list
  off_each =
      each_take Q (off_count s) (drop (off_at s) s)
      (subst (Each Q) (drop-drop (2 * on_count s) (cubes_at s) s) (each_drop Q (on_count s) (drop (cubes_at s) s) each))

-- ---- the lists of a framed record whose cubes have no fault

pub all_clean : (s : List ℕ) → Bytes s → (cubes_fault s).code ≡ 0 → CleanList (inputs s) (drop (cubes_at s) s)
all_clean s bytes e = clean_list (inputs s) (drop 5 s) 5 (λ i. subst (λ (b : ℕ). b < 2 ^ 8) (sym (get_or-drop 5 s i 0)) (bytes (5 + i))) e

module _ (s : List ℕ) (framed : Framed s) where
  -- the on list is what stands between the cubes' start and the off list's
  pub on_front : drop (cubes_at s) (take (off_at s) s) ≡ on_list s
  unfolding on_list
  on_front =
      ap (drop 5) (take-add 5 (2 * on_count s) s)
      ∙ drop_at (take 5 s) (take (2 * on_count s) (drop 5 s)) 5 (length-take-le 5 s (omega arith))

  module _ (bytes : Bytes s) (cubes : (cubes_fault s).code ≡ 0) where
    -- the code tests eight inputs, and a part of the record that ends at the off list
    pub clash_by_code : first_fault (clash_code 8 (off_list s)) (clash_pattern 8 (off_list s)) (drop (cubes_at s) (take (off_at s) s)) (cubes_at s) ≡ clash_fault s
    clash_by_code =
        ap (λ (on : List ℕ). first_fault (clash_code 8 (off_list s)) (clash_pattern 8 (off_list s)) on 5) on_front
        ∙ sym (clash_width (inputs s) framed.header.n_byte.most (on_list s) (off_list s) 5 (on_each _ s (all_clean s bytes cubes)) (off_each _ s (all_clean s bytes cubes)))

-- so it tells the record's fault, where header and cubes have none
pub clash_told : (s off : List ℕ) → Bytes s → (header_fault s).code ≡ 0 → (cubes_fault s).code ≡ 0 → off ≡ off_list s
    → first_fault (clash_code 8 off) (clash_pattern 8 off) (drop (cubes_at s) (take (off_at s) s)) (cubes_at s) ≡ record_fault s
clash_told s off bytes h c e =
    ap (λ (l : List ℕ). first_fault (clash_code 8 l) (clash_pattern 8 l) (drop (cubes_at s) (take (off_at s) s)) (cubes_at s)) e
    ∙ clash_by_code s (header_sound s h) bytes c ∙ sym (ends_at_clash s h c)

-- ---- code 7: some on cube shares a pattern with some off cube exactly when some pattern is both on and off

pub clash_means : (n : ℕ) (on off : List ℕ) → some_cube (λ P N. some_cube (cubes_share n P N) off) on ≡ any (2 ^ n) (λ x. some_holds on x && some_holds off x)
unfolding cubes_share
clash_means n on off = lists_meet (2 ^ n) (λ x. x) on off
