-- Where f and g disagree is where lists of them meet. The idea: a carried cube holds y exactly where the cube holds the x read at y,
-- so f and g disagree at y where a carried cube of a list of f and a cube of the list of g against it both hold y. Neither looks at
-- inputs beyond n, and the smallest of two lists is the lesser of theirs.
use Prim.Native.Nat.{ℕ, ◌+◌, ◌%◌, ◌^◌, ◌≤◌, ◌<◌}
use mathlib.Core.Path.{◌≡◌, refl, sym, ap, ap₂, ◌∙◌, subst}
use mathlib.Core.Bool.{Bool, true, ◌&&◌, ◌||◌, and-or_distrib_right}
use mathlib.Core.List.{List, []}
use Rattle.std.specs.declared.option.Option.{Option}
use Rattle.std.specs.declared.option.Option.TheVariants.{None, Some}
use native.Mathlib.Omega.{arith}
use lib.ListN.{length, get_or, take}
use Rattle.std.specs.List.{list_any}
use Rattle.std.proofs.lemmas.Grind.{common_steps}
use Rattle.std.proofs.lemmas.List.Folds.{list_any_more}
use Rattle.bits.specs.Bits.{smallest, lesser}
use Rattle.bits.proofs.Tests.{both_left}
use Rattle.bits.proofs.Bit.{bits_le}
use Rattle.bits.proofs.Below.{any_never}
use Rattle.bits.proofs.Smallest.{Means, smallest_means, smallest_none, smallest_same, smallest_or, smallest_narrow, lesser_none, lesser_assoc}
use Rattle.cubes.specs.Cubes.{cube_holds, some_holds, least_with}
use Rattle.cubes.specs.Values.{in_pairs}
use Rattle.cubes.proofs.Masks.{holds_at, holds_low}
use Rattle.cubes.proofs.Lists.{each_map, some_same, of_pair, some_pairs}
use Rattle.rules.specs.Rules.{follows}
use Rattle.records.specs.Records.{inputs, Accepted}
use Rattle.records.proofs.Frame.{few_inputs}
use Rattle.records.proofs.Cubes.{CleanList}
use Rattle.wirings.specs.Wirings.{straight, read_at, disagreement}
use Rattle.wirings.specs.Pairs.{asks_one, asks_zero, carried_pos, carried_neg, side, against}
use Rattle.wirings.proofs.Agreement.{carried_holds, landed_lt, placed_byte, clean_side, both_hold, disagree_is}
use Rattle.partial.specs.declared.Masks.{Masks}
use Rattle.partial.specs.Partial.{carried, prefix, Formed}
use Rattle.partial.proofs.Standing.{stands_depth}
use Rattle.disagree.specs.Meeting.{some_carried, meeting}

-- ---- what a cube shares is no smaller than the inputs that it asks to be 1, so a least so far that is no greater than they stays

pub lesser_stays : (P N x : ℕ) (l : List ℕ) → P < 2 ^ 8 → x ≤ P → Some x ≡ lesser (Some x) (least_with 8 P N l)
unfolding least_with lesser
lesser_stays P N x l p h = go (smallest (2 ^ 8) shared) (smallest_means shared (2 ^ 8))
  where
    shared : ℕ → Bool
    shared y = cube_holds P N y && some_holds l y

    go : (o : Option ℕ) → Means (2 ^ 8) shared o → Some x ≡ lesser (Some x) o
    go None m = refl
    go (Some y) m =
        let above = bits_le 8 P y p (λ i k. (holds_at P N y (both_left (cube_holds P N y) (some_holds l y) m.passes) i k).ones) in
        ap Some (omega arith)

-- ---- the walk over the list of f

module _ (w m : List ℕ) where
  -- the smallest pattern that some of these cubes, carried over, shares with a cube of the list of g
  unfoldable pub met_by : List (List ℕ) → Option ℕ
  met_by ps = smallest (2 ^ 8) (λ y. list_any (of_pair (λ P N. cube_holds (carried_pos w P N) (carried_neg w P N) y)) ps && some_holds m y)

  pub met_pairs : (l : List ℕ) → meeting w l m ≡ met_by (in_pairs l)
  unfolding meeting met_by
  met_pairs l =
      smallest_same _ _ (2 ^ 8) (λ y _. ap (λ (t : Bool). t && some_holds m y) (some_pairs (λ P N. cube_holds (carried_pos w P N) (carried_neg w P N) y) l))

  pub met_none : met_by [] ≡ None
  unfolding met_by
  met_none = smallest_none _ (2 ^ 8) (any_never (2 ^ 8))

  module _ (ps : List (List ℕ)) (i : ℕ) (d : List ℕ) (h : i < length ps) where
    abbrev P : ℕ
    P = get_or (get_or ps i d) 0 0

    abbrev N : ℕ
    N = get_or (get_or ps i d) 1 0

    -- one pair more
    met_more : met_by (take (i + 1) ps) ≡ lesser (met_by (take i ps)) (least_with 8 (carried_pos w P N) (carried_neg w P N) m)
    unfolding met_by least_with
    met_more =
        let holds : ℕ → List ℕ → Bool = λ y. of_pair (λ P N. cube_holds (carried_pos w P N) (carried_neg w P N) y) in
        smallest_same _ _ (2 ^ 8)
        (λ y _.
        ap (λ (t : Bool). t && some_holds m y) (list_any_more (holds y) ps i d h)
        ∙ and-or_distrib_right (list_any (holds y) (take i ps)) (holds y (get_or ps i d)) (some_holds m y))
        ∙ smallest_or (λ y. list_any (holds y) (take i ps) && some_holds m y) (λ y. holds y (get_or ps i d) && some_holds m y) (2 ^ 8)

    pub known_more : (known : Option ℕ) (n : ℕ)
        → lesser known (met_by (take (i + 1) ps)) ≡ lesser (lesser known (met_by (take i ps))) (least_with 8 (carried n w P N).pos (carried n w P N).neg m)
    unfolding carried
    known_more known n = ap (lesser known) met_more ∙ sym (lesser_assoc known _ _)

-- the walk at its start, with a pair more, and at its end
pub ruleset walk = (common_steps, lesser_none, met_none, known_more, met_pairs)

-- ---- both lists of accepted records

module _ (q : ℕ) (f g : List ℕ) (ok : Accepted f g) (w : List ℕ) (allowed : follows (straight (inputs g)) [] w ≡ true) (whole : length w ≡ inputs g) where
  abbrev n : ℕ
  n = inputs g

  small : n ≤ 8
  small = few_inputs f g ok

  -- list s of f, carried over, and the list of g against it
  abbrev met : ℕ → ℕ → Bool
  met s y = some_carried w (side s f) y && some_holds (side (against q s) g) y

  of_f : (s : ℕ) → CleanList n (side s f)
  of_f s = subst (λ (k : ℕ). CleanList k (side s f)) ok.equal (clean_side s f ok.bytes_f ok.fine_f)

  of_g : (s : ℕ) → CleanList n (side s g)
  of_g s = clean_side s g ok.bytes_g ok.fine_g

  -- they meet at y where both hold, f read at x
  met_is : (s y : ℕ) → both_hold q f g s (read_at w y) y ≡ met s y
  met_is s y =
      ap (λ (t : Bool). t && some_holds (side (against q s) g) y)
      (some_same _ _ (side s f)
      (each_map _ _ (λ P N c. sym (carried_holds n small w whole (λ i h. placed_byte n small w allowed whole i (omega arith)) P N c.pos c.neg y)) (side s f) (of_f s)))

  -- which no input beyond n decides
  met_low : (s y : ℕ) → met s y ≡ met s (y % 2 ^ n)
  met_low s y =
      ap₂ ◌&&◌
      (some_same _ _ (side s f) (each_map _ _ (λ P N c. holds_low n _ _ (landed_lt n small w allowed whole asks_one P N) (landed_lt n small w allowed whole asks_zero P N) y) (side s f) (of_f s)))
      (some_same _ _ (side (against q s) g) (each_map _ _ (λ P N d. holds_low n P N d.pos d.neg y) (side (against q s) g) (of_g (against q s))))

  pub disagreement_met : disagreement q f g w ≡ lesser (meeting w (side 0 f) (side (against q 0) g)) (meeting w (side 1 f) (side (against q 1) g))
  unfolding disagreement meeting
  disagreement_met =
      smallest_same _ _ (2 ^ n) (λ y _. disagree_is q f g (read_at w y) y ∙ ap₂ ◌||◌ (met_is 0 y) (met_is 1 y))
      ∙ sym (smallest_narrow (λ y. met 0 y || met 1 y) n 8 small (λ y. ap₂ ◌||◌ (met_low 0 y) (met_low 1 y)))
      ∙ smallest_or (met 0) (met 1) (2 ^ 8)

-- ---- as the code meets it, of a whole wiring by value

module _ (r : Masks) (s : Formed r) (q : ℕ) (f g : List ℕ) (ok : Accepted f g) where
  pub by_lists : r.depth ≡ r.n → r.n ≡ inputs g
      → disagreement q f g (prefix r)
      ≡ lesser (meeting (prefix r) (side 0 f) (side (against q 0) g)) (meeting (prefix r) (side 1 f) (side (against q 1) g))
  by_lists whole of_g =
      disagreement_met q f g ok (prefix r) (subst (λ (n : ℕ). follows (straight n) [] (prefix r) ≡ true) of_g s.allowed)
      (sym (stands_depth r r.n (prefix r) s) ∙ whole ∙ of_g)
