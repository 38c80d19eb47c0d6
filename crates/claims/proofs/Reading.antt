-- What is read without fault is exactly the bytes of a right tree, over any choice rule and any reading of closings. The idea: each
-- reading goes on just where the bytes of its tree end, so readings one after the other read their bytes one after the other.
use Prim.Native.Nat.{ℕ, zero, suc, ◌+◌, ◌*◌, ◌≤◌, ◌<◌}
use mathlib.Core.Path.{◌≡◌, refl, sym, ap, ap₂, ◌∙◌, subst}
use mathlib.Core.Bool.{Bool, true, false, cond, false≢true}
use mathlib.Core.List.{List, [], ◌∷◌, ◌++◌, append_assoc}
use mathlib.Core.Logic.{inl, inr}
use native.Mathlib.Nat.{add-zero, suc-mul, mul-le-mul_right}
use native.Mathlib.Numerals.{add-one}
use native.Mathlib.Omega.{arith}
use borrow.Author.Tests.{leb-true, leb-false, lt-leb, eqb-true, eq-eqb, ne_eqb}
use lib.Dec.{leb, eqb}
use lib.ListN.{length, get_or, drop, length-append, length-drop}
use lib.Seq.{drop-cons, drop-drop, drop-append_seam, get_or-drop}
use Rattle.answers.specs.declared.Fault.{Fault}
use Rattle.answers.specs.Answers.{fault}
use Rattle.answers.proofs.Faults.{next_chosen, this_chosen, chosen}
use Rattle.bits.proofs.Tests.{both, both_left, both_right, cond_cases}
use Rattle.rules.specs.Rules.{Rule, ◌adding◌, next}
use Rattle.rules.proofs.Lists.{In}
use Rattle.rules.proofs.Cut.{Reached, reached_next}
use Rattle.wirings.specs.Pairs.{Pair}
use Rattle.claims.specs.Trees.{Tree, Trees, closing, split, end, ◌and◌, tree_bytes, trees_bytes, right_each, right, longest_tree}
use Rattle.claims.specs.Reading.{read_to, ◌onward◌, in_turn, node, read_tree}
use Rattle.claims.proofs.Trees.{TwoEach, longest_grows}

-- ---- one reading after the other

-- where the first is sound, the next goes on from its place; where it is not, it is the fault
pub onward_next : (f : Fault) (next : ℕ → Fault) → f.code ≡ 0 → f onward next ≡ next f.place
unfolding ◌onward◌
onward_next f next = next_chosen f.code (next f.place) f

pub onward_stop : (f : Fault) (next : ℕ → Fault) → (f.code ≡ 0 → ⊥) → f onward next ≡ f
unfolding ◌onward◌
onward_stop f next = this_chosen f.code (next f.place) f

-- two in a row are sound only if both are
pub onward_both : (f : Fault) (next : ℕ → Fault) → (f onward next).code ≡ 0 → (f.code ≡ 0) × ((next f.place).code ≡ 0)
unfolding ◌onward◌
onward_both f next = chosen (λ (f : Fault). f.code) f.code (next f.place) f refl

-- ---- bytes at a place

-- the bytes stand in c from `at` on, and the place after them is `after`
pub record StandsAt (c : List ℕ) (at : ℕ) (bytes : List ℕ) (after : ℕ) : Type 0 where
  pub here : drop at c ≡ bytes ++ drop after c
  pub ends : after ≡ at + length bytes

module _ (c : List ℕ) (at : ℕ) where
  -- the byte that is there
  pub byte_stands : (b : ℕ) → at < length c → get_or c at 0 ≡ b → StandsAt c at (b ∷ []) (at + 1)
  byte_stands b h e = record { here = drop-cons c at 0 h ∙ ap₂ (λ (b k : ℕ). b ∷ drop k c) e (sym (add-one at)); ends = refl }

  module _ (bytes more : List ℕ) (after : ℕ) where
    -- bytes and then more
    pub stands_join : (mid : ℕ) → StandsAt c at bytes mid → StandsAt c mid more after → StandsAt c at (bytes ++ more) after
    stands_join mid s t = record {
      here = s.here ∙ ap (λ (l : List ℕ). bytes ++ l) t.here ∙ sym (append_assoc bytes more (drop after c));
      ends = omega (arith, length-append bytes more);
    }

    -- and of both together, the bytes stand first, and then the others
    pub stands_rest : StandsAt c at (bytes ++ more) after → StandsAt c (at + length bytes) more after
    stands_rest s = record {
      here = sym (drop-drop (length bytes) at c) ∙ ap (drop (length bytes)) (s.here ∙ append_assoc bytes more (drop after c)) ∙ drop-append_seam bytes (more ++ drop after c);
      ends = omega (arith, length-append bytes more);
    }

    pub stands_first : StandsAt c at (bytes ++ more) after → StandsAt c at bytes (at + length bytes)
    stands_first s = record {
      here = s.here ∙ append_assoc bytes more (drop after c) ∙ ap (λ (l : List ℕ). bytes ++ l) (sym (stands_rest s).here);
      ends = refl;
    }

  -- what stands first is there
  pub stands_there : (b : ℕ) (more : List ℕ) (after : ℕ) → StandsAt c at (b ∷ more) after → at < length c
  stands_there b more after s = omega (arith, length-drop at c, ap length s.here)

  pub stands_byte : (b : ℕ) (more : List ℕ) (after : ℕ) → StandsAt c at (b ∷ more) after → get_or c at 0 ≡ b
  stands_byte b more after s = ap (λ (k : ℕ). get_or c k 0) (sym (add-zero at)) ∙ sym (get_or-drop at c 0 0) ∙ ap (λ (l : List ℕ). get_or l 0 0) s.here

-- ---- trees one after the other

module _ (c : List ℕ) where
  -- a right tree stands from `at` to `after`
  abbrev pub TreeAt : (Tree → Bool) → ℕ → ℕ → Type 0
  TreeAt right_here at after = (t : Tree) × (right_here t ≡ true) × StandsAt c at (tree_bytes t) after

  -- what a reading reads without fault is a right tree, and a right tree is read without fault
  abbrev pub Stands : (Tree → Bool) → (ℕ → Fault) → Type 0
  Stands right_here read = (at : ℕ) → (read at).code ≡ 0 → TreeAt right_here at (read at).place

  abbrev pub Reads : (Tree → Bool) → (ℕ → Fault) → Type 0
  Reads right_here read = (t : Tree) (at after : ℕ) → right_here t ≡ true → StandsAt c at (tree_bytes t) after → read at ≡ read_to after

  module _ (right_of : ℕ → Tree → Bool) (read : ℕ → ℕ → Fault) where
    -- so for the trees of a list of choices
    turn_stands : ((b : ℕ) → Stands (right_of b) (read b)) → (l : List ℕ) (at : ℕ) → (in_turn read l at).code ≡ 0
        → (ts : Trees) × (right_each right_of l ts ≡ true) × StandsAt c at (trees_bytes ts) (in_turn read l at).place
    unfolding in_turn right_each trees_bytes
    turn_stands h [] at e = (end, refl, record { here = refl; ends = sym (add-zero at) })
    turn_stands h (b ∷ l) at e =
        let sound = onward_both (read b at) (in_turn read l) e in
        let t = h b at sound.0 in
        let ts = turn_stands h l (read b at).place sound.1 in (
          t.0 and ts.0,
          both t.1 ts.1,
          rw (onward_next (read b at) (in_turn read l) sound.0) (stands_join c at (tree_bytes t.0) (trees_bytes ts.0) _ (read b at).place t.2 ts.2),
        )

    turn_reads : ((b : ℕ) → Reads (right_of b) (read b)) → (l : List ℕ) (ts : Trees) (at after : ℕ)
        → right_each right_of l ts ≡ true → StandsAt c at (trees_bytes ts) after → in_turn read l at ≡ read_to after
    unfolding ◌onward◌ in_turn right_each trees_bytes
    turn_reads h [] end at after e s = ap read_to (sym (add-zero at) ∙ sym s.ends)
    turn_reads h [] (t and ts) at after e s = absurd (false≢true e)
    turn_reads h (b ∷ l) end at after e s = absurd (false≢true e)
    turn_reads h (b ∷ l) (t and ts) at after e s =
        let mid = at + length (tree_bytes t) in
        ap (λ (f : Fault). f onward in_turn read l) (h b t at mid (both_left (right_of b t) (right_each right_of l ts) e) (stands_first c at (tree_bytes t) (trees_bytes ts) after s))
        ∙ turn_reads h l ts mid after (both_right (right_of b t) (right_each right_of l ts) e) (stands_rest c at (tree_bytes t) (trees_bytes ts) after s)

-- ---- a tree

module _ (closes : List ℕ → Pair → Bool) (read_closing : List ℕ → ℕ → Fault) (c : List ℕ) where
  -- what a reading of closings needs
  pub record ReadsClosings : Type 0 where
    pub stands : (w : List ℕ) (at : ℕ) → (read_closing w at).code ≡ 0
        → (p : Pair) × (closes w p ≡ true) × StandsAt c at (p.0 ∷ p.1 ∷ p.2 ∷ []) (read_closing w at).place
    pub reads : (w : List ℕ) (at : ℕ) (p : Pair) → closes w p ≡ true → StandsAt c at (p.0 ∷ p.1 ∷ p.2 ∷ []) (at + 3)
        → (get_or c at 0 ≡ 0xFF → ⊥) × (read_closing w at ≡ read_to (at + 3))

module _ (R : Rule) (read_closing : List ℕ → ℕ → Fault) (c : List ℕ) where
  -- no byte, a split, or a closing
  node_cases : (Q : Fault → Type 0) (w : List ℕ) (at : ℕ) (below : Fault)
      → (length c ≤ at → Q (fault 1 (length c))) → (at < length c → get_or c at 0 ≡ 0xFF → Q below) → Q (read_closing w at)
      → Q (node R read_closing c w at below)
  node_cases Q w at below ended splits closed = go (leb (length c) at) (eqb (get_or c at 0) 0xFF) refl refl
    where
      go : (short marked : Bool) → leb (length c) at ≡ short → eqb (get_or c at 0) 0xFF ≡ marked
          → Q (cond short (fault 1 (length c)) (cond marked below (read_closing w at)))
      go true marked p q = ended (leb-true _ _ p)
      go false true p q = splits (leb-false _ _ p) (eqb-true _ _ q)
      go false false p q = closed

module _ (R : Rule) (closes : List ℕ → Pair → Bool) (read_closing : List ℕ → ℕ → Fault) (c : List ℕ) (rc : ReadsClosings closes read_closing c) where
  -- a closing is right where it closes, whatever is left to be placed
  right_closing : (k : ℕ) (w : List ℕ) (p : Pair) → right R closes k w (closing p.0 p.1 p.2) ≡ closes w p
  unfolding right
  right_closing zero w p = refl
  right_closing (suc k) w p = refl

  -- what is read without fault is a closing, or what a split reads
  node_stands : (k : ℕ) (w : List ℕ) (at : ℕ) (below : Fault)
      → (at < length c → get_or c at 0 ≡ 0xFF → below.code ≡ 0 → TreeAt c (right R closes k w) at below.place)
      → (node R read_closing c w at below).code ≡ 0 → TreeAt c (right R closes k w) at (node R read_closing c w at below).place
  unfolding tree_bytes
  node_stands k w at below splits =
      node_cases R read_closing c (λ f. f.code ≡ 0 → TreeAt c (right R closes k w) at f.place) w at below (λ _ e. absurd (omega (arith, e))) splits
      (λ e. let x = rc.stands w at e in (closing x.0.0 x.0.1 x.0.2, right_closing k w x.0 ∙ x.1, x.2))

  -- what is read without fault is a right tree
  pub tree_stands : (k : ℕ) (w : List ℕ) → Stands c (right R closes k w) (read_tree R read_closing c k w)
  unfolding right read_tree tree_bytes
  tree_stands zero w at = node_stands zero w at (fault 16 at) (λ _ _ e. absurd (omega (arith, e)))
  tree_stands (suc k) w at =
      node_stands (suc k) w at _
      (λ there marked e.
      let ts = turn_stands c (λ b. right R closes k (w adding b)) (λ b. read_tree R read_closing c k (w adding b)) (λ b. tree_stands k (w adding b)) (next R w) (at + 1) e in
      (split ts.0, ts.1, stands_join c at (0xFF ∷ []) (trees_bytes ts.0) _ (at + 1) (byte_stands c at 0xFF there marked) ts.2))

  -- three bytes that close are read as a closing
  node_reads : (w : List ℕ) (p : Pair) (at after : ℕ) (below : Fault) → closes w p ≡ true → StandsAt c at (p.0 ∷ p.1 ∷ p.2 ∷ []) after
      → node R read_closing c w at below ≡ read_to after
  node_reads w p at after below e s =
      let x = rc.reads w at p e (subst (StandsAt c at (p.0 ∷ p.1 ∷ p.2 ∷ [])) s.ends s) in
      simp (lt-leb (length c) at (stands_there c at _ _ after s), ne_eqb (get_or c at 0) 0xFF x.0) (x.1 ∙ ap read_to (sym s.ends))

  -- and a right tree is read without fault, to its end
  pub tree_reads : (k : ℕ) (w : List ℕ) → Reads c (right R closes k w) (read_tree R read_closing c k w)
  unfolding right read_tree tree_bytes
  tree_reads zero w (closing s u v) at after e h = node_reads w (s, u, v) at after (fault 16 at) e h
  tree_reads zero w (split ts) at after e h = absurd (false≢true e)
  tree_reads (suc k) w (closing s u v) at after e h = node_reads w (s, u, v) at after _ e h
  tree_reads (suc k) w (split ts) at after e h =
      simp (lt-leb (length c) at (stands_there c at _ _ after h), eq-eqb (get_or c at 0) 0xFF (stands_byte c at _ _ after h))
      (turn_reads c (λ b. right R closes k (w adding b)) (λ b. read_tree R read_closing c k (w adding b)) (λ b. tree_reads k (w adding b)) (next R w) ts (at + 1) after e (stands_rest c at (0xFF ∷ []) (trees_bytes ts) after h))

-- ---- places

-- a reading that ends by m, and then one that ends no more than k further on
pub onward_place : (f : Fault) (next : ℕ → Fault) (m k : ℕ) → f.place ≤ m → (next f.place).place ≤ f.place + k → (f onward next).place ≤ m + k
unfolding ◌onward◌
onward_place f next m k this later = cond_cases (λ (r : Fault). r.place ≤ m + k) (eqb f.code 0) (next f.place) f (omega arith) (omega arith)

-- readings of which none ends more than m further on, one after the other
turn_place : (read : ℕ → ℕ → Fault) (m : ℕ) (l : List ℕ) → ((b : ℕ) → In b l → (at : ℕ) → (read b at).place ≤ at + m)
    → (at : ℕ) → (in_turn read l at).place ≤ at + length l * m
unfolding in_turn In
turn_place read m [] h at = omega arith
turn_place read m (b ∷ l) h at =
    omega (
      arith,
      onward_place (read b at) (in_turn read l) (at + m) (length l * m) (h b (inl refl) at) (turn_place read m l (λ a i. h a (inr i)) (read b at).place),
      suc-mul (length l) m,
    )

-- whether a fault was found or not, reading a tree ends no further on than the longest tree does
pub tree_place : (R : Rule) (read_closing : List ℕ → ℕ → Fault) (c : List ℕ) (n : ℕ) → TwoEach R n → ((w : List ℕ) (at : ℕ) → (read_closing w at).place ≤ at + 3)
    → (k : ℕ) (w : List ℕ) → Reached R n k w → (at : ℕ) → (read_tree R read_closing c k w at).place ≤ at + longest_tree k
unfolding read_tree longest_tree
tree_place R read_closing c n two short zero w r at =
    node_cases R read_closing c (λ f. f.place ≤ at + 3) w at (fault 16 at) (λ h. omega arith) (λ _ _. omega arith) (short w at)
tree_place R read_closing c n two short (suc k) w r at =
    node_cases R read_closing c (λ f. f.place ≤ at + longest_tree (suc k)) w at _ (λ h. omega arith)
    (λ _ _.
    omega (
      arith,
      turn_place (λ b. read_tree R read_closing c k (w adding b)) (longest_tree k) (next R w) (λ b i. tree_place R read_closing c n two short k (w adding b) (reached_next R n k w b r i)) (at + 1),
      mul-le-mul_right (longest_tree k) (two k w r),
    ))
    (omega (arith, short w at, longest_grows 0 (suc k) (omega arith)))
