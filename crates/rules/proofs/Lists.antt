-- Elements of a list, and what the tests of a list say of them. The idea: a list made by joining, mapping or choosing has the
-- elements of its parts, and a test of it is the test of its parts.
use Prim.Native.Nat.{ℕ, zero, suc, ◌+◌, ◌*◌, ◌≤◌, ◌<◌}
use mathlib.Core.Path.{◌≡◌, refl, sym, ap, ap₂, ◌∙◌, subst}
use mathlib.Core.Bool.{Bool, true, false, cond, not, ◌&&◌, ◌||◌, false≢true, or_assoc}
use mathlib.Core.List.{List, [], ◌∷◌, ◌++◌, map, flat_map}
use Rattle.std.specs.Option.{option_map}
use Rattle.std.specs.declared.option.Option.{Option}
use Rattle.std.specs.declared.option.Option.TheVariants.{None, Some}
use mathlib.Core.Logic.{◌⊎◌, inl, inr, ⊎_elim}
use native.Mathlib.Nat.{zero-mul, suc-mul, add_comm, le_of_suc-le-suc, not-suc-le-zero}
use native.Mathlib.Omega.{arith}
use borrow.Author.Tests.{eqb-true, eq-eqb}
use lib.Dec.{eqb}
use lib.ListN.{length, length-append, get_or}
use Rattle.bits.proofs.Tests.{both, both_left, both_right, either, or_left, or_right, below_or_not, not_passed}
use Rattle.rules.specs.Lists.{run, filter, first, some_in, each_in, count_in, same}

-- ---- elements

-- x is an element of the list
unfoldable pub In : {A : Type 0} → A → List A → Type 0
In x [] = ⊥
In x (y ∷ l) = (x ≡ y) ⊎ In x l

module _ {A : Type 0} where
  -- the elements of two lists joined are those of the one and of the other
  pub in_left : (x : A) (l m : List A) → In x l → In x (l ++ m)
  unfolding In
  in_left x [] m i = elim i [ ]
  in_left x (y ∷ l) m (inl e) = inl e
  in_left x (y ∷ l) m (inr i) = inr (in_left x l m i)

  pub in_right : (x : A) (l m : List A) → In x m → In x (l ++ m)
  unfolding In
  in_right x [] m i = i
  in_right x (y ∷ l) m i = inr (in_right x l m i)

  pub in_either : (x : A) (l m : List A) → In x (l ++ m) → In x l ⊎ In x m
  unfolding In
  in_either x [] m i = inr i
  in_either x (y ∷ l) m (inl e) = inl (inl e)
  in_either x (y ∷ l) m (inr i) = ⊎_elim (λ (j : In x l). inl (inr j)) (λ (j : In x m). inr j) (in_either x l m i)

module _ {A B : Type 0} (f : A → B) where
  -- the elements of a list mapped are those of the list, mapped
  pub in_map : (x : A) (l : List A) → In x l → In (f x) (map f l)
  unfolding In
  in_map x [] i = elim i [ ]
  in_map x (y ∷ l) (inl e) = inl (ap f e)
  in_map x (y ∷ l) (inr i) = inr (in_map x l i)

  pub map_in : (y : B) (l : List A) → In y (map f l) → (x : A) × In x l × (y ≡ f x)
  unfolding In
  map_in y [] i = elim i [ ]
  map_in y (x ∷ l) (inl e) = (x, inl refl, e)
  map_in y (x ∷ l) (inr i) = let w = map_in y l i in (w.0, inr w.1, w.2)

  -- functions that agree on the elements map alike
  pub map_same : (g : A → B) (l : List A) → ((x : A) → In x l → f x ≡ g x) → map f l ≡ map g l
  unfolding In
  map_same g [] h = refl
  map_same g (x ∷ l) h = ap₂ ◌∷◌ (h x (inl refl)) (map_same g l (λ y i. h y (inr i)))

module _ {A B : Type 0} (f : A → List B) where
  -- the elements of lists joined are those of each
  pub in_flat : (x : A) (y : B) (l : List A) → In x l → In y (f x) → In y (flat_map f l)
  unfolding In flat_map
  in_flat x y [] i j = elim i [ ]
  in_flat x y (z ∷ l) (inl e) j = in_left y (f z) (flat_map f l) (subst (λ (a : A). In y (f a)) e j)
  in_flat x y (z ∷ l) (inr i) j = in_right y (f z) (flat_map f l) (in_flat x y l i j)

  pub flat_in : (y : B) (l : List A) → In y (flat_map f l) → (x : A) × In x l × In y (f x)
  unfolding In flat_map
  flat_in y [] i = elim i [ ]
  flat_in y (z ∷ l) i =
      ⊎_elim (λ (j : In y (f z)). (z, inl refl, j)) (λ (j : In y (flat_map f l)). let w = flat_in y l j in (w.0, inr w.1, w.2))
      (in_either y (f z) (flat_map f l) i)

  pub flat_same : (g : A → List B) (l : List A) → ((x : A) → In x l → f x ≡ g x) → flat_map f l ≡ flat_map g l
  unfolding In flat_map
  flat_same g [] h = refl
  flat_same g (x ∷ l) h = ap₂ ◌++◌ (h x (inl refl)) (flat_same g l (λ y i. h y (inr i)))

  -- lists of one length, joined, have as many elements as all together
  pub length_flat : (c : ℕ) (l : List A) → ((x : A) → In x l → length (f x) ≡ c) → length (flat_map f l) ≡ length l * c
  unfolding In flat_map
  length_flat c [] h = sym (zero-mul c)
  length_flat c (x ∷ l) h =
      length-append (f x) (flat_map f l) ∙ ap₂ ◌+◌ (h x (inl refl)) (length_flat c l (λ y i. h y (inr i))) ∙ add_comm c (length l * c) ∙ sym (suc-mul (length l) c)

-- ---- a test of the elements

module _ {A : Type 0} (t : A → Bool) where
  -- the elements that pass are among those chosen, and no others
  pub in_filter : (x : A) (l : List A) → In x l → t x ≡ true → In x (filter t l)
  unfolding In filter
  in_filter x [] i p = elim i [ ]
  in_filter x (y ∷ l) (inl e) p = simp (sym (ap t e) ∙ p) (inl e)
  in_filter x (y ∷ l) (inr i) p = elim (t y) as (λ b. In x (cond b (y ∷ filter t l) (filter t l))) [ true ↦ inr (in_filter x l i p) | false ↦ in_filter x l i p ]

  pub filter_in : (x : A) (l : List A) → In x (filter t l) → In x l × (t x ≡ true)
  unfolding In filter
  filter_in x [] i = elim i [ ]
  filter_in x (y ∷ l) i = go (t y) refl i (λ j. filter_in x l j)
    where
      go : (b : Bool) → t y ≡ b → In x (cond b (y ∷ filter t l) (filter t l)) → (In x (filter t l) → In x l × (t x ≡ true)) → In x (y ∷ l) × (t x ≡ true)
      go true p (inl e) later = (inl e, ap t e ∙ p)
      go true p (inr j) later = (inr (later j).0, (later j).1)
      go false p j later = (inr (later j).0, (later j).1)

  -- a list passes if some element does, and then one can be named
  pub some_at : (l : List A) → some_in t l ≡ true → (x : A) × In x l × (t x ≡ true)
  unfolding In some_in
  some_at [] p = absurd (false≢true p)
  some_at (y ∷ l) p =
      ⊎_elim (λ (q : t y ≡ true). (y, inl refl, q)) (λ (q : some_in t l ≡ true). let w = some_at l q in (w.0, inr w.1, w.2)) (either (t y) (some_in t l) p)

  pub some_if : (x : A) (l : List A) → In x l → t x ≡ true → some_in t l ≡ true
  unfolding In some_in
  some_if x [] i p = elim i [ ]
  some_if x (y ∷ l) (inl e) p = or_left (some_in t l) (sym (ap t e) ∙ p)
  some_if x (y ∷ l) (inr i) p = or_right (t y) (some_if x l i p)

  -- each element of a list passes exactly where none fails
  pub each_at : (x : A) (l : List A) → each_in t l ≡ true → In x l → t x ≡ true
  unfolding In each_in
  each_at x [] p i = elim i [ ]
  each_at x (y ∷ l) p (inl e) = ap t e ∙ both_left (t y) (each_in t l) p
  each_at x (y ∷ l) p (inr i) = each_at x l (both_right (t y) (each_in t l) p) i

  pub each_if : (l : List A) → ((x : A) → In x l → t x ≡ true) → each_in t l ≡ true
  unfolding In each_in
  each_if [] h = refl
  each_if (y ∷ l) h = both (h y (inl refl)) (each_if l (λ x i. h x (inr i)))

  pub each_some : (l : List A) → each_in t l ≡ not (some_in (λ x. not (t x)) l)
  unfolding some_in each_in
  each_some [] = refl
  each_some (y ∷ l) = elim (t y) as (λ b. b && each_in t l ≡ not (not b || some_in (λ x. not (t x)) l)) [ true ↦ each_some l | false ↦ refl ]

  -- of two lists joined, what passes is what passes of each; where no element passes, nothing does
  pub some_append : (l m : List A) → some_in t (l ++ m) ≡ some_in t l || some_in t m
  unfolding some_in
  some_append [] m = refl
  some_append (x ∷ l) m = ap (λ (b : Bool). t x || b) (some_append l m) ∙ sym (or_assoc (t x) (some_in t l) (some_in t m))

  pub filter_append : (l m : List A) → filter t (l ++ m) ≡ filter t l ++ filter t m
  unfolding filter
  filter_append [] m = refl
  filter_append (x ∷ l) m =
      ap (λ (r : List A). cond (t x) (x ∷ r) r) (filter_append l m)
      ∙ (elim (t x) as (λ b. cond b (x ∷ (filter t l ++ filter t m)) (filter t l ++ filter t m) ≡ cond b (x ∷ filter t l) (filter t l) ++ filter t m) [ true ↦ refl | false ↦ refl ])

  pub filter_none : (l : List A) → ((x : A) → In x l → t x ≡ false) → filter t l ≡ []
  unfolding In filter
  filter_none [] h = refl
  filter_none (x ∷ l) h = simp (h x (inl refl)) (filter_none l (λ y i. h y (inr i)))

  pub count_none : (l : List A) → ((x : A) → In x l → t x ≡ false) → count_in t l ≡ 0
  unfolding In count_in
  count_none [] h = refl
  count_none (x ∷ l) h = simp (h x (inl refl)) (omega (arith, count_none l (λ y i. h y (inr i))))

-- of a list made of others, what passes is what passes of its parts
module _ {A B : Type 0} (t : B → Bool) where
  pub some_map : (f : A → B) (l : List A) → some_in t (map f l) ≡ some_in (λ x. t (f x)) l
  unfolding some_in
  some_map f [] = refl
  some_map f (x ∷ l) = ap (λ (b : Bool). t (f x) || b) (some_map f l)

  pub some_flat : (f : A → List B) (l : List A) → some_in t (flat_map f l) ≡ some_in (λ x. some_in t (f x)) l
  unfolding some_in flat_map
  some_flat f [] = refl
  some_flat f (x ∷ l) = some_append t (f x) (flat_map f l) ∙ ap (λ (b : Bool). some_in t (f x) || b) (some_flat f l)

  pub filter_flat : (f : A → List B) (l : List A) → filter t (flat_map f l) ≡ flat_map (λ x. filter t (f x)) l
  unfolding filter flat_map
  filter_flat f [] = refl
  filter_flat f (x ∷ l) = filter_append t (f x) (flat_map f l) ∙ ap (λ (r : List B). filter t (f x) ++ r) (filter_flat f l)

-- tests that agree on the elements are passed alike, and find alike
module _ {A : Type 0} (t u : A → Bool) where
  pub some_same : (l : List A) → ((x : A) → In x l → t x ≡ u x) → some_in t l ≡ some_in u l
  unfolding In some_in
  some_same [] h = refl
  some_same (x ∷ l) h = ap₂ ◌||◌ (h x (inl refl)) (some_same l (λ y i. h y (inr i)))

  pub first_same : (l : List A) → ((x : A) → In x l → t x ≡ u x) → first t l ≡ first u l
  unfolding In first
  first_same [] h = refl
  first_same (x ∷ l) h = ap₂ (λ (b : Bool) (o : Option A). cond b (Some x) o) (h x (inl refl)) (first_same l (λ y i. h y (inr i)))

-- ---- the first that passes

-- what the one gives, else the other
infixr 60 ◌else◌
unfoldable pub ◌else◌ : {A : Type 0} → Option A → Option A → Option A
None else o = o
Some x else o = Some x

-- the first that gives something
unfoldable pub first_some : {A B : Type 0} → (A → Option B) → List A → Option B
first_some f [] = None
first_some f (x ∷ l) = f x else first_some f l

module _ {A : Type 0} (t : A → Bool) where
  -- nothing is found exactly where no element passes, and what is found is an element that passes
  pub first_none : (l : List A) → ((x : A) → In x l → t x ≡ false) → first t l ≡ None
  unfolding In first
  first_none [] h = refl
  first_none (x ∷ l) h = simp (h x (inl refl)) (first_none l (λ y i. h y (inr i)))

  pub first_found : (x : A) (l : List A) → first t l ≡ Some x → In x l × (t x ≡ true)
  unfolding In first
  first_found x [] e = cc
  first_found x (y ∷ l) e = go (t y) refl e (λ d. first_found x l d)
    where
      go : (b : Bool) → t y ≡ b → cond b (Some y) (first t l) ≡ Some x → (first t l ≡ Some x → In x l × (t x ≡ true)) → In x (y ∷ l) × (t x ≡ true)
      go true p d later = let q : x ≡ y = cc in (inl q, ap t q ∙ p)
      go false p d later = (inr (later d).0, (later d).1)

  pub first_exists : (l : List A) → some_in t l ≡ true → (x : A) × (first t l ≡ Some x)
  unfolding some_in first
  first_exists [] p = absurd (false≢true p)
  first_exists (y ∷ l) p = go (t y) p (λ q. first_exists l q)
    where
      go : (b : Bool) → b || some_in t l ≡ true → (some_in t l ≡ true → (x : A) × (first t l ≡ Some x)) → (x : A) × (cond b (Some y) (first t l) ≡ Some x)
      go true q later = (y, refl)
      go false q later = later q

  pub none_first : (x : A) (l : List A) → first t l ≡ None → In x l → t x ≡ false
  none_first x l e i = not_passed (t x) (λ p. let w = first_exists l (some_if t x l i p) in let d : Some w.0 ≡ None = sym w.1 ∙ e in cc)

  -- of two lists joined, the first that passes is that of the one, else that of the other
  pub first_append : (l m : List A) → first t (l ++ m) ≡ (first t l else first t m)
  unfolding first ◌else◌
  first_append [] m = refl
  first_append (x ∷ l) m =
      elim (t x) as (λ b. cond b (Some x) (first t (l ++ m)) ≡ (cond b (Some x) (first t l) else first t m)) [ true ↦ refl | false ↦ first_append l m ]

module _ {A B : Type 0} (t : B → Bool) where
  -- the first that passes of a list made of others
  pub first_flat : (f : A → List B) (l : List A) → first t (flat_map f l) ≡ first_some (λ x. first t (f x)) l
  unfolding first first_some flat_map
  first_flat f [] = refl
  first_flat f (x ∷ l) = first_append t (f x) (flat_map f l) ∙ ap (λ (o : Option B). first t (f x) else o) (first_flat f l)

  pub first_map : (f : A → B) (l : List A) → first t (map f l) ≡ option_map f (first (λ x. t (f x)) l)
  unfolding first
  first_map f [] = refl
  first_map f (x ∷ l) =
      elim (t (f x)) as (λ b. cond b (Some (f x)) (first t (map f l)) ≡ option_map f (cond b (Some x) (first (λ x. t (f x)) l))) [ true ↦ refl | false ↦ first_map f l ]

module _ {A : Type 0} (t : A → Bool) (x : A) where
  -- x stands in the list after elements none of which passes
  abbrev pub AfterNone : List A → Type 0
  AfterNone l = (l₁ : List A) × (l₂ : List A) × (l ≡ l₁ ++ (x ∷ l₂)) × ((y : A) → In y l₁ → t y ≡ false)

  -- so does the first that passes
  pub first_after : (l : List A) → first t l ≡ Some x → AfterNone l
  unfolding In first
  first_after [] e = cc
  first_after (y ∷ l) e = go (t y) refl e (λ d. first_after l d)
    where
      go : (b : Bool) → t y ≡ b → cond b (Some y) (first t l) ≡ Some x → (first t l ≡ Some x → AfterNone l) → AfterNone (y ∷ l)
      go true p d later = ([], l, ap (λ (z : A). z ∷ l) (cc), λ z i. absurd i)
      go false p d later =
          let c = later d in
          (y ∷ c.0, c.1, ap (λ (m : List A). y ∷ m) c.2, λ z i. ⊎_elim (λ (r : z ≡ y). ap t r ∙ p) (λ (j : In z c.0). c.3 z j) i)

-- ---- a run of numbers

-- a run has the numbers from the first on, as many as asked
pub in_run : (k a n : ℕ) → In k (run a n) → (a ≤ k) × (k < a + n)
unfolding In run
in_run k a zero i = elim i [ ]
in_run k a (suc n) (inl e) = (omega arith, omega arith)
in_run k a (suc n) (inr i) = let w = in_run k (suc a) n i in (omega arith, omega arith)

pub run_in : (k a n : ℕ) → a ≤ k → k < a + n → In k (run a n)
unfolding In run
run_in k a zero h g = absurd (omega arith)
run_in k a (suc n) h g = ⊎_elim (λ (d : a < k). inr (run_in k (suc a) n (omega arith) (omega arith))) (λ (d : k ≤ a). inl (omega arith)) (below_or_not a k)

-- ---- lists of numbers

-- what stands at an index is an element
pub getD_in : (w : List ℕ) (i : ℕ) → i < length w → In (get_or w i 0) w
unfolding In
getD_in [] i h = absurd (not-suc-le-zero h)
getD_in (b ∷ w) zero h = inl refl
getD_in (b ∷ w) (suc i) h = inr (getD_in w i (le_of_suc-le-suc h))

-- the test of two lists says that they are equal

pub same_is : (w v : List ℕ) → same w v ≡ true → w ≡ v
unfolding same
same_is [] [] p = refl
same_is [] (b ∷ v) p = absurd (false≢true p)
same_is (a ∷ w) [] p = absurd (false≢true p)
same_is (a ∷ w) (b ∷ v) p = ap₂ ◌∷◌ (eqb-true a b (both_left (eqb a b) (same w v) p)) (same_is w v (both_right (eqb a b) (same w v) p))

pub same_self : (w : List ℕ) → same w w ≡ true
unfolding same
same_self [] = refl
same_self (a ∷ w) = both (eq-eqb a a refl) (same_self w)
