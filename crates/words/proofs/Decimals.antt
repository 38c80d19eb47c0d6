-- Numbers in decimal, and lines: the digits one by one, how long they get, what they are read as, and a line word by word.
use Prim.Native.Nat.{ℕ, zero, suc, ◌+◌, ◌*◌, ◌-◌, ◌/◌, ◌%◌, ◌^◌, ◌≤◌, ◌<◌}
use mathlib.Core.Path.{◌≡◌, refl, sym, ap, ap₂, ◌∙◌, subst}
use mathlib.Core.Bool.{Bool, true, false, cond}
use mathlib.Core.List.{List, [], ◌∷◌, ◌++◌}
use mathlib.Core.Logic.{⊎_elim}
use native.Mathlib.Nat.{le_refl}
use native.Mathlib.Omega.{arith}
use borrow.Author.Tests.{lt-ltb, le-ltb, ltb-true, ltb-false, le-leb}
use lib.Dec.{ltb}
use lib.ListN.{length, set, length-append}
use lib.Seq.{sets, append_snoc}
use Rattle.bits.proofs.Tests.{both, both_left, both_right, below_or_not}
use Rattle.answers.proofs.Stores.{sets_join}
use Rattle.rules.specs.Lists.{each_in}
use Rattle.words.specs.Words.{is_digit, is_number, read_on, value, digit, decimal_within, decimal, line}

-- ---- text in a buffer

-- what is stored behind other text makes one text with it
pub behind : (out front l : List ℕ) (start k : ℕ) (more : List ℕ) → l ≡ sets out start front → k ≡ start + length front
    → sets l k more ≡ sets out start (front ++ more)
behind out front l start k more stored ends =
    ap₂ (λ (l : List ℕ) (k : ℕ). sets l k more) stored ends ∙ sets_join out front more start

-- and so does a character
pub one_behind : (out front : List ℕ) (start c : ℕ)
    → set (sets out start front) (start + length front) c ≡ sets out start (front ++ (c ∷ []))
one_behind out front start c = sets_join out front (c ∷ []) start

-- ---- numbers in decimal

-- how often a number may be divided does not matter, from the number itself on
within : (k m x : ℕ) → x ≤ k → x ≤ m → decimal_within k x ≡ decimal_within m x
unfolding decimal_within
within zero zero x h g = refl
within zero (suc m) x h g = simp (lt-ltb x 10 (omega (arith, h)))
within (suc k) zero x h g = simp (lt-ltb x 10 (omega (arith, g)))
within (suc k) (suc m) x h g = go (ltb x 10) refl (λ big. within k m (x / 10) (omega (arith, big, h)) (omega (arith, big, g)))
  where
    go : (t : Bool) → ltb x 10 ≡ t → (10 ≤ x → decimal_within k (x / 10) ≡ decimal_within m (x / 10))
        → cond t (digit x ∷ []) (decimal_within k (x / 10) ++ (digit (x % 10) ∷ []))
        ≡ cond t (digit x ∷ []) (decimal_within m (x / 10) ++ (digit (x % 10) ∷ []))
    go true e again = refl
    go false e again = ap (λ (l : List ℕ). l ++ (digit (x % 10) ∷ [])) (again (ltb-false x 10 e))

pub decimal_short : (x : ℕ) → x < 10 → decimal x ≡ digit x ∷ []
unfolding decimal_within
decimal_short zero h = refl
decimal_short (suc k) h = simp (lt-ltb (suc k) 10 h)

pub decimal_long : (x : ℕ) → 10 ≤ x → decimal x ≡ decimal (x / 10) ++ (digit (x % 10) ∷ [])
unfolding decimal_within
decimal_long zero h = absurd (omega (arith, h))
decimal_long (suc k) h =
    simp (le-ltb (suc k) 10 h)
    (ap (λ (l : List ℕ). l ++ (digit (suc k % 10) ∷ [])) (within k (suc k / 10) (suc k / 10) (omega (arith, h)) (omega arith)))

pub long_length : (x : ℕ) → 10 ≤ x → length (decimal x) ≡ length (decimal (x / 10)) + 1
long_length x h = ap length (decimal_long x h) ∙ length-append (decimal (x / 10)) (digit (x % 10) ∷ [])

-- the steps of the recursion
pub ruleset digits_stored = (decimal_short, decimal_long, long_length, one_behind)

-- what holds of one digit, and of a number if it holds without the last digit, holds of every number
module _ (P : ℕ → List ℕ → Type 0)
    (one : (x : ℕ) → x < 10 → P x (digit x ∷ []))
    (more : (x : ℕ) → 10 ≤ x → P (x / 10) (decimal (x / 10)) → P x (decimal (x / 10) ++ (digit (x % 10) ∷ [])))
  where
    short : (x : ℕ) → x < 10 → P x (decimal x)
    short x h = subst (P x) (sym (decimal_short x h)) (one x h)

    up_to : (k x : ℕ) → x ≤ k → P x (decimal x)
    up_to zero x h = short x (omega (arith, h))
    up_to (suc k) x h =
        ⊎_elim (short x)
        (λ (big : 10 ≤ x). subst (P x) (sym (decimal_long x big)) (more x big (up_to k (x / 10) (omega (arith, big, h)))))
        (below_or_not x 10)

    pub digit_by_digit : (x : ℕ) → P x (decimal x)
    digit_by_digit x = up_to x x (le_refl x)

-- a number below 10^k has at most k digits
pub decimal_most : (k x : ℕ) → x < 10 ^ suc k → length (decimal x) ≤ suc k
decimal_most zero x h = subst (λ (l : List ℕ). length l ≤ 1) (sym (decimal_short x (omega (arith, h)))) (omega arith)
decimal_most (suc k) x h = go (ltb x 10) refl (decimal_most k (x / 10) (omega (arith, h)))
  where
    go : (t : Bool) → ltb x 10 ≡ t → length (decimal (x / 10)) ≤ suc k → length (decimal x) ≤ suc (suc k)
    go true e most = subst (λ (l : List ℕ). length l ≤ suc (suc k)) (sym (decimal_short x (ltb-true x 10 e))) (omega arith)
    go false e most = omega (arith, most, long_length x (ltb-false x 10 e))

-- ---- read from the left, the digits give the number back

last_read : (so_far : ℕ) (ds : List ℕ) (d : ℕ) → read_on so_far (ds ++ (d ∷ [])) ≡ 10 * read_on so_far ds + (d - 48)
unfolding read_on
last_read so_far [] d = refl
last_read so_far (c ∷ ds) d = last_read (10 * so_far + (c - 48)) ds d

digit_read : (d : ℕ) → d < 10 → digit d - 48 ≡ d
digit_read d h = simp (lt-ltb d 10 h) (omega arith)

pub decimal_reads : (x : ℕ) → value (decimal x) ≡ x
unfolding read_on
decimal_reads =
    digit_by_digit (λ x l. value l ≡ x) (λ x small. omega (arith, digit_read x small))
    (λ x big again. last_read 0 (decimal (x / 10)) (digit (x % 10)) ∙ omega (arith, again, digit_read (x % 10) (omega arith)))

-- and they are a number's

digit_is : (d : ℕ) → d < 10 → is_digit (digit d) ≡ true
digit_is d h = simp (lt-ltb d 10 h) (both (le-leb 48 (48 + d) (omega arith)) (le-leb (48 + d) 57 (omega (arith, h))))

digits_last : (ds : List ℕ) (d : ℕ) → each_in is_digit ds ≡ true → is_digit d ≡ true → each_in is_digit (ds ++ (d ∷ [])) ≡ true
unfolding each_in
digits_last [] d f e = both e refl
digits_last (c ∷ ds) d f e =
    both (both_left (is_digit c) (each_in is_digit ds) f) (digits_last ds d (both_right (is_digit c) (each_in is_digit ds) f) e)

pub decimal_is_number : (x : ℕ) → is_number (decimal x) ≡ true
unfolding each_in
decimal_is_number =
    digit_by_digit (λ x l. is_number l ≡ true) (λ x small. both refl (both (digit_is x small) refl))
    (λ x big again.
    let last = digit (x % 10) ∷ [] in
    both (lt-ltb 0 (length (decimal (x / 10) ++ last)) (omega (arith, length-append (decimal (x / 10)) last)))
    (digits_last (decimal (x / 10)) (digit (x % 10))
    (both_right (ltb 0 (length (decimal (x / 10)))) (each_in is_digit (decimal (x / 10))) again)
    (digit_is (x % 10) (omega arith))))

-- ---- a line, word by word

-- a word that is not the last
pub word_next : (w v : List ℕ) (ws : List (List ℕ)) → line (w ∷ v ∷ ws) ≡ (w ++ (32 ∷ [])) ++ line (v ∷ ws)
unfolding line
word_next w v ws = sym (append_snoc w 32 (line (v ∷ ws)))
