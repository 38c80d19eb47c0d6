-- Faults in order: which of two comes first, and what a sound test says of the bytes.
use Prim.Native.Nat.{ℕ, suc, ◌≤◌, ◌<◌, zero-le}
use mathlib.Core.Path.{◌≡◌, refl, sym, ap, ◌∙◌}
use mathlib.Core.Bool.{Bool, true, false, cond, ◌&&◌}
use mathlib.Core.List.{List}
use borrow.Author.Tests.{eq-eqb, ne_eqb, eqb-true, eqb-false, leb-true, leb-false, le-leb, lt-leb, le-ltb, ltb-true, ltb-false}
use native.Mathlib.Nat.{le_antisymm, le_refl}
use native.Mathlib.Omega.{arith}
use lib.Dec.{leb, ltb, eqb}
use lib.ListN.{length, get_or}
use Rattle.bits.proofs.Tests.{cond_cases}
use Rattle.answers.specs.declared.Fault.{Fault}
use Rattle.answers.specs.declared.Answer.{Answer}
use Rattle.answers.specs.Answers.{fault, fault_at, sound, is_sound, refused_by, ◌then◌, ◌or_else◌, by, present, byte_fault, length_fault, fits}

-- a fault that was found is what the definition says: both are sound, or neither is
pub sound_as : {f g : Fault} → f ≡ g → f.code ≡ 0 → g.code ≡ 0
sound_as e z = ap (λ (f : Fault). f.code) (sym e) ∙ z

pub bad_as : {f g : Fault} → f ≡ g → (f.code ≡ 0 → ⊥) → g.code ≡ 0 → ⊥
bad_as e bad z = bad (ap (λ (f : Fault). f.code) e ∙ z)

-- ---- a choice by a code: the next thing where it is 0, and else the thing that has the code

module _ {A : Type 0} where
  pub next_chosen : (k : ℕ) (next this : A) → k ≡ 0 → cond (eqb k 0) next this ≡ next
  next_chosen k next this e = ap (λ (t : Bool). cond t next this) (eq-eqb _ _ e)

  pub this_chosen : (k : ℕ) (next this : A) → (k ≡ 0 → ⊥) → cond (eqb k 0) next this ≡ this
  this_chosen k next this e = ap (λ (t : Bool). cond t next this) (ne_eqb _ _ e)

  -- what holds of each where it is chosen holds of the one that is
  pub chosen_elim : (R : A → Type 0) (k : ℕ) (next this : A) → ((k ≡ 0 → ⊥) → R this) → (k ≡ 0 → R next) → R (cond (eqb k 0) next this)
  chosen_elim R k next this stop on = go (eqb k 0) refl
    where
      go : (t : Bool) → eqb k 0 ≡ t → R (cond t next this)
      go true q = on (eqb-true _ _ q)
      go false q = stop (eqb-false _ _ q)

  -- so it has code 0 only where the next thing was chosen, and has code 0
  pub chosen : (code : A → ℕ) (k : ℕ) (next this : A) → code this ≡ k → code (cond (eqb k 0) next this) ≡ 0 → (k ≡ 0) × (code next ≡ 0)
  chosen code k next this e = chosen_elim (λ a. code a ≡ 0 → (k ≡ 0) × (code next ≡ 0)) k next this (λ bad h. absurd (bad (sym e ∙ h))) (λ z h. (z, h))

-- where the first is sound, the next decides; where it is not, it does
pub then_next : (f g : Fault) → f.code ≡ 0 → f then g ≡ g
unfolding ◌then◌
then_next f g = next_chosen f.code g f

pub then_stop : (f g : Fault) → (f.code ≡ 0 → ⊥) → f then g ≡ f
unfolding ◌then◌
then_stop f g = this_chosen f.code g f

pub then_assoc : (f g h : Fault) → f then g then h ≡ f then (g then h)
unfolding ◌then◌
then_assoc f g h = go (eqb f.code 0) refl
  where
    go : (t : Bool) → eqb f.code 0 ≡ t → cond (is_sound (cond t g f)) h (cond t g f) ≡ cond t (cond (is_sound g) h g) f
    go true e = refl
    go false e = simp e refl

-- of answers, as a function meets them: f is the fault that it found, and g what the definition says
pub by_next : (who : ℕ) (f g : Fault) (a next : Answer) → f ≡ g → f.code ≡ 0 → a ≡ next → a ≡ by who g next
unfolding by
by_next who f g a next e z h =
    h ∙ sym (next_chosen g.code next _ (sound_as e z))

pub by_stop : (who : ℕ) (f g : Fault) (a next : Answer) → f ≡ g → (f.code ≡ 0 → ⊥) → a ≡ refused_by who f → a ≡ by who g next
unfolding by
by_stop who f g a next e z h =
    h ∙ ap (refused_by who) e
    ∙ sym (this_chosen g.code next _ (bad_as e z))

pub or_else_next : (a b : Answer) → a.code ≡ 0 → a or_else b ≡ b
unfolding ◌or_else◌
or_else_next a b = next_chosen a.code b a

pub or_else_stop : (a b : Answer) → (a.code ≡ 0 → ⊥) → a or_else b ≡ a
unfolding ◌or_else◌
or_else_stop a b = this_chosen a.code b a

-- the first of two faults, by cases
pub then_elim : (R : Fault → Type 0) (f g : Fault) → ((f.code ≡ 0 → ⊥) → R f) → (f.code ≡ 0 → R g) → R (f then g)
unfolding ◌then◌
then_elim R f g = chosen_elim R f.code g f

-- two in a row are sound only if both are
pub then_both : (f g : Fault) → (f then g).code ≡ 0 → (f.code ≡ 0) × (g.code ≡ 0)
unfolding ◌then◌
then_both f g = chosen (λ (f : Fault). f.code) f.code g f refl

pub by_both : (who : ℕ) (f : Fault) (next : Answer) → (by who f next).code ≡ 0 → (f.code ≡ 0) × (next.code ≡ 0)
unfolding by
by_both who f next = chosen (λ (a : Answer). a.code) f.code next (refused_by who f) refl

pub or_else_both : (a b : Answer) → (a or_else b).code ≡ 0 → (a.code ≡ 0) × (b.code ≡ 0)
unfolding ◌or_else◌
or_else_both a b = chosen (λ (a : Answer). a.code) a.code b a refl

-- a test that gives no fault passes
pub test_sound : (t : Bool) (code at pattern : ℕ) → (cond t sound (fault_at (suc code) at pattern)).code ≡ 0 → t ≡ true
test_sound true code at pattern e = refl
test_sound false code at pattern e = absurd (omega (arith, e))

-- a header byte that is sound is there, and from low to high
pub record Byte (s : List ℕ) (k low high : ℕ) : Type 0 where
  pub there : k < length s
  pub least : low ≤ get_or s k 0
  pub most : get_or s k 0 ≤ high

pub byte_sound : (s : List ℕ) (k low high code : ℕ) → (byte_fault s k low high (suc code)).code ≡ 0 → Byte s k low high
unfolding byte_fault
byte_sound s k low high code e = go (leb (length s) k) (leb low (get_or s k 0)) (leb (get_or s k 0) high) refl refl refl e
  where
    go : (short least most : Bool) → leb (length s) k ≡ short → leb low (get_or s k 0) ≡ least → leb (get_or s k 0) high ≡ most
        → (cond short (fault 1 (length s)) (cond (least && most) sound (fault (suc code) k))).code ≡ 0 → Byte s k low high
    go true least most p q r h = absurd (omega (arith, h))
    go false true true p q r h = record { there = leb-false _ _ p; least = leb-true _ _ q; most = leb-true _ _ r }
    go false true false p q r h = absurd (omega (arith, h))
    go false false most p q r h = absurd (omega (arith, h))

-- and one that is there and from low to high is sound
pub byte_good : (s : List ℕ) (k low high code : ℕ) → Byte s k low high → byte_fault s k low high code ≡ sound
unfolding byte_fault
byte_good s k low high code b = simp (lt-leb _ _ b.there, le-leb _ _ b.least, le-leb _ _ b.most)

pub length_sound : (len end : ℕ) → (length_fault len end).code ≡ 0 → len ≡ end
unfolding length_fault
length_sound len end e = go (ltb len end) (ltb end len) refl refl e
  where
    go : (less more : Bool) → ltb len end ≡ less → ltb end len ≡ more → (cond less (fault 1 len) (cond more (fault 8 end) sound)).code ≡ 0 → len ≡ end
    go true more p q h = absurd (omega (arith, h))
    go false true p q h = absurd (omega (arith, h))
    go false false p q h = le_antisymm (ltb-false _ _ q) (ltb-false _ _ p)

pub length_good : (len : ℕ) → length_fault len len ≡ sound
unfolding length_fault
length_good len = simp (le-ltb len len (le_refl len))

-- ---- which faults there can be: what holds of each fault that a test gives holds of the one that is found

module _ (Q : Fault → Type 0) where
  pub then_cases : (f g : Fault) → Q f → Q g → Q (f then g)
  then_cases f g p q = then_elim Q f g (λ _. p) (λ _. q)

  pub present_cases : (s : List ℕ) (k : ℕ) (tested : Fault) → (length s ≤ k → Q (fault 1 (length s))) → Q tested → Q (present s k tested)
  present_cases s k tested short there = go (leb (length s) k) refl
    where
      go : (t : Bool) → leb (length s) k ≡ t → Q (cond t (fault 1 (length s)) tested)
      go true p = short (leb-true _ _ p)
      go false p = there

  pub byte_cases : (s : List ℕ) (k low high code : ℕ) → Q sound → (length s ≤ k → Q (fault 1 (length s))) → Q (fault code k) → Q (byte_fault s k low high code)
  unfolding byte_fault
  byte_cases s k low high code fine short outside = present_cases s k _ short (cond_cases Q (leb low (get_or s k 0) && leb (get_or s k 0) high) sound (fault code k) fine outside)

  pub length_cases : (len end : ℕ) → Q sound → (len < end → Q (fault 1 len)) → Q (fault 8 end) → Q (length_fault len end)
  unfolding length_fault
  length_cases len end fine short long = go (ltb len end) refl
    where
      go : (t : Bool) → ltb len end ≡ t → Q (cond t (fault 1 len) (cond (ltb end len) (fault 8 end) sound))
      go true p = short (ltb-true _ _ p)
      go false p = cond_cases Q (ltb end len) (fault 8 end) sound long fine

-- ---- places: no fault lies after the byte that is tested, or after the end that is asked for

pub byte_place : (s : List ℕ) (k low high code : ℕ) → (byte_fault s k low high code).place ≤ k
byte_place s k low high code = byte_cases (λ f. f.place ≤ k) s k low high code zero-le (λ h. h) (le_refl k)

pub length_place : (len end : ℕ) → (length_fault len end).place ≤ end
length_place len end = length_cases (λ f. f.place ≤ end) len end zero-le (λ h. omega arith) (le_refl end)

-- ---- patterns: the codes 7 and 14 name one, and no other code does

-- neither of the two
abbrev pub Plain : ℕ → Type 0
Plain code = (code ≡ 7 → ⊥) × (code ≡ 14 → ⊥)

-- a number that is none of them, by computing
pub plain : (code : ℕ) → eqb code 7 ≡ false → eqb code 14 ≡ false → Plain code
plain code a b = (eqb-false code 7 a, eqb-false code 14 b)

-- the pattern is 0 wherever the code is neither
abbrev pub Kept : ℕ → ℕ → Type 0
Kept code pattern = Plain code → pattern ≡ 0

abbrev pub KeptBy : Answer → Type 0
KeptBy a = Kept a.code a.pattern

pub by_kept : (who : ℕ) (f : Fault) (next : Answer) → Kept f.code f.pattern → KeptBy next → KeptBy (by who f next)
unfolding by
by_kept who f next this later = cond_cases KeptBy (is_sound f) next (refused_by who f) later this

pub or_else_kept : (a b : Answer) → KeptBy a → KeptBy b → KeptBy (a or_else b)
unfolding ◌or_else◌
or_else_kept a b this later = cond_cases KeptBy (eqb a.code 0) b a later this

pub fits_kept : (kind room needed : ℕ) → KeptBy (fits kind room needed)
unfolding fits
fits_kept kind room needed = cond_cases KeptBy (ltb room needed) _ _ (λ _. refl) (λ _. refl)

-- what holds of each fault without a pattern holds of a byte's and of the length's
module _ (Q : Fault → Type 0) (else_plain : (code place : ℕ) → Plain code → Q (fault code place)) where
  pub none_plain : (place : ℕ) → Q (fault 0 place)
  none_plain place = else_plain 0 place (plain 0 refl refl)

  pub short_plain : (place : ℕ) → Q (fault 1 place)
  short_plain place = else_plain 1 place (plain 1 refl refl)

  pub byte_plain : (s : List ℕ) (k low high code : ℕ) → Plain code → Q (byte_fault s k low high code)
  byte_plain s k low high code p = byte_cases Q s k low high code (none_plain 0) (λ _. short_plain _) (else_plain code k p)

  pub length_plain : (len end : ℕ) → Q (length_fault len end)
  length_plain len end = length_cases Q len end (none_plain 0) (λ _. short_plain len) (else_plain 8 end (plain 8 refl refl))
