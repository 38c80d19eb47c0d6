-- Stores into a lent buffer, one byte after the other.
use Prim.Native.Nat.{ℕ, suc, ◌+◌, ◌≤◌, ◌<◌}
use mathlib.Core.Path.{◌≡◌, refl, sym, ap, ◌∙◌, subst₂}
use mathlib.Core.Bool.{Bool, true, false, cond}
use mathlib.Core.List.{List, [], ◌∷◌, ◌++◌}
use native.Mathlib.Nat.{add-zero, zero-add, add-suc, suc-add}
use native.Mathlib.Numerals.{add-one}
use native.Mathlib.Omega.{arith}
use borrow.Author.Tests.{lt-ltb, le-ltb, ltb-false, eqb-false, le-leb, lt-leb}
use lib.Dec.{ltb}
use lib.ListN.{length, get_or, take, drop, set, drop_of_length-le}
use lib.Seq.{sets, sets-eq, drop-cons, take-append_seam, drop-append_seam}
use Rattle.answers.specs.declared.Answer.{Answer}
use Rattle.answers.proofs.Faults.{next_chosen, this_chosen}
use Rattle.answers.specs.Answers.{accepted, refused, fits, buffer_after, Delivered, stored_if_room, Leaves}

-- one byte of the run is stored, and the others come after it
pub store_next : (out bytes : List ℕ) (at i : ℕ) → i < length bytes
    → sets (set out (at + i) (get_or bytes i 0)) (at + (i + 1)) (drop (i + 1) bytes) ≡ sets out (at + i) (drop i bytes)
store_next out bytes at i h = rw (add-one, add-suc) (sym (ap (sets out (at + i)) (drop-cons bytes i 0 h)))

-- none is stored yet, and none remains
pub store_first : (out bytes : List ℕ) (at : ℕ) → sets out (at + 0) (drop 0 bytes) ≡ sets out at bytes
store_first out bytes at = ap (λ (k : ℕ). sets out k bytes) (add-zero at)

pub store_last : (out bytes : List ℕ) (at i : ℕ) → length bytes ≤ i → sets out (at + i) (drop i bytes) ≡ out
store_last out bytes at i h = ap (sets out (at + i)) (drop_of_length-le bytes h)

pub ruleset storing = (store_first, store_next, store_last)

-- two runs in a row are one
pub sets_join : (l a b : List ℕ) (i : ℕ) → sets (sets l i a) (i + length a) b ≡ sets l i (a ++ b)
sets_join l [] b i = ap (λ (k : ℕ). sets l k b) (add-zero i)
sets_join l (x ∷ a) b i =
    ap (λ (k : ℕ). sets (sets (set l i x) (suc i) a) k b) (add-suc i (length a) ∙ sym (suc-add i (length a)))
    ∙ sets_join (set l i x) a b (suc i)

-- and so are three
pub three_stored : (l a b c : List ℕ) (k : ℕ) → length a ≡ k → sets (sets (sets l 0 a) k b) (k + length b) c ≡ sets l 0 (a ++ (b ++ c))
three_stored l a b c k e =
    sets_join (sets l 0 a) b c k
    ∙ ap (λ (m : ℕ). sets (sets l 0 a) m (b ++ c)) (omega (arith, e))
    ∙ sets_join l a (b ++ c) 0

-- what a caller finds: the buffer begins with the bytes, `place` of them, and goes on as before
pub record Stands (bytes before after : List ℕ) (place : ℕ) : Type 0 where
  pub long : place ≡ length bytes
  pub front : take place after ≡ bytes
  pub behind : drop place after ≡ drop place before

pub sets_stands : (bytes before : List ℕ) → length bytes ≤ length before → Stands bytes before (sets before 0 bytes) (length bytes)
sets_stands bytes before h =
    let e : sets before 0 bytes ≡ bytes ++ drop (length bytes) before = sets-eq bytes before 0 (omega (arith, h)) ∙ ap (λ (k : ℕ). bytes ++ drop k before) (zero-add (length bytes)) in
    record {
      long = refl;
      front = ap (take (length bytes)) e ∙ take-append_seam bytes (drop (length bytes) before);
      behind = ap (drop (length bytes)) e ∙ drop-append_seam bytes (drop (length bytes) before);
    }

-- ---- a lent slice that is filled if it has room

pub stored_with_room : (numbers before : List ℕ) → length numbers ≤ length before → stored_if_room numbers before ≡ sets before 0 numbers
unfolding stored_if_room
stored_with_room numbers before h = simp (le-leb _ _ h)

pub stored_without_room : (numbers before : List ℕ) → length before < length numbers → stored_if_room numbers before ≡ before
unfolding stored_if_room
stored_without_room numbers before h = simp (lt-leb _ _ h)

-- as a caller meets it: with room, the bytes stand at the slice's start
pub leaves_stands : (bytes before after : List ℕ) (r : ℕ) → Leaves (length bytes) bytes before after r → length bytes ≤ length before → Stands bytes before after r
leaves_stands bytes before after r l h =
    subst₂ (λ (x : List ℕ) (place : ℕ). Stands bytes before x place) (sym (l.slice ∙ stored_with_room bytes before h)) (sym l.returned) (sets_stands bytes before h)

-- ---- room for the answer

pub fits_short : (kind room needed : ℕ) → room < needed → fits kind room needed ≡ refused 18 4 needed
unfolding fits
fits_short kind room needed h = simp (lt-ltb _ _ h)

pub fits_enough : (kind room needed : ℕ) → needed ≤ room → fits kind room needed ≡ accepted kind needed
unfolding fits
fits_enough kind room needed h = simp (le-ltb _ _ h)

pub fits_sound : (kind room needed : ℕ) → (fits kind room needed).code ≡ 0 → needed ≤ room
unfolding fits
fits_sound kind room needed e = go (ltb room needed) refl e
  where
    go : (t : Bool) → ltb room needed ≡ t → (cond t (refused 18 4 needed) (accepted kind needed)).code ≡ 0 → needed ≤ room
    go true q h = absurd (omega (arith, h))
    go false q h = ltb-false _ _ q

-- ---- a lent buffer

-- after an accepted answer, and after a refusal
pub after_accepted : (a : Answer) (bytes before : List ℕ) → a.code ≡ 0 → buffer_after a bytes before ≡ sets before 0 bytes
unfolding buffer_after
after_accepted a bytes before = next_chosen a.code (sets before 0 bytes) before

pub after_refused : (a : Answer) (bytes before : List ℕ) → (a.code ≡ 0 → ⊥) → buffer_after a bytes before ≡ before
unfolding buffer_after
after_refused a bytes before = this_chosen a.code (sets before 0 bytes) before

-- as a function meets it: a refusal leaves the buffer, and an accepted answer has stored the bytes
pub delivered_refusal : (a : Answer) (bytes before : List ℕ) (r : Answer) → r ≡ a → (r.code ≡ 0 → ⊥) → Delivered a bytes before before r
delivered_refusal a bytes before r e bad =
    record { returned = e; buffer = sym (after_refused a bytes before (λ z. bad (ap (λ (x : Answer). x.code) e ∙ z))) }

delivered_bytes : (a : Answer) (bytes before after : List ℕ) (r : Answer) → r ≡ a → r.code ≡ 0 → after ≡ sets before 0 bytes → Delivered a bytes before after r
delivered_bytes a bytes before after r e good stored =
    record { returned = e; buffer = stored ∙ sym (after_accepted a bytes before (ap (λ (x : Answer). x.code) (sym e) ∙ good)) }

-- where room is all that is still asked for: too short for the bytes, or long enough
module _ (a : Answer) (kind needed : ℕ) (bytes before : List ℕ) (by_room : a ≡ fits kind (length before) needed) (r : Answer) where
  pub delivered_short : length before < needed → r ≡ refused 18 4 needed → Delivered a bytes before before r
  delivered_short h e = delivered_refusal a bytes before r (e ∙ sym (by_room ∙ fits_short kind (length before) needed h)) (λ z. eqb-false 18 0 refl (sym (ap (λ (x : Answer). x.code) e) ∙ z))

  pub delivered_whole : needed ≤ length before → r ≡ accepted kind needed → (after : List ℕ) → after ≡ sets before 0 bytes → Delivered a bytes before after r
  delivered_whole h e after stored =
      delivered_bytes a bytes before after r (e ∙ sym (by_room ∙ fits_enough kind (length before) needed h)) (ap (λ (x : Answer). x.code) e) stored

-- as a caller meets it: a refusal has changed nothing
pub delivered_unchanged : (a : Answer) (bytes before after : List ℕ) (r : Answer) → Delivered a bytes before after r → (r.code ≡ 0 → ⊥) → after ≡ before
delivered_unchanged a bytes before after r d bad = d.buffer ∙ after_refused a bytes before (λ z. bad (ap (λ (x : Answer). x.code) d.returned ∙ z))

-- and where room was asked for last, an accepted answer tells the bytes' length, and they stand at the buffer's start
module _ (a : Answer) (kind : ℕ) (bytes before after : List ℕ) (r : Answer) (by_room : a.code ≡ 0 → a ≡ fits kind (length before) (length bytes)) (d : Delivered a bytes before after r) (e : r.code ≡ 0) where
  good : a.code ≡ 0
  good = ap (λ (x : Answer). x.code) (sym d.returned) ∙ e

  room : length bytes ≤ length before
  room = fits_sound kind (length before) (length bytes) (ap (λ (x : Answer). x.code) (sym (by_room good)) ∙ good)

  pub delivered_is : r ≡ accepted kind (length bytes)
  delivered_is = d.returned ∙ by_room good ∙ fits_enough kind (length before) (length bytes) room

  pub delivered_stands : Stands bytes before after r.place
  delivered_stands =
      subst₂ (λ (l : List ℕ) (place : ℕ). Stands bytes before l place) (sym (d.buffer ∙ after_accepted a bytes before good)) (ap (λ (x : Answer). x.place) (sym delivered_is))
      (sets_stands bytes before room)
