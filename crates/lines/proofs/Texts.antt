-- Answers and bytes as text: how long they get, and a line number by number and byte by byte.
use Prim.Native.Nat.{ℕ, suc, ◌+◌, ◌*◌, ◌/◌, ◌%◌, ◌^◌, ◌≤◌, ◌<◌}
use mathlib.Core.Path.{◌≡◌, refl, sym, ap, ap₂, ◌∙◌}
use mathlib.Core.Bool.{Bool, true, false, cond}
use mathlib.Core.List.{List, [], ◌∷◌, ◌++◌, map}
use native.Mathlib.Numerals.{add-one}
use native.Mathlib.Omega.{arith}
use borrow.Author.Tests.{lt-ltb, le-ltb}
use lib.Dec.{ltb}
use lib.ListN.{length, get_or, take, drop, length-append, length-drop, drop_of_length-le}
use lib.Seq.{sets, length-sets, drop-cons}
use Rattle.answers.specs.declared.Answer.{Answer}
use Rattle.answers.proofs.Stores.{sets_stands}
use Rattle.words.specs.Words.{digit, decimal, line}
use Rattle.words.proofs.Decimals.{behind, decimal_most, word_next}
use Rattle.lines.specs.Lines.{hex, answer_line, text}

-- ---- an answer's line

-- the numbers of an answer: bytes, but for a place of 64 bits
-- a byte has at most three digits, a place at most twenty
pub byte_digits : (x : ℕ) → x < 2 ^ 8 → length (decimal x) ≤ 3
byte_digits x h = decimal_most 2 x (omega (arith, h))

pub place_digits_most : (x : ℕ) → x < 2 ^ 64 → length (decimal x) ≤ 20
place_digits_most x h = decimal_most 19 x (omega (arith, h))

pub ruleset digits_most_by = (byte_digits, place_digits_most)

pub record Digits (a : Answer) : Type 0 where
  pub code_digits : length (decimal a.code) ≤ 3
  pub kind_digits : length (decimal a.kind) ≤ 3
  pub record_digits : length (decimal a.«record») ≤ 3
  pub place_digits : length (decimal a.place) ≤ 20
  pub pattern_digits : length (decimal a.pattern) ≤ 3

pub digits_most : (a : Answer) → a.code < 2 ^ 8 → a.kind < 2 ^ 8 → a.«record» < 2 ^ 8 → a.place < 2 ^ 64 → a.pattern < 2 ^ 8 → Digits a
digits_most a code kind who place pattern =
    record {
      code_digits = decimal_most 2 a.code (omega (arith, code));
      kind_digits = decimal_most 2 a.kind (omega (arith, kind));
      record_digits = decimal_most 2 a.«record» (omega (arith, who));
      place_digits = decimal_most 19 a.place (omega (arith, place));
      pattern_digits = decimal_most 2 a.pattern (omega (arith, pattern));
    }

-- the line of an answer: five numbers, each with the character after it
pub answer_words : (a : Answer)
    → answer_line a ≡ (decimal a.code ++ (32 ∷ [])) ++ ((decimal a.kind ++ (32 ∷ [])) ++ ((decimal a.«record» ++ (32 ∷ [])) ++ ((decimal a.place ++ (32 ∷ [])) ++ (decimal a.pattern ++ (10 ∷ [])))))
unfolding answer_line line
answer_words a =
    let code = decimal a.code in
    let kind = decimal a.kind in
    let who = decimal a.«record» in
    let place = decimal a.place in
    let pattern = decimal a.pattern in
    word_next code kind (who ∷ place ∷ pattern ∷ [])
    ∙ ap (λ (l : List ℕ). (code ++ (32 ∷ [])) ++ l) (word_next kind who (place ∷ pattern ∷ [])
    ∙ ap (λ (l : List ℕ). (kind ++ (32 ∷ [])) ++ l) (word_next who place (pattern ∷ [])
    ∙ ap (λ (l : List ℕ). (who ++ (32 ∷ [])) ++ l) (word_next place pattern [])))

-- stored one behind the other, they are the line
module _ (a : Answer) (out out₁ out₂ out₃ out₄ out₅ : List ℕ) (end₁ end₂ end₃ end₄ end₅ : ℕ) where
  pub answer_stored : end₁ ≡ 0 + length (decimal a.code) + 1 → out₁ ≡ sets out 0 (decimal a.code ++ (32 ∷ []))
      → end₂ ≡ end₁ + length (decimal a.kind) + 1 → out₂ ≡ sets out₁ end₁ (decimal a.kind ++ (32 ∷ []))
      → end₃ ≡ end₂ + length (decimal a.«record») + 1 → out₃ ≡ sets out₂ end₂ (decimal a.«record» ++ (32 ∷ []))
      → end₄ ≡ end₃ + length (decimal a.place) + 1 → out₄ ≡ sets out₃ end₃ (decimal a.place ++ (32 ∷ []))
      → end₅ ≡ end₄ + length (decimal a.pattern) + 1 → out₅ ≡ sets out₄ end₄ (decimal a.pattern ++ (10 ∷ []))
      → (end₅ ≡ length (answer_line a)) × (out₅ ≡ sets out 0 (answer_line a))
  answer_stored e₁ s₁ e₂ s₂ e₃ s₃ e₄ s₄ e₅ s₅ =
      let code = decimal a.code ++ (32 ∷ []) in
      let kind = decimal a.kind ++ (32 ∷ []) in
      let who = decimal a.«record» ++ (32 ∷ []) in
      let place = decimal a.place ++ (32 ∷ []) in
      let pattern = decimal a.pattern ++ (10 ∷ []) in
      let l₁ = length-append (decimal a.code) (32 ∷ []) in
      let l₂ = length-append (decimal a.kind) (32 ∷ []) in
      let l₃ = length-append (decimal a.«record») (32 ∷ []) in
      let l₄ = length-append (decimal a.place) (32 ∷ []) in
      let l₅ = length-append (decimal a.pattern) (10 ∷ []) in
      let rest₄ = place ++ pattern in
      let rest₃ = who ++ rest₄ in
      let rest₂ = kind ++ rest₃ in (
        omega (arith, e₁, e₂, e₃, e₄, e₅, l₁, l₂, l₃, l₄, l₅, ap length (answer_words a), length-append code rest₂, length-append kind rest₃, length-append who rest₄, length-append place pattern),
        s₅
            ∙ behind out₃ place out₄ end₃ end₄ pattern s₄ (omega (arith, e₄, l₄))
            ∙ behind out₂ who out₃ end₂ end₃ rest₄ s₃ (omega (arith, e₃, l₃))
            ∙ behind out₁ kind out₂ end₁ end₂ rest₃ s₂ (omega (arith, e₂, l₂))
            ∙ behind out code out₁ 0 end₁ rest₂ s₁ (omega (arith, e₁, l₁))
            ∙ ap (sets out 0) (sym (answer_words a)),
      )

-- ---- a line of bytes in hex

-- each byte takes three characters
pub hex_length : (bytes : List ℕ) → length (line (map hex bytes)) ≡ 3 * length bytes
unfolding line
hex_length [] = refl
hex_length (b ∷ []) = refl
hex_length (b ∷ c ∷ bytes) = ap (λ (k : ℕ). suc (suc (suc k))) (hex_length (c ∷ bytes)) ∙ omega arith

-- the third is a blank, or LF after the last byte
hex_word : (b : ℕ) (rest : List ℕ) (more : Bool) → (length rest ≡ 0 → more ≡ false) → (0 < length rest → more ≡ true)
    → line (map hex (b ∷ rest)) ≡ (digit (b / 16) ∷ digit (b % 16) ∷ cond more 32 10 ∷ []) ++ line (map hex rest)
unfolding line
hex_word b [] more last further = ap (λ (t : Bool). digit (b / 16) ∷ digit (b % 16) ∷ cond t 32 10 ∷ []) (sym (last refl))
hex_word b (c ∷ rest) more last further =
    ap (λ (t : Bool). digit (b / 16) ∷ digit (b % 16) ∷ cond t 32 10 ∷ line (map hex (c ∷ rest))) (sym (further (omega arith)))

pub hex_next : (bytes : List ℕ) (i : ℕ) → i < length bytes
    → line (map hex (drop i bytes)) ≡ (digit (get_or bytes i 0 / 16) ∷ digit (get_or bytes i 0 % 16) ∷ cond (ltb (i + 1) (length bytes)) 32 10 ∷ []) ++ line (map hex (drop (i + 1) bytes))
hex_next bytes i h =
    let left = length-drop (i + 1) bytes in
    ap (λ (l : List ℕ). line (map hex l)) (drop-cons bytes i 0 h ∙ ap (λ (k : ℕ). get_or bytes i 0 ∷ drop k bytes) (sym (add-one i)))
    ∙ hex_word (get_or bytes i 0) (drop (i + 1) bytes) (ltb (i + 1) (length bytes)) (λ z. le-ltb (i + 1) (length bytes) (omega (arith, left, z))) (λ m. lt-ltb (i + 1) (length bytes) (omega (arith, left, m)))

-- ---- a line of bytes in hex, while it is written

-- i bytes are written, up to `at`; what is written, followed by the others, is the whole line
pub record Spelt (before : List ℕ) (start : ℕ) (bytes out : List ℕ) (i at : ℕ) : Type 0 where
  pub done : i ≤ length bytes
  pub room : length out ≡ length before
  pub here : at ≡ start + 3 * i
  pub rest : sets out at (line (map hex (drop i bytes))) ≡ sets before start (line (map hex bytes))

module _ (before : List ℕ) (start : ℕ) (bytes : List ℕ) where
  pub spelt_none : Spelt before start bytes before 0 start
  spelt_none = record { done = omega arith; room = refl; here = omega arith; rest = refl }

  module _ (out : List ℕ) (i at : ℕ) (s : Spelt before start bytes out i at) where
    pub spelt_room : i < length bytes → start + length (line (map hex bytes)) ≤ length before → at + 3 ≤ length out
    spelt_room h fits = omega (arith, s.here, s.room, hex_length bytes)

    pub spelt_one : i < length bytes → (out' : List ℕ) (d e g : ℕ) → d ≡ digit (get_or bytes i 0 / 16) → e ≡ digit (get_or bytes i 0 % 16) → g ≡ cond (ltb (i + 1) (length bytes)) 32 10
        → out' ≡ sets out at (d ∷ e ∷ g ∷ []) → Spelt before start bytes out' (i + 1) (at + 3)
    spelt_one h out' d e g high low next stored =
        let word = d ∷ e ∷ g ∷ [] in
        let more = line (map hex (drop (i + 1) bytes)) in
        let is : word ++ more ≡ line (map hex (drop i bytes)) = simp (high, low, next) (sym (hex_next bytes i h)) in
        record {
          done = omega (arith, h);
          room = ap length stored ∙ length-sets out at word ∙ s.room;
          here = omega (arith, s.here);
          rest = behind out word out' at (at + 3) more stored refl ∙ ap (sets out at) is ∙ s.rest;
        }

    pub spelt_all : length bytes ≤ i → out ≡ sets before start (line (map hex bytes))
    unfolding line
    spelt_all h = sym (ap (λ (l : List ℕ). sets out at (line (map hex l))) (drop_of_length-le bytes h)) ∙ s.rest

-- ---- an answer's line with a claim's under it

pub text_length : (a : Answer) (claim : List ℕ) → length (text a claim) ≡ length (answer_line a) + 3 * length claim
unfolding text
text_length a claim = length-append (answer_line a) (line (map hex claim)) ∙ ap (λ (k : ℕ). length (answer_line a) + k) (hex_length claim)

-- the first line was written elsewhere, and is copied
module _ (a : Answer) (claim space first out out₁ out₂ : List ℕ) (len : ℕ) (is : len ≡ length (answer_line a)) (fits : len ≤ length space) (made : first ≡ sets space 0 (answer_line a)) where
  pub line_front : take len first ≡ answer_line a
  line_front =
      ap₂ (λ (k : ℕ) (l : List ℕ). take k l) is made
      ∙ (sets_stands (answer_line a) space (omega (arith, is, fits))).front

  pub text_stored : out₁ ≡ sets out 0 (take len first) → out₂ ≡ sets out₁ len (line (map hex claim)) → out₂ ≡ sets out 0 (text a claim)
  unfolding text
  text_stored copied under = under ∙ behind out (answer_line a) out₁ 0 len (line (map hex claim)) (copied ∙ ap (sets out 0) line_front) (omega (arith, is))
