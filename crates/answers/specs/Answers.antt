-- The numbers of an answer, faults in bytes that are read one after the other, and a lent buffer after an answer.
-- Document 01, "Numbers returned"; the pattern is document 02, W-202.
use Rattle.std.specs.Prelude.{ℕ, ◌+◌, ◌-◌, ◌*◌, ◌/◌, ◌%◌, ◌^◌, min, ◌≡◌, Bool, cond, ◌&&◌, List, leb, ltb, eqb, length, get_or}
use Rattle.std.proofs.lemmas.List.Edits.{sets}
use Rattle.answers.specs.declared.Answer.{Answer}
use Rattle.answers.specs.declared.Fault.{Fault}

infixl 30 ◌then◌
infixr 30 ◌or_else◌
-- accepted: code 0, record 0
abbrev pub accepted : ℕ → ℕ → Answer
accepted kind place = record { code = 0; kind = kind; «record» = 0; place = place; pattern = 0 }

-- refused: kind 0; the pattern is 0 but for codes 7 and 14
abbrev pub refused_at : ℕ → ℕ → ℕ → ℕ → Answer
refused_at code who place pattern = record { code = code; kind = 0; «record» = who; place = place; pattern = pattern }

abbrev pub refused : ℕ → ℕ → ℕ → Answer
refused code who place = refused_at code who place 0

-- nothing is refused so far
abbrev pub fine : Answer
fine = accepted 3 0

-- a fault: its code, its place in the bytes that were read, and its pattern; code 0 says that there is none
abbrev pub fault_at : ℕ → ℕ → ℕ → Fault
fault_at code place pattern = record { code = code; place = place; pattern = pattern }

abbrev pub fault : ℕ → ℕ → Fault
fault code place = fault_at code place 0

abbrev pub sound : Fault
sound = fault 0 0

abbrev pub is_sound : Fault → Bool
is_sound f = eqb f.code 0

-- the first of two faults, in the order in which they are looked for
unfoldable pub ◌then◌ : Fault → Fault → Fault
f then g = cond (is_sound f) g f

-- refused for a fault in record `who`; and that, or else the answer that comes next
abbrev pub refused_by : ℕ → Fault → Answer
refused_by who f = refused_at f.code who f.place f.pattern

unfoldable pub by : ℕ → Fault → Answer → Answer
by who f next = cond (is_sound f) next (refused_by who f)

-- the next answer, unless this one is a refusal
unfoldable pub ◌or_else◌ : Answer → Answer → Answer
a or_else b = cond (eqb a.code 0) b a

-- byte k has to be there: missing gives 1 at the length, before any test of it
abbrev pub present : List ℕ → ℕ → Fault → Fault
present s k tested = cond (leb (length s) k) (fault 1 (length s)) tested

-- byte k of a header: outside low to high gives the code
unfoldable pub byte_fault : List ℕ → ℕ → ℕ → ℕ → ℕ → Fault
byte_fault s k low high code = present s k (cond (leb low (get_or s k 0) && leb (get_or s k 0) high) sound (fault code k))

-- the length has to be just `end`: 1 where the bytes end too early, 8 where bytes follow
unfoldable pub length_fault : ℕ → ℕ → Fault
length_fault len end = cond (ltb len end) (fault 1 len) (cond (ltb end len) (fault 8 end) sound)

-- room for the whole answer, which is asked for last: 18 with the length needed
unfoldable pub fits : ℕ → ℕ → ℕ → Answer
fits kind room needed = cond (ltb room needed) (refused 18 4 needed) (accepted kind needed)

-- a lent buffer afterwards: the bytes at its start and nothing after them if accepted, else unchanged
unfoldable pub buffer_after : Answer → List ℕ → List ℕ → List ℕ
buffer_after answer bytes before = cond (eqb answer.code 0) (sets before 0 bytes) before

-- what a call with a lent buffer leaves: the answer, and the buffer afterwards
pub record Delivered (answer : Answer) (bytes before after : List ℕ) (r : Answer) : Type 0 where
  pub returned : r ≡ answer
  pub buffer : after ≡ buffer_after answer bytes before

-- a lent slice afterwards: the numbers at its start if they fit, else unchanged
unfoldable pub stored_if_room : List ℕ → List ℕ → List ℕ
stored_if_room numbers before = cond (leb (length numbers) (length before)) (sets before 0 numbers) before

-- what a call leaves that returns a number and fills a lent slice: the number, and the slice afterwards
pub record Leaves (number : ℕ) (stored before after : List ℕ) (r : ℕ) : Type 0 where
  pub returned : r ≡ number
  pub slice : after ≡ stored_if_room stored before

-- one number for a host: code + 256·kind + 65,536·record + 16,777,216·place + 2^56·pattern
unfoldable pub packed : Answer → ℕ
packed a = a.code + 256 * a.kind + 65536 * a.«record» + 16777216 * a.place + 2 ^ 56 * a.pattern

-- the largest place that the host's number has room for
abbrev pub most_told : ℕ
most_told = 2 ^ 32 - 1

-- the answer as the host is told it: a place beyond the largest that fits is told as the largest
unfoldable pub told : Answer → Answer
told a = record { code = a.code; kind = a.kind; «record» = a.«record»; place = min a.place most_told; pattern = a.pattern }

-- the five numbers, as the host takes them out again
pub record Tells (a : Answer) (r : ℕ) : Type 0 where
  pub code_told : r % 256 ≡ a.code
  pub kind_told : r / 256 % 256 ≡ a.kind
  pub record_told : r / 65536 % 256 ≡ a.«record»
  pub place_told : r / 16777216 % 2 ^ 32 ≡ a.place
  pub pattern_told : r / 2 ^ 56 ≡ a.pattern
