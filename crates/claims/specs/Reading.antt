-- Reading the bytes of a tree in order, over any choice rule and any reading of a closing. What was read is told by a fault: its
-- code and place, or code 0 and the place where reading goes on.
use Rattle.std.specs.Prelude.{ℕ, zero, suc, ◌+◌, cond, List, [], ◌∷◌, eqb, get_or}
use Rattle.answers.specs.declared.Fault.{Fault}
use Rattle.answers.specs.Answers.{fault, is_sound, present}
use Rattle.rules.specs.Rules.{Rule, ◌adding◌, next}

infixl 30 ◌onward◌
-- no fault, and reading goes on at a place
abbrev pub read_to : ℕ → Fault
read_to at = fault 0 at

-- the next reading, from where this one ends
unfoldable pub ◌onward◌ : Fault → (ℕ → Fault) → Fault
f onward next = cond (is_sound f) (next f.place) f

-- a reading for each choice of a list, one after the other
unfoldable pub in_turn : (ℕ → ℕ → Fault) → List ℕ → ℕ → Fault
in_turn read [] at = read_to at
in_turn read (b ∷ l) at = read b at onward in_turn read l

-- the tree at a place of the bytes c, after the choices w with k inputs still to be placed: FF says a split, which is refused
-- by 16 where no input is left
module _ (R : Rule) (read_closing : List ℕ → ℕ → Fault) (c : List ℕ) where
  abbrev pub node : List ℕ → ℕ → Fault → Fault
  node w at split = present c at (cond (eqb (get_or c at 0) 0xFF) split (read_closing w at))

  unfoldable pub read_tree : ℕ → List ℕ → ℕ → Fault
  read_tree zero w at = node w at (fault 16 at)
  read_tree (suc k) w at = node w at (in_turn (λ b. read_tree k (w adding b)) (next R w) (at + 1))
