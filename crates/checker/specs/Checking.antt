-- What the checker answers: the bytes of a claim read in the order of document 01, and the first fault is the answer.
use Rattle.std.specs.Prelude.{ℕ, ◌+◌, ◌-◌, ◌≡◌, cond, List, [], ◌∷◌, ltb, eqb, length, get_or, drop, Ok, Err}
use Rattle.bits.specs.Bits.{or_zero}
use Rattle.rules.specs.Rules.{◌adding◌}
use Rattle.std.specs.declared.result.Result.{Result}
use Rattle.answers.specs.declared.Answer.{Answer}
use Rattle.answers.specs.declared.Fault.{Fault}
use Rattle.answers.specs.Answers.{accepted, fault, fault_at, sound, present, byte_fault, length_fault, ◌then◌, by, ◌or_else◌}
use Rattle.records.specs.Records.{inputs, both_read}
use Rattle.wirings.specs.Wirings.{straight, is_choice, free_choice, agrees, disagreement}
use Rattle.wirings.specs.Pairs.{cubes_in, side, against, of_pair, dead}
use Rattle.answers.specs.Verdicts.{verdict}
use Rattle.partial.specs.declared.Wiring.{Wiring}
use Rattle.partial.specs.Partial.{StandsFor}
use Rattle.claims.specs.Reading.{read_to, ◌onward◌, read_tree}
use Rattle.checker.specs.declared.Unwired.{Unwired}

-- the second byte of the mark, and n
unfoldable pub header_fault : List ℕ → ℕ → ℕ → Fault
header_fault c mark n = byte_fault c 1 mark mark 2 then byte_fault c 2 n n 10

-- ---- a match claim

-- the code for a choice after the choices w: 12 where the byte is no choice, 13 where its input of g is used, else 0
unfoldable pub choice_code : ℕ → List ℕ → ℕ → ℕ
choice_code n w b = cond (is_choice n b) (cond (free_choice w b) 0 13) 12

-- choices one by one after w: the first whose code is not 0, and the choices made before it
unfoldable pub choices_fault : ℕ → List ℕ → List ℕ → ℕ → Fault
choices_fault n w [] at = sound
choices_fault n w (b ∷ rest) at = cond (eqb (choice_code n w b) 0) (choices_fault n (w adding b) rest (at + 1)) (fault (choice_code n w b) at)

unfoldable pub choices_made : ℕ → List ℕ → List ℕ → List ℕ
choices_made n w [] = w
choices_made n w (b ∷ rest) = cond (eqb (choice_code n w b) 0) (choices_made n (w adding b) rest) w

-- choices that are read from place `at` on: the first fault, and the wiring that has those before it
abbrev pub fault_told : Result Wiring Unwired → Result (Unit {0}) Fault
fault_told (Ok w) = Ok (tt {0})
fault_told (Err u) = Err u.fault

abbrev pub wiring_made : Result Wiring Unwired → Wiring
wiring_made (Ok w) = w
wiring_made (Err u) = u.before

pub record Wires (n : ℕ) (bytes : List ℕ) (at : ℕ) (r : Result Wiring Unwired) : Type 0 where
  pub fault : fault_told r ≡ verdict (choices_fault n [] bytes at)
  pub wiring : StandsFor (wiring_made r).masks n (choices_made n [] bytes)

-- whether the wiring agrees: if not, 14 names the smallest pattern of g at which f and g disagree
unfoldable pub agreement_fault : ℕ → List ℕ → List ℕ → List ℕ → Fault
agreement_fault q f g w = cond (agrees q f g w) sound (fault_at 14 0 (or_zero (disagreement q f g w)))

-- length, q, choices, and last whether the wiring agrees
unfoldable pub match_fault : List ℕ → List ℕ → List ℕ → Fault
match_fault f g c =
    header_fault c 0x54 (inputs g)
    then length_fault (length c) (4 + inputs g)
    then byte_fault c 3 0 1 11
    then choices_fault (inputs g) [] (drop 4 c) 4
    then agreement_fault (get_or c 3 0) f g (drop 4 c)

-- ---- a refusal claim

-- byte k is an index into a list of so many cubes
unfoldable pub index_fault : List ℕ → ℕ → ℕ → Fault
index_fault c k number = present c k (cond (ltb (get_or c k 0) number) sound (fault 15 k))

-- a closing under the choices w of n inputs: s, then u, then v, then whether the pair is dead
unfoldable pub closing_fault : ℕ → ℕ → List ℕ → List ℕ → List ℕ → List ℕ → ℕ → Fault
closing_fault n q f g c w at =
    let s = get_or c at 0 in
    byte_fault c at 0 1 15
    then index_fault c (at + 1) (cubes_in (side s f))
    then index_fault c (at + 2) (cubes_in (side (against q s) g))
    then cond (of_pair q f g (dead n w) (s, get_or c (at + 1) 0, get_or c (at + 2) 0)) sound (fault 17 at)
    then read_to (at + 3)

-- the tree for q at a place, under the choices w
unfoldable pub tree_fault : ℕ → ℕ → List ℕ → List ℕ → List ℕ → List ℕ → ℕ → Fault
tree_fault n q f g c w at = read_tree (straight n) (closing_fault n q f g c) c (n - length w) w at

-- two trees, and nothing after them
unfoldable pub refusal_fault : List ℕ → List ℕ → List ℕ → Fault
refusal_fault f g c =
    header_fault c 0x46 (inputs g)
    then (read_to 3
    onward tree_fault (inputs g) 0 f g c []
    onward tree_fault (inputs g) 1 f g c []
    onward length_fault (length c))

-- ---- any claim

-- the first byte of the mark decides the kind
unfoldable pub claim_fault : List ℕ → List ℕ → List ℕ → Fault
claim_fault f g c =
    present c 0
    (cond (eqb (get_or c 0 0) 0x4D) (match_fault f g c)
    (cond (eqb (get_or c 0 0) 0x52) (refusal_fault f g c)
    (fault 2 0)))

-- which is 1 for a match, 2 for a refusal
unfoldable pub kind_of : ℕ → ℕ
kind_of mark = cond (eqb mark 0x4D) 1 2

-- both functions, then the claim as record 3
unfoldable pub checking : List ℕ → List ℕ → List ℕ → Answer
checking f g c = both_read f g or_else by 3 (claim_fault f g c) (accepted (kind_of (get_or c 0 0)) (length c))
