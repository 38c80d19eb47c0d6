-- Choices read one by one. The idea: with the choices made so far, those that remain give the same fault and the same wiring as all
-- of them from the start.
use Prim.Native.Nat.{ℕ, ◌+◌, ◌-◌, ◌≤◌, ◌<◌}
use Rattle.std.proofs.Common.{Ok, Err}
use Rattle.std.specs.declared.result.Result.{Result}
use native.Mathlib.Omega.{arith}
use mathlib.Core.Path.{◌≡◌, refl, sym, ap, ap₂, ◌∙◌, subst, subst₂}
use mathlib.Core.Bool.{Bool, true, false, cond, ◌&&◌}
use mathlib.Core.List.{List, [], ◌∷◌, ◌++◌, append-nil}
use borrow.Author.Tests.{eq-eqb, ne_eqb}
use native.Mathlib.Numerals.{add-one}
use lib.Dec.{eqb}
use lib.ListN.{get_or, length, take, drop, drop_of_length-le, length-drop}
use Rattle.std.proofs.lemmas.List.{take_all}
use lib.Seq.{drop-cons}
use Rattle.bits.proofs.Tests.{both, both_left, both_right}
use Rattle.answers.specs.declared.Fault.{Fault}
use Rattle.answers.specs.declared.Code.{Code}
use Rattle.answers.specs.Answers.{fault, sound}
use Rattle.answers.specs.Verdicts.{number, verdict}
use Rattle.answers.proofs.Verdicts.{numbered, verdict_at, verdict_ok, verdict_sound}
use Rattle.answers.proofs.Faults.{chosen}
use Rattle.rules.specs.Rules.{◌adding◌, follows}
use Rattle.rules.proofs.Completions.{adding_append}
use Rattle.wirings.specs.Wirings.{is_choice, free_choice, straight}
use Rattle.wirings.proofs.Choices.{listed}
use Rattle.partial.specs.declared.Wiring.{Wiring}
use Rattle.partial.specs.Partial.{StandsFor, prefix, may_place}
use Rattle.partial.proofs.Standing.{stands_n, stands_depth, stands_prefix}
use Rattle.checker.specs.declared.Unwired.{Unwired}
use Rattle.checker.specs.Checking.{choice_code, choices_fault, choices_made, fault_told, wiring_made, Wires}

-- the code of a choice is 0 just where it is one and its input is free
code_is : (n : ℕ) (w : List ℕ) (b : ℕ) → eqb (choice_code n w b) 0 ≡ is_choice n b && free_choice w b
unfolding choice_code
code_is n w b = go (is_choice n b) (free_choice w b)
  where
    go : (c t : Bool) → eqb (cond c (cond t 0 13) 12) 0 ≡ c && t
    go true true = refl
    go true false = refl
    go false t = refl

code_may : (n : ℕ) (w : List ℕ) (b : ℕ) → choice_code n w b ≡ 0 → is_choice n b && free_choice w b ≡ true
code_may n w b z = sym (code_is n w b) ∙ eq-eqb _ 0 z

-- of the choices that are read from place `from` on, k are made, and x has them
module _ (n : ℕ) (l : List ℕ) (from : ℕ) where
  abbrev s : List ℕ
  s = take (length l - from) (drop from l)

  all_taken : s ≡ drop from l
  all_taken = take_all (length l - from) (drop from l) (omega (arith, length-drop from l))

  pub record Making (k : ℕ) (x : Wiring) : Type 0 where
    pub inputs : x.masks.n ≡ n
    pub faults : choices_fault n [] s from ≡ choices_fault n (prefix x.masks) (drop k s) (from + k)
    pub made : choices_made n [] s ≡ choices_made n (prefix x.masks) (drop k s)

  pub making_starts : (x : Wiring) → StandsFor x.masks n [] → Making 0 x
  making_starts x h =
      let none = sym (stands_prefix x.masks n [] h) in
      record {
        inputs = stands_n x.masks n [] h;
        faults = ap₂ (λ (w : List ℕ) (at : ℕ). choices_fault n w s at) none (omega arith);
        made = ap (λ (w : List ℕ). choices_made n w s) none;
      }

  module _ (k : ℕ) (x : Wiring) (m : Making k x) where
    abbrev w : List ℕ
    w = prefix x.masks

    -- so the wiring stands for its choices with these inputs
    pub stands : StandsFor x.masks n w
    stands = subst (λ (n : ℕ). StandsFor x.masks n w) m.inputs x.formed

    module _ (d : ℕ) (h : k < length s) where
      abbrev b : ℕ
      b = get_or s k d

      -- the next choice, and those after it
      next_fault : choices_fault n [] s from
          ≡ cond (eqb (choice_code n w b) 0) (choices_fault n (w adding b) (drop (k + 1) s) (from + k + 1))
          (fault (choice_code n w b) (from + k))
      unfolding choices_fault
      next_fault =
          m.faults ∙ ap (λ (l : List ℕ). choices_fault n w l (from + k)) (drop-cons s k d h)
          ∙ ap (λ (m : ℕ). choices_fault n w (b ∷ drop m s) (from + k)) (sym (add-one k))

      next_made : choices_made n [] s ≡ cond (eqb (choice_code n w b) 0) (choices_made n (w adding b) (drop (k + 1) s)) w
      unfolding choices_made
      next_made = m.made ∙ ap (choices_made n w) (drop-cons s k d h) ∙ ap (λ (m : ℕ). choices_made n w (b ∷ drop m s)) (sym (add-one k))

      -- a choice with a code ends it
      pub making_stops : (code : Code) (bad : Fault) → number code ≡ choice_code x.masks.n w b → bad ≡ fault (number code) (from + k)
          → Wires n (drop from l) from (Err (record { fault = bad; before = x }))
      making_stops code bad is is_bad =
          let here = is ∙ ap (λ (m : ℕ). choice_code m w b) m.inputs in
          let no_more = ne_eqb (choice_code n w b) 0 (λ z. numbered code (here ∙ z)) in
          subst (λ (s : List ℕ). Wires n s from (Err (record { fault = bad; before = x }))) all_taken
          (record {
            fault =
                ap Err is_bad
                ∙ sym (ap verdict (next_fault ∙ simp no_more (ap (λ (c : ℕ). fault c (from + k)) (sym here))) ∙ verdict_at code (from + k) 0);
            wiring = subst (StandsFor x.masks n) (sym (next_made ∙ simp no_more)) stands;
          })

      -- one without may be placed, and then it goes on
      module _ (is : 0 ≡ choice_code x.masks.n w b) where
        pub may_go_on : may_place x.masks b ≡ true
        may_go_on = code_may x.masks.n w b (sym is)

        pub making_goes : (y : Wiring) → StandsFor y.masks x.masks.n (w adding b) → Making (k + 1) y
        making_goes y placed =
            let on = eq-eqb (choice_code n w b) 0 (sym (is ∙ ap (λ (m : ℕ). choice_code m w b) m.inputs)) in
            let there = sym (stands_prefix y.masks x.masks.n (w adding b) placed) in
            record {
              inputs = stands_n y.masks x.masks.n (w adding b) placed ∙ m.inputs;
              faults = next_fault ∙ simp on (ap₂ (λ (v : List ℕ) (at : ℕ). choices_fault n v (drop (k + 1) s) at) there (omega arith));
              made = next_made ∙ simp on (ap (λ (v : List ℕ). choices_made n v (drop (k + 1) s)) there);
            }

    pub all_made : length s ≤ k → Wires n (drop from l) from (Ok x)
    unfolding choices_fault choices_made
    all_made h =
        subst (λ (s : List ℕ). Wires n s from (Ok x)) all_taken
        (record {
          fault =
              sym (ap verdict (m.faults ∙ ap (λ (l : List ℕ). choices_fault n w l (from + k)) (drop_of_length-le s h)) ∙ verdict_sound sound refl);
          wiring = subst (StandsFor x.masks n) (sym (m.made ∙ ap (choices_made n w) (drop_of_length-le s h))) stands;
        })

-- ---- choices without fault

-- they may follow w, one after the other, and all of them are made
module _ (n : ℕ) where
  -- the code is 0 just where the rule lets the choice follow
  follows_step : (w : List ℕ) (b : ℕ) (rest : List ℕ) → follows (straight n) w (b ∷ rest) ≡ eqb (choice_code n w b) 0 && follows (straight n) (w adding b) rest
  unfolding follows
  follows_step w b rest =
      ap (λ (t : Bool). t && follows (straight n) (w adding b) rest) (ap (λ (t : Bool). t && free_choice w b) (listed n b) ∙ sym (code_is n w b))

  pub choices_sound : (w rest : List ℕ) (at : ℕ) → (choices_fault n w rest at).code ≡ 0 → follows (straight n) w rest ≡ true
  unfolding choices_fault follows
  choices_sound w [] at e = refl
  choices_sound w (b ∷ rest) at e =
      let x = chosen (λ (f : Fault). f.code) (choice_code n w b) (choices_fault n (w adding b) rest (at + 1)) (fault (choice_code n w b) at) refl e in
      follows_step w b rest ∙ both (eq-eqb _ 0 x.0) (choices_sound (w adding b) rest (at + 1) x.1)

  pub choices_good : (w rest : List ℕ) (at : ℕ) → follows (straight n) w rest ≡ true → choices_fault n w rest at ≡ sound
  unfolding choices_fault
  choices_good w [] at e = refl
  choices_good w (b ∷ rest) at e =
      let parts = sym (follows_step w b rest) ∙ e in
      simp (both_left (eqb (choice_code n w b) 0) _ parts) (choices_good (w adding b) rest (at + 1) (both_right (eqb (choice_code n w b) 0) _ parts))

  pub choices_all : (w rest : List ℕ) → follows (straight n) w rest ≡ true → choices_made n w rest ≡ w ++ rest
  unfolding choices_made
  choices_all w [] e = sym (append-nil w)
  choices_all w (b ∷ rest) e =
      let parts = sym (follows_step w b rest) ∙ e in
      simp (both_left (eqb (choice_code n w b) 0) _ parts)
      (choices_all (w adding b) rest (both_right (eqb (choice_code n w b) 0) _ parts) ∙ adding_append w b rest)

-- choices that were read without fault to the end are the wiring, and if there are n, it is whole
module _ (n : ℕ) (s : List ℕ) (from : ℕ) (r : Result Wiring Unwired) (h : Wires n s from r) (x : Wiring) (is : r ≡ Ok x) where
  read_on : follows (straight n) [] s ≡ true
  read_on = choices_sound n [] s from (verdict_ok _ (tt {0}) (sym h.fault ∙ ap fault_told is))

  wired : StandsFor x.masks n s
  wired = subst₂ (λ (x : Wiring) (w : List ℕ). StandsFor x.masks n w) (ap wiring_made is) (choices_all n [] s read_on) h.wiring

  pub wired_n : x.masks.n ≡ n
  wired_n = stands_n x.masks n s wired

  pub wired_prefix : prefix x.masks ≡ s
  wired_prefix = stands_prefix x.masks n s wired

  pub wired_whole : length s ≡ n → x.masks.depth ≡ x.masks.n
  wired_whole long = stands_depth x.masks n s wired ∙ long ∙ sym wired_n
