-- The checker accepts exactly the claims of document 01. The idea: each part of the reading is without fault exactly where the bytes
-- are what the part asks for, so a claim without fault is a match or a refusal, byte by byte, and each of these is read without fault.
use Prim.Native.Nat.{ℕ, suc, ◌+◌, ◌≤◌, ◌<◌}
use mathlib.Core.Path.{◌≡◌, refl, sym, ap, ◌∙◌, subst}
use mathlib.Core.Bool.{Bool, true, false, cond, false≢true}
use mathlib.Core.List.{List, [], ◌∷◌, ◌++◌, append-nil}
use mathlib.Core.Logic.{◌⊎◌, inl, inr, ⊎_elim}
use native.Mathlib.Nat.{le_refl, le_antisymm, sub-zero}
use native.Mathlib.Numerals.{towards_suc}
use native.Mathlib.Omega.{arith}
use borrow.Author.Tests.{lt-leb, eqb-true}
use lib.Dec.{leb, eqb}
use lib.ListN.{length, get_or, drop, length-drop}
use lib.Seq.{drop-cons, drop-length}
use Rattle.bits.proofs.Tests.{both, both_left, both_right}
use Rattle.answers.specs.declared.Answer.{Answer}
use Rattle.answers.specs.declared.Fault.{Fault}
use Rattle.bits.specs.Bits.{or_zero}
use Rattle.answers.specs.Answers.{accepted, fault, fault_at, sound, length_fault, ◌then◌}
use Rattle.answers.proofs.Faults.{then_both, byte_sound, byte_good, length_sound, length_good, test_sound, by_next, by_both, or_else_both, or_else_next}
use Rattle.records.specs.Records.{inputs, both_read, Bytes, Accepted}
use Rattle.records.proofs.Frame.{both_good, both_sound}
use Rattle.wirings.specs.Wirings.{straight, is_wiring, agreeing, disagreement}
use Rattle.wirings.specs.Pairs.{Pair}
use Rattle.wirings.proofs.Wirings.{wiring_parts, parts_wiring}
use Rattle.wirings.proofs.Death.{in_pair, pair_in}
use Rattle.claims.specs.Trees.{tree_bytes}
use Rattle.claims.specs.Claims.{IsMatch, IsRefusal, match_claim, refusal_claim, names_pair, closes, right_for}
use Rattle.claims.specs.Reading.{read_to, ◌onward◌}
use Rattle.claims.proofs.Reading.{onward_both, onward_next, StandsAt, stands_join, stands_first, stands_rest, stands_byte, stands_there, Stands, Reads, ReadsClosings, tree_stands, tree_reads}
use Rattle.claims.proofs.Refusals.{names_in, in_names}
use Rattle.checker.specs.Checking.{header_fault, agreement_fault, match_fault, closing_fault, tree_fault, refusal_fault, claim_fault, kind_of, checking}
use Rattle.checker.proofs.Making.{choices_sound, choices_good}
use Rattle.checker.proofs.Closings.{index_sound, index_good}

-- three bytes that are there
three_stand : (c : List ℕ) (at : ℕ) → at + 2 < length c → StandsAt c at (get_or c at 0 ∷ get_or c (at + 1) 0 ∷ get_or c (at + 2) 0 ∷ []) (at + 3)
three_stand c at h = record {
  here = simp towards_suc (rw (drop-cons c at 0 (omega arith), drop-cons c (suc at) 0 (omega arith), drop-cons c (suc (suc at)) 0 (omega arith)));
  ends = refl;
}

-- ---- closings

module _ (q : ℕ) (f g c : List ℕ) where
  -- the three bytes at a place, as a pair
  abbrev named : ℕ → Pair
  named at = (get_or c at 0, get_or c (at + 1) 0, get_or c (at + 2) 0)

  module _ (w : List ℕ) (at : ℕ) where
    -- a closing is read without fault exactly where three bytes are there, and their pair closes
    closing_sound : (closing_fault (inputs g) q f g c w at).code ≡ 0 → (at + 2 < length c) × (closes q f g w (named at) ≡ true)
    unfolding closing_fault
    closing_sound e =
        let tests = (then_both _ _ e).0 in
        let gone = then_both _ _ tests in
        let second = then_both _ _ gone.0 in
        let first = then_both _ _ second.0 in
        let s = byte_sound c at 0 1 14 first.0 in
        let u = index_sound c (at + 1) _ first.1 in
        let v = index_sound c (at + 2) _ second.1 in
        (v.there, both (in_names q f g (named at) (in_pair q f g _ _ _ (s.most, u.below, v.below))) (test_sound _ 16 at 0 gone.1))

    closing_good : at + 2 < length c → closes q f g w (named at) ≡ true → (get_or c at 0 ≤ 1) × (closing_fault (inputs g) q f g c w at ≡ read_to (at + 3))
    unfolding closing_fault ◌then◌
    closing_good h e =
        let is_pair = pair_in q f g _ _ _ (names_in q f g (named at) (both_left (names_pair q f g (named at)) _ e)) in (
          is_pair.0,
          λ i.
              byte_good c at 0 1 15 (record { there = omega arith; least = omega arith; most = is_pair.0 }) i
              then index_good c (at + 1) _ (record { there = omega arith; below = is_pair.1 }) i
              then index_good c (at + 2) _ (record { there = h; below = is_pair.2 }) i
              then cond (both_right (names_pair q f g (named at)) _ e i) sound (fault 17 at)
              then read_to (at + 3),
        )

  pub closing_reads : ReadsClosings (closes q f g) (closing_fault (inputs g) q f g c) c
  closing_reads = record {
    stands = λ w at e.
        let x = closing_sound w at e in
        (named at, x.1, subst (StandsAt c at _) (sym (ap (λ (f : Fault). f.place) (closing_good w at x.0 x.1).1)) (three_stand c at x.0));
    reads = λ w at p e s.
        let rest = stands_rest c at (p.0 ∷ []) (p.1 ∷ p.2 ∷ []) (at + 3) s in
        let last = stands_rest c at (p.0 ∷ p.1 ∷ []) (p.2 ∷ []) (at + 3) s in
        let same : named at ≡ p = λ i. (stands_byte c at _ _ _ s i, stands_byte c (at + 1) _ _ _ rest i, stands_byte c (at + 2) _ _ _ last i) in
        let x = closing_good w at (stands_there c (at + 2) _ _ _ last) (ap (closes q f g w) same ∙ e) in
        (λ marked. omega (arith, x.0), x.1);
  }

-- ---- the header

-- the header has no fault exactly where the mark's second byte and n are there
claim_is : (c : List ℕ) (first second n : ℕ) → get_or c 0 0 ≡ first → (header_fault c second n).code ≡ 0 → c ≡ first ∷ second ∷ n ∷ drop 3 c
unfolding header_fault
claim_is c first second n e h =
    let x = then_both _ _ h in
    let s = byte_sound c 1 second second 1 x.0 in
    let m = byte_sound c 2 n n 9 x.1 in
    (three_stand c 0 m.there).here
    ∙ (λ i. e i ∷ le_antisymm s.most s.least i ∷ le_antisymm m.most m.least i ∷ drop 3 c)

header_good : (first second n : ℕ) (rest : List ℕ) → header_fault (first ∷ second ∷ n ∷ rest) second n ≡ sound
unfolding header_fault ◌then◌
header_good first second n rest i =
    byte_good (first ∷ second ∷ n ∷ rest) 1 second second 2 (record { there = omega arith; least = le_refl second; most = le_refl second }) i
    then byte_good (first ∷ second ∷ n ∷ rest) 2 n n 10 (record { there = omega arith; least = le_refl n; most = le_refl n }) i

-- ---- a match claim

module _ (f g : List ℕ) where
  abbrev n : ℕ
  n = inputs g

  match_sound : (c : List ℕ) → get_or c 0 0 ≡ 0x4D → (match_fault f g c).code ≡ 0 → IsMatch f g c
  unfolding match_fault agreement_fault
  match_sound c mark e =
      let agree = then_both _ _ e in
      let choices = then_both _ _ agree.0 in
      let phase = then_both _ _ choices.0 in
      let frame = then_both _ _ phase.0 in
      let q = byte_sound c 3 0 1 10 phase.1 in
      let long = length_sound (length c) (4 + n) frame.1 in
      record {
        wiring = get_or c 3 0 ∷ drop 4 c;
        whole = parts_wiring n (get_or c 3 0) (drop 4 c) (omega (arith, q.most)) (omega (arith, length-drop 4 c)) (choices_sound n [] (drop 4 c) 4 choices.1);
        agrees = test_sound _ 13 0 _ agree.1;
        bytes = claim_is c 0x4D 0x54 n mark frame.0 ∙ ap (match_claim n) (drop-cons c 3 0 q.there);
      }

  pub match_good : (c : List ℕ) → IsMatch f g c → claim_fault f g c ≡ sound
  unfolding claim_fault match_fault agreement_fault is_wiring ◌then◌
  match_good c m = ap (claim_fault f g) m.bytes ∙ go m.wiring m.whole m.agrees
    where
      go : (v : List ℕ) → is_wiring n v ≡ true → agreeing f g v ≡ true → claim_fault f g (match_claim n v) ≡ sound
      go [] whole agree = absurd (false≢true whole)
      go (q ∷ w) whole agree =
          let claim = match_claim n (q ∷ w) in
          let parts = wiring_parts n q w whole in
          let long : 4 + n ≡ length claim = omega (arith, parts.1) in
          simp (lt-leb (length claim) 0 (omega arith))
          (λ i.
          header_good 0x4D 0x54 n (q ∷ w) i
          then (ap (length_fault (length claim)) long ∙ length_good (length claim)) i
          then byte_good claim 3 0 1 11 (record { there = omega arith; least = omega arith; most = omega (arith, parts.0) }) i
          then choices_good n [] w 4 parts.2 i
          then cond (agree i) sound (fault_at 14 0 (or_zero (disagreement q f g w))))

  -- ---- a refusal claim

  -- a tree from the start
  tree_sound : (c : List ℕ) (q : ℕ) → Stands c (right_for q f g) (tree_fault n q f g c [])
  unfolding tree_fault
  tree_sound c q = rw sub-zero (tree_stands (straight n) (closes q f g) (closing_fault n q f g c) c (closing_reads q f g c) n [])

  tree_good : (c : List ℕ) (q : ℕ) → Reads c (right_for q f g) (tree_fault n q f g c [])
  unfolding tree_fault
  tree_good c q = rw sub-zero (tree_reads (straight n) (closes q f g) (closing_fault n q f g c) c (closing_reads q f g c) n [])

  refusal_sound : (c : List ℕ) → get_or c 0 0 ≡ 0x52 → (refusal_fault f g c).code ≡ 0 → IsRefusal f g c
  unfolding refusal_fault ◌onward◌
  refusal_sound c mark e =
      let tree₀ = tree_fault n 0 f g c [] 3 in
      let tree₁ = tree_fault n 1 f g c [] in
      let parts = then_both _ _ e in
      let ended = onward_both (tree₀ onward tree₁) (length_fault (length c)) parts.1 in
      let read = onward_both tree₀ tree₁ ended.0 in
      let t₀ = tree_sound c 0 3 read.0 in
      let t₁ = tree_sound c 1 tree₀.place read.1 in
      let bytes = tree_bytes t₀.0 ++ tree_bytes t₁.0 in
      let end : (tree₁ tree₀.place).place ≡ length c = ap (λ (f : Fault). f.place) (sym (onward_next tree₀ tree₁ read.0)) ∙ sym (length_sound _ _ ended.1) in
      record {
        tree₀ = t₀.0;
        tree₁ = t₁.0;
        right₀ = t₀.1;
        right₁ = t₁.1;
        bytes =
            claim_is c 0x52 0x46 n mark parts.0
            ∙ ap (λ (l : List ℕ). 0x52 ∷ 0x46 ∷ n ∷ l)
            ((stands_join c 3 _ _ _ tree₀.place t₀.2 t₁.2).here ∙ ap (λ (k : ℕ). bytes ++ drop k c) end ∙ ap (λ (l : List ℕ). bytes ++ l) (drop-length c) ∙ append-nil bytes);
      }

  pub refusal_good : (c : List ℕ) → IsRefusal f g c → claim_fault f g c ≡ sound
  unfolding claim_fault refusal_fault ◌then◌ ◌onward◌
  refusal_good c r =
      let b₀ = tree_bytes r.tree₀ in
      let b₁ = tree_bytes r.tree₁ in
      let claim = refusal_claim n r.tree₀ r.tree₁ in
      let end = length claim in
      let mid = 3 + length b₀ in
      let whole : StandsAt claim 3 (b₀ ++ b₁) end = record { here = sym (ap (λ (l : List ℕ). (b₀ ++ b₁) ++ l) (drop-length claim) ∙ append-nil (b₀ ++ b₁)); ends = omega arith } in
      ap (claim_fault f g) r.bytes
      ∙ simp (lt-leb end 0 (omega arith))
      (λ i.
      header_good 0x52 0x46 n (b₀ ++ b₁) i
      then (tree_good claim 0 r.tree₀ 3 mid r.right₀ (stands_first claim 3 b₀ b₁ end whole) i onward tree_fault n 1 f g claim [] onward length_fault end))
      ∙ ap (λ (f : Fault). f onward length_fault end) (tree_good claim 1 r.tree₁ mid end r.right₁ (stands_rest claim 3 b₀ b₁ end whole))
      ∙ length_good end

  -- ---- any claim

  -- a match is of kind 1, a refusal of kind 2
  abbrev pub IsClaim : List ℕ → ℕ → Type 0
  IsClaim c kind = ((kind ≡ 1) × IsMatch f g c) ⊎ ((kind ≡ 2) × IsRefusal f g c)

  -- what has no fault is one or the other, by its first byte
  pub claim_sound : (c : List ℕ) → (claim_fault f g c).code ≡ 0 → IsClaim c (kind_of (get_or c 0 0))
  unfolding claim_fault kind_of
  claim_sound c e = go (leb (length c) 0) (eqb (get_or c 0 0) 0x4D) (eqb (get_or c 0 0) 0x52) refl refl e
    where
      go : (short match refusal : Bool) → eqb (get_or c 0 0) 0x4D ≡ match → eqb (get_or c 0 0) 0x52 ≡ refusal
          → (cond short (fault 1 (length c)) (cond match (match_fault f g c) (cond refusal (refusal_fault f g c) (fault 2 0)))).code ≡ 0 → IsClaim c (cond match 1 2)
      go true match refusal p q h = absurd (omega (arith, h))
      go false true refusal p q h = inl (refl, match_sound c (eqb-true _ _ p) h)
      go false false true p q h = inr (refl, refusal_sound c (eqb-true _ _ q) h)
      go false false false p q h = absurd (omega (arith, h))

-- ---- the whole answer

module _ (f g c : List ℕ) where
  -- no fault is found: the kind, and the claim's length
  answer_is : (both_read f g).code ≡ 0 → (claim_fault f g c).code ≡ 0 → checking f g c ≡ accepted (kind_of (get_or c 0 0)) (length c)
  unfolding checking
  answer_is read fine = or_else_next _ _ read ∙ sym (by_next 3 _ _ _ _ refl fine refl)

  -- each match and each refusal by the rules is accepted
  pub match_accepted : Accepted f g → IsMatch f g c → checking f g c ≡ accepted 1 (length c)
  unfolding kind_of
  match_accepted ok m =
      answer_is (both_good f g ok) (ap (λ (f : Fault). f.code) (match_good f g c m)) ∙ ap (λ (l : List ℕ). accepted (kind_of (get_or l 0 0)) (length c)) m.bytes

  pub refusal_accepted : Accepted f g → IsRefusal f g c → checking f g c ≡ accepted 2 (length c)
  unfolding kind_of
  refusal_accepted ok r =
      answer_is (both_good f g ok) (ap (λ (f : Fault). f.code) (refusal_good f g c r)) ∙ ap (λ (l : List ℕ). accepted (kind_of (get_or l 0 0)) (length c)) r.bytes

  -- and nothing else is: what acceptance says
  pub record Acceptance : Type 0 where
    pub read : (both_read f g).code ≡ 0
    pub claim : IsClaim f g c (checking f g c).kind
    pub answer : checking f g c ≡ accepted (checking f g c).kind (length c)

  pub acceptance : (checking f g c).code ≡ 0 → Acceptance
  unfolding checking
  acceptance e =
      let parts = or_else_both _ _ e in
      let fine = (by_both 3 (claim_fault f g c) _ parts.1).0 in
      let is = answer_is parts.0 fine in
      let kind = ap (λ (a : Answer). a.kind) (sym is) in
      record { read = parts.0; claim = subst (IsClaim f g c) kind (claim_sound f g c fine); answer = is ∙ ap (λ (k : ℕ). accepted k (length c)) kind }

  pub accepted_kind : (checking f g c).code ≡ 0 → ((checking f g c).kind ≡ 1) ⊎ ((checking f g c).kind ≡ 2)
  accepted_kind e = ⊎_elim (λ m. inl m.0) (λ r. inr r.0) (acceptance e).claim

  module _ (bytes_f : Bytes f) (bytes_g : Bytes g) (e : (checking f g c).code ≡ 0) where
    pub accepted_match : (checking f g c).kind ≡ 1 → Accepted f g × IsMatch f g c
    accepted_match k =
        let x = acceptance e in
        (both_sound f g bytes_f bytes_g x.read, ⊎_elim (λ m. m.1) (λ r. absurd (omega (arith, r.0))) x.claim)

    pub accepted_refusal : (checking f g c).kind ≡ 2 → Accepted f g × IsRefusal f g c
    accepted_refusal k =
        let x = acceptance e in
        (both_sound f g bytes_f bytes_g x.read, ⊎_elim (λ m. absurd (omega (arith, m.0))) (λ r. r.1) x.claim)
