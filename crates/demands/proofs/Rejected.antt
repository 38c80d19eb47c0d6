-- The five versions that document 01 says have to be rejected. Each theorem takes whatever outcome the contract allows at a case,
-- and says that it is not what that version would give.
use Prim.Native.Nat.{ℕ}
use mathlib.Core.Path.{◌≡◌, refl, sym, ap, ◌∙◌}
use mathlib.Core.List.{List, [], ◌∷◌, ◌++◌}
use contract.Lifetimes.{Lfts}
use borrow.Author.Tests.{eqb-false}
use borrow.Fn.Kinds.{Dens, res_t, ended_of}
use denote.MutBor.{at_last}
use Rattle.demands.proofs.Lent.{lending}
use denote.Triple.Clauses.{AtExit}
use lib.ListN.{get_or, replicate}
use Rattle.answers.specs.declared.Answer.{Answer}
use Rattle.records.specs.declared.Figures.{Figures}
use Rattle.records.specs.Records.{off_count}
use Rattle.demands.proofs.Table.{conj_record, disj_record, const_record, wire_record, conj_disj_claim, starred_right}
use Rattle.demands.proofs.Refused.{checker_answers, wrong_checkers_ruled_out, matcher_answers}
use Rattle.checker.proofs.check.Kinds as check_kinds
use Rattle.checker.proofs.check.Reads as check
use Rattle.matcher.proofs.find.Kinds as find_kinds
use Rattle.matcher.proofs.find.Reads as find
use Rattle.records.proofs.summary.Kinds as summary_kinds
use Rattle.records.proofs.summary.Reads as summary

-- ---- the checker

module _ (κs : Lfts 3) (a : Dens κs check_kinds.ps) (r : (res_t check_kinds.r κs).Denot) (s : AtExit (ended_of 3 check_kinds.ps check_kinds.r) κs) where
  -- the outcome is one that the contract allows for these three
  abbrev Checked : List ℕ → List ℕ → List ℕ → Type 0
  Checked f g claim = check.Post κs (lending a.0 f, (lending a.1.0 g, (lending a.1.1.0 claim, tt))) r s

  -- one that refuses all claims: 01's claim for Conj and Disj is accepted
  pub not_refusing_all : Checked conj_record disj_record conj_disj_claim → r.code ≡ 0
  not_refusing_all p = ap (λ (x : Answer). x.code) (checker_answers κs a conj_record disj_record conj_disj_claim _ starred_right.1.0 r s p)

  -- one that reads the first tree and only skips the second: here the first is right, the second names a cube that is not there
  pub not_skipping_the_second_tree : Checked const_record wire_record (0x52 ∷ 0x46 ∷ 0x01 ∷ 0x00 ∷ 0x00 ∷ 0x00 ∷ 0x00 ∷ 0x00 ∷ 0x01 ∷ []) → r.code ≡ 0 → ⊥
  not_skipping_the_second_tree p good = eqb-false 15 0 refl (sym (ap (λ (x : Answer). x.code) (checker_answers κs a const_record wire_record _ _ wrong_checkers_ruled_out.0 r s p)) ∙ good)

-- ---- the matcher, for Conj and Disj and a buffer of eight bytes

module _ (κs : Lfts 3) (a : Dens κs find_kinds.ps) (r : (res_t find_kinds.r κs).Denot) (s : AtExit (ended_of 3 find_kinds.ps find_kinds.r) κs)
    (p : find.Post κs (lending a.0 conj_record, (lending a.1.0 disj_record, (at_last a.1.1.0 (replicate 8 0xEE), tt))) r s) where
  abbrev after : List ℕ
  after = s.1.1.0.now

  after_is : after ≡ conj_disj_claim ++ replicate 2 0xEE
  after_is = (matcher_answers κs a conj_record disj_record (replicate 8 0xEE) _ _ starred_right.0 r s p).1

  -- one that always names the straight wiring, with either phase
  pub not_always_straight : (q : ℕ) → after ≡ (0x4D ∷ 0x54 ∷ 0x02 ∷ q ∷ 0x00 ∷ 0x01 ∷ []) ++ replicate 2 0xEE → ⊥
  not_always_straight q straight = eqb-false 0x10 0x00 refl (ap (λ (l : List ℕ). get_or l 4 0) (sym after_is ∙ straight))

  -- one that leaves the buffer untouched
  pub not_untouched : after ≡ replicate 8 0xEE → ⊥
  not_untouched same = eqb-false 0x4D 0xEE refl (ap (λ (l : List ℕ). get_or l 0 0) (sym after_is ∙ same))

-- ---- the summary, for Conj

module _ (κs : Lfts 1) (a : Dens κs summary_kinds.ps) (r : (res_t summary_kinds.r κs).Denot) (s : AtExit (ended_of 1 summary_kinds.ps summary_kinds.r) κs)
    (p : summary.Post κs (lending a.0 conj_record, tt) r s) where
  -- one with invented counts: these are 1, 3 and 2, and no others
  pub no_invented_counts : (r.on ≡ 1) × (r.off ≡ 3) × (r.used ≡ 2)
  no_invented_counts =
      let is = p ∙ starred_right.1.1.1.1.1.1.1.1.1.1.1.1.1.1.1.1.0 in
      (ap (λ (x : Figures). x.on) is, ap (λ (x : Figures). x.off) is, ap (λ (x : Figures). x.used) is)

  -- and so none that counts cubes in place of patterns: Conj has 2 off cubes
  pub cubes_not_counted : (off_count conj_record ≡ 2) × (r.off ≡ 3)
  cubes_not_counted = (refl, no_invented_counts.1)
