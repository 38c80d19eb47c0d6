-- How much of the input a program has to read: two records never take more than 2,050 bytes, and a claim of 49,153 is too long
-- whatever follows. So what is printed for the first bytes is what is printed for the whole input.
use Prim.Native.Nat.{ℕ, zero, suc, ◌+◌, ◌*◌, ◌-◌, ◌^◌, ◌≤◌, ◌<◌}
use mathlib.Core.Path.{◌≡◌, refl, sym, ap, ap₂, ◌∙◌, subst}
use mathlib.Core.Bool.{Bool, true, false}
use mathlib.Core.List.{List, [], ◌∷◌}
use native.Mathlib.Numerals.{unary_clauses}
use native.Mathlib.Omega.{arith}
use borrow.Author.Tests.{leb-true, leb-false, lt-ltb}
use lib.Dec.{leb}
use lib.ListN.{length, take, drop, length-take}
use lib.Seq.{take_all, take-nil, get_or-take, get_or-drop, take-take}
use Rattle.records.specs.Records.{record_end, Bytes}
use Rattle.lines.specs.Lines.{this_record, what_follows, match_text, match_lines, check_text, check_lines}

-- ---- of any list

drop_take : (m n : ℕ) (l : List ℕ) → drop m (take n l) ≡ take (n - m) (drop m l)
drop_take zero n l = simp unary_clauses refl
drop_take (suc m) zero l = let none : 0 - suc m ≡ 0 = omega arith in sym (ap (λ (k : ℕ). take k (drop (suc m) l)) none)
drop_take (suc m) (suc n) [] = sym (take-nil (suc n - suc m))
drop_take (suc m) (suc n) (x ∷ l) = simp unary_clauses (drop_take m n l)

-- ---- the first k bytes of an input whose first record ends within them

module _ (s : List ℕ) (k : ℕ) (whole : record_end s ≤ k) where
  same_end : record_end (take k s) ≡ record_end s
  same_end = ap₂ (λ (a b : ℕ). 5 + 2 * (a + b)) (get_or-take k s 3 0 (omega (arith, whole))) (get_or-take k s 4 0 (omega (arith, whole)))

  same_record : this_record (take k s) ≡ this_record s
  same_record = ap (λ (e : ℕ). take e (take k s)) same_end ∙ take-take (record_end s) k s whole

  less_follows : what_follows (take k s) ≡ take (k - record_end s) (what_follows s)
  less_follows = ap (λ (e : ℕ). drop e (take k s)) same_end ∙ drop_take (record_end s) k s

-- ---- the first m bytes of a claim: all of it, or still too long

cut_claim : (f g claim : List ℕ) (m : ℕ) → 49153 ≤ m → check_text f g (take m claim) ≡ check_text f g claim
unfolding check_text
cut_claim f g claim m enough = go (leb (length claim) m) refl
  where
    go : (t : Bool) → leb (length claim) m ≡ t → check_text f g (take m claim) ≡ check_text f g claim
    go true q = ap (check_text f g) (take_all m claim (leb-true (length claim) m q))
    go false q =
        let more = leb-false (length claim) m q in
        simp (lt-ltb 49152 (length (take m claim)) (omega (arith, enough, more, length-take m claim)), lt-ltb 49152 (length claim) (omega (arith, enough, more)))

-- ---- two records

end_most : (s : List ℕ) → Bytes s → record_end s ≤ 1025
end_most s bytes = omega (arith, bytes 3, bytes 4)

module _ (s : List ℕ) (bytes : Bytes s) (k : ℕ) where
  abbrev rest : List ℕ
  rest = what_follows s

  first_most : record_end s ≤ 1025
  first_most = end_most s bytes

  second_most : record_end rest ≤ 1025
  second_most = end_most rest (λ i. subst (λ (b : ℕ). b < 2 ^ 8) (sym (get_or-drop (record_end s) s i 0)) (bytes (record_end s + i)))

  -- how much of what follows the first record is read, and of what follows the second
  abbrev rest_read : ℕ
  rest_read = k - record_end s

  abbrev claim_read : ℕ
  claim_read = rest_read - record_end rest

  module _ (enough : 2050 ≤ k) where
    first_same : this_record (take k s) ≡ this_record s
    first_same = same_record s k (omega (arith, first_most, enough))

    rest_less : what_follows (take k s) ≡ take rest_read rest
    rest_less = less_follows s k (omega (arith, first_most, enough))

    second_same : this_record (what_follows (take k s)) ≡ this_record rest
    second_same = ap this_record rest_less ∙ same_record rest rest_read (omega (arith, first_most, second_most, enough))

    claim_less : what_follows (what_follows (take k s)) ≡ take claim_read (what_follows rest)
    claim_less = ap what_follows rest_less ∙ less_follows rest rest_read (omega (arith, first_most, second_most, enough))

    pub match_enough : match_lines (take k s) ≡ match_lines s
    unfolding match_lines
    match_enough = ap₂ match_text first_same second_same

  pub check_enough : 51203 ≤ k → check_lines (take k s) ≡ check_lines s
  unfolding check_lines
  check_enough enough =
      let most : 2050 ≤ k = omega (arith, enough) in
      (λ i. check_text (first_same most i) (second_same most i) (claim_less most i))
      ∙ cut_claim (this_record s) (this_record rest) (what_follows rest) claim_read (omega (arith, first_most, second_most, enough))
