-- Which answers there are: 20, 21, 3 and 22 for a line, and once no line is at fault 4, 7, 18 or none. The idea: `.i` then told a
-- number from 1 to 8 and each cube is right by itself, so the record can only have too many cubes or share a pattern; and the room
-- is asked for last.
use Prim.Native.Nat.{ℕ, zero, suc, ◌/◌, ◌≤◌, ◌<◌}
use mathlib.Core.Path.{◌≡◌, refl, sym, ap, ◌∙◌, subst}
use mathlib.Core.Bool.{Bool, true, false, ◌&&◌, ◌||◌, false≢true}
use mathlib.Core.List.{List, [], ◌∷◌, ◌++◌, map}
use mathlib.Core.Logic.{⊎_elim}
use native.Mathlib.Omega.{arith}
use lib.Dec.{eqb}
use lib.ListN.{length, take}
use lib.Seq.{take-suc}
use Rattle.bits.proofs.Tests.{both_left, below_or_not, cond_cases}
use Rattle.answers.specs.declared.Answer.{Answer}
use Rattle.answers.specs.declared.Fault.{Fault}
use Rattle.answers.specs.Answers.{accepted, refused, refused_by, fits}
use Rattle.answers.proofs.Faults.{by_next, by_stop}
use Rattle.answers.proofs.Stores.{fits_short, fits_enough}
use Rattle.rules.specs.Lists.{some_in, same}
use Rattle.rules.proofs.Lists.{same_is}
use Rattle.records.specs.Records.{first_fault, clash_code, clash_pattern, record_fault}
use Rattle.records.proofs.Patterns.{clash_seven}
use Rattle.writer.proofs.RoundTrip.{clash_again}
use Rattle.words.specs.Words.{lines, value}
use Rattle.terms.specs.Terms.{Says, nothing, keyword, term, end, malformed, unknown, says, dot_i, dot_o, on_char, off_char}
use Rattle.rows.specs.Rows.{of_keyword, is_of, stands, told, line_code, table_fault, said_in, cubes_with}
use Rattle.tables.specs.Tables.{record_of, table_reading}
use Rattle.tables.specs.Ready.{record_reading}
use Rattle.rows.proofs.First.{line_at, AllPassed, walk, whole_if, whole_front, is_term, asks_20, asks_21, asks_3, asks_22, code_in_order}
use Rattle.rows.proofs.Knows.{stands_next, told_new, keyword_passed, in_range}
use Rattle.rows.proofs.Scanned.{end_complete}
use Rattle.tables.proofs.Meaning.{told_stays, terms_right, cubes_even}
use Rattle.tables.proofs.Delivery.{each_right, many_on, many_off}

-- ---- the codes of lines

abbrev pub of_lines : ℕ → Bool
of_lines code = eqb code 20 || eqb code 21 || eqb code 3 || eqb code 22

abbrev OfLines : ℕ → Type 0
OfLines code = (code ≡ 0 → ⊥) → of_lines code ≡ true

line_codes : (said : List Says) (s : Says) → OfLines (line_code said s)
line_codes said s =
    subst OfLines (sym (code_in_order said s))
    (cond_cases OfLines (is_term s) _ _
    (cond_cases OfLines (asks_21 said s) 21 _ (λ _. refl) (cond_cases OfLines (asks_20 said s) 20 0 (λ _. refl) none))
    (cond_cases OfLines (asks_20 said s) 20 _ (λ _. refl)
    (cond_cases OfLines (asks_21 said s) 21 _ (λ _. refl)
    (cond_cases OfLines (asks_3 s) 3 _ (λ _. refl)
    (cond_cases OfLines (asks_22 said s) 22 0 (λ _. refl) none)))))
  where
    none : OfLines 0
    none bad = absurd (bad refl)

pub fault_codes : (text : List ℕ) → ((table_fault text).code ≡ 0 → ⊥) → of_lines (table_fault text).code ≡ true
unfolding table_fault
fault_codes text =
    let said = map says (lines text) in
    walk said (λ (f : Fault). OfLines f.code) (λ k there passed bad _. line_codes (take k said) (line_at said k) bad) (λ k there passed good ends bad. absurd (bad refl)) (λ passed _. refl)

-- ---- the number of inputs

abbrev pub InRange : ℕ → Type 0
InRange n = (1 ≤ n) × (n ≤ 8)

-- told by a line without fault
range_new : (said : List Says) (s : Says) → stands dot_i said ≡ false → is_of dot_i s ≡ true → line_code said s ≡ 0 → InRange (told dot_i (said ++ (s ∷ [])))
unfolding of_keyword same
range_new said nothing none e code = absurd (false≢true e)
range_new said (keyword name v) none e code =
    subst (λ (name : List ℕ). line_code said (keyword name v) ≡ 0 → InRange (told dot_i (said ++ (keyword name v ∷ [])))) (same_is dot_i name e)
    (λ code. subst InRange (sym (told_new dot_i v said none refl)) (in_range (value v) (keyword_passed said dot_i v code).1)) code
range_new said (term w ws) none e code = absurd (false≢true e)
range_new said end none e code = absurd (false≢true e)
range_new said malformed none e code = absurd (false≢true e)
range_new said unknown none e code = absurd (false≢true e)

range_next : (said : List Says) (s : Says) → (stands dot_i said ≡ true → InRange (told dot_i said)) → line_code said s ≡ 0 → stands dot_i (said ++ (s ∷ [])) ≡ true → InRange (told dot_i (said ++ (s ∷ [])))
range_next said s before code e = go (stands dot_i said) refl
  where
    go : (t : Bool) → stands dot_i said ≡ t → InRange (told dot_i (said ++ (s ∷ [])))
    go true q = subst InRange (sym (told_stays dot_i said (s ∷ []) q)) (before q)
    go false q = range_new said s q (sym (ap (λ (t : Bool). t || is_of dot_i s) q) ∙ sym (stands_next dot_i said s) ∙ e) code

range_by : (said : List Says) (k : ℕ) → k ≤ length said → AllPassed said k → stands dot_i (take k said) ≡ true → InRange (told dot_i (take k said))
unfolding some_in
range_by said zero h passed = λ e. absurd (false≢true e)
range_by said (suc k) h passed =
    subst (λ (l : List Says). stands dot_i l ≡ true → InRange (told dot_i l)) (sym (take-suc said k nothing h))
    (range_next (take k said) (line_at said k) (range_by said k (omega (arith, h)) (λ j l. passed j (omega (arith, l)))) (passed k (omega arith)).sound_line)

pub told_range : (text : List ℕ) → (table_fault text).code ≡ 0 → InRange (told dot_i (said_in text))
told_range text e =
    let said = map says (lines text) in
    let w = whole_if text e in
    let front = take w.index said in
    let there : stands dot_i front ≡ true = both_left (stands dot_i front) _ (both_left (stands dot_i front && stands dot_o front) _ (end_complete front (line_at said w.index) w.ends w.sound_end)) in
    subst (λ (l : List Says). InRange (told dot_i l)) (sym (whole_front said w)) (range_by said w.index (omega (arith, w.within)) w.before there)

-- ---- the answers

abbrev pub on_cubes : List ℕ → List ℕ
on_cubes text = cubes_with on_char (said_in text)

abbrev pub off_cubes : List ℕ → List ℕ
off_cubes text = cubes_with off_char (said_in text)

-- where an on cube shares a pattern with an off cube, by its place in the record
abbrev pub clash_in : List ℕ → Fault
clash_in text = first_fault (clash_code (told dot_i (said_in text)) (off_cubes text)) (clash_pattern (told dot_i (said_in text)) (off_cubes text)) (on_cubes text) 5

-- 4 at the count of the on list, then at that of the off list; 7 at the first on cube at fault; 18; or accepted
pub data AfterLines (text : List ℕ) (room : ℕ) (r : Answer) : Type 0 where
  many_on_cubes : 64 < length (on_cubes text) / 2 → r ≡ refused 4 1 3 → AfterLines text room r
  many_off_cubes : length (on_cubes text) / 2 ≤ 64 → 64 < length (off_cubes text) / 2 → r ≡ refused 4 1 4 → AfterLines text room r
  shared_pattern : length (on_cubes text) / 2 ≤ 64 → length (off_cubes text) / 2 ≤ 64 → (clash_in text).code ≡ 7 → r ≡ refused_by 1 (clash_in text) → AfterLines text room r
  no_room : (record_fault (record_of text)).code ≡ 0 → room < length (record_of text) → r ≡ refused 18 4 (length (record_of text)) → AfterLines text room r
  stored : (record_fault (record_of text)).code ≡ 0 → length (record_of text) ≤ room → r ≡ accepted 3 (length (record_of text)) → AfterLines text room r

-- none of them is a line's
pub after_not_of_lines : (text : List ℕ) (room : ℕ) (r : Answer) → AfterLines text room r → of_lines r.code ≡ false
after_not_of_lines text room r (many_on_cubes h e) = ap (λ (x : Answer). of_lines x.code) e
after_not_of_lines text room r (many_off_cubes g h e) = ap (λ (x : Answer). of_lines x.code) e
after_not_of_lines text room r (shared_pattern g h c e) = ap (λ (x : Answer). of_lines x.code) e ∙ ap of_lines c
after_not_of_lines text room r (no_room c h e) = ap (λ (x : Answer). of_lines x.code) e
after_not_of_lines text room r (stored c h e) = ap (λ (x : Answer). of_lines x.code) e

module _ (text : List ℕ) (whole : (table_fault text).code ≡ 0) (room : ℕ) where
  by_record : table_reading text room ≡ record_reading (record_of text) room
  unfolding table_reading
  by_record = sym (by_next 1 (table_fault text) (table_fault text) _ _ refl whole refl)

  -- few enough cubes: the record's fault is a shared pattern
  module _ (on_few : length (on_cubes text) / 2 ≤ 64) (off_few : length (off_cubes text) / 2 ≤ 64) where
    fault_is : record_fault (record_of text) ≡ clash_in text
    unfolding record_of
    fault_is =
        let n = told_range text whole in
        let on = cubes_even on_char (said_in text) in
        let off = cubes_even off_char (said_in text) in
        clash_again (told dot_i (said_in text)) (on_cubes text) (off_cubes text)
        (record { least = n.0; most = n.1; on_even = on; off_even = off; on_few = omega (arith, on, on_few); off_few = omega (arith, off, off_few) })
        (each_right _ on_char (said_in text) (terms_right text whole)) (each_right _ off_char (said_in text) (terms_right text whole))

    room_last : (record_fault (record_of text)).code ≡ 0 → AfterLines text room (table_reading text room)
    room_last good =
        let by_room : table_reading text room ≡ fits 3 room (length (record_of text)) = by_record ∙ sym (by_next 1 (record_fault (record_of text)) (record_fault (record_of text)) _ _ refl good refl) in
        ⊎_elim (λ (h : room < length (record_of text)). no_room good h (by_room ∙ fits_short 3 room (length (record_of text)) h))
        (λ (h : length (record_of text) ≤ room). stored good h (by_room ∙ fits_enough 3 room (length (record_of text)) h))
        (below_or_not room (length (record_of text)))

    few_cubes : AfterLines text room (table_reading text room)
    few_cubes =
        ⊎_elim
        (λ (h : 0 < (clash_in text).code).
        let bad : (clash_in text).code ≡ 0 → ⊥ = λ z. omega (arith, h, z) in
        let code = clash_seven (told dot_i (said_in text)) (on_cubes text) (off_cubes text) 5 bad in
        shared_pattern on_few off_few code
        (by_record ∙ sym (by_stop 1 (clash_in text) (record_fault (record_of text)) _ _ (sym fault_is) bad refl)))
        (λ (h : (clash_in text).code ≤ 0). room_last (ap (λ (f : Fault). f.code) fault_is ∙ omega (arith, h)))
        (below_or_not 0 (clash_in text).code)

  pub after_lines : AfterLines text room (table_reading text room)
  unfolding record_of
  after_lines =
      let n = told_range text whole in
      ⊎_elim
      (λ (h : 64 < length (on_cubes text) / 2). many_on_cubes h (by_record ∙ sym (many_on _ (on_cubes text) (off_cubes text) n.0 n.1 h room _ refl)))
      (λ (few : length (on_cubes text) / 2 ≤ 64).
      ⊎_elim
      (λ (h : 64 < length (off_cubes text) / 2). many_off_cubes few h (by_record ∙ sym (many_off _ (on_cubes text) (off_cubes text) n.0 n.1 few h room _ refl)))
      (few_cubes few) (below_or_not 64 (length (off_cubes text) / 2)))
      (below_or_not 64 (length (on_cubes text) / 2))
