-- Export, then import: the table of an accepted record has no fault, and its record is the one that was written. The idea: the
-- table's lines say four keywords, a term for each cube, and the end; whatever follows the four keywords, they are complete and
-- tell n and the number of terms, so each law of the lines is a law of the terms.
use Prim.Native.Nat.{ℕ, ◌+◌, ◌/◌, ◌%◌, ◌≤◌}
use mathlib.Core.Path.{◌≡◌, refl, sym, ap, ◌∙◌}
use mathlib.Core.Bool.{true, false}
use mathlib.Core.List.{List, [], ◌∷◌, ◌++◌, map, append-nil, append_assoc}
use native.Mathlib.Omega.{arith}
use borrow.Author.Tests.{eq-eqb, le-leb}
use lib.Dec.{eqb}
use lib.ListN.{length, drop}
use lib.Seq.{append_snoc}
use Rattle.answers.specs.Answers.{accepted, sound, fits}
use Rattle.answers.proofs.Faults.{by_next}
use Rattle.answers.proofs.Stores.{fits_enough}
use Rattle.bits.proofs.Tests.{both}
use Rattle.rules.specs.Lists.{some_in, each_in, count_in, filter, passed_over, same}
use Rattle.cubes.proofs.Lists.{Each}
use Rattle.records.specs.Records.{inputs, on_count, off_count, on_list, off_list, cubes_at, record_fault, Bytes}
use Rattle.records.proofs.Frame.{Framed, record_sound}
use Rattle.records.proofs.Cubes.{CleanList, all_clean, on_each, off_each}
use Rattle.writer.specs.Writing.{record_bytes}
use Rattle.writer.proofs.RoundTrip.{on_long, off_long, bytes_again}
use Rattle.words.specs.Words.{lines, onto, pieces, decimal, line}
use Rattle.words.proofs.Decimals.{decimal_reads, decimal_is_number}
use Rattle.terms.specs.Terms.{Says, keyword, term, end, says, says_by, keyword_line, dot_i, dot_o, one, dot_type, fr, dot_p, dot_e, on_char, off_char, is_output, characters}
use Rattle.terms.proofs.Cubes.{on_inputs, off_inputs, characters_right}
use Rattle.terms.proofs.Written.{is_word, number_word, line_says, terms_said, term_lines_say}
use Rattle.rows.specs.Rows.{of_keyword, of_term, is_end, told, terms, line_code, first_faulty, table_fault, up_to_end, said_in, cubes_with}
use Rattle.tables.specs.Tables.{record_of, table_head, table_of, table_reading}

-- ---- the terms of a list of cubes, with whatever follows

module _ (n out : ℕ) where
  -- they do not end the table
  front_terms : (cubes : List ℕ) (rest : List Says) → up_to_end (terms_said n out cubes ++ rest) ≡ terms_said n out cubes ++ up_to_end rest
  unfolding terms_said up_to_end is_end
  front_terms [] rest = refl
  front_terms (P ∷ []) rest = refl
  front_terms (P ∷ N ∷ cubes) rest = ap (λ (l : List Says). term (characters n P N) ((out ∷ []) ∷ []) ∷ l) (front_terms cubes rest)

  -- there are as many as cubes
  count_terms : (cubes : List ℕ) (rest : List Says) → terms (terms_said n out cubes ++ rest) ≡ length cubes / 2 + terms rest
  unfolding terms_said count_in of_term
  count_terms [] rest = omega arith
  count_terms (P ∷ []) rest = omega arith
  count_terms (P ∷ N ∷ cubes) rest = omega (arith, count_terms cubes rest)

  -- their cubes are those that were written, and none has another output
  own_cubes : (cubes : List ℕ) (rest : List Says) → length cubes % 2 ≡ 0 → CleanList n cubes → cubes_with out (terms_said n out cubes ++ rest) ≡ cubes ++ cubes_with out rest
  unfolding terms_said cubes_with of_term Each
  own_cubes [] rest even clean = refl
  own_cubes (P ∷ []) rest even clean = absurd (omega (arith, even))
  own_cubes (P ∷ N ∷ cubes) rest even clean =
      let c = clean.0 in
      simp (eq-eqb out out refl) (λ i. on_inputs n P N c.pos i ∷ off_inputs n P N c.neg c.apart i ∷ own_cubes cubes rest (omega (arith, even)) clean.1 i)

  other_cubes : (c : ℕ) → eqb out c ≡ false → (cubes : List ℕ) (rest : List Says) → cubes_with c (terms_said n out cubes ++ rest) ≡ cubes_with c rest
  unfolding terms_said cubes_with of_term
  other_cubes c e [] rest = refl
  other_cubes c e (P ∷ []) rest = refl
  other_cubes c e (P ∷ N ∷ cubes) rest = simp e (other_cubes c e cubes rest)

-- ---- the four keywords, and whatever follows

abbrev headed : ℕ → ℕ → List Says → List Says
headed n m said = keyword dot_i (decimal n) ∷ keyword dot_o one ∷ keyword dot_type fr ∷ keyword dot_p (decimal m) ∷ said

-- a line without fault that is not the end
pass : (said rest : List Says) (s : Says) → line_code said s ≡ 0 → is_end s ≡ false → first_faulty said (s ∷ rest) ≡ first_faulty (said ++ (s ∷ [])) rest
unfolding first_faulty
pass said rest s e q = simp (eq-eqb (line_code said s) 0 e, q)

module _ (n m : ℕ) where
  header_passes : 1 ≤ n → n ≤ 8 → (rest : List Says) → first_faulty [] (headed n m rest) ≡ first_faulty (headed n m []) rest
  unfolding line_code some_in of_keyword same is_end
  header_passes least most rest =
      pass [] _ (keyword dot_i (decimal n)) (simp (decimal_reads n, le-leb 1 n least, le-leb n 8 most)) refl
      ∙ pass (keyword dot_i (decimal n) ∷ []) _ (keyword dot_o one) refl refl
      ∙ pass (keyword dot_i (decimal n) ∷ keyword dot_o one ∷ []) _ (keyword dot_type fr) refl refl
      ∙ pass (keyword dot_i (decimal n) ∷ keyword dot_o one ∷ keyword dot_type fr ∷ []) _ (keyword dot_p (decimal m)) refl refl

  terms_pass : (out : ℕ) → is_output out ≡ true → (cubes : List ℕ) (said rest : List Says)
      → first_faulty (headed n m said) (terms_said n out cubes ++ rest) ≡ first_faulty (headed n m (said ++ terms_said n out cubes)) rest
  unfolding terms_said line_code some_in of_keyword same told is_end
  terms_pass out right [] said rest = ap (λ (l : List Says). first_faulty (headed n m l) rest) (sym (append-nil said))
  terms_pass out right (P ∷ []) said rest = ap (λ (l : List Says). first_faulty (headed n m l) rest) (sym (append-nil said))
  terms_pass out right (P ∷ N ∷ cubes) said rest =
      pass (headed n m said) _ (term (characters n P N) ((out ∷ []) ∷ [])) (simp (decimal_reads n, characters_right n P N out right)) refl
      ∙ terms_pass out right cubes (said ++ (term (characters n P N) ((out ∷ []) ∷ []) ∷ [])) rest
      ∙ ap (λ (l : List Says). first_faulty (headed n m l) rest) (append_snoc said (term (characters n P N) ((out ∷ []) ∷ [])) (terms_said n out cubes))

  end_passes : (said : List Says) → terms said ≡ m → first_faulty (headed n m said) (end ∷ []) ≡ sound
  unfolding first_faulty line_code some_in of_keyword of_term same told is_end count_in
  end_passes said e = simp (eq-eqb (terms (headed n m said)) (told dot_p (headed n m said)) (omega (arith, e, decimal_reads m)))

-- ---- the table of an accepted record

-- a keyword's line, with whatever follows
keyword_says : (name v rest : List ℕ) → is_word name ≡ true → is_word v ≡ true → says_by (name ∷ v ∷ []) ≡ keyword name v
    → map says (lines (line (name ∷ v ∷ []) ++ rest)) ≡ keyword name v ∷ map says (lines rest)
unfolding each_in
keyword_says name v rest p q e = line_says name (v ∷ []) rest (both p (both q refl)) ∙ ap (λ (s : Says). s ∷ map says (lines rest)) e

end_says : map says (lines (line (dot_e ∷ []))) ≡ end ∷ []
unfolding says_by keyword_line same line pieces onto filter passed_over
end_says = refl

-- four parts and then the rest, one after the other
four_first : (a b c d rest : List ℕ) → (a ++ (b ++ (c ++ d))) ++ rest ≡ a ++ (b ++ (c ++ (d ++ rest)))
four_first a b c d rest =
    append_assoc a (b ++ (c ++ d)) rest
    ∙ ap (λ (l : List ℕ). a ++ l) (append_assoc b (c ++ d) rest ∙ ap (λ (l : List ℕ). b ++ l) (append_assoc c d rest))

module _ (s : List ℕ) (ok : (record_fault s).code ≡ 0) where
  framed : Framed s
  framed = (record_sound s ok).framed

  on_terms : List Says
  on_terms = terms_said (inputs s) on_char (on_list s)

  off_terms : List Says
  off_terms = terms_said (inputs s) off_char (off_list s)

  table_says : map says (lines (table_of s)) ≡ headed (inputs s) (on_count s + off_count s) (on_terms ++ (off_terms ++ (end ∷ [])))
  unfolding table_of table_head on_terms off_terms each_in says_by keyword_line same
  table_says =
      let n = inputs s in
      let m = on_count s + off_count s in
      let least = framed.header.n_byte.least in
      ap (λ (l : List ℕ). map says (lines l)) (four_first (line (dot_i ∷ decimal n ∷ [])) (line (dot_o ∷ one ∷ [])) (line (dot_type ∷ fr ∷ [])) (line (dot_p ∷ decimal m ∷ [])) _)
      ∙ keyword_says dot_i (decimal n) _ refl (number_word (decimal n) (decimal_is_number n)) (simp (decimal_is_number n))
      ∙ ap (λ (l : List Says). keyword dot_i (decimal n) ∷ l) (keyword_says dot_o one _ refl refl refl)
      ∙ ap (λ (l : List Says). keyword dot_i (decimal n) ∷ keyword dot_o one ∷ l) (keyword_says dot_type fr _ refl refl refl)
      ∙ ap (λ (l : List Says). keyword dot_i (decimal n) ∷ keyword dot_o one ∷ keyword dot_type fr ∷ l) (keyword_says dot_p (decimal m) _ refl (number_word (decimal m) (decimal_is_number m)) (simp (decimal_is_number m)))
      ∙ ap (headed n m) (term_lines_say n on_char least refl (on_list s) _)
      ∙ ap (λ (l : List Says). headed n m (on_terms ++ l)) (term_lines_say n off_char least refl (off_list s) _ ∙ ap (λ (l : List Says). off_terms ++ l) end_says)

  -- it has no fault
  pub table_sound : table_fault (table_of s) ≡ sound
  unfolding table_fault on_terms off_terms count_in
  table_sound =
      let n = inputs s in
      let m = on_count s + off_count s in
      ap (first_faulty []) table_says
      ∙ header_passes n m framed.header.n_byte.least framed.header.n_byte.most _
      ∙ terms_pass n m on_char refl (on_list s) [] _
      ∙ terms_pass n m off_char refl (off_list s) on_terms _
      ∙ end_passes n m (on_terms ++ off_terms) counted
    where
      counted : terms (on_terms ++ off_terms) ≡ on_count s + off_count s
      counted =
          let on = count_terms (inputs s) on_char (on_list s) off_terms in
          let off = ap terms (sym (append-nil off_terms)) ∙ count_terms (inputs s) off_char (off_list s) [] in
          omega (arith, on, off, on_long s framed, off_long s framed)

  -- what the lines before its end say
  said_back : said_in (table_of s) ≡ headed (inputs s) (on_count s + off_count s) (on_terms ++ (off_terms ++ []))
  unfolding on_terms off_terms up_to_end is_end
  said_back =
      ap up_to_end table_says
      ∙ ap (headed (inputs s) (on_count s + off_count s)) (front_terms (inputs s) on_char (on_list s) _ ∙ ap (λ (l : List Says). on_terms ++ l) (front_terms (inputs s) off_char (off_list s) (end ∷ [])))

  module _ (bytes : Bytes s) where
    clean : CleanList (inputs s) (drop (cubes_at s) s)
    clean = all_clean s bytes (record_sound s ok).cubes

    on_back : cubes_with on_char (on_terms ++ (off_terms ++ [])) ≡ on_list s
    unfolding on_terms off_terms cubes_with
    on_back =
        own_cubes (inputs s) on_char (on_list s) _ (omega (arith, on_long s framed)) (on_each _ s clean)
        ∙ ap (λ (l : List ℕ). on_list s ++ l) (other_cubes (inputs s) off_char on_char refl (off_list s) [])
        ∙ append-nil (on_list s)

    off_back : cubes_with off_char (on_terms ++ (off_terms ++ [])) ≡ off_list s
    unfolding on_terms off_terms cubes_with
    off_back =
        other_cubes (inputs s) on_char off_char refl (on_list s) _
        ∙ own_cubes (inputs s) off_char (off_list s) [] (omega (arith, off_long s framed)) (off_each _ s clean)
        ∙ append-nil (off_list s)

    -- and its record is this one
    pub record_back : record_of (table_of s) ≡ s
    unfolding record_of told of_keyword of_term same cubes_with
    record_back =
        ap (λ (l : List Says). record_bytes (told dot_i l) (cubes_with on_char l) (cubes_with off_char l)) said_back
        ∙ (λ i. record_bytes (decimal_reads (inputs s) i) (on_back i) (off_back i))
        ∙ bytes_again s framed

    -- so reading it gives the record back, wherever the buffer has room for it
    pub table_back : (room : ℕ) → length s ≤ room → table_reading (table_of s) room ≡ accepted 3 (length s)
    unfolding table_reading
    table_back room h =
        sym
        (by_next 1 sound (table_fault (table_of s)) _ _ (sym table_sound) refl
        (by_next 1 (record_fault s) (record_fault (record_of (table_of s))) _ _ (ap record_fault (sym record_back)) ok
        (sym (ap (λ (l : List ℕ). fits 3 room (length l)) record_back ∙ fits_enough 3 room (length s) h))))
