-- The table of a record, part by part: how long each part is, and that the parts, stored one behind the other, are the table. Every
-- accepted record's table has at most 1,437 bytes.
use Prim.Native.Nat.{ℕ, ◌+◌, ◌*◌, ◌/◌, ◌≤◌, ◌<◌}
use mathlib.Core.Path.{◌≡◌, refl, sym, ap, ap₂, ◌∙◌}
use mathlib.Core.List.{List, [], ◌∷◌, ◌++◌}
use native.Mathlib.Nat.{add-mul, mul-le-mul}
use native.Mathlib.Omega.{arith}
use lib.ListN.{length, take, length-append}
use lib.Seq.{sets}
use Rattle.answers.specs.Answers.{by, fits}
use Rattle.answers.proofs.Faults.{next_chosen}
use Rattle.answers.proofs.Stores.{sets_stands}
use Rattle.records.specs.Records.{inputs, on_count, off_count, on_list, off_list, record_fault}
use Rattle.records.proofs.Frame.{Framed, record_sound}
use Rattle.writer.proofs.RoundTrip.{on_long, off_long}
use Rattle.words.specs.Words.{decimal, line}
use Rattle.words.proofs.Decimals.{behind, decimal_most}
use Rattle.terms.specs.Terms.{on_char, off_char, term_lines}
use Rattle.terms.proofs.Writing.{terms_long}
use Rattle.tables.specs.Tables.{table_head, table_of, table_writing}

-- ---- the keyword lines

-- before the first number, between the two, and behind each
abbrev dot_i_blank : List ℕ
dot_i_blank = 46 ∷ 105 ∷ 32 ∷ []

abbrev between : List ℕ
between = 46 ∷ 111 ∷ 32 ∷ 49 ∷ 10 ∷ 46 ∷ 116 ∷ 121 ∷ 112 ∷ 101 ∷ 32 ∷ 102 ∷ 114 ∷ 10 ∷ 46 ∷ 112 ∷ 32 ∷ []

abbrev ended : ℕ → List ℕ
ended x = decimal x ++ (10 ∷ [])

module _ (n terms : ℕ) where
  head_parts : table_head n terms ≡ dot_i_blank ++ (ended n ++ (between ++ ended terms))
  unfolding table_head line
  head_parts = refl

  pub head_long : length (table_head n terms) ≡ 22 + length (decimal n) + length (decimal terms)
  head_long =
      ap length head_parts
      ∙ omega (arith, length-append (ended n) (between ++ ended terms), length-append (decimal n) (10 ∷ []), length-append (decimal terms) (10 ∷ []))

  pub head_most : n < 10 → terms < 1000 → length (table_head n terms) ≤ 26
  head_most few more = omega (arith, head_long, decimal_most 0 n few, decimal_most 2 terms more)

  -- stored one behind the other, the parts are the head
  module _ (out out₁ out₂ out₃ out₄ : List ℕ) (end₂ end₄ : ℕ) where
    pub head_stored : out₁ ≡ sets out 0 dot_i_blank
        → end₂ ≡ 3 + length (decimal n) + 1 → out₂ ≡ sets out₁ 3 (ended n)
        → out₃ ≡ sets out₂ end₂ between
        → end₄ ≡ end₂ + 17 + length (decimal terms) + 1 → out₄ ≡ sets out₃ (end₂ + 17) (ended terms)
        → (end₄ ≡ length (table_head n terms)) × (out₄ ≡ sets out 0 (table_head n terms))
    head_stored s₁ e₂ s₂ s₃ e₄ s₄ = (
      omega (arith, e₂, e₄, head_long),
      s₄
          ∙ behind out₂ between out₃ end₂ (end₂ + 17) (ended terms) s₃ refl
          ∙ behind out₁ (ended n) out₂ 3 end₂ (between ++ ended terms) s₂ (omega (arith, e₂, length-append (decimal n) (10 ∷ [])))
          ∙ behind out dot_i_blank out₁ 0 3 (ended n ++ (between ++ ended terms)) s₁ refl
          ∙ ap (sets out 0) (sym head_parts),
    )

-- ---- the whole table

abbrev pub terms_in : List ℕ → ℕ
terms_in s = on_count s + off_count s

abbrev pub head_of : List ℕ → List ℕ
head_of s = table_head (inputs s) (terms_in s)

abbrev pub on_lines : List ℕ → List ℕ
on_lines s = term_lines (inputs s) on_char (on_list s)

abbrev pub off_lines : List ℕ → List ℕ
off_lines s = term_lines (inputs s) off_char (off_list s)

abbrev dot_e_line : List ℕ
dot_e_line = 46 ∷ 101 ∷ 10 ∷ []

table_parts : (s : List ℕ) → table_of s ≡ head_of s ++ (on_lines s ++ (off_lines s ++ dot_e_line))
unfolding table_of line
table_parts s = refl

module _ (s : List ℕ) (framed : Framed s) where
  -- n + 3 bytes for each cube
  pub lines_long : (on off : List ℕ) → on ≡ on_list s → off ≡ off_list s → length on / 2 * (inputs s + 3) + length off / 2 * (inputs s + 3) ≡ terms_in s * (inputs s + 3)
  lines_long on off on_is off_is =
      let on_half : length on / 2 ≡ on_count s = omega (arith, ap length on_is, on_long s framed) in
      let off_half : length off / 2 ≡ off_count s = omega (arith, ap length off_is, off_long s framed) in
      ap₂ (λ (j k : ℕ). j * (inputs s + 3) + k * (inputs s + 3)) on_half off_half ∙ sym (add-mul (on_count s) (off_count s) (inputs s + 3))

  pub table_sum : length (table_of s) ≡ length (head_of s) + terms_in s * (inputs s + 3) + 3
  table_sum =
      ap length (table_parts s)
      ∙ simp (length-append, terms_long) (omega (arith, lines_long (on_list s) (off_list s) refl refl))

  -- at most 128 cubes, and at most eight inputs
  pub lines_most : terms_in s * (inputs s + 3) ≤ 1408
  lines_most = mul-le-mul {n₂ = 128} {m₂ = 11} (omega arith) (omega arith)

  -- the head is made elsewhere and copied; what follows is stored behind it
  module _ (space first out out₁ out₂ out₃ out₄ on off : List ℕ) (len on_end off_end : ℕ) where
    pub table_stored : len ≤ length space → len ≡ length (head_of s) → first ≡ sets space 0 (head_of s)
        → out₁ ≡ sets out 0 (take len first)
        → on ≡ on_list s → on_end ≡ len + length (term_lines (inputs s) on_char on) → out₂ ≡ sets out₁ len (term_lines (inputs s) on_char on)
        → off ≡ off_list s → off_end ≡ on_end + length (term_lines (inputs s) off_char off) → out₃ ≡ sets out₂ on_end (term_lines (inputs s) off_char off)
        → out₄ ≡ sets out₃ off_end dot_e_line
        → out₄ ≡ sets out 0 (table_of s)
    table_stored fits is made s₁ on_is e₂ s₂ off_is e₃ s₃ s₄ =
        let head_copied : take len first ≡ head_of s = ap₂ take is made ∙ (sets_stands (head_of s) space (omega (arith, is, fits))).front in
        let on_there = term_lines (inputs s) on_char on in
        let off_there = term_lines (inputs s) off_char off in
        s₄
        ∙ behind out₂ off_there out₃ on_end off_end dot_e_line s₃ e₃
        ∙ behind out₁ on_there out₂ len on_end (off_there ++ dot_e_line) s₂ e₂
        ∙ behind out (head_of s) out₁ 0 len (on_there ++ (off_there ++ dot_e_line)) (s₁ ∙ ap (sets out 0) head_copied) (omega (arith, is))
        ∙ ap₂ (λ (on off : List ℕ). sets out 0 (head_of s ++ (term_lines (inputs s) on_char on ++ (term_lines (inputs s) off_char off ++ dot_e_line)))) on_is off_is
        ∙ ap (sets out 0) (sym (table_parts s))

-- the answer for an accepted record: the room decides
pub table_by_room : (s : List ℕ) → (record_fault s).code ≡ 0 → (len : ℕ) → len ≡ length (head_of s)
    → (room : ℕ) → table_writing s room ≡ fits 3 room (len + terms_in s * (inputs s + 3) + 3)
unfolding table_writing by
table_by_room s ok len is room =
    next_chosen (record_fault s).code _ _ ok
    ∙ ap (fits 3 room) (table_sum s (record_sound s ok).framed ∙ ap (λ (k : ℕ). k + terms_in s * (inputs s + 3) + 3) (sym is))

-- so a buffer of this length is enough for every record
pub table_long : (s : List ℕ) → (record_fault s).code ≡ 0 → length (table_of s) ≤ 1437
table_long s ok =
    let framed = (record_sound s ok).framed in
    omega (arith, table_sum s framed, lines_most s framed, head_most (inputs s) (terms_in s) (omega arith) (omega arith))
