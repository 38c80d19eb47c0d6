-- What is kept of a line that begins with a keyword: one law for each keyword, by computing with its letters.
use Prim.Native.Nat.{ℕ, min}
use mathlib.Core.Path.{◌≡◌, refl, ap, ◌∙◌}
use mathlib.Core.Bool.{Bool, true, false, cond, ◌&&◌}
use mathlib.Core.List.{List}
use Rattle.rules.specs.Lists.{same}
use Rattle.std.specs.declared.option.Option.TheVariants.{None, Some}
use Rattle.std.specs.Option.{option_map_or}
use Rattle.rules.proofs.Lists.{same_is}
use Rattle.words.specs.Words.{is_number, value}
use Rattle.words.specs.Counted.{most, counted}
use Rattle.terms.specs.declared.Line.{Line}
use Rattle.terms.specs.declared.Line.TheVariants.{Output, Inputs, Fr, Terms, End, Malformed, Unknown}
use Rattle.terms.specs.Terms.{Says, keyword, malformed, dot_i, dot_o, one, dot_type, fr, dot_p, dot_e, keyword_line}
use Rattle.terms.specs.Seen.{seen, after, numbered}

pub line_e : (ws : List (List ℕ)) → seen (keyword_line dot_e ws) ≡ End
unfolding keyword_line seen same
line_e ws = refl

-- the value that it takes, or another
seen_either : (t : Bool) (s : Says) → seen (cond t s malformed) ≡ cond t (seen s) Malformed
unfolding seen
seen_either true s = refl
seen_either false s = refl

module _ (v : List ℕ) where
  pub line_o : (alone : Bool) → seen (keyword_line dot_o (after alone v)) ≡ cond (alone && same v one) Output Malformed
  unfolding keyword_line seen same
  line_o true = seen_either (same v one) (keyword dot_o v)
  line_o false = refl

  pub line_type : (alone : Bool) → seen (keyword_line dot_type (after alone v)) ≡ cond (alone && same v fr) Fr Malformed
  unfolding keyword_line seen same
  line_type true = seen_either (same v fr) (keyword dot_type v)
  line_type false = refl

  -- a number as it is kept
  as_number : (kept : ℕ → Line) (t : Bool)
      → cond t (kept (min (value v) most)) Malformed ≡ option_map_or kept (cond t (Some (min (value v) most)) None) Malformed
  as_number kept true = refl
  as_number kept false = refl

  pub line_i : (alone : Bool) → seen (keyword_line dot_i (after alone v)) ≡ option_map_or Inputs (numbered alone v) Malformed
  unfolding keyword_line seen same counted
  line_i true = seen_either (is_number v) (keyword dot_i v) ∙ as_number Inputs (is_number v)
  line_i false = refl

  pub line_p : (alone : Bool) → seen (keyword_line dot_p (after alone v)) ≡ option_map_or Terms (numbered alone v) Malformed
  unfolding keyword_line seen same counted
  line_p true = seen_either (is_number v) (keyword dot_p v) ∙ as_number Terms (is_number v)
  line_p false = refl

pub line_unknown : (name : List ℕ) (ws : List (List ℕ)) → same name dot_e ≡ false → same name dot_i ≡ false → same name dot_o ≡ false
    → same name dot_type ≡ false → same name dot_p ≡ false
    → seen (keyword_line name ws) ≡ Unknown
unfolding keyword_line seen
line_unknown name ws e i o t p = simp (e, i, o, t, p)

-- a first word that is this keyword, or else another
by_word : (name : List ℕ) (ws : List (List ℕ)) (word : List ℕ) {l other : Line} → seen (keyword_line word ws) ≡ l
    → (same name word ≡ false → seen (keyword_line name ws) ≡ other) → seen (keyword_line name ws) ≡ cond (same name word) l other
by_word name ws word {l} {other} here there = go (same name word) refl
  where
    go : (t : Bool) → same name word ≡ t → seen (keyword_line name ws) ≡ cond t l other
    go true e = ap (λ (n : List ℕ). seen (keyword_line n ws)) (same_is name word e) ∙ here
    go false e = there e

-- so one after the other
pub keyword_told : (name v : List ℕ) (alone : Bool) → seen (keyword_line name (after alone v))
    ≡ cond (same name dot_e) End
    (cond (same name dot_i) (option_map_or Inputs (numbered alone v) Malformed)
    (cond (same name dot_o) (cond (alone && same v one) Output Malformed)
    (cond (same name dot_type) (cond (alone && same v fr) Fr Malformed)
    (cond (same name dot_p) (option_map_or Terms (numbered alone v) Malformed) Unknown))))
keyword_told name v alone =
    let ws = after alone v in
    by_word name ws dot_e (line_e ws) (λ e.
    by_word name ws dot_i (line_i v alone) (λ i.
    by_word name ws dot_o (line_o v alone) (λ o.
    by_word name ws dot_type (line_type v alone) (λ t.
    by_word name ws dot_p (line_p v alone) (λ p. line_unknown name ws e i o t p)))))
