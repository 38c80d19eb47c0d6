-- The two kinds of claim in the words of document 01, as data and as bytes.
use Rattle.std.specs.Prelude.{ℕ, ◌+◌, ◌-◌, ◌*◌, ◌≡◌, Bool, true, ◌&&◌, List, [], ◌∷◌, ◌++◌, ltb, length}
use Rattle.records.specs.Records.{inputs}
use Rattle.wirings.specs.Wirings.{straight, is_wiring, agreeing}
use Rattle.wirings.specs.Pairs.{Pair, cubes_in, side, against, of_pair, dead, first_dead}
use Rattle.claims.specs.Trees.{Tree, tree_bytes, right, own, longest_tree}

-- ---- match claims: mark 4D 54, n, q, then for each input of f one byte

abbrev pub match_claim : ℕ → List ℕ → List ℕ
match_claim n v = 0x4D ∷ 0x54 ∷ n ∷ v

-- c claims a wiring of f and g, and the wiring agrees
pub record IsMatch (f g c : List ℕ) : Type 0 where
  pub wiring : List ℕ
  pub whole : is_wiring (inputs g) wiring ≡ true
  pub agrees : agreeing f g wiring ≡ true
  pub bytes : c ≡ match_claim (inputs g) wiring

-- ---- refusal claims: mark 52 46, n, a tree for q = 0, then a tree for q = 1

abbrev pub refusal_claim : ℕ → Tree → Tree → List ℕ
refusal_claim n t₀ t₁ = 0x52 ∷ 0x46 ∷ n ∷ tree_bytes t₀ ++ tree_bytes t₁

-- s is 0 or 1, u is the index of a cube in that list of f, v of one in the list of g from which it must be kept apart
unfoldable pub names_pair : ℕ → List ℕ → List ℕ → Pair → Bool
names_pair q f g p = ltb p.0 2 && ltb p.1 (cubes_in (side p.0 f)) && ltb p.2 (cubes_in (side (against q p.0) g))

-- a closing names a pair, and the pair is dead
abbrev pub closes : ℕ → List ℕ → List ℕ → List ℕ → Pair → Bool
closes q f g w p = names_pair q f g p && of_pair q f g (dead (inputs g) w) p

-- a tree for q, from the start
abbrev pub right_for : ℕ → List ℕ → List ℕ → Tree → Bool
right_for q f g t = right (straight (inputs g)) (closes q f g) (inputs g) [] t

-- c is a refusal of f and g by the rules
pub record IsRefusal (f g c : List ℕ) : Type 0 where
  pub tree₀ : Tree
  pub tree₁ : Tree
  pub right₀ : right_for 0 f g tree₀ ≡ true
  pub right₁ : right_for 1 f g tree₁ ≡ true
  pub bytes : c ≡ refusal_claim (inputs g) tree₀ tree₁

-- the matcher's own tree for q after the choices w of n inputs
unfoldable pub own_tree : ℕ → ℕ → List ℕ → List ℕ → List ℕ → Tree
own_tree n q f g w = own (straight n) (first_dead n q f g) (n - length w) w

-- the length of the longest refusal of functions of n inputs
abbrev pub longest_refusal : ℕ → ℕ
longest_refusal n = 3 + 2 * longest_tree n
