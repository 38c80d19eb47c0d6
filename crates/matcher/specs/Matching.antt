-- What the matcher answers, and the claim that it leaves in the buffer: the first agreeing wiring of the list of all wirings; or,
-- where none agrees, the refusal with the matcher's own two trees.
use Rattle.std.specs.Prelude.{ℕ, ◌-◌, List, [], length, Ok, Err}
use Rattle.std.specs.declared.option.Option.{Option}
use Rattle.std.specs.declared.option.Option.TheVariants.{None, Some}
use Rattle.rules.specs.Lists.{first}
use Rattle.rules.specs.Rules.{completions}
use Rattle.answers.specs.declared.Answer.{Answer}
use Rattle.answers.specs.Answers.{fits, ◌or_else◌}
use Rattle.records.specs.Records.{inputs, both_read}
use Rattle.wirings.specs.Wirings.{straight, wirings, agrees, agreeing}
use Rattle.partial.specs.Partial.{as_number}
use Rattle.claims.specs.Claims.{match_claim, refusal_claim, own_tree}
use Rattle.std.specs.declared.result.Result.{Result}

-- ---- what is believed

-- the first agreeing wiring, in the order of all wirings
unfoldable pub first_agreeing : List ℕ → List ℕ → Option (List ℕ)
first_agreeing f g = first (agreeing f g) (wirings (inputs g))

-- the refusal with the matcher's own two trees
abbrev pub own_refusal : List ℕ → List ℕ → List ℕ
own_refusal f g = refusal_claim (inputs g) (own_tree (inputs g) 0 f g []) (own_tree (inputs g) 1 f g [])

-- the claim for a wiring that was found, and where none was; and its kind
unfoldable pub claim_of : List ℕ → List ℕ → Option (List ℕ) → List ℕ
claim_of f g (Some v) = match_claim (inputs g) v
claim_of f g None = own_refusal f g

unfoldable pub kind_found : Option (List ℕ) → ℕ
kind_found (Some v) = 1
kind_found None = 2

-- the claim for f and g
abbrev pub claim_for : List ℕ → List ℕ → List ℕ
claim_for f g = claim_of f g (first_agreeing f g)

-- both functions, then room for the claim
unfoldable pub matching : List ℕ → List ℕ → ℕ → Answer
matching f g room = both_read f g or_else fits (kind_found (first_agreeing f g)) room (length (claim_for f g))

-- ---- what the functions inside answer

-- the first completion of the choices w that agrees with phase q
unfoldable pub first_from : ℕ → ℕ → List ℕ → List ℕ → List ℕ → Option (List ℕ)
first_from n q f g w = first (agrees q f g) (completions (straight n) (n - length w) w)

-- the choices found, or else a length
unfoldable pub searched : Option (List ℕ) → ℕ → Result ℕ ℕ
searched (Some v) length = Ok (as_number v)
searched None length = Err length
