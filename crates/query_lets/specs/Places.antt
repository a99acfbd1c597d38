-- For the prover. Lets by their names, and a query with the lets before it.
use Rattle.std.specs.Prelude.{◌≡◌, ℕ, ◌+◌, ◌≤◌, List, [], ◌∷◌, map, Some, None, false, slice_get}
use Rattle.std.specs.HashMap.{HashMap, get_by}
use Rattle.std.specs.Borrow.{Bor}
use Rattle.std.specs.Str.{bytes_eq}
use Rattle.query_syntax.specs.declared.leaf.Name.{Name}
use Rattle.query_syntax.specs.Plain.{plain_let, plain_query}
use Rattle.query_syntax.specs.Programs.{Let}
use Rattle.query_syntax.specs.Queries as q
use Rattle.query_syntax.specs.Queries.{Query}
use Rattle.query_lets.specs.declared.scope.Scope.{Scope}
use Rattle.query_lets.specs.Sizes.{nodes_of}
use Rattle.query_lets.specs.Unfolded.{bindings_of, meaning, replaced}
use Rattle.query_lets.specs.Words.{is_known}

-- the map has the place of each of these lets under its name, and under no other
abbrev pub ArePlaces : {S : Type 0} → HashMap (Bor (List ℕ)) ℕ S → List Let → Type 0
ArePlaces places lets = (place : ℕ) (one : Let) → slice_get lets place ≡ Some one
    → (get_by (λ k. bytes_eq one.name.bytes k.now) places ≡ Some place)
    × ((name : List ℕ) → get_by (λ k. bytes_eq name k.now) places ≡ Some place
    → name ≡ one.name.bytes)

-- the nodes of lets
abbrev pub nodes_in_lets : List Let → ℕ
nodes_in_lets [] = 0
nodes_in_lets (one ∷ lets) = nodes_of one.query + nodes_in_lets lets

-- the nodes of lets and of a query after them
abbrev pub nodes_with : List Let → Query → ℕ
nodes_with lets query = nodes_in_lets lets + nodes_of query

-- a scope's lets, and its query
abbrev pub lets_of : Scope → List Let
lets_of scope = map plain_let scope.lets.now

abbrev pub query_of : Scope → Query
query_of scope = plain_query scope.query.now

-- a scope's map has the places of its lets
abbrev pub IsPlaced : Scope → Type 0
IsPlaced scope = ArePlaces scope.places.now (lets_of scope)

-- a query with the names of a scope's lets replaced
abbrev pub unfolded_at : Scope → Query → Query
unfolded_at scope query = replaced (bindings_of (lets_of scope)) query

-- a scope's own query so
abbrev pub unfolded_of : Scope → Query
unfolded_of scope = unfolded_at scope (query_of scope)

-- the nodes of a scope's lets and of its query
abbrev pub nodes_within : Scope → ℕ
nodes_within scope = nodes_with (lets_of scope) (query_of scope)

-- a query that is no name of a let before it
abbrev pub IsRoot : Scope → Type 0
IsRoot scope = (name : Name) → query_of scope ≡ q.name name
    → meaning (bindings_of (lets_of scope)) name.bytes ≡ None

-- one scope leads to another: its lets are the first of the former's, and its query is the same
-- where names are replaced
pub record Leads (from : Scope) (to : Scope) : Type 0 where
  pub before : (place : ℕ) (one : Let) → slice_get (lets_of to) place ≡ Some one
      → slice_get (lets_of from) place ≡ Some one
  pub places : to.places ≡ from.places
  pub same : unfolded_of to ≡ unfolded_of from
  pub fewer : nodes_within to ≤ nodes_within from

-- no let has the name of an earlier one, nor one of these
abbrev pub AreNamedApart : List (List ℕ) → List Let → Type 0
AreNamedApart known [] = Unit {0}
AreNamedApart known (one ∷ lets) =
    (is_known known one.name.bytes ≡ false) × AreNamedApart (one.name.bytes ∷ known) lets
