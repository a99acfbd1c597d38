-- For the prover. The outlines of the queries that names stand for.
use Rattle.std.specs.Prelude.{◌≡◌, ℕ, ◌-◌, ◌^◌, min, List}
use Rattle.std.specs.Option.{option_map}
use Rattle.std.specs.HashMap.{HashMap, get_by}
use Rattle.std.specs.Borrow.{Bor}
use Rattle.std.specs.Str.{bytes_eq}
use Rattle.query_syntax.specs.Queries.{Query}
use Rattle.query_syntax.specs.Spans.{query_span}
use Rattle.query_lets.specs.declared.outline.Outline.{Outline}
use Rattle.query_lets.specs.Sizes.{nodes_of}
use Rattle.query_lets.specs.Unfolded.{Binding, meaning}

-- how large a query is, and where it stands
abbrev pub outline_of : Query → Outline
outline_of query = record { nodes = min (nodes_of query) (2 ^ 32 - 1); span = query_span query }

-- the map has the outline of what each name stands for
abbrev pub AreOutlines : {S : Type 0} → HashMap (Bor (List ℕ)) Outline S → List Binding → Type 0
AreOutlines outlines bindings = (name : List ℕ) →
    get_by (λ k. bytes_eq name k.now) outlines ≡ option_map outline_of (meaning bindings name)
