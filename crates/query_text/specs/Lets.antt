-- Statement. The lets of a query: one for each node, after those of the node's operands, and one
-- alone for nodes that are written alike.
use Rattle.std.specs.Prelude.{ℕ, Bool, List, [], ◌∷◌, ◌++◌, if◌then◌else◌}
use Rattle.std.specs.List.{list_any, position_or_len}
use Rattle.std.specs.Str.{bytes_eq}
use Rattle.query_forms.specs.Terms.{none}
use Rattle.query_model.specs.Bounds.{width_of}
use Rattle.query_model.specs.Queries.{Qre, atom, eps, choice, split, iter, combine, apply, compose}
use Rattle.query_model.specs.Queries.{collect}
use Rattle.query_parser.specs.Printing.{arguments_text, nowhere}
use Rattle.query_syntax.specs.Queries as q
use Rattle.query_syntax.specs.Queries.{Query}
use Rattle.query_syntax.specs.Written.{query_before}
use Rattle.query_text.specs.Names.{Naming, let_name, named, of_values}
use Rattle.query_text.specs.Trees.{expression_tree, key_tree, numbered, predicate_tree, rate_tree}

-- the text of a query by itself
abbrev pub query_text : Query → List ℕ
query_text query = arguments_text (query_before query none)

-- the queries of lets, and the place of one of them
pub record Placed : Type 0 where
  pub queries : List Query
  pub place : ℕ

-- two queries have the same text
abbrev pub are_written_alike : Query → Query → Bool
are_written_alike one other = bytes_eq (query_text one) (query_text other)

-- the queries with one more, if none of them is written like it, and the place of the first that is
abbrev pub with_query : List Query → Query → Placed
with_query queries query = record {
  queries = if list_any (are_written_alike query) queries then queries else queries ++ query ∷ [];
  place = position_or_len (are_written_alike query) queries;
}

-- the let at a place, by its name
abbrev pub let_at : ℕ → Query
let_at place = q.name (named (let_name place))

-- the queries of lets with those of the nodes of a query over these names
abbrev pub placed : Naming → Qre → List Query → Placed
placed naming (atom pred value) queries =
    with_query queries (q.atom (predicate_tree naming pred) (expression_tree naming value) nowhere)
placed naming (eps number) queries = with_query queries (q.eps (numbered number) nowhere)
placed naming (choice f g) queries =
    let left = placed naming f queries in
    let right = placed naming g left.queries in
    with_query right.queries (q.or (let_at left.place) (let_at right.place) nowhere)
placed naming (split f g value) queries =
    let left = placed naming f queries in
    let right = placed naming g left.queries in
    with_query right.queries
    (q.split (let_at left.place) (let_at right.place) (expression_tree naming value) nowhere)
placed naming (iter f number value) queries =
    let inner = placed naming f queries in
    with_query inner.queries
    (q.iter (let_at inner.place) (numbered number) (expression_tree naming value) nowhere)
placed naming (combine f g value) queries =
    let left = placed naming f queries in
    let right = placed naming g left.queries in
    with_query right.queries
    (q.combine (let_at left.place) (let_at right.place) (expression_tree naming value) nowhere)
placed naming (apply f value) queries =
    let inner = placed naming f queries in
    with_query inner.queries (q.apply (let_at inner.place) (expression_tree naming value) nowhere)
placed naming (compose f g) queries =
    let left = placed naming f queries in
    let right = placed (of_values (width_of f)) g left.queries in
    with_query right.queries (q.compose (let_at left.place) (let_at right.place) nowhere)
placed naming (collect chosen sync rate f) queries =
    let inner = placed naming f queries in
    with_query inner.queries
    (q.collect (key_tree naming chosen) (predicate_tree naming sync) (rate_tree naming rate)
    (let_at inner.place) nowhere)
