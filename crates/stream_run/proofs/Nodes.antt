-- A query has no more composes than nodes, so that the positions on the streams inside
-- can be counted.
use Rattle.std.proofs.Common.{◌≡◌, ◌<◌, ◌≤◌, ◌+◌, ℕ, ◌^◌, List, subst, arith}
use Rattle.value_ops.specs.declared.field.Field.{Field}
use Rattle.item_schema.specs.declared.column.Column.{Column}
use Rattle.item_schema.specs.Items.{IsItemOf}
use Rattle.query_model.specs.Bounds.{nodes_of}
use Rattle.query_model.specs.Checked.{IsChecked, CheckedQuery}
use Rattle.query_model.specs.Following.{FitsNext, composes_of}
use Rattle.query_model.specs.Queries.{Qre, atom, eps, choice, split, iter, combine, apply, compose}
use Rattle.query_model.specs.Queries.{collect, plain_of}

-- each compose is a node
composes_few : (q : Qre) → composes_of q ≤ nodes_of q
composes_few (atom pred expression) = omega arith
composes_few (eps number) = omega arith
composes_few (choice f g) = let a = composes_few f in let b = composes_few g in omega arith
composes_few (split f g expression) = let a = composes_few f in
    let b = composes_few g in omega arith
composes_few (iter f number expression) = let a = composes_few f in omega arith
composes_few (combine f g expression) = let a = composes_few f in
    let b = composes_few g in omega arith
composes_few (apply f expression) = let a = composes_few f in omega arith
composes_few (compose f g) = let a = composes_few f in let b = composes_few g in omega arith
composes_few (collect chosen sync rate f) = let a = composes_few f in omega arith

-- one more item fits after fewer than 2^62 + 2^63 of them
pub fits_next : (on : CheckedQuery) → IsChecked on
    → (columns : List Column) (query : Qre) (position : ℕ)
    (item : List Field) → query ≡ plain_of on.main.shape → columns ≡ on.layout.columns
    → position < 2 ^ 62 + 2 ^ 63 → IsItemOf on.layout.columns item → FitsNext columns query position item
fits_next on checked columns query position item query_is columns_are room is_item =
    let few : composes_of query ≤ nodes_of (plain_of on.main.shape) =
    subst (λ (q : Qre). composes_of query ≤ nodes_of q) query_is (composes_few query) in
    record {
      is_item = rw columns_are is_item;
      room = omega (arith, few, checked.small.nodes, room);
    }
