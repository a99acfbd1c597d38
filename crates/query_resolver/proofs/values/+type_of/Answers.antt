use Rattle.std.proofs.Common.{◌∙◌, ap, inl, inr, rules, subst, sym}
use Rattle.query_model.specs.Queries.{plain_of}
use Rattle.query_model.specs.QueryTypes.{derived_columns, of_columns, type_of}
use Rattle.query_model.specs.declared.query.Shape.TheViews.{the_lemmas}
use Rattle.query_resolver.specs.Findings.{KeepsTypes}
use Rattle.expressions.specs.Expressions as values
use Rattle.value_ops.specs.declared.value.ValueType.{ValueType}
use Rattle.query_resolver.proofs.ValueTypes.{known_value}
use Rattle.query_resolver.proofs.FieldTypes.{over_fields, over_one_value, over_two_values}
use Rattle.query_resolver.proofs.values.+type_of.Goals as goal

-- each operand keeps types where the query does
pub type_of-requires : goal.type_of-requires
type_of-requires t c =
    let over = rw c.in-Or.is at c.requires in
    (search (rules, the_lemmas), rw c.deref.ensures (over.0, over.1, over.2.0))

pub type_of-requires-in-Split : goal.type_of-requires-in-Split
type_of-requires-in-Split t c =
    elim c.in-Split.is [
      | inl same ↦
          let over = rw same at c.requires in
          (search (rules, the_lemmas), rw c.deref-in-Split.ensures (over.0, over.1, over.2.0))
      | inr same ↦
          let over = rw same at c.requires in
          (search (rules, the_lemmas), rw c.deref-in-Split.ensures (over.0, over.1, over.2.0))
    ]

pub type_of-requires-in-Split-2 : goal.type_of-requires-in-Split-2
type_of-requires-in-Split-2 t c =
    elim c.in-Split.is [
      | inl same ↦
          let over = rw same at c.requires in
          (search (rules, the_lemmas), rw c.deref-in-Split-2.ensures (over.0, over.1, over.2.1))
      | inr same ↦
          let over = rw same at c.requires in
          (search (rules, the_lemmas), rw c.deref-in-Split-2.ensures (over.0, over.1, over.2.1))
    ]

pub type_of-requires-in-Apply : goal.type_of-requires-in-Apply
type_of-requires-in-Apply t c =
    let over = rw c.in-Apply.is at c.requires in
    (search (rules, the_lemmas), rw c.deref-in-Apply.ensures (over.0, over.1, over.2.0))

pub type_of-requires-in-Compose : goal.type_of-requires-in-Compose
type_of-requires-in-Compose t c =
    let over = rw c.in-Compose.is at c.requires in
    (search (rules, the_lemmas), rw c.deref-in-Compose.ensures (over.0, over.1, over.2.0))

pub types_of_values-requires : goal.types_of_values-requires
types_of_values-requires t c =
    let over = rw c.in-Compose.is at c.requires in
    known_value over.0 (plain_of c.in-Compose.first.value.shape)
    c.type_of-in-Compose.result over.2.0
    (rw c.deref-in-Compose.ensures at (c.type_of-in-Compose.ensures over.0 over.1))

pub type_of-requires-in-Compose-2 : goal.type_of-requires-in-Compose-2
type_of-requires-in-Compose-2 t c =
    let over = rw c.in-Compose.is at c.requires in
    let type = rw c.deref-in-Compose.ensures at (c.type_of-in-Compose.ensures over.0 over.1) in
    let keeps : KeepsTypes (derived_columns c.type_of-in-Compose.result)
    (plain_of c.in-Compose.second.value.shape) =
    subst (λ (ty : ValueType). KeepsTypes (derived_columns ty)
    (plain_of c.in-Compose.second.value.shape)) (sym type)
    over.2.1 in (
      search (rules, the_lemmas),
      rw c.deref-in-Compose-2.ensures
          (derived_columns c.type_of-in-Compose.result, c.types_of_values.ensures, keeps),
    )

pub returns-in-Atom : goal.returns-in-Atom
returns-in-Atom t c = λ columns is.
    rw c.in-Atom.is
    (over_fields columns c.args.fields.now (values.plain_of c.in-Atom.value) _ is
    c.type_of_expression.ensures)

pub returns-in-Or : goal.returns-in-Or
returns-in-Or t c = λ columns is.
    rw c.in-Or.is (rw c.deref.ensures at (c.type_of.ensures columns is))

pub returns-in-Split : goal.returns-in-Split
returns-in-Split t c = λ columns is.
    let left = rw c.deref-in-Split.ensures at (c.type_of-in-Split.ensures columns is) in
    let right = rw c.deref-in-Split-2.ensures at (c.type_of-in-Split-2.ensures columns is) in
    let here = over_two_values _ _ _ _ _ (values.plain_of c.in-Split.value) _
    c.of_two-types.ensures left right c.type_of_expression-in-Split.ensures in
    elim c.in-Split.is [
      | inl same ↦ rw same here
      | inr same ↦ rw same here
    ]

pub returns-in-Apply : goal.returns-in-Apply
returns-in-Apply t c = λ columns is.
    let inner = rw c.deref-in-Apply.ensures at (c.type_of-in-Apply.ensures columns is) in
    rw c.in-Apply.is
    (over_one_value _ _ _ (values.plain_of c.in-Apply.value) _ c.of_one-types.ensures inner
    c.type_of_expression-in-Apply.ensures)

pub returns-in-Compose : goal.returns-in-Compose
returns-in-Compose t c = λ columns is.
    let left = rw c.deref-in-Compose.ensures at (c.type_of-in-Compose.ensures columns is) in
    let values = derived_columns (type_of columns (plain_of c.in-Compose.first.value.shape)) in
    let fields = c.types_of_values.ensures
    ∙ ap (λ (ty : ValueType). (of_columns (derived_columns ty)).fields) left in
    let right = rw c.deref-in-Compose-2.ensures at (c.type_of-in-Compose-2.ensures values fields) in
    rw c.in-Compose.is right
