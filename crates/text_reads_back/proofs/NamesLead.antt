-- What the names of an expression stand for where they are read.
use Rattle.std.proofs.Common.{◌≡◌, ◌≤◌, ℕ, zero, suc, List, [], ◌∷◌, map, Option, Some, refl, ap}
use Rattle.std.proofs.Common.{subst, codes, option_map, ◌∙◌}
use Rattle.std.specs.List.{slice_get}
use Rattle.std.specs.Option.{option_and_then}
use Rattle.expressions.specs.Typing.{Types, type_named}
use Rattle.expressions.specs.declared.expr.Var.{Var}
use Rattle.expressions.specs.declared.expr.Var.TheVariants.{Field, Left, Right}
use Rattle.item_schema.specs.declared.column.Column.{Column}
use Rattle.item_schema.specs.declared.column.Kind.{Kind}
use Rattle.item_schema.specs.declared.column.Kind.TheVariants as kind
use Rattle.query_model.specs.QueryTypes as types
use Rattle.query_model.specs.QueryTypes.{type_of_kind}
use Rattle.query_resolver.specs.Expressions.{Scope, named_in, of_item, of_one, of_two}
use Rattle.query_text.specs.Names.{Naming, var_name}
use Rattle.query_tokens.specs.Raw.{IsWord}
use Rattle.value_ops.specs.Types.{IsType}
use Rattle.value_ops.specs.declared.value.ValueType.{ValueType}
use Rattle.value_ops.specs.declared.value.ValueType.TheVariants as type
use Rattle.text_reads_back.proofs.ExpressionTerms.{AreWords}
use Rattle.text_reads_back.proofs.KnownWords.{known}
use Rattle.text_reads_back.proofs.Names.{AreNames}

-- what has a type is called by a name that leads to it
abbrev pub Lead : Scope → Types → Naming → Type 0
Lead scope types naming = (name : Var) (ty : ValueType) → type_named types name ≡ Some ty
    → named_in scope (var_name naming name) ≡ Some name

-- a record has few parts
few_parts : (ty : ValueType) (size : ℕ) → IsType ty → Some ty ≡ Some (type.Rec size) → size ≤ 8
few_parts ty size is same =
    let one : ty ≡ type.Rec size = cc in
    (subst IsType one is).1

-- one value
pub one_leads : (naming : Naming) (ty : ValueType) → Lead of_one (types.of_one ty) naming
one_leads naming ty (Field place) other is = absurd (cc)
one_leads naming ty Left other is = refl
one_leads naming ty Right other is = absurd (cc)

pub one_words : (naming : Naming) (ty : ValueType) → IsType ty → AreWords naming (types.of_one ty)
one_words naming ty is = record { word = word; few = few }
  where
    word : (name : Var) (other : ValueType) → type_named (types.of_one ty) name ≡ Some other
        → IsWord (var_name naming name)
    word (Field place) other there = absurd (cc)
    word Left other there = known (codes "x") refl
    word Right other there = absurd (cc)

    few : (name : Var) (size : ℕ) → type_named (types.of_one ty) name ≡ Some (type.Rec size)
        → size ≤ 8
    few (Field place) size there = absurd (cc)
    few Left size there = few_parts ty size is there
    few Right size there = absurd (cc)

-- two values
pub two_leads : (naming : Naming) (left right : ValueType)
    → Lead of_two (types.of_two left right) naming
two_leads naming left right (Field place) other is = absurd (cc)
two_leads naming left right Left other is = refl
two_leads naming left right Right other is = refl

pub two_words : (naming : Naming) (left right : ValueType) → IsType left → IsType right
    → AreWords naming (types.of_two left right)
two_words naming left right is also = record { word = word; few = few }
  where
    word : (name : Var) (other : ValueType)
        → type_named (types.of_two left right) name ≡ Some other → IsWord (var_name naming name)
    word (Field place) other there = absurd (cc)
    word Left other there = known (codes "x") refl
    word Right other there = known (codes "y") refl

    few : (name : Var) (size : ℕ)
        → type_named (types.of_two left right) name ≡ Some (type.Rec size) → size ≤ 8
    few (Field place) size there = absurd (cc)
    few Left size there = few_parts left size is there
    few Right size there = few_parts right size also there

-- the fields of an item
abbrev type_there : List Column → ℕ → Option ValueType
type_there columns place = option_and_then (λ found. found)
    (slice_get (map (λ column. type_of_kind column.kind) columns) place)

column_there : (columns : List Column) (place : ℕ) (ty : ValueType)
    → type_there columns place ≡ Some ty
    → (column : Column) × (slice_get columns place ≡ Some column)
column_there [] place ty is = absurd (cc)
column_there (column ∷ columns) zero ty is = (column, refl)
column_there (column ∷ columns) (suc place) ty is = column_there columns place ty is

no_record_kind : (of : Kind) (size : ℕ) → type_of_kind of ≡ Some (type.Rec size) → ⊥
no_record_kind kind.Int size is = cc
no_record_kind (kind.Fixed digits) size is = cc
no_record_kind kind.Text size is = cc
no_record_kind kind.Number size is = cc
no_record_kind kind.Table size is = cc

no_record : (columns : List Column) (place size : ℕ)
    → type_there columns place ≡ Some (type.Rec size) → ⊥
no_record [] place size is = cc
no_record (column ∷ columns) zero size is = no_record_kind column.kind size is
no_record (column ∷ columns) (suc place) size is = no_record columns place size is

module _ (columns : List Column) (naming : Naming) (names : AreNames naming columns) where
  pub item_leads : Lead (of_item columns) (types.of_columns columns) naming
  item_leads (Field place) ty is =
      let there = column_there columns place ty is in
      ap (option_map Field) (names.leads place there.0 there.1)
  item_leads Left ty is = absurd (cc)
  item_leads Right ty is = absurd (cc)

  item_word : (name : Var) (ty : ValueType)
      → type_named (types.of_columns columns) name ≡ Some ty → IsWord (var_name naming name)
  item_word (Field place) ty is =
      let there = column_there columns place ty is in
      names.word place there.0 there.1
  item_word Left ty is = absurd (cc)
  item_word Right ty is = absurd (cc)

  item_few : (name : Var) (size : ℕ)
      → type_named (types.of_columns columns) name ≡ Some (type.Rec size) → size ≤ 8
  item_few (Field place) size is = absurd (no_record columns place size is)
  item_few Left size is = absurd (cc)
  item_few Right size is = absurd (cc)

  pub item_words : AreWords naming (types.of_columns columns)
  item_words = record { word = item_word; few = item_few }
