-- The types of the fields of streams, and of expressions over them.
use Rattle.std.proofs.Common.{◌≡◌, ◌≤◌, ◌++◌, ◌∙◌, ℕ, zero, suc, List, [], ◌∷◌, Option, Some, None}
use Rattle.std.proofs.Common.{map, replicate, take, refl, ap, ap₂, sym}
use Rattle.std.proofs.lemmas.List.{map_push, take-replicate}
use Rattle.item_schema.specs.Layout.{part_column, part_columns}
use Rattle.item_schema.specs.declared.column.Column.{Column}
use Rattle.query_model.specs.QueryTypes.{derived_columns, of_columns, of_one, of_two}
use Rattle.query_model.specs.QueryTypes.{type_of_expression, type_of_kind}
use Rattle.expressions.specs.Expressions.{Expression}
use Rattle.expressions.specs.Typing.{Types}
use Rattle.value_ops.specs.declared.value.ValueType.{ValueType}
use Rattle.value_ops.specs.declared.value.ValueType.TheVariants.{Number, Rec}

-- one more at the end of equal ones is one more
replicate_push : {A : Type 0} (n : ℕ) (x : A) → replicate n x ++ x ∷ [] ≡ replicate (suc n) x
replicate_push zero x = refl
replicate_push (suc n) x = ap (λ rest. x ∷ rest) (replicate_push n x)

-- the parts of a record are numbers
parts_numbers : (size : ℕ)
    → map (λ column. type_of_kind column.kind) (part_columns size) ≡ replicate size (Some Number)
parts_numbers zero = refl
parts_numbers (suc size) =
    map_push (λ column. type_of_kind column.kind) (part_columns size) (part_column size)
    ∙ ap (λ types. types ++ Some Number ∷ []) (parts_numbers size)
    ∙ replicate_push size (Some Number)

pub record_fields : (size : ℕ) → size ≤ 8 → take size (replicate 8 (Some Number))
    ≡ (of_columns (derived_columns (Rec size))).fields
record_fields size fits = take-replicate size 8 (Some Number) fits ∙ sym (parts_numbers size)

-- an expression over the fields of these columns
pub over_fields : (columns : List Column) (fields : List (Option ValueType)) (e : Expression)
    (type : ValueType) → fields ≡ (of_columns columns).fields
    → type ≡ type_of_expression (record { fields = fields; left = None; right = None }) e
    → type ≡ type_of_expression (of_columns columns) e
over_fields columns fields e type same is = is ∙ ap (λ (all : List (Option ValueType)).
    type_of_expression (record { fields = all; left = None; right = None }) e) same

-- over one value, or two
pub over_one_value : (types : Types) (given type : ValueType) (e : Expression) (result : ValueType)
    → types ≡ of_one given → given ≡ type → result ≡ type_of_expression types e
    → result ≡ type_of_expression (of_one type) e
over_one_value types given type e result are same is =
    is ∙ ap (λ (ts : Types). type_of_expression ts e) (are ∙ ap of_one same)

pub over_two_values : (types : Types) (given other left right : ValueType) (e : Expression)
    (result : ValueType) → types ≡ of_two given other → given ≡ left → other ≡ right
    → result ≡ type_of_expression types e → result ≡ type_of_expression (of_two left right) e
over_two_values types given other left right e result are same also is =
    is ∙ ap (λ (ts : Types). type_of_expression ts e) (are ∙ ap₂ of_two same also)
