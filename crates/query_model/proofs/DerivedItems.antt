-- Values as items of the streams of values.
use Rattle.std.proofs.Common.{◌≤◌, ◌<◌, ℕ, zero, suc, List, [], ◌∷◌, ◌++◌, length, take, get_or}
use Rattle.std.proofs.Common.{sym, subst, arith, add-one}
use Rattle.std.specs.List.{All}
use Rattle.std.proofs.lemmas.List.{map_more, take_all}
use Rattle.value_ops.specs.declared.field.Field.{Field}
use Rattle.value_ops.specs.declared.field.Field.TheVariants as field
use Rattle.value_ops.specs.declared.scalar.Scalar.{Scalar}
use Rattle.value_ops.specs.declared.scalar.Scalar.TheVariants.{Overflow}
use Rattle.value_ops.specs.declared.value.Value.{Value}
use Rattle.value_ops.specs.declared.value.Value.TheVariants as value
use Rattle.value_ops.specs.declared.value.ValueType.{ValueType}
use Rattle.value_ops.specs.declared.value.ValueType.TheVariants as type
use Rattle.value_ops.specs.Types.{IsScalar, IsValueOf}
use Rattle.item_schema.specs.declared.column.Column.{Column}
use Rattle.item_schema.specs.Items.{IsFieldOf, IsItemOf, fields_of_parts, fields_of_value}
use Rattle.item_schema.specs.Layout.{part_column, part_columns}
use Rattle.query_model.specs.QueryTypes.{derived_columns}

-- one column and one field more
one_more : (columns : List Column) (item : List Field) (column : Column) (last : Field)
    → IsItemOf columns item → IsFieldOf column.kind last
    → IsItemOf (columns ++ column ∷ []) (item ++ last ∷ [])
one_more [] [] column last is fits = (fits, tt)
one_more [] (x ∷ item) column last is fits = absurd is
one_more (c ∷ columns) [] column last is fits = absurd is
one_more (c ∷ columns) (x ∷ item) column last is fits =
    (is.0, one_more columns item column last is.1 fits)

-- the first parts of a record have the first columns
parts_item : (parts : List Scalar) (count : ℕ) → All IsScalar parts → count ≤ length parts
    → IsItemOf (part_columns count) (fields_of_parts (take count parts))
parts_item parts zero each few = tt
parts_item parts (suc count) each few =
    let within : count < length parts = omega (arith, few) in
    subst (λ (n : ℕ). IsItemOf (part_columns (suc count)) (fields_of_parts (take n parts)))
    (add-one count) (subst (IsItemOf (part_columns (suc count)))
    (sym (map_more (λ (part : Scalar). field.Val (value.Scalar part)) parts count Overflow within))
    (one_more (part_columns count) (fields_of_parts (take count parts)) (part_column count)
    (field.Val (value.Scalar (get_or parts count Overflow)))
    (parts_item parts count each (omega (arith, few))) (each count Overflow within)))

-- a value is an item of the stream of values of its type
pub derived_item : (ty : ValueType) (v : Value) → IsValueOf ty v
    → IsItemOf (derived_columns ty) (fields_of_value v)
derived_item type.Number (value.Scalar scalar) is = (is, tt)
derived_item (type.Rec size) (value.Rec parts) is =
    subst (λ (all : List Scalar). IsItemOf (part_columns size) (fields_of_parts all))
    (take_all size parts (let same = is.count in omega (arith, same)))
    (parts_item parts size is.scalars (let same = is.count in omega (arith, same)))
derived_item type.Table (value.Table entries) is = (is, tt)
derived_item _ _ is = absurd is
