-- The columns of values are those of a schema.
use Rattle.std.proofs.Common.{ℕ, zero, suc, refl, arith, lit<, lit≤}
use Rattle.few_parts.specs.Sizes.{IsRecordSize}
use Rattle.value_ops.specs.Types.{IsType}
use Rattle.value_ops.specs.declared.value.ValueType.{ValueType}
use Rattle.value_ops.specs.declared.value.ValueType.TheVariants as values
use Rattle.item_schema.specs.Layout.{IsLayout, columns_of_values, part_columns}

-- two to eight columns, each of which has a name of its own
parts_are_layout : (size : ℕ) → IsRecordSize size → IsLayout (part_columns size)
parts_are_layout zero few = absurd (omega (arith, few.0))
parts_are_layout (suc zero) few = absurd (omega (arith, few.0))
parts_are_layout (suc (suc zero)) few =
    record { some = lit< tt; few = lit≤ tt; distinct = refl; digits = refl }
parts_are_layout (suc (suc (suc zero))) few =
    record { some = lit< tt; few = lit≤ tt; distinct = refl; digits = refl }
parts_are_layout (suc (suc (suc (suc zero)))) few =
    record { some = lit< tt; few = lit≤ tt; distinct = refl; digits = refl }
parts_are_layout (suc (suc (suc (suc (suc zero))))) few =
    record { some = lit< tt; few = lit≤ tt; distinct = refl; digits = refl }
parts_are_layout (suc (suc (suc (suc (suc (suc zero)))))) few =
    record { some = lit< tt; few = lit≤ tt; distinct = refl; digits = refl }
parts_are_layout (suc (suc (suc (suc (suc (suc (suc zero))))))) few =
    record { some = lit< tt; few = lit≤ tt; distinct = refl; digits = refl }
parts_are_layout (suc (suc (suc (suc (suc (suc (suc (suc zero)))))))) few =
    record { some = lit< tt; few = lit≤ tt; distinct = refl; digits = refl }
parts_are_layout (suc (suc (suc (suc (suc (suc (suc (suc (suc size))))))))) few =
    absurd (omega (arith, few.1))

-- so are those of every type
pub values_are_layout : (ty : ValueType) → IsType ty → IsLayout (columns_of_values ty)
values_are_layout values.Number is =
    record { some = lit< tt; few = lit≤ tt; distinct = refl; digits = refl }
values_are_layout (values.Rec size) is = parts_are_layout size is
values_are_layout values.Table is =
    record { some = lit< tt; few = lit≤ tt; distinct = refl; digits = refl }
