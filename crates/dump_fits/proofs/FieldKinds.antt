-- The types of what stands in the columns of a record.
use Rattle.std.proofs.Common.{◌≡◌, ◌++◌, ◌∙◌, ℕ, zero, suc, Bool, true, false, List, []}
use Rattle.std.proofs.Common.{◌∷◌, Option, Some, None, ltb, map, replicate, refl, ap}
use Rattle.std.proofs.Common.{sym, arith}
use Rattle.std.specs.Option.{option_and_then}
use Rattle.std.specs.List.{slice_get}
use Rattle.std.specs.Bool.{then_some}
use Rattle.std.proofs.lemmas.Bool.{ltb-false, ltb-true}
use Rattle.std.proofs.lemmas.List.{get_or-replicate, length-replicate, map_push}
use Rattle.std.proofs.lemmas.Option.{slice_get-get_or, slice_get_past}
use Rattle.item_schema.specs.Layout.{columns_of_values, part_column, part_columns}
use Rattle.item_schema.specs.declared.column.Column.{Column}
use Rattle.query_model.specs.QueryTypes.{type_of_kind}
use Rattle.value_ops.specs.declared.value.ValueType.{ValueType}
use Rattle.value_ops.specs.declared.value.ValueType.TheVariants.{Number, Rec}

replicate_push : {A : Type 0} (n : ℕ) (x : A) → replicate n x ++ x ∷ [] ≡ replicate (suc n) x
replicate_push zero x = refl
replicate_push (suc n) x = ap (λ rest. x ∷ rest) (replicate_push n x)

-- the parts of a record are numbers
parts_numbers : (size : ℕ)
    → map (λ (column : Column). type_of_kind column.kind) (part_columns size)
    ≡ replicate size (Some Number)
parts_numbers zero = refl
parts_numbers (suc size) =
    map_push (λ (column : Column). type_of_kind column.kind) (part_columns size) (part_column size)
    ∙ ap (λ types. types ++ Some Number ∷ []) (parts_numbers size)
    ∙ replicate_push size (Some Number)

at_number : (size place : ℕ) (test : Bool) → ltb place size ≡ test
    → then_some test Number
    ≡ option_and_then (λ found. found) (slice_get (replicate size (Some Number)) place)
at_number size place true is =
    sym (ap (option_and_then (λ found. found))
    (slice_get-get_or (replicate size (Some Number)) place None
    (let below = ltb-true place size is in let count = length-replicate size (Some Number) in
    omega (arith, below, count))
    ∙ ap Some (get_or-replicate size place (Some Number) None (ltb-true place size is))))
at_number size place false is =
    sym (ap (option_and_then (λ found. found))
    (slice_get_past (replicate size (Some Number)) place
    (let past = ltb-false place size is in let count = length-replicate size (Some Number) in
    omega (arith, past, count))))

pub part_type : (size place : ℕ) → then_some (ltb place size) Number
    ≡ option_and_then (λ found. found)
    (slice_get (map (λ (column : Column). type_of_kind column.kind) (part_columns size)) place)
part_type size place =
    at_number size place (ltb place size) refl
    ∙ ap (λ (types : List (Option ValueType)).
    option_and_then (λ found. found) (slice_get types place)) (sym (parts_numbers size))

pub part_type_of : (type : ValueType) (size place : ℕ) → Rec size ≡ type
    → then_some (ltb place size) Number
    ≡ option_and_then (λ found. found)
    (slice_get (map (λ (column : Column). type_of_kind column.kind) (columns_of_values type)) place)
part_type_of type size place is =
    part_type size place
    ∙ ap (λ (t : ValueType). option_and_then (λ found. found)
    (slice_get (map (λ (column : Column). type_of_kind column.kind) (columns_of_values t)) place))
    is
