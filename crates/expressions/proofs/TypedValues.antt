-- Well-typed expressions give values of their types, in range where what their names stand for is.
use Rattle.std.proofs.Common.{◌≡◌, ◌^◌, ℕ, ℤ, pos, negsuc, nat_lt, Bool, true, false, cond, List}
use Rattle.std.proofs.Common.{[], ◌∷◌, length, Option, Some, refl, ◌∙◌, ap, sym, subst, arith}
use Rattle.std.specs.Prelude.{All}
use Rattle.std.specs.Str.{bytes_eq}
use Rattle.std.proofs.lemmas.List.Elements.{All-from_recursion, All-head, All-tail}
use Rattle.std.proofs.lemmas.Bool.Decides.{nat_tests}
use Rattle.std.proofs.lemmas.Option.{get_or_from_slice_get, slice_get_within}
use Rattle.std.specs.Option.{option_map}
use Rattle.expressions.specs.declared.expr.Var.{Var}
use Rattle.value_ops.specs.declared.scalar.Scalar.{Scalar}
use Rattle.value_ops.specs.declared.scalar.Scalar.TheVariants.{Number, Overflow}
use Rattle.value_ops.specs.declared.value.Value.{Value}
use Rattle.value_ops.specs.declared.value.Value.TheVariants as value
use Rattle.value_ops.specs.declared.value.ValueType.{ValueType}
use Rattle.value_ops.specs.declared.value.ValueType.TheVariants as type
use Rattle.value_ops.specs.Entries.{value_at, values_of}
use Rattle.expressions.specs.Evaluation.{Inputs, value_named, value_of}
use Rattle.expressions.specs.Expressions.{Expression, literal, read, unary, binary, choice, sum}
use Rattle.expressions.specs.Expressions.{count, most, least, entry, rec, part}
use Rattle.value_ops.specs.Scalar.{in_range}
use Rattle.value_ops.specs.Types.{type_of, IsRecord, IsScalar, IsTable, IsValueOf}
use Rattle.expressions.specs.Typing.{types_of, IsNumber, IsRecordOf, IsTableName, HasType}
use Rattle.expressions.specs.Typing.{AreValues}
use Rattle.expressions.proofs.TypedNames.{record_there, same_inside, scalar_named, table_there}
use Rattle.expressions.proofs.TypedExpressions.{Gives, Holds, scalar_gives, scalars_give}

-- a value that is there, a scalar of which it holds
abbrev GivesNumber : (Scalar → Type 0) → Option Value → Type 0
GivesNumber P option = (scalar : Scalar) × (option ≡ Some (value.Scalar scalar)) × P scalar

as_value : (P : Scalar → Type 0) (option : Option Scalar) → Gives P option
    → GivesNumber P (option_map value.Scalar option)
as_value P option a = (a.0, ap (option_map value.Scalar) a.1, a.2)

-- so a number expression gives a value that is such a scalar
number_gives : (P : Scalar → Type 0) (inputs : Inputs) → Holds P inputs → (expression : Expression)
    → IsNumber (types_of inputs) expression → GivesNumber P (value_of inputs expression)
number_gives P inputs holds (read name) typed =
    let found = scalar_named inputs name typed in
    (found.0, found.1, holds.scalars name found.0 found.1)
number_gives P inputs holds (literal number) typed =
    as_value P _ (scalar_gives P inputs holds (literal number) typed)
number_gives P inputs holds (unary op inner) typed =
    as_value P _ (scalar_gives P inputs holds (unary op inner) typed)
number_gives P inputs holds (binary op first second) typed =
    as_value P _ (scalar_gives P inputs holds (binary op first second) typed)
number_gives P inputs holds (choice test first second met other) typed =
    as_value P _ (scalar_gives P inputs holds (choice test first second met other) typed)
number_gives P inputs holds (sum name) typed =
    as_value P _ (scalar_gives P inputs holds (sum name) typed)
number_gives P inputs holds (count name) typed =
    as_value P _ (scalar_gives P inputs holds (count name) typed)
number_gives P inputs holds (most name first) typed =
    as_value P _ (scalar_gives P inputs holds (most name first) typed)
number_gives P inputs holds (least name first) typed =
    as_value P _ (scalar_gives P inputs holds (least name first) typed)
number_gives P inputs holds (entry name key other) typed =
    as_value P _ (scalar_gives P inputs holds (entry name key other) typed)
number_gives P inputs holds (rec parts) typed = absurd typed
number_gives P inputs holds (part name place) typed =
    as_value P _ (scalar_gives P inputs holds (part name place) typed)

-- the name of a table gives a table
table_gives : (inputs : Inputs) (expression : Expression) → IsTableName (types_of inputs) expression
    → (name : Var) × (entries : List (List ℕ × Scalar))
    × (value_named inputs name ≡ Some (value.Table entries))
    × (value_of inputs expression ≡ Some (value.Table entries))
table_gives inputs (read name) typed =
    let table = table_there inputs name typed in (name, table.0, table.1, table.1)
table_gives inputs _ typed = absurd typed

-- of every scalar nothing is said
nothing_holds : (inputs : Inputs) → Holds (λ scalar. Unit {0}) inputs
nothing_holds inputs = record {
  literals = λ number fits. tt;
  results = λ number. tt;
  overflow = tt;
  divzero = tt;
  scalars = λ name scalar there. tt;
  entries = λ name entries key scalar there found. tt;
  parts = λ name parts i scalar there found. tt;
}

-- a well-typed record gives as many scalars
record_gives : (inputs : Inputs) (size : ℕ) (expression : Expression)
    → IsRecordOf (types_of inputs) size expression → (scalars : List Scalar)
    × (value_of inputs expression ≡ Some (value.Rec scalars)) × (length scalars ≡ size)
record_gives inputs size (read name) typed = record_there inputs name size typed
record_gives inputs size (rec parts) typed =
    let given = scalars_give (λ scalar. Unit {0}) inputs (nothing_holds inputs) parts typed.2 in
    (given.0, ap (option_map value.Rec) given.1, given.2 ∙ typed.0)
record_gives inputs size _ typed = absurd typed

-- a well-typed expression gives a value of its type
pub typed_value : (inputs : Inputs) (expression : Expression) (type : ValueType)
    → HasType (types_of inputs) expression type
    → (found : Value) × (value_of inputs expression ≡ Some found) × (type_of found ≡ type)
typed_value inputs expression type.Number typed =
    let found = number_gives (λ scalar. Unit {0}) inputs (nothing_holds inputs) expression typed in
    (value.Scalar found.0, found.1, refl)
typed_value inputs expression (type.Rec size) typed =
    let found = record_gives inputs size expression typed in
    (value.Rec found.0, found.1, ap type.Rec found.2)
typed_value inputs expression type.Table typed =
    let found = table_gives inputs expression typed in (value.Table found.1, found.3, refl)

-- a number that is kept is one of 64 bits
in_range_fits : (number : ℤ) → IsScalar (in_range number)
in_range_fits (pos n) =
    elim (nat_lt n
    (2 ^ 63)) as (λ b. nat_lt n (2 ^ 63) ≡ b → IsScalar (cond b (Number (pos n)) Overflow))
    [ true ↦ λ below. grind (arith, nat_tests, below) | false ↦ λ above. tt ] refl
in_range_fits (negsuc n) =
    elim (nat_lt n
    (2 ^ 63)) as (λ b. nat_lt n (2 ^ 63) ≡ b → IsScalar (cond b (Number (negsuc n)) Overflow))
    [ true ↦ λ below. grind (arith, nat_tests, below) | false ↦ λ above. tt ] refl

-- a scalar under a key is one of a table's
entry_or_rest : (is_first : Bool) (first : Scalar) (rest : Option Scalar) (scalar : Scalar)
    → IsScalar first → (rest ≡ Some scalar → IsScalar scalar)
    → cond is_first (Some first) rest ≡ Some scalar → IsScalar scalar
entry_or_rest true first rest scalar fits others found =
    subst IsScalar (same_inside first scalar found) fits
entry_or_rest false first rest scalar fits others found = others found

entry_fits : (key : List ℕ) (entries : List (List ℕ × Scalar)) (scalar : Scalar)
    → All IsScalar (values_of entries) → value_at key entries ≡ Some scalar → IsScalar scalar
entry_fits key [] scalar all found = cc
entry_fits key (first ∷ entries) scalar all found =
    entry_or_rest (bytes_eq first.0 key) first.1 (value_at key entries) scalar
    (All-head IsScalar first.1 (values_of entries) all)
    (entry_fits key entries scalar (All-tail IsScalar first.1 (values_of entries) all)) found

-- numbers are in range where what names stand for is
ranges_hold : (inputs : Inputs) → AreValues inputs → Holds IsScalar inputs
ranges_hold inputs values = record {
  literals = λ number fits. fits;
  results = in_range_fits;
  overflow = tt;
  divzero = tt;
  scalars = λ name scalar there. values name (value.Scalar scalar) there;
  entries = λ name entries key scalar there found.
      let table : IsTable entries = values name (value.Table entries) there in
      entry_fits key entries scalar table.scalars found;
  parts = λ name parts i scalar there found.
      let parts_fit : IsRecord (length parts) parts = values name (value.Rec parts) there in
      subst IsScalar (get_or_from_slice_get parts i scalar scalar found)
      (parts_fit.scalars i scalar (slice_get_within parts i scalar found));
}

-- so is each part of a well-typed record
record_range : (inputs : Inputs) (size : ℕ) (expression : Expression) (found : Value)
    → AreValues inputs → IsRecordOf (types_of inputs) size expression
    → value_of inputs expression ≡ Some found → IsValueOf (type.Rec size) found
record_range inputs size (read name) found values typed there =
    let given = record_there inputs name size typed in
    subst (IsValueOf (type.Rec size)) (same_inside (value.Rec given.0) found (sym given.1 ∙ there))
    (subst (λ (n : ℕ). IsRecord n given.0) given.2 (values name (value.Rec given.0) given.1))
record_range inputs size (rec parts) found values typed there =
    let given = scalars_give IsScalar inputs (ranges_hold inputs values) parts typed.2 in
    let is : value_of inputs (rec parts) ≡ Some (value.Rec given.0) =
    ap (option_map value.Rec) given.1 in
    subst (IsValueOf (type.Rec size))
    (same_inside (value.Rec given.0) found (sym is ∙ there)) (record {
      count = given.2 ∙ typed.0;
      few = typed.1;
      scalars = All-from_recursion IsScalar given.0 given.3;
    })
record_range inputs size _ found values typed there = absurd typed

-- and so is the value of a well-typed expression
pub typed_range : (inputs : Inputs) (expression : Expression) (type : ValueType) (found : Value)
    → AreValues inputs → HasType (types_of inputs) expression type
    → value_of inputs expression ≡ Some found → IsValueOf type found
typed_range inputs expression type.Number found values typed there =
    let given = number_gives IsScalar inputs (ranges_hold inputs values) expression typed in
    subst (IsValueOf type.Number) (same_inside _ _ (sym given.1 ∙ there)) given.2
typed_range inputs expression (type.Rec size) found values typed there =
    record_range inputs size expression found values typed there
typed_range inputs expression type.Table found values typed there =
    let given = table_gives inputs expression typed in
    subst (IsValueOf type.Table) (same_inside _ _ (sym given.3 ∙ there))
    (values given.0 (value.Table given.1) given.2)
