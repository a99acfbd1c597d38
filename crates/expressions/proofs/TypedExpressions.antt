-- Well-typed expressions of numbers give scalars, of which it holds what holds of all that
-- they are made of.
use Rattle.std.proofs.Common.{◌≡◌, ◌-◌, ℕ, ℤ, pos, Bool, true, false, cond, List, [], ◌∷◌, length}
use Rattle.std.proofs.Common.{get_or, Option, None, Some, refl, ◌∙◌, ap, arith}
use Rattle.std.specs.Prelude.{FitsSigned, fold}
use Rattle.std.specs.Int.{w64}
use Rattle.std.specs.List.{AllByRecursion, slice_get}
use Rattle.std.specs.Option.{option_map, option_and_then}
use Rattle.std.proofs.lemmas.Option.{slice_get-get_or}
use Rattle.expressions.specs.declared.expr.Var.{Var}
use Rattle.language_base.specs.declared.binary.BinaryOp.{BinaryOp}
use Rattle.language_base.specs.declared.binary.BinaryOp.TheVariants.{Add, Min, Max}
use Rattle.language_base.specs.declared.compare.Compare.{Compare}
use Rattle.language_base.specs.declared.unary.UnaryOp.{UnaryOp}
use Rattle.value_ops.specs.declared.scalar.Scalar.{Scalar}
use Rattle.value_ops.specs.declared.scalar.Scalar.TheVariants.{Number, Overflow, DivZero}
use Rattle.value_ops.specs.declared.value.Value.TheVariants as value
use Rattle.value_ops.specs.Entries.{value_at, values_of}
use Rattle.expressions.specs.Evaluation.{Inputs, value_named, scalar_in, record_in, table_in}
use Rattle.expressions.specs.Evaluation.{part_at}
use Rattle.expressions.specs.Evaluation.{chosen, or_else, scalar_of, scalars_of, most_of, least_of}
use Rattle.expressions.specs.Evaluation.{sum_of}
use Rattle.expressions.specs.Expressions.{Expression, literal, read, unary, binary, choice, sum}
use Rattle.expressions.specs.Expressions.{count, most, least, entry, rec, part, Expressions, none}
use Rattle.expressions.specs.Expressions.{more, count_of}
use Rattle.language_base.specs.Comparisons.{compares}
use Rattle.value_ops.specs.Operators.{unary_of, binary_of, exact, exact_of, kept}
use Rattle.value_ops.specs.Scalar.{in_range}
use Rattle.expressions.specs.Typing.{AreNumbers, IsNumber, types_of}
use Rattle.expressions.proofs.TypedNames.{part_there, scalar_named, table_there}

-- what holds of literals, of computed scalars, and of what names stand for
pub record Holds (P : Scalar → Type 0) (inputs : Inputs) : Type 0 where
  pub literals : (number : ℤ) → FitsSigned w64 number → P (Number number)
  pub results : (number : ℤ) → P (in_range number)
  pub overflow : P Overflow
  pub divzero : P DivZero
  pub scalars : (name : Var) (scalar : Scalar)
      → value_named inputs name ≡ Some (value.Scalar scalar) → P scalar
  pub entries : (name : Var) (entries : List (List ℕ × Scalar)) (key : List ℕ) (scalar : Scalar)
      → value_named inputs name ≡ Some (value.Table entries)
      → value_at key entries ≡ Some scalar → P scalar
  pub parts : (name : Var) (parts : List Scalar) (i : ℕ) (scalar : Scalar)
      → value_named inputs name ≡ Some (value.Rec parts)
      → slice_get parts i ≡ Some scalar → P scalar

-- a scalar that is there, and of which it holds
abbrev pub Gives : (Scalar → Type 0) → Option Scalar → Type 0
Gives P option = (scalar : Scalar) × (option ≡ Some scalar) × P scalar

kept_holds : {P : Scalar → Type 0} {inputs : Inputs} → Holds P inputs → (result : Option ℤ)
    → P (kept result)
kept_holds holds None = holds.divzero
kept_holds holds (Some number) = holds.results number

binary_holds : {P : Scalar → Type 0} {inputs : Inputs} → Holds P inputs
    → (op : BinaryOp) (a b : Scalar) → P (binary_of op a b)
binary_holds holds op (Number x) (Number y) = kept_holds holds (exact op x y)
binary_holds holds op (Number x) Overflow = holds.overflow
binary_holds holds op (Number x) DivZero = holds.divzero
binary_holds holds op Overflow b = holds.overflow
binary_holds holds op DivZero b = holds.divzero

unary_holds : {P : Scalar → Type 0} {inputs : Inputs} → Holds P inputs → (op : UnaryOp) (a : Scalar)
    → P (unary_of op a)
unary_holds holds op (Number x) = holds.results (exact_of op x)
unary_holds holds op Overflow = holds.overflow
unary_holds holds op DivZero = holds.divzero

fold_holds : {P : Scalar → Type 0} {inputs : Inputs} → Holds P inputs
    → (op : BinaryOp) (first : Scalar) (scalars : List Scalar) → P first
    → P (fold (binary_of op) first scalars)
fold_holds holds op first [] begins = begins
fold_holds holds op first (x ∷ xs) begins =
    fold_holds holds op (binary_of op first x) xs (binary_holds holds op first x)

picked : (P : Scalar → Type 0) (test : Bool) (met other : Option Scalar)
    → Gives P met → Gives P other → Gives P (cond test met other)
picked P true met other a b = a
picked P false met other a b = b

chosen_gives : (P : Scalar → Type 0) {inputs : Inputs} → Holds P inputs
    → (test : Compare) (first second : Scalar) (met other : Option Scalar) → Gives P met
    → Gives P other → Gives P (chosen test first second met other)
chosen_gives P holds test (Number x) (Number y) met other a b =
    picked P (compares test x y) met other a b
chosen_gives P holds test (Number x) Overflow met other a b = (Overflow, refl, holds.overflow)
chosen_gives P holds test (Number x) DivZero met other a b = (DivZero, refl, holds.divzero)
chosen_gives P holds test Overflow second met other a b = (Overflow, refl, holds.overflow)
chosen_gives P holds test DivZero second met other a b = (DivZero, refl, holds.divzero)

entry_gives : (P : Scalar → Type 0) (at other : Option Scalar)
    → ((scalar : Scalar) → at ≡ Some scalar → P scalar) → Gives P other → Gives P (or_else at other)
entry_gives P (Some found) other each b = (found, refl, each found refl)
entry_gives P None other each b = b

-- a number expression gives a scalar of which it holds
pub scalar_gives : (P : Scalar → Type 0) (inputs : Inputs) → Holds P inputs
    → (expression : Expression) → IsNumber (types_of inputs) expression
    → Gives P (scalar_of inputs expression)
scalar_gives P inputs holds (literal number) typed =
    (Number number, refl, holds.literals number typed)
scalar_gives P inputs holds (read name) typed =
    let found = scalar_named inputs name typed in
    (found.0, ap scalar_in found.1, holds.scalars name found.0 found.1)
scalar_gives P inputs holds (unary op inner) typed =
    let a = scalar_gives P inputs holds inner typed in
    (unary_of op a.0, ap (option_map (unary_of op)) a.1, unary_holds holds op a.0)
scalar_gives P inputs holds (binary op first second) typed =
    let a = scalar_gives P inputs holds first typed.0 in
    let b = scalar_gives P inputs holds second typed.1 in
    (binary_of op a.0 b.0, rw (a.1, b.1) refl, binary_holds holds op a.0 b.0)
scalar_gives P inputs holds (choice test first second met other) typed =
    let a = scalar_gives P inputs holds first typed.0 in
    let b = scalar_gives P inputs holds second typed.1 in
    rw (a.1, b.1) (chosen_gives P holds test a.0 b.0 (scalar_of inputs met) (scalar_of inputs other)
    (scalar_gives P inputs holds met typed.2) (scalar_gives P inputs holds other typed.3))
scalar_gives P inputs holds (sum name) typed =
    let table = table_there inputs name typed in (
      sum_of table.0,
      ap (λ found. option_map sum_of (table_in found)) table.1,
      fold_holds holds Add (Number (pos 0)) (values_of table.0) (holds.results (pos 0)),
    )
scalar_gives P inputs holds (count name) typed =
    let table = table_there inputs name typed in (
      in_range (pos (length table.0)),
      ap (λ found. option_map (λ entries. in_range (pos (length entries))) (table_in found))
          table.1,
      holds.results (pos (length table.0)),
    )
scalar_gives P inputs holds (most name first) typed =
    let a = scalar_gives P inputs holds first typed.1 in
    let table = table_there inputs name typed.0 in
    (most_of a.0 table.0, rw (a.1, table.1) refl, fold_holds holds Max a.0 (values_of table.0) a.2)
scalar_gives P inputs holds (least name first) typed =
    let a = scalar_gives P inputs holds first typed.1 in
    let table = table_there inputs name typed.0 in
    (least_of a.0 table.0, rw (a.1, table.1) refl, fold_holds holds Min a.0 (values_of table.0) a.2)
scalar_gives P inputs holds (entry name key other) typed =
    let table = table_there inputs name typed.0 in
    rw table.1 (entry_gives P (value_at key table.0) (scalar_of inputs other)
    (λ scalar there. holds.entries name table.0 key scalar table.1 there)
    (scalar_gives P inputs holds other typed.1))
scalar_gives P inputs holds (rec parts) typed = absurd typed
scalar_gives P inputs holds (part name place) typed =
    let found = part_there inputs name place typed in
    let scalar = get_or found.0 (place - 1) DivZero in
    let there : slice_get found.0 (place - 1) ≡ Some scalar =
    slice_get-get_or found.0 (place - 1) DivZero (omega (arith, found.2, found.3)) in (
      scalar,
      ap (λ value. option_and_then (part_at place) (record_in value)) found.1 ∙ there,
      holds.parts name found.0 (place - 1) scalar found.1 there,
    )

-- number expressions give as many scalars, and it holds of each
pub scalars_give : (P : Scalar → Type 0) (inputs : Inputs) → Holds P inputs → (parts : Expressions)
    → AreNumbers (types_of inputs) parts
    → (scalars : List Scalar) × (scalars_of inputs parts ≡ Some scalars)
    × (length scalars ≡ count_of parts) × AllByRecursion P scalars
scalars_give P inputs holds none typed = ([], refl, refl, tt)
scalars_give P inputs holds (more first rest) typed =
    let a = scalar_gives P inputs holds first typed.0 in
    let b = scalars_give P inputs holds rest typed.1 in
    (a.0 ∷ b.0, rw (a.1, b.1) refl, omega (arith, b.2), (a.2, b.3))
