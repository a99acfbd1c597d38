-- An expression whose numbers have 64 bits and that passes the test of types is well typed.
use Rattle.std.proofs.Common.{◌≡◌, ℕ, nat_le, Bool, true, false, ◌&&◌, ◌||◌, Option, Some, None}
use Rattle.std.proofs.Common.{refl, sym, ap}
use Rattle.std.proofs.lemmas.Bool.{and_parts, eqb-true, leb-true}
use Rattle.expressions.specs.Expressions.{Expression, literal, read, unary, binary, choice, sum}
use Rattle.expressions.specs.Expressions.{count, most, least, entry, rec, part, Expressions, none}
use Rattle.expressions.specs.Expressions.{more, count_of}
use Rattle.expressions.specs.Typing.{AreNumbers, HasPart, HasType, IsNumber, Types, type_named}
use Rattle.value_ops.specs.declared.value.ValueType.{ValueType}
use Rattle.value_ops.specs.declared.value.ValueType.TheVariants.{Number, Rec, Table}
use Rattle.query_model.specs.QueryTypes.{type_or_number}
use Rattle.query_model.specs.Rules.{IsTyped}
use Rattle.query_resolver.specs.Expressions.{are_numbers, has_part, is_number, is_of, is_record}
use Rattle.query_resolver.specs.Expressions.{is_record_type, is_typed}
use Rattle.query_resolver.specs.Scopes.{HasFittingNumbers, HaveFittingNumbers}

-- what passes the test of a type has it
has_passed : (wanted : ValueType) (found : Option ValueType) → is_of wanted found ≡ true
    → found ≡ Some wanted
has_passed Number (Some Number) is = refl
has_passed (Rec size) (Some (Rec other)) is =
    ap (λ (n : ℕ). Some (Rec n)) (sym (eqb-true size other is))
has_passed Table (Some Table) is = refl
has_passed _ _ is = cc

part_passed : (place : ℕ) (found : Option ValueType) → has_part place found ≡ true
    → HasPart found place
part_passed place (Some (Rec size)) is =
    let both = and_parts (nat_le 1 place) (nat_le place size) is in
    (leb-true 1 place both.0, leb-true place size both.1)
part_passed place _ is = cc

-- one of two tests is passed where the other never is
alone : (a : Bool) → (a || false) ≡ true → a ≡ true
alone true is = refl
alone false is = is

-- a name that passes has the type that it is found to have
named_passed : (found : Option ValueType)
    → (is_of Number found || (is_record_type found || is_of Table found)) ≡ true
    → found ≡ Some (type_or_number found)
named_passed None is = cc
named_passed (Some Number) is = refl
named_passed (Some (Rec size)) is = refl
named_passed (Some Table) is = refl

module _ (types : Types) where
  mutual
    pub number_passed : (e : Expression) → HasFittingNumbers e → is_number types e ≡ true
        → IsNumber types e
    number_passed (literal number) fits is = fits
    number_passed (read name) fits is = has_passed Number (type_named types name) is
    number_passed (unary op inner) fits is = number_passed inner fits is
    number_passed (binary op left right) fits is =
        let both = and_parts (is_number types left) (is_number types right) is in
        (number_passed left fits.0 both.0, number_passed right fits.1 both.1)
    number_passed (choice compare left right met other) fits is =
        let all = and_parts (is_number types left && is_number types right)
        (is_number types met && is_number types other) is in
        let compared = and_parts (is_number types left) (is_number types right) all.0 in
        let chosen = and_parts (is_number types met) (is_number types other) all.1 in (
          number_passed left fits.0 compared.0,
          number_passed right fits.1 compared.1,
          number_passed met fits.2 chosen.0,
          number_passed other fits.3 chosen.1,
        )
    number_passed (sum table) fits is = has_passed Table (type_named types table) is
    number_passed (count table) fits is = has_passed Table (type_named types table) is
    number_passed (most table first) fits is =
        let both = and_parts (is_of Table (type_named types table)) (is_number types first) is in
        (has_passed Table (type_named types table) both.0, number_passed first fits both.1)
    number_passed (least table first) fits is =
        let both = and_parts (is_of Table (type_named types table)) (is_number types first) is in
        (has_passed Table (type_named types table) both.0, number_passed first fits both.1)
    number_passed (entry table key other) fits is =
        let both = and_parts (is_of Table (type_named types table)) (is_number types other) is in
        (has_passed Table (type_named types table) both.0, number_passed other fits both.1)
    number_passed (rec parts) fits is = cc
    number_passed (part given place) fits is = part_passed place (type_named types given) is

    numbers_passed : (parts : Expressions) → HaveFittingNumbers parts
        → are_numbers types parts ≡ true → AreNumbers types parts
    numbers_passed none fits is = tt
    numbers_passed (more first others) fits is =
        let both = and_parts (is_number types first) (are_numbers types others) is in
        (number_passed first fits.0 both.0, numbers_passed others fits.1 both.1)

  -- a name has what type it is found to have
  named_typed : (name : _) (type : ValueType) → type_named types name ≡ Some type
      → HasType types (read name) type
  named_typed name Number is = is
  named_typed name (Rec size) is = is
  named_typed name Table is = is

  record_passed : (parts : Expressions) → HaveFittingNumbers parts
      → is_record types (rec parts) ≡ true → IsTyped types (rec parts)
  record_passed parts fits is =
      let both = and_parts (nat_le 2 (count_of parts) && nat_le (count_of parts) 8)
      (are_numbers types parts) is in
      let few = and_parts (nat_le 2 (count_of parts)) (nat_le (count_of parts) 8) both.0 in (
        refl,
        (leb-true 2 (count_of parts) few.0, leb-true (count_of parts) 8 few.1),
        numbers_passed parts fits both.1,
      )

  pub typed_passed : (e : Expression) → HasFittingNumbers e → is_typed types e ≡ true
      → IsTyped types e
  typed_passed (read name) fits is =
      named_typed name (type_or_number (type_named types name))
      (named_passed (type_named types name) is)
  typed_passed (literal number) fits is = fits
  typed_passed (unary op inner) fits is = number_passed (unary op inner) fits (alone _ is)
  typed_passed (binary op left right) fits is =
      number_passed (binary op left right) fits (alone _ is)
  typed_passed (choice compare left right met other) fits is =
      number_passed (choice compare left right met other) fits (alone _ is)
  typed_passed (sum table) fits is = number_passed (sum table) fits (alone _ is)
  typed_passed (count table) fits is = number_passed (count table) fits (alone _ is)
  typed_passed (most table first) fits is = number_passed (most table first) fits (alone _ is)
  typed_passed (least table first) fits is = number_passed (least table first) fits (alone _ is)
  typed_passed (entry table key other) fits is =
      number_passed (entry table key other) fits (alone _ is)
  typed_passed (rec parts) fits is = record_passed parts fits (alone _ is)
  typed_passed (part given place) fits is = number_passed (part given place) fits (alone _ is)
