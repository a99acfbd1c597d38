-- Well-typed expressions pass the tests of types.
use Rattle.std.proofs.Common.{◌≡◌, ◌≤◌, ℕ, nat_le, Bool, true, false, ◌&&◌, ◌||◌, Option, Some}
use Rattle.std.proofs.Common.{refl, arith}
use Rattle.std.proofs.lemmas.Bool.{and_from, eq-eqb, le-leb}
use Rattle.expressions.specs.Expressions.{Expression, literal, read, unary, binary, choice, sum}
use Rattle.expressions.specs.Expressions.{count, most, least, entry, rec, part, Expressions, none}
use Rattle.expressions.specs.Expressions.{more, count_of}
use Rattle.expressions.specs.Typing.{AreNumbers, HasPart, HasType, IsNumber, Types, type_named}
use Rattle.value_ops.specs.declared.value.ValueType.{ValueType}
use Rattle.value_ops.specs.declared.value.ValueType.TheVariants.{Number, Rec, Table}
use Rattle.query_resolver.specs.Expressions.{are_numbers, has_part, is_number, is_of, is_record}
use Rattle.query_resolver.specs.Expressions.{is_record_type, is_table, is_typed}

-- a test of which one part passes
either_left : (a b : Bool) → a ≡ true → (a || b) ≡ true
either_left true b is = refl
either_left false b is = absurd (cc)

either_right : (a b : Bool) → b ≡ true → (a || b) ≡ true
either_right true b is = refl
either_right false b is = is

-- what has the type passes the test of it
named_type : (wanted : ValueType) (found : Option ValueType) → found ≡ Some wanted
    → is_of wanted found ≡ true
named_type Number found is = rw is refl
named_type (Rec size) found is = rw is (eq-eqb size size refl)
named_type Table found is = rw is refl

named_record : (size : ℕ) (found : Option ValueType) → found ≡ Some (Rec size)
    → is_record_type found ≡ true
named_record size found is = rw is refl

part_passes : (place : ℕ) (found : Option ValueType) → HasPart found place
    → has_part place found ≡ true
part_passes place (Some (Rec size)) is =
    and_from (nat_le 1 place) (nat_le place size) (le-leb 1 place is.0) (le-leb place size is.1)
part_passes place _ is = absurd is

module _ (types : Types) where
  pub number_passes : (x : Expression) → IsNumber types x → is_number types x ≡ true
  number_passes (literal number) is = refl
  number_passes (read name) is = named_type Number (type_named types name) is
  number_passes (unary op inner) is = number_passes inner is
  number_passes (binary op left right) is =
      and_from (is_number types left) (is_number types right) (number_passes left is.0)
      (number_passes right is.1)
  number_passes (choice test left right met other) is =
      and_from (is_number types left && is_number types right)
      (is_number types met && is_number types other)
      (and_from (is_number types left) (is_number types right) (number_passes left is.0)
      (number_passes right is.1))
      (and_from (is_number types met) (is_number types other) (number_passes met is.2)
      (number_passes other is.3))
  number_passes (sum name) is = named_type Table (type_named types name) is
  number_passes (count name) is = named_type Table (type_named types name) is
  number_passes (most name first) is =
      and_from (is_of Table (type_named types name)) (is_number types first)
      (named_type Table (type_named types name) is.0) (number_passes first is.1)
  number_passes (least name first) is =
      and_from (is_of Table (type_named types name)) (is_number types first)
      (named_type Table (type_named types name) is.0) (number_passes first is.1)
  number_passes (entry name key other) is =
      and_from (is_of Table (type_named types name)) (is_number types other)
      (named_type Table (type_named types name) is.0) (number_passes other is.1)
  number_passes (rec parts) is = absurd is
  number_passes (part name place) is = part_passes place (type_named types name) is

  numbers_pass : (x : Expressions) → AreNumbers types x → are_numbers types x ≡ true
  numbers_pass none are = refl
  numbers_pass (more first others) are =
      and_from (is_number types first) (are_numbers types others) (number_passes first are.0)
      (numbers_pass others are.1)

  -- a record passes as a record
  as_record : (x : Expression) → is_record types x ≡ true → is_typed types x ≡ true
  as_record x is =
      either_right (is_number types x) (is_record types x || is_table types x)
      (either_left (is_record types x) (is_table types x) is)

  -- and a table as a table
  as_table : (x : Expression) → is_table types x ≡ true → is_typed types x ≡ true
  as_table x is =
      either_right (is_number types x) (is_record types x || is_table types x)
      (either_right (is_record types x) (is_table types x) is)

  pub typed_passes : (x : Expression) (ty : ValueType) → HasType types x ty
      → is_typed types x ≡ true
  typed_passes x Number is =
      either_left (is_number types x) (is_record types x || is_table types x) (number_passes x is)
  typed_passes (read name) (Rec size) is =
      as_record (read name) (named_record size (type_named types name) is)
  typed_passes (rec parts) (Rec size) is =
      as_record (rec parts) (record_passes is.0 is.1.0 is.1.1 is.2)
    where
      record_passes : count_of parts ≡ size → 2 ≤ size → size ≤ 8 → AreNumbers types parts
          → is_record types (rec parts) ≡ true
      record_passes many low high all =
          and_from (nat_le 2 (count_of parts) && nat_le (count_of parts) 8)
          (are_numbers types parts)
          (and_from (nat_le 2 (count_of parts)) (nat_le (count_of parts) 8)
          (le-leb 2 (count_of parts) (omega (arith, many, low)))
          (le-leb (count_of parts) 8 (omega (arith, many, high))))
          (numbers_pass parts all)
  typed_passes _ (Rec size) is = absurd is
  typed_passes (read name) Table is =
      as_table (read name) (named_type Table (type_named types name) is)
  typed_passes _ Table is = absurd is
