-- The tests of types decide the relation of an expression to its type, where its numbers
-- are of 64 bits.
use Rattle.std.proofs.Common.{◌≡◌, ℕ, nat_le, Bool, true, false, ◌&&◌, ◌||◌, Option, Some, None}
use Rattle.std.proofs.Common.{refl, sym, ap, subst, arith, ◌↔◌}
use Rattle.std.proofs.lemmas.Bool.{and_from, and_parts, eq-eqb, eqb-true, le-leb, leb-true}
use Rattle.expressions.specs.Expressions.{Expression, literal, read, unary, binary, choice, sum}
use Rattle.expressions.specs.Expressions.{count, most, least, entry, rec, part, Expressions, none}
use Rattle.expressions.specs.Expressions.{more, count_of}
use Rattle.expressions.specs.Typing.{AreNumbers, HasPart, HasType, IsNumber, Types, type_named}
use Rattle.value_ops.specs.declared.value.ValueType.{ValueType}
use Rattle.value_ops.specs.declared.value.ValueType.TheVariants.{Number, Rec, Table}
use Rattle.query_model.specs.QueryTypes.{type_or_number, type_of_expression}
use Rattle.query_model.specs.Rules.{IsTyped}
use Rattle.query_resolver.specs.Expressions.{are_numbers, has_part, is_number, is_of, is_record}
use Rattle.query_resolver.specs.Expressions.{is_record_type, is_table, is_typed}
use Rattle.query_resolver.specs.Scopes.{HasFittingNumbers, HaveFittingNumbers}

-- a name of the type
named_so : (wanted : ValueType) (found : Option ValueType) → is_of wanted found ≡ true
    → found ≡ Some wanted
named_so Number (Some Number) is = refl
named_so (Rec size) (Some (Rec other)) is =
    ap (λ (n : ℕ). Some (Rec n)) (sym (eqb-true size other is))
named_so Table (Some Table) is = refl
named_so _ _ is = cc

so_named : (wanted : ValueType) (found : Option ValueType) → found ≡ Some wanted
    → is_of wanted found ≡ true
so_named Number found is = rw is refl
so_named (Rec size) found is = rw is (eq-eqb size size refl)
so_named Table found is = rw is refl

-- a part of the record that is found
part_so : (place : ℕ) (found : Option ValueType) → has_part place found ≡ true → HasPart found place
part_so place (Some (Rec size)) is =
    let both = and_parts (nat_le 1 place) (nat_le place size) is in
    (leb-true 1 place both.0, leb-true place size both.1)
part_so place _ is = cc

so_part : (place : ℕ) (found : Option ValueType) → HasPart found place → has_part place found ≡ true
so_part place (Some (Rec size)) is =
    and_from (nat_le 1 place) (nat_le place size) (le-leb 1 place is.0) (le-leb place size is.1)
so_part place _ is = absurd is

-- what the test of a number says
pub number_is : (types : Types) (e : Expression) → HasFittingNumbers e → is_number types e ≡ true
    → IsNumber types e
number_is types (literal number) fits is = fits
number_is types (read name) fits is = named_so Number (type_named types name) is
number_is types (unary operator inner) fits is = number_is types inner fits is
number_is types (binary operator left right) fits is =
    let both = and_parts (is_number types left) (is_number types right) is in
    (number_is types left fits.0 both.0, number_is types right fits.1 both.1)
number_is types (choice compare left right met other) fits is =
    let all = and_parts (is_number types left && is_number types right)
    (is_number types met && is_number types other) is in
    let compared = and_parts (is_number types left) (is_number types right) all.0 in
    let chosen = and_parts (is_number types met) (is_number types other) all.1 in (
      number_is types left fits.0 compared.0,
      number_is types right fits.1 compared.1,
      number_is types met fits.2 chosen.0,
      number_is types other fits.3 chosen.1,
    )
number_is types (sum table) fits is = named_so Table (type_named types table) is
number_is types (count table) fits is = named_so Table (type_named types table) is
number_is types (most table first) fits is =
    let both = and_parts (is_of Table (type_named types table)) (is_number types first) is in
    (named_so Table (type_named types table) both.0, number_is types first fits both.1)
number_is types (least table first) fits is =
    let both = and_parts (is_of Table (type_named types table)) (is_number types first) is in
    (named_so Table (type_named types table) both.0, number_is types first fits both.1)
number_is types (entry table key other) fits is =
    let both = and_parts (is_of Table (type_named types table)) (is_number types other) is in
    (named_so Table (type_named types table) both.0, number_is types other fits both.1)
number_is types (rec parts) fits is = cc
number_is types (part given place) fits is = part_so place (type_named types given) is

pub is_number_true : (types : Types) (e : Expression) → IsNumber types e → is_number types e ≡ true
is_number_true types (literal number) is = refl
is_number_true types (read name) is = so_named Number (type_named types name) is
is_number_true types (unary operator inner) is = is_number_true types inner is
is_number_true types (binary operator left right) is =
    and_from (is_number types left) (is_number types right) (is_number_true types left is.0)
    (is_number_true types right is.1)
is_number_true types (choice compare left right met other) is =
    and_from (is_number types left && is_number types right)
    (is_number types met && is_number types other)
    (and_from (is_number types left) (is_number types right) (is_number_true types left is.0)
    (is_number_true types right is.1))
    (and_from (is_number types met) (is_number types other) (is_number_true types met is.2)
    (is_number_true types other is.3))
is_number_true types (sum table) is = so_named Table (type_named types table) is
is_number_true types (count table) is = so_named Table (type_named types table) is
is_number_true types (most table first) is =
    and_from (is_of Table (type_named types table)) (is_number types first)
    (so_named Table (type_named types table) is.0) (is_number_true types first is.1)
is_number_true types (least table first) is =
    and_from (is_of Table (type_named types table)) (is_number types first)
    (so_named Table (type_named types table) is.0) (is_number_true types first is.1)
is_number_true types (entry table key other) is =
    and_from (is_of Table (type_named types table)) (is_number types other)
    (so_named Table (type_named types table) is.0) (is_number_true types other is.1)
is_number_true types (rec parts) is = absurd is
is_number_true types (part given place) is = so_part place (type_named types given) is

-- and what that of several says
numbers_are : (types : Types) (parts : Expressions) → HaveFittingNumbers parts
    → are_numbers types parts ≡ true → AreNumbers types parts
numbers_are types none fits is = tt
numbers_are types (more first others) fits is =
    let both = and_parts (is_number types first) (are_numbers types others) is in
    (number_is types first fits.0 both.0, numbers_are types others fits.1 both.1)

are_numbers_true : (types : Types) (parts : Expressions) → AreNumbers types parts
    → are_numbers types parts ≡ true
are_numbers_true types none is = refl
are_numbers_true types (more first others) is =
    and_from (is_number types first) (are_numbers types others) (is_number_true types first is.0)
    (are_numbers_true types others is.1)

-- an expression whose numbers are of 64 bits is a number exactly where the test says so
pub number_decided : (types : Types) (e : Expression) → HasFittingNumbers e
    → (is_number types e ≡ true) ↔ IsNumber types e
number_decided types e fits = (number_is types e fits, is_number_true types e)

-- of either, and not the other
either_or : (a b : Bool) (A : Type 0) → (a || b) ≡ true → (a ≡ true → A) → (b ≡ true → A) → A
either_or true b A is left right = left refl
either_or false b A is left right = right is

or_none : (a : Bool) → (a || false) ≡ true → a ≡ true
or_none true is = refl
or_none false is = is

or_left : (a b : Bool) → a ≡ true → (a || b) ≡ true
or_left true b is = refl
or_left false b is = cc

or_right : (a b : Bool) → b ≡ true → (a || b) ≡ true
or_right true b is = refl
or_right false b is = is

-- a name that is well typed has the type that it gives
name_typed : (types : Types) (found : Option ValueType)
    → (is_of Number found || (is_record_type found || is_of Table found)) ≡ true
    → found ≡ Some (type_or_number found)
name_typed types None is = cc
name_typed types (Some Number) is = refl
name_typed types (Some (Rec size)) is = refl
name_typed types (Some Table) is = refl

-- what the relation says of a name
has_named : (types : Types) (e : Expression) (name : _) (type : ValueType)
    → type_named types name ≡ Some type → HasType types (read name) type
has_named types e name Number is = is
has_named types e name (Rec size) is = is
has_named types e name Table is = is

-- this many numbers are a record
record_is : (types : Types) (parts : Expressions) → HaveFittingNumbers parts
    → ((nat_le 2 (count_of parts) && nat_le (count_of parts) 8) && are_numbers types parts) ≡ true
    → IsTyped types (rec parts)
record_is types parts fits is =
    let both = and_parts (nat_le 2 (count_of parts) && nat_le (count_of parts) 8)
    (are_numbers types parts) is in
    let few = and_parts (nat_le 2 (count_of parts)) (nat_le (count_of parts) 8) both.0 in (
      refl,
      (leb-true 2 (count_of parts) few.0, leb-true (count_of parts) 8 few.1),
      numbers_are types parts fits both.1,
    )

is_record_true : (types : Types) (parts : Expressions) (size : ℕ)
    → HasType types (rec parts) (Rec size) → is_record types (rec parts) ≡ true
is_record_true types parts size is =
    let same = is.0 in let least = is.1.0 in let most = is.1.1 in
    and_from (nat_le 2 (count_of parts) && nat_le (count_of parts) 8) (are_numbers types parts)
    (and_from (nat_le 2 (count_of parts)) (nat_le (count_of parts) 8)
    (le-leb 2 (count_of parts) (omega (arith, same, least)))
    (le-leb (count_of parts) 8 (omega (arith, same, most))))
    (are_numbers_true types parts is.2)

record_named : (size : ℕ) (found : Option ValueType) → found ≡ Some (Rec size)
    → is_record_type found ≡ true
record_named size found is = rw is refl

-- an expression that passes the test is well typed
pub typed_is : (types : Types) (e : Expression) → HasFittingNumbers e → is_typed types e ≡ true
    → IsTyped types e
typed_is types (read name) fits is =
    has_named types (read name) name (type_or_number (type_named types name))
    (name_typed types (type_named types name) is)
typed_is types (literal number) fits is = fits
typed_is types (unary operator inner) fits is =
    number_is types (unary operator inner) fits (or_none _ is)
typed_is types (binary operator left right) fits is =
    number_is types (binary operator left right) fits (or_none _ is)
typed_is types (choice compare left right met other) fits is =
    number_is types (choice compare left right met other) fits (or_none _ is)
typed_is types (sum table) fits is = number_is types (sum table) fits (or_none _ is)
typed_is types (count table) fits is = number_is types (count table) fits (or_none _ is)
typed_is types (most table first) fits is = number_is types (most table first) fits (or_none _ is)
typed_is types (least table first) fits is = number_is types (least table first) fits (or_none _ is)
typed_is types (entry table key other) fits is =
    number_is types (entry table key other) fits (or_none _ is)
typed_is types (rec parts) fits is = record_is types parts fits (or_none _ is)
typed_is types (part given place) fits is = number_is types (part given place) fits (or_none _ is)

-- a well-typed expression passes it
pub is_typed_true : (types : Types) (e : Expression) (type : ValueType) → HasType types e type
    → is_typed types e ≡
    true
is_typed_true types e Number is =
    or_left (is_number types e) (is_record types e || is_table types e) (is_number_true types e is)
is_typed_true types (read name) (Rec size) is =
    or_right (is_number types (read name))
    (is_record types (read name) || is_table types (read name))
    (or_left (is_record types (read name)) (is_table types (read name))
    (record_named size (type_named types name) is))
is_typed_true types (rec parts) (Rec size) is =
    or_left (is_record types (rec parts)) false (is_record_true types parts size is)
is_typed_true types (read name) Table is =
    or_right (is_number types (read name))
    (is_record types (read name) || is_table types (read name))
    (or_right (is_record types (read name)) (is_table types (read name))
    (so_named Table (type_named types name) is))
is_typed_true types _ (Rec size) is = absurd is
is_typed_true types _ Table is = absurd is

-- and has the type that it gives
pub type_is : (types : Types) (e : Expression) (type : ValueType) → HasType types e type
    → type ≡ type_of_expression types e
type_is types (read name) Number is = sym (ap type_or_number is)
type_is types (read name) (Rec size) is = sym (ap type_or_number is)
type_is types (read name) Table is = sym (ap type_or_number is)
type_is types (rec parts) Number is = absurd is
type_is types (rec parts) (Rec size) is = ap Rec (sym is.0)
type_is types _ Number is = refl
type_is types _ (Rec size) is = absurd is
type_is types _ Table is = absurd is

-- so it is well typed
pub well_typed : (types : Types) (e : Expression) (type : ValueType) → HasType types e type
    → IsTyped types e
well_typed types e type is = subst (HasType types e) (type_is types e type is) is

not_true : (b : Bool) → (b ≡ true → ⊥) → b ≡ false
not_true true never = absurd (never refl)
not_true false never = refl

-- what has no type does not pass
pub untyped : (types : Types) (e : Expression) → HasFittingNumbers e
    → ((type : ValueType) → HasType types e type → ⊥) → is_typed types e ≡ false
untyped types e fits without = not_true (is_typed types e)
    (λ is. without (type_of_expression types e) (typed_is types e fits is))

pub no_number : (types : Types) (e : Expression) → HasFittingNumbers e → (IsNumber types e → ⊥)
    → is_number types e ≡ false
no_number types e fits without =
    not_true (is_number types e) (λ is. without (number_is types e fits is))

-- a table is no number
pub table_is_no_number : (types : Types) (e : Expression) → HasType types e Table
    → IsNumber types e → ⊥
table_is_no_number types (read name) table number = cc
table_is_no_number types _ table number = absurd table

-- nor is a record
pub record_is_no_number : (types : Types) (e : Expression) (size : ℕ) → HasType types e (Rec size)
    → IsNumber types e → ⊥
record_is_no_number types (read name) size parts number = cc
record_is_no_number types (rec parts) size are number = number
record_is_no_number types _ size parts number = absurd parts
