-- What stands in the fields of an item.
use Rattle.std.proofs.Common.{◌≡◌, ℕ, zero, suc, List, [], ◌∷◌, map, Option, Some, None, refl, ap}
use Rattle.std.proofs.Common.{sym, subst}
use Rattle.std.specs.Prelude.{unwrap_or, slice_get}
use Rattle.std.specs.Option.{option_and_then}
use Rattle.value_ops.specs.declared.field.Field.{Field}
use Rattle.value_ops.specs.declared.field.Field.TheVariants as field
use Rattle.value_ops.specs.declared.scalar.Scalar.TheVariants.{Number}
use Rattle.value_ops.specs.declared.value.Value.{Value}
use Rattle.value_ops.specs.declared.value.Value.TheVariants as value
use Rattle.value_ops.specs.declared.value.ValueType.{ValueType}
use Rattle.value_ops.specs.declared.value.ValueType.TheVariants as type
use Rattle.expressions.specs.declared.expr.Var.TheVariants as var
use Rattle.expressions.specs.Evaluation.{given}
use Rattle.value_ops.specs.Fields.{value_of_field}
use Rattle.value_ops.specs.Fields.{text_of}
use Rattle.value_ops.specs.Texts.{IsText}
use Rattle.value_ops.specs.Types.{IsValueOf, type_of}
use Rattle.expressions.specs.Typing.{AreValues, types_of}
use Rattle.value_ops.specs.Fields.{type_of_field}
use Rattle.item_schema.specs.declared.column.Column.{Column}
use Rattle.item_schema.specs.declared.column.Kind.{Kind}
use Rattle.item_schema.specs.declared.column.Kind.TheVariants.{Int, Fixed, Text, Number, Table}
use Rattle.item_schema.specs.Items.{IsFieldOf, IsItemOf}
use Rattle.query_model.specs.Keys.{text_in}
use Rattle.query_model.specs.QueryTypes.{of_columns, of_one, of_two, type_of_kind}
use Rattle.query_model.proofs.Inside.{same_inside}

-- a value of a type has that type
pub type_of_value : (type : ValueType) (value : Value) → IsValueOf type value → type_of value ≡ type
type_of_value type.Number (value.Scalar scalar) is = refl
type_of_value (type.Rec size) (value.Rec parts) is = ap type.Rec is.count
type_of_value type.Table (value.Table entries) is = refl
type_of_value _ _ is = absurd is

-- and is a value of its own type
pub value_of_own : (type : ValueType) (value : Value) → IsValueOf type value
    → IsValueOf (type_of value) value
value_of_own type value is =
    subst (λ own. IsValueOf own value) (sym (type_of_value type value is)) is

-- the text of a field, and nothing where there is none
abbrev text_of_one : Field → List ℕ
text_of_one field = unwrap_or (text_of field) []

-- what is known of each field of an item
record IsKnown (kind : Kind) (field : Field) : Type 0 where
  typed : type_of_field field ≡ type_of_kind kind
  value : (value : Value) → value_of_field (Some field) ≡ Some value
      → IsValueOf (type_of value) value
  text : IsText (text_of_one field)

the_value : (other found : Value) → IsValueOf (type_of found) found → Some found ≡ Some other
    → IsValueOf (type_of other) other
the_value other found is same =
    subst (λ v. IsValueOf (type_of v) v) (same_inside found other same) is

known : (kind : Kind) (field : Field) → IsFieldOf kind field → IsKnown kind field
known Int (field.Int number) is = record {
  typed = refl;
  value = λ other same. the_value other (value.Scalar (Number number)) is same;
  text = refl;
}
known (Fixed digits) (field.Int number) is = record {
  typed = refl;
  value = λ other same. the_value other (value.Scalar (Number number)) is same;
  text = refl;
}
known Text (field.Text bytes) is = record { typed = refl; value = λ value same. cc; text = is }
known Number (field.Val value) is = record {
  typed = ap Some (type_of_value type.Number value is);
  value = λ other same. the_value other value (value_of_own type.Number value is) same;
  text = refl;
}
known Table (field.Val value) is = record {
  typed = ap Some (type_of_value type.Table value is);
  value = λ other same. the_value other value (value_of_own type.Table value is) same;
  text = refl;
}
known _ _ is = absurd is

-- the fields of an item have the types of their columns
field_types : (columns : List Column) (item : List Field) → IsItemOf columns item
    → map type_of_field item ≡ map (λ column. type_of_kind column.kind) columns
field_types [] [] is = refl
field_types [] (x ∷ item) is = absurd is
field_types (column ∷ columns) [] is = absurd is
field_types (column ∷ columns) (x ∷ item) is =
    rw ((known column.kind x is.0).typed, field_types columns item is.1) refl

-- and so have the names of an atom's expression
pub atom_types : (columns : List Column) (item : List Field) → IsItemOf columns item
    → types_of (given item None None) ≡ of_columns columns
atom_types columns item is =
    ap (λ fields. record { fields = fields; left = None; right = None })
    (field_types columns item is)

-- a field that is found is known
found_known : (columns : List Column) (item : List Field) (at : ℕ) (found : Field)
    → IsItemOf columns item → slice_get item at ≡ Some found → (kind : Kind) × IsKnown kind found
found_known [] [] at found is there = cc
found_known [] (x ∷ item) at found is there = absurd is
found_known (column ∷ columns) [] at found is there = absurd is
found_known (column ∷ columns) (x ∷ item) zero found is there = (
  column.kind,
  subst (IsKnown column.kind) (same_inside x found there) (known column.kind x is.0),
)
found_known (column ∷ columns) (x ∷ item) (suc at) found is there =
    found_known columns item at found is.1 there

field_value : (columns : List Column) (item : List Field) (at : ℕ) → IsItemOf columns item
    → (found : Option Field) → slice_get item at ≡ found → (value : Value)
    → value_of_field found ≡ Some value → IsValueOf (type_of value) value
field_value columns item at is None there value same = cc
field_value columns item at is (Some found) there value same =
    (found_known columns item at found is there).1.value value same

-- what the names of an atom's expression stand for are values
pub atom_values : (columns : List Column) (item : List Field) → IsItemOf columns item
    → AreValues (given item None None)
atom_values columns item is (var.Field at) value same =
    field_value columns item at is (slice_get item at) refl value same
atom_values columns item is var.Left value same = cc
atom_values columns item is var.Right value same = cc

key_text : (columns : List Column) (item : List Field) (at : ℕ) → IsItemOf columns item
    → (found : Option Field) → slice_get item at ≡ found
    → IsText (unwrap_or (option_and_then text_of found) [])
key_text columns item at is None there = refl
key_text columns item at is (Some found) there = (found_known columns item at found is there).1.text

-- what stands in a column is a text
pub in_column : (columns : List Column) (item : List Field) (column : ℕ) → IsItemOf columns item
    → IsText (text_in column item)
in_column columns item column is = key_text columns item column is (slice_get item column) refl

-- the types of one value, and of two
pub one_type : (type : ValueType) (left : Value) → IsValueOf type left
    → types_of (given [] (Some left) None) ≡ of_one type
one_type type left is =
    ap (λ own. record { fields = []; left = Some own; right = None }) (type_of_value type left is)

pub two_types : (type other : ValueType) (left right : Value) → IsValueOf type left
    → IsValueOf other right → types_of (given [] (Some left) (Some right)) ≡ of_two type other
two_types type other left right is right_is =
    rw (type_of_value type left is, type_of_value other right right_is) refl

-- and they are values
pub one_value : (type : ValueType) (left : Value) → IsValueOf type left
    → AreValues (given [] (Some left) None)
one_value type left is (var.Field at) value same = cc
one_value type left is var.Left value same =
    subst (λ v. IsValueOf (type_of v) v) (same_inside left value same) (value_of_own type left is)
one_value type left is var.Right value same = cc

pub two_values : (type other : ValueType) (left right : Value) → IsValueOf type left
    → IsValueOf other right → AreValues (given [] (Some left) (Some right))
two_values type other left right is right_is (var.Field at) value same = cc
two_values type other left right is right_is var.Left value same =
    subst (λ v. IsValueOf (type_of v) v) (same_inside left value same) (value_of_own type left is)
two_values type other left right is right_is var.Right value same =
    subst (λ v. IsValueOf (type_of v) v) (same_inside right value same)
    (value_of_own other right right_is)
