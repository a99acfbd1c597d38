-- What well-typed expressions of queries give.
use Rattle.std.proofs.Common.{◌≡◌, List, [], Some, None, sym, subst}
use Rattle.value_ops.specs.declared.field.Field.{Field}
use Rattle.value_ops.specs.declared.value.Value.{Value}
use Rattle.value_ops.specs.declared.value.ValueType.{ValueType}
use Rattle.expressions.specs.Evaluation.{Inputs, given, value_of}
use Rattle.expressions.specs.Expressions.{Expression}
use Rattle.value_ops.specs.Types.{IsValueOf}
use Rattle.expressions.specs.Typing.{Types, AreValues, HasType, types_of}
use Rattle.expressions.proofs.TypedValues.{typed_value, typed_range}
use Rattle.item_schema.specs.declared.column.Column.{Column}
use Rattle.item_schema.specs.Items.{IsItemOf}
use Rattle.query_model.specs.Denotation.{on_one, on_both}
use Rattle.query_model.specs.QueryTypes.{of_columns, of_one, of_two, type_of_expression}
use Rattle.query_model.specs.Rules.{IsTyped}
use Rattle.query_model.proofs.ItemFields.{atom_types, atom_values, one_type, one_value, two_types}
use Rattle.query_model.proofs.ItemFields.{two_values}

gives : (inputs : Inputs) (types : Types) (expression : Expression) (type : ValueType)
    → types_of inputs ≡ types → HasType types expression type
    → (value : Value) × (value_of inputs expression ≡ Some value)
gives inputs types expression type same typed =
    let found = typed_value inputs expression type
    (subst (λ t. HasType t expression type) (sym same) typed) in
    (found.0, found.1)

ranges : (inputs : Inputs) (types : Types) (expression : Expression)
    (type : ValueType) (value : Value) → types_of inputs ≡ types → AreValues inputs
    → HasType types expression type → value_of inputs expression ≡ Some value → IsValueOf type value
ranges inputs types expression type value same values typed there =
    typed_range inputs expression type value values
    (subst (λ t. HasType t expression type) (sym same) typed) there

-- on the fields of an item
pub atom_gives : (columns : List Column) (item : List Field) (expression : Expression)
    → IsItemOf columns item → IsTyped (of_columns columns) expression
    → (value : Value) × (value_of (given item None None) expression ≡ Some value)
atom_gives columns item expression is typed =
    gives (given item None None) (of_columns columns) expression _
    (atom_types columns item is) typed

pub atom_ranges : (columns : List Column) (item : List Field)
    (expression : Expression) (value : Value) → IsItemOf columns item
    → IsTyped (of_columns columns) expression
    → value_of (given item None None) expression ≡ Some value
    → IsValueOf (type_of_expression (of_columns columns) expression) value
atom_ranges columns item expression value is typed there =
    ranges (given item None None) (of_columns columns) expression _ value
    (atom_types columns item is) (atom_values columns item is) typed there

-- on one value
pub one_gives : (type result : ValueType) (expression : Expression) (left : Value)
    → IsValueOf type left → HasType (of_one type) expression result
    → (value : Value) × (on_one expression left ≡ Some value)
one_gives type result expression left is typed =
    gives (given [] (Some left) None) (of_one type) expression result (one_type type left is) typed

pub one_ranges : (type result : ValueType) (expression : Expression) (left value : Value)
    → IsValueOf type left → HasType (of_one type) expression result
    → on_one expression left ≡ Some value → IsValueOf result value
one_ranges type result expression left value is typed there =
    ranges (given [] (Some left) None) (of_one type) expression result value (one_type type left is)
    (one_value type left is) typed there

-- on two values
pub two_gives : (type other result : ValueType) (expression : Expression) (left right : Value)
    → IsValueOf type left → IsValueOf other right → HasType (of_two type other) expression result
    → (value : Value) × (on_both expression left right ≡ Some value)
two_gives type other result expression left right is right_is typed =
    gives (given [] (Some left) (Some right)) (of_two type other) expression result
    (two_types type other left right is right_is) typed

pub two_ranges : (type other result : ValueType) (expression : Expression)
    (left right value : Value) → IsValueOf type left → IsValueOf other right
    → HasType (of_two type other) expression result → on_both expression left right ≡ Some value
    → IsValueOf result value
two_ranges type other result expression left right value is right_is typed there =
    ranges (given [] (Some left) (Some right)) (of_two type other) expression result value
    (two_types type other left right is right_is)
    (two_values type other left right is right_is) typed there
