-- Statement. Expressions whose names are resolved, and which of them are well typed.
use Rattle.std.specs.Prelude.{ℕ, ◌==◌, nat_le, Bool, true, false, ◌&&◌, ◌||◌, List, Option, None}
use Rattle.std.specs.Prelude.{Some, codes, option_map, if◌then◌else◌}
use Rattle.std.specs.Str.{bytes_eq}
use Rattle.item_schema.specs.declared.column.Column.{Column}
use Rattle.query_syntax.specs.Expressions as e
use Rattle.query_syntax.specs.declared.operator.Extremum.{Extremum}
use Rattle.query_syntax.specs.declared.operator.Extremum.TheVariants as extremum
use Rattle.query_syntax.specs.declared.operator.Summary.{Summary}
use Rattle.query_syntax.specs.declared.operator.Summary.TheVariants as summary
use Rattle.expressions.specs.Expressions.{Expression, literal, read, unary, binary, choice, sum}
use Rattle.expressions.specs.Expressions.{count, most, least, entry, rec, part, Expressions, none}
use Rattle.expressions.specs.Expressions.{more, count_of}
use Rattle.expressions.specs.Typing.{Types, type_named}
use Rattle.expressions.specs.declared.expr.Var.{Var}
use Rattle.expressions.specs.declared.expr.Var.TheVariants.{Field, Left, Right}
use Rattle.value_ops.specs.declared.value.ValueType.{ValueType}
use Rattle.value_ops.specs.declared.value.ValueType.TheVariants.{Number, Rec, Table}
use Rattle.query_resolver.specs.Names.{column_named}

-- what the names of an expression stand for: the columns of an item, one value, or two
pub data Scope : Type 0 where
  of_item : List Column → Scope
  of_one : Scope
  of_two : Scope

-- what a name stands for in the scope
abbrev pub named_in : Scope → List ℕ → Option Var
named_in (of_item columns) name = option_map Field (column_named columns name)
named_in of_one name = if bytes_eq name (codes "x") then Some Left else None
named_in of_two name =
    if bytes_eq name (codes "x") then Some Left
    else if bytes_eq name (codes "y") then Some Right else None

-- the sum or the count of a table
abbrev pub summary_of : Summary → Var → Expression
summary_of summary.Sum table = sum table
summary_of summary.Count table = count table

-- the greatest or the least number in a table and a first number
abbrev pub extremum_of : Extremum → Var → Expression → Expression
extremum_of extremum.Max table first = most table first
extremum_of extremum.Min table first = least table first

-- two expressions joined, if there are both
abbrev pub both_of : (Expression → Expression → Expression) → Option Expression → Option Expression
    → Option Expression
both_of joined (Some left) (Some right) = Some (joined left right)
both_of joined _ _ = None

-- a choice, if there are all four parts
abbrev pub choice_of : (Expression → Expression → Expression → Expression → Expression)
    → Option Expression → Option Expression → Option Expression → Option Expression
    → Option Expression
choice_of joined (Some left) (Some right) (Some met) (Some other) =
    Some (joined left right met other)
choice_of joined _ _ _ _ = None

-- a table's name joined with an expression, if there are both
abbrev pub table_form : (Var → Expression → Expression) → Option Var → Option Expression
    → Option Expression
table_form joined (Some table) (Some inner) = Some (joined table inner)
table_form joined _ _ = None

-- an expression before others, if there are all
abbrev pub more_of : Option Expression → Option Expressions → Option Expressions
more_of (Some first) (Some others) = Some (more first others)
more_of _ _ = None

abbrev mutual
  -- the expression with each name resolved, or none if a name is not known
  pub expression_over : Scope → e.Expression → Option Expression
  expression_over scope (e.number n) = Some (literal n.value)
  expression_over scope (e.name n) = option_map read (named_in scope n.bytes)
  expression_over scope (e.unary operator inner span) =
      option_map (unary operator) (expression_over scope inner)
  expression_over scope (e.binary operator left right span) =
      both_of (binary operator) (expression_over scope left) (expression_over scope right)
  expression_over scope (e.choice compare left right at met other span) =
      choice_of (choice compare) (expression_over scope left) (expression_over scope right)
      (expression_over scope met) (expression_over scope other)
  expression_over scope (e.summary operator table span) =
      option_map (summary_of operator) (named_in scope table.bytes)
  expression_over scope (e.extremum operator table first span) =
      table_form (extremum_of operator) (named_in scope table.bytes) (expression_over scope first)
  expression_over scope (e.get table key other span) =
      table_form (λ name inner. entry name key.bytes inner) (named_in scope table.bytes)
      (expression_over scope other)
  expression_over scope (e.rec parts span) = option_map rec (expressions_over scope parts)
  expression_over scope (e.part whole index span) =
      option_map (λ name. part name index.value) (named_in scope whole.bytes)

  -- the same of all expressions
  pub expressions_over : Scope → e.Expressions → Option Expressions
  expressions_over scope e.none = Some none
  expressions_over scope (e.more first others) =
      more_of (expression_over scope first) (expressions_over scope others)

-- the name stands for a value of this type
abbrev pub is_of : ValueType → Option ValueType → Bool
is_of Number (Some Number) = true
is_of (Rec size) (Some (Rec other)) = size == other
is_of Table (Some Table) = true
is_of _ _ = false

-- a record that has a part at this place, counted from 1
abbrev pub has_part : ℕ → Option ValueType → Bool
has_part place (Some (Rec size)) = nat_le 1 place && nat_le place size
has_part place _ = false

-- Well typed, and a number: operators, comparisons and branches take numbers, what is made of a
-- table takes a name of one, and a part is one of the record that its name stands for.
abbrev pub is_number : Types → Expression → Bool
is_number types (literal number) = true
is_number types (read name) = is_of Number (type_named types name)
is_number types (unary operator inner) = is_number types inner
is_number types (binary operator left right) = is_number types left && is_number types right
is_number types (choice compare left right met other) =
    (is_number types left && is_number types right)
    && (is_number types met && is_number types other)
is_number types (sum table) = is_of Table (type_named types table)
is_number types (count table) = is_of Table (type_named types table)
is_number types (most table first) = is_of Table (type_named types table) && is_number types first
is_number types (least table first) = is_of Table (type_named types table) && is_number types first
is_number types (entry table key other) =
    is_of Table (type_named types table) && is_number types other
is_number types (rec parts) = false
is_number types (part given place) = has_part place (type_named types given)

-- each is
abbrev pub are_numbers : Types → Expressions → Bool
are_numbers types none = true
are_numbers types (more first others) = is_number types first && are_numbers types others

-- a type of records
abbrev pub is_record_type : Option ValueType → Bool
is_record_type (Some (Rec size)) = true
is_record_type _ = false

-- a bare name of a record, or two to eight numbers
abbrev pub is_record : Types → Expression → Bool
is_record types (read name) = is_record_type (type_named types name)
is_record types (rec parts) =
    (nat_le 2 (count_of parts) && nat_le (count_of parts) 8) && are_numbers types parts
is_record types _ = false

-- it is the bare name of a table
abbrev pub is_table : Types → Expression → Bool
is_table types (read name) = is_of Table (type_named types name)
is_table types _ = false

-- well typed
abbrev pub is_typed : Types → Expression → Bool
is_typed types expression =
    is_number types expression || (is_record types expression || is_table types expression)
