-- Statement. Which names are known at a node. The names of values are constants of the code.
use Rattle.std.specs.Prelude.{ℕ, Bool, false, ◌||◌, List, codes, Option, None, Some, if◌then◌else◌}
use Rattle.std.specs.List.{list_any}
use Rattle.std.specs.Str.{bytes_eq}
use Rattle.language_base.specs.declared.span.Span.{Span}
use Rattle.query_syntax.specs.declared.leaf.Name.{Name}
use Rattle.query_syntax.specs.declared.stream.Column.{Column}
use Rattle.explanation.specs.declared.culprit.Culprit.{Culprit}
use Rattle.explanation.specs.declared.culprit.Culprit.TheVariants.{NoColumn, NoValue, OtherValue}
use Rattle.explanation.specs.declared.culprit.Culprit.TheVariants.{OfValue, NotOne, NotTwo}
use Rattle.explanation.specs.declared.scope.Scope as memory
use Rattle.explanation.specs.declared.scope.Scope.TheVariants.{Item, Value, Misread, Mistyped, One}
use Rattle.explanation.specs.declared.scope.Scope.TheVariants.{Two}
use Rattle.explanation.specs.declared.scope.TheConstants as words

-- what names stand for: the columns of an item, those of values, the same where one is not those of
-- these values or where values of another kind are needed, one value, or two
pub data Scope : Type 0 where
  of_item : List Column → Scope
  of_value : Scope
  of_misread : Scope
  of_mistyped : Scope
  of_one : Scope
  of_two : Scope

-- the same of a scope in memory
abbrev pub plain_scope : memory.Scope → Scope
plain_scope (Item columns) = of_item columns.now
plain_scope Value = of_value
plain_scope Misread = of_misread
plain_scope Mistyped = of_mistyped
plain_scope One = of_one
plain_scope Two = of_two

-- one of the columns has this name
abbrev pub has_name : List Column → List ℕ → Bool
has_name columns name = list_any (λ c. bytes_eq name c.name.bytes) columns

-- columns of values may have this name
abbrev pub is_of_values : List ℕ → Bool
is_of_values name = list_any (λ known. bytes_eq name known.now) words.VALUE_NAMES

-- the name stands for something that may be used there
abbrev pub is_known : Scope → List ℕ → Bool
is_known (of_item columns) name = has_name columns name
is_known of_value name = is_of_values name
is_known of_misread name = false
is_known of_mistyped name = false
is_known of_one name = bytes_eq name (codes "x")
is_known of_two name = bytes_eq name (codes "x") || bytes_eq name (codes "y")

-- a name that does not, by the scope
abbrev pub unknown_in : Scope → Span → Culprit
unknown_in (of_item columns) span = NoColumn span
unknown_in of_value span = NoValue span
unknown_in of_misread span = OtherValue span
unknown_in of_mistyped span = OfValue span
unknown_in of_one span = NotOne span
unknown_in of_two span = NotTwo span

-- it is the name, unless it is known
abbrev pub unless_known : Scope → Name → Option Culprit
unless_known scope name =
    if is_known scope name.bytes then None else Some (unknown_in scope name.span)
