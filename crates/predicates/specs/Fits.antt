-- Statement. Which predicates can be asked about the items of a stream.
use Rattle.std.specs.Prelude.{ℕ, Bool, true, false, ◌&&◌, List, slice_get}
use Rattle.item_schema.specs.declared.column.Column.{Column}
use Rattle.item_schema.specs.declared.column.Kind.{Kind}
use Rattle.item_schema.specs.declared.column.Kind.TheVariants.{Int, Fixed, Text, Number, Table}
use Rattle.predicates.specs.Predicates.{Predicate, any, eq, ne, lt, le, gt, ge, between}
use Rattle.predicates.specs.Predicates.{eq_text, ne_text, is_num, conjunction, disjunction}
use Rattle.predicates.specs.Predicates.{negation}
use Rattle.predicates.specs.Truth.{passes}

-- a column of this kind can have a number
abbrev pub is_number : Kind → Bool
is_number Int = true
is_number (Fixed digits) = true
is_number Text = false
is_number Number = true
is_number Table = false

-- a column of this kind can have a text
abbrev pub is_text : Kind → Bool
is_text Int = false
is_text (Fixed digits) = false
is_text Text = true
is_text Number = false
is_text Table = false

-- the column exists and can have numbers
abbrev pub has_numbers : List Column → ℕ → Bool
has_numbers columns column = passes (λ c. is_number c.kind) (slice_get columns column)

-- the column exists and can have texts
abbrev pub has_texts : List Column → ℕ → Bool
has_texts columns column = passes (λ c. is_text c.kind) (slice_get columns column)

-- the column of each test exists and has the kind that the test needs
abbrev pub fits : List Column → Predicate → Bool
fits columns any = true
fits columns (eq column number) = has_numbers columns column
fits columns (ne column number) = has_numbers columns column
fits columns (lt column number) = has_numbers columns column
fits columns (le column number) = has_numbers columns column
fits columns (gt column number) = has_numbers columns column
fits columns (ge column number) = has_numbers columns column
fits columns (between column low high) = has_numbers columns column
fits columns (eq_text column text) = has_texts columns column
fits columns (ne_text column text) = has_texts columns column
fits columns (is_num column) = has_numbers columns column
fits columns (conjunction first second) = fits columns first && fits columns second
fits columns (disjunction first second) = fits columns first && fits columns second
fits columns (negation inner) = fits columns inner
