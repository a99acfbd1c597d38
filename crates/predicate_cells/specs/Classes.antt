-- Statement. The classes of a column. No test distinguishes the fields of one class.
use Rattle.std.specs.Prelude.{ℕ, ◌+◌, ◌==◌, ◌^◌, ℤ, pos, neg_ℤ, ◌+ℤ◌, Bool, ◌&&◌, List, [], ◌∷◌}
use Rattle.std.specs.Prelude.{◌++◌, length, filter, count_by, if◌then◌else◌, int_lt, int_le}
use Rattle.std.specs.List.{list_any, flat_map}
use Rattle.std.specs.Ordering.{int_eq, nat_cmp, is_lt}
use Rattle.std.specs.Cmp.Lexicographic.{slice_cmp}
use Rattle.std.specs.Str.{bytes_eq}
use Rattle.value_ops.specs.Texts.{are_bytes}
use Rattle.value_ops.specs.declared.field.Field.{Field}
use Rattle.value_ops.specs.declared.field.Field.TheVariants as field
use Rattle.value_ops.specs.declared.scalar.Scalar.TheVariants as scalar
use Rattle.value_ops.specs.declared.value.Value.TheVariants as value
use Rattle.item_schema.specs.declared.column.Kind.{Kind}
use Rattle.item_schema.specs.declared.column.Kind.TheVariants.{Int, Fixed, Text, Number, Table}
use Rattle.predicates.specs.Predicates.{Predicate, any, eq, ne, lt, le, gt, ge, between}
use Rattle.predicates.specs.Predicates.{eq_text, ne_text, is_num, conjunction, disjunction}
use Rattle.predicates.specs.Predicates.{negation}

-- the list, if the test is one of the column, and else nothing
abbrev pub at_column : {A : Type 0} → ℕ → ℕ → List A → List A
at_column column tested found = if tested == column then found else []

-- the number after
abbrev pub next : ℤ → ℤ
next number = number +ℤ pos 1

-- the numbers at which the tests of a column begin classes
abbrev pub beginnings : ℕ → Predicate → List ℤ
beginnings column any = []
beginnings column (eq tested n) = at_column column tested (n ∷ next n ∷ [])
beginnings column (ne tested n) = at_column column tested (n ∷ next n ∷ [])
beginnings column (lt tested n) = at_column column tested (n ∷ [])
beginnings column (le tested n) = at_column column tested (next n ∷ [])
beginnings column (gt tested n) = at_column column tested (next n ∷ [])
beginnings column (ge tested n) = at_column column tested (n ∷ [])
beginnings column (between tested low high) = at_column column tested (low ∷ next high ∷ [])
beginnings column (eq_text tested text) = []
beginnings column (ne_text tested text) = []
beginnings column (is_num tested) = []
beginnings column (conjunction first second) = beginnings column first ++ beginnings column second
beginnings column (disjunction first second) = beginnings column first ++ beginnings column second
beginnings column (negation inner) = beginnings column inner

-- the texts that the tests of a column name
abbrev pub named_texts : ℕ → Predicate → List (List ℕ)
named_texts column (eq_text tested text) = at_column column tested (text ∷ [])
named_texts column (ne_text tested text) = at_column column tested (text ∷ [])
named_texts column (conjunction first second) =
    named_texts column first ++ named_texts column second
named_texts column (disjunction first second) =
    named_texts column first ++ named_texts column second
named_texts column (negation inner) = named_texts column inner
named_texts column _ = []

-- the members of a list, each of them once
abbrev pub members : {A : Type 0} → (A → A → Bool) → List A → List A
members same [] = []
members same (x ∷ xs) = if list_any (same x) xs then members same xs else x ∷ members same xs

-- another class than the first can begin at this number: not at the least number, nor past the
-- greatest
abbrev pub begins_class : ℤ → Bool
begins_class number = int_lt (neg_ℤ (pos (2 ^ 63))) number && int_lt number (pos (2 ^ 63))

-- where the classes of a number column begin, except for the first
abbrev pub starts : ℕ → List Predicate → List ℤ
starts column preds = members int_eq (filter begins_class (flat_map (beginnings column) preds))

-- the texts that have classes of their own: those that an item can have
abbrev pub texts : ℕ → List Predicate → List (List ℕ)
texts column preds = members bytes_eq (filter are_bytes (flat_map (named_texts column) preds))

-- how many classes a column has. Numbers have one class more than there are starts; a column of
-- values also has the classes of `overflow` and `divzero`; and a text column has a class for all
-- other texts
abbrev pub class_count : Kind → ℕ → List Predicate → ℕ
class_count Int column preds = length (starts column preds) + 1
class_count (Fixed digits) column preds = length (starts column preds) + 1
class_count Text column preds = length (texts column preds) + 1
class_count Number column preds = length (starts column preds) + 3
class_count Table column preds = 1

-- the class of a number: how many starts are at most the number
abbrev pub number_class : ℕ → List Predicate → ℤ → ℕ
number_class column preds number = count_by (λ start. int_le start number) (starts column preds)

-- the class of a text: how many of the texts come before it in the order of bytes, or the last
-- class if it is none of them
abbrev pub text_class : ℕ → List Predicate → List ℕ → ℕ
text_class column preds text =
    if list_any (bytes_eq text) (texts column preds)
    then count_by (λ named. is_lt (slice_cmp nat_cmp named text)) (texts column preds)
    else length (texts column preds)

-- the class of a field
abbrev pub class_of : Kind → ℕ → List Predicate → Field → ℕ
class_of Int column preds (field.Int number) = number_class column preds number
class_of (Fixed digits) column preds (field.Int number) = number_class column preds number
class_of Text column preds (field.Text text) = text_class column preds text
class_of Number column preds (field.Val (value.Scalar (scalar.Number number))) =
    number_class column preds number
class_of Number column preds (field.Val (value.Scalar scalar.Overflow)) =
    length (starts column preds) + 1
class_of Number column preds (field.Val (value.Scalar scalar.DivZero)) =
    length (starts column preds) + 2
class_of kind column preds field = 0
