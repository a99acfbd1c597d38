-- Statement. Whether an item meets a predicate.
use Rattle.std.specs.Prelude.{ℕ, ℤ, Bool, true, false, ◌&&◌, ◌||◌, not, List, Option, None, Some}
use Rattle.std.specs.Prelude.{is_some, slice_get, int_lt, int_le}
use Rattle.std.specs.Ordering.{int_eq}
use Rattle.std.specs.Option.{option_map_or}
use Rattle.std.specs.Str.{bytes_eq}
use Rattle.value_ops.specs.declared.field.Field.{Field}
use Rattle.value_ops.specs.declared.scalar.Scalar.{Scalar}
use Rattle.value_ops.specs.declared.scalar.Scalar.TheVariants.{Number}
use Rattle.value_ops.specs.Fields as fields
use Rattle.predicates.specs.Predicates.{Predicate, any, eq, ne, lt, le, gt, ge, between}
use Rattle.predicates.specs.Predicates.{eq_text, ne_text, is_num, conjunction, disjunction}
use Rattle.predicates.specs.Predicates.{negation}

-- the number that the scalar is, if it is one
abbrev pub number_in_scalar : Option Scalar → Option ℤ
number_in_scalar (Some (Number number)) = Some number
number_in_scalar _ = None

-- the number that the field is, if it is one
abbrev pub number_of : Option Field → Option ℤ
number_of None = None
number_of (Some field) = number_in_scalar (fields.scalar_of field)

-- the text that the field is, if it is one
abbrev pub text_of : Option Field → Option (List ℕ)
text_of None = None
text_of (Some field) = fields.text_of field

-- the number in a column
abbrev pub number_in : List Field → ℕ → Option ℤ
number_in fields column = number_of (slice_get fields column)

-- the text in a column
abbrev pub text_in : List Field → ℕ → Option (List ℕ)
text_in fields column = text_of (slice_get fields column)

-- something was found, and it passes the test
abbrev pub passes : {T : Type 0} → (T → Bool) → Option T → Bool
passes test found = option_map_or test found false

-- whether an item of these fields meets the predicate
abbrev pub holds : Predicate → List Field → Bool
holds any fields = true
holds (eq column number) fields = passes (λ x. int_eq x number) (number_in fields column)
holds (ne column number) fields = not (passes (λ x. int_eq x number) (number_in fields column))
holds (lt column number) fields = passes (λ x. int_lt x number) (number_in fields column)
holds (le column number) fields = passes (λ x. int_le x number) (number_in fields column)
holds (gt column number) fields = passes (λ x. int_lt number x) (number_in fields column)
holds (ge column number) fields = passes (λ x. int_le number x) (number_in fields column)
holds (between column low high) fields =
    passes (λ x. int_le low x && int_le x high) (number_in fields column)
holds (eq_text column text) fields = passes (λ x. bytes_eq x text) (text_in fields column)
holds (ne_text column text) fields = not (passes (λ x. bytes_eq x text) (text_in fields column))
holds (is_num column) fields = is_some (number_in fields column)
holds (conjunction first second) fields = holds first fields && holds second fields
holds (disjunction first second) fields = holds first fields || holds second fields
holds (negation inner) fields = not (holds inner fields)
