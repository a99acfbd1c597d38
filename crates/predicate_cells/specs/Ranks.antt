-- For the prover. The sorted lists in which the class of a field is looked up.
use Rattle.std.specs.Prelude.{ℕ, ◌+◌, ◌-◌, ◌*◌, ◌==◌, ◌^◌, ℤ, pos, neg_ℤ, List, [], ◌∷◌, ◌++◌}
use Rattle.std.specs.Prelude.{length, filter, count_by, if◌then◌else◌, nat_le, int_le}
use Rattle.std.specs.Prelude.{slice_index_or}
use Rattle.std.specs.List.{list_any, flat_map}
use Rattle.std.specs.Ordering.{int_cmp, nat_cmp, is_lt}
use Rattle.std.specs.Cmp.Lexicographic.{slice_cmp}
use Rattle.std.specs.Str.{bytes_eq}
use Rattle.value_ops.specs.Texts.{are_bytes}
use Rattle.value_ops.specs.declared.field.Field.{Field}
use Rattle.value_ops.specs.declared.field.Field.TheVariants as field
use Rattle.value_ops.specs.declared.scalar.Scalar.{Scalar}
use Rattle.value_ops.specs.declared.scalar.Scalar.TheVariants as scalar
use Rattle.value_ops.specs.declared.value.Value.TheVariants as value
use Rattle.item_schema.specs.declared.column.Column.{Column}
use Rattle.item_schema.specs.declared.column.Kind.{Kind}
use Rattle.item_schema.specs.declared.column.Kind.TheVariants.{Int, Fixed, Text, Number, Table}
use Rattle.predicate_cells.specs.Classes.{beginnings, named_texts, begins_class}
use Rattle.predicates.specs.Fits.{is_number, is_text}
use Rattle.predicates.specs.Predicates.{Predicate}
use Rattle.predicate_cells.specs.Rising.{rising}

-- the kind of a column; where its classes of numbers begin, except for the first, and the texts
-- that have classes of their own, both from the least to the greatest
pub record Ranks : Type 0 where
  pub kind : Kind
  pub starts : List ℤ
  pub texts : List (List ℕ)

-- the starts, if the column has numbers
abbrev pub rising_starts : Kind → ℕ → List Predicate → List ℤ
rising_starts kind column preds =
    if is_number kind
    then rising int_cmp (filter begins_class (flat_map (beginnings column) preds)) else []

-- the texts, if the column has texts
abbrev pub rising_texts : Kind → ℕ → List Predicate → List (List ℕ)
rising_texts kind column preds =
    if is_text kind
    then rising (slice_cmp nat_cmp) (filter are_bytes (flat_map (named_texts column) preds)) else []

-- the ranks of a column
abbrev pub ranks_of : Kind → ℕ → List Predicate → Ranks
ranks_of kind column preds = record {
  kind = kind;
  starts = rising_starts kind column preds;
  texts = rising_texts kind column preds;
}

-- how many classes a column of a kind has
abbrev pub count_by_kind : Kind → List ℤ → List (List ℕ) → ℕ
count_by_kind Int starts texts = length starts + 1
count_by_kind (Fixed digits) starts texts = length starts + 1
count_by_kind Text starts texts = length texts + 1
count_by_kind Number starts texts = length starts + 3
count_by_kind Table starts texts = 1

-- the class of a number
abbrev pub number_rank : List ℤ → ℤ → ℕ
number_rank starts number = count_by (λ start. int_le start number) starts

-- the class of a text
abbrev pub text_rank : List (List ℕ) → List ℕ → ℕ
text_rank texts text =
    if list_any (bytes_eq text) texts
    then count_by (λ named. is_lt (slice_cmp nat_cmp named text)) texts
    else length texts

-- the class of a field in a column of this kind
abbrev pub class_by_kind : Kind → List ℤ → List (List ℕ) → Field → ℕ
class_by_kind Int starts texts (field.Int number) = number_rank starts number
class_by_kind (Fixed digits) starts texts (field.Int number) = number_rank starts number
class_by_kind Text starts texts (field.Text text) = text_rank texts text
class_by_kind Number starts texts (field.Val (value.Scalar (scalar.Number number))) =
    number_rank starts number
class_by_kind Number starts texts (field.Val (value.Scalar scalar.Overflow)) = length starts + 1
class_by_kind Number starts texts (field.Val (value.Scalar scalar.DivZero)) = length starts + 2
class_by_kind kind starts texts field = 0

-- a number of the class: the one at which it begins
abbrev pub number_of_class : List ℤ → ℕ → ℤ
number_of_class starts class =
    slice_index_or (neg_ℤ (pos (2 ^ 63)) ∷ starts) class (neg_ℤ (pos (2 ^ 63)))

-- a text that is greater than all of these: the last one with a `_` appended
abbrev pub other_text : List (List ℕ) → List ℕ
other_text texts = slice_index_or texts (length texts - 1) [] ++ 95 ∷ []

-- a scalar of the class
abbrev pub scalar_of_class : List ℤ → ℕ → Scalar
scalar_of_class starts class =
    if nat_le class (length starts) then scalar.Number (number_of_class starts class)
    else if class == length starts + 1 then scalar.Overflow else scalar.DivZero

-- a field of the class, in a column of this kind
abbrev pub field_by_kind : Kind → List ℤ → List (List ℕ) → ℕ → Field
field_by_kind Int starts texts class = field.Int (number_of_class starts class)
field_by_kind (Fixed digits) starts texts class = field.Int (number_of_class starts class)
field_by_kind Text starts texts class = field.Text (slice_index_or texts class (other_text texts))
field_by_kind Number starts texts class = field.Val (value.Scalar (scalar_of_class starts class))
field_by_kind Table starts texts class = field.Val (value.Table [])

-- how many classes the column has
abbrev pub count_in : Ranks → ℕ
count_in ranks = count_by_kind ranks.kind ranks.starts ranks.texts

-- the class of a field
abbrev pub class_in : Ranks → Field → ℕ
class_in ranks field = class_by_kind ranks.kind ranks.starts ranks.texts field

-- a field of a class
abbrev pub field_in : Ranks → ℕ → Field
field_in ranks class = field_by_kind ranks.kind ranks.starts ranks.texts class

-- the ranks of columns, of which the first has the number `at`
abbrev pub ranks_from : ℕ → List Column → List Predicate → List Ranks
ranks_from at [] preds = []
ranks_from at (column ∷ columns) preds =
    ranks_of column.kind at preds ∷ ranks_from (at + 1) columns preds

-- how many cells the columns make
abbrev pub cells_in : List Ranks → ℕ
cells_in [] = 1
cells_in (ranks ∷ others) = count_in ranks * cells_in others

-- the cell of fields
abbrev pub cell_in : List Ranks → List Field → ℕ
cell_in (ranks ∷ others) (field ∷ fields) =
    class_in ranks field * cells_in others + cell_in others fields
cell_in _ _ = 0
