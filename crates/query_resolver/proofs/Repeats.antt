-- Columns whose names are right are those of a schema.
use Rattle.std.proofs.Common.{◌≡◌, ℕ, Bool, true, false, ◌&&◌, cond, List, [], ◌∷◌, length, map}
use Rattle.std.proofs.Common.{Option, Some, None, refl, sym, ap, ◌∙◌, arith}
use Rattle.std.proofs.lemmas.Bool.{false_from_ne_true, false≢true}
use Rattle.std.proofs.lemmas.Bool.Decides.{nat_tests}
use Rattle.std.proofs.lemmas.List.{length-map}
use Rattle.std.proofs.lemmas.Slice.Eq.{bytes_eq-Decides}
use Rattle.std.specs.List.{AllByRecursion, list_all, list_any}
use Rattle.std.specs.Str.{bytes_eq}
use Rattle.item_schema.specs.Layout.{are_columns, are_distinct, has_digits, is_read}
use Rattle.language_base.specs.declared.span.Span.{Span}
use Rattle.query_lets.specs.Words.{column_words, first_wrong, is_known}
use Rattle.query_syntax.specs.Limits.{HasDigits, IsWithin}
use Rattle.query_syntax.specs.Programs.{Stream}
use Rattle.query_syntax.specs.declared.stream.Column.{Column}
use Rattle.query_syntax.specs.declared.stream.Kind.{Kind}
use Rattle.query_syntax.specs.declared.stream.Kind.TheVariants.{Int, Text, Fixed}
use Rattle.query_resolver.specs.Layouts.{column_of, kind_of}

-- where nothing is found, the test fails, and nothing is found after it
not_here : (test : Bool) (span : Span) (next : Option Span) → cond test (Some span) next ≡ None
    → (test ≡ false) × (next ≡ None)
not_here true span next is = absurd (cc)
not_here false span next is = (refl, is)

module _ (known : List (List ℕ)) (first : Column) (columns : List Column)
    (right : first_wrong (column_words known (first ∷ columns)) ≡ None) where
  -- the first column has a new name, and those after it have names of their own
  new_first : (is_known known first.name.bytes ≡ false)
      × (first_wrong (column_words (first.name.bytes ∷ known) columns) ≡ None)
  new_first = not_here (is_known known first.name.bytes) first.name.span
      (first_wrong (column_words (first.name.bytes ∷ known) columns)) right

  -- it differs from a known name
  differs : (name : List ℕ) → is_known known name ≡ true → bytes_eq name first.name.bytes ≡ false
  differs name seen = false_from_ne_true (bytes_eq name first.name.bytes)
      (λ same. let is : name ≡ first.name.bytes = (bytes_eq-Decides name first.name.bytes).0 same in
      let again = ap (is_known known) is in
      let new = new_first.0 in
      false≢true (sym new ∙ sym again ∙ seen))

-- no column has a known name
unlike : (known : List (List ℕ)) (columns : List Column)
    → first_wrong (column_words known columns) ≡ None → (name : List ℕ) → is_known known name ≡ true
    → list_any (λ c. bytes_eq name c.name) (map column_of columns) ≡ false
unlike known [] right name seen = refl
unlike known (first ∷ columns) right name seen =
    let others : is_known (first.name.bytes ∷ known) name ≡ true =
    rw (differs known first columns right name seen) seen in
    rw (differs known first columns right name seen)
    (unlike (first.name.bytes ∷ known) columns (new_first known first columns right).1 name others)

-- where no name is wrong, they are distinct
distinct_from : (known : List (List ℕ)) (columns : List Column)
    → first_wrong (column_words known columns) ≡ None → are_distinct (map column_of columns) ≡ true
distinct_from known [] right = refl
distinct_from known (first ∷ columns) right =
    let rest = (new_first known first columns right).1 in
    let same : bytes_eq first.name.bytes first.name.bytes ≡ true =
    (bytes_eq-Decides first.name.bytes first.name.bytes).1 refl in
    let seen : is_known (first.name.bytes ∷ known) first.name.bytes ≡ true = rw same refl in
    rw (unlike (first.name.bytes ∷ known) columns rest first.name.bytes seen)
    (distinct_from (first.name.bytes ∷ known) columns rest)

-- the columns of a stream are read from lines
read_kind : (kind : Kind) → is_read (kind_of kind) ≡ true
read_kind (Int span) = refl
read_kind (Text span) = refl
read_kind (Fixed digits span) = refl

-- and their digits are those of a fixed point
digits_kind : (kind : Kind) → HasDigits kind → has_digits (kind_of kind) ≡ true
digits_kind (Int span) has = refl
digits_kind (Text span) has = refl
digits_kind (Fixed digits span) (some, few) = grind (arith, nat_tests, some, few)

kinds_from : (columns : List Column)
    → AllByRecursion (λ (column : Column). HasDigits column.kind) columns
    → list_all (λ c. has_digits c.kind && is_read c.kind) (map column_of columns) ≡ true
kinds_from [] digits = refl
kinds_from (first ∷ columns) (here, others) =
    rw (digits_kind first.kind here, read_kind first.kind) (kinds_from columns others)

-- the columns of a stream are those of a schema
pub are_columns_of : (stream : Stream) → IsWithin stream
    → first_wrong (column_words [] stream.columns) ≡ None
    → are_columns (map column_of stream.columns) ≡ true
are_columns_of stream within distinct =
    let long : length (map column_of stream.columns) ≡ length stream.columns =
    length-map stream.columns column_of in
    let some = within.some in
    let few = within.few in
    let apart = distinct_from [] stream.columns distinct in
    let kinds = kinds_from stream.columns within.digits in
    rw (apart, kinds, long) (grind (arith, nat_tests, some, few))
