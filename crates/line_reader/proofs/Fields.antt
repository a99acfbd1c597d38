-- The fields of columns, read one after the other.
use Rattle.std.proofs.Common.{◌≡◌, ℕ, ◌+◌, ◌<◌, List, [], ◌∷◌, ◌++◌, length, get_or, drop, Bor}
use Rattle.std.proofs.Common.{option_map, IsSome, Option, Some, None, Result, Ok, Err, refl, sym}
use Rattle.std.proofs.Common.{ap, ◌∙◌, append_assoc, add-one, arith}
use Rattle.std.proofs.lemmas.List.{append-nil, drop_all, length_push}
use Rattle.std.proofs.Math.Seq.{drop-cons}
use Rattle.csv.specs.Records.{field_at}
use Rattle.csv.proofs.RecordFacts.{field-get, field-there}
use Rattle.value_ops.specs.declared.field.Field.{Field}
use Rattle.item_schema.specs.declared.column.Column.{Column}
use Rattle.line_reader.specs.declared.stop.ItemStop.{ItemStop}
use Rattle.line_reader.specs.declared.stop.ItemStop.TheVariants as stop
use Rattle.line_reader.specs.declared.stop.Skip.{Skip}
use Rattle.line_reader.specs.Reading.{IsStopOf, after, field_of, fields_of, in_column, read_on}
use Rattle.line_reader.specs.Reading.{with_field}

-- an element stands before those after it
pub drop-next : {A : Type 0} (xs : List A) (i : ℕ) (other : A) → i < length xs
    → drop i xs ≡ get_or xs i other ∷ drop (i + 1) xs
drop-next xs i other within = rw add-one (drop-cons xs i other within)

-- no fields before others
after-nil : (others : Result (List Field) Skip) → after [] others ≡ others
after-nil (Ok fields) = refl
after-nil (Err stop) = refl

-- a field that was read goes after those before it
after-with_field : (fields : List Field) (field : Field) (others : Result (List Field) Skip)
    → after fields (with_field (Ok field) others) ≡ after (fields ++ field ∷ []) others
after-with_field fields field (Ok others) = ap Ok (sym (append_assoc fields (field ∷ []) others))
after-with_field fields field (Err stop) = refl

-- the reading begins with all columns and texts
pub read_on-nil : (columns : List Column) (texts : List (List ℕ))
    → read_on columns [] texts ≡ fields_of 1 columns texts
read_on-nil columns texts = after-nil (fields_of 1 columns texts)

-- it ends where all columns are read
pub read_on-all : (columns : List Column) (fields : List Field) → length fields ≡ length columns
    → read_on columns fields [] ≡ Ok fields
read_on-all columns fields all =
    rw (drop_all (length fields) columns (omega arith)) (ap Ok (append-nil fields))

-- the next text is one of the next column, and the field that it writes goes after the others
pub read_on-push : (columns : List Column) (fields : List Field) (other : Column) (text : List ℕ)
    (texts : List (List ℕ)) (field : Field) → length fields < length columns
    → in_column (length fields + 1) (field_of (get_or columns (length fields) other).kind text)
    ≡ Ok field
    → read_on columns fields (text ∷ texts) ≡ read_on columns (fields ++ field ∷ []) texts
read_on-push columns fields other text texts field left writes =
    rw (length_push fields field, drop-next columns (length fields) other left, writes)
    (after-with_field fields field
    (fields_of (length fields + 1 + 1) (drop (length fields + 1) columns) texts))

-- what stops the reading of what is left stops that of the whole
pub stop-same : (whole left : Result (List Field) Skip) (stop : ItemStop) → whole ≡ left
    → IsStopOf left stop → IsStopOf whole stop
stop-same whole left (stop.Skip skip) same stops = same ∙ stops
stop-same whole left stop.Memory same stops = tt

-- what stops the reading of a first field stops that of all
pub stop-first : (first : Result Field Skip) (others : Result (List Field) Skip) (stop : ItemStop)
    → IsStopOf first stop → IsStopOf (with_field first others) stop
stop-first first others (stop.Skip skip) stops = ap (λ field. with_field field others) stops
stop-first first others stop.Memory stops = tt

-- the text at a place of a row stands before those after it
pub drop-field_at : (texts : List (List ℕ)) (i : ℕ) (text : List ℕ) → i < length texts
    → field_at texts i ≡ Some text → drop i texts ≡ text ∷ drop (i + 1) texts
drop-field_at texts i text within is =
    drop-next texts i [] within
    ∙ ap (λ bytes. bytes ∷ drop (i + 1) texts) (field-get texts i text is)

-- a row has a field at each place
pub some_field : (texts : List (List ℕ)) (i : ℕ) (found : Option (Bor (List ℕ))) → i < length texts
    → option_map (λ text. text.now) found ≡ field_at texts i → IsSome found
some_field texts i None within is = absurd (field-there texts i within (sym is))
some_field texts i (Some text) within is = refl
