-- What `csv` reads of a line without line breaks.
use Rattle.std.proofs.Common.{◌≡◌, ◌≢◌, ◌⊎◌, inl, inr, ℕ, ◌<◌, ◌≤◌, ◌==◌, Bool, true, false}
use Rattle.std.proofs.Common.{if◌then◌else◌, List, [], ◌∷◌, ◌++◌, length, drop, Option, Some, None}
use Rattle.std.proofs.Common.{option_map, Err, refl, sym, subst, ap, ◌∙◌, append_assoc, arith}
use Rattle.std.specs.List.{list_any, starts_with}
use Rattle.std.proofs.lemmas.Bool.{cases_lt, ne_eqb, or_from, or_parts}
use Rattle.std.proofs.lemmas.Bool.Decides.{nat_tests}
use Rattle.csv.specs.Machine.{Read, next_record, step, ends_at_end, is_end, fields_after}
use Rattle.csv.specs.Machine.{field_after}
use Rattle.csv.specs.Reading.{default_config, is_bom, strip_bom}
use Rattle.csv.specs.declared.parser.State.{State}
use Rattle.csv.specs.declared.parser.State.TheVariants as st
use Rattle.csv.specs.declared.parser.Action.{Action}
use Rattle.csv.specs.declared.parser.Action.TheVariants as act
use Rattle.line_reader.specs.CutLines.{ends_field, is_break, is_kept, mark, place_after, texts_at}
use Rattle.line_reader.specs.CutLines.{texts_in}
use Rattle.item_schema.specs.declared.column.Column.{Column}
use Rattle.line_reader.specs.declared.quote_state.QuoteState.{QuoteState}
use Rattle.line_reader.specs.declared.quote_state.QuoteState.TheVariants.{Front, Plain, Quoted}
use Rattle.line_reader.specs.declared.quote_state.QuoteState.TheVariants.{Closed}
use Rattle.line_reader.specs.declared.stop.Cause.TheVariants as cause
use Rattle.line_reader.specs.Reading.{fields_of, item_of, item_of_record, record_of, skip}

-- what follows where a byte has been taken
abbrev pub continues : List (List ℕ) → List ℕ → ℕ → List ℕ → State × Action → Option Read
continues fields bytes byte rest taken =
    if is_end taken.1 then Some (fields_after taken.1 fields bytes, taken.0, rest)
    else next_record default_config taken.0 (fields_after taken.1 fields bytes)
    (field_after taken.1 byte bytes) rest

-- the state of csv's machine at a place
abbrev state_of : QuoteState → State
state_of Front = st.StartField
state_of Plain = st.InField
state_of Quoted = st.InQuoted
state_of Closed = st.AfterQuote

-- a field is at hand there
at_hand : (place : QuoteState) → ends_at_end (state_of place) ≡ true
at_hand Front = refl
at_hand Plain = refl
at_hand Quoted = refl
at_hand Closed = refl

-- what a byte that is no line break does
abbrev taken : Bool → Bool → QuoteState → State × Action
taken ends kept next = if ends then (st.StartField, act.EndField)
    else (state_of next, if kept then act.Copy else act.Skip)

-- at the front of a field, in it, between quotes and after one
step_front : (byte : ℕ) → is_break byte ≡ false → step default_config st.StartField byte
    ≡ taken (ends_field Front byte) (is_kept Front byte) (place_after Front byte)
step_front byte other = grind (arith, nat_tests)

step_plain : (byte : ℕ) → is_break byte ≡ false → step default_config st.InField byte
    ≡ taken (ends_field Plain byte) (is_kept Plain byte) (place_after Plain byte)
step_plain byte other = grind (arith, nat_tests)

step_quoted : (byte : ℕ) → is_break byte ≡ false → step default_config st.InQuoted byte
    ≡ taken (ends_field Quoted byte) (is_kept Quoted byte) (place_after Quoted byte)
step_quoted byte other = grind (arith, nat_tests)

step_after : (byte : ℕ) → is_break byte ≡ false → step default_config st.AfterQuote byte
    ≡ taken (ends_field Closed byte) (is_kept Closed byte) (place_after Closed byte)
step_after byte other = grind (arith, nat_tests)

step_at : (place : QuoteState) (byte : ℕ) → is_break byte ≡ false
    → step default_config (state_of place) byte
    ≡ taken (ends_field place byte) (is_kept place byte) (place_after place byte)
step_at Front = step_front
step_at Plain = step_plain
step_at Quoted = step_quoted
step_at Closed = step_after

-- a record begins as a field does
step_begin : (byte : ℕ) → is_break byte ≡ false
    → step default_config st.StartRecord byte ≡ step default_config st.StartField byte
step_begin byte other = grind (arith, nat_tests)

-- the record that is read of texts
abbrev texts_read : List (List ℕ) → List (List ℕ) → Option Read
texts_read fields texts = Some (fields ++ texts, st.StartRecord, [])

-- from a place on, the texts after the fields so far are read
next_record-texts : (place : QuoteState) (fields : List (List ℕ)) (text bytes : List ℕ)
    → list_any is_break bytes ≡ false
    → next_record default_config (state_of place) fields text bytes
    ≡ texts_read fields (texts_at place text bytes)
unfolding next_record texts_at
next_record-texts place fields text [] none = rw (at_hand place) refl
next_record-texts place fields text (byte ∷ bytes) none =
    let parts = or_parts (is_break byte) (list_any is_break bytes) none in
    ap (continues fields text byte bytes) (step_at place byte parts.0)
    ∙ by_byte (ends_field place byte) (is_kept place byte) (place_after place byte)
    (λ next fields text. next_record-texts next fields text bytes parts.1)
  where
    by_byte : (ends kept : Bool) (next : QuoteState)
        → ((next : QuoteState) (fields : List (List ℕ)) (text : List ℕ)
        → next_record default_config (state_of next) fields text bytes
        ≡ texts_read fields (texts_at next text bytes))
        → continues fields text byte bytes (taken ends kept next)
        ≡ texts_read fields (if ends then text ∷ texts_at Front [] bytes
        else texts_at next (if kept then text ++ byte ∷ [] else text) bytes)
    by_byte true kept next after =
        after Front (fields ++ text ∷ []) [] ∙ ap (λ texts. Some (texts, st.StartRecord, []))
        (append_assoc fields (text ∷ []) (texts_at Front [] bytes))
    by_byte false true next after = after next fields (text ++ byte ∷ [])
    by_byte false false next after = after next fields text

-- the first record of bytes
abbrev first_record : List ℕ → Option (List (List ℕ))
first_record bytes =
    option_map (λ (read : Read). read.0) (next_record default_config st.StartRecord [] [] bytes)

-- bytes without line breaks have the record of their texts, if they are some
record-texts : (bytes : List ℕ) → 0 < length bytes → list_any is_break bytes ≡ false
    → first_record bytes ≡ Some (texts_in bytes)
unfolding next_record
record-texts [] some none = absurd (omega arith)
record-texts (byte ∷ bytes) some none =
    let parts = or_parts (is_break byte) (list_any is_break bytes) none in
    ap (λ found. option_map (λ (read : Read). read.0) found)
    (ap (continues [] [] byte bytes) (step_begin byte parts.0)
    ∙ next_record-texts Front [] [] (byte ∷ bytes) none)

-- and none where they are none
no_record : (bytes : List ℕ) → length bytes ≡ 0 → first_record bytes ≡ None
unfolding next_record
no_record [] none = refl
no_record (byte ∷ bytes) none = absurd (omega arith)

-- so has a line, without the mark at its front
pub record_of-texts : (line : List ℕ) → 0 < length (strip_bom line)
    → list_any is_break (strip_bom line) ≡ false → record_of line ≡ Some (texts_in (strip_bom line))
record_of-texts line some none = record-texts (strip_bom line) some none

-- a line without line breaks has no CR
no_return : (bytes : List ℕ) → list_any is_break bytes ≡ false
    → list_any (λ byte. byte == 13) bytes ≡ false
no_return [] none = refl
no_return (byte ∷ bytes) none =
    let parts = or_parts (is_break byte) (list_any is_break bytes) none in
    or_from (byte == 13) (list_any (λ byte. byte == 13) bytes)
    (or_parts (byte == 13) (byte == 10) parts.0).0 (no_return bytes parts.1)

-- nor does the mark have one
line_return : (line : List ℕ) → list_any is_break (strip_bom line) ≡ false
    → list_any (λ byte. byte == 13) line ≡ false
unfolding strip_bom
line_return [] none = refl
line_return (a ∷ []) none = no_return (a ∷ []) none
line_return (a ∷ b ∷ []) none = no_return (a ∷ b ∷ []) none
line_return (a ∷ b ∷ c ∷ rest) none = by_mark (is_bom a b c) refl none
  where
    by_mark : (mark : Bool) → is_bom a b c ≡ mark
        → list_any is_break (if mark then rest else a ∷ b ∷ c ∷ rest) ≡ false
        → list_any (λ byte. byte == 13) (a ∷ b ∷ c ∷ rest) ≡ false
    by_mark true is none = let after = no_return rest none in grind (arith, nat_tests)
    by_mark false is none = no_return (a ∷ b ∷ c ∷ rest) none

-- the item of a line with a text for each column
pub item_of-texts : (columns : List Column) (line : List ℕ) → 0 < length (strip_bom line)
    → list_any is_break (strip_bom line) ≡ false
    → length (texts_in (strip_bom line)) ≡ length columns
    → item_of columns line ≡ fields_of 1 columns (texts_in (strip_bom line))
item_of-texts columns line some none each =
    let texts : (length (texts_in (strip_bom line)) == length columns) ≡ true =
    grind (arith, nat_tests) in
    rw (line_return line none, record_of-texts line some none, texts) refl

-- and the cause where it has not
pub item_of-columns : (columns : List Column) (line : List ℕ)
    → list_any is_break (strip_bom line) ≡ false
    → (0 < length (strip_bom line) → length (texts_in (strip_bom line)) ≢ length columns)
    → item_of columns line ≡ Err (skip cause.Columns 0)
item_of-columns columns line none other =
    rw (line_return line none) (by_length (cases_lt 0 (length (strip_bom line))))
  where
    by_length : (0 < length (strip_bom line)) ⊎ (length (strip_bom line) ≤ 0)
        → item_of_record columns (record_of line) ≡ Err (skip cause.Columns 0)
    by_length (inl some) =
        let texts : (length (texts_in (strip_bom line)) == length columns) ≡ false =
        ne_eqb _ _ (other some) in
        rw (record_of-texts line some none, texts) refl
    by_length (inr empty) =
        let nothing : length (strip_bom line) ≡ 0 = omega arith in
        rw (no_record (strip_bom line) nothing) refl

-- nothing is taken off a line with no byte order mark
pub strip_bom-none : (line : List ℕ) → starts_with ◌==◌ line mark ≡ false → strip_bom line ≡ line
unfolding strip_bom
strip_bom-none [] none = refl
strip_bom-none (a ∷ []) none = refl
strip_bom-none (a ∷ b ∷ []) none = refl
strip_bom-none (a ∷ b ∷ c ∷ rest) none = grind (arith, nat_tests)

-- and the mark of one that has it
pub strip_bom-mark : (line : List ℕ) → starts_with ◌==◌ line mark ≡ true
    → (3 ≤ length line) × (strip_bom line ≡ drop 3 line)
unfolding strip_bom
strip_bom-mark [] some = absurd (cc)
strip_bom-mark (a ∷ []) some = absurd (grind (arith, nat_tests))
strip_bom-mark (a ∷ b ∷ []) some = absurd (grind (arith, nat_tests))
strip_bom-mark (a ∷ b ∷ c ∷ rest) some = (omega arith, grind (arith, nat_tests))

-- the same of what is left of a line without the mark
pub cut_item_of : (columns : List Column) (line bytes : List ℕ) → bytes ≡ strip_bom line
    → 0 < length bytes → list_any is_break bytes ≡ false
    → length (texts_in bytes) ≡ length columns
    → item_of columns line ≡ fields_of 1 columns (texts_in bytes)
cut_item_of columns line bytes is =
    subst (λ b. 0 < length b → list_any is_break b ≡ false → length (texts_in b) ≡ length columns
    → item_of columns line ≡ fields_of 1 columns (texts_in b))
    (sym is) (item_of-texts columns line)

pub uncut_item_of : (columns : List Column) (line bytes : List ℕ) → bytes ≡ strip_bom line
    → list_any is_break bytes ≡ false
    → (0 < length bytes → length (texts_in bytes) ≢ length columns)
    → item_of columns line ≡ Err (skip cause.Columns 0)
uncut_item_of columns line bytes is =
    subst (λ b. list_any is_break b ≡ false → (0 < length b → length (texts_in b) ≢ length columns)
    → item_of columns line ≡ Err (skip cause.Columns 0))
    (sym is) (item_of-columns columns line)
