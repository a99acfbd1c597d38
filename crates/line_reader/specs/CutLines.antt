-- Statement. The texts of a line: what stands between its commas, but for those between quotes.
use Rattle.std.specs.Prelude.{ℕ, Bool, true, false, ◌==◌, ◌||◌, not, if◌then◌else◌, List, [], ◌∷◌}
use Rattle.std.specs.Prelude.{◌++◌, Option, None, Some}
use Rattle.line_reader.specs.declared.quote_state.QuoteState.{QuoteState}
use Rattle.line_reader.specs.declared.quote_state.QuoteState.TheVariants.{Front, Plain, Quoted}
use Rattle.line_reader.specs.declared.quote_state.QuoteState.TheVariants.{Closed}

-- a comma
abbrev pub is_comma : ℕ → Bool
is_comma byte = byte == 44

-- a quote
abbrev pub is_quote : ℕ → Bool
is_quote byte = byte == 34

-- a CR or an LF
abbrev pub is_break : ℕ → Bool
is_break byte = byte == 13 || byte == 10

-- a byte order mark
abbrev pub mark : List ℕ
mark = 239 ∷ 187 ∷ 191 ∷ []

-- the byte ends the field: a comma that is not between quotes
abbrev pub ends_field : QuoteState → ℕ → Bool
ends_field Front byte = is_comma byte
ends_field Plain byte = is_comma byte
ends_field Quoted byte = false
ends_field Closed byte = is_comma byte

-- the byte is one of the field: all but a quote that opens it or stands in it before another byte
abbrev pub is_kept : QuoteState → ℕ → Bool
is_kept Front byte = not (is_quote byte)
is_kept Plain byte = true
is_kept Quoted byte = not (is_quote byte)
is_kept Closed byte = true

-- the place after a byte: a quote opens a field only at its front, and two of them continue it
abbrev pub place_after : QuoteState → ℕ → QuoteState
place_after Front byte = if is_comma byte then Front else if is_quote byte then Quoted else Plain
place_after Plain byte = if is_comma byte then Front else Plain
place_after Quoted byte = if is_quote byte then Closed else Quoted
place_after Closed byte = if is_comma byte then Front else if is_quote byte then Quoted else Plain

-- the texts of bytes that begin at a place of a field, of which this text stands before them
unfoldable pub texts_at : QuoteState → List ℕ → List ℕ → List (List ℕ)
texts_at place text [] = text ∷ []
texts_at place text (byte ∷ bytes) =
    if ends_field place byte then text ∷ texts_at Front [] bytes
    else texts_at (place_after place byte)
    (if is_kept place byte then text ++ byte ∷ [] else text) bytes

-- the texts of a line
abbrev pub texts_in : List ℕ → List (List ℕ)
texts_in line = texts_at Front [] line

-- those of what is left of a line, if a field is left
abbrev pub texts_of : Option (List ℕ) → List (List ℕ)
texts_of None = []
texts_of (Some bytes) = texts_in bytes
