-- Statement. Bytes spelled in UTF-8: characters stand as they are, but for some of ASCII, and a
-- byte that belongs to no character by its two digits.
use Rattle.std.specs.Prelude.{ℕ, zero, suc, ◌/◌, ◌%◌, ◌==◌, ◌||◌, nat_lt, Bool, if◌then◌else◌}
use Rattle.std.specs.Prelude.{List, [], ◌∷◌, ◌++◌, codes, Option, Some, None}
use Rattle.std.specs.Option.{unwrap_or}
use Rattle.report_writer.specs.Texts.{hex_digit}
use Rattle.view_texts.specs.Utf8.{following}
use Rattle.view_texts.specs.declared.spelling.Spelling.{Spelling}
use Rattle.view_texts.specs.declared.spelling.Spelling.TheVariants.{Json, Terminal}

-- a control character of ASCII
abbrev pub is_control : ℕ → Bool
is_control byte = nat_lt byte 32 || byte == 127

-- the two digits of a byte
abbrev pub hex_text : ℕ → List ℕ
hex_text byte = hex_digit (byte / 16) ∷ hex_digit (byte % 16) ∷ []

-- a character of ASCII: in a string of JSON a quote and a backslash stand behind a backslash, and
-- control characters by their digits
abbrev pub ascii_text : Spelling → ℕ → List ℕ
ascii_text Json byte =
    if byte == 34 || byte == 92 then 92 ∷ byte ∷ []
    else (if is_control byte then codes "\\u00" ++ hex_text byte else byte ∷ [])
ascii_text Terminal byte = if is_control byte then codes "\\x" ++ hex_text byte else byte ∷ []

-- a byte that belongs to no character; in a string of JSON its backslash stands behind another
abbrev pub stray_text : Spelling → ℕ → List ℕ
stray_text Json byte = codes "\\\\x" ++ hex_text byte
stray_text Terminal byte = codes "\\x" ++ hex_text byte

-- the first byte of a character that has so many after it, or a byte of none
abbrev pub first_text : Spelling → ℕ → Option ℕ → List ℕ
first_text spelling byte None = stray_text spelling byte
first_text spelling byte (Some zero) = ascii_text spelling byte
first_text spelling byte (Some (suc more)) = byte ∷ []

-- bytes, of which so many at the front belong to a character that has begun
abbrev pub spelled_on : Spelling → ℕ → List ℕ → List ℕ
spelled_on spelling left [] = []
spelled_on spelling (suc left) (byte ∷ bytes) = byte ∷ spelled_on spelling left bytes
spelled_on spelling zero (byte ∷ bytes) =
    first_text spelling byte (following byte bytes)
    ++ spelled_on spelling (unwrap_or (following byte bytes) 0) bytes

-- bytes
abbrev pub spelled : Spelling → List ℕ → List ℕ
spelled spelling bytes = spelled_on spelling 0 bytes

-- a string of JSON
abbrev pub json_string : List ℕ → List ℕ
json_string bytes = codes "\"" ++ spelled Json bytes ++ codes "\""
