-- Statement. The canonical text of a file.
use Rattle.std.specs.Prelude.{◌≡◌, ◌<◌, ◌≤◌, ℕ, ◌+◌, ◌/◌, ◌%◌, Bool, true, false, ◌&&◌, ◌||◌, ◌==◌}
use Rattle.std.specs.Prelude.{List, [], ◌∷◌, ◌++◌, All, nat_le, nat_lt, codes, None, if◌then◌else◌}
use Rattle.std.specs.List.{flat_map}
use Rattle.std.specs.Fmt.{signed_decimal}
use Rattle.language_base.specs.Limits.{max_level}
use Rattle.language_base.specs.declared.span.Span.{Span}
use Rattle.query_tokens.specs.Raw.{IsWord}
use Rattle.query_forms.specs.Terms.{Terms, none, word, number, string, call}
use Rattle.query_forms.specs.File.{unfit_file, first_large}

-- an upper-case hexadecimal digit
abbrev pub hex_digit : ℕ → ℕ
hex_digit digit = if nat_lt digit 10 then 48 + digit else 55 + digit

-- a byte as it stands in a string: from a space to `~` as it is, but for the quote and the
-- backslash, and every other byte by its two digits
abbrev pub byte_text : ℕ → List ℕ
byte_text byte =
    if nat_le 32 byte && nat_le byte 126 && not_quoted byte then byte ∷ []
    else codes "\\x" ++ hex_digit (byte / 16) ∷ hex_digit (byte % 16) ∷ []
  where
    not_quoted : ℕ → Bool
    not_quoted b = if b == 34 || b == 92 then false else true

-- a string with its quotes
abbrev pub string_text : List ℕ → List ℕ
string_text bytes = 34 ∷ flat_map byte_text bytes ++ 34 ∷ []

-- what stands between a term and those after it
abbrev pub joined : List ℕ → Terms → List ℕ → List ℕ
joined first none others = first
joined first _ others = first ++ codes ", " ++ others

-- arguments, with a comma and a space between them
abbrev pub arguments_text : Terms → List ℕ
arguments_text none = []
arguments_text (word bytes span rest) = joined bytes rest (arguments_text rest)
arguments_text (number value span rest) = joined (signed_decimal value) rest (arguments_text rest)
arguments_text (string bytes span rest) = joined (string_text bytes) rest (arguments_text rest)
arguments_text (call head arguments span rest) =
    joined (head ++ codes "(" ++ arguments_text arguments ++ codes ")") rest (arguments_text rest)

-- top terms, each on a line of its own
abbrev pub file_text : Terms → List ℕ
file_text none = []
file_text (word bytes span rest) = bytes ++ codes "\n" ++ file_text rest
file_text (number value span rest) = signed_decimal value ++ codes "\n" ++ file_text rest
file_text (string bytes span rest) = string_text bytes ++ codes "\n" ++ file_text rest
file_text (call head arguments span rest) =
    head ++ codes "(" ++ arguments_text arguments ++ codes ")" ++ codes "\n" ++ file_text rest

-- the terms without their places
abbrev pub nowhere : Span
nowhere = record { from = 0; to = 0 }

abbrev pub unplaced : Terms → Terms
unplaced none = none
unplaced (word bytes span rest) = word bytes nowhere (unplaced rest)
unplaced (number value span rest) = number value nowhere (unplaced rest)
unplaced (string bytes span rest) = string bytes nowhere (unplaced rest)
unplaced (call head arguments span rest) = call head (unplaced arguments) nowhere (unplaced rest)

-- there is a term
abbrev pub HasTerm : Terms → Type 0
HasTerm none = ⊥
HasTerm _ = Unit {0}

-- words are words, a call has an argument, bytes are bytes, and no term is too deep, where the
-- first have this level
abbrev pub AreWritable : ℕ → Terms → Type 0
AreWritable level none = Unit {0}
AreWritable level (word bytes span rest) =
    (level ≤ max_level) × IsWord bytes × AreWritable level rest
AreWritable level (number value span rest) = (level ≤ max_level) × AreWritable level rest
AreWritable level (string bytes span rest) =
    (level ≤ max_level) × All (λ byte. byte < 256) bytes × AreWritable level rest
AreWritable level (call head arguments span rest) =
    (level ≤ max_level) × IsWord head × HasTerm arguments
    × AreWritable (level + 1) arguments × AreWritable level rest

-- terms that a file may have
pub record IsFile (terms : Terms) : Type 0 where
  pub writable : AreWritable 1 terms
  pub fit : unfit_file 0 terms ≡ None
  pub within : first_large terms ≡ None
