-- For the prover. What a line is cut into, and how.
use Rattle.std.specs.Prelude.{◌≡◌, ◌+◌, ℕ, Bool, ◌||◌, List, [], length, Option, None, Some}
use Rattle.std.specs.List.{slice_split}
use Rattle.line_reader.specs.CutLines.{is_break, is_comma, is_quote, texts_in}
use Rattle.line_reader.specs.declared.parts.Parts.{Parts}
use Rattle.line_reader.specs.declared.parts.Parts.TheVariants.{Plain, Quoted}

-- a quote, or what may end a record
abbrev pub is_special : ℕ → Bool
is_special byte = is_quote byte || is_break byte

-- this many commas end fields of the line, and each comma does where it is plain
abbrev pub ArePartsOf : List ℕ → Parts → Type 0
ArePartsOf line (Plain commas) =
    (texts_in line ≡ slice_split is_comma line) × (commas + 1 ≡ length (texts_in line))
ArePartsOf line (Quoted commas) = commas + 1 ≡ length (texts_in line)

-- what stands between the commas of what is left of a line, if a field is left
abbrev pub split_of : Option (List ℕ) → List (List ℕ)
split_of None = []
split_of (Some bytes) = slice_split is_comma bytes
