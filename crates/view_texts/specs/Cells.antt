-- Statement. The cells of tables that other programs read.
use Rattle.std.specs.Prelude.{ℕ, ◌==◌, ◌||◌, Bool, if◌then◌else◌, List, [], ◌∷◌, ◌++◌, codes}
use Rattle.std.specs.List.{flat_map, list_any}
use Rattle.view_texts.specs.declared.delimiter.Delimiter.{Delimiter}
use Rattle.view_texts.specs.declared.delimiter.Delimiter.TheVariants.{Comma, Tab}

-- a byte for which a cell stands in quotes: a comma, a quote, a CR or an LF
abbrev pub is_special : ℕ → Bool
is_special byte = byte == 44 || byte == 34 || byte == 13 || byte == 10

-- a byte between quotes: a quote is doubled
abbrev pub doubled : ℕ → List ℕ
doubled byte = if byte == 34 then 34 ∷ 34 ∷ [] else byte ∷ []

-- a cell of CSV
abbrev pub csv_text : List ℕ → List ℕ
csv_text cell =
    if list_any is_special cell then codes "\"" ++ flat_map doubled cell ++ codes "\"" else cell

-- a byte of a cell between tabs
abbrev pub tsv_byte : ℕ → List ℕ
tsv_byte byte =
    if byte == 9 then codes "\\t"
    else (if byte == 10 then codes "\\n"
    else (if byte == 13 then codes "\\r"
    else (if byte == 92 then codes "\\\\" else byte ∷ [])))

-- a cell between tabs
abbrev pub tsv_text : List ℕ → List ℕ
tsv_text cell = flat_map tsv_byte cell

-- a cell of a table
abbrev pub cell_text : Delimiter → List ℕ → List ℕ
cell_text Comma cell = csv_text cell
cell_text Tab cell = tsv_text cell

-- what stands between two cells
abbrev pub separator : Delimiter → ℕ
separator Comma = 44
separator Tab = 9
