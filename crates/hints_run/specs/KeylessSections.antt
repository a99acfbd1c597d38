-- Statement. The section that reports a collect to which no key comes.
use Rattle.std.specs.Prelude.{◌≡◌, ℕ, List, [], ◌++◌, codes, Option, Some, None}
use Rattle.language_base.specs.declared.span.Span.{Span}
use Rattle.query_model.specs.Checked.{CheckedQuery}
use Rattle.empty_tables.specs.EmptyTables.{IsFound}
use Rattle.hints_run.specs.MarkedPlaces.{marked}

-- the sentence, and the place of the collect
unfoldable pub keyless_text : List ℕ → Span → List ℕ
keyless_text text span =
    codes "No key comes to this table, since each item is of every key:\n" ++ marked text span

-- or nothing, if there is none
abbrev pub found_keyless_text : List ℕ → Option Span → List ℕ
found_keyless_text text (Some span) = keyless_text text span
found_keyless_text text None = []

-- it reports what is found in the query with this text
abbrev pub IsKeylessSection : List ℕ → CheckedQuery → List ℕ → Type 0
IsKeylessSection text on section = (found : Option Span)
    × IsFound on.layout.columns on.main found × (section ≡ found_keyless_text text found)
