-- Statement. The section that reports after which items a query has no value any more.
use Rattle.std.specs.Prelude.{◌≡◌, ℕ, List, [], ◌∷◌, ◌++◌, codes}
use Rattle.std.specs.List.{flat_map}
use Rattle.query_model.specs.Checked.{CheckedQuery}
use Rattle.query_model.specs.Monitors.{monitor_of}
use Rattle.dead_example.specs.Endings.{IsEndingOf}
use Rattle.dead_example.specs.declared.ending.Ending.{Ending}
use Rattle.dead_example.specs.declared.ending.Ending.TheVariants.{Lines, Never, Unknown}
use Rattle.hints_run.specs.ShownLines.{shown_line}

-- the sentence before the lines
unfoldable pub ending_head : List (List ℕ) → List ℕ
ending_head [] = codes "No items lead to a value.\n"
ending_head (line ∷ lines) = codes "No further items lead to a value after these:\n"

-- the sentence and the lines; that there are no such items; or nothing, if this is not known
unfoldable pub ending_text : Ending → List ℕ
ending_text (Lines lines) = ending_head lines.items ++ flat_map shown_line lines.items
ending_text Never = codes "After all items further ones fit the rate of this query.\n"
ending_text Unknown = []

-- it reports the ending of the query
abbrev pub IsEndingSection : CheckedQuery → List ℕ → Type 0
IsEndingSection on section =
    (ending : Ending) × IsEndingOf (monitor_of on) ending × (section ≡ ending_text ending)
