-- Statement. The answer on all items of an input.
use Rattle.std.specs.Prelude.{◌≡◌, ℕ, List, ◌++◌}
use Rattle.io_edge.specs.Lines.{Shown}
use Rattle.item_schema.specs.Layout.{Layout}
use Rattle.report_writer.specs.Texts.{answer_text}
use Rattle.stream_run.specs.Meanings.{Meaning}
use Rattle.stream_run.specs.Output.{items_of, value_after}

-- the text of the value on all items of these lines; of no items, that of the value on none
abbrev pub last_answer : Meaning → List Shown → List ℕ
last_answer meaning shown = answer_text (value_after meaning shown)

-- the lines that come after these bring no more items
abbrev pub AreNoItems : Layout → List Shown → List Shown → Type 0
AreNoItems layout before others = items_of layout (before ++ others) ≡ items_of layout before
