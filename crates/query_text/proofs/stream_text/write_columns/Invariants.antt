use Rattle.std.proofs.Common.{◌≡◌, ◌++◌, take}
use Rattle.query_text.specs.StreamTexts.{columns_text}
use Rattle.query_text.proofs.stream_text.write_columns.Given as goal

-- the columns so far are written
abbrev pub invariant-columns : goal.invariant-columns
invariant-columns l =
    l.text.items ≡ l.initial.text.items ++ columns_text (take l.column-index l.columns)
