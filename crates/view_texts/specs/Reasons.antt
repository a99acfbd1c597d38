-- Statement. Why a line is skipped, in the words of a run.
use Rattle.std.specs.Prelude.{ℕ, List, ◌++◌, codes, decimal}
use Rattle.line_reader.specs.declared.stop.Skip.{Skip}
use Rattle.report_writer.specs.Texts.{cause_name}

-- the cause, and the column
abbrev pub reason_text : Skip → List ℕ
reason_text skip = cause_name skip.cause ++ codes " " ++ decimal skip.column
