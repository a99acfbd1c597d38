-- Statement. The section that reports a value on no items that is read first.
use Rattle.std.specs.Prelude.{◌≡◌, ℕ, List, [], ◌++◌, codes, Option, Some, None}
use Rattle.query_model.specs.Checked.{CheckedQuery}
use Rattle.report_writer.specs.Texts.{answer_text}
use Rattle.early_values.specs.EarlyValues.{IsFound}
use Rattle.early_values.specs.declared.operands.EarlyValue.{EarlyValue}
use Rattle.hints_run.specs.MarkedPlaces.{marked}

-- the sentence, the place of the left operand, and its value
unfoldable pub early_text : List ℕ → EarlyValue → List ℕ
early_text text early =
    codes "This has a value on no items, which is read before all others:\n"
    ++ marked text early.span ++ codes "    " ++ answer_text (Some early.value)

-- or nothing, if there is none
abbrev pub found_early_text : List ℕ → Option EarlyValue → List ℕ
found_early_text text (Some early) = early_text text early
found_early_text text None = []

-- it reports what is found in the query with this text
abbrev pub IsEarlySection : List ℕ → CheckedQuery → List ℕ → Type 0
IsEarlySection text on section = (found : Option EarlyValue) × IsFound on.main.shape found
    × (section ≡ found_early_text text found)
