-- Statement. In which units the answers of a query are, and the line that says so.
use Rattle.std.specs.Prelude.{ℕ, List, ◌++◌, codes, decimal, Option, Some, None}
use Rattle.answer_units.specs.Units.{answer_units}
use Rattle.answer_units.specs.declared.units.Units.{Units}
use Rattle.answer_units.specs.declared.units.Units.TheVariants.{Digits, Whole, Mixed}
use Rattle.query_model.specs.Monitors.{Monitor}

-- the units of the answers of a monitor's query
abbrev pub units_of : Monitor → Units
units_of monitor = answer_units monitor.layout.columns monitor.query

-- the line that says units
abbrev pub units_text : Units → List ℕ
units_text (Digits digits) = codes "digits " ++ decimal digits ++ codes "\n"
units_text Whole = codes "whole\n"
units_text Mixed = codes "mixed\n"

-- how many digits after the point numbers in units have; none where it cannot be told
abbrev pub digits_of : Units → ℕ
digits_of (Digits digits) = digits
digits_of Whole = 0
digits_of Mixed = 0

-- how many are shown: those that are asked for, or else those of the units
abbrev pub digits_for : Option ℕ → Monitor → ℕ
digits_for (Some digits) monitor = digits
digits_for None monitor = digits_of (units_of monitor)
