use Rattle.std.proofs.Common.{◌≡◌, length}
use Rattle.cases_rates.proofs.query.columns_of.Given as goal

-- as many columns as names
abbrev pub invariant-names : goal.invariant-names
invariant-names l = length l.at.items ≡ l.name-index
