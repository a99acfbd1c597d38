use Rattle.test_engines.proofs.TestedFolds.{excess_checked}
use Rattle.test_engines.proofs.runner.checked_excess.Goals as goal

pub new-requires : goal.new-requires
new-requires c =
    excess_checked (record { layout = c.in_ok-columns.columns; main = c.in_ok-main.main.value })
    c.in_ok-columns.ensures c.in_ok-main.ensures
