use Rattle.type_checker.proofs.SomeVerdict.{none_without}
use Rattle.type_checker.proofs.Verdicts.{one_verdict}
use Rattle.type_checker.proofs.laws.one_verdict.Goals as goal

pub returns : goal.returns
returns c = record { only = one_verdict; none_without = none_without }
