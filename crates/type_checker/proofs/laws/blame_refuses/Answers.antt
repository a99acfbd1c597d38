use Rattle.type_checker.proofs.FirstNodes.{first_refused}
use Rattle.type_checker.proofs.Judging.{blame_refused}
use Rattle.type_checker.proofs.Questions.{two_readings}
use Rattle.type_checker.proofs.laws.blame_refuses.Goals as goal

pub returns : goal.returns
returns c = record {
  first = λ nodes node rule is. first_refused node rule nodes is;
  refused = blame_refused;
  readings = two_readings;
}
