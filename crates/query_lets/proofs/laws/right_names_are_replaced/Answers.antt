use Rattle.query_lets.proofs.Replacing.{no_name_left}
use Rattle.query_lets.proofs.laws.right_names_are_replaced.Goals as goal

pub returns : goal.returns
returns c = no_name_left
