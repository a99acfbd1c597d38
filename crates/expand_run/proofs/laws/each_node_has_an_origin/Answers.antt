use Rattle.expand_run.proofs.Nodes.{as_many}
use Rattle.expand_run.proofs.laws.each_node_has_an_origin.Goals as goal

pub returns : goal.returns
returns c = as_many c.origins_are_of_the_plain_nodes.ensures
