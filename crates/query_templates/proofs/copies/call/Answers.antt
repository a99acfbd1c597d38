use Rattle.query_trees.proofs.Rows.{tree_before-Call}
use Rattle.query_templates.proofs.copies.call.Goals as goal

pub returns : goal.returns
returns c = tree_before-Call c.args.head c.args.arguments c.args.span
