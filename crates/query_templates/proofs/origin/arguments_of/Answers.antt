use Rattle.std.proofs.Common.{sym, ap}
use Rattle.query_trees.specs.Trees.{none}
use Rattle.query_templates.specs.Appended.{arguments_of}
use Rattle.query_templates.proofs.Lists.{call_before}
use Rattle.query_templates.proofs.origin.arguments_of.Goals as goal

pub returns-in-Call : goal.returns-in-Call
returns-in-Call c =
    ap arguments_of (sym (call_before c.args.tree.now c.in-Call.field-0 c.in-Call.arguments
    c.in-Call.field-2 c.deref.result.now none c.in-Call.is c.deref.ensures.value))
