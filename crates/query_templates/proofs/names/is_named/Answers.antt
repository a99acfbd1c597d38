use Rattle.std.proofs.Common.{Some, None, ◌∙◌}
use Rattle.query_templates.proofs.Bytes.{named}
use Rattle.query_templates.proofs.names.is_named.Goals as goal

pub returns-in-Some : goal.returns-in-Some
returns-in-Some c = c.eq.ensures
    ∙ named c.args.text.now c.args.place c.args.name.now (Some c.in-Some.bytes) c.in-Some.ensures

pub returns-in-None : goal.returns-in-None
returns-in-None c =
    named c.args.text.now c.args.place c.args.name.now None c.in-None.ensures
