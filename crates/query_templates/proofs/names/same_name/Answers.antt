use Rattle.std.proofs.Common.{Some, None, ◌∙◌}
use Rattle.query_templates.proofs.Bytes.{same}
use Rattle.query_templates.proofs.names.same_name.Goals as goal

pub returns-in-Some : goal.returns-in-Some
returns-in-Some c = c.is_named.ensures
    ∙ same c.args.text.now c.args.one c.args.other (Some c.in-Some.bytes) c.in-Some.ensures

pub returns-in-None : goal.returns-in-None
returns-in-None c = same c.args.text.now c.args.one c.args.other None c.in-None.ensures
