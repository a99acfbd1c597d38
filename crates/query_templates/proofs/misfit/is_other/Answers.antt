use Rattle.std.proofs.Common.{refl, ◌∙◌}
use Rattle.std.specs.Option.{option_copied}
use Rattle.query_templates.proofs.Judging.{call_other, none_said}
use Rattle.query_templates.proofs.misfit.is_other.Goals as goal

pub returns-in-Call : goal.returns-in-Call
returns-in-Call c =
    none_said c.places_inside.result c.is_none.result c.is_none.ensures
    ∙ call_other c.args.text.now (option_copied c.args.parameters) c.args.place c.args.one
    c.args.tree.now c.in-Call.head c.in-Call.arguments c.in-Call.field-2
    c.in-Call.arguments.items c.in-Call.is refl c.len.result
    (c.len.ensures ∙ c.in-Call.arguments.ok.0) c.places_inside.result c.places_inside.ensures
