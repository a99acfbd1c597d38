use Rattle.std.proofs.Common.{◌∙◌}
use Rattle.query_templates.proofs.Judging.{refused_inside, refused_outside}
use Rattle.query_templates.proofs.misfit.refused_term.Goals as goal

pub returns-in-Some : goal.returns-in-Some
returns-in-Some c =
    c.refusal.ensures
    ∙ refused_inside c.args.cause c.args.terms.now c.args.at c.in-Some.term.now
    c.in-Some.ensures.lookup.3.0 c.in-Some.ensures.lookup.1 c.place_of.result c.place_of.ensures

pub returns-in-None : goal.returns-in-None
returns-in-None c =
    refused_outside c.args.cause c.args.terms.now c.args.at c.in-None.ensures.lookup.3
