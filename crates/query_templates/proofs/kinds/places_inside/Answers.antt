use Rattle.query_templates.proofs.Taking.{inner_found, inner_none}
use Rattle.query_templates.proofs.kinds.places_inside.Goals as goal

pub returns-in-Some : goal.returns-in-Some
returns-in-Some c =
    inner_found c.args.text.now c.args.at c.args.head c.args.count c.in-Some.word
    c.in-Some.ensures c.places_of.result c.places_of.ensures

pub returns-in-None : goal.returns-in-None
returns-in-None c =
    inner_none c.args.text.now c.args.at c.args.head c.args.count c.in-None.ensures
