use Rattle.query_templates.proofs.Measuring.{beside_counted}
use Rattle.query_templates.proofs.extent.Extent.beside.Goals as goal

pub returns : goal.returns
returns c = λ one two first second.
    beside_counted c.args.self c.args.other one two _ first second c.saturating_add.ensures
    c.max.ensures
