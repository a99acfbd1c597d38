use Rattle.query_templates.proofs.Measuring.{in_call_counted}
use Rattle.query_templates.proofs.extent.Extent.in_call.Goals as goal

pub returns : goal.returns
returns c = λ inner is.
    in_call_counted c.of_token-around.result c.args.self _ c.args.head inner
    c.of_token-around.ensures is c.saturating_add.ensures c.saturating_add-2.ensures
