use Rattle.query_templates.proofs.Tearing.{torn_known}
use Rattle.query_templates.proofs.torn.is_known.Goals as goal

pub returns-then-is_alike : goal.returns-then-is_alike
returns-then-is_alike c =
    torn_known c.args.known.now c.known.other-index _ c.args.one c.known-test.true
    c.if-is_alike.ensures.0 c.if-is_alike.ensures.1
