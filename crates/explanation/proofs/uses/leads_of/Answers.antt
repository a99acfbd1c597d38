use Rattle.explanation.proofs.Known.{leads_more}
use Rattle.explanation.proofs.uses.leads_of.Goals as goal

pub lets-preserved : goal.lets-preserved
lets-preserved c =
    leads_more c.args.inside c.args.place c.lets.leads c.insert.new.self c.args.lets.now
    c.lets.one-index c.one-item.result c.one-item.is c.lets-test.true
    c.as_slice.result c.as_slice.ensures c.lead_to-lead.result
    (c.lead_to-lead.ensures _ c.lets.invariant)
    c.lets.invariant c.in_ok-insert.ensures.updates
