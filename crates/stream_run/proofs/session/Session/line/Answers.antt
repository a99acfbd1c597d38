use Rattle.stream_run.proofs.Nodes.{fits_next}
use Rattle.stream_run.proofs.session.Session.line.Goals as goal

pub step-requires-clause-fits : goal.step-requires-clause-fits
step-requires-clause-fits g c =
    fits_next _ c.awaits_header.ensures.checked _ _ _ _ c.requires.ready.query_is
    c.requires.ready.columns_are c.requires.room
    (rw c.schema.ensures.schema at c.in-Ok.ensures.of_schema)
