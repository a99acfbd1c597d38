use Rattle.query_compiler.proofs.Shortest.{blamed_found, blamed_share}
use Rattle.explain_run.proofs.Blaming.{draws_blame}
use Rattle.explain_run.proofs.readings.drawn_readings.Goals as goal

pub example-requires : goal.example-requires
example-requires c = blamed_share c.args.blame.now c.ask-ask.result c.ask-ask.ensures c.requires

pub unreachable-requires : goal.unreachable-requires
unreachable-requires c =
    blamed_found c.args.blame.now c.ask-ask.result c.ask-ask.ensures c.requires
    (rw c.in-None.is at c.in_ok-example.ensures)

pub returns : goal.returns
returns c =
    draws_blame c.args.blame.now c.ask-ask.result c.ask-ask.ensures _
    (rw c.in-Some.is at c.in_ok-example.ensures) _ c.drawing_of.ensures
