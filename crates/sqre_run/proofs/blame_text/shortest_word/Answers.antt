use Rattle.query_compiler.proofs.Shortest.{blamed_found, blamed_share, found_shortest}
use Rattle.sqre_run.proofs.blame_text.shortest_word.Goals as goal

pub example-requires : goal.example-requires
example-requires c = blamed_share c.args.blame.now c.ask.result c.ask.ensures c.requires

pub unreachable-requires : goal.unreachable-requires
unreachable-requires c =
    blamed_found c.args.blame.now c.ask.result c.ask.ensures c.requires
    (rw c.in-None.is at c.in_ok-shown.ensures)

pub returns : goal.returns
returns c =
    found_shortest c.args.blame.now c.ask.result c.ask.ensures c.in-Some.shown
    (rw c.in-Some.is at c.in_ok-shown.ensures)
