use Rattle.query_model.specs.Monitors.{monitor_of}
use Rattle.dead_example.proofs.Values.{ending_of_result}
use Rattle.dead_example.proofs.ending.ending_of.Goals as goal

pub ending_in-requires : goal.ending_in-requires
ending_in-requires c = let of = rw c.in-Some.is at c.in_ok-nfa.ensures in (_, of.sets)

pub returns-in-Some : goal.returns-in-Some
returns-in-Some c =
    let of = rw (c.schema.ensures.schema, c.main.ensures.main)
    at (rw c.in-Some.is at c.in_ok-nfa.ensures) in
    ending_of_result (monitor_of c.args.query.now) c.main.ensures.checked.clear _ _ of.layout_is
    (c.ending_in.ensures _ of.sets)
