use Rattle.dead_example.proofs.InCells.{ending_lines}
use Rattle.dead_example.proofs.ending.ending_in.Goals as goal

pub lines_of-requires : goal.lines_of-requires
lines_of-requires c =
    let end = rw c.in-Ends.is at (c.in_ok-places.ensures c.requires.0 c.requires.1) in
    rw (c.cells.ensures, c.deref.ensures.value) end.places_of

pub returns-in-Some : goal.returns-in-Some
returns-in-Some c = λ rate are.
    ending_lines c.args.nfa.now.cells rate _ _
    (rw c.in-Ends.is at (c.in_ok-places.ensures rate are))
    (rw (c.cells.ensures, c.deref.ensures.value)
    at (rw c.in-Some.is at c.in_ok-lines-in-Ends.ensures))

pub returns-in-GoesOn : goal.returns-in-GoesOn
returns-in-GoesOn c = λ rate are. rw c.in-GoesOn.is at (c.in_ok-places.ensures rate are)
