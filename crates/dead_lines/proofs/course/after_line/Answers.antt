use Rattle.std.proofs.Common.{◌≡◌, ◌∙◌, ◌==◌, false, length, sym}
use Rattle.io_edge.specs.Lines.{text}
use Rattle.dead_words.proofs.Searching.{none_if}
use Rattle.dead_lines.proofs.LinesOn.{alive_still, course_of_item, reads_empty, reads_skip}
use Rattle.dead_lines.proofs.course.after_line.Goals as goal

pub returns-then-is_empty-clause-course : goal.returns-then-is_empty-clause-course
returns-then-is_empty-clause-course c = λ before header number alive.
    alive_still c.args.nfa.now before (text c.args.line.now) c.args.state
    (reads_empty c.args.nfa.now before c.args.line.now header
    (none_if c.args.line.now c.is_empty.result c.is_empty.ensures c.if-is_empty.true)) alive

pub returns-in-Ok-clause-course : goal.returns-in-Ok-clause-course
returns-in-Ok-clause-course c =
    let some : (length c.args.line.now == 0) ≡ false =
    sym c.is_empty.ensures ∙ c.if-is_empty.false in
    course_of_item c.args.nfa.now _ c.args.line.now c.in-Ok.item c.args.state c.args.number
    (rw (c.schema.ensures, c.cells.ensures) at c.in-Ok.ensures.of_schema) some
    (rw (c.schema.ensures, c.cells.ensures) at c.in-Ok.ensures.item) c.after_item.ensures.course

pub returns-in-Err-Skip-clause-course : goal.returns-in-Err-Skip-clause-course
returns-in-Err-Skip-clause-course c = λ before header number alive.
    let some : (length c.args.line.now == 0) ≡ false =
    sym c.is_empty.ensures ∙ c.if-is_empty.false in
    let skipped = rw (c.schema.ensures, c.cells.ensures)
    at (rw c.in-Err-Skip.field-0-is at c.in-Err-Skip.ensures.skipped) in
    alive_still c.args.nfa.now before (text c.args.line.now) c.args.state
    (reads_skip c.args.nfa.now before c.args.line.now header c.in-Err-Skip.field-0-0 some skipped)
    alive
