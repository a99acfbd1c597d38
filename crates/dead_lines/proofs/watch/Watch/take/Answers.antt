use Rattle.std.proofs.Common.{◌∙◌, refl, sym}
use Rattle.io_edge.specs.Lines.{text}
use Rattle.dead_lines.proofs.LinesOn.{course_still, still_dead}
use Rattle.dead_lines.proofs.Watched.{header_is, header_unread, takes_line}
use Rattle.dead_lines.proofs.watch.Watch.take.Goals as goal

pub returns-then-is_header-clause-takes : goal.returns-then-is_header-clause-takes
returns-then-is_header-clause-takes c =
    let old = c.args.self.now in
    let line = text c.args.line.now in
    takes_line old _ refl line c.requires.room refl (λ nfa before same count course.
    course_still nfa before line old.course (header_unread nfa.cells.layout before line
    (header_is old nfa before same count ∙ sym c.awaits_header-is_header.ensures
    ∙ c.if-is_header.true)) course)

pub returns-in_default-clause-takes : goal.returns-in_default-clause-takes
returns-in_default-clause-takes c =
    let old = c.args.self.now in
    let line = text c.args.line.now in
    takes_line old _ refl line c.requires.room refl (λ nfa before same count course.
    still_dead nfa before line old.course c.in_default.field-0 c.in_default.is course)
