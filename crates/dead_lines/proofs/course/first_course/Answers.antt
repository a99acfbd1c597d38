use Rattle.dead_words.proofs.Ending.{so_if_true}
use Rattle.dead_lines.proofs.LinesOn.{alive_first}
use Rattle.dead_lines.proofs.course.first_course.Goals as goal

pub returns-then-extends-clause-course : goal.returns-then-extends-clause-course
returns-then-extends-clause-course c =
    alive_first c.args.nfa.now (so_if_true c.extends.result c.extends.ensures c.if-extends.true)
