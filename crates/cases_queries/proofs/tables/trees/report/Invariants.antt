use denote.Shadow.{shadow}
use denote.Text.{Utf8}
use Rattle.cases_queries.proofs.tables.trees.report.Given as goal

-- lines are left, finitely many, and the stream is a text
abbrev pub invariant-lines : goal.invariant-lines
invariant-lines l =
    (goal.iterator-lines).can_next l.line-iterator
    × (goal.iterator-lines).is_finite l.line-iterator × shadow (Utf8 l.stream)
