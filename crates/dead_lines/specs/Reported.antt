-- Statement. What became of the command that writes after which line of the items no further items
-- lead to a value.
use Rattle.std.specs.Prelude.{◌≡◌, ◌⊎◌, ℕ, true, List, [], length, Option, IfOk, IfSome, Result}
use Rattle.std.specs.declared.alloc.AllocError.{AllocError}
use Rattle.std.specs.Io.KnownBytes.{Appends, Consumes}
use Rattle.io_edge.specs.Counts.{next_count}
use Rattle.io_edge.specs.Limits.{max_count}
use Rattle.io_edge.specs.Lines.{lines}
use Rattle.io_edge.specs.Written.{AppendsSome}
use Rattle.query_model.specs.Monitors.{Monitor}
use Rattle.stream_run.specs.Outside.{MeetsOneAtMost, Outside}
use Rattle.stream_run.specs.Written.{Reported}
use Rattle.stream_run.specs.declared.status.Status.{Status}
use Rattle.stream_run.specs.declared.status.Status.TheVariants.{Done, Refused, Usage, QueryFault}
use Rattle.stream_run.specs.declared.status.Status.TheVariants.{ItemFault, SinkFault, Memory, Limit}
use Rattle.dead_lines.specs.DeadLines.{IsDeadLine}
use Rattle.dead_lines.specs.DeadTexts.{dead_text, unknown_text}
use Rattle.dead_lines.specs.declared.course.DeadLine.{DeadLine}

-- the bytes `got` were read, and nothing was written
abbrev pub ReadsAlone : Outside → Outside → List ℕ → Type 0
ReadsAlone old new got = Consumes old.left new.left got × Appends old.taken new.taken []

-- all items were read, and of the text for the first line that is dead this was written
abbrev pub Judges : Monitor → Outside → Outside → (List ℕ → Type 0) → Type 0
Judges monitor old new Writes = (new.ends ≡ next_count old.ends)
    × IfSome old.left (λ bytes. (dead : Option DeadLine)
    × IsDeadLine monitor (lines bytes true) dead × Writes (dead_text dead))

-- How the lines were judged. It is written once, when the end of the items was met.
abbrev pub JudgesLines : Monitor → Status → Outside → Outside → Type 0
JudgesLines monitor Done old new = Judges monitor old new (Appends old.taken new.taken)
JudgesLines monitor ItemFault old new = (new.ends ≡ old.ends) × (got : List ℕ)
    × ReadsAlone old new got
JudgesLines monitor SinkFault old new =
    (MeetsOneAtMost old.ends new.ends × (got : List ℕ) × ReadsAlone old new got)
    ⊎ Judges monitor old new (AppendsSome old.taken new.taken)
JudgesLines monitor Memory old new =
    (MeetsOneAtMost old.ends new.ends × (got : List ℕ) × ReadsAlone old new got)
    ⊎ Judges monitor old new (λ text. Appends old.taken new.taken [])
JudgesLines monitor Limit old new = (new.ends ≡ old.ends) × (got : List ℕ)
    × (length got ≡ max_count) × ReadsAlone old new got
JudgesLines monitor Usage old new = ⊥
JudgesLines monitor QueryFault old new = ⊥
JudgesLines monitor Refused old new = ⊥

-- no item was read, and the text was written whole, in part or not at all
abbrev pub WritesUnknown : Status → Outside → Outside → Type 0
WritesUnknown status old new = (new ≡ record old { taken = new.taken })
    × (line : Result (List ℕ) AllocError) × IfOk line (λ text. text ≡ unknown_text)
    × Reported status line old.taken new.taken

-- The lines are judged, unless the automaton of the query's rate would be too large.
abbrev pub ReportsDeadLine : Monitor → Status → Outside → Outside → Type 0
ReportsDeadLine monitor status old new =
    JudgesLines monitor status old new ⊎ WritesUnknown status old new
