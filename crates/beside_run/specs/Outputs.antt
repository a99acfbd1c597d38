-- Statement. What the commands write of the lines of the items, by the status.
use Rattle.std.specs.Prelude.{◌≡◌, ◌⊎◌, ℕ, true, List, [], ◌∷◌, length, IfSome}
use Rattle.std.specs.List.{AllZip}
use Rattle.std.specs.Io.KnownBytes.{Appends, Consumes}
use Rattle.io_edge.specs.Counts.{next_count}
use Rattle.io_edge.specs.Limits.{max_count}
use Rattle.io_edge.specs.Lines.{Shown, lines}
use Rattle.io_edge.specs.Written.{AppendsSome}
use Rattle.query_model.specs.Monitors.{Monitor}
use Rattle.stream_run.specs.Endings.{EndedBy}
use Rattle.stream_run.specs.Meanings.{IsMeaning, Meaning}
use Rattle.stream_run.specs.Outside.{MeetsOneAtMost, Outside}
use Rattle.stream_run.specs.declared.status.Status.{Status}
use Rattle.stream_run.specs.declared.status.Status.TheVariants.{Done, Refused, Usage, QueryFault}
use Rattle.stream_run.specs.declared.status.Status.TheVariants.{ItemFault, SinkFault, Memory, Limit}
use Rattle.beside_lines.specs.Besides.{besides}
use Rattle.beside_lines.specs.LastAnswer.{last_answer}
use Rattle.beside_run.specs.declared.command.Command.{Command}
use Rattle.beside_run.specs.declared.command.Command.TheVariants.{Beside, Last}

-- the text is what is written of these lines beside them, whatever functions give the values of the
-- queries
abbrev pub AreBesides : List Monitor → List Shown → List ℕ → Type 0
AreBesides monitors shown text =
    (meanings : List Meaning) → AllZip IsMeaning monitors meanings → text ≡ besides meanings shown

-- the bytes `got` were read, and nothing was written
abbrev pub ReadsAlone : Outside → Outside → List ℕ → Type 0
ReadsAlone old new got = Consumes old.left new.left got × Appends old.taken new.taken []

-- all items were read, and of the answer on them this was written
abbrev pub Answers : Monitor → Outside → Outside → (List ℕ → Type 0) → Type 0
Answers monitor old new Writes = (new.ends ≡ next_count old.ends)
    × ((meaning : Meaning) → IsMeaning monitor meaning
    → IfSome old.left (λ bytes. Writes (last_answer meaning (lines bytes true))))

-- How the last answer was written. It is written once, when the end of the items was met.
abbrev pub LastEnded : Monitor → Status → Outside → Outside → Type 0
LastEnded monitor Done old new = Answers monitor old new (Appends old.taken new.taken)
LastEnded monitor ItemFault old new = (new.ends ≡ old.ends) × (got : List ℕ)
    × ReadsAlone old new got
LastEnded monitor SinkFault old new =
    (MeetsOneAtMost old.ends new.ends × (got : List ℕ) × ReadsAlone old new got)
    ⊎ Answers monitor old new (AppendsSome old.taken new.taken)
LastEnded monitor Memory old new =
    (MeetsOneAtMost old.ends new.ends × (got : List ℕ) × ReadsAlone old new got)
    ⊎ Answers monitor old new (λ answer. Appends old.taken new.taken [])
LastEnded monitor Limit old new = (new.ends ≡ old.ends) × (got : List ℕ) × (length got ≡ max_count)
    × ReadsAlone old new got
LastEnded monitor Usage old new = ⊥
LastEnded monitor QueryFault old new = ⊥
LastEnded monitor Refused old new = ⊥

-- what a command does for queries on the items
abbrev pub Carries : Command → List Monitor → Status → Outside → Outside → Type 0
Carries Beside monitors status old new = EndedBy (AreBesides monitors) status old new
Carries Last (monitor ∷ []) status old new = LastEnded monitor status old new
Carries Last monitors status old new = ⊥
