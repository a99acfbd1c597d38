-- Statement. How a run ended, by its status, where `Says lines text` is what its texts are to the
-- lines that they are written for.
use Rattle.std.specs.Prelude.{◌≡◌, ℕ, true, false, List, ◌++◌, length, IfSome}
use Rattle.std.specs.Io.KnownBytes.{Appends, Consumes}
use Rattle.io_edge.specs.Counts.{Rose, next_count}
use Rattle.io_edge.specs.Limits.{max_count}
use Rattle.io_edge.specs.Lines.{Shown, lines}
use Rattle.io_edge.specs.Written.{AppendsSome}
use Rattle.stream_run.specs.Outside.{MeetsOneAtMost, Outside}
use Rattle.stream_run.specs.declared.status.Status.{Status}
use Rattle.stream_run.specs.declared.status.Status.TheVariants.{Done, Refused, Usage, QueryFault}
use Rattle.stream_run.specs.declared.status.Status.TheVariants.{ItemFault, SinkFault, Memory, Limit}

-- the one list of lines begins the other
abbrev pub Begins : List Shown → List Shown → Type 0
Begins some all = (others : List Shown) × (all ≡ some ++ others)

-- a text for these lines was written
abbrev pub Writes : (List Shown → List ℕ → Type 0) → Outside → Outside → List Shown → Type 0
Writes Says old new shown = (text : List ℕ) × Says shown text × Appends old.taken new.taken text

-- the bytes `got` were read, and a text was written for lines with which the whole lines among them
-- begin
pub record WritesSome (Says : List Shown → List ℕ → Type 0) (old new : Outside) (got : List ℕ)
    : Type 0 where
  pub some : List Shown
  pub whole : Begins some (lines got false)
  pub wrote : Writes Says old new some

-- the bytes `got` were read, and a front of a text was written: of one for lines with which theirs
-- begin, and with which the whole lines among them begin if the end of the items was not met
pub record WritesPart (Says : List Shown → List ℕ → Type 0) (old new : Outside) (got : List ℕ)
    : Type 0 where
  pub some : List Shown
  pub text : List ℕ
  pub said : Says some text
  pub wrote : AppendsSome old.taken new.taken text
  pub begins : Begins some (lines got true)
  pub no_end : (Rose old.ends new.ends → ⊥) → Begins some (lines got false)

-- How the run ended. Usage, a fault of the query and a refusal come before any run. After the first
-- end of the items nothing is read.
abbrev pub EndedBy : (List Shown → List ℕ → Type 0) → Status → Outside → Outside → Type 0
EndedBy Says Done old new = (new.ends ≡ next_count old.ends)
    × IfSome old.left (λ bytes. Writes Says old new (lines bytes true))
EndedBy Says ItemFault old new = (new.ends ≡ old.ends) × (got : List ℕ)
    × Consumes old.left new.left got × Writes Says old new (lines got false)
EndedBy Says SinkFault old new = MeetsOneAtMost old.ends new.ends × (got : List ℕ)
    × Consumes old.left new.left got × WritesPart Says old new got
EndedBy Says Memory old new = MeetsOneAtMost old.ends new.ends × (got : List ℕ)
    × Consumes old.left new.left got × WritesSome Says old new got
EndedBy Says Limit old new = (new.ends ≡ old.ends) × (got : List ℕ) × (length got ≡ max_count)
    × Consumes old.left new.left got × Writes Says old new (lines got false)
EndedBy Says Usage old new = ⊥
EndedBy Says QueryFault old new = ⊥
EndedBy Says Refused old new = ⊥
