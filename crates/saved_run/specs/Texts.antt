-- Statement. What is written of a snapshot after answers, and that one is bad.
use Rattle.std.specs.Prelude.{ℕ, List, ◌++◌, codes, decimal, length}
use Rattle.runner_snapshot.specs.declared.flaw.Flaw.{Flaw}
use Rattle.runner_snapshot.specs.declared.flaw.Flaw.TheVariants.{Long, Head, Query, Form, Unfit}

-- a flaw by its name
abbrev pub flaw_name : Flaw → List ℕ
flaw_name Long = codes "long"
flaw_name Head = codes "head"
flaw_name Query = codes "query"
flaw_name Form = codes "form"
flaw_name Unfit = codes "unfit"

-- a snapshot that is bad
abbrev pub flaw_text : Flaw → List ℕ
flaw_text flaw = codes "bad snapshot " ++ flaw_name flaw ++ codes "\n"

-- how many bytes of a snapshot come after this line
abbrev pub length_text : ℕ → List ℕ
length_text count = codes "snapshot " ++ decimal count ++ codes "\n"

-- the line and the bytes
abbrev pub snapshot_text : List ℕ → List ℕ
snapshot_text bytes = length_text (length bytes) ++ bytes
