-- Statement. What is written of lines, with what runs of queries write for them beside each.
use Rattle.std.specs.Prelude.{◌≡◌, ℕ, false, List, [], ◌∷◌, ◌++◌}
use Rattle.std.specs.List.{AllZip, flat_map}
use Rattle.io_edge.specs.Lines.{Shown, text, long}
use Rattle.rate_expr.specs.Words.{Word}
use Rattle.query_model.specs.Monitors.{monitor_of}
use Rattle.stream_run.specs.Meanings.{IsMeaning, Meaning}
use Rattle.stream_run.specs.Output.{answer}
use Rattle.stream_run.specs.Sessions.{Origin}

-- a line as it was read; nothing of one that is too long
abbrev pub as_read : Shown → List ℕ
as_read (text line) = line
as_read long = []

-- a text without its last byte
abbrev pub init : List ℕ → List ℕ
init [] = []
init (byte ∷ []) = []
init (byte ∷ next ∷ bytes) = byte ∷ init (next ∷ bytes)

-- the column of what a run writes for a line: a tab, and that without its LF; none where a run
-- writes nothing
abbrev pub column : List ℕ → List ℕ
column [] = []
column (byte ∷ bytes) = 9 ∷ init (byte ∷ bytes)

-- what is written of a line that comes after these lines: the line, a column for each query, an LF
abbrev pub beside : List Meaning → List Shown → Shown → List ℕ
beside meanings before line =
    as_read line ++ flat_map (λ meaning. column (answer meaning before line)) meanings ++ 10 ∷ []

-- what is written of lines that come after these lines
abbrev pub besides_after : List Meaning → List Shown → List Shown → List ℕ
besides_after meanings before [] = []
besides_after meanings before (line ∷ rest) =
    beside meanings before line ++ besides_after meanings (before ++ line ∷ []) rest

-- what is written of all lines of an input
abbrev pub besides : List Meaning → List Shown → List ℕ
besides meanings shown = besides_after meanings [] shown

-- a run that begins so begins before the first line, and this is what its query means
pub record BeginsFor {F : Type 0} (follows : F → Word → Type 0) (origin : Origin F)
    (meaning : Meaning) : Type 0 where
  pub no_line : origin.began ≡ false
  pub no_item : follows origin.follower []
  pub means : IsMeaning (monitor_of origin.on) meaning

-- the text is what is written of the lines of runs that begin so, by every function for each that
-- gives the values of its query
abbrev pub AreBeside : {F : Type 0} → (F → Word → Type 0) → List (Origin F) → List Shown → List ℕ
    → Type 0
AreBeside follows origins lines written = (meanings : List Meaning)
    → AllZip (BeginsFor follows) origins meanings → written ≡ besides meanings lines
