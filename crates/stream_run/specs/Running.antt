-- For the prover. The run so far, as the loop keeps it.
use Rattle.std.specs.Prelude.{◌≡◌, ℕ, Bool, true, false, List, ◌++◌, length, IfSome}
use Rattle.std.specs.Io.KnownBytes.{Appends, Consumes, IsAtEnd}
use Rattle.io_edge.specs.Counts.{next_count}
use Rattle.io_edge.specs.Lines.{Shown, lines}
use Rattle.io_edge.specs.Reading.{Reading, lines_after, count_of}
use Rattle.stream_run.specs.Endings.{EndedBy}
use Rattle.stream_run.specs.Outside.{Outside}
use Rattle.stream_run.specs.declared.status.Status.{Status}
use Rattle.stream_run.specs.declared.status.Status.TheVariants.{Done}

-- the bytes taken have given these lines: the lines of all bytes are these and then those to come
pub record Showed (got : List ℕ) (shown : List Shown) (now : Reading) : Type 0 where
  pub continues : now.met ≡ false → (more : List ℕ) (ended : Bool)
      → lines (got ++ more) ended ≡ shown ++ lines_after now more ended
  pub at_end : now.met ≡ true → lines got true ≡ shown
  pub count : count_of now ≡ length got

-- From old to now a run took bytes and wrote a text for the lines in them. What replies to lines
-- stands after these.
pub record Running {S : Type 0} (Stands : S → List Shown → S → Type 0)
    (Says : S → List Shown → List ℕ → Type 0) (first : S) (old now : Outside) (reading : Reading)
    (replier : S) : Type 0 where
  pub got : List ℕ
  pub shown : List Shown
  pub text : List ℕ
  pub showed : Showed got shown reading
  pub read : Consumes old.left now.left got
  pub said : Says first shown text
  pub wrote : Appends old.taken now.taken text
  pub after : Stands first shown replier
  pub no_end : reading.met ≡ false → now.ends ≡ old.ends
  pub at_end : reading.met ≡ true → (now.ends ≡ next_count old.ends) × IsAtEnd now.left

-- A run ended so, and if it is done, what replies to lines stands after all lines.
pub record Stops {S : Type 0} (Stands : S → List Shown → S → Type 0)
    (Says : S → List Shown → List ℕ → Type 0) (first : S) (status : Status) (old new : Outside)
    (replier : S) : Type 0 where
  pub ended : EndedBy (Says first) status old new
  pub after : status ≡ Done → IfSome old.left (λ bytes. Stands first (lines bytes true) replier)
