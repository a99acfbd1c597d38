-- For the prover. The steps by which a line is found.
use Rattle.std.specs.Prelude.{◌≡◌, ◌≤◌, ℕ, true, false, List, [], ◌∷◌, Option, Some, None, Result}
use Rattle.std.specs.Prelude.{Ok, Err}
use Rattle.std.specs.Io.KnownBytes.{Consumes}
use Rattle.io_edge.specs.Lines.{Shown, NoLf}
use Rattle.io_edge.specs.Reading.{Reading, count_of, Shows, CutAt, Answers, Ends, Waits}
use Rattle.io_edge.specs.Answered.{shown_by}
use Rattle.io_edge.specs.Limits.{max_count}
use Rattle.io_edge.specs.declared.partial_line.Answer.{Answer}
use Rattle.io_edge.specs.declared.lines.LineStop.{LineStop}
use Rattle.io_edge.specs.declared.lines.LineStop.TheVariants.{Failed, Limit}

-- the line that ends at the first LF among the bytes taken is answered
pub record Cuts (old : Reading) (shown : Shown) (new : Reading) : Type 0 where
  pub shows : Shows old [] (shown ∷ []) new
  pub cut : CutAt old [] new

-- there is no LF among the bytes taken, and they are all added to the line under way
pub record Joins (old new : Reading) : Type 0 where
  pub waits : Waits old [] new
  pub no_lf : NoLf old.unread

-- more bytes are taken, within the limit; the line answered last is no longer shown
pub record Refills (left left' : Option (List ℕ)) (old new : Reading) : Type 0 where
  pub bytes : Consumes left left' new.unread
  pub else_same : new ≡ record old { unread = new.unread; shown = [] }
  pub few : count_of new ≤ max_count

-- once the end of the input or the limit was reached, each later call answers it again
pub record ComesAgain (old : Reading) (result : Result (Option Answer) LineStop) (new : Reading)
    : Type 0 where
  pub end : old.met ≡ true → (result ≡ Ok None) × (new ≡ old)
  pub limit : old.met ≡ false → NoLf old.unread → count_of old ≡ max_count → result ≡ Err Limit

-- what each outcome says of the bytes `got` that were taken
abbrev pub Reaches : Reading → List ℕ → Result (Option Answer) LineStop → Reading → Type 0
Reaches old got (Ok (Some answer)) new = Answers old got (shown_by answer new.shown) new
Reaches old got (Ok None) new = Ends old got [] new × (new.answered ≡ count_of new)
Reaches old got (Err Failed) new = Waits old got new
Reaches old got (Err Limit) new = Waits old got new × (count_of new ≡ max_count)
