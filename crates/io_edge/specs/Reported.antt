-- Statement. What the answers of `Lines::next` mean.
use Rattle.std.specs.Prelude.{◌≡◌, ◌⊎◌, ◌≤◌, ℕ, true, false, List, [], Option, Result, Ok, Err}
use Rattle.std.specs.Io.KnownBytes.{Consumes}
use Rattle.io_edge.specs.Ended.{MeetsEnd}
use Rattle.io_edge.specs.Lines.{text, long, NoLf}
use Rattle.io_edge.specs.Reading.{Reading, count_of, Answers, Ends, Waits}
use Rattle.io_edge.specs.Limits.{max_count}
use Rattle.io_edge.specs.declared.lines.Line.{Line}
use Rattle.io_edge.specs.declared.lines.Line.TheVariants.{Whole, Long, End}
use Rattle.io_edge.specs.declared.lines.LineStop.{LineStop}
use Rattle.io_edge.specs.declared.lines.LineStop.TheVariants.{Failed, Limit}

-- no read is needed: the end was met, the bytes taken hold a whole line, or the limit of bytes is
-- reached
abbrev pub IsQuiet : Reading → Type 0
IsQuiet r = (r.met ≡ true) ⊎ ((NoLf r.unread → ⊥) ⊎ (count_of r ≡ max_count))

-- what each answer says of the bytes `got` that the call took
abbrev pub Gives : Reading → List ℕ → Result Line LineStop → Reading → Type 0
Gives old got (Ok (Whole line)) new = Answers old got (text line.now) new
Gives old got (Ok Long) new = Answers old got long new
Gives old got (Ok End) new = Ends old got [] new × (new.answered ≡ count_of new)
Gives old got (Err Failed) new = Waits old got new
Gives old got (Err Limit) new = Waits old got new × (count_of new ≡ max_count)

-- One call: `left` and `left'` are the bytes that the source still held before and after it, if
-- they are known, and `ends` and `ends'` its counts of ends. The first end that the source reports
-- is the end of the input.
pub record Reported (left left' : Option (List ℕ)) (ends ends' : ℕ) (old new : Reading)
    (result : Result Line LineStop) : Type 0 where
  pub line : (got : List ℕ) × Consumes left left' got × Gives old got result new
  pub end : MeetsEnd ends ends' left' ((old.met ≡ false) × (new.met ≡ true))
  pub again : old.met ≡ true → (result ≡ Ok End) × (new ≡ old)
  pub at_limit : old.met ≡ false → NoLf old.unread → count_of old ≡ max_count → result ≡ Err Limit
  pub few : count_of new ≤ max_count
