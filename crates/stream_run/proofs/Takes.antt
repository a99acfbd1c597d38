-- The line that a call of `Lines::next` reported.
use Rattle.std.proofs.Common.{◌≡◌, ◌≢◌, ◌⊎◌, inl, inr, ℕ, true, false, List, Option, Result, Ok}
use Rattle.std.proofs.Common.{sym, subst, ◌∙◌}
use Rattle.std.specs.Io.KnownBytes.{Consumes}
use Rattle.io_edge.specs.Ended.{MeetsEnd}
use Rattle.io_edge.specs.Lines.{Shown, text, long}
use Rattle.io_edge.specs.Reading.{Reading, Answers}
use Rattle.io_edge.specs.Reported.{Reported, Gives}
use Rattle.io_edge.specs.declared.lines.Line.{Line}
use Rattle.io_edge.specs.declared.lines.Line.TheVariants.{Whole, Long, End}
use Rattle.io_edge.specs.declared.lines.LineStop.{LineStop}
use Rattle.stream_run.proofs.Showing.{true_or_false}

-- Bytes were taken from the source and a line of them was answered.
pub record TakesLine (left left' : Option (List ℕ)) (ends ends' : ℕ)
    (old new : Reading) (line : Shown)
    : Type 0 where
  pub got : List ℕ
  pub consumed : Consumes left left' got
  pub answers : Answers old got line new
  pub going : old.met ≡ false
  pub end : MeetsEnd ends ends' left' ((old.met ≡ false) × (new.met ≡ true))

module _ {left left' : Option (List ℕ)} {ends ends' : ℕ} {old new : Reading}
    {result : Result Line LineStop} where
  -- what a call reported, at the answer that it gave
  pub Reported-gives : Reported left left' ends ends' old new result
      → (answer : Result Line LineStop) → result ≡ answer
      → (got : List ℕ) × Consumes left left' got × Gives old got answer new
  Reported-gives reported answer is =
      subst
      (λ (r : Result Line LineStop). (got : List ℕ) × Consumes left left' got × Gives old got r new)
      is reported.line

  -- each answer but the end comes only while no end was met
  pub Reported-going : Reported left left' ends ends' old new result → (result ≢ Ok End)
      → old.met ≡ false
  Reported-going reported other = at (true_or_false old.met)
    where
      at : (old.met ≡ true) ⊎ (old.met ≡ false) → old.met ≡ false
      at (inl met) = absurd (other (reported.again met).0)
      at (inr going) = going

  -- a call that reported a line took it
  TakesLine-reported : Reported left left' ends ends' old new result
      → (line : Shown) (answer : Result Line LineStop) → result ≡ answer → answer ≢ Ok End
      → ((got : List ℕ) → Gives old got answer new → Answers old got line new)
      → TakesLine left left' ends ends' old new line
  TakesLine-reported reported line answer is other gives =
      let taken = Reported-gives reported answer is in
      let going = Reported-going reported (λ e. other (sym is ∙ e)) in
      record {
        got = taken.0;
        consumed = taken.1;
        answers = gives taken.0 taken.2;
        going = going;
        end = reported.end;
      }

  -- a line that was reported whole
  pub TakesLine-whole : Reported left left' ends ends' old new result → (line : _)
      → result ≡ Ok (Whole line) → TakesLine left left' ends ends' old new (text line.now)
  TakesLine-whole reported line is =
      TakesLine-reported reported (text line.now) (Ok (Whole line)) is (λ e. cc) (λ got h. h)

  -- a line that was reported as too long
  pub TakesLine-long : Reported left left' ends ends' old new result → result ≡ Ok Long
      → TakesLine left left' ends ends' old new long
  TakesLine-long reported is = TakesLine-reported reported long (Ok Long) is (λ e. cc) (λ got h. h)
