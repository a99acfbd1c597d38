-- Statement. How far a `Lines` has come in the bytes that it has taken. From the left these are the
-- lines that were answered, the line under way, and bytes that are not looked at yet.
use Rattle.std.specs.Prelude.{◌≡◌, ◌<◌, ◌⊎◌, ℕ, ◌+◌, Bool, true, false, List, [], ◌∷◌, ◌++◌, length}
use Rattle.io_edge.specs.Lines.{Shown, lines_from, NoLf}

-- the bytes taken that are not answered yet, and how many were
pub record Reading : Type 0 where
  -- the bytes of the line under way; if it is too long already, as many zeros
  pub start : List ℕ
  -- the bytes taken after these
  pub unread : List ℕ
  -- how many bytes the lines that were answered have, line ends included
  pub answered : ℕ
  -- the end of the input was met
  pub met : Bool
  -- the bytes of the line answered last, for `next` alone
  pub shown : List ℕ

-- how many bytes were taken
abbrev pub count_of : Reading → ℕ
count_of r = r.answered + (length r.start + length r.unread)

-- the lines still to come if these bytes follow, and then the input ends or, if it has not `ended`,
-- may continue
abbrev pub lines_after : Reading → List ℕ → Bool → List Shown
lines_after r more ended = lines_from r.start (r.unread ++ more) ended

-- all bytes taken are answered, and the end was met
pub record IsDone (r : Reading) : Type 0 where
  pub met : r.met ≡ true
  pub no_start : r.start ≡ []
  pub no_unread : r.unread ≡ []

-- From `old` to `new` the bytes `got` were taken and these lines were shown. Whatever bytes follow,
-- and whether or not the input then ends, the lines to come at `old` are those shown and then the
-- lines to come at `new`.
pub record Shows (old : Reading) (got : List ℕ) (shown : List Shown) (new : Reading) : Type 0 where
  pub each : (more : List ℕ) (ended : Bool)
      → lines_after old (got ++ more) ended ≡ shown ++ lines_after new more ended
  pub not_met : new.met ≡ false
  pub count : count_of new ≡ count_of old + length got

-- From `old` to `new` the last bytes `got` were taken, the end was met, and these were all lines to
-- come.
pub record Ends (old : Reading) (got : List ℕ) (shown : List Shown) (new : Reading) : Type 0 where
  pub all : lines_after old got true ≡ shown
  pub whole : lines_after old got false ≡ []
  pub done : IsDone new
  pub count : count_of new ≡ count_of old + length got

-- the line answered from `old` to `new` ended at an LF; its raw bytes and the LF count as answered
pub record CutAt (old : Reading) (got : List ℕ) (new : Reading) : Type 0 where
  pub piece : List ℕ
  pub no_lf : NoLf piece
  pub taken : old.unread ++ got ≡ piece ++ 10 ∷ new.unread
  pub no_start : new.start ≡ []
  pub answered : new.answered ≡ old.answered + (length old.start + length piece + 1)

-- one line is answered: one that an LF ended, or the last line of the input
abbrev pub Answers : Reading → List ℕ → Shown → Reading → Type 0
Answers old got shown new = (old.answered < new.answered)
    × ((Shows old got (shown ∷ []) new × CutAt old got new) ⊎ Ends old got (shown ∷ []) new)

-- no line is answered, since the bytes taken hold no whole line
pub record Waits (old : Reading) (got : List ℕ) (new : Reading) : Type 0 where
  pub shows : Shows old got [] new
  pub none_waits : new.unread ≡ []
  pub answered : new.answered ≡ old.answered
