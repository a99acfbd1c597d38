-- Statement. The lines of a byte list, as a relation and as the function that computes them.
use Rattle.std.specs.Prelude.{◌≡◌, ◌≢◌, ℕ, Bool, ◌&&◌, List, [], ◌∷◌, ◌++◌, length, All, nat_lt}
use Rattle.std.specs.Prelude.{◌==◌, if◌then◌else◌, map}
use Rattle.std.specs.List.{flat_map, AllByRecursion}
use Rattle.std.specs.Io.BufRead.{strip_last}
use Rattle.io_edge.specs.Limits.{max_line}

-- what a line shows: its text, or only that it is too long
pub data Shown : Type 0 where
  text : List ℕ → Shown
  long : Shown

-- what the line of these raw bytes shows if an LF ended it: one CR before the LF is dropped, but it
-- counts towards the length
abbrev pub ended_by_lf : List ℕ → Shown
ended_by_lf raw = if nat_lt max_line (length raw) then long else text (strip_last 13 raw)

-- the same if the end of the input ended it: no CR is dropped
abbrev pub ended_by_end : List ℕ → Shown
ended_by_end raw = if nat_lt max_line (length raw) then long else text raw

-- the line of the bytes after the last LF: there is one if there are any and the input has ended
abbrev pub last_line : List ℕ → Bool → List Shown
last_line rest ended = if ended && nat_lt 0 (length rest) then ended_by_end rest ∷ [] else []

-- no byte is an LF
abbrev pub NoLf : List ℕ → Type 0
NoLf bytes = All (λ x. x ≢ 10) bytes

-- The bytes are the raw bytes of lines, an LF after each, and then a rest without an LF. The lines
-- show what these raw bytes show, and the rest if the input has ended.
pub record AreLines (bytes : List ℕ) (ended : Bool) (shown : List Shown) : Type 0 where
  pub raws : List (List ℕ)
  pub rest : List ℕ
  pub whole : bytes ≡ flat_map (λ raw. raw ++ 10 ∷ []) raws ++ rest
  pub each : AllByRecursion NoLf raws
  pub last : NoLf rest
  pub are : shown ≡ map ended_by_lf raws ++ last_line rest ended

-- the lines of the bytes after `start`, where the first line begins with `start`
abbrev pub lines_from : List ℕ → List ℕ → Bool → List Shown
lines_from start [] ended = last_line start ended
lines_from start (x ∷ xs) ended =
    if x == 10 then ended_by_lf start ∷ lines_from [] xs ended
    else lines_from (start ++ x ∷ []) xs ended

-- the lines of these bytes, computed from the left
abbrev pub lines : List ℕ → Bool → List Shown
lines bytes ended = lines_from [] bytes ended
