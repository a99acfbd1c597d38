-- The lines that an LF ends come first among all lines, and so do the answers to them.
use Rattle.std.proofs.Common.{◌≡◌, ℕ, Bool, true, false, cond, List, [], ◌∷◌, ◌++◌, refl, sym, ap}
use Rattle.std.proofs.Common.{◌∙◌, append-nil, ◌==◌}
use Rattle.io_edge.specs.Lines.{Shown, ended_by_lf, last_line, lines_from}
use Rattle.stream_run.specs.Output.{answers, answers_after}
use Rattle.sqre_run.specs.Spoken.{Spoken, answering, output, output_lines}
use Rattle.sqre_run.specs.Spoken.{refusing, whole_output}
use Rattle.stream_run.proofs.Answering.{answers_after-append}

-- the one list is the front of the other
abbrev IsFront : List Shown → List Shown → Type 0
IsFront front all = (more : List Shown) × (all ≡ front ++ more)

-- where a line is ended, it stands before the lines after it; where not, it continues
IsFront-next : (is_lf : Bool) (line : Shown) (whole all whole' all' : List Shown)
    → IsFront whole all → IsFront whole' all'
    → IsFront (cond is_lf (line ∷ whole) whole') (cond is_lf (line ∷ all) all')
IsFront-next true line whole all whole' all' (more, is) continues = (more, ap (λ l. line ∷ l) is)
IsFront-next false line whole all whole' all' ended continues = continues

-- the lines that an LF ends come first
lines_from-front : (start bytes : List ℕ)
    → IsFront (lines_from start bytes false) (lines_from start bytes true)
lines_from-front start [] = (last_line start true, refl)
lines_from-front start (x ∷ bytes) =
    IsFront-next (x == 10) (ended_by_lf start) _ _ _ _
    (lines_from-front [] bytes) (lines_from-front (start ++ x ∷ []) bytes)

-- what is written for them is the front of what is written
output_lines-front : (query : Spoken) (whole all : List Shown) → IsFront whole all
    → (rest : List ℕ) × (output_lines query all ≡ output_lines query whole ++ rest)
output_lines-front (answering meaning) whole all (more, is) = (
  answers_after meaning whole more,
  ap (answers meaning) is ∙ answers_after-append meaning [] whole more,
)
output_lines-front (refusing refusal) whole all front = ([], sym (append-nil _))

-- the bytes for the lines that an LF ends are the front of all
pub output-front : (query : Spoken) (bytes : List ℕ)
    → (rest : List ℕ) × (output query bytes ≡ whole_output query bytes ++ rest)
output-front query bytes = output_lines-front query _ _ (lines_from-front [] bytes)
