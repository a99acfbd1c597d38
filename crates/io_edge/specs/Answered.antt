-- For the prover. What an answered line shows.
use Rattle.std.specs.Prelude.{ℕ, List, []}
use Rattle.io_edge.specs.Lines.{Shown, text, long}
use Rattle.io_edge.specs.declared.lines.LinePlace.{LinePlace}
use Rattle.io_edge.specs.declared.lines.LinePlace.TheVariants.{Nowhere, InChunk, InBuffer}
use Rattle.io_edge.specs.declared.partial_line.Answer.{Answer}
use Rattle.io_edge.specs.declared.partial_line.Answer.TheVariants.{Whole, Long}

-- the bytes of a whole line, and none of a long one
abbrev pub shown_by : Answer → List ℕ → Shown
shown_by Whole bytes = text bytes
shown_by Long bytes = long

-- the bytes of the line answered last, where `cut` is the line in the chunk and `kept` the one in
-- the buffer of the line under way
abbrev pub shown_at : LinePlace → List ℕ → List ℕ → List ℕ
shown_at Nowhere cut kept = []
shown_at InChunk cut kept = cut
shown_at InBuffer cut kept = kept
