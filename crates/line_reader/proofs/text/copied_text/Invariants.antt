use Rattle.std.proofs.Common.{◌≡◌, [], length}
use Rattle.line_reader.specs.CutLines.{texts_at}
use Rattle.line_reader.specs.declared.quote_state.QuoteState.TheVariants.{Quoted}
use Rattle.line_reader.proofs.text.copied_text.Given as goal

-- the text so far, and the bytes that are left
abbrev pub invariant-parts : goal.invariant-parts
invariant-parts l = texts_at Quoted [] l.bytes ≡ texts_at Quoted l.text.items l.rest

-- each turn takes a part and two quotes
abbrev pub decreases-parts : goal.decreases-parts
decreases-parts l = length l.rest
