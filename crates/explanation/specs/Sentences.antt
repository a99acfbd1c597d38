-- Statement. The sentence for each rule, and how to mend a query that breaks it. The words are
-- constants of the code.
use Rattle.std.specs.Prelude.{ℕ, List, [], length, nat_lt, Option, None, Some, if◌then◌else◌}
use Rattle.language_base.specs.declared.refusal.Refusal.{Refusal}
use Rattle.language_base.specs.declared.rule.Rule.{Rule}
use Rattle.language_base.specs.declared.rule.Rule.TheVariants.{Long, Token, Term, Depth, Form, Name}
use Rattle.language_base.specs.declared.rule.Rule.TheVariants.{Nested, Size, Literal, Mismatch}
use Rattle.language_base.specs.declared.rule.Rule.TheVariants.{Cells, Empty, Choice, Split, Iter}
use Rattle.language_base.specs.declared.rule.Rule.TheVariants.{Reach, Rates, Compose}
use Rattle.explanation.specs.declared.limit.Limit.{Limit}
use Rattle.explanation.specs.declared.limit.Limit.TheVariants.{Nodes, Positions, Slots}
use Rattle.explanation.specs.declared.remedy.TheConstants as mended
use Rattle.explanation.specs.declared.rule_sentence.TheConstants as broken

-- how the rule is broken
unfoldable pub broken_where : Rule → List ℕ
broken_where Long = broken.LONG.now
broken_where Token = broken.TOKEN.now
broken_where Term = broken.TERM.now
broken_where Depth = broken.DEPTH.now
broken_where Form = broken.FORM.now
broken_where Name = broken.NAME.now
broken_where Nested = broken.NESTED.now
broken_where Size = broken.SIZE.now
broken_where Literal = broken.LITERAL.now
broken_where Mismatch = broken.TYPE.now
broken_where Cells = broken.CELLS.now
broken_where Empty = broken.EMPTY.now
broken_where Choice = broken.CHOICE.now
broken_where Split = broken.SPLIT.now
broken_where Iter = broken.ITER.now
broken_where Reach = broken.REACH.now
broken_where Rates = broken.RATES.now
broken_where Compose = broken.COMPOSE.now

-- the same for a place at the end of the text
unfoldable pub ended_where : Rule → List ℕ
ended_where Term = broken.OPEN_BRACKET.now
ended_where Form = broken.NO_TERM.now
ended_where rule = broken_where rule

-- how the rule of a refusal of the text is broken
abbrev pub broken_at : List ℕ → Refusal → List ℕ
broken_at text refusal =
    if nat_lt refusal.span.from (length text) then broken_where refusal.rule
    else ended_where refusal.rule

-- the limit that is exceeded
unfoldable pub passed : Limit → List ℕ
passed Nodes = broken.NODES.now
passed Positions = broken.POSITIONS.now
passed Slots = broken.SLOTS.now

-- the limit that is exceeded, or else how the rule is broken
abbrev pub broken_in : List ℕ → Refusal → Option Limit → List ℕ
broken_in text refusal (Some limit) = passed limit
broken_in text refusal None = broken_at text refusal

-- how to mend the query; for the rule `form` the forms of the place say that
unfoldable pub mended_by : Rule → List ℕ
mended_by Long = mended.LONG.now
mended_by Token = mended.TOKEN.now
mended_by Term = mended.TERM.now
mended_by Depth = mended.DEPTH.now
mended_by Form = []
mended_by Name = mended.NAME.now
mended_by Nested = mended.NESTED.now
mended_by Size = mended.SIZE.now
mended_by Literal = mended.LITERAL.now
mended_by Mismatch = mended.TYPE.now
mended_by Cells = mended.CELLS.now
mended_by Empty = mended.EMPTY.now
mended_by Choice = mended.CHOICE.now
mended_by Split = mended.SPLIT.now
mended_by Iter = mended.ITER.now
mended_by Reach = mended.REACH.now
mended_by Rates = mended.RATES.now
mended_by Compose = mended.COMPOSE.now
