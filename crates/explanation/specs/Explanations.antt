-- Statement. The explanation of a refusal, from its parts.
use Rattle.std.specs.Prelude.{ℕ, List, [], ◌++◌, codes, decimal, Option, Some, None}
use Rattle.language_base.specs.declared.refusal.Refusal.{Refusal}
use Rattle.place_in_text.specs.Places.{column_of, line_of}
use Rattle.place_in_text.specs.Windows.{marked_line}
use Rattle.report_writer.specs.Texts.{refusal_text}
use Rattle.query_syntax.specs.Programs.{Program}
use Rattle.explanation.specs.Advice.{advice}
use Rattle.explanation.specs.Asides.{aside_of, place_aside, said_of_place}
use Rattle.explanation.specs.CulpritLines.{culprit_line}
use Rattle.explanation.specs.Culprits.{culprit_of}
use Rattle.explanation.specs.Limits.{limit_of}
use Rattle.explanation.specs.declared.aside.Aside.{Aside}
use Rattle.explanation.specs.declared.culprit.Culprit.{Culprit}
use Rattle.explanation.specs.declared.limit.Limit.{Limit}

-- the query's name, the line and the column
abbrev pub place_text : List ℕ → ℕ → ℕ → List ℕ
place_text name line column = name ++ codes ":" ++ decimal line ++ codes ":" ++ decimal column

-- what a column counts
unfoldable pub column_unit : List ℕ
column_unit = codes " (the column in bytes): "

-- where the query is refused, and the refusal as a run writes it
unfoldable pub heading : List ℕ → ℕ → ℕ → Refusal → List ℕ
heading name line column refusal =
    place_text name line column ++ column_unit ++ refusal_text refusal

-- a second place, where there is one
unfoldable pub aside_lines : List ℕ → List ℕ → Option Aside → List ℕ
aside_lines name text (Some aside) =
    place_text name
    (line_of text (place_aside aside).from) (column_of text (place_aside aside).from)
    ++ column_unit ++ said_of_place aside
    ++ marked_line text (place_aside aside).from (place_aside aside).to
aside_lines name text None = []

-- the explanation of a refusal of this text, which is called by this name, with the limit that is
-- exceeded, the name in the query that it is about, and the second place
unfoldable pub explanation : List ℕ → List ℕ → Refusal → Option Limit → Option Culprit
    → Option Aside → List ℕ
explanation name text refusal limit culprit aside =
    heading name (line_of text refusal.span.from) (column_of text refusal.span.from) refusal
    ++ marked_line text refusal.span.from refusal.span.to
    ++ advice text refusal limit ++ culprit_line text culprit
    ++ aside_lines name text aside

-- the explanation for a text that is not a program
abbrev pub text_explanation : List ℕ → List ℕ → Refusal → List ℕ
text_explanation name text refusal = explanation name text refusal None None None

-- the explanation for a text that is this program
abbrev pub program_explanation : List ℕ → List ℕ → Program → Refusal → List ℕ
program_explanation name text program refusal =
    explanation name text refusal (limit_of program refusal) (culprit_of program refusal)
    (aside_of program refusal)
