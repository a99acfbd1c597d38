-- Statement. Lines that distinguish the operands of a refused combination: only one of them, as the
-- main query of the text, has a value on the items of the lines.
use Rattle.std.specs.Prelude.{◌-◌, ℕ, List, ◌++◌, take, drop, length}
use Rattle.language_base.specs.declared.span.Span.{Span}
use Rattle.query_model.specs.Monitors.{Monitor}
use Rattle.query_parser.specs.Reading.{IsFileOf}
use Rattle.query_syntax.specs.Files.{program_terms}
use Rattle.query_syntax.specs.Programs.{Program}
use Rattle.query_syntax.specs.Queries as q
use Rattle.query_syntax.specs.Queries.{Query}
use Rattle.query_syntax.specs.Spans.{query_span}
use Rattle.separating_word.specs.Separations.{IsShortest, Separates}
use Rattle.separating_word.specs.declared.separation.Separation.{Separation}
use Rattle.query_compiler.specs.Compiled.{Compiles}
use Rattle.type_checker.specs.Judged.{accepted}

-- the bytes of a text from one place to another
abbrev pub between : List ℕ → ℕ → ℕ → List ℕ
between text from to = take (to - from) (drop from text)

-- the text with what stands at the place as its main query
abbrev pub alone : List ℕ → Program → Span → List ℕ
alone text program place =
    between text 0 (query_span program.main.query).from ++ between text place.from place.to
    ++ between text (query_span program.main.query).to (length text)

-- the lines distinguish a query from that of a text which a run accepts, by a shortest word in the
-- rate of only one of them
abbrev pub SeparatesFrom : Monitor → List ℕ → Separation → Type 0
SeparatesFrom first right found = (second : Monitor) × Compiles right (accepted second)
    × Separates first second found × IsShortest first second found

-- the same of the queries of two texts
abbrev pub SeparatesTexts : List ℕ → List ℕ → Separation → Type 0
SeparatesTexts left right found =
    (first : Monitor) × Compiles left (accepted first) × SeparatesFrom first right found

-- the same for the texts with one or the other of two parts as main query
abbrev pub SeparatesParts : List ℕ → Program → Span → Span → Separation → Type 0
SeparatesParts text program left right found =
    SeparatesTexts (alone text program left) (alone text program right) found

-- the parts are the operands of a combination
abbrev pub SeparatesOperands : List ℕ → Program → Query → Separation → Type 0
SeparatesOperands text program (q.combine f g value span) found =
    SeparatesParts text program (query_span f) (query_span g) found
SeparatesOperands text program _ found = ⊥

-- the same for the main query of the program that the text is
abbrev pub SeparatesMain : List ℕ → Separation → Type 0
SeparatesMain text found = (program : Program) × IsFileOf text (program_terms program)
    × SeparatesOperands text program program.main.query found
