-- From what distinguishes two parts of a text to what distinguishes the operands of its main query.
use Rattle.std.proofs.Common.{◌≡◌, ℕ, List, Option, None, Some, IfSome, sym, subst}
use Rattle.std.specs.Prelude.{Result, Ok, Err, IfOk}
use Rattle.language_base.specs.declared.span.Span.{Span}
use Rattle.query_model.specs.Monitors.{Monitor}
use Rattle.query_parser.specs.Reading.{IsFileOf}
use Rattle.query_syntax.specs.Expressions.{Expression}
use Rattle.query_syntax.specs.Files.{program_terms}
use Rattle.query_syntax.specs.Programs.{Program}
use Rattle.query_syntax.specs.Queries as q
use Rattle.query_syntax.specs.Queries.{Query}
use Rattle.query_syntax.specs.Spans.{query_span}
use Rattle.separating_word.specs.Separations.{IsShortest, Separates}
use Rattle.separating_word.specs.declared.separation.Separation.{Separation}
use Rattle.query_compiler.specs.Compiled.{Compiles}
use Rattle.type_checker.specs.Judged.{accepted}
use Rattle.explain_run.specs.Apart.{SeparatesFrom, SeparatesMain, SeparatesOperands, SeparatesParts}

-- where these are the operands
pub main_of : (text : List ℕ) (program : Program) (f g : Query) (value : Expression) (span : Span)
    (found : Option Separation) → IsFileOf text (program_terms program)
    → program.main.query ≡ q.combine f g value span
    → IfSome found (SeparatesParts text program (query_span f) (query_span g))
    → IfSome found (SeparatesMain text)
main_of text program f g value span None file is apart = tt
main_of text program f g value span (Some found) file is apart = (
  program,
  file,
  subst (λ (query : Query). SeparatesOperands text program query found) (sym is) apart,
)

-- from the query of a text that a run takes
pub from_taken : {E : Type 0} (first second : Monitor) (right : List ℕ)
    (result : Result (Option Separation) E) → Compiles right (accepted second)
    → IfOk result (λ found. IfSome found (Separates first second))
    → IfOk result (λ found. IfSome found (IsShortest first second))
    → IfOk result (λ found. IfSome found (SeparatesFrom first right))
from_taken first second right (Ok None) taken apart shortest = tt
from_taken first second right (Ok (Some found)) taken apart shortest =
    (second, taken, apart, shortest)
from_taken first second right (Err e) taken apart shortest = tt
