-- From how a program is judged to how the text that writes it is.
use Rattle.std.proofs.Common.{ℕ, List, Result, Ok, Err, IfOk}
use Rattle.std.specs.declared.alloc.AllocError.{AllocError}
use Rattle.query_model.specs.Monitors.{monitor_of}
use Rattle.query_parser.specs.Reading.{IsFileOf}
use Rattle.query_syntax.specs.Files.{program_terms}
use Rattle.query_syntax.specs.Limits.{IsWithin}
use Rattle.query_syntax.specs.Programs.{Program}
use Rattle.type_checker.specs.Judged.{accepted, refused}
use Rattle.type_checker.specs.Judgments.{IsJudgmentOf}
use Rattle.type_checker.specs.declared.judgment.Judgment.{Judgment}
use Rattle.type_checker.specs.declared.judgment.Judgment.TheVariants.{Accepted, Ambiguous, Refused}
use Rattle.query_compiler.specs.Compiled.{judged}
use Rattle.query_compiler.specs.Stops.{IsJudgmentAt}
use Rattle.query_compiler.proofs.Drillable.{drillable_of_text}

module _ (text : List ℕ) (program : Program) (file : IsFileOf text (program_terms program))
    (within : IsWithin program.stream) where
  judgment_at : (judgment : Judgment) → IsJudgmentOf program judgment → IsJudgmentAt text judgment
  judgment_at (Accepted checked) is = (
    judged program (accepted (monitor_of checked.value)) file is,
    drillable_of_text text program file within (monitor_of checked.value) is,
  )
  judgment_at (Refused why) is = (judged program (refused why) file is.0, is.1)
  judgment_at (Ambiguous blame) is = (program, is, file)

  -- a judgment, if there is one
  pub judgment_of_text : (result : Result Judgment AllocError) → IfOk result (IsJudgmentOf program)
      → IfOk result (IsJudgmentAt text)
  judgment_of_text (Ok judgment) is = judgment_at judgment is
  judgment_of_text (Err error) is = tt
