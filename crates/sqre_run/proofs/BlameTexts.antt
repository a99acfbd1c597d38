-- From a blame and a shortest word that shows it to what is written.
use Rattle.std.proofs.Common.{◌≡◌, ℕ, List, ◌++◌, Result, Ok, Err, IfOk, ap, refl, ◌∙◌}
use Rattle.std.specs.declared.alloc.AllocError.{AllocError}
use Rattle.ambiguity_example.specs.Shows.{Shown}
use Rattle.language_base.specs.declared.refusal.Refusal.{Refusal}
use Rattle.report_writer.specs.Examples.{example_text}
use Rattle.report_writer.specs.Texts.{refusal_text}
use Rattle.type_checker.specs.Blames.{refusal_of}
use Rattle.type_checker.specs.declared.blame.Blame.{Blame}
use Rattle.query_compiler.specs.Stops.{IsShownFor}
use Rattle.sqre_run.specs.Blames.{AreLinesOf, IsReasonOf}
use Rattle.sqre_run.specs.declared.command.Command.{Command}
use Rattle.sqre_run.specs.declared.command.Command.TheVariants.{Run, Check, Bound, Why, Drill}
use Rattle.sqre_run.specs.declared.command.Command.TheVariants.{Rewrite}

-- the refusal and such a word are a reason
pub reason_found : (blame : Blame) (shown : Shown) → IsShownFor blame shown → (why : Refusal)
    → why ≡ refusal_of blame → (lines : Result (List ℕ) AllocError)
    → IfOk lines (λ l. l ≡ refusal_text why ++ example_text shown.items shown.first shown.second)
    → IfOk lines (IsReasonOf blame)
reason_found blame shown shortest why is (Ok made) are = (
  shown,
  shortest,
  are ∙ ap (λ (r : Refusal). refusal_text r ++ example_text shown.items shown.first shown.second)
      is,
)
reason_found blame shown shortest why is (Err error) are = tt

-- a command that is not `why` writes the refusal alone
pub other_lines : (command : Command) (blame : Blame) (why : Refusal)
    (lines : Result (List ℕ) AllocError) → (command ≡ Why → ⊥) → why ≡ refusal_of blame
    → IfOk lines (λ l. l ≡ refusal_text why) → IfOk lines (AreLinesOf command blame)
other_lines command blame why (Err error) not_why is are = tt
other_lines (Run engine) blame why (Ok line) not_why is are = are ∙ ap refusal_text is
other_lines Check blame why (Ok line) not_why is are = are ∙ ap refusal_text is
other_lines Bound blame why (Ok line) not_why is are = are ∙ ap refusal_text is
other_lines Why blame why (Ok line) not_why is are = absurd (not_why refl)
other_lines (Drill count seed) blame why (Ok line) not_why is are = are ∙ ap refusal_text is
other_lines Rewrite blame why (Ok line) not_why is are = are ∙ ap refusal_text is
