-- From how a text is read and judged to what is shown of it.
use Rattle.std.proofs.Common.{◌≡◌, ◌++◌, ℕ, List, inl, inr, ap, ◌∙◌}
use Rattle.language_base.specs.declared.refusal.Refusal.{Refusal}
use Rattle.query_model.specs.Monitors.{Monitor}
use Rattle.query_parser.specs.Reading.{IsFileOf, IsRefused}
use Rattle.query_syntax.specs.Files.{program_terms}
use Rattle.query_syntax.specs.Programs.{Program}
use Rattle.explanation.specs.Explanations.{program_explanation, text_explanation}
use Rattle.query_compiler.specs.Compiled.{judged, unread}
use Rattle.type_checker.specs.Blames.{IsBlameOf, refusal_of}
use Rattle.type_checker.specs.Judged.{IsJudged, accepted, refused}
use Rattle.type_checker.specs.declared.blame.Blame.{Blame}
use Rattle.type_checker.proofs.Judging.{blame_refused}
use Rattle.explain_run.specs.Appended.{IsFound, found_text}
use Rattle.explain_run.specs.Explained.{Explains, ExplainsProgram, IsAccepted}
use Rattle.explain_run.specs.declared.findings.Found.{Found}

-- a text that writes no program
pub explains_unread : (name text shown : List ℕ) (refusal : Refusal) → IsRefused text refusal
    → shown ≡ text_explanation name text refusal → Explains name text shown
explains_unread name text shown refusal is same = (refusal, unread refusal is, inl (is, same))

-- a text that writes a program which is refused
pub explains_judged : (name text shown : List ℕ) (program : Program) (refusal : Refusal)
    → IsFileOf text (program_terms program) → IsJudged program (refused refusal)
    → ExplainsProgram name text program refusal shown → Explains name text shown
explains_judged name text shown program refusal file is explains =
    (refusal, judged program (refused refusal) file is, inr (program, file, explains))

-- what is shown of it
pub explains_found : (name text shown : List ℕ) (program : Program)
    (refusal why : Refusal) (found : Found) → IsFound text program refusal found → why ≡ refusal
    → shown ≡ program_explanation name text program why ++ found_text found
    → ExplainsProgram name text program refusal shown
explains_found name text shown program refusal why found is_found is same = (
  found,
  is_found,
  same ∙ ap (λ (r : Refusal). program_explanation name text program r ++ found_text found) is,
)

-- a text that writes a program with a blame
pub explains_blamed : (name text shown : List ℕ) (program : Program) (blame : Blame)
    → IsFileOf text (program_terms program) → IsBlameOf program blame
    → ExplainsProgram name text program (refusal_of blame) shown → Explains name text shown
explains_blamed name text shown program blame file is explains =
    explains_judged name text shown program (refusal_of blame) file
    (blame_refused program blame is) explains

-- a text that writes a program which is accepted
pub accepts_judged : (text : List ℕ) (program : Program) (monitor : Monitor)
    → IsFileOf text (program_terms program) → IsJudged program (accepted monitor) → IsAccepted text
accepts_judged text program monitor file is = (monitor, judged program (accepted monitor) file is)
