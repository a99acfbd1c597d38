-- From what was written about a text to what a call did.
use Rattle.std.proofs.Common.{◌≡◌, ◌↔◌, ℕ, List, Option, Some, None, inl, inr, subst}
use Rattle.io_edge.specs.Taken.{TakesFewer, TakesFirst}
use Rattle.template_expansion.specs.Stops.{IsStopAt}
use Rattle.template_expansion.specs.declared.stop.ExpandStop.{ExpandStop}
use Rattle.template_expansion.specs.declared.stop.ExpandStop.TheVariants as stop
use Rattle.expand_run.specs.Call.{DoesNothing, Outcome, Written, max_read}
use Rattle.expand_run.specs.Explanations.{Explains, ExplainsRefusal}
use Rattle.expand_run.specs.RefusalTexts.{Tells, TellsRefusal}
use Rattle.expand_run.specs.declared.command.Command.{Command}
use Rattle.expand_run.specs.declared.status.Status.{Status}
use Rattle.expand_run.specs.declared.status.Status.TheVariants.{Done, Refused, Usage, QueryFault}
use Rattle.expand_run.specs.declared.status.Status.TheVariants.{SinkFault, Memory}

-- the lines of a stop are those of a refusal
pub tells_refusal : (text : List ℕ) (why : ExpandStop) (lines : List ℕ) → IsStopAt text why
    → Tells why lines → TellsRefusal text lines
tells_refusal text (stop.Refused refusal) lines is tells = (stop.Refused refusal, is, tells)
tells_refusal text (stop.Template refusal) lines is tells = (stop.Template refusal, is, tells)
tells_refusal text stop.Memory lines is tells = absurd tells

-- the same of an explanation
pub explains_refusal : (text : List ℕ) (why : ExpandStop) (shown : List ℕ) → IsStopAt text why
    → Explains text why shown → ExplainsRefusal text shown
explains_refusal text (stop.Refused refusal) shown is explains =
    (stop.Refused refusal, is, explains)
explains_refusal text (stop.Template refusal) shown is explains =
    (stop.Template refusal, is, explains)
explains_refusal text stop.Memory shown is explains = absurd explains

module _ (left left' : Option (List ℕ)) (ends ends' : ℕ) (old new : Option (List ℕ)) where
  -- what a command wrote about the text that was read
  written_of : (command : Command) (text : List ℕ)
      → TakesFirst max_read left left' ends ends' text → (status : Status)
      → Written command text status old new
      → Outcome left left' ends ends' old new (Some command) status
  written_of command text takes Done written = (text, takes, written)
  written_of command text takes Refused written = (text, takes, written)
  written_of command text takes Usage written = absurd written
  written_of command text takes QueryFault written = absurd written
  written_of command text takes SinkFault written = (text, takes, written)
  written_of command text takes Memory written = inr (text, takes, written)

  -- as it was asked for
  pub written_asked : (command : Command) (asked : Option Command) → Some command ≡ asked
      → (text : List ℕ) → TakesFirst max_read left left' ends ends' text → (status : Status)
      → Written command text status old new → Outcome left left' ends ends' old new asked status
  written_asked command asked is text takes status written =
      subst (λ (a : Option Command). Outcome left left' ends ends' old new a status) is
      (written_of command text takes status written)

  -- the query could not be read
  pub fault_asked : (command : Command) (asked : Option Command) → Some command ≡ asked
      → TakesFewer max_read left left' ends ends' → new ≡ old
      → Outcome left left' ends ends' old new asked QueryFault
  fault_asked command asked is takes same =
      subst (λ (a : Option Command). Outcome left left' ends ends' old new a QueryFault) is
      (takes, same)

  -- there was no memory to read it
  pub memory_asked : (command : Command) (asked : Option Command) → Some command ≡ asked
      → DoesNothing left left' ends ends' old new
      → Outcome left left' ends ends' old new asked Memory
  memory_asked command asked is nothing =
      subst (λ (a : Option Command). Outcome left left' ends ends' old new a Memory) is
      (inl nothing)

-- words that ask for something are not refused for their form
pub asked_usage : (command : Command) (asked : Option Command) → Some command ≡ asked
    → (status : Status) → (status ≡ Usage → ⊥) → (status ≡ Usage) ↔ (asked ≡ None)
asked_usage command asked is status never = (λ same. absurd (never same), λ none. absurd (cc))
