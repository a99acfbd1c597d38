-- Why there are no lines of origins.
use Rattle.std.proofs.Common.{◌≡◌, ◌⊎◌, ◌<◌, ◌≤◌, ℕ, ◌+◌, Bool, true, false, nat_le, List, length}
use Rattle.std.proofs.Common.{inl, inr, refl, ap, ◌∙◌, arith}
use Rattle.std.specs.Prelude.{All}
use Rattle.std.proofs.lemmas.Bool.Decides.{nat_tests}
use Rattle.language_base.specs.Limits.{max_text}
use Rattle.language_base.specs.declared.rule.Rule.TheVariants as rule
use Rattle.query_parser.specs.Reading as reading
use Rattle.query_parser.specs.Stop.{IsStopBefore}
use Rattle.query_parser.specs.declared.stop.ReadStop.{ReadStop}
use Rattle.query_parser.specs.declared.stop.ReadStop.TheVariants as read
use Rattle.query_parser.proofs.OneReading.{file_or_refused, one_refusal}
use Rattle.report_writer.specs.Texts.{refusal_text}
use Rattle.template_expansion.specs.Meaning.{IsExpansionOf}
use Rattle.template_expansion.specs.Stops.{IsStopAt, of_reading}
use Rattle.template_expansion.specs.declared.stop.ExpandStop.{ExpandStop}
use Rattle.template_expansion.specs.declared.stop.ExpandStop.TheVariants as stop
use Rattle.template_expansion.proofs.Again.{read_again}
use Rattle.expand_run.specs.OriginLines.{TellsLong}
use Rattle.expand_run.specs.OriginStops.{IsOriginStop}
use Rattle.expand_run.specs.RefusalTexts.{Tells, TellsRefusal}

-- the text is refused
pub origins_stopped : (text : List ℕ) (why : ExpandStop) → IsStopAt text why
    → IsOriginStop text why
origins_stopped text (stop.Refused refusal) is = inl is
origins_stopped text (stop.Template refusal) is = is
origins_stopped text stop.Memory is = tt

-- its plain query has no nodes with places: it is too long, since it would read back
pub origins_long : (text plain : List ℕ) → All (λ byte. byte < 256) text
    → IsExpansionOf text plain → (why : ReadStop) → IsStopBefore plain why
    → IsOriginStop text (of_reading why)
origins_long text plain small made read.Memory lack = tt
origins_long text plain small made (read.Refused refusal) lack =
    at (nat_le (length plain) max_text) refl
  where
    at : (test : Bool) → nat_le (length plain) max_text ≡ test
        → IsOriginStop text (stop.Refused refusal)
    at true is =
        let short : length plain ≤ max_text = grind (arith, nat_tests, is) in
        let back = read_again text plain small made short in
        absurd (file_or_refused plain back.0 refusal back.1 lack.is)
    at false is =
        let over : max_text < length plain = grind (arith, nat_tests, is) in inr (
          plain,
          made,
          over,
          one_refusal plain (reading.refusal rule.Long max_text (max_text + 1)) refusal
              (reading.long over) lack.is,
        )

-- the lines that say so
pub tells_stop : (text : List ℕ) (why : ExpandStop) (lines : List ℕ) → IsOriginStop text why
    → Tells why lines → TellsRefusal text lines ⊎ TellsLong text lines
tells_stop text (stop.Refused refusal) lines (inl is) tells =
    inl (stop.Refused refusal, is, tells)
tells_stop text (stop.Refused refusal) lines (inr (plain, made, over, is)) tells =
    inr (plain, made, over, tells ∙ ap refusal_text is)
tells_stop text (stop.Template refusal) lines is tells = inl (stop.Template refusal, is, tells)
tells_stop text stop.Memory lines is tells = absurd tells
