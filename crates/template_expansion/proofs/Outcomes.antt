-- What each step of an expansion leaves to the next.
use Rattle.std.proofs.Common.{◌≡◌, ℕ, List, None, sym, subst}
use Rattle.query_trees.specs.Trees.{Trees}
use Rattle.query_parser.specs.Stop.{IsStopAfter, IsStopBefore}
use Rattle.query_parser.specs.TreeReading.{AreReadable, AreRefused, AreShallow}
use Rattle.query_parser.specs.declared.stop.ReadStop.{ReadStop}
use Rattle.query_parser.specs.declared.stop.ReadStop.TheVariants as read
use Rattle.query_templates.specs.File.{first_refusal, plain_terms}
use Rattle.query_templates.specs.Refusals as templates
use Rattle.query_templates.specs.declared.stop.TemplateStop.{TemplateStop}
use Rattle.query_templates.specs.declared.stop.TemplateStop.TheVariants as stop
use Rattle.template_expansion.specs.Meaning.{HasTemplates, after, before, template}
use Rattle.template_expansion.specs.Stops.{IsStopAt, of_reading, of_template}
use Rattle.template_expansion.proofs.Plain.{plain_readable}

-- a text without trees is refused
pub stopped_before : (text : List ℕ) (why : ReadStop) → IsStopBefore text why
    → IsStopAt text (of_reading why)
stopped_before text (read.Refused refusal) lack = before refusal lack
stopped_before text read.Memory lack = tt

-- and so is one in which a template is wrong
pub stopped_by_template : (text : List ℕ) (trees : Trees) (why : TemplateStop)
    → AreShallow text trees → templates.IsStopAt (first_refusal text trees) why
    → IsStopAt text (of_template why)
stopped_by_template text trees (stop.Refused refusal) shallow wrong =
    template trees refusal shallow wrong
stopped_by_template text trees stop.Memory shallow wrong = tt

module _ (text : List ℕ) (trees : Trees) (right : first_refusal text trees ≡ None)
    (plain : Trees) (same : plain ≡ plain_terms text trees) where
  -- plain terms can be read
  pub made_readable : AreReadable text trees → AreReadable text plain
  made_readable are =
      subst (AreReadable text) (sym same) (plain_readable text trees are right)

  module _ (shallow : AreShallow text trees) where
    has : HasTemplates text trees
    has = record { shallow = shallow; right = right }

    -- those that are no file are refused
    pub stopped_after : (why : ReadStop) → IsStopAfter text plain why
        → IsStopAt text (of_reading why)
    stopped_after (read.Refused refusal) fault =
        after trees refusal has (subst (λ (t : Trees). AreRefused text t refusal) same fault)
    stopped_after read.Memory lack = tt
