-- What is found of the root of a query, from what the automata of its operands show.
use Rattle.std.proofs.Common.{◌≡◌, List, Option, None, Some, refl, sym, subst}
use Rattle.item_schema.specs.declared.column.Column.{Column}
use Rattle.language_base.specs.declared.rule.Rule.{Rule}
use Rattle.language_base.specs.declared.span.Span.{Span}
use Rattle.predicate_cells.specs.Cells.{Partition}
use Rattle.query_model.specs.Queries.{Qre}
use Rattle.query_model.specs.Rates.{rate_of}
use Rattle.query_model.specs.Rules.{Standing, bound}
use Rattle.rate_expr.specs.FirstLastFollow.{AreSetsOf}
use Rattle.rate_expr.specs.Rates.{Regex}
use Rattle.rate_expr.specs.Sets.{Sets}
use Rattle.rate_expr.proofs.SetsOf.{sets_spell}
use Rattle.symbolic_nfa.specs.Automata.{Automaton}
use Rattle.type_checker.specs.Blames.{question_of}
use Rattle.type_checker.specs.Breaches.{AreOperands, IsAutomatonOf, IsBrokenAt, IsKept, IsUnfed}
use Rattle.query_resolver.specs.Steps.{refusal}
use Rattle.type_checker.specs.WordRules.{BreaksAt, BreaksFed}
use Rattle.type_checker.specs.declared.blame.Operands.{Operands}
use Rattle.type_checker.specs.declared.word_stop.WordStop.{WordStop}
use Rattle.type_checker.specs.declared.word_stop.WordStop.TheVariants.{Broken}
use Rattle.type_checker.proofs.PlainRules.{plain_at}

module _ (columns : List Column) (query : Qre) (broken : Option Rule)
    (breaks : (standing : Standing) → BreaksAt columns standing query broken) where
  -- no rule is broken
  pub kept_by : (sets : Sets) → broken ≡ None → AreSetsOf sets (rate_of query)
      → IsKept columns query sets
  kept_by sets none are =
      record {
        rule = λ standing. subst (BreaksAt columns standing query) none (breaks standing);
        sets = are;
      }

  -- a rule is broken, and refused where the query asks nothing of readings
  pub broken_by : question_of query ≡ None → (span : Span) (stop : WordStop)
      → ((rule : Rule) × (broken ≡ Some rule) × (stop ≡ Broken (refusal rule span)))
      → IsBrokenAt columns query span stop
  broken_by none span stop (rule, is, stops) =
      let here : (standing : Standing) → BreaksAt columns standing query (Some rule) =
      λ standing. subst (BreaksAt columns standing query) is (breaks standing) in
      subst (IsBrokenAt columns query span) (sym stops) (
        rule,
        λ standing.
            (here standing, (refl, plain_at columns standing query rule none (here standing))),
      )

-- what is found on some cells is found on the same
pub on_same : (cells other : Partition) (query : Qre) (broken : Option Rule) → cells ≡ other
    → ((standing : Standing) → BreaksAt cells.layout.columns standing query broken)
    → (standing : Standing) → BreaksAt other.layout.columns standing query broken
on_same cells other query broken same breaks standing =
    subst (λ (c : Partition). BreaksAt c.layout.columns standing query broken) same
    (breaks standing)

-- what is found on the cells of the first automaton is found on those of both
pub on_cells : (cells : Partition) (f g : Qre) (operands : Operands) (query : Qre)
    (broken : Option Rule) → AreOperands cells f g operands
    → ((standing : Standing) → BreaksAt operands.left.cells.layout.columns standing query broken)
    → (standing : Standing) → BreaksAt cells.layout.columns standing query broken
on_cells cells f g operands query broken are breaks =
    on_same operands.left.cells cells query broken are.left_cells breaks

-- the automaton of the sets of a query's rate
pub automaton_of : (cells : Partition) (query : Qre) (sets : Sets) (nfa : Automaton)
    → nfa ≡ record { sets = sets; cells = cells } → AreSetsOf sets (rate_of query)
    → IsAutomatonOf query nfa
automaton_of cells query sets nfa is are =
    subst (IsAutomatonOf query) (sym is)
    (record { sets = are; spells = sets_spell sets (rate_of query) are })

-- what is found of the values of another query
module _ (standing : Standing) (columns : List Column) (r : Regex) (broken : Option Rule)
    (breaks : BreaksFed standing columns r broken) where
  pub fed_by : broken ≡ None → BreaksFed standing columns r None
  fed_by none = subst (BreaksFed standing columns r) none breaks

  pub unfed_by : (span : Span) (stop : WordStop)
      → ((rule : Rule) × (broken ≡ Some rule) × (stop ≡ Broken (refusal rule span)))
      → IsUnfed standing columns r span stop
  unfed_by span stop (rule, is, stops) =
      subst (IsUnfed standing columns r span) (sym stops)
      (rule, refl, subst (BreaksFed standing columns r) is breaks)

-- what an automaton shows of a rate, on its cells
pub on_values : (sets : Sets) (cells : Partition) (nfa : Automaton)
    → nfa ≡ record { sets = sets; cells = cells } → (broken : Option Rule)
    → ((r : Regex) → AreSetsOf nfa.sets r → BreaksFed bound nfa.cells.layout.columns r broken)
    → (r : Regex) → AreSetsOf sets r → BreaksFed bound cells.layout.columns r broken
on_values sets cells nfa is broken answered r are =
    subst (λ (n : Automaton). BreaksFed bound n.cells.layout.columns r broken) is
    (answered r (subst (λ (n : Automaton). AreSetsOf n.sets r) (sym is) are))
