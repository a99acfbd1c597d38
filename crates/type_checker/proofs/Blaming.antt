-- A node that breaks a rule which forbids a word with two readings: what its blame asks.
use Rattle.std.proofs.Common.{◌≡◌, ℤ, Option, Some, refl, sym, ap, subst, ◌∙◌}
use Rattle.std.specs.Prelude.{Box}
use Rattle.std.specs.declared.alloc.Global.{Global}
use Rattle.language_base.specs.declared.rule.Rule.{Rule}
use Rattle.language_base.specs.declared.span.Span.{Span}
use Rattle.predicate_cells.specs.Cells.{Partition}
use Rattle.query_model.specs.Queries as q
use Rattle.query_model.specs.Queries.{Qre}
use Rattle.query_model.specs.Rates.{rate_of}
use Rattle.query_model.specs.Rules.{Standing}
use Rattle.rate_expr.specs.Paths.{AreOf}
use Rattle.symbolic_nfa.specs.Automata.{Automaton}
use Rattle.expressions.specs.Expressions.{Expression}
use Rattle.ambiguity_example.specs.Asks.{Asks, ShareCells, columns_of}
use Rattle.ambiguity_example.specs.Shows as shows
use Rattle.ambiguity_example.specs.Shows.{Question}
use Rattle.ambiguity_example.specs.declared.question.Ask.{Ask}
use Rattle.ambiguity_example.specs.declared.question.Ask.TheVariants as ask
use Rattle.type_checker.specs.Blames.{IsAskOf, ambiguity_of, question_of, refusal_of}
use Rattle.type_checker.specs.Breaches.{AreOperands, IsAutomatonOf, IsBrokenAt}
use Rattle.query_resolver.specs.Steps.{refusal}
use Rattle.type_checker.specs.WordRules.{BreaksAt}
use Rattle.type_checker.specs.declared.blame.Ambiguity.{Ambiguity}
use Rattle.type_checker.specs.declared.blame.Ambiguity.TheVariants.{Choice, Split, Iter}
use Rattle.type_checker.specs.declared.blame.Blame.{Blame}
use Rattle.type_checker.specs.declared.blame.Operands.{Operands}
use Rattle.type_checker.specs.declared.word_stop.WordStop.TheVariants.{Ambiguous}

-- whoever asks of these automata asks this question, over these columns
abbrev AsksOver : Ambiguity → Question → Partition → Type 0
AsksOver ambiguity question cells = (of_it : Ask) → IsAskOf ambiguity of_it
    → Asks of_it question × ShareCells of_it × (columns_of of_it ≡ cells.layout.columns)

-- the automata of two operands
module _ (cells : Partition) (f g : Qre) (operands : Operands)
    (are : AreOperands cells f g operands) (boxed : Box Operands Global)
    (same : boxed.value ≡ operands) where
  module _ (first second : Automaton)
      (is : (first ≡ boxed.value.left) × (second ≡ boxed.value.right)) where
    left : first ≡ operands.left
    left = is.0 ∙ ap (λ (o : Operands). o.left) same

    right : second ≡ operands.right
    right = is.1 ∙ ap (λ (o : Operands). o.right) same

    spell : AreOf first.sets (rate_of f) × AreOf second.sets (rate_of g)
    spell = (
      subst (λ (nfa : Automaton). AreOf nfa.sets (rate_of f)) (sym left) are.left.spells,
      subst (λ (nfa : Automaton). AreOf nfa.sets (rate_of g)) (sym right) are.right.spells,
    )

    first_cells : first.cells ≡ cells
    first_cells = ap (λ (nfa : Automaton). nfa.cells) left ∙ are.left_cells

    share : first.cells ≡ second.cells
    share = first_cells ∙ sym (ap (λ (nfa : Automaton). nfa.cells) right ∙ are.right_cells)

    over : first.cells.layout.columns ≡ cells.layout.columns
    over = ap (λ (c : Partition). c.layout.columns) first_cells

  choice_asks : AsksOver (Choice boxed) (shows.choice (rate_of f) (rate_of g)) cells
  choice_asks (ask.Choice first second) is =
      (spell first.now second.now is, share first.now second.now is, over first.now second.now is)
  choice_asks (ask.Split first second) is = absurd is
  choice_asks (ask.Iter nfa) is = absurd is

  split_asks : AsksOver (Split boxed) (shows.split (rate_of f) (rate_of g)) cells
  split_asks (ask.Choice first second) is = absurd is
  split_asks (ask.Split first second) is =
      (spell first.now second.now is, share first.now second.now is, over first.now second.now is)
  split_asks (ask.Iter nfa) is = absurd is

-- the automaton of one
iter_asks : (f : Qre) (operand : Automaton) → IsAutomatonOf f operand
    → (boxed : Box Automaton Global) → boxed.value ≡ operand
    → AsksOver (Iter boxed) (shows.iter (rate_of f)) operand.cells
iter_asks f operand is_of boxed same (ask.Choice first second) is = absurd is
iter_asks f operand is_of boxed same (ask.Split first second) is = absurd is
iter_asks f operand is_of boxed same (ask.Iter nfa) is =
    let one : nfa.now ≡ operand = is ∙ same in (
      subst (λ (n : Automaton). AreOf n.sets (rate_of f)) (sym one) is_of.spells,
      tt,
      ap (λ (n : Automaton). n.cells.layout.columns) one,
    )

-- the refusal by the rule at the place, with the automata
module _ (blame : Box Blame Global) (rule : Rule) (span : Span)
    (refuses : refusal_of blame.value ≡ refusal rule span) (broken : Option Rule)
    (is : broken ≡ Some rule) where
  -- of any query that asks a question of readings
  blamed : (cells : Partition) (query : Qre) (question : Question)
      → question_of query ≡ Some question → (ambiguity : Ambiguity)
      → ambiguity_of blame.value ≡ ambiguity → AsksOver ambiguity question cells
      → ((standing : Standing) → BreaksAt cells.layout.columns standing query broken)
      → IsBrokenAt cells.layout.columns query span (Ambiguous blame)
  blamed cells query question asked ambiguity of_it asks breaks = (
    rule,
    λ standing. (
      subst (BreaksAt cells.layout.columns standing query) is (breaks standing),
      record {
        refusal = refuses;
        question = question;
        asked = asked;
        automata = subst (λ (a : Ambiguity). AsksOver a question cells) (sym of_it) asks;
      },
    ),
  )

  module _ (cells : Partition) (f g : Qre) (operands : Operands)
      (are : AreOperands cells f g operands) (boxed : Box Operands Global)
      (same : boxed.value ≡ operands) where
    pub choice_blamed : ambiguity_of blame.value ≡ Choice boxed
        → ((standing : Standing) → BreaksAt cells.layout.columns standing (q.choice f g) broken)
        → IsBrokenAt cells.layout.columns (q.choice f g) span (Ambiguous blame)
    choice_blamed of_it breaks =
        blamed cells (q.choice f g) (shows.choice (rate_of f) (rate_of g)) refl (Choice boxed) of_it
        (choice_asks cells f g operands are boxed same) breaks

    pub split_blamed : (value : Expression) → ambiguity_of blame.value ≡ Split boxed
        → ((standing : Standing)
        → BreaksAt cells.layout.columns standing (q.split f g value) broken)
        → IsBrokenAt cells.layout.columns (q.split f g value) span (Ambiguous blame)
    split_blamed value of_it breaks =
        blamed cells (q.split f g value) (shows.split (rate_of f) (rate_of g)) refl
        (Split boxed) of_it (split_asks cells f g operands are boxed same) breaks

  pub iter_blamed : (f : Qre) (number : ℤ) (step : Expression) (operand : Automaton)
      → IsAutomatonOf f operand → (boxed : Box Automaton Global) → boxed.value ≡ operand
      → ambiguity_of blame.value ≡ Iter boxed
      → ((standing : Standing)
      → BreaksAt operand.cells.layout.columns standing (q.iter f number step) broken)
      → IsBrokenAt operand.cells.layout.columns (q.iter f number step) span (Ambiguous blame)
  iter_blamed f number step operand is_of boxed same of_it breaks =
      blamed operand.cells (q.iter f number step) (shows.iter (rate_of f)) refl (Iter boxed) of_it
      (iter_asks f operand is_of boxed same) breaks
