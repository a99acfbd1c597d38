-- From a blame to a shortest word that shows it.
use Rattle.std.proofs.Common.{List, Option, None, Some, subst}
use Rattle.std.specs.Prelude.{MatchOption}
use Rattle.ambiguity_example.specs.Asks.{Asks, ShareCells, columns_of}
use Rattle.ambiguity_example.specs.Shows.{IsKept, IsShortestShown, Question, Shown}
use Rattle.ambiguity_example.specs.declared.question.Ask.{Ask}
use Rattle.item_schema.specs.declared.column.Column.{Column}
use Rattle.type_checker.specs.Blames.{IsAskOf, ambiguity_of}
use Rattle.type_checker.specs.declared.blame.Blame.{Blame}
use Rattle.type_checker.proofs.Questions.{two_readings}
use Rattle.query_compiler.specs.Stops.{IsBlamed, IsShownFor}

-- what is found of whatever question is asked
abbrev Finds : Ask → Option Shown → Type 0
Finds ask found = (question : Question) → Asks ask question
    → MatchOption found (IsKept (columns_of ask) question)
    (IsShortestShown (columns_of ask) question)

module _ (blame : Blame) (ask : Ask) (of_it : IsAskOf (ambiguity_of blame) ask) where
  -- the automata share their cells
  pub blamed_share : IsBlamed blame → ShareCells ask
  blamed_share (program, is) = (is.at.automata ask of_it).1

  -- some word shows it
  pub blamed_found : IsBlamed blame → Finds ask None → ⊥
  blamed_found (program, is) finds =
      let asks = is.at.automata ask of_it in
      let kept : IsKept is.node.columns is.at.question =
      subst (λ (c : List Column). IsKept c is.at.question) asks.2 (finds is.at.question asks.0)
      in
      (two_readings is.node is.broken is.at.question is.at.asked is.first.breaks).1 kept

  -- and a word that is found is a shortest one
  pub found_shortest : (shown : Shown) → Finds ask (Some shown) → IsShownFor blame shown
  found_shortest shown finds node rule at =
      let asks = at.automata ask of_it in
      subst (λ (c : List Column). IsShortestShown c at.question shown) asks.2
      (finds at.question asks.0)
