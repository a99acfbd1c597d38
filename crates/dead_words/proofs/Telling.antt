-- What an automaton tells of its rate.
use Rattle.std.proofs.Common.{ℕ, List, length}
use Rattle.std.specs.Prelude.{Result, Ok, Err, IfOk}
use Rattle.rate_expr.specs.Paths.{AreOf}
use Rattle.rate_expr.specs.Rates.{Regex}
use Rattle.rate_expr.specs.Readings.{HasExtension}
use Rattle.rate_expr.specs.Words.{Word}
use Rattle.symbolic_nfa.specs.Automata.{Automaton}
use Rattle.symbolic_nfa.proofs.WordsAfter.{extends-in}
use Rattle.dead_words.specs.Outlooks.{IsOutlook, IsShortestEnd}
use Rattle.dead_words.specs.Searched.{ExtendBelow, ExtendsAfter, IsEndIn, IsFoundIn}
use Rattle.dead_words.specs.declared.outlook.Outlook.{Outlook}
use Rattle.dead_words.specs.declared.outlook.Outlook.TheVariants.{Ends, GoesOn, Undecided}

module _ (nfa : Automaton) (rate : Regex) (are : AreOf nfa.sets rate) where
  has_extension : (word : Word) → ExtendsAfter nfa word
      → HasExtension nfa.cells.layout.columns rate word
  has_extension word (state, after, extends) =
      (extends-in nfa rate word state are after).0 extends

  shortest_end : (places : List ℕ) → IsEndIn nfa places → ExtendBelow nfa (length places)
      → IsShortestEnd nfa.cells rate places
  shortest_end places end below = record {
    places_of = end.places_of;
    dead = λ word are_in has. end.dead
        ((extends-in nfa rate word end.state are (end.leads word are_in)).1 has);
    shortest = λ word is less. has_extension word (below word is less);
  }

  tells : (outlook : Outlook) → IsFoundIn nfa outlook → IsOutlook nfa.cells rate outlook
  tells (Ends places) found = shortest_end places.items found.0 found.1
  tells GoesOn found = λ word is. has_extension word (found word is)
  tells Undecided found = tt

  pub tells_result : {E : Type 0} (result : Result Outlook E) → IfOk result (IsFoundIn nfa)
      → IfOk result (IsOutlook nfa.cells rate)
  tells_result (Ok outlook) found = tells outlook found
  tells_result (Err e) found = tt
