-- Statement. The automaton of a rate, over the items of a stream.
use Rattle.std.specs.Prelude.{◌≡◌}
use Rattle.item_schema.specs.Layout.{Layout}
use Rattle.rate_expr.specs.Paths.{AreOf}
use Rattle.rate_expr.specs.Rates.{Regex}
use Rattle.symbolic_nfa.specs.Automata.{Automaton}

-- the automaton is of the rate, over items of the layout
pub record IsOfRate (layout : Layout) (rate : Regex) (nfa : Automaton) : Type 0 where
  pub layout_is : nfa.cells.layout ≡ layout
  pub sets : AreOf nfa.sets rate
