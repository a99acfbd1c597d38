-- What the rate of a query says of its values.
use Rattle.std.proofs.Common.{◌≡◌, List, [], ◌∷◌, ◌++◌, subst}
use Rattle.std.specs.Prelude.{Result, Ok, Err, IfOk}
use Rattle.item_schema.specs.Layout.{Layout}
use Rattle.item_schema.specs.declared.column.Column.{Column}
use Rattle.query_model.specs.Monitors.{Monitor}
use Rattle.query_model.specs.Rates.{rate_of}
use Rattle.query_model.specs.Rules.{bound, free, IsClear}
use Rattle.query_model.proofs.Defined.{in_den}
use Rattle.query_model.proofs.InRates.{den_in}
use Rattle.rate_expr.specs.Readings.{HasExtension}
use Rattle.rate_expr.specs.Words.{Word, IsWordOf}
use Rattle.dead_example.specs.Endings.{IsEnding, LeadsToValue, IsEndingOf}
use Rattle.dead_example.specs.Rates.{IsEndOfRate, IsEndingOfRate}
use Rattle.dead_example.specs.declared.ending.Ending.{Ending}
use Rattle.dead_example.specs.declared.ending.Ending.TheVariants.{Lines, Never, Unknown}

-- two words of the columns make one
pub joined : (columns : List Column) (u v : Word) → IsWordOf columns u → IsWordOf columns v
    → IsWordOf columns (u ++ v)
joined columns [] v is others = others
joined columns (item ∷ u) v is others = (is.0, joined columns u v is.1 others)

module _ (monitor : Monitor) where
  -- where the query is bound, an extension has a value
  pub leads_to_value : (word : Word) → IsClear bound monitor.layout.columns monitor.query
      → IsWordOf monitor.layout.columns word
      → HasExtension monitor.layout.columns (rate_of monitor.query) word
      → LeadsToValue monitor word
  leads_to_value word clear is (item, more, items, in_rate) =
      let found = in_den monitor.layout.columns monitor.query (word ++ item ∷ more) clear
      (joined monitor.layout.columns word (item ∷ more) is items) in_rate in
      record { item = item; more = more; value = found.0; items = items; den = found.1 }

  module _ (clear : IsClear free monitor.layout.columns monitor.query) where
    -- where the rate ends, values do
    ending : (word : Word) → IsEndOfRate monitor.layout.columns (rate_of monitor.query) word
        → IsEnding monitor word
    ending word end = record {
      items = end.items;
      dead = λ leads. end.dead (
        leads.item,
        leads.more,
        leads.items,
        den_in free monitor.layout.columns monitor.query (word ++ leads.item ∷ leads.more)
            leads.value clear
            (joined monitor.layout.columns word (leads.item ∷ leads.more) end.items leads.items)
            leads.den,
      );
      shortest = end.shortest;
    }

    ending_is : (result : Ending)
        → IsEndingOfRate monitor.layout.columns (rate_of monitor.query) result
        → IsEndingOf monitor result
    ending_is (Lines lines) (word, end, lines_are) = (word, ending word end, lines_are)
    ending_is Never of_rate = of_rate
    ending_is Unknown of_rate = tt

    pub ending_of_result : {E : Type 0} (result : Result Ending E) (layout : Layout)
        → layout ≡ monitor.layout
        → IfOk result (IsEndingOfRate layout.columns (rate_of monitor.query))
        → IfOk result (IsEndingOf monitor)
    ending_of_result (Ok result) layout same of_rate = ending_is result
        (subst (λ (l : Layout). IsEndingOfRate l.columns (rate_of monitor.query) result) same
        of_rate)
    ending_of_result (Err e) layout same of_rate = tt
