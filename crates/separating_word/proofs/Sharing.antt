-- Words that the rates of two queries share.
use Rattle.std.proofs.Common.{ℕ, sym, subst}
use Rattle.item_schema.specs.Layout.{Layout}
use Rattle.query_model.specs.Checked.{CheckedQuery}
use Rattle.query_model.specs.Monitors.{monitor_of}
use Rattle.query_model.specs.Queries.{plain_of}
use Rattle.query_model.specs.Rates.{rate_of}
use Rattle.rate_expr.specs.Words.{IsWordOf}
use Rattle.symbolic_nfa.proofs.WordsAfter.{is_accepted-in}
use Rattle.separating_word.specs.Pairs.{AreOfRates}
use Rattle.separating_word.specs.Searched.{AgreeBelow}
use Rattle.separating_word.specs.Separations.{ShareWordsBelow}
use Rattle.separating_word.specs.declared.automata.Automata.{Automata}

-- where the states after each word with fewer items agree, the rates share those words
pub share_below : (left right : CheckedQuery) (automata : Automata) (items : ℕ)
    → AreOfRates left right automata → AgreeBelow automata items
    → ShareWordsBelow (monitor_of left) (monitor_of right) items
share_below left right automata items of agree word is less =
    let at = agree word
    (subst (λ (layout : Layout). IsWordOf layout.columns word) (sym of.layout) is) less in
    let one = is_accepted-in automata.left.sets (rate_of (plain_of left.main.shape)) word at.0
    of.left_of at.2.0 in
    let other = is_accepted-in automata.right.sets (rate_of (plain_of right.main.shape)) word
    at.1 of.right_of
    at.2.1 in (
      λ in_left. other.0 (at.3.0 (one.1 in_left)),
      λ in_right. one.0 (at.3.1 (other.1 in_right)),
    )
