-- Statement. Why tokens are refused.
use Rattle.std.specs.Prelude.{◌≡◌, ℕ, List, Some}
use Rattle.query_tokens.specs.declared.token.Token.{Token}
use Rattle.query_trees.specs.declared.stop.TreeStop.{TreeStop}
use Rattle.query_trees.specs.declared.stop.TreeStop.TheVariants.{NoList, Deep, Memory}
use Rattle.query_trees.specs.Terms.{AreTerms, IsNoList}
use Rattle.query_trees.specs.Trees.{Trees, first_deep}

-- either the tokens are no list of terms, or they are one and a term is too deep; the span is the
-- place to name
abbrev pub IsStopAt : List Token → ℕ → TreeStop → Type 0
IsStopAt tokens end (NoList span) = IsNoList tokens end span
IsStopAt tokens end (Deep span) =
    (trees : Trees) × AreTerms trees tokens × (first_deep 1 trees ≡ Some span)
IsStopAt tokens end Memory = Unit {0}
