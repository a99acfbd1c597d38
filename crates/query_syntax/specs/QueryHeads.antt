-- For the prover. The calls that are queries.
use Rattle.std.specs.Prelude.{ℕ, List, [], ◌∷◌, codes}
use Rattle.query_forms.specs.declared.term_place.TermPlace.{TermPlace}
use Rattle.query_forms.specs.declared.term_place.TermPlace.TheVariants as place
use Rattle.query_syntax.specs.declared.query_head.QueryHead.{QueryHead}
use Rattle.query_syntax.specs.declared.query_head.QueryHead.TheVariants.{Atom, Eps, Or, Split, Iter}
use Rattle.query_syntax.specs.declared.query_head.QueryHead.TheVariants.{Combine, Apply, Compose}
use Rattle.query_syntax.specs.declared.query_head.QueryHead.TheVariants.{Collect}
use Rattle.query_syntax.specs.Rows.{Row, rows_of}

-- the head word of each
abbrev pub query_word : QueryHead → List ℕ
query_word Atom = codes "atom"
query_word Eps = codes "eps"
query_word Or = codes "or"
query_word Split = codes "split"
query_word Iter = codes "iter"
query_word Combine = codes "combine"
query_word Apply = codes "apply"
query_word Compose = codes "compose"
query_word Collect = codes "collect"

-- and the places of its arguments
abbrev pub query_places : QueryHead → List TermPlace
query_places Atom = place.Pred ∷ place.Expr ∷ []
query_places Eps = place.Number ∷ []
query_places Or = place.Query ∷ place.Query ∷ []
query_places Split = place.Query ∷ place.Query ∷ place.Expr ∷ []
query_places Iter = place.Query ∷ place.Number ∷ place.Expr ∷ []
query_places Combine = place.Query ∷ place.Query ∷ place.Expr ∷ []
query_places Apply = place.Query ∷ place.Expr ∷ []
query_places Compose = place.Query ∷ place.Query ∷ []
query_places Collect = place.Key ∷ place.Pred ∷ place.Rate ∷ place.Query ∷ []

-- all calls that are queries
abbrev pub query_heads : List QueryHead
query_heads =
    Atom ∷ Eps ∷ Or ∷ Split ∷ Iter ∷ Combine ∷ Apply ∷ Compose ∷ Collect ∷ []

abbrev pub queries : List (Row QueryHead)
queries = rows_of query_word query_places query_heads
