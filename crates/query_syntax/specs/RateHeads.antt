-- For the prover. The calls that are rates.
use Rattle.std.specs.Prelude.{ℕ, List, [], ◌∷◌, codes}
use Rattle.query_forms.specs.declared.term_place.TermPlace.{TermPlace}
use Rattle.query_forms.specs.declared.term_place.TermPlace.TheVariants as place
use Rattle.query_syntax.specs.declared.operator.Join.TheVariants.{Seq, Alt}
use Rattle.query_syntax.specs.declared.rate_head.RateHead.{RateHead}
use Rattle.query_syntax.specs.declared.rate_head.RateHead.TheVariants.{Item, Joined, Star}
use Rattle.query_syntax.specs.Rows.{Row, rows_of}
use Rattle.query_syntax.specs.Words.{join_word}

-- the head word of each
abbrev pub rate_word : RateHead → List ℕ
rate_word Item = codes "item"
rate_word (Joined join) = join_word join
rate_word Star = codes "star"

-- and the places of its arguments
abbrev pub rate_places : RateHead → List TermPlace
rate_places Item = place.Pred ∷ []
rate_places (Joined join) = place.Rate ∷ place.Rate ∷ []
rate_places Star = place.Rate ∷ []

-- all calls that are rates
abbrev pub rate_heads : List RateHead
rate_heads = Item ∷ Joined Seq ∷ Joined Alt ∷ Star ∷ []

abbrev pub rates : List (Row RateHead)
rates = rows_of rate_word rate_places rate_heads
