-- For the prover. The calls that may stand at a place, each with what it is.
use Rattle.std.specs.Prelude.{ℕ, ◌&&◌, ◌==◌, List, [], ◌∷◌, length, map, Option, Some, None}
use Rattle.std.specs.Prelude.{if◌then◌else◌}
use Rattle.std.specs.Str.{bytes_eq}
use Rattle.query_forms.specs.declared.term_place.TermPlace.{TermPlace}

-- what a call is, its head word and how many arguments it has
pub record Row (H : Type 0) : Type 0 where
  pub is : H
  pub word : List ℕ
  pub count : ℕ

-- the rows of calls that have these words, and arguments at these places
abbrev pub rows_of : {H : Type 0} → (H → List ℕ) → (H → List TermPlace) → List H → List (Row H)
rows_of word_of places_of heads =
    map (λ head. record { is = head; word = word_of head; count = length (places_of head) }) heads

-- what a call with this head word and this many arguments is, by the first row that has them
abbrev pub head_in : {H : Type 0} → List (Row H) → List ℕ → ℕ → Option H
head_in [] word count = None
head_in (first ∷ rest) word count =
    if bytes_eq first.word word && (first.count == count) then Some first.is
    else head_in rest word count
