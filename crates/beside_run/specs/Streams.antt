-- Statement. Whether the streams of queries are one, and the line that says which one is another.
use Rattle.std.specs.Prelude.{◌≡◌, ℕ, ◌+◌, List, [], ◌∷◌, ◌++◌, length, codes, decimal}
use Rattle.std.specs.List.{AllByRecursion}
use Rattle.item_schema.specs.Layout.{Layout}

-- each has the columns of the first, and a header if that has one
abbrev pub AreOneStream : List Layout → Type 0
AreOneStream [] = Unit {0}
AreOneStream (first ∷ others) = AllByRecursion (λ other. other ≡ first) others

-- the stream of this number, counted from 1, is another than the first, and those before it are not
pub record IsFirstOther (streams : List Layout) (number : ℕ) : Type 0 where
  pub first : Layout
  pub same : List Layout
  pub other : Layout
  pub others : List Layout
  pub parts : streams ≡ first ∷ same ++ other ∷ others
  pub are_same : AllByRecursion (λ stream. stream ≡ first) same
  pub differs : other ≡ first → ⊥
  pub number_is : number ≡ length same + 2

-- the line that names it
abbrev pub other_text : ℕ → List ℕ
other_text number = codes "stream " ++ decimal number ++ codes "\n"
