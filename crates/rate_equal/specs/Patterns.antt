-- For the prover. Letters that have some positions and lack others.
use Rattle.std.specs.Prelude.{◌≡◌, ◌+◌, ◌<◌, ◌↔◌, ◌⊎◌, ℕ, List}
use Rattle.std.specs.List.{Contains}
use Rattle.rate_expr.specs.Sets.{Has}
use Rattle.rate_equal.specs.Targets.{target}
use Rattle.rate_equal.specs.declared.letters.Letter.{Letter}
use Rattle.rate_equal.specs.declared.pattern.Pattern.{Pattern}
use Rattle.rate_equal.specs.declared.pattern.Position.{Position}
use Rattle.rate_equal.specs.declared.pattern.Position.TheVariants.{First, Second}

-- the masks of both automata have the position
abbrev pub HasAt : ℕ × ℕ → Position → Type 0
HasAt masks (First position) = Has masks.0 position
HasAt masks (Second position) = Has masks.1 position

-- the position is one of the 128 that an automaton may have
abbrev pub IsBelow : Position → Type 0
IsBelow (First position) = position < 128
IsBelow (Second position) = position < 128

-- the masks of a letter
abbrev pub positions_of : Letter → ℕ × ℕ
positions_of letter = (letter.first, letter.second)

-- the letter has the positions that the pattern asks for, and lacks those that it forbids
pub record IsLike (pattern : Pattern) (letter : Letter) : Type 0 where
  pub has : (position : Position) → HasAt pattern.has position
      → HasAt (positions_of letter) position
  pub lacks : (position : Position) → HasAt pattern.lacks position
      → HasAt (positions_of letter) position → ⊥

-- the position is a possible one, each other position of the masks is in the rest, and the rest is
-- smaller
pub record IsRest (masks : ℕ × ℕ) (position : Position) (rest : ℕ × ℕ) : Type 0 where
  pub fits : IsBelow position
  pub each : (other : Position) → HasAt masks other → (position ≡ other) ⊎ HasAt rest other
  pub smaller : rest.0 + rest.1 < masks.0 + masks.1

-- both letters have the position, or neither has
abbrev pub HaveSameAt : Position → Letter → Letter → Type 0
HaveSameAt position one other =
    HasAt (positions_of one) position ↔ HasAt (positions_of other) position

-- of the positions in the masks, both letters have the same
abbrev pub HaveSame : ℕ × ℕ → Letter → Letter → Type 0
HaveSame masks one other =
    (position : Position) → HasAt masks position → HaveSameAt position one other

-- letters of the pattern that have the same of these positions have the same target
abbrev pub Decide : List Letter → ℕ × ℕ → Pattern → ℕ × ℕ → Type 0
Decide letters ways pattern masks = (one other : Letter) → Contains letters one
    → Contains letters other → IsLike pattern one → IsLike pattern other
    → HaveSame masks one other → target ways one ≡ target ways other

-- letters that have the same of these positions have the same target
abbrev pub DecideAll : List Letter → ℕ × ℕ → ℕ × ℕ → Type 0
DecideAll letters ways masks = (one other : Letter) → Contains letters one
    → Contains letters other → HaveSame masks one other → target ways one ≡ target ways other

-- all letters have the positions
abbrev pub AreCommon : List Letter → ℕ × ℕ → Type 0
AreCommon letters masks = (letter : Letter) → Contains letters letter
    → ((position : ℕ) → Has masks.0 position → Has letter.first position)
    × ((position : ℕ) → Has masks.1 position → Has letter.second position)
