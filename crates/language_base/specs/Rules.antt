-- Statement. The rules of the language by their numbers.
use Rattle.std.specs.Prelude.{ℕ}
use Rattle.language_base.specs.declared.rule.Rule.{Rule}
use Rattle.language_base.specs.declared.rule.Rule.TheVariants.{Long, Token, Term, Depth, Form, Name}
use Rattle.language_base.specs.declared.rule.Rule.TheVariants.{Nested, Size, Literal, Mismatch}
use Rattle.language_base.specs.declared.rule.Rule.TheVariants.{Cells, Empty, Choice, Split, Iter}
use Rattle.language_base.specs.declared.rule.Rule.TheVariants.{Reach, Rates, Compose}

-- the number of each rule
abbrev pub number_of : Rule → ℕ
number_of Long = 1
number_of Token = 2
number_of Term = 3
number_of Depth = 4
number_of Form = 5
number_of Name = 6
number_of Nested = 7
number_of Size = 8
number_of Literal = 9
number_of Mismatch = 10
number_of Cells = 11
number_of Empty = 12
number_of Choice = 13
number_of Split = 14
number_of Iter = 15
number_of Reach = 16
number_of Rates = 17
number_of Compose = 18
