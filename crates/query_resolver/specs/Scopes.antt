-- For the prover. What the names of an expression stand for, and the numbers in it, as they lie in
-- memory.
use Rattle.std.specs.Prelude.{FitsSigned}
use Rattle.std.specs.Int.{w64}
use Rattle.expressions.specs.Expressions.{Expression, literal, read, unary, binary, choice, sum}
use Rattle.expressions.specs.Expressions.{count, most, least, entry, rec, part, Expressions, none}
use Rattle.expressions.specs.Expressions.{more}
use Rattle.query_resolver.specs.Expressions.{Scope, of_item, of_one, of_two}
use Rattle.query_resolver.specs.declared.expression.Scope as memory
use Rattle.query_resolver.specs.declared.expression.Scope.TheVariants.{Item, One, Two}

-- what names stand for
abbrev pub plain_scope : memory.Scope → Scope
plain_scope (Item schema) = of_item schema.now.columns
plain_scope One = of_one
plain_scope Two = of_two

abbrev mutual
  -- the numbers of an expression are of 64 bits
  pub HasFittingNumbers : Expression → Type 0
  HasFittingNumbers (literal number) = FitsSigned w64 number
  HasFittingNumbers (read name) = Unit {0}
  HasFittingNumbers (unary operator inner) = HasFittingNumbers inner
  HasFittingNumbers (binary operator left right) = HasFittingNumbers left × HasFittingNumbers right
  HasFittingNumbers (choice compare left right met other) =
      HasFittingNumbers left × HasFittingNumbers right × HasFittingNumbers met
      × HasFittingNumbers other
  HasFittingNumbers (sum name) = Unit {0}
  HasFittingNumbers (count name) = Unit {0}
  HasFittingNumbers (most name first) = HasFittingNumbers first
  HasFittingNumbers (least name first) = HasFittingNumbers first
  HasFittingNumbers (entry name key other) = HasFittingNumbers other
  HasFittingNumbers (rec parts) = HaveFittingNumbers parts
  HasFittingNumbers (part name place) = Unit {0}

  -- and so are those of expressions
  pub HaveFittingNumbers : Expressions → Type 0
  HaveFittingNumbers none = Unit {0}
  HaveFittingNumbers (more first others) = HasFittingNumbers first × HaveFittingNumbers others
