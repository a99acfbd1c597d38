-- Statement. Expressions without where they lie in memory.
use Rattle.language_base.specs.declared.span.Span.{Span}
use Rattle.query_syntax.specs.declared.leaf.Index.{Index}
use Rattle.query_syntax.specs.declared.leaf.Name.{Name}
use Rattle.query_syntax.specs.declared.leaf.Number.{Number}
use Rattle.query_syntax.specs.declared.leaf.Text.{Text}
use Rattle.language_base.specs.declared.binary.BinaryOp.{BinaryOp}
use Rattle.language_base.specs.declared.compare.Compare.{Compare}
use Rattle.query_syntax.specs.declared.operator.Extremum.{Extremum}
use Rattle.query_syntax.specs.declared.operator.Summary.{Summary}
use Rattle.language_base.specs.declared.unary.UnaryOp.{UnaryOp}

mutual
  -- an expression
  pub data Expression : Type 0 where
    number : Number → Expression
    name : Name → Expression
    unary : UnaryOp → Expression → Span → Expression
    binary : BinaryOp → Expression → Expression → Span → Expression
    -- the comparison with its operands and its place, and what it chooses between
    choice : Compare → Expression → Expression → Span → Expression → Expression → Span → Expression
    summary : Summary → Name → Span → Expression
    extremum : Extremum → Name → Expression → Span → Expression
    get : Name → Text → Expression → Span → Expression
    -- the parts of a record
    rec : Expressions → Span → Expression
    -- the name of a record, and which of its parts
    part : Name → Index → Span → Expression

  -- expressions, one after the other
  pub data Expressions : Type 0 where
    none : Expressions
    more : Expression → Expressions → Expressions
