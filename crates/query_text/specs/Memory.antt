-- Statement. What a query has that lies in memory: its texts are of bytes, the numbers of its tests
-- are of 64 bits, and its keys have as many columns as a key may have.
use Rattle.std.specs.Prelude.{length, FitsSigned}
use Rattle.std.specs.Int.{w64}
use Rattle.expressions.specs.Expressions as value
use Rattle.expressions.specs.Expressions.{Expression, Expressions}
use Rattle.predicates.specs.Predicates as test
use Rattle.predicates.specs.Predicates.{Predicate}
use Rattle.query_model.specs.Keys.{IsKeySize}
use Rattle.query_model.specs.Queries as query
use Rattle.query_model.specs.Queries.{Qre}
use Rattle.rate_expr.specs.Rates as rate
use Rattle.rate_expr.specs.Rates.{Regex}
use Rattle.value_ops.specs.Texts.{IsText}

abbrev mutual
  -- the keys of tables in an expression are texts
  pub HasTextKeys : Expression → Type 0
  HasTextKeys (value.literal number) = Unit {0}
  HasTextKeys (value.read name) = Unit {0}
  HasTextKeys (value.unary op inner) = HasTextKeys inner
  HasTextKeys (value.binary op first second) = HasTextKeys first × HasTextKeys second
  HasTextKeys (value.choice test first second met other) =
      HasTextKeys first × HasTextKeys second × HasTextKeys met × HasTextKeys other
  HasTextKeys (value.sum name) = Unit {0}
  HasTextKeys (value.count name) = Unit {0}
  HasTextKeys (value.most name first) = HasTextKeys first
  HasTextKeys (value.least name first) = HasTextKeys first
  HasTextKeys (value.entry name key other) = IsText key × HasTextKeys other
  HasTextKeys (value.rec parts) = HaveTextKeys parts
  HasTextKeys (value.part name place) = Unit {0}

  -- and so are those of expressions
  pub HaveTextKeys : Expressions → Type 0
  HaveTextKeys value.none = Unit {0}
  HaveTextKeys (value.more first rest) = HasTextKeys first × HaveTextKeys rest

-- what a predicate compares with are numbers of 64 bits and texts
abbrev pub HasOperands : Predicate → Type 0
HasOperands test.any = Unit {0}
HasOperands (test.eq column number) = FitsSigned w64 number
HasOperands (test.ne column number) = FitsSigned w64 number
HasOperands (test.lt column number) = FitsSigned w64 number
HasOperands (test.le column number) = FitsSigned w64 number
HasOperands (test.gt column number) = FitsSigned w64 number
HasOperands (test.ge column number) = FitsSigned w64 number
HasOperands (test.between column low high) = FitsSigned w64 low × FitsSigned w64 high
HasOperands (test.eq_text column text) = IsText text
HasOperands (test.ne_text column text) = IsText text
HasOperands (test.is_num column) = Unit {0}
HasOperands (test.conjunction left right) = HasOperands left × HasOperands right
HasOperands (test.disjunction left right) = HasOperands left × HasOperands right
HasOperands (test.negation inner) = HasOperands inner

-- and so do those of a rate
abbrev pub HaveOperands : Regex → Type 0
HaveOperands rate.empty = Unit {0}
HaveOperands (rate.one pred) = HasOperands pred
HaveOperands (rate.sequence left right) = HaveOperands left × HaveOperands right
HaveOperands (rate.choice left right) = HaveOperands left × HaveOperands right
HaveOperands (rate.star inner) = HaveOperands inner

-- all of this at every node
abbrev pub FitsMemory : Qre → Type 0
FitsMemory (query.atom pred expression) = HasOperands pred × HasTextKeys expression
FitsMemory (query.eps number) = Unit {0}
FitsMemory (query.choice f g) = FitsMemory f × FitsMemory g
FitsMemory (query.split f g expression) = FitsMemory f × FitsMemory g × HasTextKeys expression
FitsMemory (query.iter f number expression) = FitsMemory f × HasTextKeys expression
FitsMemory (query.combine f g expression) = FitsMemory f × FitsMemory g × HasTextKeys expression
FitsMemory (query.apply f expression) = FitsMemory f × HasTextKeys expression
FitsMemory (query.compose f g) = FitsMemory f × FitsMemory g
FitsMemory (query.collect chosen sync rate f) =
    FitsMemory f × IsKeySize (length chosen) × HasOperands sync × HaveOperands rate
