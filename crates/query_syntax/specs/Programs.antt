-- Statement. Files without where they lie in memory.
use Rattle.std.specs.Prelude.{List}
use Rattle.language_base.specs.declared.span.Span.{Span}
use Rattle.query_syntax.specs.declared.leaf.Name.{Name}
use Rattle.query_syntax.specs.declared.stream.Column.{Column}
use Rattle.query_syntax.specs.declared.stream.Mode.{Mode}
use Rattle.query_syntax.specs.Queries.{Query}

-- the stream
pub record Stream : Type 0 where
  pub mode : Mode
  pub columns : List Column
  pub span : Span

-- a query with a name
pub record Let : Type 0 where
  pub name : Name
  pub query : Query
  pub span : Span

-- the main query
pub record Main : Type 0 where
  pub query : Query
  pub span : Span

-- a whole file
pub record Program : Type 0 where
  pub stream : Stream
  pub lets : List Let
  pub main : Main
