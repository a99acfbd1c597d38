-- Statement. The plain trees that those of the program are.
use Rattle.std.specs.Prelude.{List, [], ◌∷◌, map}
use Rattle.query_syntax.specs.declared.expression.Expression as expression
use Rattle.query_syntax.specs.declared.predicate.Predicate as predicate
use Rattle.query_syntax.specs.declared.rate.Rate as rate
use Rattle.query_syntax.specs.declared.query.Query as query
use Rattle.query_syntax.specs.declared.stream.Stream.{Stream}
use Rattle.query_syntax.specs.declared.program.Let.{Let}
use Rattle.query_syntax.specs.declared.program.Main.{Main}
use Rattle.query_syntax.specs.declared.program.Program.{Program}
use Rattle.query_syntax.specs.Expressions as e
use Rattle.query_syntax.specs.Predicates as p
use Rattle.query_syntax.specs.Rates as r
use Rattle.query_syntax.specs.Queries as q
use Rattle.query_syntax.specs.Programs as plain

abbrev mutual
  -- an expression
  pub plain_expression : expression.Expression → e.Expression
  plain_expression (expression.Number n) = e.number n
  plain_expression (expression.Name n) = e.name n
  plain_expression (expression.Unary' op _ a span) = e.unary op (plain_expression a) span
  plain_expression (expression.Binary' op _ a _ b span) =
      e.binary op (plain_expression a) (plain_expression b) span
  plain_expression (expression.If' op _ a _ b at _ c _ d span) =
      e.choice op (plain_expression a) (plain_expression b) at (plain_expression c)
      (plain_expression d) span
  plain_expression (expression.Summary op table span) = e.summary op table span
  plain_expression (expression.Extremum' op table _ a span) =
      e.extremum op table (plain_expression a) span
  plain_expression (expression.Get' table key _ a span) = e.get table key (plain_expression a) span
  plain_expression (expression.Record' shape parts span) = e.rec (row_expressions parts) span
  plain_expression (expression.Part whole index span) = e.part whole index span

  -- the parts of a record
  pub row_expressions : {n : _} → expression.Row_of-Expression n → e.Expressions
  row_expressions expression.end_of-Expression = e.none
  row_expressions (expression.more_of-Expression first rest) =
      e.more (plain_expression first) (row_expressions rest)

-- the expressions of a list
abbrev pub plain_expressions : List expression.Expression → e.Expressions
plain_expressions [] = e.none
plain_expressions (first ∷ rest) = e.more (plain_expression first) (plain_expressions rest)

-- a predicate
abbrev pub plain_predicate : predicate.Predicate → p.Predicate
plain_predicate (predicate.Any span) = p.any span
plain_predicate (predicate.Equality op column literal span) = p.equality op column literal span
plain_predicate (predicate.Order op column bound span) = p.order op column bound span
plain_predicate (predicate.Between column low high span) = p.between column low high span
plain_predicate (predicate.IsNum column span) = p.is_num column span
plain_predicate (predicate.Joined' op _ a _ b span) =
    p.joined op (plain_predicate a) (plain_predicate b) span
plain_predicate (predicate.Not' _ a span) = p.negated (plain_predicate a) span

-- a rate
abbrev pub plain_rate : rate.Rate → r.Rate
plain_rate (rate.Eps span) = r.eps span
plain_rate (rate.Item f span) = r.item (plain_predicate f) span
plain_rate (rate.Joined' op _ a _ b span) = r.joined op (plain_rate a) (plain_rate b) span
plain_rate (rate.Star' _ a span) = r.star (plain_rate a) span

-- a query
abbrev pub plain_query : query.Query → q.Query
plain_query (query.Name n) = q.name n
plain_query (query.Atom f v span) = q.atom (plain_predicate f.value) (plain_expression v.value) span
plain_query (query.Eps n span) = q.eps n span
plain_query (query.Or' _ a _ b span) = q.or (plain_query a) (plain_query b) span
plain_query (query.Split' _ a _ b v span) =
    q.split (plain_query a) (plain_query b) (plain_expression v.value) span
plain_query (query.Iter' _ a n v span) = q.iter (plain_query a) n (plain_expression v.value) span
plain_query (query.Combine' _ a _ b v span) =
    q.combine (plain_query a) (plain_query b) (plain_expression v.value) span
plain_query (query.Apply' _ a v span) = q.apply (plain_query a) (plain_expression v.value) span
plain_query (query.Compose' _ a _ b span) = q.compose (plain_query a) (plain_query b) span
plain_query (query.Collect' key f t _ a span) =
    q.collect key.value (plain_predicate f.value) (plain_rate t.value) (plain_query a) span

-- the parts of a file
abbrev pub plain_stream : Stream → plain.Stream
plain_stream stream =
    record { mode = stream.mode; columns = stream.columns.items; span = stream.span }

abbrev pub plain_let : Let → plain.Let
plain_let one = record { name = one.name; query = plain_query one.query.value; span = one.span }

abbrev pub plain_main : Main → plain.Main
plain_main main = record { query = plain_query main.query.value; span = main.span }

-- a file
abbrev pub plain_program : Program → plain.Program
plain_program program = record {
  stream = plain_stream program.stream;
  lets = map plain_let program.lets.items;
  main = plain_main program.main;
}
