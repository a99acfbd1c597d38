-- Trees regardless of where they stand in a text.
use Rattle.std.proofs.Common.{map}
use Rattle.query_parser.specs.Printing.{nowhere}
use Rattle.query_syntax.specs.Expressions as e
use Rattle.query_syntax.specs.Predicates as p
use Rattle.query_syntax.specs.Programs.{Let, Main, Program, Stream}
use Rattle.query_syntax.specs.Queries as q
use Rattle.query_syntax.specs.Rates as r
use Rattle.query_syntax.specs.declared.key.Key.{Key}
use Rattle.query_syntax.specs.declared.key.Key.TheVariants as key
use Rattle.query_syntax.specs.declared.leaf.Index.{Index}
use Rattle.query_syntax.specs.declared.leaf.Literal.{Literal}
use Rattle.query_syntax.specs.declared.leaf.Literal.TheVariants as literal
use Rattle.query_syntax.specs.declared.leaf.Name.{Name}
use Rattle.query_syntax.specs.declared.leaf.Number.{Number}
use Rattle.query_syntax.specs.declared.leaf.Text.{Text}
use Rattle.query_syntax.specs.declared.stream.Column.{Column}
use Rattle.query_syntax.specs.declared.stream.Kind.{Kind}
use Rattle.query_syntax.specs.declared.stream.Kind.TheVariants as kind
use Rattle.query_syntax.specs.declared.stream.Mode.{Mode}
use Rattle.query_syntax.specs.declared.stream.Mode.TheVariants as mode

-- names, numbers, parts, strings and literals
abbrev pub bare_name : Name → Name
bare_name name = record { bytes = name.bytes; span = nowhere }

abbrev pub bare_number : Number → Number
bare_number number = record { value = number.value; span = nowhere }

abbrev pub bare_index : Index → Index
bare_index index = record { value = index.value; span = nowhere }

abbrev pub bare_text : Text → Text
bare_text text = record { bytes = text.bytes; span = nowhere }

abbrev pub bare_literal : Literal → Literal
bare_literal (literal.Number number) = literal.Number (bare_number number)
bare_literal (literal.Text text) = literal.Text (bare_text text)

abbrev mutual
  -- an expression
  pub bare_expression : e.Expression → e.Expression
  bare_expression (e.number number) = e.number (bare_number number)
  bare_expression (e.name name) = e.name (bare_name name)
  bare_expression (e.unary op a span) = e.unary op (bare_expression a) nowhere
  bare_expression (e.binary op a b span) =
      e.binary op (bare_expression a) (bare_expression b) nowhere
  bare_expression (e.choice op a b at c d span) =
      e.choice op (bare_expression a) (bare_expression b) nowhere
      (bare_expression c) (bare_expression d) nowhere
  bare_expression (e.summary op table span) = e.summary op (bare_name table) nowhere
  bare_expression (e.extremum op table a span) =
      e.extremum op (bare_name table) (bare_expression a) nowhere
  bare_expression (e.get table text a span) =
      e.get (bare_name table) (bare_text text) (bare_expression a) nowhere
  bare_expression (e.rec parts span) = e.rec (bare_expressions parts) nowhere
  bare_expression (e.part whole index span) = e.part (bare_name whole) (bare_index index) nowhere

  -- expressions
  pub bare_expressions : e.Expressions → e.Expressions
  bare_expressions e.none = e.none
  bare_expressions (e.more first others) = e.more (bare_expression first) (bare_expressions others)

-- a predicate
abbrev pub bare_predicate : p.Predicate → p.Predicate
bare_predicate (p.any span) = p.any nowhere
bare_predicate (p.equality op column operand span) =
    p.equality op (bare_name column) (bare_literal operand) nowhere
bare_predicate (p.order op column bound span) =
    p.order op (bare_name column) (bare_number bound) nowhere
bare_predicate (p.between column low high span) =
    p.between (bare_name column) (bare_number low) (bare_number high) nowhere
bare_predicate (p.is_num column span) = p.is_num (bare_name column) nowhere
bare_predicate (p.joined op a b span) = p.joined op (bare_predicate a) (bare_predicate b) nowhere
bare_predicate (p.negated a span) = p.negated (bare_predicate a) nowhere

-- a rate
abbrev pub bare_rate : r.Rate → r.Rate
bare_rate (r.eps span) = r.eps nowhere
bare_rate (r.item f span) = r.item (bare_predicate f) nowhere
bare_rate (r.joined op a b span) = r.joined op (bare_rate a) (bare_rate b) nowhere
bare_rate (r.star a span) = r.star (bare_rate a) nowhere

-- a key
abbrev pub bare_key : Key → Key
bare_key (key.Column name) = key.Column (bare_name name)
bare_key (key.Columns names span) = key.Columns (map bare_name names) nowhere

-- a query
abbrev pub bare_query : q.Query → q.Query
bare_query (q.name name) = q.name (bare_name name)
bare_query (q.atom f value span) = q.atom (bare_predicate f) (bare_expression value) nowhere
bare_query (q.eps number span) = q.eps (bare_number number) nowhere
bare_query (q.or a b span) = q.or (bare_query a) (bare_query b) nowhere
bare_query (q.split a b value span) =
    q.split (bare_query a) (bare_query b) (bare_expression value) nowhere
bare_query (q.iter a number value span) =
    q.iter (bare_query a) (bare_number number) (bare_expression value) nowhere
bare_query (q.combine a b value span) =
    q.combine (bare_query a) (bare_query b) (bare_expression value) nowhere
bare_query (q.apply a value span) = q.apply (bare_query a) (bare_expression value) nowhere
bare_query (q.compose a b span) = q.compose (bare_query a) (bare_query b) nowhere
bare_query (q.collect names f rate a span) =
    q.collect (bare_key names) (bare_predicate f) (bare_rate rate) (bare_query a) nowhere

-- a stream with its columns
abbrev pub bare_mode : Mode → Mode
bare_mode (mode.Plain span) = mode.Plain nowhere
bare_mode (mode.Header span) = mode.Header nowhere

abbrev pub bare_kind : Kind → Kind
bare_kind (kind.Int span) = kind.Int nowhere
bare_kind (kind.Text span) = kind.Text nowhere
bare_kind (kind.Fixed digits span) =
    kind.Fixed (record { count = digits.count; span = nowhere }) nowhere

abbrev pub bare_column : Column → Column
bare_column column =
    record { name = bare_name column.name; kind = bare_kind column.kind; span = nowhere }

abbrev pub bare_stream : Stream → Stream
bare_stream stream = record {
  mode = bare_mode stream.mode;
  columns = map bare_column stream.columns;
  span = nowhere;
}

-- a whole file
abbrev pub bare_let : Let → Let
bare_let one = record { name = bare_name one.name; query = bare_query one.query; span = nowhere }

abbrev pub bare_main : Main → Main
bare_main main = record { query = bare_query main.query; span = nowhere }

abbrev pub bare_program : Program → Program
bare_program program = record {
  stream = bare_stream program.stream;
  lets = map bare_let program.lets;
  main = bare_main program.main;
}
