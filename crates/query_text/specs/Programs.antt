-- Statement. A query on a stream as a file: the stream, the lets of the query, and the last of them
-- as the main query.
use Rattle.std.specs.Prelude.{ℕ, ◌+◌, Bool, true, false, List, [], ◌∷◌, map}
use Rattle.item_schema.specs.Layout.{Layout}
use Rattle.item_schema.specs.declared.column.Column.{Column}
use Rattle.item_schema.specs.declared.column.Kind.{Kind}
use Rattle.item_schema.specs.declared.column.Kind.TheVariants.{Int, Fixed, Text, Number, Table}
use Rattle.query_model.specs.Queries.{Qre}
use Rattle.query_parser.specs.Printing.{file_text, nowhere}
use Rattle.query_syntax.specs.Files.{program_terms}
use Rattle.query_syntax.specs.Programs.{Let, Program, Stream}
use Rattle.query_syntax.specs.Queries.{Query}
use Rattle.query_syntax.specs.declared.stream.Column as syntax
use Rattle.query_syntax.specs.declared.stream.Kind as kinds
use Rattle.query_syntax.specs.declared.stream.Kind.TheVariants as kind
use Rattle.query_syntax.specs.declared.stream.Mode.{Mode}
use Rattle.query_syntax.specs.declared.stream.Mode.TheVariants as mode
use Rattle.query_text.specs.Lets.{let_at, placed}
use Rattle.query_text.specs.Names.{let_name, named, of_columns}

-- whether a header line comes first
abbrev pub mode_tree : Bool → Mode
mode_tree true = mode.Header nowhere
mode_tree false = mode.Plain nowhere

-- what the fields of a column are; fields of the last two kinds are not read from lines
abbrev pub kind_tree : Kind → kinds.Kind
kind_tree Int = kind.Int nowhere
kind_tree (Fixed digits) = kind.Fixed (record { count = digits; span = nowhere }) nowhere
kind_tree Text = kind.Text nowhere
kind_tree Number = kind.Int nowhere
kind_tree Table = kind.Int nowhere

abbrev pub column_tree : Column → syntax.Column
column_tree column =
    record { name = named column.name; kind = kind_tree column.kind; span = nowhere }

abbrev pub stream_tree : Layout → Stream
stream_tree layout = record {
  mode = mode_tree layout.has_header;
  columns = map column_tree layout.columns;
  span = nowhere;
}

-- lets with these queries, where the first has this place
abbrev pub lets_from : ℕ → List Query → List Let
lets_from place [] = []
lets_from place (query ∷ queries) =
    (record { name = named (let_name place); query = query; span = nowhere })
    ∷ lets_from (place + 1) queries

-- the whole file
abbrev pub program_of : Layout → Qre → Program
program_of layout query = let all = placed (of_columns layout.columns) query [] in record {
  stream = stream_tree layout;
  lets = lets_from 0 all.queries;
  main = record { query = let_at all.place; span = nowhere };
}

-- and its canonical text
abbrev pub text_of : Layout → Qre → List ℕ
text_of layout query = file_text (program_terms (program_of layout query))
