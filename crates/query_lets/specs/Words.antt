-- Statement. The words of a program that declare or use the names of columns and lets, in the order
-- of the text, and which of them are wrong. A let may be called like a column.
use Rattle.std.specs.Prelude.{ℕ, Bool, not, List, [], ◌∷◌, ◌++◌, map, Option, None, Some}
use Rattle.std.specs.Prelude.{if◌then◌else◌}
use Rattle.std.specs.List.{list_any}
use Rattle.std.specs.Str.{bytes_eq}
use Rattle.language_base.specs.declared.span.Span.{Span}
use Rattle.query_syntax.specs.declared.leaf.Name.{Name}
use Rattle.query_syntax.specs.declared.stream.Column.{Column}
use Rattle.query_syntax.specs.Programs.{Let, Program}
use Rattle.query_syntax.specs.Queries as q
use Rattle.query_syntax.specs.Queries.{Query}

-- a word that declares a name or uses one, with the names that are known where it stands
pub data Word : Type 0 where
  declares : List (List ℕ) → Name → Word
  uses : List (List ℕ) → Name → Word

-- the name is one of these
abbrev pub is_known : List (List ℕ) → List ℕ → Bool
is_known known name = list_any (bytes_eq name) known

-- a name is declared once, and used only where it is known
abbrev pub is_wrong : Word → Bool
is_wrong (declares known name) = is_known known name.bytes
is_wrong (uses known name) = not (is_known known name.bytes)

-- the place of a word
abbrev pub word_span : Word → Span
word_span (declares known name) = name.span
word_span (uses known name) = name.span

-- the place of the first word that is wrong
abbrev pub first_wrong : List Word → Option Span
first_wrong [] = None
first_wrong (word ∷ words) = if is_wrong word then Some (word_span word) else first_wrong words

-- the names of lets that a query uses
abbrev pub names_in : Query → List Name
names_in (q.name name) = name ∷ []
names_in (q.atom predicate value span) = []
names_in (q.eps number span) = []
names_in (q.or f g span) = names_in f ++ names_in g
names_in (q.split f g value span) = names_in f ++ names_in g
names_in (q.iter f first step span) = names_in f
names_in (q.combine f g value span) = names_in f ++ names_in g
names_in (q.apply f value span) = names_in f
names_in (q.compose f g span) = names_in f ++ names_in g
names_in (q.collect key sync rate f span) = names_in f

-- the words of columns after those of these names
abbrev pub column_words : List (List ℕ) → List Column → List Word
column_words known [] = []
column_words known (column ∷ columns) =
    declares known column.name ∷ column_words (column.name.bytes ∷ known) columns

-- the words of a query that may use these names
abbrev pub query_words : List (List ℕ) → Query → List Word
query_words known query = map (uses known) (names_in query)

-- the words of lets and the main query, after lets of these names: in its own query a let is not
-- yet known
abbrev pub let_words : List (List ℕ) → List Let → Query → List Word
let_words known [] main = query_words known main
let_words known (one ∷ lets) main =
    (declares known one.name ∷ query_words known one.query)
    ++ let_words (one.name.bytes ∷ known) lets main

-- the words of a program
abbrev pub words_of : Program → List Word
words_of program =
    column_words [] program.stream.columns ++ let_words [] program.lets program.main.query

-- the place of the first wrong name of a program
abbrev pub wrong_name : Program → Option Span
wrong_name program = first_wrong (words_of program)
