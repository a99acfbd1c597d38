-- Statement. The columns that make a key.
use Rattle.std.specs.Prelude.{List, [], ◌∷◌}
use Rattle.language_base.specs.declared.span.Span.{Span}
use Rattle.query_syntax.specs.declared.key.Key.{Key}
use Rattle.query_syntax.specs.declared.key.Key.TheVariants.{Column, Columns}
use Rattle.query_syntax.specs.declared.leaf.Name.{Name}

-- the names of the columns, in the order in which they are written
abbrev pub names_of : Key → List Name
names_of (Column name) = name ∷ []
names_of (Columns names span) = names

-- the place of a key
abbrev pub key_span : Key → Span
key_span (Column name) = name.span
key_span (Columns names span) = span
