-- Statement. A place in a query's text, as it is marked.
use Rattle.std.specs.Prelude.{ℕ, List}
use Rattle.language_base.specs.declared.span.Span.{Span}
use Rattle.place_in_text.specs.Windows.{marked_line}

-- the line of the place with marks under it
abbrev pub marked : List ℕ → Span → List ℕ
marked text span = marked_line text span.from span.to
