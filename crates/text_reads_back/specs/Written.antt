-- Statement. Queries whose text reads back, and what it is read to.
use Rattle.std.specs.Prelude.{◌≡◌, List, ℕ, IsTrue, Ok}
use Rattle.std.specs.List.{AllByRecursion, list_all}
use Rattle.item_schema.specs.Layout.{IsLayout, Layout, is_read}
use Rattle.query_model.specs.Queries.{Qre}
use Rattle.query_model.specs.Rules.{IsClear, free}
use Rattle.query_model.specs.Sizes.{IsSmall}
use Rattle.query_parser.specs.Reading.{IsFileOf}
use Rattle.query_resolver.specs.Layouts.{layout_of}
use Rattle.query_resolver.specs.Measures.{measured}
use Rattle.query_rewrite.specs.Levels.{HasFewLevels}
use Rattle.query_syntax.specs.Files.{program_terms}
use Rattle.query_syntax.specs.Programs.{Program}
use Rattle.query_text.specs.Memory.{FitsMemory}
use Rattle.query_tokens.specs.Raw.{IsWord}

-- a query that lies in memory and keeps the rules and the limits, whose columns are called by words,
-- and whose parts are not too deep as terms
pub record CanBeWritten (layout : Layout) (query : Qre) : Type 0 where
  pub columns : IsLayout layout.columns
  pub read : IsTrue (list_all (λ column. is_read column.kind) layout.columns)
  pub clear : IsClear free layout.columns query
  pub small : IsSmall layout.columns query
  pub words : AllByRecursion (λ column. IsWord column.name) layout.columns
  pub levels : HasFewLevels query
  pub kept : FitsMemory query

-- the text is that of a program on this stream, which is this query before the rules of words
pub record ReadsAs (text : List ℕ) (layout : Layout) (query : Qre) : Type 0 where
  pub program : Program
  pub file : IsFileOf text (program_terms program)
  pub stream : layout_of program.stream ≡ layout
  pub measured : measured program ≡ Ok query
