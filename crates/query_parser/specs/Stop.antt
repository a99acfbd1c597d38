-- Statement. Why a text is not read to a file, or to trees, and why trees are no file. Want of
-- memory says nothing of them.
use Rattle.std.specs.Prelude.{ℕ, List}
use Rattle.query_trees.specs.Trees.{Trees}
use Rattle.query_parser.specs.declared.stop.ReadStop.{ReadStop}
use Rattle.query_parser.specs.declared.stop.ReadStop.TheVariants.{Refused, Memory}
use Rattle.query_parser.specs.Reading.{IsRefused}
use Rattle.query_parser.specs.TreeReading.{AreRefused, HasNoTrees}

-- the text is refused so
abbrev pub IsStopAt : List ℕ → ReadStop → Type 0
IsStopAt text (Refused refusal) = IsRefused text refusal
IsStopAt text Memory = Unit {0}

-- it has no trees
abbrev pub IsStopBefore : List ℕ → ReadStop → Type 0
IsStopBefore text (Refused refusal) = HasNoTrees text refusal
IsStopBefore text Memory = Unit {0}

-- the trees are refused so
abbrev pub IsStopAfter : List ℕ → Trees → ReadStop → Type 0
IsStopAfter text trees (Refused refusal) = AreRefused text trees refusal
IsStopAfter text trees Memory = Unit {0}
