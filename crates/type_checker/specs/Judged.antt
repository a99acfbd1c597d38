-- Statement. How a program is judged: by the passes before the rules of words, and where these find
-- no broken rule by the rules of words.
use Rattle.std.specs.Prelude.{◌≡◌, Option, None, Some, Ok, Err}
use Rattle.language_base.specs.declared.refusal.Refusal.{Refusal}
use Rattle.query_model.specs.Monitors.{Monitor}
use Rattle.query_model.specs.Queries.{Qre}
use Rattle.query_model.specs.Rules.{free}
use Rattle.query_lets.specs.Unfolded.{unfolded}
use Rattle.query_syntax.specs.Programs.{Program}
use Rattle.query_resolver.specs.Layouts.{layout_of}
use Rattle.query_resolver.specs.Measures.{measured}
use Rattle.query_resolver.specs.Nodes.{nodes_in, places_of}
use Rattle.type_checker.specs.WordRules.{FirstBroken}

-- the last pass: the rules of words at the nodes of the query
abbrev pub BreaksFirst : Program → Qre → Option Refusal → Type 0
BreaksFirst program query why = FirstBroken
    (nodes_in (layout_of program.stream).columns free query (places_of (unfolded program))) why

-- a query that may be run, or a refusal
pub data Verdict : Type 0 where
  accepted : Monitor → Verdict
  refused : Refusal → Verdict

-- the program has this verdict
pub data IsJudged (program : Program) : Verdict → Type 0 where
  sound : (query : Qre) → measured program ≡ Ok query → BreaksFirst program query None
      → IsJudged program (accepted (record { layout = layout_of program.stream; query = query }))
  unmeasured : (why : Refusal) → measured program ≡ Err why → IsJudged program (refused why)
  ambiguous : (query : Qre) (why : Refusal) → measured program ≡ Ok query
      → BreaksFirst program query (Some why) → IsJudged program (refused why)
