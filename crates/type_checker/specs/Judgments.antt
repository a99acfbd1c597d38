-- Statement. A verdict on a program, with the automata of an ambiguity if there is one.
use Rattle.std.specs.Prelude.{◌≡◌}
use Rattle.query_lets.specs.Unfolded.{unfolded}
use Rattle.query_model.specs.Monitors.{monitor_of}
use Rattle.query_syntax.specs.Programs.{Program}
use Rattle.query_resolver.specs.Findings.{places_in}
use Rattle.query_resolver.specs.Nodes.{places_of}
use Rattle.type_checker.specs.Blames.{ForbidsTwoReadings, IsBlameOf}
use Rattle.type_checker.specs.Judged.{IsJudged, accepted, refused}
use Rattle.type_checker.specs.declared.judgment.Judgment.{Judgment}
use Rattle.type_checker.specs.declared.judgment.Judgment.TheVariants.{Accepted, Refused, Ambiguous}

-- the program has this verdict; it is ambiguous exactly if the first broken rule forbids a word
-- with two readings
abbrev pub IsJudgmentOf : Program → Judgment → Type 0
IsJudgmentOf program (Accepted checked) = IsJudged program (accepted (monitor_of checked.value))
IsJudgmentOf program (Refused why) =
    IsJudged program (refused why) × (ForbidsTwoReadings why.rule → ⊥)
IsJudgmentOf program (Ambiguous blame) = IsBlameOf program blame.value

-- the query that is accepted has the places of the main query after lets
abbrev pub HasPlaces : Program → Judgment → Type 0
HasPlaces program (Accepted checked) = places_in checked.value.main ≡ places_of (unfolded program)
HasPlaces program _ = Unit {0}
