-- Statement. Why no query is made of a program.
use Rattle.query_syntax.specs.Programs.{Program}
use Rattle.type_checker.specs.Judged.{IsJudged, refused}
use Rattle.query_resolver.specs.declared.stop.CheckStop.{CheckStop}
use Rattle.query_resolver.specs.declared.stop.CheckStop.TheVariants.{Refused, Memory}

-- the program is refused so; out of memory, nothing is said of it
abbrev pub IsStopOf : Program → CheckStop → Type 0
IsStopOf program (Refused refusal) = IsJudged program (refused refusal)
IsStopOf program Memory = Unit {0}
