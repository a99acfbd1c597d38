-- For the prover. Why there is no query to run.
use Rattle.std.specs.Prelude.{ℕ, List, Option, IfSome}
use Rattle.ambiguity_example.specs.Shows.{IsShortestShown, Shown}
use Rattle.language_base.specs.declared.refusal.Refusal.{Refusal}
use Rattle.language_base.specs.declared.rule.Rule.{Rule}
use Rattle.query_model.specs.Monitors.{monitor_of}
use Rattle.query_parser.specs.Reading.{IsFileOf}
use Rattle.query_syntax.specs.Files.{program_terms}
use Rattle.query_syntax.specs.Programs.{Program}
use Rattle.type_checker.specs.Blames.{ForbidsTwoReadings, IsBlameAt, IsBlameOf}
use Rattle.type_checker.specs.Judged.{accepted, refused}
use Rattle.query_resolver.specs.Nodes.{Node}
use Rattle.type_checker.specs.declared.blame.Blame.{Blame}
use Rattle.type_checker.specs.declared.judgment.Judgment.{Judgment}
use Rattle.type_checker.specs.declared.judgment.Judgment.TheVariants as judgment
use Rattle.query_compiler.specs.Compiled.{Compiles}
use Rattle.item_drill.specs.Drillable.{IsDrillable}
use Rattle.query_compiler.specs.declared.query.QueryStop.{QueryStop}
use Rattle.query_compiler.specs.declared.query.QueryStop.TheVariants as stop

-- the text is refused so, by a rule that does not forbid words with two readings
abbrev pub IsRefusedBy : Refusal → List ℕ → Type 0
IsRefusedBy why text = Compiles text (refused why) × (ForbidsTwoReadings why.rule → ⊥)

-- there is a program with this blame
abbrev pub IsBlamed : Blame → Type 0
IsBlamed blame = (program : Program) × IsBlameOf program blame

-- there is one that the text writes, if the source reports its text
abbrev pub IsBlamedIn : Option (List ℕ) → Blame → Type 0
IsBlamedIn text blame = (program : Program) × IsBlameOf program blame
    × IfSome text (λ text. IsFileOf text (program_terms program))

-- this is the judgment on a text that was read
abbrev pub IsJudgmentAt : List ℕ → Judgment → Type 0
IsJudgmentAt text (judgment.Accepted checked) =
    Compiles text (accepted (monitor_of checked.value)) × IsDrillable checked.value.layout
IsJudgmentAt text (judgment.Refused why) = IsRefusedBy why text
IsJudgmentAt text (judgment.Ambiguous blame) =
    (program : Program) × IsBlameOf program blame.value × IsFileOf text (program_terms program)

-- a refusal is that of the text, where the source reports it, and so is a blame
abbrev pub IsStopOf : Option (List ℕ) → QueryStop → Type 0
IsStopOf text (stop.Refused why) = IfSome text (IsRefusedBy why)
IsStopOf text (stop.Ambiguous blame) = IsBlamedIn text blame.value
IsStopOf text _ = Unit {0}

-- at each node that the blame may be about, the word is a shortest one with two readings such as
-- the rule forbids
abbrev pub IsShownFor : Blame → Shown → Type 0
IsShownFor blame shown = (node : Node) (broken : Rule) → (at : IsBlameAt node broken blame)
    → IsShortestShown node.columns at.question shown
