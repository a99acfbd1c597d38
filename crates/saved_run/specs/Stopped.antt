-- For the prover. Why bytes that were read are not opened.
use Rattle.std.specs.Prelude.{ℕ, List}
use Rattle.language_base.specs.declared.refusal.Refusal.{Refusal}
use Rattle.query_compiler.specs.Compiled.{Compiles}
use Rattle.runner_snapshot.specs.declared.flaw.Flaw.TheVariants.{Query}
use Rattle.runner_snapshot.specs.declared.flaw.SnapStop.{SnapStop}
use Rattle.runner_snapshot.specs.declared.flaw.SnapStop.TheVariants.{Bad, Memory}
use Rattle.type_checker.specs.Judged.{refused}
use Rattle.saved_run.specs.Opened.{IsEarlyFlaw}

-- the text is refused, or memory ran out
abbrev pub IsUncompiled : List ℕ → SnapStop → Type 0
IsUncompiled text (Bad Query) = (why : Refusal) × Compiles text (refused why)
IsUncompiled text (Bad flaw) = ⊥
IsUncompiled text Memory = Unit {0}

-- the bytes have a flaw, or memory ran out
abbrev pub IsUnopened : List ℕ → SnapStop → Type 0
IsUnopened bytes (Bad flaw) = IsEarlyFlaw bytes flaw
IsUnopened bytes Memory = Unit {0}
