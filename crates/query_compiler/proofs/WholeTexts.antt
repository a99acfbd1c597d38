-- A text that was read of a query source whole.
use Rattle.std.proofs.Common.{◌≡◌, ◌≤◌, ℕ, List, length, Option, Result, Ok, Err, inr, refl, arith}
use Rattle.std.specs.Io.KnownBytes.{IsAtEnd}
use Rattle.io_edge.specs.Counts.{Rose}
use Rattle.io_edge.specs.Taken.{TakesFirst}
use Rattle.language_base.specs.Limits.{max_text}
use Rattle.query_model.specs.Monitors.{Monitor}
use Rattle.type_checker.specs.Judged.{accepted}
use Rattle.query_compiler.specs.Compiled.{Compiles}
use Rattle.query_compiler.specs.QueryRead.{ReadsFor, max_read}
use Rattle.query_compiler.specs.declared.query.QueryStop.{QueryStop}
use Rattle.query_compiler.specs.declared.query.QueryStop.TheVariants.{Failed, Refused, Ambiguous}
use Rattle.query_compiler.specs.declared.query.QueryStop.TheVariants.{Memory}
use Rattle.query_compiler.proofs.Compilations.{compiled_short}

module _ (left left' : Option (List ℕ)) (ends ends' : ℕ) (got : List ℕ)
    (takes : TakesFirst max_read left left' ends ends' got) where
  -- nothing is left after a text that is not too long
  pub text_at_end : length got ≤ max_text → IsAtEnd left'
  text_at_end short = (takes.end.at_end (omega (arith, short))).1

  -- the end was met of one that is compiled to a query
  pub query_ends : (monitor : Monitor) → Compiles got (accepted monitor) → Rose ends ends'
  query_ends monitor compiles =
      let short = compiled_short got (accepted monitor) monitor refl compiles in
      let met = (takes.end.at_end (omega (arith, short))).0 in
      omega (arith, met)

  -- the source was read so whatever the text is compiled to
  pub text_read : {A : Type 0} (result : Result A QueryStop) → (result ≡ Err Failed → ⊥)
      → ReadsFor left left' ends ends' result
  text_read (Ok query) no_fault = (got, takes)
  text_read (Err Failed) no_fault = absurd (no_fault refl)
  text_read (Err (Refused refusal)) no_fault = (got, takes)
  text_read (Err (Ambiguous blame)) no_fault = (got, takes)
  text_read (Err Memory) no_fault = inr (got, takes)
