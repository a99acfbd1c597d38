-- The bytes of a source are those that were read of it.
use Rattle.std.proofs.Common.{◌<◌, ◌≤◌, ℕ, List, length, Option, Some, None, IfSome}
use Rattle.std.proofs.Common.{ap, length-append, arith}
use Rattle.std.proofs.KnownBytes.{Consumes-whole}
use Rattle.std.specs.Io.KnownBytes.{Consumes}
use Rattle.io_edge.specs.Taken.{TakesFirst}
use Rattle.runner_snapshot.specs.Stops.{max_snapshot}
use Rattle.runner_snapshot.specs.declared.flaw.Flaw.{Flaw}
use Rattle.runner_snapshot.specs.declared.flaw.Flaw.TheVariants.{Long, Head, Query, Form, Unfit}
use Rattle.saved_run.specs.Opened.{IsEarlyFlaw, max_read}

-- all bytes are no fewer than those that were read
longer : (left left' : Option (List ℕ)) (got : List ℕ) → Consumes left left' got
    → max_snapshot < length got → IfSome left (λ bytes. max_snapshot < length bytes)
longer None left' got consumed long = tt
longer (Some bytes) None got consumed long = absurd consumed
longer (Some bytes) (Some rest) got consumed long =
    omega (arith, ap length consumed, length-append got rest, long)

module _ (left left' : Option (List ℕ)) (ends ends' : ℕ) (got : List ℕ)
    (takes : TakesFirst max_read left left' ends ends' got) where
  -- what holds of the bytes that were read holds of all, unless these are too many
  pub of_all : (P : List ℕ → Type 0) → length got ≤ max_snapshot → P got → IfSome left P
  of_all P few holds =
      let end = takes.end.at_end (omega (arith, few)) in
      Consumes-whole left left' got P takes.consumed end.1 holds

  -- so the flaw of the bytes that were read is that of all
  pub flaw_of_all : (flaw : Flaw) → IsEarlyFlaw got flaw
      → IfSome left (λ bytes. IsEarlyFlaw bytes flaw)
  flaw_of_all Long long = longer left left' got takes.consumed long
  flaw_of_all Head no_head = of_all (λ bytes. IsEarlyFlaw bytes Head) no_head.0 no_head
  flaw_of_all Form none = of_all (λ bytes. IsEarlyFlaw bytes Form) none.0 none
  flaw_of_all Query refuses = of_all (λ bytes. IsEarlyFlaw bytes Query) refuses.2.few refuses
  flaw_of_all Unfit none = absurd none
