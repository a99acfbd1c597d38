-- The line with which a call ends, and how the call ends by it.
use Rattle.std.proofs.Common.{◌≡◌, ◌⊎◌, inl, inr, ℕ, List, Option, sym, subst}
use Rattle.stream_run.specs.declared.status.Status.TheVariants.{SinkFault, Memory}
use Rattle.snapshot_run.specs.LastLines.{EndsWith, whole, part, nothing}
use Rattle.snapshot_run.specs.Past.{IsPastReading}
use Rattle.snapshot_run.specs.declared.exit.Exit.{Exit}
use Rattle.snapshot_run.specs.declared.exit.Exit.TheVariants.{Plain}

module _ {text : List ℕ} {wanted exit : Exit} {old new : Option (List ℕ)} where
  -- the call ended as it was to, or the line was not written for one of two reasons
  ends_by : EndsWith text wanted exit old new
      → (exit ≡ wanted) ⊎ ((exit ≡ Plain SinkFault) ⊎ (exit ≡ Plain Memory))
  ends_by (whole is wrote) = inl is
  ends_by (part is wrote) = inr (inl is)
  ends_by (nothing is kept) = inr (inr is)

  -- the query or the snapshot was read before
  pub past_by_line : EndsWith text wanted exit old new → IsPastReading wanted → IsPastReading exit
  past_by_line ends past = at (ends_by ends)
    where
      at : (exit ≡ wanted) ⊎ ((exit ≡ Plain SinkFault) ⊎ (exit ≡ Plain Memory))
          → IsPastReading exit
      at (inl is) = subst IsPastReading (sym is) past
      at (inr (inl is)) = subst IsPastReading (sym is) tt
      at (inr (inr is)) = subst IsPastReading (sym is) tt
