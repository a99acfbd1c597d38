-- What a run that is saved did.
use Rattle.std.proofs.Common.{◌≡◌, ℕ, true, List, [], Option, Some, None, IfSome}
use Rattle.std.proofs.Common.{Result, Ok, Err, inr, sym, subst}
use Rattle.io_edge.specs.Counts.{next_count}
use Rattle.io_edge.specs.Lines.{lines}
use Rattle.item_schema.specs.Layout.{Layout}
use Rattle.query_model.specs.Checked.{CheckedQuery}
use Rattle.rate_expr.specs.Words.{Word}
use Rattle.runner_snapshot.specs.Dumps.{Runner}
use Rattle.runner_snapshot.specs.declared.flaw.Flaw.{Flaw}
use Rattle.runner_snapshot.specs.declared.flaw.Flaw.TheVariants.{Long, Head, Query, Form, Unfit}
use Rattle.runner_snapshot.specs.declared.flaw.SnapStop.{SnapStop}
use Rattle.runner_snapshot.specs.declared.flaw.SnapStop.TheVariants as stop
use Rattle.stream_run.specs.Outside.{Outside}
use Rattle.stream_run.specs.Sessions.{IsAfter, Origin, first_origin}
use Rattle.stream_run.specs.declared.session.Session.{Session}
use Rattle.stream_run.specs.declared.status.Status.{Status}
use Rattle.stream_run.specs.declared.status.Status.TheVariants.{Done, SinkFault, Memory}
use Rattle.saved_run.specs.Kept.{AreSavedOf, IsKept}
use Rattle.saved_run.specs.Saving.{IsSavedFor, Saves}
use Rattle.saved_run.specs.Written.{IsWritten}
use Rattle.saved_run.proofs.Keeping.{saved_after}

-- what is kept of a session after all items, from the first line on, is a snapshot after them
pub saved_for : {F : Type 0} (follows : F → Word → Type 0) (means : Runner → Word → Type 0)
    (on : CheckedQuery) (first : F) (origin : Origin F) → origin ≡ first_origin on first
    → follows first [] → (session : Session F) (text : List ℕ) (left : Option (List ℕ))
    → IfSome left (λ items. IsAfter follows origin (lines items true) session)
    → (bytes : List ℕ) → AreSavedOf means (follows session.follower) text session.began bytes
    → IsSavedFor means text on.layout left bytes
saved_for follows means on first origin is none session text None after bytes saved = tt
saved_for follows means on first origin is none session text (Some items) after bytes saved =
    saved_after follows means (first_origin on first) session text items bytes
    (subst (λ o. IsAfter follows o (lines items true) session) is after) saved [] none

module _ (means : Runner → Word → Type 0) (text : List ℕ) (layout : Layout) (old new : Outside)
  where
    -- all items were taken, and what was kept after them was written
    pub saves_all : new.ends ≡ next_count old.ends → (made : Result (List ℕ) SnapStop)
        (result : Result Status Flaw) → IsKept (IsSavedFor means text layout old.left) made
        → IsWritten (λ bytes. bytes) result made old.taken new.taken
        → Saves means text layout result old new
    saves_all ends (Ok bytes) (Ok Done) kept written = (ends, bytes, kept.0, kept.1, written)
    saves_all ends (Ok bytes) (Ok SinkFault) kept written = (ends, bytes, kept.0, kept.1, written)
    saves_all ends made (Ok Memory) kept written = (inr ends, written)
    saves_all ends (Err (stop.Bad Long)) (Err flaw) kept written =
        subst (λ (f : Flaw). Saves means text layout (Err f) old new) (sym written.0)
        (ends, kept.0, kept.1, kept.2, written.1)
    saves_all ends (Err (stop.Bad Head)) (Err flaw) kept written = absurd kept
    saves_all ends (Err (stop.Bad Query)) (Err flaw) kept written = absurd kept
    saves_all ends (Err (stop.Bad Form)) (Err flaw) kept written = absurd kept
    saves_all ends (Err (stop.Bad Unfit)) (Err flaw) kept written = absurd kept
    saves_all ends made result kept written = absurd written
