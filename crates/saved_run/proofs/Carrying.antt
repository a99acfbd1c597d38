-- What a run that is carried on did.
use Rattle.std.proofs.Common.{◌≡◌, ◌||◌, ℕ, List, ◌++◌, Option, Some, None, IfSome, Result, Ok, Err}
use Rattle.std.proofs.Common.{true, inr, sym, ap, subst, ◌∙◌, append_assoc}
use Rattle.std.proofs.KnownBytes.{Appends-trans}
use Rattle.std.specs.Io.KnownBytes.{Appends}
use Rattle.io_edge.specs.Lines.{lines}
use Rattle.query_model.specs.Checked.{CheckedQuery}
use Rattle.query_model.specs.Monitors.{Monitor, monitor_of}
use Rattle.rate_expr.specs.Words.{Word}
use Rattle.runner_snapshot.specs.Bytes.{Snapshot}
use Rattle.runner_snapshot.specs.Dumps.{Runner}
use Rattle.runner_snapshot.specs.declared.flaw.Flaw.{Flaw}
use Rattle.runner_snapshot.specs.declared.flaw.Flaw.TheVariants.{Long, Head, Query, Form, Unfit}
use Rattle.runner_snapshot.specs.declared.flaw.SnapStop.{SnapStop}
use Rattle.runner_snapshot.specs.declared.flaw.SnapStop.TheVariants as stop
use Rattle.stream_run.specs.Endings.{EndedBy, Writes}
use Rattle.stream_run.specs.Outside.{Outside}
use Rattle.stream_run.specs.Resumed.{is_some_byte, items_after}
use Rattle.stream_run.specs.Sessions.{IsAfter, Origin}
use Rattle.stream_run.specs.declared.session.Session.{Session}
use Rattle.stream_run.specs.declared.status.Status.{Status}
use Rattle.stream_run.specs.declared.status.Status.TheVariants.{Done, SinkFault, Memory}
use Rattle.saved_run.specs.Advancing.{Advances, IsAdvanced, IsSavedFrom, WritesAll, WritesAnswers}
use Rattle.saved_run.specs.Advancing.{WritesFront}
use Rattle.saved_run.specs.Kept.{AreSavedOf, IsKept}
use Rattle.saved_run.specs.Resuming.{IsSaidFrom}
use Rattle.saved_run.specs.Saving.{IsSavedAfter, IsSnapshotOf}
use Rattle.saved_run.specs.Texts.{snapshot_text}
use Rattle.saved_run.specs.Written.{IsWritten}
use Rattle.saved_run.proofs.Keeping.{saved_after, snapshot_is}
use Rattle.saved_run.proofs.Restoring.{origin_at}

-- what is kept of a session that went on from a snapshot, after all items
pub saved_from : {F : Type 0} (follows : F → Word → Type 0) (means : Runner → Word → Type 0)
    (on : CheckedQuery) (snapshot : Snapshot) (first : F)
    → ((word : Word) → means snapshot.dump word → follows first word) → (origin : Origin F)
    → origin ≡ origin_at on first snapshot → (session : Session F) (left : Option (List ℕ))
    → IfSome left (λ items. IsAfter follows origin (lines items true) session)
    → (text bytes : List ℕ) → text ≡ snapshot.text
    → AreSavedOf means (follows session.follower) text session.began bytes
    → IfSome left (λ items. IsSavedFrom means (monitor_of on) snapshot items bytes)
saved_from follows means on snapshot first restored origin is session None after text bytes same
    saved = tt
saved_from follows means on snapshot first restored origin is session (Some items) after text bytes
    same saved =
    let start = origin_at on first snapshot in
    let after' = subst (λ o. IsAfter follows o (lines items true) session) is after in
    record {
      is_snapshot =
          subst (λ (given : List ℕ).
          IsSnapshotOf given (snapshot.began || is_some_byte items) bytes) same
          (snapshot_is follows means start session text items bytes after' saved);
      after = λ word stands.
          subst (λ (given : List ℕ).
          IsSavedAfter means given (snapshot.began || is_some_byte items)
          (word ++ items_after on.layout snapshot.began items) bytes) same
          (saved_after follows means start session text items bytes after' saved word
          (restored word stands));
    }

module _ (fits : Runner → Type 0) (means : Runner → Word → Type 0) (monitor : Monitor)
    (snapshot : Snapshot) (old mid : Outside) (taken : Option (List ℕ)) where
  -- the answers to all items, and the snapshot after them
  given : (left : Option (List ℕ)) (Holds : List ℕ → List ℕ → Type 0) (bytes : List ℕ)
      → IfSome left (λ items.
      Writes (IsSaidFrom means monitor snapshot) old mid (lines items true))
      → IfSome left (λ items. IsSavedFrom means monitor snapshot items bytes)
      → ((answers : List ℕ) → Appends old.taken mid.taken answers → Holds answers bytes)
      → IfSome left (λ items. (answers : List ℕ) × (bytes : List ℕ)
      × IsAdvanced means monitor snapshot items answers bytes × Holds answers bytes)
  given None Holds bytes wrote saved so = tt
  given (Some items) Holds bytes (answers, said, appends) saved so = (
    answers,
    bytes,
    record { answered = said; saved = saved },
    so answers appends,
  )

  -- all items were answered, and what was kept after them was written
  pub advances_all : fits snapshot.dump
      → EndedBy (IsSaidFrom means monitor snapshot) Done old mid
      → (made : Result (List ℕ) SnapStop) (result : Result Status Flaw)
      → IsKept (λ bytes. IfSome old.left (λ items.
      IsSavedFrom means monitor snapshot items bytes)) made
      → IsWritten snapshot_text result made mid.taken taken
      → Advances fits means monitor snapshot result old (record mid { taken = taken })
  advances_all fit ended (Ok bytes) (Ok Done) kept written =
      let new = record mid { taken = taken } in (
        fit,
        (
          ended.0,
          given old.left (WritesAll old new) bytes ended.1 kept.1
              (λ answers appends. (
                kept.0,
                Appends-trans old.taken mid.taken taken answers
                    (snapshot_text bytes) appends written,
              )),
        ),
      )
  advances_all fit ended (Ok bytes) (Ok SinkFault) kept (front, rest, parts, appends') =
      let new = record mid { taken = taken } in (
        fit,
        inr (
          ended.0,
          given old.left (WritesFront old new) bytes ended.1 kept.1
              (λ answers appends. (
                kept.0,
                (
                  answers ++ front,
                  rest,
                  ap (λ (l : List ℕ). answers ++ l) parts ∙ sym (append_assoc answers front rest),
                  Appends-trans old.taken mid.taken taken answers front appends appends',
                ),
              )),
        ),
      )
  advances_all fit ended made (Ok Memory) kept written =
      inr (subst (λ (t : Option (List ℕ)).
      EndedBy (IsSaidFrom means monitor snapshot) Done old (record mid { taken = t }))
      (sym written) ended)
  advances_all fit ended (Err (stop.Bad Long)) (Err flaw) kept written =
      let new = record mid { taken = taken } in
      subst (λ (f : Flaw). Advances fits means monitor snapshot (Err f) old new) (sym written.0) (
        fit,
        (
          ended.0,
          given old.left (WritesAnswers old new) kept.0 ended.1 kept.2
              (λ answers appends. (
                kept.1,
                subst (λ (t : Option (List ℕ)). Appends old.taken t answers)
                    (sym written.1) appends,
              )),
        ),
      )
  advances_all fit ended (Err (stop.Bad Head)) (Err flaw) kept written = absurd kept
  advances_all fit ended (Err (stop.Bad Query)) (Err flaw) kept written = absurd kept
  advances_all fit ended (Err (stop.Bad Form)) (Err flaw) kept written = absurd kept
  advances_all fit ended (Err (stop.Bad Unfit)) (Err flaw) kept written = absurd kept
  advances_all fit ended made result kept written = absurd written
