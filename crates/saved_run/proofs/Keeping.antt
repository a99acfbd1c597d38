-- What is kept of what follows a word is a snapshot after the word.
use Rattle.std.proofs.Common.{◌≡◌, ◌≤◌, ◌||◌, ◌^◌, ℕ, Bool, true, List, ◌++◌, length, Result, Ok}
use Rattle.std.proofs.Common.{Err, IfOk, IfErr, refl, ap, subst, ◌∙◌, arith}
use Rattle.io_edge.specs.Lines.{lines}
use Rattle.rate_expr.specs.Words.{Word}
use Rattle.runner_snapshot.specs.Bytes.{snapshot_bytes, snapshot_with}
use Rattle.runner_snapshot.specs.Dumps.{Runner}
use Rattle.runner_snapshot.specs.Ranges.{IsSnapshot}
use Rattle.runner_snapshot.specs.Stops.{IsTooLong, max_snapshot}
use Rattle.runner_snapshot.specs.declared.flaw.Flaw.TheVariants.{Long, Head, Query, Form, Unfit}
use Rattle.runner_snapshot.specs.declared.flaw.SnapStop.{SnapStop}
use Rattle.runner_snapshot.specs.declared.flaw.SnapStop.TheVariants.{Bad, Memory}
use Rattle.stream_run.specs.Resumed.{is_some_byte, items_after}
use Rattle.stream_run.specs.Sessions.{IsAfter, Origin}
use Rattle.stream_run.specs.declared.session.Session.{Session}
use Rattle.stream_run.proofs.CutLines.{begun-lines}
use Rattle.saved_run.specs.Kept.{AreSavedOf, IsKept}
use Rattle.saved_run.specs.Saving.{IsSavedAfter, IsSnapshotOf}

module _ (means : Runner → Word → Type 0) (follows : Word → Type 0) (position : ℕ) (dump : Runner)
    (text : List ℕ) (began : Bool) (stands : (word : Word) → follows word → means dump word)
    (at : (word : Word) → follows word → position ≡ length word) where
  -- the bytes of the dump are those of a snapshot after whichever word is followed
  saved_word : (bytes : List ℕ) → bytes ≡ snapshot_bytes (snapshot_with text began dump)
      → ((word : Word) → follows word → length bytes ≤ max_snapshot → position ≤ 2 ^ 62
      → IsSnapshot (snapshot_with text began dump))
      → AreSavedOf means follows text began bytes
  saved_word bytes is spelled = record {
    is_snapshot = (dump, is);
    after = λ word followed. record {
      dump = dump;
      stands = stands word followed;
      bytes_are = is;
      spelled = λ few short. spelled word followed few (omega (arith, at word followed, short));
    };
  }

  -- and so is what was made of it
  pub kept_of : (made : Result (List ℕ) SnapStop)
      → IfOk made (λ bytes. (bytes ≡ snapshot_bytes (snapshot_with text began dump))
      × (length bytes ≤ max_snapshot))
      → IfOk made (λ bytes. (word : Word) → follows word → position ≤ 2 ^ 62
      → IsSnapshot (snapshot_with text began dump))
      → IfErr made (IsTooLong (snapshot_bytes (snapshot_with text began dump)))
      → IsKept (AreSavedOf means follows text began) made
  kept_of (Ok bytes) saved spelled stopped =
      (saved.1, saved_word bytes saved.0 (λ word followed few near. spelled word followed near))
  kept_of (Err (Bad Long)) saved spelled stopped = (
    snapshot_bytes (snapshot_with text began dump),
    stopped,
    saved_word (snapshot_bytes (snapshot_with text began dump)) refl
        (λ word followed few near. absurd (omega (arith, few, stopped))),
  )
  kept_of (Err (Bad Head)) saved spelled stopped = absurd stopped
  kept_of (Err (Bad Query)) saved spelled stopped = absurd stopped
  kept_of (Err (Bad Form)) saved spelled stopped = absurd stopped
  kept_of (Err (Bad Unfit)) saved spelled stopped = absurd stopped
  kept_of (Err Memory) saved spelled stopped = tt

-- what follows of bytes that are kept
pub kept_so : (P Q : List ℕ → Type 0) → ((bytes : List ℕ) → P bytes → Q bytes)
    → (made : Result (List ℕ) SnapStop) → IsKept P made → IsKept Q made
kept_so P Q so (Ok bytes) kept = (kept.0, so bytes kept.1)
kept_so P Q so (Err (Bad Long)) kept = (kept.0, kept.1, so kept.0 kept.2)
kept_so P Q so (Err (Bad Head)) kept = absurd kept
kept_so P Q so (Err (Bad Query)) kept = absurd kept
kept_so P Q so (Err (Bad Form)) kept = absurd kept
kept_so P Q so (Err (Bad Unfit)) kept = absurd kept
kept_so P Q so (Err Memory) kept = tt

module _ {F : Type 0} (follows : F → Word → Type 0) (means : Runner → Word → Type 0)
    (origin : Origin F) (session : Session F) (text items bytes : List ℕ)
    (after : IsAfter follows origin (lines items true) session)
    (saved : AreSavedOf means (follows session.follower) text session.began bytes) where
  -- after the lines of bytes a line has come if one had come before or there are bytes
  begun : session.began ≡ (origin.began || is_some_byte items)
  begun = after.began_is ∙ ap (λ (b : Bool). origin.began || b) (begun-lines items)

  -- what is kept of a session after lines is a snapshot that says so
  pub snapshot_is : IsSnapshotOf text (origin.began || is_some_byte items) bytes
  snapshot_is = subst (λ (b : Bool). IsSnapshotOf text b bytes) begun saved.is_snapshot

  -- and it is one after their items
  pub saved_after : (word : Word) → follows origin.follower word
      → IsSavedAfter means text (origin.began || is_some_byte items)
      (word ++ items_after origin.on.layout origin.began items) bytes
  saved_after word followed =
      let all = word ++ items_after origin.on.layout origin.began items in
      subst (λ (b : Bool). IsSavedAfter means text b all bytes) begun
      (saved.after all (after.carries word followed))
