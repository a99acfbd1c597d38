-- What is said of a run from where a follower stands, as said of the snapshot that it was made of.
use Rattle.std.proofs.Common.{◌≡◌, ℕ, Bool, true, false, List, [], Option, Some, None, IfSome}
use Rattle.std.proofs.Common.{inl, refl, ap, subst, ◌∙◌}
use Rattle.std.proofs.KnownBytes.{Appends-nil, Consumes-nil}
use Rattle.io_edge.specs.Lines.{Shown, lines}
use Rattle.query_model.specs.Checked.{CheckedQuery}
use Rattle.query_model.specs.Monitors.{Monitor, monitor_of}
use Rattle.item_schema.specs.declared.column.Column.{Column}
use Rattle.rate_expr.specs.Words.{Word}
use Rattle.runner_snapshot.specs.Bytes.{Snapshot}
use Rattle.runner_snapshot.specs.Dumps.{Runner}
use Rattle.stream_run.specs.Endings.{EndedBy, Writes}
use Rattle.stream_run.specs.Replies.{AreReplies}
use Rattle.stream_run.specs.Output.{body_of}
use Rattle.stream_run.specs.Resumed.{layout_after}
use Rattle.stream_run.specs.Outside.{Outside}
use Rattle.stream_run.specs.Sessions.{IsSaid, Origin, origin_of}
use Rattle.stream_run.specs.declared.session.Session.{Session}
use Rattle.stream_run.specs.declared.status.Status.{Status}
use Rattle.stream_run.specs.declared.status.Status.TheVariants.{Done, Refused, Usage, QueryFault}
use Rattle.stream_run.specs.declared.status.Status.TheVariants.{ItemFault, SinkFault, Memory, Limit}
use Rattle.saved_run.specs.Resuming.{IsSaidFrom}

-- what holds of bytes that are known, where it follows from another fact
pub known_so : (left : Option (List ℕ)) (P Q : List ℕ → Type 0)
    → ((bytes : List ℕ) → P bytes → Q bytes) → IfSome left P → IfSome left Q
known_so (Some bytes) P Q so holds = so bytes holds
known_so None P Q so holds = tt

module _ (S T : List Shown → List ℕ → Type 0)
    (so : (shown : List Shown) (text : List ℕ) → S shown text → T shown text)
    (old new : Outside) where
  writes_so : (shown : List Shown) → Writes S old new shown → Writes T old new shown
  writes_so shown (text, said, wrote) = (text, so shown text said, wrote)

  -- a run ended so, whatever follows of what is said of its texts
  pub ended_so : (status : Status) → EndedBy S status old new → EndedBy T status old new
  ended_so Done (ends, wrote) =
      (ends, known_so old.left _ _ (λ bytes. writes_so (lines bytes true)) wrote)
  ended_so ItemFault (ends, got, read, wrote) =
      (ends, got, read, writes_so (lines got false) wrote)
  ended_so SinkFault (ends, got, read, part) = (
    ends,
    got,
    read,
    record {
      some = part.some;
      text = part.text;
      said = so part.some part.text part.said;
      wrote = part.wrote;
      begins = part.begins;
      no_end = part.no_end;
    },
  )
  ended_so Memory (ends, got, read, wrote) = (
    ends,
    got,
    read,
    record {
      some = wrote.some;
      whole = wrote.whole;
      wrote = writes_so wrote.some wrote.wrote;
    },
  )
  ended_so Limit (ends, got, most, read, wrote) =
      (ends, got, most, read, writes_so (lines got false) wrote)
  ended_so Usage ended = ended
  ended_so QueryFault ended = ended
  ended_so Refused ended = ended

-- where a run begins that goes on from a snapshot
abbrev pub origin_at : {F : Type 0} → CheckedQuery → F → Snapshot → Origin F
origin_at on first snapshot = record { on = on; follower = first; began = snapshot.began }

module _ {F : Type 0} (follows : F → Word → Type 0) (means : Runner → Word → Type 0)
    (on : CheckedQuery) (snapshot : Snapshot) (first : F)
    (restored : (word : Word) → means snapshot.dump word → follows first word) where
  -- what is said from there is said from the snapshot
  said_from : (shown : List Shown) (text : List ℕ)
      → IsSaid follows (origin_at on first snapshot) shown text
      → IsSaidFrom means (monitor_of on) snapshot shown text
  said_from shown text said = record {
    replies = said.replies;
    values = λ word meaning is_word stands meant.
        said.values word meaning (is_word, restored word stands) meant;
  }

  pub ended_from : (origin : Origin F) → origin ≡ origin_at on first snapshot
      → (old new : Outside) (status : Status) → EndedBy (IsSaid follows origin) status old new
      → EndedBy (IsSaidFrom means (monitor_of on) snapshot) status old new
  ended_from origin is old new status ended =
      ended_so (IsSaid follows (origin_at on first snapshot))
      (IsSaidFrom means (monitor_of on) snapshot) said_from old new status
      (subst (λ (o : Origin F). EndedBy (IsSaid follows o) status old new) is ended)

-- a session that goes on from a snapshot begins there
pub session_origin : {F : Type 0} (session session' : Session F) (began : Bool) → session ≡ session'
    → session'.began ≡ began → origin_of session ≡ record (origin_of session') { began = began }
session_origin session session' began is same =
    ap (λ s. origin_of s) is ∙ ap (λ (b : Bool). record (origin_of session') { began = b }) same

-- no lines have no replies
no_replies : (columns : List Column) (has_header : Bool)
    → AreReplies columns (body_of has_header []) []
no_replies columns true = refl
no_replies columns false = refl

module _ (means : Runner → Word → Type 0) (monitor : Monitor) (snapshot : Snapshot) where
  -- for no lines nothing is said
  none_said : IsSaidFrom means monitor snapshot [] []
  none_said = record {
    replies =
        let layout = layout_after monitor.layout snapshot.began in
        no_replies layout.columns layout.has_header;
    values = λ word meaning is_word stands is. refl;
  }

  -- memory ran out before a line was read
  pub ended_none : (old : Outside)
      → EndedBy (IsSaidFrom means monitor snapshot) Memory old old
  ended_none old = (
    inl refl,
    [],
    Consumes-nil old.left,
    record {
      some = [];
      whole = (lines [] false, refl);
      wrote = ([], none_said, Appends-nil old.taken);
    },
  )
