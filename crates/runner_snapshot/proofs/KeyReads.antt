-- Reading a runner with its key, the key first.
use Rattle.std.proofs.Common.{◌≡◌, ℕ, List, Some, ap, ◌∙◌}
use Rattle.runner_snapshot.specs.declared.flaw.SnapStop.{SnapStop}
use Rattle.runner_snapshot.specs.Dumps.{Keyed, Node, Runner}
use Rattle.runner_snapshot.specs.Reading.{Read, ◌>>=◌, IsUnread, keyed_at, runner_at, text_at}
use Rattle.runner_snapshot.proofs.Repeating.{unread_first, unread_same}

module _ (f : List ℕ → Read Node) where
  -- a key and a runner as one
  abbrev keyed_with : List ℕ × Runner → Keyed
  keyed_with parts = record { key = parts.0; runner = parts.1 }

  -- what comes of a key, and of the bytes after it
  abbrev after_key : List ℕ × List ℕ → Read (List ℕ × Runner)
  after_key x = runner_at f x.1 >>= λ y. Some ((x.0, y.0), y.1)

  abbrev whole : (List ℕ × Runner) × List ℕ → Read Keyed
  whole x = Some (keyed_with x.0, x.1)

  after : (bytes key rest : List ℕ) → text_at bytes ≡ Some (key, rest)
      → keyed_at f bytes ≡ (after_key (key, rest) >>= whole)
  unfolding keyed_at
  after bytes key rest reads = ap (λ (r : Read (List ℕ)). (r >>= after_key) >>= whole) reads

  pub no_key : (stop : SnapStop) (bytes : List ℕ) → IsUnread stop (text_at bytes)
      → IsUnread stop (keyed_at f bytes)
  unfolding keyed_at
  no_key stop bytes unread =
      unread_first stop (text_at bytes >>= after_key) whole
      (unread_first stop (text_at bytes) after_key unread)

  pub no_runner : (stop : SnapStop) (bytes key rest : List ℕ) → text_at bytes ≡ Some (key, rest)
      → IsUnread stop (runner_at f rest) → IsUnread stop (keyed_at f bytes)
  no_runner stop bytes key rest reads unread =
      unread_same stop (after_key (key, rest) >>= whole) (keyed_at f bytes)
      (after bytes key rest reads)
      (unread_first stop (after_key (key, rest)) whole
      (unread_first stop (runner_at f rest) (λ y. Some ((key, y.0), y.1)) unread))

  pub both_read : (bytes key rest : List ℕ) (one : Runner) (left : List ℕ)
      → text_at bytes ≡ Some (key, rest) → runner_at f rest ≡ Some (one, left)
      → keyed_at f bytes ≡ Some (record { key = key; runner = one }, left)
  both_read bytes key rest one left reads also =
      after bytes key rest reads
      ∙ ap (λ (r : Read Runner). (r >>= λ y. Some ((key, y.0), y.1)) >>= whole) also
