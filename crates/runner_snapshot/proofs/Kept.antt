-- A snapshot that was written is one that can be read again.
use Rattle.std.proofs.Common.{◌≡◌, ◌≤◌, ℕ, List, [], ◌∷◌, ◌++◌, length, ap, arith}
use Rattle.std.proofs.lemmas.List.{length-append}
use Rattle.language_base.specs.Limits.{max_text}
use Rattle.runner_snapshot.specs.Bytes.{Snapshot, flag, head, runner_bytes, snapshot_bytes}
use Rattle.runner_snapshot.specs.Bytes.{text_bytes}
use Rattle.runner_snapshot.specs.Ranges.{IsRunner, IsSnapshot}
use Rattle.runner_snapshot.specs.Stops.{max_snapshot}

back : (a b : List ℕ) (n : ℕ) → length (a ++ b) ≤ n → length b ≤ n
back a b n few = let both = length-append a b in omega (arith, few, both)

-- the bytes of its runner are no more than all
runner_few : (s : Snapshot) (n : ℕ) → length (snapshot_bytes s) ≤ n
    → length (runner_bytes s.dump) ≤ n
runner_few s n few =
    let front = text_bytes s.text ++ (flag s.began ∷ []) in
    back front (runner_bytes s.dump) n (back head (front ++ runner_bytes s.dump) n few)

-- where its runner can be read again if it has few bytes
pub kept_again : (s : Snapshot) (bytes : List ℕ) → bytes ≡ snapshot_bytes s
    → length bytes ≤ max_snapshot → length s.text ≤ max_text
    → (length (runner_bytes s.dump) ≤ max_snapshot → IsRunner s.dump) → IsSnapshot s
kept_again s bytes same few text again =
    let all : length bytes ≡ length (snapshot_bytes s) = ap (λ (xs : List ℕ). length xs) same in
    record { text = text; dump = again (runner_few s max_snapshot (omega (arith, few, all))) }
