-- Why bytes are no snapshot.
use Rattle.std.proofs.Common.{◌≡◌, ◌≤◌, ℕ, suc, List, [], ◌++◌, length}
use Rattle.std.proofs.Common.{Bool, true, false, eqb}
use Rattle.std.proofs.Common.{Some, sym, ap, subst, ◌∙◌}
use Rattle.std.proofs.lemmas.Bool.{eqb-true, false≢true}
use Rattle.std.proofs.lemmas.List.{nil_from_length}
use Rattle.std.proofs.lemmas.Option.{none-some, same_Some}
use Rattle.runner_snapshot.specs.declared.flaw.Flaw.TheVariants.{Long, Head, Query, Form, Unfit}
use Rattle.runner_snapshot.specs.declared.flaw.SnapStop.{SnapStop}
use Rattle.runner_snapshot.specs.declared.flaw.SnapStop.TheVariants.{Bad, Memory}
use Rattle.runner_snapshot.specs.Bytes.{Snapshot, head, snapshot_bytes}
use Rattle.runner_snapshot.specs.Ranges.{IsSnapshot}
use Rattle.runner_snapshot.specs.Reading.{IsUnread, body_at}
use Rattle.runner_snapshot.specs.Stops.{IsStopOf, max_snapshot}
use Rattle.runner_snapshot.proofs.Readers.{IsBytes}
use Rattle.runner_snapshot.proofs.ReadSnapshots.{is_spelled, not_spelled}

-- what comes after the head are bytes too
after_are_bytes : (rest : List ℕ) → IsBytes (head ++ rest) → IsBytes rest
after_are_bytes rest are i = are (suc (suc (suc (suc (suc (suc (suc (suc i))))))))

-- nothing is spelled so where nothing is read to the end
unspelled : (bytes rest : List ℕ) → length bytes ≤ max_snapshot → bytes ≡ head ++ rest
    → ((snapshot : Snapshot) → body_at rest ≡ Some (snapshot, []) → ⊥) → IsStopOf bytes (Bad Form)
unspelled bytes rest short headed none = (
  short,
  (rest, headed),
  λ snapshot is same. not_spelled rest none snapshot is (sym headed ∙ same),
)

-- nothing is read
pub unread : (stop : SnapStop) (bytes rest : List ℕ) → length bytes ≤ max_snapshot
    → bytes ≡ head ++ rest → IsUnread stop (body_at rest) → IsStopOf bytes stop
unread Memory bytes rest short headed none = tt
unread (Bad Long) bytes rest short headed none = absurd none
unread (Bad Head) bytes rest short headed none = absurd none
unread (Bad Query) bytes rest short headed none = absurd none
unread (Bad Unfit) bytes rest short headed none = absurd none
unread (Bad Form) bytes rest short headed none =
    unspelled bytes rest short headed
    (λ snapshot read. none-some (snapshot, []) (sym none ∙ read))

-- more comes after what is read
pub trailing : (bytes rest left : List ℕ) (snapshot : Snapshot) → length bytes ≤ max_snapshot
    → bytes ≡ head ++ rest → body_at rest ≡ Some (snapshot, left) → (left ≡ [] → ⊥)
    → IsStopOf bytes (Bad Form)
trailing bytes rest left snapshot short headed read more =
    unspelled bytes rest short headed (λ other e.
    let it : Snapshot × List ℕ = (snapshot, left) in
    let that : Snapshot × List ℕ = (other, []) in
    more (ap (λ (r : Snapshot × List ℕ). r.1) (same_Some it that (sym read ∙ e))))

-- all is read
pub spelled : (bytes rest left : List ℕ) (snapshot : Snapshot) → IsBytes bytes
    → bytes ≡ head ++ rest → body_at rest ≡ Some (snapshot, left) → left ≡ []
    → IsSnapshot snapshot × (bytes ≡ snapshot_bytes snapshot)
spelled bytes rest left snapshot are headed read end =
    let whole : body_at rest ≡ Some (snapshot, []) =
    read ∙ ap (λ (others : List ℕ). Some (snapshot, others)) end in
    let found = is_spelled rest snapshot (after_are_bytes rest (subst IsBytes headed are)) whole in
    (found.0, headed ∙ found.1)

-- a test whether anything is left
pub some_left : (left : List ℕ) (is_empty : Bool) → is_empty ≡ eqb (length left) 0
    → is_empty ≡ false → left ≡ [] → ⊥
some_left left is_empty is fails none =
    let holds : is_empty ≡ true = is ∙ ap (λ (bytes : List ℕ). eqb (length bytes) 0) none in
    false≢true (sym fails ∙ holds)

pub nothing_left : (left : List ℕ) (is_empty : Bool) → is_empty ≡ eqb (length left) 0
    → is_empty ≡ true → left ≡ []
nothing_left left is_empty is holds =
    nil_from_length left (eqb-true (length left) 0 (sym is ∙ holds))
