use Rattle.std.proofs.Common.{◌≡◌, ◌∙◌, ℕ, List, [], length, ap, arith}
use Rattle.runner_snapshot.specs.Bytes.{snapshot_bytes, snapshot_with}
use Rattle.runner_snapshot.specs.Plain.{plain_runner}
use Rattle.runner_snapshot.proofs.saving.snapshot.Goals as goal

pub returns-clause-saved : goal.returns-clause-saved
returns-clause-saved c =
    let whole =
    snapshot_bytes (snapshot_with c.args.text.now c.args.began (plain_runner c.args.dump.now)) in
    let same : c.from_vec.result ≡ whole =
    c.from_vec.ensures ∙ c.in_ok-put_snapshot.ensures [] c.in_ok-out.ensures.items in
    let all : length c.from_vec.result ≡ length whole = ap (λ (xs : List ℕ). length xs) same in
    let count = c.in_ok-count.ensures in
    let few = c.if-count-gt-MAX_SNAPSHOT.false in (same, omega (arith, all, count, few))
