use Rattle.std.proofs.Common.{ℕ, List, ap, inl, rules, subst}
use Rattle.query_model.specs.Monitors.{monitor_of}
use Rattle.runner_snapshot.specs.Saved.{snapshot_of}
use Rattle.saved_run.specs.Opened.{IsEarlyFlaw, IsOpened}
use Rattle.saved_run.proofs.WholeBytes.{flaw_of_all, of_all}
use Rattle.saved_run.proofs.opening.open_snapshot.Goals as goal

pub returns-in-Err-Memory-clause-read : goal.returns-in-Err-Memory-clause-read
returns-in-Err-Memory-clause-read g c =
    let kept = c.in-Err-Memory.ensures.memory (search rules) in
    inl (ap g.Q.Source.left kept, ap g.Q.Source.ends kept)

pub returns-in-Ok-open_bytes-clause-opened : goal.returns-in-Ok-open_bytes-clause-opened
returns-in-Ok-open_bytes-clause-opened g c =
    let snapshot = snapshot_of c.in-Ok-open_bytes.opened.saved.value in
    let monitor = monitor_of c.in-Ok-open_bytes.opened.checked.value in
    let opened = subst (λ (bytes : List ℕ). IsOpened bytes snapshot monitor) c.deref.ensures.value
    c.in-Ok-open_bytes.ensures.opened in
    of_all _ _ _ _ _ c.in-Ok.ensures.taken (λ bytes. IsOpened bytes snapshot monitor)
    opened.spelled.few opened

pub returns-in-Err-Bad-clause-bad : goal.returns-in-Err-Bad-clause-bad
returns-in-Err-Bad-clause-bad g c =
    let flaw = c.in-Err-Bad.flaw in
    let stopped = rw c.in-Err-Bad.field-0-is at c.in-Err-Bad.ensures.bad in
    flaw_of_all _ _ _ _ _ c.in-Ok.ensures.taken flaw
    (subst (λ (bytes : List ℕ). IsEarlyFlaw bytes flaw) c.deref.ensures.value stopped)
