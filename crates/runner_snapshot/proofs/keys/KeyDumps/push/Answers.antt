use Rattle.std.proofs.Common.{ℕ, List, [], ◌∷◌, ◌++◌, ap, ◌∙◌}
use Rattle.runner_snapshot.specs.declared.keys.KeyDumps.{out-KeyDumps}
use Rattle.runner_snapshot.specs.Dumps.{Keyed}
use Rattle.runner_snapshot.specs.Plain.{keys_of, plain_runner}
use Rattle.runner_snapshot.proofs.Rows.{keyed_of, keys_are, keys_made, at_err, seen_more, seen_same}
use Rattle.runner_snapshot.proofs.keys.KeyDumps.push.Goals as goal

pub returns-in_err-push-clause-err : goal.returns-in_err-push-clause-err
returns-in_err-push-clause-err c =
    at_err c.from_residual-in_err-push.result (seen_same keyed_of (keys_of c.args.self.now) _
    (out-KeyDumps c.args.self.now).keys.items c.push.new.self.items (keys_are c.args.self.now)
    (keys_made (out-KeyDumps c.args.self.now).alloc c.push.new.self) c.in_err-push.ensures.items)

pub returns-clause-ok : goal.returns-clause-ok
returns-clause-ok c =
    seen_more keyed_of (keys_of c.args.self.now) _ (out-KeyDumps c.args.self.now).keys.items
    c.push.new.self.items (record { key = c.in_ok-key.key; dump = c.args.dump })
    (keys_are c.args.self.now)
    (keys_made (out-KeyDumps c.args.self.now).alloc c.push.new.self) c.in_ok-push.ensures.items
    ∙ ap (λ (key : List ℕ).
    let one : Keyed = record { key = key; runner = plain_runner c.args.dump } in
    keys_of c.args.self.now ++ one ∷ []) c.in_ok-key.ensures
