use Rattle.std.proofs.Common.{ℕ, List, Some, sym, ap, ◌∙◌}
use Rattle.runner_snapshot.specs.declared.keys.KeyDumps.{out-KeyDumps}
use Rattle.runner_snapshot.specs.Dumps.{Keyed}
use Rattle.runner_snapshot.specs.Plain.{keys_of, plain_runner}
use Rattle.runner_snapshot.proofs.Rows.{keyed_of, keys_are, seen_at, seen_within}
use Rattle.runner_snapshot.proofs.keys.KeyDumps.get.Goals as goal

pub index-keyed-requires : goal.index-keyed-requires
index-keyed-requires c =
    seen_within keyed_of c.args.i (out-KeyDumps c.args.self.now).keys (keys_of c.args.self.now)
    c.requires (keys_are c.args.self.now)

pub returns : goal.returns
returns c =
    seen_at keyed_of c.args.i (out-KeyDumps c.args.self.now).keys (keys_of c.args.self.now)
    c.index-keyed.result.now c.requires (keys_are c.args.self.now) c.index-keyed.ensures
    ∙ ap (λ (key : List ℕ).
    let one : Keyed = record {
      key = key;
      runner = plain_runner c.index-keyed.result.now.dump;
    } in Some one) (sym c.as_slice.ensures)
