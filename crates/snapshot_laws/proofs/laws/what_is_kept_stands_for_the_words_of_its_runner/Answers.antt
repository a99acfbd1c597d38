use Rattle.eval_nodes.specs.Plain.{seen_of}
use Rattle.eval_snapshot.proofs.Standing.{means}
use Rattle.snapshot_laws.proofs.laws.what_is_kept_stands_for_the_words_of_its_runner.Goals as goal

pub returns : goal.returns
returns c = λ columns query word runner is follows.
    means seen_of columns query word runner is follows
