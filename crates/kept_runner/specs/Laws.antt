-- For the prover. What holds of the runner whatever word it follows.
use Rattle.std.specs.Prelude.{◌≡◌, false, length}
use Rattle.rate_expr.specs.Words.{Word}
use Rattle.eval_runner.specs.Laws as inner
use Rattle.kept_runner.specs.Following.{Follows, is_lost, IsSoundly, position_of}
use Rattle.kept_runner.specs.declared.kept_runner.KeptRunner.{KeptRunner}

pub follows_found : (kept : KeptRunner) (word : Word) → Follows kept word → is_lost kept ≡ false
follows_found kept word follows = inner.follows_found kept.runner word follows

pub follows_ends : (kept : KeptRunner) (word : Word) → Follows kept word
    → position_of kept ≡ length word
follows_ends kept word follows = inner.follows_ends kept.runner word follows

pub follows_sound : (kept : KeptRunner) (word : Word) → Follows kept word → IsSoundly kept
follows_sound kept word follows = inner.follows_sound kept.runner word follows
