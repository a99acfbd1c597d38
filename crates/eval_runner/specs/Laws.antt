-- For the prover. What holds of the runner whatever word it follows.
use Rattle.std.specs.Prelude.{◌≡◌, false, length}
use Rattle.std.proofs.Common.{inr}
use Rattle.rate_expr.specs.Words.{Word}
use Rattle.eval_runner.specs.declared.runner.Runner.{Runner}
use Rattle.eval_runner.specs.Following.{Follows, is_lost, IsSoundly, position_of}

pub follows_found : (runner : Runner) (word : Word) → Follows runner word → is_lost runner ≡ false
follows_found runner word follows = follows.found

pub follows_ends : (runner : Runner) (word : Word) → Follows runner word
    → position_of runner ≡ length word
follows_ends runner word follows = follows.at.follows.position

pub follows_sound : (runner : Runner) (word : Word) → Follows runner word → IsSoundly runner
follows_sound runner word follows = record { sound = inr follows.at.sound }
