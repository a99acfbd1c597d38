-- For the prover. What holds of the engine whatever word it follows.
use Rattle.std.specs.Prelude.{◌≡◌, false, length}
use Rattle.std.proofs.Common.{ap}
use Rattle.rate_expr.specs.Words.{Word}
use Rattle.slow_eval.specs.declared.slow.Slow.{Slow}
use Rattle.slow_eval.specs.Following.{Follows, is_lost, IsSound, position_of}

pub follows_found : (slow : Slow) (word : Word) → Follows slow word → is_lost slow ≡ false
follows_found slow word follows = follows.found

pub follows_ends : (slow : Slow) (word : Word) → Follows slow word → position_of slow ≡ length word
follows_ends slow word follows = ap length follows.items

pub follows_sound : (slow : Slow) (word : Word) → Follows slow word → IsSound slow
follows_sound slow word follows = follows.sound
