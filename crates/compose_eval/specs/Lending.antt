-- Statement. A follower that is lent for writing returns to its place.
use Rattle.std.specs.Prelude.{ℕ, set}
use Rattle.std.specs.Borrow.{Fml, Lends, MutBor, RattleType}
use Rattle.compose_eval.specs.Followers.{Contents, with_follower}
use Rattle.compose_eval.specs.contracts.instances.Instances.{the_row}

-- when the loan `r` ends, its last value is the follower at index `i` of `s`, and all else of `s`
-- is as before
abbrev pub LendsFollower : (R : RattleType) → MutBor (Contents R.Denot) → ℕ → MutBor R.Denot → Fml
LendsFollower R s i r =
    Lends (the_row R) R s r (λ w. record s.now { live = with_follower s.now.live i w })

-- the same for the idle follower at index `i`
abbrev pub LendsResting : (R : RattleType) → MutBor (Contents R.Denot) → ℕ → MutBor R.Denot → Fml
LendsResting R s i r = Lends (the_row R) R s r (λ w. record s.now { idle = set s.now.idle i w })
