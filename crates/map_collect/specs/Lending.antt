-- Statement. A follower that is lent for writing returns to its place, and all else stays.
use Rattle.std.specs.Prelude.{ℕ, slice_set}
use Rattle.std.specs.Borrow.{Fml, Lends, MutBor, RattleType}
use Rattle.map_collect.specs.Followers.{Followers}
use Rattle.map_collect.specs.declared.keys.Keys.{Keys}
use Rattle.map_collect.specs.contracts.keyed.Keyed as keyed
use Rattle.map_collect.specs.contracts.keys.Keys as keys

-- the followers, of which the one at this index is replaced
abbrev pub with_follower : {R : Type 0} → Followers R → ℕ → R → Followers R
with_follower old i follower = record old { followers = slice_set old.followers i follower }

-- when the loan `r` ends, the follower at index `i` is its last value
abbrev pub LendsKeyed : (R : RattleType) → MutBor (Followers R.Denot) → ℕ → MutBor R.Denot → Fml
LendsKeyed R s i r = Lends (keyed.the_row R) R s r (with_follower s.now i)

abbrev pub LendsFollower : (R : RattleType) → MutBor (Keys R.Denot) → ℕ → MutBor R.Denot → Fml
LendsFollower R s i r =
    Lends (keys.the_row R) R s r (λ w. record s.now { keyed = with_follower s.now.keyed i w })

-- when the loan `r` ends, the default follower is its last value
abbrev pub LendsFallback : (R : RattleType) → MutBor (Keys R.Denot) → MutBor R.Denot → Fml
LendsFallback R s r = Lends (keys.the_row R) R s r (λ w. record s.now { fallback = w })
