-- Statement. Keys that are lent for writing return to their start, and all else stays.
use Rattle.std.specs.Prelude.{ℕ}
use Rattle.std.specs.Borrow.{Fml, Lends, MutBor, RattleType}
use Rattle.map_collect.specs.Tracks.{Contents, with_keys}
use Rattle.map_collect.specs.declared.keys.Keys.{Keys}
use Rattle.map_collect.specs.contracts.keys.Keys as keys
use Rattle.map_collect.specs.contracts.tracks.Tracks as tracks

-- when the loan `r` ends, the keys at index `i` are its last value
abbrev pub LendsKeys : (R : RattleType) → MutBor (Contents R.Denot) → ℕ → MutBor (Keys R.Denot)
    → Fml
LendsKeys R s i r = Lends (tracks.the_row R) (keys.the_row R) s r
    (λ w. record s.now { tracks = with_keys s.now.tracks i w })
