-- Statement. What was taken from a source that is read up to its end, or up to a number of bytes.
use Rattle.std.specs.Prelude.{◌≡◌, ◌<◌, ◌≤◌, ℕ, List, length, take, Option, IfSome}
use Rattle.std.specs.Io.KnownBytes.{Consumes}
use Rattle.io_edge.specs.Ended.{MeetsEnd}

-- `got` are the first bytes: either `limit` of them, with no end met, or fewer, up to the first end
pub record TakesFirst (limit : ℕ) (left left' : Option (List ℕ)) (ends ends' : ℕ) (got : List ℕ)
    : Type 0 where
  pub consumed : Consumes left left' got
  pub first : IfSome left (λ bytes. got ≡ take limit bytes)
  pub within : length got ≤ limit
  pub end : MeetsEnd ends ends' left' (length got < limit)

-- fewer than `limit` bytes were taken, and no end was met
pub record TakesFewer (limit : ℕ) (left left' : Option (List ℕ)) (ends ends' : ℕ) : Type 0 where
  pub got : List ℕ
  pub consumed : Consumes left left' got
  pub few : length got < limit
  pub no_end : ends' ≡ ends
