-- What a text begins with.
use Rattle.std.proofs.Common.{◌≡◌, ℕ, List, ◌++◌, length, take, refl, append_assoc, length-append}
use Rattle.std.proofs.Common.{take_all, take_at, take-take, arith}

-- what is put after a front and more leaves the front as it is
pub begins_front : (front more text : List ℕ)
    → (take (length (front ++ more)) text ≡ take (length (front ++ more)) text)
    × (take (length front) (take (length (front ++ more)) text) ≡ take (length front) text)
    × (take (length front) (front ++ more) ≡ front)
begins_front front more text = (
  refl,
  take-take (length front) (length (front ++ more)) text (omega (arith, length-append front more)),
  take_at front more (length front) refl,
)

-- what a text still begins with
pub ruleset begins = (begins_front, append_assoc, take_all, take_at)
