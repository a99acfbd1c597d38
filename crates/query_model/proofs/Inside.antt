-- What is inside an option.
use Rattle.std.proofs.Common.{◌≡◌, Some, ap}
use Rattle.std.specs.Prelude.{unwrap_or}

-- equal options hold the same
pub same_inside : {A : Type 0} (a b : A) → Some a ≡ Some b → a ≡ b
same_inside a b same = ap (λ option. unwrap_or option a) same
