-- For the prover. The positions of the queries that names stand for.
use Rattle.std.specs.Prelude.{◌≡◌, ℕ, List, Option}
use Rattle.std.specs.Borrow.{Bor}
use Rattle.std.specs.HashMap.{HashMap, get_by}
use Rattle.std.specs.Option.{option_map}
use Rattle.std.specs.Str.{bytes_eq}
use Rattle.query_lets.specs.Unfolded.{Binding, meaning}
use Rattle.explanation.specs.Positions.{few_positions}

-- the map has the positions of what each name stands for
abbrev pub AreCounted : {S : Type 0} → HashMap (Bor (List ℕ)) (Option ℕ) S → List Binding → Type 0
AreCounted counted bindings = (name : List ℕ) →
    get_by (λ k. bytes_eq name k.now) counted ≡ option_map few_positions (meaning bindings name)
