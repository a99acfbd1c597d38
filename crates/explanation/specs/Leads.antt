-- For the prover. What is known of lets, by their names.
use Rattle.std.specs.Prelude.{◌≡◌, ℕ, List}
use Rattle.std.specs.HashMap.{HashMap, get_by}
use Rattle.std.specs.Borrow.{Bor}
use Rattle.std.specs.Str.{bytes_eq}
use Rattle.explanation.specs.declared.uses.Lead.{Lead}
use Rattle.explanation.specs.Uses.{Known, lead_named}

-- the map has what is known of each name
abbrev pub AreLeads : {S : Type 0} → HashMap (Bor (List ℕ)) Lead S → List Known → Type 0
AreLeads leads known =
    (name : List ℕ) → get_by (λ k. bytes_eq name k.now) leads ≡ lead_named known name
