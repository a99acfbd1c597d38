-- Statement. How calls compare.
use Rattle.std.specs.Prelude.{◌≡◌, string_bytes}
use Rattle.cases_drawn.specs.declared.call.Outcome.{Outcome}

-- both calls ended in the same way and wrote the same
abbrev pub IsSame : Outcome → Outcome → Type 0
IsSame one other =
    (one.status ≡ other.status) × (string_bytes one.text ≡ string_bytes other.text)
