-- Statement. What an engine may keep after an item.
use Rattle.std.specs.Prelude.{Bool, ◌+◌, ◌*◌, if◌then◌else◌, nat_le}
use Rattle.cases_drawn.specs.declared.memory.Bound.{Bound}
use Rattle.cases_drawn.specs.declared.memory.Kept.{Kept}

-- at most the slots, and where tables are made, as many again for each text
abbrev pub is_within : Bound → Kept → Bool
is_within bound kept =
    nat_le kept.stored (bound.slots * (if bound.makes_tables then kept.texts + 1 else 1))
