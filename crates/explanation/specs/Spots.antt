-- Statement. Whether a part of the text is a place, or contains it.
use Rattle.std.specs.Prelude.{Bool, ◌==◌, ◌&&◌, nat_le}
use Rattle.language_base.specs.declared.span.Span.{Span}

-- the part is the place
abbrev pub is_at : Span → Span → Bool
is_at part place = part.from == place.from && part.to == place.to

-- the part contains the place
abbrev pub has_in : Span → Span → Bool
has_in part place = nat_le part.from place.from && nat_le place.to part.to
