-- Bytes at places of a text.
use Rattle.std.proofs.Common.{◌≡◌, ℕ, List}
use Rattle.std.proofs.Common.{Bor, Option, ap}
use Rattle.std.specs.Option.{option_copied}
use Rattle.language_base.specs.declared.span.Span.{Span}
use Rattle.query_templates.specs.Names.{are_bytes, are_named, is_named, part_at, same_name}

pub named : (text : List ℕ) (place : Span) (name : List ℕ) (part : Option (Bor (List ℕ)))
    → option_copied part ≡ part_at text place
    → are_bytes (option_copied part) name ≡ is_named text place name
unfolding is_named
named text place name part is = ap (λ p. are_bytes p name) is

pub same : (text : List ℕ) (one other : Span) (part : Option (Bor (List ℕ)))
    → option_copied part ≡ part_at text one
    → are_named text (option_copied part) other ≡ same_name text one other
unfolding same_name
same text one other part is = ap (λ p. are_named text p other) is
