-- Statement. Names in a text, by their places, and the names that the language has.
use Rattle.std.specs.Prelude.{ℕ, Bool, false, ◌&&◌, List, [], ◌∷◌, length, nat_le, codes, Option}
use Rattle.std.specs.Prelude.{Some, None, if◌then◌else◌}
use Rattle.std.specs.List.{list_any}
use Rattle.std.specs.Str.{bytes_eq}
use Rattle.language_base.specs.declared.span.Span.{Span}
use Rattle.query_forms.specs.Terms.{bytes_at}

-- the bytes at a place, if the text has it
unfoldable pub part_at : List ℕ → Span → Option (List ℕ)
part_at text place =
    if nat_le place.from place.to && nat_le place.to (length text)
    then Some (bytes_at text place) else None

-- there are bytes, and they are the name
abbrev pub are_bytes : Option (List ℕ) → List ℕ → Bool
are_bytes None name = false
are_bytes (Some bytes) name = bytes_eq bytes name

-- the name stands at the place
unfoldable pub is_named : List ℕ → Span → List ℕ → Bool
is_named text place name = are_bytes (part_at text place) name

-- there are bytes, and they stand at the place too
abbrev pub are_named : List ℕ → Option (List ℕ) → Span → Bool
are_named text None place = false
are_named text (Some bytes) place = is_named text place bytes

-- one name stands at both places
unfoldable pub same_name : List ℕ → Span → Span → Bool
same_name text one other = are_named text (part_at text one) other

-- the name at a place stands at one of these
abbrev pub is_among : List ℕ → List Span → Span → Bool
is_among text names place = list_any (λ name. same_name text name place) names

-- the names that the language has: of its forms, and those by which values are read
unfoldable pub language_names : List (List ℕ)
language_names =
    codes "abs" ∷ codes "add" ∷ codes "alt" ∷ codes "and" ∷ codes "any" ∷ codes "apply"
    ∷ codes "atom" ∷ codes "between" ∷ codes "col" ∷ codes "collect" ∷ codes "combine"
    ∷ codes "compose" ∷ codes "def" ∷ codes "div" ∷ codes "eps" ∷ codes "eq" ∷ codes "fixed"
    ∷ codes "ge" ∷ codes "gt" ∷ codes "header" ∷ codes "if" ∷ codes "include" ∷ codes "int"
    ∷ codes "isnum" ∷ codes "item" ∷ codes "iter" ∷ codes "key" ∷ codes "le" ∷ codes "let"
    ∷ codes "lt" ∷ codes "main" ∷ codes "max" ∷ codes "min" ∷ codes "mul" ∷ codes "ne"
    ∷ codes "neg" ∷ codes "not" ∷ codes "or" ∷ codes "part" ∷ codes "plain" ∷ codes "rec"
    ∷ codes "rem" ∷ codes "seq" ∷ codes "split" ∷ codes "star" ∷ codes "stream" ∷ codes "sub"
    ∷ codes "text" ∷ codes "tcount" ∷ codes "tget" ∷ codes "tmax" ∷ codes "tmin" ∷ codes "tsum"
    ∷ codes "value" ∷ codes "value1" ∷ codes "value2" ∷ codes "value3" ∷ codes "value4"
    ∷ codes "value5" ∷ codes "value6" ∷ codes "value7" ∷ codes "value8" ∷ codes "x" ∷ codes "y"
    ∷ []

-- a name of the language stands at the place
unfoldable pub is_language_name : List ℕ → Span → Bool
is_language_name text place = list_any (is_named text place) language_names
