-- The let in which a place lies or that it names, in memory and without where it lies there.
use Rattle.std.proofs.Common.{◌≡◌, Bool, true, false, ◌||◌, List, [], ◌∷◌, map, Bor, Option, Some}
use Rattle.std.proofs.Common.{option_copied, option_map, refl, sym, ap, ◌∙◌, if◌then◌else◌}
use Rattle.std.specs.List.{find, list_any}
use Rattle.language_base.specs.declared.span.Span.{Span}
use Rattle.query_syntax.specs.declared.program.Let as raw
use Rattle.query_syntax.specs.Plain.{plain_let}
use Rattle.query_syntax.specs.Programs.{Let}
use Rattle.query_syntax.specs.Queries.{Query}
use Rattle.explanation.specs.Culprits.{query_or}
use Rattle.explanation.specs.Spots.{has_in, is_at}

-- a choice of the first
first_or : (test : Bool) (one : raw.Let) (rest : Option raw.Let) (others : Option Let)
    → others ≡ option_map plain_let rest
    → (if test then Some (plain_let one) else others)
    ≡ option_map plain_let (if test then Some one else rest)
first_or true one rest others is = refl
first_or false one rest others is = is

-- the first let with the place in it
found_plain : (place : Span) (lets : List raw.Let)
    → find (λ one. has_in one.span place) (map plain_let lets)
    ≡ option_map plain_let (find (λ one. has_in one.span place) lets)
found_plain place [] = refl
found_plain place (one ∷ lets) = first_or (has_in one.span place) one
    (find (λ one. has_in one.span place) lets)
    (find (λ one. has_in one.span place) (map plain_let lets)) (found_plain place lets)

-- its query, or another
pub query_found : (place : Span) (lets : List raw.Let) (main : Query) (found : Option (Bor raw.Let))
    → option_copied found ≡ find (λ one. has_in one.span place) lets
    → query_or (option_map plain_let (option_copied found)) main
    ≡ query_or (find (λ one. has_in one.span place) (map plain_let lets)) main
query_found place lets main found is =
    ap (λ (o : Option raw.Let). query_or (option_map plain_let o) main) is
    ∙ ap (λ (o : Option Let). query_or o main) (sym (found_plain place lets))

-- whether some let is named there
pub named_plain : (place : Span) (lets : List raw.Let)
    → list_any (λ one. is_at one.name.span place) (map plain_let lets)
    ≡ list_any (λ one. is_at one.name.span place) lets
named_plain place [] = refl
named_plain place (one ∷ lets) =
    ap (λ (b : Bool). is_at one.name.span place || b) (named_plain place lets)
