-- Literals and keys read back.
use Rattle.std.proofs.Common.{◌≡◌, List, [], ◌∷◌, map, refl, ap}
use Rattle.query_forms.specs.Terms.{Terms}
use Rattle.query_syntax.specs.declared.key.Key.{Key}
use Rattle.query_syntax.specs.declared.key.Key.TheVariants as key
use Rattle.query_syntax.specs.declared.leaf.Literal.{Literal}
use Rattle.query_syntax.specs.declared.leaf.Literal.TheVariants as literal
use Rattle.query_syntax.specs.declared.leaf.Name.{Name}
use Rattle.query_syntax.specs.Written.{literal_before, key_before, names_terms}
use Rattle.query_syntax.proofs.ReadTerms.{Reading, Back, call_back, name_reading, number_reading}
use Rattle.query_syntax.proofs.ReadTerms.{text_reading, readings, all_names}

-- a literal reads back
pub literal_back : (l : Literal) (rest : Terms)
    → Back (λ (x : Reading). x.literal) l (literal_before l rest) rest
literal_back (literal.Number n) rest = record { reading = number_reading n; is = refl; says = refl }
literal_back (literal.Text t) rest = record { reading = text_reading t; is = refl; says = refl }

-- names read back, and so does a key
names_read : (names : List Name) → readings (names_terms names) ≡ map name_reading names
names_read [] = refl
names_read (first ∷ others) = ap (λ (l : List Reading). name_reading first ∷ l) (names_read others)

names_said : (names : List Name) → all_names (map name_reading names) ≡ names
names_said [] = refl
names_said (first ∷ others) = ap (λ (l : List Name). first ∷ l) (names_said others)

pub key_back : (k : Key) (rest : Terms) → Back (λ (x : Reading). x.key) k (key_before k rest) rest
key_back (key.Column n) rest = record { reading = name_reading n; is = refl; says = refl }
key_back (key.Columns names span) rest =
    call_back _ _ _ _ span rest (map name_reading names) (names_read names)
    (ap (λ (l : List Name). key.Columns l span) (names_said names))
