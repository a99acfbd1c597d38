-- Keys in the text of a file: a key has one to four columns.
use Rattle.std.proofs.Common.{◌≡◌, ◌==◌, ℕ, ◌+◌, Bool, true, false, cond, replicate, List, []}
use Rattle.std.proofs.Common.{◌∷◌, length, Option, None, Some, refl, codes, arith, subst}
use Rattle.std.proofs.lemmas.Bool.{eqb-true}
use Rattle.language_base.specs.declared.span.Span.{Span}
use Rattle.query_forms.specs.declared.term_place.TermPlace.{TermPlace}
use Rattle.query_forms.specs.declared.term_place.TermPlace.TheVariants as place
use Rattle.query_forms.specs.Forms.{first_unfit, places_of, unfit_in}
use Rattle.query_forms.specs.Terms.{Terms, count_of}
use Rattle.query_model.specs.Keys.{IsKeySize}
use Rattle.query_parser.proofs.OptionCases.{Some-no_none, first_of_two-none}
use Rattle.query_syntax.specs.declared.key.Key.{Key}
use Rattle.query_syntax.specs.declared.key.Key.TheVariants as key
use Rattle.query_syntax.specs.declared.leaf.Name.{Name}
use Rattle.query_syntax.specs.Keys.{names_of}
use Rattle.query_syntax.specs.Written.{key_before, names_terms}
use Rattle.rewritten_texts.proofs.Taken.{StandThere, take_call, take_word}

-- names are as many terms
names_count : (names : List Name) → count_of (names_terms names) ≡ length names
names_count [] = refl
names_count (name ∷ names) = omega (arith, names_count names)

-- a key of several names has two, three or four
few_names : (count : ℕ) (two three four : Bool) → (2 == count) ≡ two → (3 == count) ≡ three
    → (4 == count) ≡ four → (p q r : List TermPlace) (span : Span)
    (inside : List TermPlace → Option Span)
    → unfit_in (cond two (Some p) (cond three (Some q) (cond four (Some r) None))) span inside
    ≡ None → IsKeySize count
few_names count true three four is_two is_three is_four p q r span inside fit =
    let same = eqb-true 2 count is_two in
    record { least = omega (arith, same); most = omega (arith, same) }
few_names count false true four is_two is_three is_four p q r span inside fit =
    let same = eqb-true 3 count is_three in
    record { least = omega (arith, same); most = omega (arith, same) }
few_names count false false true is_two is_three is_four p q r span inside fit =
    let same = eqb-true 4 count is_four in
    record { least = omega (arith, same); most = omega (arith, same) }
few_names count false false false is_two is_three is_four p q r span inside fit =
    absurd (Some-no_none span fit)

has_form : (count : ℕ) (span : Span) (arguments : Terms)
    → unfit_in (places_of place.Key (codes "key") count) span
    (λ inner. first_unfit inner arguments) ≡ None → IsKeySize count
has_form count span arguments fit =
    few_names count (2 == count) (3 == count) (4 == count) refl refl refl
    (replicate 2 place.Name) (replicate 3 place.Name) (replicate 4 place.Name) span
    (λ inner. first_unfit inner arguments) fit

-- a key is one term
pub key_count : (tree : Key) (rest : Terms) → count_of (key_before tree rest) ≡ count_of rest + 1
key_count (key.Column name) rest = refl
key_count (key.Columns names span) rest = refl

-- a key in a node of a let, and those after it
pub record StandsKey (level : ℕ) (places : List TermPlace) (tree : Key) (rest : Terms)
    : Type 0 where
  pub size : IsKeySize (length (names_of tree))
  pub others : StandThere level places rest

pub stands_key : (level : ℕ) (places : List TermPlace) (tree : Key) (rest : Terms)
    → StandThere level (place.Key ∷ places) (key_before tree rest)
    → StandsKey level places tree rest
stands_key level places (key.Column name) rest stand =
    let taken = take_word level rest name.span name.bytes stand.said in record {
      size = record { least = omega arith; most = omega arith };
      others = record { said = taken.others; fit = stand.fit };
    }
stands_key level places (key.Columns names span) rest stand =
    let arguments = names_terms names in
    let taken = take_call level rest span (codes "key") arguments stand.said in
    let parts = first_of_two-none
    (unfit_in (places_of place.Key (codes "key") (count_of arguments)) span
    (λ inner. first_unfit inner arguments)) (first_unfit places rest) stand.fit in record {
      size = subst IsKeySize (names_count names)
          (has_form (count_of arguments) span arguments parts.0);
      others = record { said = taken.others; fit = parts.1 };
    }
