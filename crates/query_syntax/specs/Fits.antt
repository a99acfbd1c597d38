-- For the prover. Terms that have a form of their places.
use Rattle.std.specs.Prelude.{◌≡◌, ℕ, List, [], ◌∷◌, length, Some, None}
use Rattle.query_forms.specs.declared.term_place.TermPlace.{TermPlace}
use Rattle.query_forms.specs.Terms.{none}
use Rattle.query_forms.specs.Forms.{first_unfit, places_of}
use Rattle.query_parser.specs.declared.term.Term.{Term}
use Rattle.query_parser.specs.Plain.{term_before, terms_of}

-- the term has a form of this place
pub record Fits (place : TermPlace) (term : Term) : Type 0 where
  pub fit : first_unfit (place ∷ []) (term_before term none) ≡ None

-- the terms stand at these places, one at each, and each has a form of its place
pub record AllFit (places : List TermPlace) (terms : List Term) : Type 0 where
  pub as_many : length terms ≡ length places
  pub fit : first_unfit places (terms_of terms) ≡ None

-- the call of this word with these arguments has a form of this place
pub record HasForm (place : TermPlace) (word : List ℕ) (arguments : List Term) : Type 0 where
  pub places : List TermPlace
  pub form : places_of place word (length arguments) ≡ Some places
  pub fit : AllFit places arguments
