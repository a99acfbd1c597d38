-- Terms of a file, taken from their list one by one.
use Rattle.std.proofs.Common.{◌≡◌, ◌<◌, ◌≤◌, ℕ, ◌+◌, ℤ, true, List, ◌∷◌, None, Some, All, ap}
use Rattle.std.proofs.Common.{◌∙◌, subst}
use Rattle.language_base.specs.Limits.{max_level}
use Rattle.language_base.specs.declared.span.Span.{Span}
use Rattle.query_forms.specs.declared.term_place.TermPlace.{TermPlace}
use Rattle.query_forms.specs.File.{first_large, is_within}
use Rattle.query_forms.specs.Forms.{first_unfit, fits_number, fits_string, fits_word, places_of}
use Rattle.query_forms.specs.Forms.{unfit_in}
use Rattle.query_forms.specs.Terms.{Terms, word, number, string, call, count_of}
use Rattle.query_parser.specs.Printing.{AreWritable}
use Rattle.query_parser.proofs.OptionCases.{chosen-none, first_of_two-none}
use Rattle.query_tokens.specs.Raw.{IsWord}

-- terms that can be written from this level on, with numbers in range
pub record AreSaid (level : ℕ) (terms : Terms) : Type 0 where
  pub writable : AreWritable level terms
  pub within : first_large terms ≡ None

module _ (level : ℕ) (rest : Terms) (span : Span) where
  -- a word, a number and a string, with those after it
  pub record TakesWord (bytes : List ℕ) : Type 0 where
    pub few : level ≤ max_level
    pub word : IsWord bytes
    pub others : AreSaid level rest

  pub take_word : (bytes : List ℕ) → AreSaid level (word bytes span rest) → TakesWord bytes
  take_word bytes said = record {
    few = said.writable.0;
    word = said.writable.1;
    others = record { writable = said.writable.2; within = said.within };
  }

  pub record TakesNumber (value : ℤ) : Type 0 where
    pub few : level ≤ max_level
    pub within : is_within value ≡ true
    pub others : AreSaid level rest

  pub take_number : (value : ℤ) → AreSaid level (number value span rest) → TakesNumber value
  take_number value said =
      let parts = chosen-none (is_within value) (first_large rest) span said.within in record {
        few = said.writable.0;
        within = parts.0;
        others = record { writable = said.writable.1; within = parts.1 };
      }

  pub record TakesString (bytes : List ℕ) : Type 0 where
    pub few : level ≤ max_level
    pub are_bytes : All (λ byte. byte < 256) bytes
    pub others : AreSaid level rest

  pub take_string : (bytes : List ℕ) → AreSaid level (string bytes span rest) → TakesString bytes
  take_string bytes said = record {
    few = said.writable.0;
    are_bytes = said.writable.1;
    others = record { writable = said.writable.2; within = said.within };
  }

  -- a call
  pub record TakesCall (arguments : Terms) : Type 0 where
    pub few : level ≤ max_level
    pub inner : AreSaid (level + 1) arguments
    pub others : AreSaid level rest

  pub take_call : (head : List ℕ) (arguments : Terms)
      → AreSaid level (call head arguments span rest) → TakesCall arguments
  take_call head arguments said =
      let parts = first_of_two-none (first_large arguments) (first_large rest) said.within in
      record {
        few = said.writable.0;
        inner = record { writable = said.writable.3; within = parts.0 };
        others = record { writable = said.writable.4; within = parts.1 };
      }

-- terms that stand at these places too
pub record StandThere (level : ℕ) (places : List TermPlace) (terms : Terms) : Type 0 where
  pub said : AreSaid level terms
  pub fit : first_unfit places terms ≡ None

module _ (places : List TermPlace) (rest : Terms) (span : Span) where
  pub word_fits : (place : TermPlace) (bytes : List ℕ)
      → first_unfit (place ∷ places) (word bytes span rest) ≡ None → first_unfit places rest ≡ None
  word_fits place bytes fit =
      (chosen-none (fits_word place bytes) (first_unfit places rest) span fit).1

  pub number_fits : (place : TermPlace) (value : ℤ)
      → first_unfit (place ∷ places) (number value span rest) ≡ None
      → first_unfit places rest ≡ None
  number_fits place value fit =
      (chosen-none (fits_number place value) (first_unfit places rest) span fit).1

  pub string_fits : (place : TermPlace) (bytes : List ℕ)
      → first_unfit (place ∷ places) (string bytes span rest) ≡ None
      → first_unfit places rest ≡ None
  string_fits place bytes fit =
      (chosen-none (fits_string place) (first_unfit places rest) span fit).1

  module _ (place : TermPlace) (head : List ℕ) (arguments : Terms)
      (fit : first_unfit (place ∷ places) (call head arguments span rest) ≡ None) where
    parts : (unfit_in (places_of place head (count_of arguments)) span
        (λ inner. first_unfit inner arguments) ≡ None) × (first_unfit places rest ≡ None)
    parts = first_of_two-none (unfit_in (places_of place head (count_of arguments)) span
        (λ inner. first_unfit inner arguments)) (first_unfit places rest) fit

    pub call_fits : first_unfit places rest ≡ None
    call_fits = parts.1

    -- its arguments stand at the places of its form
    pub form_fits : (count : ℕ) (inner : List TermPlace) → count_of arguments ≡ count
        → places_of place head count ≡ Some inner → first_unfit inner arguments ≡ None
    form_fits count inner many is =
        subst (λ found. unfit_in found span (λ those. first_unfit those arguments) ≡ None)
        (ap (places_of place head) many ∙ is) parts.0

-- a call of so many arguments, with those after it
pub record TakesForm (level : ℕ) (form places : List TermPlace) (arguments rest : Terms)
    : Type 0 where
  pub inner : StandThere (level + 1) form arguments
  pub others : StandThere level places rest

pub take_form : (level : ℕ) (place : TermPlace) (places inner : List TermPlace) (head : List ℕ)
    (arguments rest : Terms) (span : Span) (count : ℕ)
    → StandThere level (place ∷ places) (call head arguments span rest)
    → count_of arguments ≡ count → places_of place head count ≡ Some inner
    → TakesForm level inner places arguments rest
take_form level place places inner head arguments rest span count stand many is =
    let taken = take_call level rest span head arguments stand.said in record {
      inner = record {
        said = taken.inner;
        fit = form_fits places rest span place head arguments stand.fit count inner many is;
      };
      others = record {
        said = taken.others;
        fit = call_fits places rest span place head arguments stand.fit;
      };
    }
