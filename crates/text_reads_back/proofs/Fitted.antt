-- Terms that have the forms of their places and can be written, with numbers in range.
use Rattle.std.proofs.Common.{◌≡◌, ◌<◌, ◌≤◌, ℕ, ◌+◌, ℤ, true, List, [], ◌∷◌, length, Some}
use Rattle.std.proofs.Common.{None, All, refl, sym, ap, ◌∙◌, subst, arith}
use Rattle.language_base.specs.Limits.{max_level}
use Rattle.language_base.specs.declared.span.Span.{Span}
use Rattle.query_forms.specs.declared.term_place.TermPlace.{TermPlace}
use Rattle.query_forms.specs.File.{first_large, is_within}
use Rattle.query_forms.specs.Forms.{first_unfit, fits_number, fits_string, fits_word, places_of}
use Rattle.query_forms.specs.Forms.{unfit_in}
use Rattle.query_forms.specs.Terms.{Terms, none, word, number, string, call, count_of}
use Rattle.query_parser.specs.Printing.{AreWritable, HasTerm}
use Rattle.query_tokens.specs.Raw.{IsWord}
use Rattle.query_trees.specs.Trees.{first_of_two}
use Rattle.text_reads_back.proofs.KnownWords.{is_word, known}

-- the first of the terms can stand at the place, and the others are these
pub record Stands (level : ℕ) (place : TermPlace) (terms rest : Terms) : Type 0 where
  pub writable : AreWritable level rest → AreWritable level terms
  pub fit : (places : List TermPlace)
      → first_unfit (place ∷ places) terms ≡ first_unfit places rest
  pub within : first_large terms ≡ first_large rest
  pub more : count_of terms ≡ count_of rest + 1

-- all can, one at each place
pub record StandAll (level : ℕ) (places : List TermPlace) (terms : Terms) : Type 0 where
  pub writable : AreWritable level terms
  pub fit : first_unfit places terms ≡ None
  pub within : first_large terms ≡ None
  pub count : count_of terms ≡ length places

pub no_term : (level : ℕ) → StandAll level [] none
no_term level = record { writable = tt; fit = refl; within = refl; count = refl }

pub before : (level : ℕ) (place : TermPlace) (places : List TermPlace) (terms rest : Terms)
    → Stands level place terms rest → StandAll level places rest → StandAll level (place ∷ places) terms
before level place places terms rest one all = record {
  writable = one.writable all.writable;
  fit = one.fit places ∙ all.fit;
  within = one.within ∙ all.within;
  count = let more = one.more in let count = all.count in omega arith;
}

-- where there are some, there is one
pub some_term : (terms : Terms) → 1 ≤ count_of terms → HasTerm terms
some_term none some = absurd (omega (arith, some))
some_term (word bytes span rest) some = tt
some_term (number value span rest) some = tt
some_term (string bytes span rest) some = tt
some_term (call head arguments span rest) some = tt

-- a call with as many arguments as its form has
pub form_stands : (level : ℕ) (place : TermPlace) (places : List TermPlace) (head : List ℕ)
    (arguments rest : Terms) (span : Span) → 1 ≤ length places
    → places_of place head (length places) ≡ Some places → is_word head ≡ true → level ≤ max_level
    → StandAll (level + 1) places arguments → Stands level place (call head arguments span rest) rest
form_stands level place places head arguments rest span some form is few all =
    let found : places_of place head (count_of arguments) ≡ Some places =
    ap (places_of place head) all.count ∙ form in
    record {
      writable = λ after. (
        few,
        known head is,
        some_term arguments (subst (λ n. 1 ≤ n) (sym all.count) some),
        all.writable,
        after,
      );
      fit = λ others.
          ap (λ o. first_of_two (unfit_in o span (λ inner. first_unfit inner arguments))
          (first_unfit others rest)) found
          ∙ ap (λ o. first_of_two o (first_unfit others rest)) all.fit;
      within = ap (λ o. first_of_two o (first_large rest)) all.within;
      more = refl;
    }

-- of one argument, of two and of three
module _ (level : ℕ) (place : TermPlace) (head : List ℕ) (rest : Terms) (span : Span) where
  pub call_of_one : (one : TermPlace) (arguments : Terms)
      → places_of place head 1 ≡ Some (one ∷ []) → is_word head ≡ true → level ≤ max_level
      → Stands (level + 1) one arguments none → Stands level place (call head arguments span rest) rest
  call_of_one one arguments form is few stands =
      form_stands level place (one ∷ []) head arguments rest span (omega arith) form is few
      (before (level + 1) one [] arguments none stands (no_term (level + 1)))

  pub call_of_two : (one two : TermPlace) (arguments others : Terms)
      → places_of place head 2 ≡ Some (one ∷ two ∷ []) → is_word head ≡ true → level ≤ max_level
      → Stands (level + 1) one arguments others → Stands (level + 1) two others none
      → Stands level place (call head arguments span rest) rest
  call_of_two one two arguments others form is few stands also =
      form_stands level place (one ∷ two ∷ []) head arguments rest span (omega arith) form is few
      (before (level + 1) one (two ∷ []) arguments others stands
      (before (level + 1) two [] others none also (no_term (level + 1))))

  pub call_of_three : (one two three : TermPlace) (arguments others last : Terms)
      → places_of place head 3 ≡ Some (one ∷ two ∷ three ∷ []) → is_word head ≡ true → level ≤ max_level
      → Stands (level + 1) one arguments others → Stands (level + 1) two others last
      → Stands (level + 1) three last none
      → Stands level place (call head arguments span rest) rest
  call_of_three one two three arguments others last form is few stands also then =
      form_stands level place (one ∷ two ∷ three ∷ []) head arguments rest span (omega arith) form
      is few
      (before (level + 1) one (two ∷ three ∷ []) arguments others stands
      (before (level + 1) two (three ∷ []) others last also
      (before (level + 1) three [] last none then (no_term (level + 1)))))

pub word_stands : (level : ℕ) (place : TermPlace) (bytes : List ℕ) (rest : Terms) (span : Span)
    → level ≤ max_level → IsWord bytes → fits_word place bytes ≡ true
    → Stands level place (word bytes span rest) rest
word_stands level place bytes rest span few is fits = record {
  writable = λ after. (few, is, after);
  fit = λ places. rw fits refl;
  within = refl;
  more = refl;
}

pub number_stands : (level : ℕ) (place : TermPlace) (value : ℤ) (rest : Terms) (span : Span)
    → level ≤ max_level → is_within value ≡ true → fits_number place value ≡ true
    → Stands level place (number value span rest) rest
number_stands level place value rest span few is fits = record {
  writable = λ after. (few, after);
  fit = λ places. rw fits refl;
  within = rw is refl;
  more = refl;
}

pub string_stands : (level : ℕ) (place : TermPlace) (bytes : List ℕ) (rest : Terms) (span : Span)
    → level ≤ max_level → All (λ byte. byte < 256) bytes → fits_string place ≡ true
    → Stands level place (string bytes span rest) rest
string_stands level place bytes rest span few are fits = record {
  writable = λ after. (few, are, after);
  fit = λ places. rw fits refl;
  within = refl;
  more = refl;
}
