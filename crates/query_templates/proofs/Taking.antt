-- What may stand at a place, by the bytes of a word.
use Rattle.std.proofs.Common.{◌≡◌, ℕ, List, Option, Some, None, Bor, MatchOption, sym, ap, subst}
use Rattle.std.specs.Option.{option_copied}
use Rattle.language_base.specs.declared.span.Span.{Span}
use Rattle.query_forms.specs.Forms.{places_of}
use Rattle.query_forms.specs.declared.term_place.TermPlace.{TermPlace}
use Rattle.query_templates.specs.Kinds.{inner_places, places_inside, takes_word}
use Rattle.query_templates.specs.Names.{part_at}

pub word_taken : (text : List ℕ) (at : TermPlace) (word : Span) (part : Option (Bor (List ℕ)))
    → option_copied part ≡ part_at text word
    → takes_word at (option_copied part) ≡ takes_word at (part_at text word)
word_taken text at word part is = ap (takes_word at) is

inner_is : (text : List ℕ) (at : TermPlace) (head : Span) (count : ℕ)
    (part : Option (Bor (List ℕ))) → option_copied part ≡ part_at text head
    → inner_places at (option_copied part) count ≡ places_inside text at head count
unfolding places_inside
inner_is text at head count part is = ap (λ (p : Option (List ℕ)). inner_places at p count) is

pub inner_found : (text : List ℕ) (at : TermPlace) (head : Span) (count : ℕ) (word : Bor (List ℕ))
    → option_copied (Some word) ≡ part_at text head → (found : Option (Bor (List TermPlace)))
    → MatchOption found (places_of at word.now count ≡ None)
    (λ places. places_of at word.now count ≡ Some places.now)
    → MatchOption found (places_inside text at head count ≡ None)
    (λ places. places_inside text at head count ≡ Some places.now)
inner_found text at head count word is found has =
    subst (λ (p : Option (List TermPlace)). MatchOption found (p ≡ None)
    (λ places. p ≡ Some places.now)) (inner_is text at head count (Some word) is) has

pub inner_none : (text : List ℕ) (at : TermPlace) (head : Span) (count : ℕ)
    → option_copied {T = List ℕ} None ≡ part_at text head → places_inside text at head count ≡ None
inner_none text at head count is = sym (inner_is text at head count None is)
