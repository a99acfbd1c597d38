-- Terms that fit, one by one.
use Rattle.std.proofs.Common.{◌≡◌, inl, inr, ℕ, ◌==◌, ◌&&◌, Bool, true, false, zero, suc, ◌+◌, ◌<◌}
use Rattle.std.proofs.Common.{List, [], ◌∷◌, length, replicate, get_or, All, Option, Some, None}
use Rattle.std.proofs.Common.{Result, Ok, Err, IfOk, refl, sym, ap, ◌∙◌, subst, arith}
use Rattle.std.specs.Str.{bytes_eq}
use Rattle.std.proofs.lemmas.Bool.Decides.{nat_tests}
use Rattle.std.proofs.lemmas.List.{length-replicate}
use Rattle.std.proofs.lemmas.List.Elements.{All-nil, All-cons}
use Rattle.language_base.specs.declared.span.Span.{Span}
use Rattle.few_parts.specs.Sizes.{IsRecordSize}
use Rattle.query_forms.specs.declared.term_place.TermPlace.{TermPlace}
use Rattle.query_forms.specs.Terms.{Terms, none, call, count_of}
use Rattle.query_forms.specs.Forms.{Form, first_unfit, forms_at, places_in, places_of, unfit_in}
use Rattle.query_forms.specs.Forms.{fits_word, fits_number, fits_string}
use Rattle.query_tokens.proofs.Parts.{branch_taken}
use Rattle.query_parser.specs.declared.term.Term.{Term, Word, Number, Text, Call, Call'}
use Rattle.query_parser.specs.declared.term.Terms.{Terms as Arguments}
use Rattle.query_parser.specs.Plain.{term_before, terms_of, row_terms}
use Rattle.query_parser.proofs.OptionCases.{Some-no_none, chosen-none, chosen-both}
use Rattle.query_parser.proofs.OptionCases.{first_of_two-none, first_of_two-both}
use Rattle.query_parser.proofs.Rows.{call_before}
use Rattle.query_syntax.specs.Calls.{IsCall}
use Rattle.query_syntax.specs.Fits.{Fits, AllFit, HasForm}

-- each of two tests that both hold
pub both_tests : (a b : Bool) → (a && b) ≡ true → (a ≡ true) × (b ≡ true)
both_tests true b both = (refl, both)
both_tests false b both = absurd (cc)

-- one term more
count_before : (term : Term) (rest : Terms) → count_of (term_before term rest) ≡ count_of rest + 1
count_before (Word bytes span) rest = refl
count_before (Number value span) rest = refl
count_before (Text bytes span) rest = refl
count_before (Call' head shape arguments span) rest = refl

-- there are as many terms as the list has
pub count_of_terms : (list : List Term) → count_of (terms_of list) ≡ length list
count_of_terms [] = refl
count_of_terms (term ∷ rest) = omega (arith, count_before term (terms_of rest), count_of_terms rest)

-- of a first term and others, where none is unfit, each is fit by itself
pub first_fits : (place : TermPlace) (places : List TermPlace) (term : Term) (rest : Terms)
    → first_unfit (place ∷ places) (term_before term rest) ≡ None
    → (first_unfit (place ∷ []) (term_before term none) ≡ None) × (first_unfit places rest ≡ None)
first_fits place places (Word bytes span) rest fit =
    let parts = chosen-none (fits_word place bytes) (first_unfit places rest) span fit in
    (chosen-both (fits_word place bytes) None span parts.0 refl, parts.1)
first_fits place places (Number value span) rest fit =
    let parts = chosen-none (fits_number place value) (first_unfit places rest) span fit in
    (chosen-both (fits_number place value) None span parts.0 refl, parts.1)
first_fits place places (Text bytes span) rest fit =
    let parts = chosen-none (fits_string place) (first_unfit places rest) span fit in
    (chosen-both (fits_string place) None span parts.0 refl, parts.1)
first_fits place places (Call' head shape arguments span) rest fit =
    let inside = unfit_in (places_of place head (count_of (row_terms arguments))) span
    (λ inner. first_unfit inner (row_terms arguments)) in
    let parts = first_of_two-none inside (first_unfit places rest) fit in
    (first_of_two-both inside None parts.0 refl, parts.1)

-- the place of an argument
abbrev pub place_at : List TermPlace → ℕ → Option TermPlace
place_at [] index = None
place_at (place ∷ places) zero = Some place
place_at (place ∷ places) (suc index) = place_at places index

-- each of the terms has a form of its place
pub item_fits : (places : List TermPlace) (list : List Term) (one : Term) (index : ℕ)
    (place : TermPlace) → AllFit places list → index < length list → one ≡ get_or list index one
    → place_at places index ≡ Some place → Fits place one
item_fits places [] one index place all within is at = absurd (omega arith)
item_fits [] (first ∷ list) one index place all within is at = absurd (cc)
item_fits (p ∷ places) (first ∷ list) one zero place all within is at =
    let same : p ≡ place = cc in
    rw (← same, is) (record { fit = (first_fits p places first (terms_of list) all.fit).0 })
item_fits (p ∷ places) (first ∷ list) one (suc index) place all within is at =
    item_fits places list one index place
    (record {
      as_many = omega (arith, all.as_many);
      fit = (first_fits p places first (terms_of list) all.fit).1;
    })
    (omega arith) is at

-- terms at one place each, none of which is unfit
pub each_fits : (place : TermPlace) (list : List Term) (n : ℕ) → length list ≡ n
    → first_unfit (replicate n place) (terms_of list) ≡ None → All (Fits place) list
each_fits place [] n many fit = All-nil (Fits place)
each_fits place (first ∷ list) n many fit =
    let same : n ≡ suc (length list) = sym many in
    let at = first_fits place (replicate (length list) place) first (terms_of list)
    (subst (λ m. first_unfit (replicate m place) (term_before first (terms_of list)) ≡ None) same
    fit) in
    All-cons (Fits place) first list (record { fit = at.0 })
    (each_fits place list (length list) refl at.1)

-- so do those of a call whose arguments all stand at that place
pub all_fit : (place : TermPlace) (count : ℕ) (list : List Term)
    → AllFit (replicate count place) list → All (Fits place) list
all_fit place count list all =
    each_fits place list count (all.as_many ∙ length-replicate count place) all.fit

-- and are as many, so of this many places as a record has parts
pub as_many_fit : (place : TermPlace) (count : ℕ) (list : List Term)
    → AllFit (replicate count place) list → IsRecordSize count → IsRecordSize (length list)
as_many_fit place count list all size =
    subst IsRecordSize (sym (all.as_many ∙ length-replicate count place)) size

-- where a call is not unfit, it has a form
pub form_at : (place : TermPlace) (head : List ℕ) (span : Span) (inner : Terms)
    (places : Option (List TermPlace)) → unfit_in places span (λ ps. first_unfit ps inner) ≡ None
    → (ps : List TermPlace) × (places ≡ Some ps) × (first_unfit ps inner ≡ None)
form_at place head span inner None fit = absurd (Some-no_none span fit)
form_at place head span inner (Some ps) fit = (ps, refl, fit)

-- a form that is found for a call has as many places as the call has arguments
pub places_count : (forms : List Form) (word : List ℕ) (count : ℕ) (places : List TermPlace)
    → places_in forms word count ≡ Some places → count ≡ length places
places_count [] word count places is = absurd (cc)
places_count (first ∷ rest) word count places is =
    elim (branch_taken (bytes_eq first.head word && (length first.arguments == count))
    (Some first.arguments) (places_in rest word count) places is) [
      | inl here ↦
          let long = both_tests (bytes_eq first.head word)
          (length first.arguments == count) here.0 in
          let same : first.arguments ≡ places = let e = here.1 in cc in
          let many : length first.arguments ≡ count = let t = long.1 in grind (arith, nat_tests) in
          sym many ∙ ap length same
      | inr there ↦ places_count rest word count places there.1
    ]

-- a call that fits its place has a form of it
pub call_form : (place : TermPlace) (term : Term) (word : List ℕ) (arguments : Arguments)
    (span : Span) → Fits place term → term ≡ Call word arguments span
    → HasForm place word arguments.terms.items
call_form place term word arguments span fits is =
    let list = arguments.terms.items in
    let whole : first_unfit (place ∷ []) (call word (terms_of list) span none) ≡ None =
    ap (first_unfit (place ∷ [])) (sym (call_before word arguments span none))
    ∙ subst (λ (t : Term). first_unfit (place ∷ []) (term_before t none) ≡ None) is fits.fit in
    let inside = unfit_in (places_of place word (count_of (terms_of list))) span
    (λ inner. first_unfit inner (terms_of list)) in
    let found = form_at place word span (terms_of list)
    (places_of place word (count_of (terms_of list))) (first_of_two-none inside None whole).0 in
    let many = count_of_terms list in
    let form : places_of place word (length list) ≡ Some found.0 =
    ap (places_of place word) (sym many) ∙ found.1 in
    record {
      places = found.0;
      form = form;
      fit = record {
        as_many = places_count (forms_at place) word (length list) found.0 form;
        fit = found.2;
      };
    }

-- a list of two terms, one by one
pub two_terms : (list : List Term) (a b : Term) → length list ≡ 2 → a ≡ get_or list 0 a
    → b ≡ get_or list 1 b → terms_of list ≡ term_before a (term_before b none)
two_terms [] a b long is-a is-b = absurd (omega arith)
two_terms (x ∷ []) a b long is-a is-b = absurd (omega arith)
two_terms (x ∷ y ∷ []) a b long is-a is-b = rw (is-a, is-b) refl
two_terms (x ∷ y ∷ z ∷ list) a b long is-a is-b = absurd (omega arith)

-- a list of three terms, one by one
pub three_terms : (list : List Term) (a b d : Term) → length list ≡ 3 → a ≡ get_or list 0 a
    → b ≡ get_or list 1 b → d ≡ get_or list 2 d
    → terms_of list ≡ term_before a (term_before b (term_before d none))
three_terms [] a b d long is-a is-b is-d = absurd (omega arith)
three_terms (x ∷ []) a b d long is-a is-b is-d = absurd (omega arith)
three_terms (x ∷ y ∷ []) a b d long is-a is-b is-d = absurd (omega arith)
three_terms (x ∷ y ∷ z ∷ []) a b d long is-a is-b is-d = rw (is-a, is-b, is-d) refl
three_terms (x ∷ y ∷ z ∷ w ∷ list) a b d long is-a is-b is-d = absurd (omega arith)

-- a list of four terms, one by one
pub four_terms : (list : List Term) (a b d e : Term) → length list ≡ 4 → a ≡ get_or list 0 a
    → b ≡ get_or list 1 b → d ≡ get_or list 2 d → e ≡ get_or list 3 e
    → terms_of list ≡ term_before a (term_before b (term_before d (term_before e none)))
four_terms [] a b d e long is-a is-b is-d is-e = absurd (omega arith)
four_terms (x ∷ []) a b d e long is-a is-b is-d is-e = absurd (omega arith)
four_terms (x ∷ y ∷ []) a b d e long is-a is-b is-d is-e = absurd (omega arith)
four_terms (x ∷ y ∷ z ∷ []) a b d e long is-a is-b is-d is-e = absurd (omega arith)
four_terms (x ∷ y ∷ z ∷ w ∷ []) a b d e long is-a is-b is-d is-e = rw (is-a, is-b, is-d, is-e) refl
four_terms (x ∷ y ∷ z ∷ w ∷ v ∷ list) a b d e long is-a is-b is-d is-e = absurd (omega arith)

-- a call before others
pub call_terms : (term : Term) (word : List ℕ) (arguments : Arguments) (span : Span) (rest : Terms)
    → term ≡ Call word arguments span
    → term_before term rest ≡ call word (terms_of arguments.terms.items) span rest
call_terms term word arguments span rest is =
    ap (λ (t : Term). term_before t rest) is ∙ call_before word arguments span rest

-- a call before others, where its word and its arguments are known
pub call_written : (term : Term) (word : List ℕ) (arguments : Arguments) (span : Span)
    (written : List ℕ) (inner : Terms) → term ≡ Call word arguments span
    → word ≡ written → terms_of arguments.terms.items ≡ inner → (rest : Terms)
    → term_before term rest ≡ call written inner span rest
call_written term word arguments span written inner is is-word is-inner rest =
    call_terms term word arguments span rest is ∙ (λ i. call (is-word i) (is-inner i) span rest)

-- a call of a known word with known arguments
pub is_call : (word : List ℕ) (arguments : List Term) (span : Span) (inner : Terms)
    → terms_of arguments ≡ inner → IsCall word arguments span (call word inner span)
is_call word arguments span inner is = λ rest. ap (λ (ts : Terms). call word ts span rest) is

-- what is read of a call is read of the term that it is
pub term_read : {E X : Type 0} (read : Result E X) (before : E → Terms → Terms) (term : Term)
    (word : List ℕ) (arguments : Arguments) (span : Span) → term ≡ Call word arguments span
    → IfOk read
    (λ e. (rest : Terms) → call word (terms_of arguments.terms.items) span rest ≡ before e rest)
    → IfOk read (λ e. (rest : Terms) → term_before term rest ≡ before e rest)
term_read (Ok e) before term word arguments span is written =
    λ rest. call_terms term word arguments span rest is ∙ written rest
term_read (Err why) before term word arguments span is written = tt
