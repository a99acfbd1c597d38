-- The terms of a file, taken apart.
use Rattle.std.proofs.Common.{◌≡◌, ℕ, suc, ◌+◌, ◌-◌, ◌≤◌, ◌==◌, ◌&&◌, nat_le, Bool, true, false}
use Rattle.std.proofs.Common.{List, [], ◌∷◌, length, replicate, get_or, take, drop, codes, All}
use Rattle.std.proofs.Common.{None, refl, sym, ap, ◌∙◌, subst, arith}
use Rattle.std.specs.Str.{bytes_eq}
use Rattle.std.proofs.lemmas.Bool.Decides.{nat_tests}
use Rattle.std.proofs.lemmas.List.{take_all}
use Rattle.std.proofs.lemmas.List.Elements.{All-nil, All-cons}
use Rattle.std.proofs.lemmas.Slice.Eq.{bytes_eq-Decides}
use Rattle.language_base.specs.Limits.{max_columns}
use Rattle.language_base.specs.declared.span.Span.{Span}
use Rattle.query_forms.specs.declared.term_place.TermPlace.{TermPlace}
use Rattle.query_forms.specs.declared.term_place.TermPlace.TheVariants.{Mode, Column, Query, Name}
use Rattle.query_forms.specs.Terms.{Terms, none, call, count_of}
use Rattle.query_forms.specs.File.{first_place, unfit_body, unfit_file}
use Rattle.query_forms.specs.Forms.{first_unfit}
use Rattle.query_forms.specs.Tops.{is_call, stream_places, unfit_call, unfit_stream}
use Rattle.query_forms.proofs.Body.{main_parts, let_parts, stream_parts}
use Rattle.query_forms.proofs.Parts.{alone, after}
use Rattle.query_parser.specs.declared.term.Term.{Term, Word, Number, Text, Call, Call'}
use Rattle.query_parser.specs.declared.term.Terms.{Terms as Arguments}
use Rattle.query_parser.specs.Plain.{term_before, terms_of}
use Rattle.query_parser.proofs.OptionCases.{Some-no_none, chosen-none, first_of_two-none}
use Rattle.query_parser.proofs.Rows.{call_before}
use Rattle.query_syntax.specs.Fits.{Fits, AllFit}
use Rattle.query_syntax.specs.Tops.{FitsTop, FitsStream, FitsLet, AreBody, AreTops}
use Rattle.query_syntax.proofs.Fitting.{both_tests, count_of_terms, each_fits, first_fits}

-- a term before others is some term
some_term : (term : Term) (rest : Terms) → term_before term rest ≡ none → ⊥
some_term (Word bytes span) rest is = absurd (cc)
some_term (Number value span) rest is = absurd (cc)
some_term (Text bytes span) rest is = absurd (cc)
some_term (Call' head shape arguments span) rest is = absurd (cc)

-- it is the first of them
alone_is : (term : Term) (rest : Terms) → alone (term_before term rest) ≡ term_before term none
alone_is (Word bytes span) rest = refl
alone_is (Number value span) rest = refl
alone_is (Text bytes span) rest = refl
alone_is (Call' head shape arguments span) rest = refl

-- and the others are after it
after_is : (term : Term) (rest : Terms) → after (term_before term rest) ≡ rest
after_is (Word bytes span) rest = refl
after_is (Number value span) rest = refl
after_is (Text bytes span) rest = refl
after_is (Call' head shape arguments span) rest = refl

-- where no term is first there is none
no_more : (list : List Term) → first_place (terms_of list) ≡ None → list ≡ []
no_more [] is = refl
no_more (Word bytes span ∷ rest) is = absurd (Some-no_none span is)
no_more (Number value span ∷ rest) is = absurd (Some-no_none span is)
no_more (Text bytes span ∷ rest) is = absurd (Some-no_none span is)
no_more (Call' head shape arguments span ∷ rest) is = absurd (Some-no_none span is)

-- lets and `main`, from the first of them
at_top : (end : ℕ) (term : Term) (rest : List Term) (main : Bool)
    → unfit_body end (terms_of (term ∷ rest)) ≡ None
    → is_call (codes "main") 1 (term_before term none) ≡ main
    → (unfit_body end (terms_of rest) ≡ None → AreBody rest) → AreBody (term ∷ rest)
at_top end term rest true fit is body =
    let terms = term_before term (terms_of rest) in
    let apart = main_parts end terms (some_term term (terms_of rest))
    (ap (is_call (codes "main") 1) (alone_is term (terms_of rest)) ∙ is) in
    let parts = first_of_two-none (unfit_call (codes "main") (Query ∷ []) (alone terms))
    (first_place (after terms)) (sym apart ∙ fit) in
    record {
      lets = [];
      main = term;
      split = ap (λ (l : List Term). term ∷ l)
          (no_more rest (ap first_place (sym (after_is term (terms_of rest))) ∙ parts.1));
      lets_fit = All-nil FitsLet;
      main_fits = record {
        fit = ap (unfit_call (codes "main") (Query ∷ [])) (sym (alone_is term (terms_of rest)))
            ∙ parts.0;
      };
    }
at_top end term rest false fit is body =
    let terms = term_before term (terms_of rest) in
    let apart = let_parts end terms (some_term term (terms_of rest))
    (ap (is_call (codes "main") 1) (alone_is term (terms_of rest)) ∙ is) in
    let parts = first_of_two-none (unfit_call (codes "let") (Name ∷ Query ∷ []) (alone terms))
    (unfit_body end (after terms)) (sym apart ∙ fit) in
    let others = body (ap (unfit_body end) (sym (after_is term (terms_of rest))) ∙ parts.1) in
    record {
      lets = term ∷ others.lets;
      main = others.main;
      split = ap (λ (l : List Term). term ∷ l) others.split;
      lets_fit = All-cons FitsLet term others.lets
          (record {
            fit = ap (unfit_call (codes "let") (Name ∷ Query ∷ []))
                (sym (alone_is term (terms_of rest))) ∙ parts.0;
          }) others.lets_fit;
      main_fits = others.main_fits;
    }

body_apart : (end : ℕ) (list : List Term) → unfit_body end (terms_of list) ≡ None → AreBody list
body_apart end [] fit = absurd (Some-no_none _ fit)
body_apart end (term ∷ rest) fit =
    at_top end term rest (is_call (codes "main") 1 (term_before term none)) fit refl
    (body_apart end rest)

-- a file is `stream`, lets and `main`
pub tops : (end : ℕ) (list : List Term) → unfit_file end (terms_of list) ≡ None → AreTops list
tops end [] fit = absurd (Some-no_none _ fit)
tops end (stream ∷ body) fit =
    let terms = term_before stream (terms_of body) in
    let apart = stream_parts end terms (some_term stream (terms_of body)) in
    let parts = first_of_two-none (unfit_stream (alone terms)) (unfit_body end (after terms))
    (sym apart ∙ fit) in
    record {
      stream = stream;
      body = body;
      split = refl;
      stream_fits =
          record { fit = ap unfit_stream (sym (alone_is stream (terms_of body))) ∙ parts.0 };
      are_body = body_apart end body
          (ap (unfit_body end) (sym (after_is stream (terms_of body))) ∙ parts.1);
    }

-- a call of a word, whose arguments fit
called : (word written : List ℕ) (places : List TermPlace) (list : List Term) (span : Span)
    → unfit_call written places (call word (terms_of list) span none) ≡ None
    → (word ≡ written) × AllFit places list
called word written places list span fit =
    let inner = terms_of list in
    let parts = chosen-none (bytes_eq word written && (count_of inner == length places))
    (first_unfit places inner) span fit in
    let tests = both_tests (bytes_eq word written) (count_of inner == length places) parts.0 in
    let many : count_of inner ≡ length places = let t = tests.1 in grind (arith, nat_tests) in (
      (bytes_eq-Decides word written).0 tests.0,
      record { as_many = sym (count_of_terms list) ∙ many; fit = parts.1 },
    )

-- a top term that is a call
pub top_call : (term : Term) (written : List ℕ) (places : List TermPlace) (word : List ℕ)
    (arguments : Arguments) (span : Span) → FitsTop written places term
    → term ≡ Call word arguments span → (word ≡ written) × AllFit places arguments.terms.items
top_call term written places word arguments span fits is =
    called word written places arguments.terms.items span
    (ap (unfit_call written places) (sym (call_before word arguments span none))
    ∙ subst (λ (t : Term). unfit_call written places (term_before t none) ≡ None) is fits.fit)

-- a stream that is a call
pub record IsStreamCall (word : List ℕ) (list : List Term) : Type 0 where
  pub is : word ≡ codes "stream"
  pub fit : AllFit (stream_places (length list)) list
  pub some : 2 ≤ length list
  pub few : length list ≤ max_columns + 1

pub stream_call : (term : Term) (word : List ℕ) (arguments : Arguments) (span : Span)
    → FitsStream term → term ≡ Call word arguments span → IsStreamCall word arguments.terms.items
stream_call term word arguments span fits is =
    let list = arguments.terms.items in
    let inner = terms_of list in
    let whole : unfit_stream (call word inner span none) ≡ None =
    ap unfit_stream (sym (call_before word arguments span none))
    ∙ subst (λ (t : Term). unfit_stream (term_before t none) ≡ None) is fits.fit in
    let parts = chosen-none (nat_le 2 (count_of inner) && nat_le (count_of inner) (max_columns + 1))
    (unfit_call (codes "stream") (stream_places (count_of inner)) (call word inner span none)) span
    whole in
    let tests = both_tests (nat_le 2 (count_of inner))
    (nat_le (count_of inner) (max_columns + 1)) parts.0 in
    let at = called word (codes "stream") (stream_places (count_of inner)) list span parts.1 in
    let many = count_of_terms list in
    record {
      is = at.0;
      fit = subst (λ n. AllFit (stream_places n) list) many at.1;
      some = let t = tests.0 in grind (arith, nat_tests);
      few = let t = tests.1 in grind (arith, nat_tests);
    }

-- the mode and the columns of a stream
pub record Splits (list : List Term) (mode : Term) (columns : List Term) : Type 0 where
  pub mode_fits : Fits Mode mode
  pub columns_fit_all : All (Fits Column) columns
  pub terms : terms_of list ≡ term_before mode (terms_of columns)

pub stream_split : (list : List Term) (mode : Term) → 2 ≤ length list
    → AllFit (stream_places (length list)) list → mode ≡ get_or list 0 mode
    → Splits list mode (take (length list - 1) (drop 1 list))
stream_split [] mode some fit is = absurd (omega arith)
stream_split (first ∷ list) mode some fit is =
    let rest : take (suc (length list) - 1) list ≡ list = take_all _ list (omega arith) in
    let many : suc (length list) - 1 ≡ length list = omega arith in
    let at = first_fits Mode (replicate (suc (length list) - 1) Column) first
    (terms_of list) fit.fit in
    rw (rest, is) (record {
      mode_fits = record { fit = at.0 };
      columns_fit_all = each_fits Column list (length list) refl
          (subst (λ n. first_unfit (replicate n Column) (terms_of list) ≡ None) many at.1);
      terms = refl;
    })
