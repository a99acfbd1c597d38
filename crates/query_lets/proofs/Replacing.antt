-- Where no name is wrong, none is left.
use Rattle.std.proofs.Common.{◌≡◌, ℕ, Bool, true, false, cond, ◌||◌, is_some, List, [], ◌∷◌, ◌++◌}
use Rattle.std.proofs.Common.{bytes_eq, Option, Some, None, unwrap_or, refl, sym, ap, ◌∙◌}
use Rattle.language_base.specs.declared.span.Span.{Span}
use Rattle.query_syntax.specs.declared.leaf.Name.{Name}
use Rattle.query_syntax.specs.Programs.{Let, Program}
use Rattle.query_syntax.specs.Queries as q
use Rattle.query_syntax.specs.Queries.{Query}
use Rattle.query_lets.specs.Known.{first_of, first_unknown}
use Rattle.query_lets.specs.Places.{AreNamedApart}
use Rattle.query_lets.specs.Unfolded.{Binding, bindings_after, meaning, replaced, unfolded}
use Rattle.query_lets.specs.Words.{column_words, first_wrong, is_known, let_words, names_in}
use Rattle.query_lets.specs.Words.{wrong_name}
use Rattle.query_lets.proofs.Bound.{binding}
use Rattle.query_lets.proofs.FirstWrong.{first_unknown_is, let_first, wrong_name_is}

-- nothing found in two parts is nothing found in each
neither : (a b : Option Span) → first_of a b ≡ None → (a ≡ None) × (b ≡ None)
neither None b none = (refl, none)
neither (Some span) b none = absurd (cc)

-- a test that finds nothing
untrue : (test : Bool) (span : Span) (rest : Option Span) → cond test (Some span) rest ≡ None
    → (test ≡ false) × (rest ≡ None)
untrue true span rest none = absurd (cc)
untrue false span rest none = (refl, none)

-- a let after these names, and those after it, have nothing wrong
pub let_right : (known : List (List ℕ)) (one : Let) (lets : List Let) (main : Query)
    → first_wrong (let_words known (one ∷ lets) main) ≡ None
    → (is_known known one.name.bytes ≡ false) × (first_unknown known one.query ≡ None)
    × (first_wrong (let_words (one.name.bytes ∷ known) lets main) ≡ None)
let_right known one lets main right =
    let rest = first_wrong (let_words (one.name.bytes ∷ known) lets main) in
    let split = untrue (is_known known one.name.bytes) one.name.span
    (first_of (first_unknown known one.query) rest) (sym (let_first known one lets main) ∙ right) in
    let parts = neither (first_unknown known one.query) rest split.1 in
    (split.0, parts.0, parts.1)

-- where no name is wrong, lets are named apart
pub named_apart : (known : List (List ℕ)) (lets : List Let) (main : Query)
    → first_wrong (let_words known lets main) ≡ None → AreNamedApart known lets
named_apart known [] main right = tt
named_apart known (one ∷ lets) main right =
    let parts = let_right known one lets main right in
    (parts.0, named_apart (one.name.bytes ∷ known) lets main parts.2)

-- the lets of a program with right names have nothing wrong
pub lets_right : (program : Program) → wrong_name program ≡ None
    → first_wrong (let_words [] program.lets program.main.query) ≡ None
lets_right program right =
    (neither (first_wrong (column_words [] program.stream.columns))
    (first_wrong (let_words [] program.lets program.main.query))
    (sym (wrong_name_is program) ∙ right)).1

-- the names are those that stand for something, in which no name is left
record AreClear (known : List (List ℕ)) (bindings : List Binding) : Type 0 where
  known_is : (name : List ℕ) → is_known known name ≡ is_some (meaning bindings name)
  clear : (name : List ℕ) (query : Query) → meaning bindings name ≡ Some query → names_in query ≡ []

module _ (known : List (List ℕ)) (bindings : List Binding) (are : AreClear known bindings) where
  -- what a known name stands for
  meant : (name : Name) (found : Option Query) → found ≡ meaning bindings name.bytes
      → is_some found ≡ true → names_in (unwrap_or found (q.name name)) ≡ []
  meant name None is some = absurd (cc)
  meant name (Some query) is some = are.clear name.bytes query (sym is)

  seen : (test : Bool) (span : Span) → cond test None (Some span) ≡ None → test ≡ true
  seen true span none = refl
  seen false span none = absurd (cc)

  nothing : (a b : List Name) → a ≡ [] → b ≡ [] → a ++ b ≡ []
  nothing a b left right = ap (λ (l : List Name). l ++ b) left ∙ right

  both : (f g : Query) → ((first_unknown known f ≡ None) → names_in (replaced bindings f) ≡ [])
      → ((first_unknown known g ≡ None) → names_in (replaced bindings g) ≡ [])
      → first_of (first_unknown known f) (first_unknown known g) ≡ None
      → names_in (replaced bindings f) ++ names_in (replaced bindings g) ≡ []
  both f g left right none =
      let parts = neither (first_unknown known f) (first_unknown known g) none in
      nothing (names_in (replaced bindings f)) (names_in (replaced bindings g))
      (left parts.0) (right parts.1)

  -- a query that uses only known names has none left
  all_replaced : (query : Query) → first_unknown known query ≡ None
      → names_in (replaced bindings query) ≡ []
  all_replaced (q.name name) none =
      meant name (meaning bindings name.bytes) refl
      (sym (are.known_is name.bytes) ∙ seen (is_known known name.bytes) name.span none)
  all_replaced (q.atom predicate value span) none = refl
  all_replaced (q.eps number span) none = refl
  all_replaced (q.or f g span) none = both f g (all_replaced f) (all_replaced g) none
  all_replaced (q.split f g value span) none = both f g (all_replaced f) (all_replaced g) none
  all_replaced (q.iter f first step span) none = all_replaced f none
  all_replaced (q.combine f g value span) none = both f g (all_replaced f) (all_replaced g) none
  all_replaced (q.apply f value span) none = all_replaced f none
  all_replaced (q.compose f g span) none = both f g (all_replaced f) (all_replaced g) none
  all_replaced (q.collect key sync rate f span) none = all_replaced f none

  -- one let more
  known_more : (test : Bool) (query : Query) (name : List ℕ) → (test || is_known known name)
      ≡ is_some (cond test (Some query) (meaning bindings name))
  known_more true query name = refl
  known_more false query name = are.known_is name

  clear_more : (test : Bool) (now : Query) → names_in now ≡ [] → (name : List ℕ) (query : Query)
      → cond test (Some now) (meaning bindings name) ≡ Some query → names_in query ≡ []
  clear_more true now clear name query is = ap names_in (sym (ap (λ o. unwrap_or o now) is)) ∙ clear
  clear_more false now clear name query is = are.clear name query is

  clear_after : (one : Let) → first_unknown known one.query ≡ None
      → AreClear (one.name.bytes ∷ known) (binding bindings one.name.bytes one.query ∷ bindings)
  clear_after one none = record {
    known_is = λ name. known_more (bytes_eq name one.name.bytes) (replaced bindings one.query) name;
    clear = λ name. clear_more (bytes_eq name one.name.bytes) (replaced bindings one.query)
        (all_replaced one.query none) name;
  }

-- lets with right names leave no name
all_unfolded : (known : List (List ℕ)) (bindings : List Binding) → AreClear known bindings
    → (lets : List Let) (main : Query)
    → first_wrong (let_words known lets main) ≡ None
    → names_in (replaced (bindings_after bindings lets) main) ≡ []
all_unfolded known bindings are [] main right =
    all_replaced known bindings are main (first_unknown_is known main ∙ right)
all_unfolded known bindings are (one ∷ lets) main right =
    let parts = let_right known one lets main right in
    all_unfolded (one.name.bytes ∷ known) (binding bindings one.name.bytes one.query ∷ bindings)
    (clear_after known bindings are one parts.1) lets main parts.2

-- at first there are no names
at_first : AreClear [] []
at_first = record { known_is = λ name. refl; clear = λ name query is. absurd (cc) }

-- a program with right names has no name left
pub no_name_left : (program : Program) → wrong_name program ≡ None
    → names_in (unfolded program) ≡ []
no_name_left program right =
    all_unfolded [] [] at_first program.lets program.main.query (lets_right program right)
