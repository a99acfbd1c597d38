-- The first wrong word of a program, part by part.
use Rattle.std.proofs.Common.{◌≡◌, ℕ, ◌+◌, ◌<◌, ◌≤◌, Bool, true, false, not, cond, List, [], ◌∷◌}
use Rattle.std.proofs.Common.{◌++◌, length, map, get_or, drop, drop-cons, add-one, Option, Some}
use Rattle.std.proofs.Common.{None, Result, Ok, Err, IfOk, refl, sym, ap, ◌∙◌}
use Rattle.std.proofs.lemmas.List.{drop_all}
use Rattle.language_base.specs.declared.span.Span.{Span}
use Rattle.query_syntax.specs.declared.leaf.Name.{Name}
use Rattle.query_syntax.specs.declared.program.Let as raw
use Rattle.query_syntax.specs.declared.query.Query as tree
use Rattle.query_syntax.specs.declared.stream.Column.{Column}
use Rattle.query_syntax.specs.Plain.{plain_let, plain_query}
use Rattle.query_syntax.specs.Programs.{Let, Program}
use Rattle.query_syntax.specs.Queries as q
use Rattle.query_syntax.specs.Queries.{Query}
use Rattle.query_lets.specs.Known.{first_of, first_unknown}
use Rattle.query_lets.specs.Words.{Word, uses, column_words, first_wrong, is_known, is_wrong}
use Rattle.query_lets.specs.Words.{let_words, names_in, query_words, word_span, wrong_name}

-- what is left of a list begins with the next
left_is : {X : Type 0} (xs : List X) (at : ℕ) (x : X) → x ≡ get_or xs at x → at < length xs
    → drop at xs ≡ x ∷ drop (at + 1) xs
left_is xs at x is_at within = drop-cons xs at x within ∙ (rw (← is_at, add-one) refl)

-- a word before others
chosen : (wrong : Bool) (span : Span) (front all other : Option Span) → all ≡ first_of front other
    → cond wrong (Some span) all ≡ first_of (cond wrong (Some span) front) other
chosen true span front all other is = refl
chosen false span front all other is = is

-- words before others
first_wrong_append : (words others : List Word) → first_wrong (words ++ others)
    ≡ first_of (first_wrong words) (first_wrong others)
first_wrong_append [] others = refl
first_wrong_append (word ∷ words) others =
    chosen (is_wrong word) (word_span word) (first_wrong words) (first_wrong (words ++ others))
    (first_wrong others) (first_wrong_append words others)

-- names before others
uses_append : (known : List (List ℕ)) (names others : List Name)
    → first_wrong (map (uses known) (names ++ others))
    ≡ first_of (first_wrong (map (uses known) names)) (first_wrong (map (uses known) others))
uses_append known [] others = refl
uses_append known (name ∷ names) others =
    chosen (not (is_known known name.bytes)) name.span (first_wrong (map (uses known) names))
    (first_wrong (map (uses known) (names ++ others))) (first_wrong (map (uses known) others))
    (uses_append known names others)

-- a name is wrong where it is not known
swapped : (known : Bool) (span : Span)
    → cond known None (Some span) ≡ cond (not known) (Some span) None
swapped true span = refl
swapped false span = refl

module _ (known : List (List ℕ)) where
  -- the names of two operands
  both : (f g : Query) → first_unknown known f ≡ first_wrong (query_words known f)
      → first_unknown known g ≡ first_wrong (query_words known g)
      → first_of (first_unknown known f) (first_unknown known g)
      ≡ first_wrong (map (uses known) (names_in f ++ names_in g))
  both f g left right =
      ap (λ (o : Option Span). first_of o (first_unknown known g)) left
      ∙ ap (first_of (first_wrong (query_words known f))) right
      ∙ sym (uses_append known (names_in f) (names_in g))

  -- the first unknown name is the first wrong word of a query
  pub first_unknown_is : (query : Query)
      → first_unknown known query ≡ first_wrong (query_words known query)
  first_unknown_is (q.name name) = swapped (is_known known name.bytes) name.span
  first_unknown_is (q.atom predicate value span) = refl
  first_unknown_is (q.eps number span) = refl
  first_unknown_is (q.or f g span) = both f g (first_unknown_is f) (first_unknown_is g)
  first_unknown_is (q.split f g value span) = both f g (first_unknown_is f) (first_unknown_is g)
  first_unknown_is (q.iter f first step span) = first_unknown_is f
  first_unknown_is (q.combine f g value span) = both f g (first_unknown_is f) (first_unknown_is g)
  first_unknown_is (q.apply f value span) = first_unknown_is f
  first_unknown_is (q.compose f g span) = both f g (first_unknown_is f) (first_unknown_is g)
  first_unknown_is (q.collect key sync rate f span) = first_unknown_is f

  -- a let, and those after it
  pub let_first : (one : Let) (lets : List Let) (main : Query)
      → first_wrong (let_words known (one ∷ lets) main)
      ≡ cond (is_known known one.name.bytes) (Some one.name.span)
      (first_of (first_unknown known one.query)
      (first_wrong (let_words (one.name.bytes ∷ known) lets main)))
  let_first one lets main =
      let rest = first_wrong (let_words (one.name.bytes ∷ known) lets main) in
      ap (cond (is_known known one.name.bytes) (Some one.name.span))
      (first_wrong_append (query_words known one.query)
      (let_words (one.name.bytes ∷ known) lets main)
      ∙ ap (λ (o : Option Span). first_of o rest) (sym (first_unknown_is one.query)))

-- the columns, and then the lets
pub wrong_name_is : (program : Program) → wrong_name program
    ≡ first_of (first_wrong (column_words [] program.stream.columns))
    (first_wrong (let_words [] program.lets program.main.query))
wrong_name_is program =
    first_wrong_append (column_words [] program.stream.columns)
    (let_words [] program.lets program.main.query)

module _ (columns : List Column) (at : ℕ) (column : Column)
    (is_at : column ≡ get_or columns at column) (within : at < length columns)
    (names : List (List ℕ))
    (so_far : first_wrong (column_words [] columns)
    ≡ first_wrong (column_words names (drop at columns))) where
  column_is : first_wrong (column_words [] columns)
      ≡ cond (is_known names column.name.bytes) (Some column.name.span)
      (first_wrong (column_words (column.name.bytes ∷ names) (drop (at + 1) columns)))
  column_is = so_far ∙ ap (λ (l : List Column). first_wrong (column_words names l))
      (left_is columns at column is_at within)

  -- a column of a known name
  pub column_again : is_known names column.name.bytes ≡ true
      → Some column.name.span ≡ first_wrong (column_words [] columns)
  column_again again = sym (column_is ∙ ap (λ (b : Bool). cond b (Some column.name.span)
      (first_wrong (column_words (column.name.bytes ∷ names) (drop (at + 1) columns)))) again)

  -- a column of a new name
  pub column_more : is_known names column.name.bytes ≡ false
      → first_wrong (column_words [] columns)
      ≡ first_wrong (column_words (column.name.bytes ∷ names) (drop (at + 1) columns))
  column_more new = column_is ∙ ap (λ (b : Bool). cond b (Some column.name.span)
      (first_wrong (column_words (column.name.bytes ∷ names) (drop (at + 1) columns)))) new

module _ (lets : List raw.Let) (at : ℕ) (one : raw.Let) (is_at : one ≡ get_or lets at one)
    (within : at < length lets)
    (main : Query) (names : List (List ℕ))
    (so_far : first_wrong (let_words [] (map plain_let lets) main)
    ≡ first_wrong (let_words names (map plain_let (drop at lets)) main)) where
  let_is : first_wrong (let_words [] (map plain_let lets) main)
      ≡ cond (is_known names one.name.bytes) (Some one.name.span)
      (first_of (first_unknown names (plain_query one.query.value))
      (first_wrong (let_words (one.name.bytes ∷ names) (map plain_let (drop (at + 1) lets)) main)))
  let_is = so_far
      ∙ ap (λ (l : List raw.Let). first_wrong (let_words names (map plain_let l) main))
      (left_is lets at one is_at within)
      ∙ let_first names (plain_let one) (map plain_let (drop (at + 1) lets)) main

  -- what the let gives, by whether its name is known and by what is unknown in its query
  abbrev given : Bool → Option Span → Option Span
  given known unknown = cond known (Some one.name.span) (first_of unknown
      (first_wrong (let_words (one.name.bytes ∷ names) (map plain_let (drop (at + 1) lets)) main)))

  -- a let of a known name
  pub let_again : is_known names one.name.bytes ≡ true
      → Some one.name.span ≡ first_wrong (let_words [] (map plain_let lets) main)
  let_again again = sym (let_is
      ∙ ap (λ (b : Bool). given b (first_unknown names (plain_query one.query.value))) again)

  -- a let of a new name that uses an unknown one
  pub let_unknown : is_known names one.name.bytes ≡ false → (span : Span)
      → Some span ≡ first_unknown names (plain_query one.query.value)
      → Some span ≡ first_wrong (let_words [] (map plain_let lets) main)
  let_unknown new span found = sym (let_is
      ∙ ap (λ (b : Bool). given b (first_unknown names (plain_query one.query.value))) new
      ∙ ap (given false) (sym found))

  -- a let that has nothing wrong
  pub let_more : is_known names one.name.bytes ≡ false
      → None ≡ first_unknown names (plain_query one.query.value)
      → first_wrong (let_words [] (map plain_let lets) main)
      ≡ first_wrong (let_words (one.name.bytes ∷ names) (map plain_let (drop (at + 1) lets)) main)
  let_more new none = let_is
      ∙ ap (λ (b : Bool). given b (first_unknown names (plain_query one.query.value))) new
      ∙ ap (given false) (sym none)

-- after the last let stands the main query
pub main_last : (lets : List raw.Let) (at : ℕ) (main : Query) (names : List (List ℕ))
    → length lets ≤ at → first_wrong (let_words [] (map plain_let lets) main)
    ≡ first_wrong (let_words names (map plain_let (drop at lets)) main)
    → first_unknown names main ≡ first_wrong (let_words [] (map plain_let lets) main)
main_last lets at main names over so_far =
    first_unknown_is names main
    ∙ sym (so_far
    ∙ ap (λ l. first_wrong (let_words names (map plain_let l) main)) (drop_all at lets over))

-- a program whose columns have a wrong name
pub columns_wrong : (program : Program) (span : Span)
    → Some span ≡ first_wrong (column_words [] program.stream.columns)
    → Some span ≡ wrong_name program
columns_wrong program span found =
    let rest = first_wrong (let_words [] program.lets program.main.query) in
    ap (λ (o : Option Span). first_of o rest) found ∙ sym (wrong_name_is program)

-- a program whose columns have none
pub lets_wrong : {E : Type 0} (program : Program)
    → first_wrong (column_words [] program.stream.columns) ≡ None → (found : Result (Option Span) E)
    → IfOk found (λ wrong. wrong ≡ first_wrong (let_words [] program.lets program.main.query))
    → IfOk found (λ wrong. wrong ≡ wrong_name program)
lets_wrong program none (Ok wrong) is =
    let rest = first_wrong (let_words [] program.lets program.main.query) in
    is ∙ ap (λ (o : Option Span). first_of o rest) (sym none) ∙ sym (wrong_name_is program)
lets_wrong program none (Err stop) is = tt

-- a query that is a name
pub name_known : (names : List (List ℕ)) (query : tree.Query) (name : Name) → query ≡ tree.Name name
    → is_known names name.bytes ≡ true → None ≡ first_unknown names (plain_query query)
name_known names query name is known =
    sym (ap (λ (t : tree.Query). first_unknown names (plain_query t)) is
    ∙ ap (λ (b : Bool). cond b None (Some name.span)) known)

pub name_unknown : (names : List (List ℕ)) (query : tree.Query) (name : Name)
    → query ≡ tree.Name name → is_known names name.bytes ≡ false
    → Some name.span ≡ first_unknown names (plain_query query)
name_unknown names query name is unknown =
    sym (ap (λ (t : tree.Query). first_unknown names (plain_query t)) is
    ∙ ap (λ (b : Bool). cond b None (Some name.span)) unknown)
