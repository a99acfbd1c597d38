-- The names of lets stand for the same wherever they stand.
use Rattle.std.proofs.Common.{◌≡◌, ℕ, ◌+◌, Bool, true, false, cond, List, [], ◌∷◌, ◌++◌, map}
use Rattle.std.proofs.Common.{Option, Some, None, unwrap_or, refl, sym, ap, ap₂, ◌∙◌}
use Rattle.std.specs.Option.{option_map}
use Rattle.std.specs.Str.{bytes_eq}
use Rattle.query_lets.specs.Sizes.{nodes_of}
use Rattle.query_lets.specs.Unfolded.{Binding, bindings_after, meaning, replaced, unfolded}
use Rattle.query_lets.specs.Words.{Word, column_words, declares, first_wrong, is_wrong, let_words}
use Rattle.query_lets.specs.Words.{names_in, query_words, uses, word_span, words_of, wrong_name}
use Rattle.query_parser.specs.Printing.{nowhere}
use Rattle.query_syntax.specs.Programs.{Let, Program}
use Rattle.query_syntax.specs.Queries as q
use Rattle.query_syntax.specs.Queries.{Query}
use Rattle.query_syntax.specs.declared.leaf.Name.{Name}
use Rattle.query_syntax.specs.declared.stream.Column.{Column}
use Rattle.text_reads_back.proofs.Bare.{bare_column, bare_expression, bare_key, bare_let, bare_name}
use Rattle.text_reads_back.proofs.Bare.{bare_number, bare_predicate, bare_program, bare_query}
use Rattle.text_reads_back.proofs.Bare.{bare_rate}

-- a binding regardless of places
abbrev bare_binding : Binding → Binding
bare_binding one = record { name = one.name; query = bare_query one.query }

meaning_at : (test : Bool) (query : Query) (rest others : Option Query)
    → rest ≡ option_map bare_query others → cond test (Some (bare_query query)) rest
    ≡ option_map bare_query (cond test (Some query) others)
meaning_at true query rest others same = refl
meaning_at false query rest others same = same

meaning_bare : (bindings : List Binding) (name : List ℕ)
    → meaning (map bare_binding bindings) name ≡ option_map bare_query (meaning bindings name)
meaning_bare [] name = refl
meaning_bare (first ∷ bindings) name =
    meaning_at (bytes_eq name first.name) first.query (meaning (map bare_binding bindings) name)
    (meaning bindings name) (meaning_bare bindings name)

or_name : (found : Option Query) (name : Name)
    → unwrap_or (option_map bare_query found) (q.name (bare_name name))
    ≡ bare_query (unwrap_or found (q.name name))
or_name (Some query) name = refl
or_name None name = refl

module _ (bindings : List Binding) where
  abbrev bares : List Binding
  bares = map bare_binding bindings

  replaced_bare : (query : Query) → replaced bares (bare_query query)
      ≡ bare_query (replaced bindings query)
  replaced_bare (q.name name) =
      ap (λ found. unwrap_or found (q.name (bare_name name))) (meaning_bare bindings name.bytes)
      ∙ or_name (meaning bindings name.bytes) name
  replaced_bare (q.atom predicate value span) = refl
  replaced_bare (q.eps number span) = refl
  replaced_bare (q.or f g span) =
      let a = replaced_bare f in
      let b = replaced_bare g in
      λ i. q.or (a i) (b i) nowhere
  replaced_bare (q.split f g value span) =
      let a = replaced_bare f in
      let b = replaced_bare g in
      λ i. q.split (a i) (b i) (bare_expression value) nowhere
  replaced_bare (q.iter f first step span) =
      ap (λ t. q.iter t (bare_number first) (bare_expression step) nowhere) (replaced_bare f)
  replaced_bare (q.combine f g value span) =
      let a = replaced_bare f in
      let b = replaced_bare g in
      λ i. q.combine (a i) (b i) (bare_expression value) nowhere
  replaced_bare (q.apply f value span) =
      ap (λ t. q.apply t (bare_expression value) nowhere) (replaced_bare f)
  replaced_bare (q.compose f g span) =
      let a = replaced_bare f in
      let b = replaced_bare g in
      λ i. q.compose (a i) (b i) nowhere
  replaced_bare (q.collect names sync rate f span) =
      ap (λ t. q.collect (bare_key names) (bare_predicate sync) (bare_rate rate) t nowhere)
      (replaced_bare f)

bindings_bare : (bindings : List Binding) (lets : List Let)
    → bindings_after (map bare_binding bindings) (map bare_let lets)
    ≡ map bare_binding (bindings_after bindings lets)
bindings_bare bindings [] = refl
bindings_bare bindings (one ∷ lets) =
    let more : Binding =
    record { name = one.name.bytes; query = replaced bindings one.query } in
    ap (λ query. bindings_after
    ((record { name = one.name.bytes; query = query }) ∷ map bare_binding bindings)
    (map bare_let lets)) (replaced_bare bindings one.query)
    ∙ bindings_bare (more ∷ bindings) lets

pub unfolded_bare : (program : Program)
    → unfolded (bare_program program) ≡ bare_query (unfolded program)
unfolded_bare program =
    ap (λ bindings. replaced bindings (bare_query program.main.query))
    (bindings_bare [] program.lets)
    ∙ replaced_bare (bindings_after [] program.lets) program.main.query

-- a query has as many nodes
pub nodes_bare : (query : Query) → nodes_of (bare_query query) ≡ nodes_of query
nodes_bare (q.name name) = refl
nodes_bare (q.atom predicate value span) = refl
nodes_bare (q.eps number span) = refl
nodes_bare (q.or f g span) = ap₂ (λ m n. m + n + 1) (nodes_bare f) (nodes_bare g)
nodes_bare (q.split f g value span) = ap₂ (λ m n. m + n + 1) (nodes_bare f) (nodes_bare g)
nodes_bare (q.iter f first step span) = ap (λ n. n + 1) (nodes_bare f)
nodes_bare (q.combine f g value span) = ap₂ (λ m n. m + n + 1) (nodes_bare f) (nodes_bare g)
nodes_bare (q.apply f value span) = ap (λ n. n + 1) (nodes_bare f)
nodes_bare (q.compose f g span) = ap₂ (λ m n. m + n + 1) (nodes_bare f) (nodes_bare g)
nodes_bare (q.collect names sync rate f span) = ap (λ n. n + 1) (nodes_bare f)

-- a word that declares or uses a name
abbrev bare_word : Word → Word
bare_word (declares known name) = declares known (bare_name name)
bare_word (uses known name) = uses known (bare_name name)

wrong_bare : (word : Word) → is_wrong (bare_word word) ≡ is_wrong word
wrong_bare (declares known name) = refl
wrong_bare (uses known name) = refl

-- words none of which is wrong
right_bare : (words : List Word) → first_wrong (map bare_word words) ≡ None
    → first_wrong words ≡ None
right_bare [] right = refl
right_bare (word ∷ words) right =
    by (is_wrong (bare_word word)) (is_wrong word) (wrong_bare word) (right_bare words) right
  where
    by : (test other : Bool) → test ≡ other
        → (first_wrong (map bare_word words) ≡ None → first_wrong words ≡ None)
        → cond test (Some (word_span (bare_word word))) (first_wrong (map bare_word words)) ≡ None
        → cond other (Some (word_span word)) (first_wrong words) ≡ None
    by true other same later is = absurd (cc)
    by false true same later is = absurd (cc)
    by false false same later is = later is

joined_words : (a b : List Word) → map bare_word a ++ map bare_word b ≡ map bare_word (a ++ b)
joined_words [] b = refl
joined_words (word ∷ a) b = ap (λ words. bare_word word ∷ words) (joined_words a b)

joined_names : (a b : List Name) → map bare_name a ++ map bare_name b ≡ map bare_name (a ++ b)
joined_names [] b = refl
joined_names (name ∷ a) b = ap (λ names. bare_name name ∷ names) (joined_names a b)

both_names : (f g : Query) → names_in (bare_query f) ≡ map bare_name (names_in f)
    → names_in (bare_query g) ≡ map bare_name (names_in g)
    → names_in (bare_query f) ++ names_in (bare_query g)
    ≡ map bare_name (names_in f ++ names_in g)
both_names f g a b = ap₂ ◌++◌ a b ∙ joined_names (names_in f) (names_in g)

names_bare : (query : Query) → names_in (bare_query query) ≡ map bare_name (names_in query)
names_bare (q.name name) = refl
names_bare (q.atom predicate value span) = refl
names_bare (q.eps number span) = refl
names_bare (q.or f g span) = both_names f g (names_bare f) (names_bare g)
names_bare (q.split f g value span) = both_names f g (names_bare f) (names_bare g)
names_bare (q.iter f first step span) = names_bare f
names_bare (q.combine f g value span) = both_names f g (names_bare f) (names_bare g)
names_bare (q.apply f value span) = names_bare f
names_bare (q.compose f g span) = both_names f g (names_bare f) (names_bare g)
names_bare (q.collect names sync rate f span) = names_bare f

uses_bare : (known : List (List ℕ)) (names : List Name)
    → map (uses known) (map bare_name names) ≡ map bare_word (map (uses known) names)
uses_bare known [] = refl
uses_bare known (name ∷ names) =
    ap (λ words. uses known (bare_name name) ∷ words) (uses_bare known names)

query_words_bare : (known : List (List ℕ)) (query : Query)
    → query_words known (bare_query query) ≡ map bare_word (query_words known query)
query_words_bare known query =
    ap (map (uses known)) (names_bare query) ∙ uses_bare known (names_in query)

column_words_bare : (known : List (List ℕ)) (columns : List Column)
    → column_words known (map bare_column columns) ≡ map bare_word (column_words known columns)
column_words_bare known [] = refl
column_words_bare known (column ∷ columns) =
    ap (λ words. declares known (bare_name column.name) ∷ words)
    (column_words_bare (column.name.bytes ∷ known) columns)

let_words_bare : (known : List (List ℕ)) (lets : List Let) (main : Query)
    → let_words known (map bare_let lets) (bare_query main)
    ≡ map bare_word (let_words known lets main)
let_words_bare known [] main = query_words_bare known main
let_words_bare known (one ∷ lets) main =
    ap₂ (λ own others. (declares known (bare_name one.name) ∷ own) ++ others)
    (query_words_bare known one.query) (let_words_bare (one.name.bytes ∷ known) lets main)
    ∙ joined_words (declares known one.name ∷ query_words known one.query)
    (let_words (one.name.bytes ∷ known) lets main)

-- where no name is wrong without its place, none is wrong at its place
pub names_right : (program : Program) → wrong_name (bare_program program) ≡ None
    → wrong_name program ≡ None
names_right program right =
    let words : words_of (bare_program program) ≡ map bare_word (words_of program) =
    ap₂ ◌++◌ (column_words_bare [] program.stream.columns)
    (let_words_bare [] program.lets program.main.query)
    ∙ joined_words (column_words [] program.stream.columns)
    (let_words [] program.lets program.main.query) in
    right_bare (words_of program) (sym (ap first_wrong words) ∙ right)
