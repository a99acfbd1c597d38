-- What the names of lets stand for, let by let.
use Rattle.std.proofs.Common.{◌≡◌, ◌≢◌, ◌<◌, ℕ, suc, ◌+◌, ◌^◌, Bool, true, false, cond, List, [], ◌∷◌}
use Rattle.std.proofs.Common.{◌++◌, length, Some, unwrap_or, refl, sym, ap, ap₂, ◌∙◌, arith}
use Rattle.std.specs.List.{AllByRecursion}
use Rattle.std.specs.Str.{bytes_eq}
use Rattle.std.proofs.lemmas.Slice.Eq.{bytes_eq-Decides}
use Rattle.query_lets.specs.Unfolded.{Binding, bindings_after, meaning, replaced}
use Rattle.query_lets.specs.Words.{names_in}
use Rattle.query_parser.specs.Printing.{nowhere}
use Rattle.query_syntax.specs.Programs.{Let}
use Rattle.query_syntax.specs.Queries as q
use Rattle.query_syntax.specs.Queries.{Query}
use Rattle.query_syntax.specs.declared.leaf.Name.{Name}
use Rattle.query_text.specs.Names.{let_name, named}
use Rattle.query_text.specs.Programs.{lets_from}
use Rattle.text_reads_back.proofs.LetNames.{let_names_apart}
use Rattle.text_reads_back.proofs.Names.{same_bytes}

-- a let, and what its name stands for after others
abbrev let_of : ℕ → Query → Let
let_of place query = record { name = named (let_name place); query = query; span = nowhere }

abbrev bound : List Binding → Let → Binding
bound bindings one = record { name = one.name.bytes; query = replaced bindings one.query }

-- what the names of lets with these queries stand for
abbrev pub bindings : List Query → List Binding
bindings queries = bindings_after [] (lets_from 0 queries)

lets_push : (at : ℕ) (queries : List Query) (query : Query)
    → lets_from at (queries ++ query ∷ [])
    ≡ lets_from at queries ++ let_of (at + length queries) query ∷ []
lets_push at [] query =
    let here : at ≡ at + 0 = omega arith in ap (λ place. let_of place query ∷ []) here
lets_push at (first ∷ queries) query =
    let here : at + 1 + length queries ≡ at + suc (length queries) = omega arith in
    ap (λ lets. let_of at first ∷ lets) (lets_push (at + 1) queries query)
    ∙ ap (λ place. let_of at first ∷ (lets_from (at + 1) queries ++ let_of place query ∷ [])) here

bound_push : (before : List Binding) (lets : List Let) (one : Let)
    → bindings_after before (lets ++ one ∷ [])
    ≡ bound (bindings_after before lets) one ∷ bindings_after before lets
bound_push before [] one = refl
bound_push before (first ∷ lets) one = bound_push (bound before first ∷ before) lets one

-- one let more
pub bindings_push : (queries : List Query) (query : Query) → bindings (queries ++ query ∷ [])
    ≡ bound (bindings queries) (let_of (length queries) query) ∷ bindings queries
bindings_push queries query =
    let here : 0 + length queries ≡ length queries = omega arith in
    ap (bindings_after []) (lets_push 0 queries query
    ∙ ap (λ place. lets_from 0 queries ++ let_of place query ∷ []) here)
    ∙ bound_push [] (lets_from 0 queries) (let_of (length queries) query)

-- it stands for its query
pub last_means : (queries : List Query) (query : Query)
    → meaning (bindings (queries ++ query ∷ [])) (let_name (length queries))
    ≡ Some (replaced (bindings queries) query)
last_means queries query =
    ap (λ bs. meaning bs (let_name (length queries))) (bindings_push queries query)
    ∙ ap (λ test. cond test (Some (replaced (bindings queries) query))
    (meaning (bindings queries) (let_name (length queries))))
    (same_bytes (let_name (length queries)))

-- different names are different bytes
pub names_differ : (place other : ℕ) → place < 2 ^ 32 → other < 2 ^ 32 → place ≢ other
    → bytes_eq (let_name place) (let_name other) ≡ false
names_differ place other small less differ =
    by (bytes_eq (let_name place) (let_name other)) refl
  where
    by : (test : Bool) → bytes_eq (let_name place) (let_name other) ≡ test → test ≡ false
    by true same = absurd (differ (let_names_apart place other small less
        ((bytes_eq-Decides (let_name place) (let_name other)).0 same)))
    by false same = refl

-- the others stand for what they stood for
pub others_mean : (queries : List Query) (query : Query) (place : ℕ) → place < length queries
    → length queries < 2 ^ 32 → meaning (bindings (queries ++ query ∷ [])) (let_name place)
    ≡ meaning (bindings queries) (let_name place)
others_mean queries query place less few =
    ap (λ bs. meaning bs (let_name place)) (bindings_push queries query)
    ∙ ap (λ test. cond test (Some (replaced (bindings queries) query))
    (meaning (bindings queries) (let_name place)))
    (names_differ place (length queries) (omega (arith, less, few)) few
    (λ same. omega (arith, same, less)))

-- the names in a query are those of the first lets, as many as this
abbrev pub IsClosed : ℕ → List Name → Type 0
IsClosed count names =
    AllByRecursion (λ name. (place : ℕ) × (place < count) × (name.bytes ≡ let_name place)) names

closed_left : (count : ℕ) (a b : List Name) → IsClosed count (a ++ b) → IsClosed count a
closed_left count [] b closed = tt
closed_left count (name ∷ a) b closed = (closed.0, closed_left count a b closed.1)

closed_right : (count : ℕ) (a b : List Name) → IsClosed count (a ++ b) → IsClosed count b
closed_right count [] b closed = closed
closed_right count (name ∷ a) b closed = closed_right count a b closed.1

-- what a query of the first lets becomes where its names are replaced does not turn on a later one
module _ (queries : List Query) (query : Query) (few : length queries < 2 ^ 32) where
  abbrev after : List Binding
  after = bindings (queries ++ query ∷ [])

  pub replaced_before : (x : Query) → IsClosed (length queries) (names_in x)
      → replaced after x ≡ replaced (bindings queries) x
  replaced_before (q.name name) closed =
      let place = closed.0.0 in
      let is = closed.0.2 in
      ap (λ found. unwrap_or found (q.name name))
      (ap (meaning after) is ∙ others_mean queries query place closed.0.1 few
      ∙ ap (meaning (bindings queries)) (sym is))
  replaced_before (q.atom predicate value span) closed = refl
  replaced_before (q.eps number span) closed = refl
  replaced_before (q.or f g span) closed =
      ap₂ (λ a b. q.or a b span)
      (replaced_before f (closed_left (length queries) (names_in f) (names_in g) closed))
      (replaced_before g (closed_right (length queries) (names_in f) (names_in g) closed))
  replaced_before (q.split f g value span) closed =
      ap₂ (λ a b. q.split a b value span)
      (replaced_before f (closed_left (length queries) (names_in f) (names_in g) closed))
      (replaced_before g (closed_right (length queries) (names_in f) (names_in g) closed))
  replaced_before (q.iter f first step span) closed =
      ap (λ a. q.iter a first step span) (replaced_before f closed)
  replaced_before (q.combine f g value span) closed =
      ap₂ (λ a b. q.combine a b value span)
      (replaced_before f (closed_left (length queries) (names_in f) (names_in g) closed))
      (replaced_before g (closed_right (length queries) (names_in f) (names_in g) closed))
  replaced_before (q.apply f value span) closed =
      ap (λ a. q.apply a value span) (replaced_before f closed)
  replaced_before (q.compose f g span) closed =
      ap₂ (λ a b. q.compose a b span)
      (replaced_before f (closed_left (length queries) (names_in f) (names_in g) closed))
      (replaced_before g (closed_right (length queries) (names_in f) (names_in g) closed))
  replaced_before (q.collect key sync rate f span) closed =
      ap (λ a. q.collect key sync rate a span) (replaced_before f closed)
