-- A let for a query, or the earlier one that is written like it.
use Rattle.std.proofs.Common.{◌≡◌, ◌<◌, ◌≤◌, ℕ, ◌+◌, ◌^◌, Bool, true, false, cond, List, [], ◌∷◌, ◌++◌}
use Rattle.std.proofs.Common.{length, codes, Some, refl, sym, ap, ◌∙◌, subst, ⊎_elim}
use Rattle.std.proofs.Common.{arith, length-append}
use Rattle.std.specs.List.{list_any, position_or_len, slice_get}
use Rattle.std.proofs.lemmas.Option.{slice_get_within}
use Rattle.std.proofs.lemmas.Slice.Eq.{bytes_eq-Decides}
use Rattle.query_forms.specs.Terms.{Terms, none, call}
use Rattle.query_forms.specs.declared.term_place.TermPlace.TheVariants as spot
use Rattle.query_lets.specs.Unfolded.{meaning, replaced}
use Rattle.query_lets.specs.Words.{names_in}
use Rattle.query_parser.specs.Printing.{file_text, nowhere, unplaced}
use Rattle.query_syntax.specs.Queries.{Query}
use Rattle.query_syntax.specs.Written.{query_before}
use Rattle.query_syntax.proofs.Readings.{one_query}
use Rattle.query_syntax.specs.declared.leaf.Name.{Name}
use Rattle.query_text.specs.Lets.{Placed, are_written_alike, query_text, with_query}
use Rattle.query_text.specs.Names.{let_name}
use Rattle.text_reads_back.proofs.BareTerms.{query_bare}
use Rattle.text_reads_back.proofs.BareTrees.{IsBare}
use Rattle.text_reads_back.proofs.Bindings.{IsClosed, bindings, last_means, others_mean}
use Rattle.text_reads_back.proofs.Bindings.{replaced_before}
use Rattle.text_reads_back.proofs.FileTerms.{CanStand}
use Rattle.text_reads_back.proofs.Fitted.{before, no_term, some_term}
use Rattle.text_reads_back.proofs.KnownWords.{known}
use Rattle.text_reads_back.proofs.Pushed.{at_push, found_there, none_there}
use Rattle.text_reads_back.proofs.SameTexts.{CanBeText, written_alike}

-- the query of a let: it can stand there, has no places, and names lets before it alone
pub record IsLet (place : ℕ) (query : Query) : Type 0 where
  pub stands : CanStand query
  pub bare : IsBare query
  pub closed : IsClosed place (names_in query)

-- the queries of lets, each of which stands for what it is where its names are replaced
pub record AreLets (queries : List Query) : Type 0 where
  pub are : (place : ℕ) (query : Query) → slice_get queries place ≡ Some query → IsLet place query
  pub mean : (place : ℕ) (query : Query) → slice_get queries place ≡ Some query
      → meaning (bindings queries) (let_name place) ≡ Some (replaced (bindings queries) query)

-- at first there are none
pub no_lets : AreLets []
no_lets = record {
  are = λ place query there. absurd (cc);
  mean = λ place query there. absurd (cc);
}

-- a query by itself, as the argument of a call
abbrev alone : Query → Terms
alone query = call (codes "main") (query_before query none) nowhere none

alone_written : (query : Query) → CanStand query → CanBeText (alone query)
alone_written query stands =
    let all = before 2 spot.Query [] (query_before query none) none (stands none) (no_term 2) in
    record {
      writable = (
        omega arith,
        known (codes "main") refl,
        some_term (query_before query none)
            (omega (arith, all.count)),
        all.writable,
        tt,
      );
      within = rw all.within refl;
    }

-- the arguments of a call
abbrev arguments_of : Terms → Terms
arguments_of (call head arguments span rest) = arguments
arguments_of _ = none

-- two that are written alike are one
alike_one : (one other : Query) → CanStand one → CanStand other → IsBare one → IsBare other
    → query_text one ≡ query_text other → one ≡ other
alike_one one other stands also bare too same =
    let texts : file_text (alone one) ≡ file_text (alone other) =
    ap (λ text. codes "main" ++ codes "(" ++ text ++ codes ")" ++ codes "\n" ++ []) same in
    let terms : unplaced (query_before one none) ≡ unplaced (query_before other none) =
    ap arguments_of (written_alike (alone one) (alone other) (alone_written one stands)
    (alone_written other also) texts) in
    one_query one other
    (sym (ap (λ query. query_before query none) bare) ∙ query_bare one none ∙ terms
    ∙ sym (query_bare other none) ∙ ap (λ query. query_before query none) too)

-- what a query is placed as
pub record IsPlaced (queries : List Query) (placed : Placed) (tree : Query) (nodes : ℕ) : Type 0
  where
    pub lets : AreLets placed.queries
    pub longer : length queries ≤ length placed.queries
    pub few : length placed.queries ≤ length queries + nodes
    pub within : placed.place < length placed.queries
    pub means : meaning (bindings placed.queries) (let_name placed.place) ≡ Some tree
    -- what a let before stands for it still does
    pub kept : (place : ℕ) (other : Query) → place < length queries
        → meaning (bindings queries) (let_name place) ≡ Some other
        → meaning (bindings placed.queries) (let_name place) ≡ Some other

module _ (queries : List Query) (lets : AreLets queries) (query : Query)
    (is : IsLet (length queries) query) (small : length queries < 2 ^ 32) where
  abbrev tree : Query
  tree = replaced (bindings queries) query

  -- there is one like it
  shared : list_any (are_written_alike query) queries ≡ true
      → IsPlaced queries (record {
        queries = queries;
        place = position_or_len (are_written_alike query) queries;
      }) tree 1
  shared some =
      let there = found_there (are_written_alike query) queries some in
      let place = position_or_len (are_written_alike query) queries in
      let other = there.0 in
      let same : query ≡ other =
      alike_one query other is.stands (lets.are place other there.1).stands is.bare
      (lets.are place other there.1).bare
      ((bytes_eq-Decides (query_text query) (query_text other)).0 there.2) in
      record {
        lets = lets;
        longer = omega arith;
        few = omega arith;
        within = slice_get_within queries place other there.1;
        means = lets.mean place other there.1
            ∙ ap (λ x. Some (replaced (bindings queries) x)) (sym same);
        kept = λ place other less means. means;
      }

  -- there is none
  abbrev more : List Query
  more = queries ++ query ∷ []

  one_longer : length more ≡ length queries + 1
  one_longer = length-append queries (query ∷ [])

  more_are : (place : ℕ) (x : Query) → slice_get more place ≡ Some x → IsLet place x
  more_are place x there =
      ⊎_elim (λ earlier. lets.are place x earlier)
      (λ (last, same). subst (λ y. IsLet place y) same
      (subst (λ n. IsLet n query) (sym last) is))
      (at_push queries query place x there)

  -- a let before has its own names alone
  closed_more : (count larger : ℕ) (names : List Name) → count ≤ larger → IsClosed count names
      → IsClosed larger names
  closed_more count larger [] less closed = tt
  closed_more count larger (name ∷ names) less closed = (
    (closed.0.0, omega (arith, closed.0.1, less), closed.0.2),
    closed_more count larger names less closed.1,
  )

  more_mean : (place : ℕ) (x : Query) → slice_get more place ≡ Some x
      → meaning (bindings more) (let_name place) ≡ Some (replaced (bindings more) x)
  more_mean place x there =
      ⊎_elim earlier last (at_push queries query place x there)
    where
      earlier : slice_get queries place ≡ Some x
          → meaning (bindings more) (let_name place) ≡ Some (replaced (bindings more) x)
      earlier before =
          let within = slice_get_within queries place x before in
          others_mean queries query place within small ∙ lets.mean place x before
          ∙ ap Some (sym (replaced_before queries query small x
          (closed_more place (length queries) (names_in x) (omega (arith, within))
          (lets.are place x before).closed)))

      last : (place ≡ length queries) × (query ≡ x)
          → meaning (bindings more) (let_name place) ≡ Some (replaced (bindings more) x)
      last (here, same) =
          ap (λ n. meaning (bindings more) (let_name n)) here ∙ last_means queries query
          ∙ ap Some (sym (replaced_before queries query small query is.closed))
          ∙ ap (λ y. Some (replaced (bindings more) y)) same

  added : list_any (are_written_alike query) queries ≡ false
      → IsPlaced queries (record {
        queries = more;
        place = position_or_len (are_written_alike query) queries;
      }) tree 1
  added is_new =
      let place = none_there (are_written_alike query) queries is_new in
      record {
        lets = record { are = more_are; mean = more_mean };
        longer = omega (arith, one_longer);
        few = omega (arith, one_longer);
        within = omega (arith, one_longer, place);
        means = ap (λ n. meaning (bindings more) (let_name n)) place ∙ last_means queries query;
        kept = λ at other less means. others_mean queries query at less small ∙ means;
      }

  pub query_placed : IsPlaced queries (with_query queries query) tree 1
  query_placed = by (list_any (are_written_alike query) queries) refl
    where
      by : (some : Bool) → list_any (are_written_alike query) queries ≡ some
          → IsPlaced queries (record {
            queries = cond some queries (queries ++ query ∷ []);
            place = position_or_len (are_written_alike query) queries;
          }) tree 1
      by true is_there = shared is_there
      by false is_new = added is_new
