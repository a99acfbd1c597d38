-- The texts of the lets are those of their queries.
use Rattle.std.proofs.Common.{◌≡◌, ◌∙◌, ◌+◌, ◌++◌, ℕ, Bool, true, false, not, cond, List, [], ◌∷◌}
use Rattle.std.proofs.Common.{map, codes, refl, ap, subst}
use Rattle.std.specs.Prelude.{◌||◌, if◌then◌else◌}
use Rattle.std.specs.List.{list_any, position_or_len}
use Rattle.std.specs.Str.{bytes_eq}
use Rattle.query_model.specs.Bounds.{width_of}
use Rattle.query_model.specs.Queries.{Qre, atom, eps, choice, split, iter, combine, apply, compose}
use Rattle.query_model.specs.Queries.{collect}
use Rattle.query_parser.specs.Printing.{nowhere}
use Rattle.query_syntax.specs.Queries as q
use Rattle.query_syntax.specs.Queries.{Query}
use Rattle.query_text.specs.Forms.{both, called}
use Rattle.query_text.specs.LetTexts.{PlacedText, added_text, placed_texts}
use Rattle.query_text.specs.Lets.{Placed, are_written_alike, let_at, placed, query_text, with_query}
use Rattle.query_text.specs.Names.{Naming, let_name, of_values}
use Rattle.query_text.specs.Trees.{expression_tree, key_tree, numbered, predicate_tree, rate_tree}
use Rattle.query_text.proofs.QueryTexts.{apply_written, atom_written, collect_written}
use Rattle.query_text.proofs.QueryTexts.{iter_written, joined_combine, joined_split}

-- what holds of one of a list of texts is asked of what they are the texts of
mapped_place : {A B : Type 0} (p : B → Bool) (f : A → B) (xs : List A)
    → position_or_len (λ x. p (f x)) xs ≡ position_or_len p (map f xs)
mapped_place p f [] = refl
mapped_place p f (x ∷ xs) = ap (λ n. cond (not (p (f x))) (1 + n) 0) (mapped_place p f xs)

mapped_any : {A B : Type 0} (p : B → Bool) (f : A → B) (xs : List A)
    → list_any (λ x. p (f x)) xs ≡ list_any p (map f xs)
mapped_any p f [] = refl
mapped_any p f (x ∷ xs) = ap (λ b. p (f x) || b) (mapped_any p f xs)

-- the texts are those of the queries, and the place is the same
pub record Agree (trees : Placed) (texts : PlacedText) : Type 0 where
  pub texts_are : map query_text trees.queries ≡ texts.texts
  pub same_place : trees.place ≡ texts.place

map_push : (queries : List Query) (query : Query)
    → map query_text (queries ++ query ∷ []) ≡ map query_text queries ++ query_text query ∷ []
map_push [] query = refl
map_push (first ∷ queries) query = ap (λ ts. query_text first ∷ ts) (map_push queries query)

pushed : (found : Bool) (queries : List Query) (query : Query)
    → map query_text (if found then queries else queries ++ query ∷ [])
    ≡ (if found then map query_text queries else map query_text queries ++ query_text query ∷ [])
pushed true queries query = refl
pushed false queries query = map_push queries query

with_agree : (queries : List Query) (query : Query) (texts : List (List ℕ)) (text : List ℕ)
    → map query_text queries ≡ texts → query_text query ≡ text
    → Agree (with_query queries query) (added_text texts text)
with_agree queries query texts text all one =
    subst (λ ts. Agree (with_query queries query) (added_text ts text)) all
    (subst (λ t. Agree (with_query queries query) (added_text (map query_text queries) t)) one
    (record {
      texts_are = pushed (list_any (are_written_alike query) queries) queries query
          ∙ ap (λ found. if found then map query_text queries
          else map query_text queries ++ query_text query ∷ [])
          (mapped_any (bytes_eq (query_text query)) query_text queries);
      same_place = mapped_place (bytes_eq (query_text query)) query_text queries;
    }))

pub placed_agree : (naming : Naming) (query : Qre) (queries : List Query) (texts : List (List ℕ))
    → map query_text queries ≡ texts
    → Agree (placed naming query queries) (placed_texts naming query texts)
placed_agree naming (atom pred value) queries texts all =
    with_agree queries
    (q.atom (predicate_tree naming pred) (expression_tree naming value) nowhere) texts _ all
    (atom_written naming pred value)
placed_agree naming (eps number) queries texts all =
    with_agree queries (q.eps (numbered number) nowhere) texts _ all refl
placed_agree naming (choice f g) queries texts all =
    let left = placed naming f queries in
    let left_text = placed_texts naming f texts in
    let first = placed_agree naming f queries texts all in
    let right = placed naming g left.queries in
    let right_text = placed_texts naming g left_text.texts in
    let second = placed_agree naming g left.queries left_text.texts first.texts_are in
    with_agree right.queries (q.or (let_at left.place) (let_at right.place) nowhere)
    right_text.texts _ second.texts_are
    (λ i. called (codes "or")
    (both (let_name (first.same_place i)) (let_name (second.same_place i))))
placed_agree naming (split f g value) queries texts all =
    let left = placed naming f queries in
    let left_text = placed_texts naming f texts in
    let first = placed_agree naming f queries texts all in
    let right = placed naming g left.queries in
    let right_text = placed_texts naming g left_text.texts in
    let second = placed_agree naming g left.queries left_text.texts first.texts_are in
    with_agree right.queries
    (q.split (let_at left.place) (let_at right.place) (expression_tree naming value) nowhere)
    right_text.texts _ second.texts_are
    (λ i. joined_split naming (first.same_place i) (second.same_place i) value i)
placed_agree naming (iter f number value) queries texts all =
    let inner = placed naming f queries in
    let inner_text = placed_texts naming f texts in
    let first = placed_agree naming f queries texts all in
    with_agree inner.queries
    (q.iter (let_at inner.place) (numbered number) (expression_tree naming value) nowhere)
    inner_text.texts _
    first.texts_are (λ i. iter_written naming (first.same_place i) number value i)
placed_agree naming (combine f g value) queries texts all =
    let left = placed naming f queries in
    let left_text = placed_texts naming f texts in
    let first = placed_agree naming f queries texts all in
    let right = placed naming g left.queries in
    let right_text = placed_texts naming g left_text.texts in
    let second = placed_agree naming g left.queries left_text.texts first.texts_are in
    with_agree right.queries
    (q.combine (let_at left.place) (let_at right.place) (expression_tree naming value) nowhere)
    right_text.texts _ second.texts_are
    (λ i. joined_combine naming (first.same_place i) (second.same_place i) value i)
placed_agree naming (apply f value) queries texts all =
    let inner = placed naming f queries in
    let inner_text = placed_texts naming f texts in
    let first = placed_agree naming f queries texts all in
    with_agree inner.queries
    (q.apply (let_at inner.place) (expression_tree naming value) nowhere) inner_text.texts _
    first.texts_are (λ i. apply_written naming (first.same_place i) value i)
placed_agree naming (compose f g) queries texts all =
    let left = placed naming f queries in
    let left_text = placed_texts naming f texts in
    let first = placed_agree naming f queries texts all in
    let right = placed (of_values (width_of f)) g left.queries in
    let right_text = placed_texts (of_values (width_of f)) g left_text.texts in
    let second =
    placed_agree (of_values (width_of f)) g left.queries left_text.texts first.texts_are in
    with_agree right.queries (q.compose (let_at left.place) (let_at right.place) nowhere)
    right_text.texts _ second.texts_are
    (λ i. called (codes "compose")
    (both (let_name (first.same_place i)) (let_name (second.same_place i))))
placed_agree naming (collect chosen sync rate f) queries texts all =
    let inner = placed naming f queries in
    let inner_text = placed_texts naming f texts in
    let first = placed_agree naming f queries texts all in
    with_agree inner.queries
    (q.collect (key_tree naming chosen) (predicate_tree naming sync) (rate_tree naming rate)
    (let_at inner.place) nowhere) inner_text.texts _
    first.texts_are (λ i. collect_written naming chosen sync rate (first.same_place i) i)
