-- For the prover. The texts of the lets of a query.
use Rattle.std.specs.Prelude.{ℕ, List, [], ◌∷◌, ◌++◌, codes, if◌then◌else◌}
use Rattle.std.specs.Fmt.{signed_decimal}
use Rattle.std.specs.List.{list_any, position_or_len}
use Rattle.std.specs.Str.{bytes_eq}
use Rattle.query_model.specs.Bounds.{width_of}
use Rattle.query_model.specs.Queries.{Qre, atom, eps, choice, split, iter, combine, apply, compose}
use Rattle.query_model.specs.Queries.{collect}
use Rattle.query_text.specs.Forms.{both, called, expression_text, key_text, predicate_text}
use Rattle.query_text.specs.Forms.{rate_text}
use Rattle.query_text.specs.Names.{Naming, let_name, of_values}

-- the texts of lets, and the place of one of them
pub record PlacedText : Type 0 where
  pub texts : List (List ℕ)
  pub place : ℕ

-- the texts with one more, if it is not among them, and its place
abbrev pub added_text : List (List ℕ) → List ℕ → PlacedText
added_text texts text = record {
  texts = if list_any (bytes_eq text) texts then texts else texts ++ text ∷ [];
  place = position_or_len (bytes_eq text) texts;
}

-- the texts with those of the nodes of a query
abbrev pub placed_texts : Naming → Qre → List (List ℕ) → PlacedText
placed_texts naming (atom pred value) texts = added_text texts
    (called (codes "atom") (both (predicate_text naming pred) (expression_text naming value)))
placed_texts naming (eps number) texts =
    added_text texts (called (codes "eps") (signed_decimal number))
placed_texts naming (choice f g) texts =
    let left = placed_texts naming f texts in
    let right = placed_texts naming g left.texts in
    added_text right.texts
    (called (codes "or") (both (let_name left.place) (let_name right.place)))
placed_texts naming (split f g value) texts =
    let left = placed_texts naming f texts in
    let right = placed_texts naming g left.texts in
    added_text right.texts (called (codes "split")
    (both (let_name left.place) (both (let_name right.place) (expression_text naming value))))
placed_texts naming (iter f number value) texts =
    let inner = placed_texts naming f texts in
    added_text inner.texts (called (codes "iter")
    (both (let_name inner.place) (both (signed_decimal number) (expression_text naming value))))
placed_texts naming (combine f g value) texts =
    let left = placed_texts naming f texts in
    let right = placed_texts naming g left.texts in
    added_text right.texts (called (codes "combine")
    (both (let_name left.place) (both (let_name right.place) (expression_text naming value))))
placed_texts naming (apply f value) texts =
    let inner = placed_texts naming f texts in
    added_text inner.texts
    (called (codes "apply") (both (let_name inner.place) (expression_text naming value)))
placed_texts naming (compose f g) texts =
    let left = placed_texts naming f texts in
    let right = placed_texts (of_values (width_of f)) g left.texts in
    added_text right.texts
    (called (codes "compose") (both (let_name left.place) (let_name right.place)))
placed_texts naming (collect chosen sync rate f) texts =
    let inner = placed_texts naming f texts in
    added_text inner.texts (called (codes "collect")
    (both (key_text naming chosen) (both (predicate_text naming sync)
    (both (rate_text naming rate) (let_name inner.place)))))
