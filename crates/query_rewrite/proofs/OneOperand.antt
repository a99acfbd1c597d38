-- Where an operand is rewritten, a query of one operand stays alike.
use Rattle.std.proofs.Common.{◌≡◌, ◌↔◌, ◌∙◌, ◌+◌, ℕ, ℤ, List, refl, ap, subst, arith}
use Rattle.std.proofs.Common.{[], ◌∷◌, ◌++◌}
use Rattle.std.specs.List.{AllByRecursion}
use Rattle.value_ops.specs.declared.scalar.Scalar.TheVariants.{Number}
use Rattle.value_ops.specs.declared.value.Value.TheVariants as value
use Rattle.expressions.specs.Expressions.{Expression}
use Rattle.item_schema.specs.declared.column.Column.{Column}
use Rattle.predicates.specs.Predicates.{Predicate}
use Rattle.rate_expr.specs.Language.{In}
use Rattle.rate_expr.specs.Rates.{Regex, preds_of, size_of}
use Rattle.rate_expr.specs.Readings.{HasOneFactoring}
use Rattle.rate_expr.specs.Words.{Word, IsWordOf, join}
use Rattle.query_model.specs.Bounds.{inner_of, width_of}
use Rattle.query_model.specs.Denotation.{Den, keys_after, projection}
use Rattle.query_model.specs.Queries.{Qre, iter, apply, collect}
use Rattle.query_model.specs.QueryTypes.{of_one, type_of_expression}
use Rattle.query_model.specs.Rates.{rate_of}
use Rattle.query_model.specs.Rules.{Standing, bound, IsClear}
use Rattle.query_model.proofs.Keys.{kept_word}
use Rattle.query_model.proofs.Typed.{on_keys}
use Rattle.query_rewrite.proofs.Alike.{IsAlike, width_same}
use Rattle.query_rewrite.proofs.Counts.{collect_keeps}
use Rattle.query_rewrite.proofs.Mapped.{all_mapped, entries_mapped, folds_mapped, turned_round}

-- a rate with the same words has one factoring where the other has
factors_once : (columns : List Column) (r s : Regex) → ((word : Word) → In r word ↔ In s word)
    → HasOneFactoring columns r → HasOneFactoring columns s
factors_once columns r s words one us vs is first second same =
    one us vs is (all_mapped (In s) (In r) (λ word in_rate. (words word).1 in_rate) us first)
    (all_mapped (In s) (In r) (λ word in_rate. (words word).1 in_rate) vs second) same

-- the words of a star
star_mapped : (r s : Regex) → ((word : Word) → In r word → In s word) → (word : Word)
    → (pieces : List Word) × (word ≡ join pieces) × AllByRecursion (In r) pieces
    → (pieces : List Word) × (word ≡ join pieces) × AllByRecursion (In s) pieces
star_mapped r s each word (pieces, whole, all) =
    (pieces, whole, all_mapped (In r) (In s) each pieces all)

module _ (standing : Standing) (columns : List Column) (f f' : Qre)
    (a : IsAlike bound columns f f') where
  pub iter_alike : (number : ℤ) (e : Expression) → IsClear standing columns (iter f number e)
      → IsAlike standing columns (iter f number e) (iter f' number e)
  iter_alike number e clear = record {
    clear = (
      a.clear,
      clear.1,
      rw a.type clear.2,
      factors_once columns (rate_of f) (rate_of f') a.words clear.3,
    );
    type = refl;
    words = λ word. (
      star_mapped (rate_of f) (rate_of f') (λ w. (a.words w).0) word,
      star_mapped (rate_of f') (rate_of f) (λ w. (a.words w).1) word,
    );
    positions = a.positions;
    places = a.places;
    inner = omega (arith, a.inner, a.places);
    nodes = omega (arith, a.nodes);
    tests = a.tests;
    few_positions = a.few_positions;
    few_cells = a.few_cells;
    few_levels = λ few. (a.few_levels few.0, few.1);
    no_collect = a.no_collect;
    means = λ word v is. (
      (λ (pieces, whole, folds). (
        pieces,
        whole,
        folds_mapped columns (Den f) (Den f') a.means e (value.Scalar (Number number)) pieces v
            (subst (IsWordOf columns) whole is) folds,
      )),
      (λ (pieces, whole, folds). (
        pieces,
        whole,
        folds_mapped columns (Den f') (Den f) (turned_round columns (Den f) (Den f') a.means) e
            (value.Scalar (Number number)) pieces v (subst (IsWordOf columns) whole is) folds,
      )),
    );
  }

  pub apply_alike : (e : Expression) → IsClear standing columns (apply f e)
      → IsAlike standing columns (apply f e) (apply f' e)
  apply_alike e clear = record {
    clear = (a.clear, rw a.type clear.1);
    type = ap (λ ty. type_of_expression (of_one ty) e) a.type;
    words = a.words;
    positions = a.positions;
    places = a.places;
    inner = a.inner;
    nodes = omega (arith, a.nodes);
    tests = a.tests;
    few_positions = a.few_positions;
    few_cells = a.few_cells;
    few_levels = λ few. (a.few_levels few.0, few.1);
    no_collect = a.no_collect;
    means = λ word v is. (
      (λ (x, den, gives). (x, (a.means word x is).0 den, gives)),
      (λ (x, den, gives). (x, (a.means word x is).1 den, gives)),
    );
  }

  pub collect_alike : (chosen : List ℕ) (sync : Predicate) (rate : Regex)
      → IsClear standing columns (collect chosen sync rate f)
      → IsAlike standing columns (collect chosen sync rate f) (collect chosen sync rate f')
  collect_alike chosen sync rate clear = record {
    clear = (a.clear, a.type ∙ clear.1, a.no_collect clear.2, clear.3, clear.4, clear.5);
    type = refl;
    words = λ word. ((λ in_rate. in_rate), (λ in_rate. in_rate));
    positions = refl;
    places = refl;
    inner = collect_keeps (size_of rate) (inner_of f) (inner_of f') (width_of f) (width_of f')
        a.inner (width_same columns f f' a.type);
    nodes = omega (arith, a.nodes);
    tests = ap (λ preds. sync ∷ preds_of rate ++ preds) a.tests;
    few_positions = λ few. (a.few_positions few.0, few.1);
    few_cells = a.few_cells;
    few_levels = λ few. (a.few_levels few.0, few.1, few.2);
    no_collect = λ none. none;
    means = λ word v is. (
      (λ (entries, in_rate, each, same). (
        entries,
        in_rate,
        entries_mapped (on_keys f chosen sync word) (on_keys f' chosen sync word)
            (λ key x. a.means (projection chosen sync key word) x (kept_word columns _ word is))
            (keys_after chosen sync [] word) entries each,
        same,
      )),
      (λ (entries, in_rate, each, same). (
        entries,
        in_rate,
        entries_mapped (on_keys f' chosen sync word) (on_keys f chosen sync word)
            (λ key x. turned_round columns (Den f) (Den f') a.means
            (projection chosen sync key word) x (kept_word columns _ word is))
            (keys_after chosen sync [] word) entries each,
        same,
      )),
    );
  }
