-- Where operands are rewritten, a query of two operands on one stream stays alike.
use Rattle.std.proofs.Common.{◌≡◌, ◌∙◌, ◌+◌, ◌⊎◌, List, sym, arith}
use Rattle.std.proofs.Common.{◌++◌, inl, inr}
use Rattle.expressions.specs.Expressions.{Expression}
use Rattle.item_schema.specs.declared.column.Column.{Column}
use Rattle.rate_expr.specs.Words.{IsWordOf}
use Rattle.rate_expr.proofs.Wording.{word_parts}
use Rattle.query_model.specs.Bounds.{inner_of, places_of, width_of}
use Rattle.query_model.specs.Queries.{Qre, choice, split, combine}
use Rattle.query_model.specs.QueryTypes.{of_two, type_of_expression}
use Rattle.query_model.specs.Rules.{Standing, bound, IsClear}
use Rattle.query_model.specs.Sizes.{predicates_of}
use Rattle.query_rewrite.proofs.Alike.{IsAlike, width_same}
use Rattle.query_rewrite.proofs.Counts.{split_keeps}
use Rattle.std.proofs.Common.{subst}

-- either of two, each mapped
either_mapped : {A B A' B' : Type 0} → (A → A') → (B → B') → A ⊎ B → A' ⊎ B'
either_mapped left right (inl x) = inl (left x)
either_mapped left right (inr y) = inr (right y)

module _ (standing : Standing) (columns : List Column) (f f' g g' : Qre)
    (a : IsAlike bound columns f f') (b : IsAlike bound columns g g') where
  both_tests : predicates_of f' ++ predicates_of g' ≡ predicates_of f ++ predicates_of g
  both_tests = λ i. a.tests i ++ b.tests i

  pub choice_alike : IsClear standing columns (choice f g)
      → IsAlike standing columns (choice f g) (choice f' g')
  choice_alike clear = record {
    clear = (
      a.clear,
      b.clear,
      b.type ∙ clear.2 ∙ sym a.type,
      (λ word is left right.
          clear.3 word is ((a.words word).1 left) ((b.words word).1 right)),
    );
    type = a.type;
    words = λ word. (
      either_mapped (a.words word).0 (b.words word).0,
      either_mapped (a.words word).1 (b.words word).1,
    );
    positions = omega (arith, a.positions, b.positions);
    places = omega (arith, a.places, b.places);
    inner = omega (arith, a.inner, b.inner);
    nodes = omega (arith, a.nodes, b.nodes);
    tests = both_tests;
    few_positions = λ few. (
      a.few_positions few.0,
      b.few_positions few.1,
      omega (arith, a.positions, b.positions, few.2),
    );
    few_cells = λ few. (a.few_cells few.0, b.few_cells few.1);
    few_levels = λ few. (a.few_levels few.0, b.few_levels few.1);
    no_collect = λ none. (a.no_collect none.0, b.no_collect none.1);
    means = λ word v is. (
      either_mapped (a.means word v is).0 (b.means word v is).0,
      either_mapped (a.means word v is).1 (b.means word v is).1,
    );
  }

  pub split_alike : (e : Expression) → IsClear standing columns (split f g e)
      → IsAlike standing columns (split f g e) (split f' g' e)
  split_alike e clear = record {
    clear = (
      a.clear,
      b.clear,
      rw (a.type, b.type) clear.2,
      (λ u v u' v' is first second first' second'.
          clear.3 u v u' v' is ((a.words u).1 first) ((b.words v).1 second) ((a.words u').1 first')
          ((b.words v').1 second')),
    );
    type = λ i. type_of_expression (of_two (a.type i) (b.type i)) e;
    words = λ word. (
      (λ (u, v, whole, left, right).
          (u, v, whole, (a.words u).0 left, (b.words v).0 right)),
      (λ (u, v, whole, left, right).
          (u, v, whole, (a.words u).1 left, (b.words v).1 right)),
    );
    positions = omega (arith, a.positions, b.positions);
    places = omega (arith, a.places, b.places);
    inner = split_keeps (inner_of f) (inner_of f') (inner_of g) (inner_of g') (width_of f)
        (width_of f') (places_of g) (places_of g') a.inner b.inner
        (width_same columns f f' a.type) b.places;
    nodes = omega (arith, a.nodes, b.nodes);
    tests = both_tests;
    few_positions = λ few. (
      a.few_positions few.0,
      b.few_positions few.1,
      omega (arith, a.positions, b.positions, few.2),
    );
    few_cells = λ few. (a.few_cells few.0, b.few_cells few.1);
    few_levels = λ few. (a.few_levels few.0, b.few_levels few.1, few.2);
    no_collect = λ none. (a.no_collect none.0, b.no_collect none.1);
    means = λ word v is. (
      (λ (first, second, x, y, whole, left, right, gives).
          let parts = word_parts columns first second (subst (IsWordOf columns) whole is) in (
            first,
            second,
            x,
            y,
            whole,
            (a.means first x parts.0).0 left,
            (b.means second y parts.1).0 right,
            gives,
          )),
      (λ (first, second, x, y, whole, left, right, gives).
          let parts = word_parts columns first second (subst (IsWordOf columns) whole is) in (
            first,
            second,
            x,
            y,
            whole,
            (a.means first x parts.0).1 left,
            (b.means second y parts.1).1 right,
            gives,
          )),
    );
  }

  pub combine_alike : (e : Expression) → IsClear standing columns (combine f g e)
      → IsAlike standing columns (combine f g e) (combine f' g' e)
  combine_alike e clear = record {
    clear = (
      a.clear,
      b.clear,
      rw (a.type, b.type) clear.2,
      (λ word is. (
        (λ left. (b.words word).0 ((clear.3 word is).0 ((a.words word).1 left))),
        (λ right. (a.words word).0 ((clear.3 word is).1 ((b.words word).1 right))),
      )),
    );
    type = λ i. type_of_expression (of_two (a.type i) (b.type i)) e;
    words = a.words;
    positions = a.positions;
    places = omega (arith, a.places, b.places);
    inner = omega (arith, a.inner, b.inner);
    nodes = omega (arith, a.nodes, b.nodes);
    tests = both_tests;
    few_positions = λ few. (a.few_positions few.0, b.few_positions few.1);
    few_cells = λ few. (a.few_cells few.0, b.few_cells few.1);
    few_levels = λ few. (a.few_levels few.0, b.few_levels few.1, few.2);
    no_collect = λ none. (a.no_collect none.0, b.no_collect none.1);
    means = λ word v is. (
      (λ (x, y, left, right, gives).
          (x, y, (a.means word x is).0 left, (b.means word y is).0 right, gives)),
      (λ (x, y, left, right, gives).
          (x, y, (a.means word x is).1 left, (b.means word y is).1 right, gives)),
    );
  }
