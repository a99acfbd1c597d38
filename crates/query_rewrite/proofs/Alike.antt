-- What rewriting keeps of a query that keeps the rules.
use Rattle.std.proofs.Common.{◌≡◌, ◌≤◌, ◌↔◌, ◌∙◌, List, refl, ap, sym, arith}
use Rattle.item_schema.specs.declared.column.Column.{Column}
use Rattle.rate_expr.specs.Language.{In}
use Rattle.rate_expr.specs.Rates.{size_of}
use Rattle.rate_expr.specs.Words.{Word}
use Rattle.query_model.specs.Bounds.{inner_of, nodes_of, places_of, width_of}
use Rattle.query_model.specs.Queries.{Qre}
use Rattle.query_model.specs.QueryTypes.{type_of}
use Rattle.query_model.specs.Rates.{rate_of}
use Rattle.query_model.specs.Rules.{Standing, HasNoCollect, IsClear}
use Rattle.query_model.specs.Sizes.{HasFewPositions, HaveFewCells, predicates_of}
use Rattle.query_model.proofs.Widths.{width_is, width_of_type}
use Rattle.query_rewrite.specs.Levels.{HasFewLevels}
use Rattle.query_rewrite.specs.Meanings.{MeanTheSame}

-- the second query keeps the rules, means what the first means, and is no larger
pub record IsAlike (standing : Standing) (columns : List Column) (p q : Qre) : Type 0 where
  pub clear : IsClear standing columns q
  pub type : type_of columns q ≡ type_of columns p
  pub words : (word : Word) → In (rate_of p) word ↔ In (rate_of q) word
  pub positions : size_of (rate_of q) ≡ size_of (rate_of p)
  pub places : places_of q ≡ places_of p
  pub inner : inner_of q ≤ inner_of p
  pub nodes : nodes_of q ≤ nodes_of p
  pub tests : predicates_of q ≡ predicates_of p
  pub few_positions : HasFewPositions p → HasFewPositions q
  pub few_cells : HaveFewCells columns p → HaveFewCells columns q
  pub few_levels : HasFewLevels p → HasFewLevels q
  pub no_collect : HasNoCollect p → HasNoCollect q
  pub means : MeanTheSame columns p q

-- queries of one type are equally wide
pub width_same : (columns : List Column) (p q : Qre) → type_of columns q ≡ type_of columns p
    → width_of q ≡ width_of p
width_same columns p q same =
    sym (width_is columns q) ∙ ap width_of_type same ∙ width_is columns p

pub alike_itself : (standing : Standing) (columns : List Column) (q : Qre)
    → IsClear standing columns q → IsAlike standing columns q q
alike_itself standing columns q clear = record {
  clear = clear;
  type = refl;
  words = λ word. ((λ is. is), (λ is. is));
  positions = refl;
  places = refl;
  inner = omega arith;
  nodes = omega arith;
  tests = refl;
  few_positions = λ few. few;
  few_cells = λ few. few;
  few_levels = λ few. few;
  no_collect = λ none. none;
  means = λ word v is. ((λ den. den), (λ den. den));
}

pub alike_twice : (standing : Standing) (columns : List Column) (p q r : Qre)
    → IsAlike standing columns p q → IsAlike standing columns q r → IsAlike standing columns p r
alike_twice standing columns p q r a b = record {
  clear = b.clear;
  type = b.type ∙ a.type;
  words = λ word. (
    (λ is. (b.words word).0 ((a.words word).0 is)),
    (λ is. (a.words word).1 ((b.words word).1 is)),
  );
  positions = b.positions ∙ a.positions;
  places = b.places ∙ a.places;
  inner = omega (arith, a.inner, b.inner);
  nodes = omega (arith, a.nodes, b.nodes);
  tests = b.tests ∙ a.tests;
  few_positions = λ few. b.few_positions (a.few_positions few);
  few_cells = λ few. b.few_cells (a.few_cells few);
  few_levels = λ few. b.few_levels (a.few_levels few);
  no_collect = λ none. b.no_collect (a.no_collect none);
  means = λ word v is. (
    (λ den. (b.means word v is).0 ((a.means word v is).0 den)),
    (λ den. (a.means word v is).1 ((b.means word v is).1 den)),
  );
}
