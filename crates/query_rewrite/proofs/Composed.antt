-- Where operands are rewritten, a composition stays alike.
use Rattle.std.proofs.Common.{◌≤◌, ◌↔◌, ◌∙◌, List, [], ◌∷◌, ap, sym, subst}
use Rattle.std.proofs.Common.{arith}
use Rattle.language_base.specs.Limits.{max_cells}
use Rattle.value_ops.specs.declared.value.Value.{Value}
use Rattle.value_ops.specs.declared.value.ValueType.{ValueType}
use Rattle.item_schema.specs.declared.column.Column.{Column}
use Rattle.predicate_cells.specs.Cells.{count_from}
use Rattle.rate_expr.specs.Language.{In}
use Rattle.rate_expr.specs.Words.{Word, IsWordOf}
use Rattle.query_model.specs.Bounds.{inner_of, places_of, width_of}
use Rattle.query_model.specs.Denotation.{Den, Outputs}
use Rattle.query_model.specs.Queries.{Qre, compose}
use Rattle.query_model.specs.QueryTypes.{derived_columns, type_of}
use Rattle.query_model.specs.Rates.{rate_of}
use Rattle.query_model.specs.Rules.{Standing, bound, free, IsClear, IsFedWell}
use Rattle.query_model.specs.Sizes.{HaveFewCells, predicates_of}
use Rattle.query_model.proofs.Typed.{den_typed, outputs_word}
use Rattle.query_rewrite.proofs.Alike.{IsAlike, width_same}
use Rattle.query_rewrite.proofs.Counts.{compose_keeps}
use Rattle.query_rewrite.proofs.Mapped.{outputs_mapped, turned_round}

-- what is fed well stays so where the rate has the same words
fed_still : (standing : Standing) (columns : List Column) (g g' : Qre)
    → ((word : Word) → In (rate_of g) word ↔ In (rate_of g') word)
    → IsFedWell standing columns g → IsFedWell standing columns g'
fed_still free columns g g' words fed = tt
fed_still bound columns g g' words fed = λ item more is. (words (item ∷ more)).0 (fed item more is)

-- the values of a query on the prefixes of a word are a word of its stream of values
pub outputs_are : (standing : Standing) (columns : List Column) (f : Qre) (word out : Word)
    → IsClear standing columns f → IsWordOf columns word → Outputs (Den f) [] word out
    → IsWordOf (derived_columns (type_of columns f)) out
outputs_are standing columns f word out clear is outputs =
    outputs_word columns (type_of columns f) (Den f)
    (λ part last part_is den. den_typed standing columns f part last clear part_is den) [] word
    out tt is outputs

module _ (standing : Standing) (columns : List Column) (f f' g g' : Qre)
    (clear : IsClear standing columns (compose f g))
    (a : IsAlike standing columns f f')
    (b : IsAlike standing (derived_columns (type_of columns f)) g g') where
  -- the stream of values is the same
  abbrev of_values : (ValueType → Type 0) → Type 0
  of_values P = P (type_of columns f) → P (type_of columns f')

  moved : (P : ValueType → Type 0) → of_values P
  moved P = subst P (sym a.type)

  composed_there : (word : Word) (v : Value) → IsWordOf columns word → Den (compose f g) word v
      → Den (compose f' g') word v
  composed_there word v is (x, out, den, outputs, outer) = (
    x,
    out,
    (a.means word x is).0 den,
    outputs_mapped columns (Den f) (Den f') a.means [] word out tt is outputs,
    (b.means out v (outputs_are standing columns f word out clear.0 is outputs)).0 outer,
  )

  composed_back : (word : Word) (v : Value) → IsWordOf columns word → Den (compose f' g') word v
      → Den (compose f g) word v
  composed_back word v is (x, out, den, outputs, outer) =
      let same = outputs_mapped columns (Den f') (Den f)
      (turned_round columns (Den f) (Den f') a.means) [] word out tt is outputs in (
        x,
        out,
        (a.means word x is).1 den,
        same,
        (b.means out v (outputs_are standing columns f word out clear.0 is same)).1 outer,
      )

  pub compose_alike : IsAlike standing columns (compose f g) (compose f' g')
  compose_alike = record {
    clear = (
      a.clear,
      moved (λ ty. IsClear standing (derived_columns ty) g') b.clear,
      b.no_collect clear.2,
      moved (λ ty. IsFedWell standing (derived_columns ty) g')
          (fed_still standing (derived_columns (type_of columns f)) g g' b.words clear.3),
    );
    type = ap (λ ty. type_of (derived_columns ty) g') a.type ∙ b.type;
    words = a.words;
    positions = a.positions;
    places = a.places;
    inner = compose_keeps (inner_of f) (inner_of f') (places_of f) (places_of f') (inner_of g)
        (inner_of g') (width_of g) (width_of g') a.inner a.places b.inner
        (width_same (derived_columns (type_of columns f)) g g' b.type);
    nodes = omega (arith, a.nodes, b.nodes);
    tests = a.tests;
    few_positions = λ few. (a.few_positions few.0, b.few_positions few.1);
    few_cells = λ few. (
      a.few_cells few.0,
      moved (λ ty. count_from 0 (derived_columns ty) (predicates_of g') ≤ max_cells)
          (subst (λ tests. count_from 0 (derived_columns (type_of columns f)) tests ≤ max_cells)
          (sym b.tests) few.1),
      moved (λ ty. HaveFewCells (derived_columns ty) g') (b.few_cells few.2),
    );
    few_levels = λ few. (a.few_levels few.0, b.few_levels few.1);
    no_collect = λ none. (a.no_collect none.0, b.no_collect none.1);
    means = λ word v is. (composed_there word v is, composed_back word v is);
  }
