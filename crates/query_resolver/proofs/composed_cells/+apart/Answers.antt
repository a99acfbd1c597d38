use Rattle.std.proofs.Common.{◌≡◌, ◌∙◌, List, ap₂, inl, inr, refl, rules, sym}
use Rattle.std.specs.Option.{option_or}
use Rattle.std.proofs.lemmas.Result.{IfOk-weaker}
use Rattle.item_schema.specs.declared.column.Column.{Column}
use Rattle.query_model.specs.Queries.{plain_of}
use Rattle.query_model.specs.QueryTypes.{type_of}
use Rattle.query_model.specs.Rules.{bound}
use Rattle.query_model.specs.Sizes.{predicates_of}
use Rattle.predicate_cells.specs.Cells.{AllFit}
use Rattle.query_model.specs.declared.query.Shape.TheViews.{the_lemmas}
use Rattle.query_resolver.specs.Findings.{KeepsTypes, first_after}
use Rattle.query_resolver.proofs.Distinguished.{IsAbove, IsBeside, above, beside, compose_after}
use Rattle.query_resolver.proofs.Distinguished.{compose_keeps, here_after, on_stream}
use Rattle.query_resolver.proofs.Composing.{on_values}
use Rattle.query_resolver.proofs.Fitting.{all_fit}
use Rattle.query_resolver.proofs.composed_cells.+apart.Goals as goal

pub first_apart-first_of_two-requires : goal.first_apart-first_of_two-requires
first_apart-first_of_two-requires t c =
    let is : IsBeside c.args.query.now c.in-Or.first.value c.in-Or.second.value =
    elim c.in-Or.is [
      | inl is ↦ beside c.args.query.now _ c.in-Or.first.value c.in-Or.second.value is
          (λ columns kept. (kept.0, kept.1)) (λ columns standing span. refl) (λ columns. refl)
      | inr others ↦ elim others [
        | inl (value, is) ↦ beside c.args.query.now _ c.in-Or.first.value c.in-Or.second.value is
            (λ columns kept. (kept.0, kept.1)) (λ columns standing span. refl) (λ columns. refl)
        | inr (value, is) ↦ beside c.args.query.now _ c.in-Or.first.value c.in-Or.second.value is
            (λ columns kept. (kept.0, kept.1)) (λ columns standing span. refl) (λ columns. refl)
      ]
    ] in
    let keeps = is.keeps c.args.schema.now.columns c.requires in (
      search (rules, the_lemmas),
      (rw c.deref-in-Or.ensures keeps.0, rw c.deref-in-Or-2.ensures keeps.1),
    )

pub first_apart-returns-in-Or : goal.first_apart-returns-in-Or
first_apart-returns-in-Or t c =
    let is : IsBeside c.args.query.now c.in-Or.first.value c.in-Or.second.value =
    elim c.in-Or.is [
      | inl is ↦ beside c.args.query.now _ c.in-Or.first.value c.in-Or.second.value is
          (λ columns kept. (kept.0, kept.1)) (λ columns standing span. refl) (λ columns. refl)
      | inr others ↦ elim others [
        | inl (value, is) ↦ beside c.args.query.now _ c.in-Or.first.value c.in-Or.second.value is
            (λ columns kept. (kept.0, kept.1)) (λ columns standing span. refl) (λ columns. refl)
        | inr (value, is) ↦ beside c.args.query.now _ c.in-Or.first.value c.in-Or.second.value is
            (λ columns kept. (kept.0, kept.1)) (λ columns standing span. refl) (λ columns. refl)
      ]
    ] in
    IfOk-weaker c.first_of_two.result _ _ (λ found each standing.
    is.first c.args.schema.now.columns standing _ _ refl refl
    ∙ (rw (c.deref-in-Or.ensures, c.deref-in-Or-2.ensures) at (each bound)))
    c.first_of_two.ensures

pub first_apart-first_apart-requires : goal.first_apart-first_apart-requires
first_apart-first_apart-requires t c =
    let is : IsAbove c.args.query.now c.in-Iter.inner.value =
    elim c.in-Iter.is [
      | inl (number, step, is) ↦ above c.args.query.now _ c.in-Iter.inner.value is
          (λ columns kept. kept.0) (λ columns standing span. refl) (λ columns. refl)
      | inr others ↦ elim others [
        | inl (value, is) ↦ above c.args.query.now _ c.in-Iter.inner.value is
            (λ columns kept. kept.0) (λ columns standing span. refl) (λ columns. refl)
        | inr (key, sync, rate, is) ↦ above c.args.query.now _ c.in-Iter.inner.value is
            (λ columns kept. kept.0) (λ columns standing span. refl) (λ columns. refl)
      ]
    ] in (
      search (rules, the_lemmas),
      rw c.deref-in-Iter.ensures (is.keeps c.args.schema.now.columns c.requires),
    )

pub first_apart-returns-in-Iter : goal.first_apart-returns-in-Iter
first_apart-returns-in-Iter t c =
    let is : IsAbove c.args.query.now c.in-Iter.inner.value =
    elim c.in-Iter.is [
      | inl (number, step, is) ↦ above c.args.query.now _ c.in-Iter.inner.value is
          (λ columns kept. kept.0) (λ columns standing span. refl) (λ columns. refl)
      | inr others ↦ elim others [
        | inl (value, is) ↦ above c.args.query.now _ c.in-Iter.inner.value is
            (λ columns kept. kept.0) (λ columns standing span. refl) (λ columns. refl)
        | inr (key, sync, rate, is) ↦ above c.args.query.now _ c.in-Iter.inner.value is
            (λ columns kept. kept.0) (λ columns standing span. refl) (λ columns. refl)
      ]
    ] in
    IfOk-weaker c.first_apart.result _ _ (λ found each standing.
    is.first c.args.schema.now.columns standing found (rw c.deref-in-Iter.ensures at (each bound)))
    c.first_apart.ensures

pub first_apart-first_composed-requires : goal.first_apart-first_composed-requires
first_apart-first_composed-requires t c =
    let keeps = compose_keeps c.args.query.now _ c.in-Compose.first.value
    c.in-Compose.second.value c.in-Compose.is refl refl c.args.schema.now.columns c.requires in (
      search (rules, the_lemmas),
      (rw c.deref.ensures keeps.0, rw (c.deref.ensures, c.deref-in-Compose.ensures) keeps.1),
    )

pub first_apart-returns-in-Compose : goal.first_apart-returns-in-Compose
first_apart-returns-in-Compose t c =
    let f = c.in-Compose.first.value in let g = c.in-Compose.second.value in
    IfOk-weaker c.first_composed.result _ _ (λ found each standing.
    compose_after c.args.query.now _ f g c.in-Compose.is refl refl c.args.schema.now.columns
    standing _ _ refl refl ∙ (rw (c.deref.ensures, c.deref-in-Compose.ensures) at (each standing)))
    c.first_composed.ensures

-- of two operands
pub first_of_two-returns : goal.first_of_two-returns
first_of_two-returns t c = λ standing.
    ap₂ option_or (c.in_ok-left.ensures standing) (c.in_ok-right.ensures standing)
    ∙ sym c.or.ensures

-- of a composition
pub first_composed-returns : goal.first_composed-returns
first_composed-returns t c = λ standing.
    ap₂ option_or (c.in_ok-left.ensures standing) (sym (c.in_ok-after.ensures standing))
    ∙ sym c.or.ensures

-- after the first operand of a composition
pub first_after-values_of-requires : goal.first_after-values_of-requires
first_after-values_of-requires t c = c.requires.first

pub first_after-first_apart-requires : goal.first_after-first_apart-requires
first_after-first_apart-requires t c = (
  search (rules, the_lemmas),
  on_stream c.in_ok-values.values c.args.schema.now.columns c.args.first.now c.in_ok-values.ensures
      (λ cs. KeepsTypes cs (plain_of c.args.second.now.shape)) c.requires.second,
)

pub first_after-place_of_many-requires : goal.first_after-place_of_many-requires
first_after-place_of_many-requires t c =
    on_stream c.in_ok-values.values c.args.schema.now.columns c.args.first.now
    c.in_ok-values.ensures (λ cs. AllFit cs (predicates_of (plain_of c.args.second.now.shape)))
    (all_fit _ (plain_of c.args.second.now.shape) c.requires.second)

pub first_after-returns : goal.first_after-returns
first_after-returns t c = λ standing.
    on_values c.in_ok-values.values
    (type_of c.args.schema.now.columns (plain_of c.args.first.now.shape)) c.in_ok-values.ensures
    (λ (cs : List Column). c.or.result ≡ first_after cs standing c.args.second.now c.args.span)
    (c.or.ensures
    ∙ here_after c.in_ok-values.values.columns standing c.args.second.now c.args.span _ _
    (c.in_ok-right.ensures standing) c.in_ok-here.ensures)
