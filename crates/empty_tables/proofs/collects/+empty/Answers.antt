use Rattle.std.proofs.Common.{ap, refl, subst, sym}
use Rattle.predicates.specs.Plain as predicates
use Rattle.query_model.specs.Queries.{plain_of}
use Rattle.query_model.specs.Rules.{IsClear}
use Rattle.query_model.specs.declared.query.Query.{Query}
use Rattle.query_model.specs.declared.query.Shape.{Shape}
use Rattle.rate_expr.specs.Plain as rates
use Rattle.empty_tables.specs.EmptyTables.{IsCollectIn, StaysEmpty, TakesKeys}
use Rattle.empty_tables.proofs.OwnCells.{not_if_false, so_if_true}
use Rattle.empty_tables.proofs.Tables.{stays_empty, takes_keys}
use Rattle.empty_tables.proofs.collects.+empty.Goals as goal

pub empty_in-returns-then-have_own_item : goal.empty_in-returns-then-have_own_item
empty_in-returns-then-have_own_item t c = λ node is.
    let query = c.args.query.now in
    let columns = c.args.cells.now.layout.columns in
    let same = subst (λ (s : Shape). IsCollectIn s query.span node) c.in-Collect.is is in
    let clear = subst (λ (s : Shape). IsClear c.requires.standing columns (plain_of s))
    c.in-Collect.is c.requires.clear in
    subst (λ (n : Query). TakesKeys columns (plain_of n.shape)) same
    (takes_keys columns c.in-Collect.field-0 (predicates.plain_of c.in-Collect.sync)
    (rates.plain_of c.in-Collect.rate) (plain_of c.in-Collect.field-3.value.shape)
    c.requires.standing clear
    (so_if_true _ c.have_own_item.ensures c.if-have_own_item.true))

pub empty_in-returns-else-have_own_item : goal.empty_in-returns-else-have_own_item
empty_in-returns-else-have_own_item t c =
    let query = c.args.query.now in
    let columns = c.args.cells.now.layout.columns in (
      query,
      subst (λ (s : Shape). IsCollectIn s query.span query) (sym c.in-Collect.is)
          (ap (λ (s : Shape). record { shape = s; span = query.span }) (sym c.in-Collect.is)),
      (
        refl,
        subst (λ (s : Shape). StaysEmpty columns (plain_of s)) (sym c.in-Collect.is)
            (stays_empty columns c.in-Collect.field-0 (predicates.plain_of c.in-Collect.sync)
            (rates.plain_of c.in-Collect.rate) (plain_of c.in-Collect.field-3.value.shape)
            (not_if_false _ c.have_own_item.ensures c.if-have_own_item.false)),
      ),
    )
