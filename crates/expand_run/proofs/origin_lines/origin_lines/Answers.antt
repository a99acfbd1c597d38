use Rattle.std.proofs.Common.{ap, ◌∙◌}
use Rattle.std.proofs.lemmas.Result.{err_from_is_err_and}
use Rattle.query_parser.proofs.Passes.{bytes_small}
use Rattle.query_trees.specs.Trees.{trees_of}
use Rattle.expand_run.specs.OriginLines.{ArePlacesIn, node_lines}
use Rattle.expand_run.proofs.Stopping.{origins_long}
use Rattle.expand_run.proofs.origin_lines.origin_lines.Goals as goal

pub returns-in_err-places-clause-stopped : goal.returns-in_err-places-clause-stopped
returns-in_err-places-clause-stopped c =
    let p = err_from_is_err_and c.from_residual-in_err-places.result
    c.from_residual-in_err-places.ensures.1 in
    rw (p.1, p.2) (origins_long c.args.text.now c.in_ok-made.made.bytes
    (bytes_small c.args.text.now c.type_inv.text) c.in_ok-made.ensures.made.written _
    (rw c.as_slice.ensures at c.in_err-places.ensures.stopped))

pub returns-clause-lines : goal.returns-clause-lines
returns-clause-lines c =
    let text = c.args.text.now in
    let made = c.in_ok-made.ensures.made in
    let plain = c.in_ok-made.made.bytes in
    let list = trees_of c.in_ok-made.made.trees.items in
    let places = c.in_ok-places.places.items in
    let are : ArePlacesIn plain places =
    rw c.as_slice.ensures at c.in_ok-places.ensures.places in
    record {
      trees = list;
      has = made.has;
      plain = plain;
      expansion = made.written;
      places = places;
      are = are;
      is = c.in_ok-node_lines.ensures
          ∙ ap (λ p. node_lines p c.deref-4.result.now) c.deref-3.ensures.value
          ∙ ap (λ o. node_lines places o) (c.deref-4.ensures.value
          ∙ (rw c.deref.ensures.value at c.in_ok-origins.ensures));
    }
