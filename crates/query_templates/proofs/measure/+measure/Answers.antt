use Rattle.std.proofs.Common.{◌≡◌, ◌∷◌, ◌++◌, [], List, None, rules, sym, ap, subst, ◌∙◌, take}
use Rattle.std.proofs.lemmas.Result.{err_from_is_err_and}
use Rattle.query_trees.specs.Trees.{Trees, none, tree_before, trees_of}
use Rattle.query_templates.specs.declared.extent.Extent.{Extent}
use Rattle.query_templates.specs.Excess.{call_excess, first_excess}
use Rattle.query_templates.specs.Expansion.{call_use, expanded}
use Rattle.query_templates.specs.Lists.{joined}
use Rattle.query_templates.specs.Measured.{AreExtents, IsExtentOf, IsMeasured}
use Rattle.query_templates.specs.Plain.{templates_of}
use Rattle.query_templates.specs.Refusals.{IsStopAt}
use Rattle.query_templates.specs.Templates.{template_at}
use Rattle.query_templates.proofs.Admitting.{call_is_measured, call_stops, inner_stops}
use Rattle.query_templates.proofs.Expanding.{expanded-joined}
use Rattle.query_templates.proofs.Firsts.{excess-joined, none_more, stops_at}
use Rattle.query_templates.proofs.Lists.{taken_more}
use Rattle.query_templates.proofs.Measuring.{counted_more}
use Rattle.query_templates.proofs.Singles.{each_more, one_expanded}
use Rattle.query_templates.proofs.Using.{err_map, ok_map}
use Rattle.query_templates.proofs.measure.+measure.Goals as goal

pub measured-returns-in_err-extents-in-Call-clause-stopped :
    goal.measured-returns-in_err-extents-in-Call-clause-stopped
measured-returns-in_err-extents-in-Call-clause-stopped t c =
    let templates = templates_of c.args.templates.now in
    let err = err_from_is_err_and c.from_residual.result c.from_residual.ensures.1 in
    rw (err.1, err.2) (inner_stops c.args.text.now templates c.args.tree.now
    c.in-Call.head c.in-Call.arguments c.in-Call.span c.deref.result.now c.in-Call.is
    c.deref.ensures.value _
    c.in_err-extents-in-Call.ensures.stopped)

pub measured-returns-in_ok-extents-in-Call-clause-measured :
    goal.measured-returns-in_ok-extents-in-Call-clause-measured
measured-returns-in_ok-extents-in-Call-clause-measured t c =
    let text = c.args.text.now in
    let templates = templates_of c.args.templates.now in
    let have = c.in_ok-extents-in-Call.ensures.measured in
    let arguments = expanded text templates (trees_of c.deref.result.now) in
    let found = template_at text templates c.in-Call.head.span in
    ok_map c.call_measured.result (λ (extent : Extent).
    (call_excess text found c.in-Call.head arguments c.in-Call.span ≡ None)
    × IsExtentOf (call_use text found c.in-Call.head arguments c.in-Call.span) extent)
    (IsMeasured text templates (tree_before c.args.tree.now none))
    (λ extent both. call_is_measured text templates c.args.tree.now c.in-Call.head
    c.in-Call.arguments c.in-Call.span c.deref.result.now c.in-Call.is c.deref.ensures.value extent
    have.none_large both.0 both.1)
    (c.call_measured.ensures.measured arguments have.have)

pub measured-returns-in_ok-extents-in-Call-clause-stopped :
    goal.measured-returns-in_ok-extents-in-Call-clause-stopped
measured-returns-in_ok-extents-in-Call-clause-stopped t c =
    let text = c.args.text.now in
    let templates = templates_of c.args.templates.now in
    let have = c.in_ok-extents-in-Call.ensures.measured in
    let arguments = expanded text templates (trees_of c.deref.result.now) in
    let found = template_at text templates c.in-Call.head.span in
    err_map c.call_measured.result
    (IsStopAt (call_excess text found c.in-Call.head arguments c.in-Call.span))
    (IsStopAt (first_excess text templates (tree_before c.args.tree.now none)))
    (λ stop here. call_stops text templates c.args.tree.now c.in-Call.head c.in-Call.arguments
    c.in-Call.span c.deref.result.now c.in-Call.is c.deref.ensures.value stop have.none_large here)
    (c.call_measured.ensures.stopped arguments have.have)

pub measured_all-returns-in_err-extent-clause-stopped :
    goal.measured_all-returns-in_err-extent-clause-stopped
measured_all-returns-in_err-extent-clause-stopped t c =
    let text = c.args.text.now in
    let templates = templates_of c.args.templates.now in
    let err = err_from_is_err_and c.from_residual.result c.from_residual.ensures.1 in
    rw (err.1, err.2) (stops_at (first_excess text templates)
    (excess-joined text templates) c.args.trees.now c.trees.tree-index c.tree-item.result
    c.trees-test.true c.tree-item.is c.trees.invariant.none_large _
    c.in_err-extent.ensures.stopped)

pub measured_all-trees-preserved : goal.measured_all-trees-preserved
measured_all-trees-preserved t c =
    let text = c.args.text.now in
    let templates = templates_of c.args.templates.now in
    let before = c.trees.invariant in
    let one = c.in_ok-extent.ensures.measured in
    let front = trees_of (take c.trees.tree-index c.args.trees.now) in
    let single = expanded text templates (tree_before c.tree-item.result none) in
    let grew : c.push.new.self.items ≡ c.trees.each.items ++ c.in_ok-extent.extent ∷ [] =
    search rules in
    let grown = each_more c.trees.each.items (expanded text templates front) c.in_ok-extent.extent
    single before.have.each (one_expanded text c.args.templates.now c.tree-item.result) one.is in
    record {
      none_large = none_more (first_excess text templates) (excess-joined text templates)
          c.args.trees.now c.trees.tree-index c.tree-item.result c.trees-test.true c.tree-item.is
          before.none_large one.none_large;
      have = record {
        all = counted_more (expanded text templates) (expanded-joined text templates)
            c.args.trees.now c.trees.tree-index c.tree-item.result c.trees-test.true
            c.tree-item.is c.beside-all.result (c.beside-all.ensures _ _ before.have.all one.is);
        each = subst (λ (terms : Trees). AreExtents c.push.new.self.items terms)
            (sym (expanded-joined text templates front (tree_before c.tree-item.result none))
            ∙ ap (expanded text templates) (sym (taken_more c.args.trees.now c.trees.tree-index
            c.tree-item.result c.trees-test.true c.tree-item.is)))
            (subst (λ (l : List Extent). AreExtents l (joined (expanded text templates front) single))
            (sym grew) grown);
      };
    }
