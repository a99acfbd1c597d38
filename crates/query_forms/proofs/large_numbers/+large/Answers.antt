use Rattle.std.proofs.Common.{◌≡◌, ap, arith, rules}
use Rattle.query_trees.specs.Trees.{none, call, tree_before, trees_of}
use Rattle.query_forms.proofs.Larges.{Left-at, Left-found, Left-lighter, Left-next, Left-of_text}
use Rattle.query_forms.proofs.Larges.{call_large}
use Rattle.query_forms.proofs.Parts.{weight}
use Rattle.query_forms.proofs.Trees.{call_before}
use Rattle.query_forms.proofs.large_numbers.+large.Goals as goal

pub first_large-large_in-requires : goal.first_large-large_in-requires
first_large-large_in-requires t c =
    let left = Left-at _ _ _ c.tree-item.result c.trees.invariant (omega arith) c.tree-item.is in
    let lighter = Left-lighter _ _ _ _ left in
    let of_text = Left-of_text _ _ _ _ left in
    search rules

pub first_large-returns-in-Some : goal.first_large-returns-in-Some
first_large-returns-in-Some t c =
    let left = Left-at _ _ _ c.tree-item.result c.trees.invariant (omega arith) c.tree-item.is in
    Left-found _ _ _ _ _ left c.in-Some.ensures

pub first_large-trees-preserved : goal.first_large-trees-preserved
first_large-trees-preserved t c =
    let left = Left-at _ _ _ c.tree-item.result c.trees.invariant (omega arith) c.tree-item.is in
    Left-next _ _ _ _ left c.in_default.ensures

pub large_in-first_large-requires : goal.large_in-first_large-requires
large_in-first_large-requires t c =
    let is = call_before _ c.in-Call.field-0 c.in-Call.arguments c.in-Call.field-2
    c.deref.result.now none c.in-Call.is c.deref.ensures.value in
    let of_text = rw is at c.requires in
    let falls : weight (tree_before c.args.tree.now none)
    ≡ weight (call c.in-Call.field-0 (trees_of c.deref.result.now) c.in-Call.field-2 none) =
    ap weight is in
    search rules

pub large_in-returns-in-Call : goal.large_in-returns-in-Call
large_in-returns-in-Call t c terms say =
    let is = call_before _ c.in-Call.field-0 c.in-Call.arguments c.in-Call.field-2
    c.deref.result.now none c.in-Call.is c.deref.ensures.value in
    call_large _ c.in-Call.field-0 (trees_of c.deref.result.now) c.in-Call.field-2 _
    c.first_large.ensures terms (rw is at say)
