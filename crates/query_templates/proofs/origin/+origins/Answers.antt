use Rattle.std.proofs.Common.{◌≡◌, ◌++◌, ◌∷◌, [], Some, length, length-append, min}
use Rattle.std.proofs.Common.{take, refl, rules, sym, ap, ◌∙◌, arith}
use Rattle.std.proofs.lemmas.Slice.Zip.{zip_end, zip_turn}
use Rattle.query_trees.specs.declared.tree.Tree.{Tree}
use Rattle.query_trees.specs.Trees.{none, tree_before, trees_of}
use Rattle.query_templates.specs.declared.origin.Use.{Use}
use Rattle.query_templates.specs.Appended.{AreAppended}
use Rattle.query_templates.specs.Expansion.{expanded, word_use}
use Rattle.query_templates.specs.Origins.{came_of, node_places, origins_of, word_origins}
use Rattle.query_templates.specs.Plain.{plain_template, templates_of}
use Rattle.query_templates.specs.Templates.{template_at}
use Rattle.query_templates.proofs.Lists.{joined-none}
use Rattle.query_templates.proofs.NodePlaces.{listed_all, listed_more}
use Rattle.query_templates.proofs.Tracing.{as_many, beside_at, ok_given, origins-joined}
use Rattle.query_templates.proofs.Tracing.{own_arguments, own_call, used_call, word_alone}
use Rattle.query_templates.proofs.Using.{ok_map}
use Rattle.query_templates.proofs.origin.+origins.Goals as goal

pub add_all-terms-preserved : goal.add_all-terms-preserved
add_all-terms-preserved t c = λ is.
    let text = c.args.text.now in
    let templates = templates_of c.args.templates.now in
    let trees = c.args.trees.now in
    let tree = c.in-Some.tree.now in
    let made = c.in-Some.made.now in
    let old = c.args.origins.now.items in
    let at = length c.terms.yielded in
    let turn = zip_turn trees c.args.plain.now c.terms.yielded
    c.into_iter-tree-iterator.result c.terms.tree-iterator c.next.new.self c.next.result
    (search rules) (search rules) c.terms.yielded_by (c.in-Some.tree, c.in-Some.made)
    c.in-Some.is c.next.ensures.steps in
    listed_more (origins_of text templates) (origins-joined text templates) trees at tree turn.0
    (turn.2 tree) old c.terms.origins.items c.add_each.new.origins.items (c.terms.invariant is)
    (c.in_ok-add_each.ensures (beside_at text c.args.templates.now trees c.args.plain.now at tree
    made is turn.0 turn.1 (turn.2 tree) (turn.3 made)))
    ∙ ap (λ n. old ++ origins_of text templates (trees_of (take n trees)))
    (sym (length-append c.terms.yielded ((c.in-Some.tree, c.in-Some.made) ∷ [])))

pub add_all-returns : goal.add_all-returns
add_all-returns t c = λ is.
    let text = c.args.text.now in
    let templates = templates_of c.args.templates.now in
    let trees = c.args.trees.now in
    let plain = c.args.plain.now in
    let turns : length c.terms.yielded ≡ min (length trees) (length plain) =
    zip_end trees plain c.terms.yielded c.into_iter-tree-iterator.result c.terms.tree-iterator
    c.next.new.self c.next.result (search rules) (search rules) c.terms.yielded_by c.in-None.is
    c.next.ensures.steps in
    let many = as_many text c.args.templates.now trees plain is in
    listed_all (origins_of text templates) (origins-joined text templates) trees
    (length c.terms.yielded) (omega (arith, turns, many)) c.args.origins.now.items
    c.terms.origins.items (c.terms.invariant is)

pub add_each-returns-in-Leaf : goal.add_each-returns-in-Leaf
add_each-returns-in-Leaf t c =
    let text = c.args.text.now in
    let templates = templates_of c.args.templates.now in
    let old = c.args.origins.now.items in
    let new = c.add_word.new.origins.items in
    let tree = c.args.tree.now in
    let made = tree_before c.args.made.now none in
    let word = c.in-Leaf.word in
    let found = template_at text templates word.span in
    ok_given c.add_word.result (made ≡ word_use text found word)
    (new ≡ old ++ word_origins text found word)
    (made ≡ expanded text templates (tree_before tree none))
    (new ≡ old ++ origins_of text templates (tree_before tree none))
    (λ is. is ∙ ap (λ (t : Tree). expanded text templates (tree_before t none)) c.in-Leaf.is
    ∙ joined-none (word_use text found word))
    (λ more. more ∙ ap (λ l. old ++ l) (word_alone text templates word
    ∙ ap (λ (t : Tree). origins_of text templates (tree_before t none)) (sym c.in-Leaf.is)))
    c.add_word.ensures

pub add_each-returns-in-Some : goal.add_each-returns-in-Some
add_each-returns-in-Some t c =
    let text = c.args.text.now in
    let templates = templates_of c.args.templates.now in
    let old = c.args.origins.now.items in
    let new = c.add_used.new.origins.items in
    let terms = tree_before c.args.tree.now none in
    let made = tree_before c.args.made.now none in
    ok_map c.add_used.result
    (λ _. new ≡ old ++ came_of (Some c.use_at.result) (node_places made))
    (λ _. AreAppended text templates terms made old new)
    (λ _ more is. more
    ∙ ap (λ (u : Use). old ++ came_of (Some u) (node_places made)) c.use_at.ensures
    ∙ ap (λ l. old ++ l) (used_call text templates c.args.tree.now c.in-Call.head
    c.in-Call.arguments c.in-Call.span c.in-Call.arguments.items c.in-Call.is refl
    (plain_template c.in-Some.template.now) c.in-Some.ensures made is))
    c.add_used.ensures

pub add_each-returns-in_ok-add_own-in-None-2 : goal.add_each-returns-in_ok-add_own-in-None-2
add_each-returns-in_ok-add_own-in-None-2 t c =
    let text = c.args.text.now in
    let templates = templates_of c.args.templates.now in
    let old = c.args.origins.now.items in
    let one = c.add_own.new.origins.items in
    let two = c.add_own-in-None.new.origins.items in
    let new = c.add_all.new.origins.items in
    let tree = c.args.tree.now in
    let made = tree_before c.args.made.now none in
    let head = c.in-Call.head in
    let inner = c.in-Call.arguments in
    let span = c.in-Call.span in
    let list = c.deref.result.now in
    ok_map c.add_all.result
    (λ _. AreAppended text templates (trees_of list) (trees_of c.arguments_of.result.now) two new)
    (λ _. AreAppended text templates (tree_before tree none) made old new)
    (λ _ more is. own_call text templates tree head inner span list c.in-Call.is
    c.deref.ensures.value c.in-None.ensures old one two new c.in_ok-add_own-in-None.ensures
    c.in_ok-add_own-in-None-2.ensures
    (more (c.arguments_of.ensures ∙ own_arguments text templates tree head inner span list
    c.in-Call.is c.deref.ensures.value c.in-None.ensures made is)))
    c.add_all.ensures
