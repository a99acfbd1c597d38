-- The first refusal in terms, part by part.
use Rattle.std.proofs.Common.{◌≡◌, ◌<◌, ◌+◌, ℕ, List, length, get_or, take, drop}
use Rattle.std.proofs.Common.{Option, Some, None, refl, sym, ap, ◌∙◌}
use Rattle.language_base.specs.declared.span.Span.{Span}
use Rattle.query_trees.specs.declared.tree.Tree.{Tree}
use Rattle.query_trees.specs.Trees.{Trees, none, leaf, call, tree_before, trees_of}
use Rattle.query_templates.specs.declared.refusal.TemplateRefusal.{TemplateRefusal}
use Rattle.query_templates.specs.declared.stop.TemplateStop.{TemplateStop}
use Rattle.query_templates.specs.declared.stop.TemplateStop.TheVariants.{Refused, Memory}
use Rattle.query_templates.specs.Excess.{call_excess, first_excess}
use Rattle.query_templates.specs.Expansion.{expanded}
use Rattle.query_templates.specs.Lists.{joined}
use Rattle.query_templates.specs.Refusals.{IsStopAt, first_of}
use Rattle.query_templates.specs.Templates.{Template, template_at}
use Rattle.query_templates.specs.Uses.{first_wrong_use, wrong_call}
use Rattle.query_templates.proofs.Lists.{parted_at, taken_more}

pub first-None : (a : Option TemplateRefusal) → first_of a None ≡ a
first-None None = refl
first-None (Some refusal) = refl

pub first-assoc : (a b c : Option TemplateRefusal)
    → first_of (first_of a b) c ≡ first_of a (first_of b c)
first-assoc None b c = refl
first-assoc (Some refusal) b c = refl

-- where the first is a refusal, it is the first of both
pub first_stops : (a b : Option TemplateRefusal) (stop : TemplateStop) → IsStopAt a stop
    → IsStopAt (first_of a b) stop
first_stops a b (Refused refusal) is = ap (λ f. first_of f b) is
first_stops a b Memory is = tt

-- where the first is none, it is the second
pub second_stops : (a b : Option TemplateRefusal) (stop : TemplateStop) → a ≡ None
    → IsStopAt b stop → IsStopAt (first_of a b) stop
second_stops a b (Refused refusal) free is = ap (λ f. first_of f b) free ∙ is
second_stops a b Memory free is = tt

pub both_none : (a b : Option TemplateRefusal) → a ≡ None → b ≡ None → first_of a b ≡ None
both_none a b free empty = ap (λ f. first_of f b) free ∙ empty

pub wrong-joined : (text : List ℕ) (templates : List Template) (parameters : Option (List Span))
    (a b : Trees) → first_wrong_use text templates parameters (joined a b)
    ≡ first_of (first_wrong_use text templates parameters a)
    (first_wrong_use text templates parameters b)
wrong-joined text templates parameters none b = refl
wrong-joined text templates parameters (leaf word rest) b =
    wrong-joined text templates parameters rest b
wrong-joined text templates parameters (call head arguments span rest) b =
    let one = wrong_call text templates parameters head arguments span in
    let inside = first_wrong_use text templates parameters arguments in
    let after = first_wrong_use text templates parameters rest in
    let others = first_wrong_use text templates parameters b in
    ap (λ f. first_of one (first_of inside f)) (wrong-joined text templates parameters rest b)
    ∙ ap (first_of one) (sym (first-assoc inside after others))
    ∙ sym (first-assoc one (first_of inside after) others)

pub excess-joined : (text : List ℕ) (templates : List Template) (a b : Trees)
    → first_excess text templates (joined a b)
    ≡ first_of (first_excess text templates a) (first_excess text templates b)
excess-joined text templates none b = refl
excess-joined text templates (leaf word rest) b = excess-joined text templates rest b
excess-joined text templates (call head arguments span rest) b =
    let inside = first_excess text templates arguments in
    let one = call_excess text (template_at text templates head.span) head
    (expanded text templates arguments) span in
    let after = first_excess text templates rest in
    let others = first_excess text templates b in
    ap (λ f. first_of inside (first_of one f)) (excess-joined text templates rest b)
    ∙ ap (first_of inside) (sym (first-assoc one after others))
    ∙ sym (first-assoc inside (first_of one after) others)

-- a first refusal by parts, over the trees of a list
module _ (f : Trees → Option TemplateRefusal)
    (parts : (a b : Trees) → f (joined a b) ≡ first_of (f a) (f b)) where
  -- none among one tree more
  pub none_more : (trees : List Tree) (at : ℕ) (tree : Tree) → at < length trees
      → tree ≡ get_or trees at tree → f (trees_of (take at trees)) ≡ None
      → f (tree_before tree none) ≡ None → f (trees_of (take (at + 1) trees)) ≡ None
  none_more trees at tree within is before one =
      ap f (taken_more trees at tree within is)
      ∙ parts (trees_of (take at trees)) (tree_before tree none)
      ∙ both_none (f (trees_of (take at trees))) (f (tree_before tree none)) before one

  -- the refusal of all is that of the first tree that has one
  pub one_of : (trees : List Tree) (at : ℕ) (tree : Tree) → at < length trees
      → tree ≡ get_or trees at tree → f (trees_of (take at trees)) ≡ None
      → f (trees_of trees) ≡ first_of (f (tree_before tree none))
      (f (trees_of (drop (at + 1) trees)))
  one_of trees at tree within is before =
      let front = trees_of (take at trees) in
      let rest = trees_of (drop (at + 1) trees) in
      ap f (parted_at trees at tree within is)
      ∙ parts front (joined (tree_before tree none) rest)
      ∙ ap (λ a. first_of a (f (joined (tree_before tree none) rest))) before
      ∙ parts (tree_before tree none) rest

  pub found_at : (trees : List Tree) (at : ℕ) (tree : Tree) → at < length trees
      → tree ≡ get_or trees at tree → f (trees_of (take at trees)) ≡ None
      → (refusal : TemplateRefusal) → Some refusal ≡ f (tree_before tree none)
      → Some refusal ≡ f (trees_of trees)
  found_at trees at tree within is before refusal one =
      sym (one_of trees at tree within is before
      ∙ ap (λ a. first_of a (f (trees_of (drop (at + 1) trees)))) (sym one))

  pub stops_at : (trees : List Tree) (at : ℕ) (tree : Tree) → at < length trees
      → tree ≡ get_or trees at tree → f (trees_of (take at trees)) ≡ None
      → (stop : TemplateStop) → IsStopAt (f (tree_before tree none)) stop
      → IsStopAt (f (trees_of trees)) stop
  stops_at trees at tree within is before (Refused refusal) one =
      sym (found_at trees at tree within is before refusal (sym one))
  stops_at trees at tree within is before Memory one = tt
