-- Terms that are not too large, and calls of them.
use Rattle.std.proofs.Common.{◌≡◌, ◌≤◌, ◌<◌, ◌+◌, ◌-◌, ◌^◌, ℕ, Bool, true, false, cond, List, min}
use Rattle.std.proofs.Common.{nat_lt, Option, None, Vec, Global, refl, sym, ap, ◌∙◌, subst, arith}
use Rattle.std.proofs.lemmas.Bool.Decides.{nat_tests}
use Rattle.language_base.specs.Limits.{max_level, max_text}
use Rattle.language_base.specs.declared.span.Span.{Span}
use Rattle.query_tokens.specs.declared.token.Token.{Token}
use Rattle.query_trees.specs.declared.tree.Tree.{Tree, Call}
use Rattle.query_trees.specs.Trees.{Trees, none, leaf, tree_before, trees_of}
use Rattle.query_templates.specs.declared.extent.Extent.{Extent}
use Rattle.query_templates.specs.declared.refusal.TemplateCause.TheVariants.{Deep, Large}
use Rattle.query_templates.specs.declared.refusal.TemplateRefusal.{TemplateRefusal}
use Rattle.query_templates.specs.declared.stop.TemplateStop.{TemplateStop}
use Rattle.query_templates.specs.Excess.{call_excess, excess, first_excess}
use Rattle.query_templates.specs.Expansion.{call_use, expanded, word_use}
use Rattle.query_templates.specs.Extents.{extent_of}
use Rattle.query_templates.specs.Measured.{IsExtentOf, IsMeasured, capped}
use Rattle.query_templates.specs.Refusals.{IsStopAt, first_of, refused}
use Rattle.query_templates.specs.Templates.{Template, template_at}
use Rattle.query_templates.proofs.Expanding.{call_expanded, word_expanded}
use Rattle.query_templates.proofs.Firsts.{both_none, first-None, first_stops, second_stops}
use Rattle.query_templates.proofs.Lists.{call_before}

-- the tests of a limit
tested : (used : ℕ) (exact : Extent) (place : Span) (large deep : Bool)
    → nat_lt max_text (used + exact.bytes) ≡ large → nat_lt max_level exact.levels ≡ deep
    → excess used exact place
    ≡ cond large (refused Large place) (cond deep (refused Deep place) None)
unfolding excess
tested used exact place large deep is_large is_deep =
    ap (λ (b : Bool). cond b (refused Large place)
    (cond (nat_lt max_level exact.levels) (refused Deep place) None)) is_large
    ∙ ap (λ (b : Bool). cond large (refused Large place) (cond b (refused Deep place) None)) is_deep

module _ (used : ℕ) (extent exact : Extent) (place : Span) (bytes : ℕ)
    (is : extent ≡ capped exact) (sum : bytes ≡ min (used + extent.bytes) (2 ^ 32 - 1)) where
  bytes_are : extent.bytes ≡ min exact.bytes (2 ^ 32 - 1)
  unfolding capped
  bytes_are = ap (λ (e : Extent). e.bytes) is

  levels_are : extent.levels ≡ min exact.levels (2 ^ 32 - 1)
  unfolding capped
  levels_are = ap (λ (e : Extent). e.levels) is

  pub is_admitted : bytes ≤ 65536 → extent.levels ≤ 64
      → (excess used exact place ≡ None) × (bytes ≡ used + exact.bytes)
  is_admitted few flat =
      let b = bytes_are in
      let l = levels_are in
      let total : used + exact.bytes ≤ 65536 = omega arith in
      let levels : exact.levels ≤ 64 = omega arith in
      let not_large : nat_lt max_text (used + exact.bytes) ≡ false = grind (arith, nat_tests) in
      let not_deep : nat_lt max_level exact.levels ≡ false = grind (arith, nat_tests) in
      (tested used exact place false false not_large not_deep, omega arith)

  pub is_large : 65536 < bytes → excess used exact place ≡ refused Large place
  is_large many =
      let b = bytes_are in
      let total : 65536 < used + exact.bytes = omega arith in
      let large : nat_lt max_text (used + exact.bytes) ≡ true = grind (arith, nat_tests) in
      tested used exact place true (nat_lt max_level exact.levels) large refl

  pub is_deep : bytes ≤ 65536 → 64 < extent.levels → excess used exact place ≡ refused Deep place
  is_deep few deep =
      let b = bytes_are in
      let l = levels_are in
      let total : used + exact.bytes ≤ 65536 = omega arith in
      let levels : 64 < exact.levels = omega arith in
      let not_large : nat_lt max_text (used + exact.bytes) ≡ false = grind (arith, nat_tests) in
      let too_deep : nat_lt max_level exact.levels ≡ true = grind (arith, nat_tests) in
      tested used exact place false true not_large too_deep

-- a word by itself is measured by what it stands for
pub word_measured : (text : List ℕ) (templates : List Template) (word : Token)
    (found : Option Template) (extent : Extent) → template_at text templates word.span ≡ found
    → IsExtentOf (word_use text found word) extent
    → IsMeasured text templates (leaf word none) extent
word_measured text templates word found extent is measured = record {
  none_large = refl;
  is = measured
      ∙ ap (λ (t : Trees). capped (extent_of t)) (word_expanded text templates word found is);
}

-- a call
module _ (text : List ℕ) (templates : List Template) (tree : Tree) (head : Token)
    (inner : Vec Tree Global) (span : Span) (list : List Tree) (is : tree ≡ Call head inner span)
    (items : list ≡ inner.items) where
  abbrev arguments : Trees
  arguments = expanded text templates (trees_of list)

  abbrev of_call : Option TemplateRefusal
  of_call = call_excess text (template_at text templates head.span) head arguments span

  excess_here : first_excess text templates (tree_before tree none)
      ≡ first_of (first_excess text templates (trees_of list)) of_call
  excess_here =
      ap (first_excess text templates) (call_before tree head inner span list none is items)
      ∙ ap (first_of (first_excess text templates (trees_of list))) (first-None of_call)

  pub inner_stops : (stop : TemplateStop)
      → IsStopAt (first_excess text templates (trees_of list)) stop
      → IsStopAt (first_excess text templates (tree_before tree none)) stop
  inner_stops stop inside =
      subst (λ (f : Option TemplateRefusal). IsStopAt f stop) (sym excess_here)
      (first_stops (first_excess text templates (trees_of list)) of_call stop inside)

  pub call_stops : (stop : TemplateStop) → first_excess text templates (trees_of list) ≡ None
      → IsStopAt of_call stop → IsStopAt (first_excess text templates (tree_before tree none)) stop
  call_stops stop small here =
      subst (λ (f : Option TemplateRefusal). IsStopAt f stop) (sym excess_here)
      (second_stops (first_excess text templates (trees_of list)) of_call stop small here)

  pub call_is_measured : (extent : Extent) → first_excess text templates (trees_of list) ≡ None
      → of_call ≡ None
      → IsExtentOf (call_use text (template_at text templates head.span) head arguments span) extent
      → IsMeasured text templates (tree_before tree none) extent
  call_is_measured extent small here measured = record {
    none_large = excess_here
        ∙ both_none (first_excess text templates (trees_of list)) of_call small here;
    is = measured ∙ ap (λ (t : Trees). capped (extent_of t))
        (call_expanded text templates tree head inner span list is items
        (call_use text (template_at text templates head.span) head arguments span) arguments
        refl refl);
  }
