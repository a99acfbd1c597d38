-- Arguments of another kind, term by term.
use Rattle.std.proofs.Common.{◌≡◌, ◌≤◌, ◌<◌, ℕ, zero, suc, Bool, true, false, cond, not, List, []}
use Rattle.std.proofs.Common.{◌∷◌, length, get_or}
use Rattle.std.proofs.Common.{Option, Some, None, Bor, Vec, Global, MatchOption, refl, sym, ap}
use Rattle.std.proofs.Common.{subst}
use Rattle.std.proofs.Common.{◌∙◌, arith}
use Rattle.std.specs.Option.{is_none, is_some}
use Rattle.language_base.specs.declared.span.Span.{Span}
use Rattle.query_tokens.specs.declared.token.Token.{Token}
use Rattle.query_trees.specs.declared.tree.Tree.{Tree, Leaf, Call, Call'}
use Rattle.query_trees.specs.Trees.{Trees, none, leaf, call, tree_before, trees_of}
use Rattle.query_forms.specs.declared.term_place.TermPlace.{TermPlace}
use Rattle.query_templates.specs.declared.refusal.TemplateCause.{TemplateCause}
use Rattle.query_templates.specs.declared.refusal.TemplateCause.TheVariants.{OtherKind}
use Rattle.query_templates.specs.declared.refusal.TemplateRefusal.{TemplateRefusal}
use Rattle.query_templates.specs.declared.standing.Standing.{Standing}
use Rattle.query_templates.specs.declared.stop.TemplateStop.{TemplateStop}
use Rattle.query_templates.specs.Expansion.{call_use, expanded}
use Rattle.query_templates.specs.Fronts.{place_of}
use Rattle.query_templates.specs.Kinds.{places_inside}
use Rattle.query_templates.specs.Lists.{joined}
use Rattle.query_templates.specs.Made.{AreExpanded}
use Rattle.query_templates.specs.Misfits.{call_misfit, is_other, misfit, misfit_in, only_at}
use Rattle.query_templates.specs.Misfits.{refused_term}
use Rattle.query_templates.specs.Refusals.{IsStopAt, first_of, refused}
use Rattle.query_templates.specs.Templates.{Template, template_at}
use Rattle.query_templates.proofs.Expanding.{call_expanded}
use Rattle.query_templates.proofs.Firsts.{both_none, first-None, first-assoc, first_stops}
use Rattle.query_templates.proofs.Firsts.{second_stops}
use Rattle.query_templates.proofs.Lists.{call_before, count-trees}

-- a tree by itself is among a list of trees
pub only-inside : (trees : List Tree) (at : ℕ) (tree : Tree) → at < length trees
    → tree ≡ get_or trees at tree → only_at (trees_of trees) at ≡ tree_before tree none
only-inside [] at tree within is = absurd (omega arith)
only-inside (Leaf token ∷ trees) zero tree within is =
    ap (λ (t : Tree). tree_before t none) (sym is)
only-inside (Call' head shape inner span ∷ trees) zero tree within is =
    ap (λ (t : Tree). tree_before t none) (sym is)
only-inside (Leaf token ∷ trees) (suc at) tree within is =
    only-inside trees at tree (omega arith) is
only-inside (Call' head shape inner span ∷ trees) (suc at) tree within is =
    only-inside trees at tree (omega arith) is

pub only-outside : (trees : List Tree) (at : ℕ) → length trees ≤ at
    → only_at (trees_of trees) at ≡ none
only-outside [] at past = refl
only-outside (Leaf token ∷ trees) zero past = absurd (omega arith)
only-outside (Call' head shape inner span ∷ trees) zero past = absurd (omega arith)
only-outside (Leaf token ∷ trees) (suc at) past = only-outside trees at (omega arith)
only-outside (Call' head shape inner span ∷ trees) (suc at) past =
    only-outside trees at (omega arith)

-- a cause at a tree
refused_tree : (cause : TemplateCause) (tree : Tree)
    → refused_term cause (tree_before tree none) ≡ refused cause (place_of tree)
refused_tree cause (Leaf word) = refl
refused_tree cause (Call' head shape arguments span) = refl

pub refused_inside : (cause : TemplateCause) (trees : List Tree) (at : ℕ) (tree : Tree)
    → at < length trees → tree ≡ get_or trees at tree → (place : Span) → place ≡ place_of tree
    → refused cause place ≡ refused_term cause (only_at (trees_of trees) at)
refused_inside cause trees at tree within is place place_is =
    ap (refused cause) place_is ∙ sym (refused_tree cause tree)
    ∙ sym (ap (refused_term cause) (only-inside trees at tree within is))

pub refused_outside : (cause : TemplateCause) (trees : List Tree) (at : ℕ) → length trees ≤ at
    → None ≡ refused_term cause (only_at (trees_of trees) at)
refused_outside cause trees at past =
    sym (ap (refused_term cause) (only-outside trees at past))

-- a list that is lent or missing, and the same list
missing : (lent : Option (Bor (List TermPlace))) (found : Option (List TermPlace))
    → MatchOption lent (found ≡ None) (λ places. found ≡ Some places.now)
    → is_none lent ≡ is_none found
missing None found is = sym (ap (λ (o : Option (List TermPlace)). is_none o) is)
missing (Some places) found is = sym (ap (λ (o : Option (List TermPlace)). is_none o) is)

pub none_said : {X : Type 0} (o : Option X) (said : Bool) → is_some o ≡ not said
    → said ≡ is_none o
none_said o true is = sym (ap not is)
none_said o false is = sym (ap not is)

pub call_other : (text : List ℕ) (parameters : Option (List Span)) (place : Span) (one : Standing)
    (tree : Tree) (head : Token) (inner : Vec Tree Global) (span : Span) (list : List Tree)
    → tree ≡ Call head inner span → list ≡ inner.items → (count : ℕ) → count ≡ length list
    → (lent : Option (Bor (List TermPlace)))
    → MatchOption lent (places_inside text one.at head.span count ≡ None)
    (λ places. places_inside text one.at head.span count ≡ Some places.now)
    → is_none lent ≡ is_other text parameters place one (tree_before tree none)
call_other text parameters place one tree head inner span list is items count counted lent found =
    missing lent (places_inside text one.at head.span count) found
    ∙ ap (λ (n : ℕ). is_none (places_inside text one.at head.span n))
    (counted ∙ sym (count-trees list))
    ∙ sym (ap (is_other text parameters place one)
    (call_before tree head inner span list none is items))

-- the argument for a parameter
module _ (text : List ℕ) (parameters : Option (List Span)) (place : Span) (written : Trees)
    (made : List Tree) (one : Standing) where
  pub misfit_outside : length made ≤ one.parameter
      → None ≡ misfit text parameters place written (trees_of made) one
  misfit_outside past = sym (ap (λ (t : Trees).
      cond (is_other text parameters place one t)
      (refused_term (OtherKind one.word) (only_at written one.parameter)) None)
      (only-outside made one.parameter past))

  pub misfit_inside : (tree : Tree) → one.parameter < length made
      → tree ≡ get_or made one.parameter tree → (other : Bool)
      → other ≡ is_other text parameters place one (tree_before tree none)
      → cond other (refused_term (OtherKind one.word) (only_at written one.parameter)) None
      ≡ misfit text parameters place written (trees_of made) one
  misfit_inside tree within is other other_is =
      ap (λ (b : Bool). cond b
      (refused_term (OtherKind one.word) (only_at written one.parameter)) None) other_is
      ∙ sym (ap (λ (t : Trees). cond (is_other text parameters place one t)
      (refused_term (OtherKind one.word) (only_at written one.parameter)) None)
      (only-inside made one.parameter tree within is))

pub misfit-joined : (text : List ℕ) (templates : List Template)
    (parameters : Option (List Span)) (place : Span) (a b : Trees)
    → misfit_in text templates parameters place (joined a b)
    ≡ first_of (misfit_in text templates parameters place a)
    (misfit_in text templates parameters place b)
misfit-joined text templates parameters place none b = refl
misfit-joined text templates parameters place (leaf word rest) b =
    misfit-joined text templates parameters place rest b
misfit-joined text templates parameters place (call head arguments span rest) b =
    let inside = misfit_in text templates parameters place arguments in
    let one = call_misfit text parameters place (template_at text templates head.span) arguments
    (expanded text templates arguments) in
    let after = misfit_in text templates parameters place rest in
    let others = misfit_in text templates parameters place b in
    ap (λ f. first_of inside (first_of one f))
    (misfit-joined text templates parameters place rest b)
    ∙ ap (first_of inside) (sym (first-assoc one after others))
    ∙ sym (first-assoc inside (first_of one after) others)

-- a call
module _ (text : List ℕ) (templates : List Template) (parameters : Option (List Span))
    (place : Span) (tree : Tree) (head : Token) (inner : Vec Tree Global) (span : Span)
    (list : List Tree) (is : tree ≡ Call head inner span) (items : list ≡ inner.items) where
  abbrev inside : Option TemplateRefusal
  inside = misfit_in text templates parameters place (trees_of list)

  abbrev of_call : Trees → Option TemplateRefusal
  of_call made = call_misfit text parameters place (template_at text templates head.span)
      (trees_of list) made

  misfit_here : misfit_in text templates parameters place (tree_before tree none)
      ≡ first_of inside (of_call (expanded text templates (trees_of list)))
  misfit_here =
      ap (misfit_in text templates parameters place)
      (call_before tree head inner span list none is items)
      ∙ ap (first_of inside) (first-None (of_call (expanded text templates (trees_of list))))

  pub inner_misfit : (stop : TemplateStop) → IsStopAt inside stop
      → IsStopAt (misfit_in text templates parameters place (tree_before tree none)) stop
  inner_misfit stop stopped =
      subst (λ (f : Option TemplateRefusal). IsStopAt f stop) (sym misfit_here)
      (first_stops inside (of_call (expanded text templates (trees_of list))) stop stopped)

  module _ (made : Trees)
      (before : AreExpanded text templates parameters place (trees_of list) made) where
    same_call : of_call made ≡ of_call (expanded text templates (trees_of list))
    same_call = ap of_call before.are

    pub call_misfits : (stop : TemplateStop) → IsStopAt (of_call made) stop
        → IsStopAt (misfit_in text templates parameters place (tree_before tree none)) stop
    call_misfits stop stopped =
        subst (λ (f : Option TemplateRefusal). IsStopAt f stop) (sym misfit_here)
        (second_stops inside (of_call (expanded text templates (trees_of list))) stop before.fit
        (subst (λ (f : Option TemplateRefusal). IsStopAt f stop) same_call stopped))

    pub call_are : of_call made ≡ None → (result : Trees)
        → result ≡ call_use text (template_at text templates head.span) head made span
        → AreExpanded text templates parameters place (tree_before tree none) result
    call_are fits result result_is = record {
      fit = misfit_here ∙ both_none inside (of_call (expanded text templates (trees_of list)))
          before.fit (sym same_call ∙ fits);
      are = call_expanded text templates tree head inner span list is items result made result_is
          before.are;
    }
