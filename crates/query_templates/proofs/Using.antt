-- Wrong uses in a call, and results that are passed on.
use Rattle.std.proofs.Common.{◌≡◌, ℕ, List, Option, Some, None, Result, Ok, Err, IfOk, IfErr, Vec}
use Rattle.std.proofs.Common.{Global, sym, ap, ◌∙◌}
use Rattle.language_base.specs.declared.span.Span.{Span}
use Rattle.query_tokens.specs.declared.token.Token.{Token}
use Rattle.query_trees.specs.declared.tree.Tree.{Tree, Call}
use Rattle.query_trees.specs.Trees.{none, tree_before, trees_of}
use Rattle.query_templates.specs.declared.refusal.TemplateRefusal.{TemplateRefusal}
use Rattle.query_templates.specs.Refusals.{first_of}
use Rattle.query_templates.specs.Templates.{Template}
use Rattle.query_templates.specs.Uses.{first_wrong_use, wrong_call}
use Rattle.query_templates.proofs.Firsts.{first-None}
use Rattle.query_templates.proofs.Lists.{call_before}

module _ (text : List ℕ) (templates : List Template) (parameters : Option (List Span))
    (tree : Tree) (head : Token) (inner : Vec Tree Global) (span : Span) (list : List Tree)
    (is : tree ≡ Call head inner span) (items : list ≡ inner.items) where
  abbrev here : Option TemplateRefusal
  here = wrong_call text templates parameters head (trees_of list) span

  abbrev inside : Option TemplateRefusal
  inside = first_wrong_use text templates parameters (trees_of list)

  use_here : first_wrong_use text templates parameters (tree_before tree none)
      ≡ first_of here inside
  use_here =
      ap (first_wrong_use text templates parameters)
      (call_before tree head inner span list none is items)
      ∙ ap (first_of here) (first-None inside)

  pub wrong_here : (refusal : TemplateRefusal) → Some refusal ≡ here
      → Some refusal ≡ first_wrong_use text templates parameters (tree_before tree none)
  wrong_here refusal found = sym (use_here ∙ ap (λ f. first_of f inside) (sym found))

  pub wrong_inside : (result : Option TemplateRefusal) → None ≡ here → result ≡ inside
      → result ≡ first_wrong_use text templates parameters (tree_before tree none)
  wrong_inside result right is_inside =
      is_inside ∙ sym (use_here ∙ ap (λ f. first_of f inside) (sym right))

pub ok_map : {T E : Type 0} (result : Result T E) (P Q : T → Type 0) → ((x : T) → P x → Q x)
    → IfOk result P → IfOk result Q
ok_map (Ok x) P Q more has = more x has
ok_map (Err e) P Q more has = tt

pub err_map : {T E : Type 0} (result : Result T E) (P Q : E → Type 0) → ((x : E) → P x → Q x)
    → IfErr result P → IfErr result Q
err_map (Ok x) P Q more has = tt
err_map (Err e) P Q more has = more e has
