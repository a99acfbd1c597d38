-- Parameters that are torn, standing by standing, and what standings agree on.
use Rattle.std.proofs.Common.{◌≡◌, ◌<◌, ◌+◌, ◌==◌, ◌&&◌, ℕ, zero, suc, Bool, true, false, cond}
use Rattle.std.proofs.Common.{not, List}
use Rattle.std.proofs.Common.{[], ◌∷◌, ◌++◌, length, get_or, take, drop, Option, Some, None}
use Rattle.std.proofs.Common.{refl, sym, ap, ◌∙◌, arith}
use Rattle.std.proofs.lemmas.List.{drop_more, take_more}
use Rattle.query_forms.specs.declared.term_place.TermPlace.{TermPlace}
use Rattle.query_templates.specs.declared.refusal.TemplateCause.TheVariants.{TwoKinds}
use Rattle.query_templates.specs.declared.refusal.TemplateRefusal.{TemplateRefusal}
use Rattle.query_templates.specs.declared.standing.Standing.{Standing}
use Rattle.query_templates.specs.Kinds.{go_together}
use Rattle.query_templates.specs.Refusals.{first_of, refused}
use Rattle.query_templates.specs.Standings.{first_torn, is_torn, torn_from}
use Rattle.query_templates.proofs.Firsts.{first-None}

abbrev Refusal : Type 0
Refusal = Option TemplateRefusal

-- a choice before another refusal
choice : (test : Bool) (here after last : Refusal) (one : TemplateRefusal) → here ≡ Some one
    → cond test here (first_of after last) ≡ first_of (cond test here after) last
choice true here after last one is = is ∙ sym (ap (λ (r : Refusal). first_of r last) is)
choice false here after last one is = refl

torn-append : (a b : List Standing) (x : Standing)
    → torn_from (a ++ b) x ≡ first_of (torn_from a x) (torn_from b x)
torn-append [] b x = refl
torn-append (first ∷ others) b x =
    ap (λ (r : Refusal). cond (is_torn first x) (refused (TwoKinds first.word) x.word) r)
    (torn-append others b x)
    ∙ choice (is_torn first x) (refused (TwoKinds first.word) x.word) (torn_from others x)
    (torn_from b x) _ refl

-- where one of them is torn, there is a refusal
torn_some : (known : List Standing) (index : ℕ) (d x : Standing) → index < length known
    → is_torn (get_or known index d) x ≡ true → (refusal : TemplateRefusal)
    × (torn_from known x ≡ Some refusal)
torn_some [] index d x within tears = absurd (omega arith)
torn_some (first ∷ others) zero d x within tears = (
  _,
  ap (λ (b : Bool). cond b (refused (TwoKinds first.word) x.word) (torn_from others x)) tears,
)
torn_some (first ∷ others) (suc index) d x within tears =
    let rest = torn_some others index d x (omega arith) tears in
    some_of (is_torn first x) (refused (TwoKinds first.word) x.word) (torn_from others x) _ _ refl
    rest.1
  where
    some_of : (test : Bool) (here after : Refusal) (one other : TemplateRefusal)
        → here ≡ Some one → after ≡ Some other → (refusal : TemplateRefusal)
        × (cond test here after ≡ Some refusal)
    some_of true here after one other is next = (one, is)
    some_of false here after one other is next = (other, next)

-- one that is like a known one makes no difference
module _ (known : List Standing) (index : ℕ) (d one : Standing) (within : index < length known)
    (parameter : (get_or known index d).parameter ≡ one.parameter)
    (at : (get_or known index d).at ≡ one.at) where
  abbrev other : Standing
  other = get_or known index d

  alike : (x : Standing) → is_torn other x ≡ is_torn one x
  alike x =
      ap (λ (p : ℕ). (p == x.parameter) && not (go_together other.at x.at)) parameter
      ∙ ap (λ (a : TermPlace). (one.parameter == x.parameter) && not (go_together a x.at)) at

  same_last : (x : Standing) (test : Bool) → is_torn one x ≡ test
      → first_of (torn_from known x) (cond test (refused (TwoKinds one.word) x.word) None)
      ≡ torn_from known x
  same_last x false tears = first-None (torn_from known x)
  same_last x true tears =
      let some = torn_some known index d x within (alike x ∙ tears) in
      let last = refused (TwoKinds one.word) x.word in
      ap (λ (r : Refusal). first_of r last) some.1 ∙ sym some.1

  pub torn_known : (x : Standing) → torn_from (known ++ one ∷ []) x ≡ torn_from known x
  torn_known x = torn-append known (one ∷ []) x ∙ same_last x (is_torn one x) refl

-- the firsts of each kind are as good as all
module _ (all firsts : List Standing) (index : ℕ) (d : Standing) (within : index < length all)
    (same : (x : Standing) → torn_from firsts x ≡ torn_from (take index all) x) where
  abbrev one : Standing
  one = get_or all index d

  here : first_torn (take index all) (drop index all)
      ≡ first_of (torn_from firsts one) (first_torn (take (index + 1) all) (drop (index + 1) all))
  here =
      ap (first_torn (take index all)) (drop_more all index d within)
      ∙ ap (λ (l : List Standing). first_of (torn_from (take index all) one)
      (first_torn l (drop (index + 1) all))) (sym (take_more all index d within))
      ∙ ap (λ (r : Refusal). first_of r (first_torn (take (index + 1) all) (drop (index + 1) all)))
      (sym (same one))

  pub torn_later : None ≡ torn_from firsts one
      → first_torn (take index all) (drop index all)
      ≡ first_torn (take (index + 1) all) (drop (index + 1) all)
  torn_later whole = here ∙ ap (λ (r : Refusal). first_of r
      (first_torn (take (index + 1) all) (drop (index + 1) all))) (sym whole)

  -- with one more
  pub same_more : (x : Standing)
      → torn_from (firsts ++ one ∷ []) x ≡ torn_from (take (index + 1) all) x
  same_more x =
      torn-append firsts (one ∷ []) x
      ∙ ap (λ (r : Refusal). first_of r (torn_from (one ∷ []) x)) (same x)
      ∙ sym (torn-append (take index all) (one ∷ []) x)
      ∙ ap (λ (l : List Standing). torn_from l x) (sym (take_more all index d within))
