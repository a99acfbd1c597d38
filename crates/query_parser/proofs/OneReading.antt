-- A text has one reading.
use Rattle.std.proofs.Common.{◌≡◌, ℕ, ◌+◌, List, length, Option, Some, None, refl, sym, ap, ◌∙◌}
use Rattle.std.proofs.Common.{subst, arith}
use Rattle.language_base.specs.declared.refusal.Refusal.{Refusal}
use Rattle.language_base.specs.declared.rule.Rule.{Rule}
use Rattle.language_base.specs.declared.rule.Rule.TheVariants as rule
use Rattle.language_base.specs.declared.span.Span.{Span}
use Rattle.query_tokens.specs.declared.token.Token.{Token}
use Rattle.query_tokens.specs.Tokens.{FaultAfter}
use Rattle.query_tokens.proofs.OneWay.{one_list, no_fault, one_place}
use Rattle.query_trees.specs.Trees.{Trees, first_deep}
use Rattle.query_trees.specs.Terms.{AreTerms, IsNoList}
use Rattle.query_trees.proofs.Laws.{only-terms, terms-or-place, one-place}
use Rattle.query_forms.specs.Terms.{Terms, Say}
use Rattle.query_forms.specs.File.{unfit_file, first_large}
use Rattle.query_forms.proofs.Says.{one_terms}
use Rattle.query_parser.specs.Reading.{refusal, HasTokens, HasTrees, HasTerms, HasForms, IsFileOf}
use Rattle.query_parser.specs.Reading.{IsRefused, long, token, term, depth, form, literal}

-- what is some is not none
pub some_or_none : {X : Type 0} (o : Option X) (x : X) → o ≡ None → o ≡ Some x → ⊥
some_or_none o x is_none is_some = cc

-- and is one thing
pub one_some : {X : Type 0} (o : Option X) (x y : X) → o ≡ Some x → o ≡ Some y → y ≡ x
one_some o x y first second = cc

module _ (text : List ℕ) where
  -- a text has one list of tokens
  same_tokens : (a b : List Token) → HasTokens text a → HasTokens text b → b ≡ a
  same_tokens a b has other = one_list 0 text a b has.are other.are

  -- and one list of trees
  pub same_trees : (a b : Trees) → HasTrees text a → HasTrees text b → b ≡ a
  same_trees a b has other =
      let tokens = same_tokens has.tokens other.tokens has.has other.has in
      only-terms a b has.tokens has.are (subst (AreTerms b) tokens other.are)

  -- and one list of terms
  same_terms : (a b : Terms) → HasTerms text a → HasTerms text b → b ≡ a
  same_terms a b has other =
      let trees = same_trees has.trees other.trees has.has other.has in
      one_terms text has.trees a b has.say (subst (λ t. Say text t b) trees other.say)

  -- a text of tokens has no token fault
  pub no_token : (tokens before : List Token) (place : ℕ) → HasTokens text tokens
      → FaultAfter 0 text before place → ⊥
  no_token tokens before place has fault = no_fault 0 place text tokens before has.are fault

  -- a text of trees is a list of terms
  pub no_term : (trees : Trees) (tokens : List Token) (span : Span) → HasTrees text trees
      → HasTokens text tokens →
      IsNoList tokens (length text) span → ⊥
  no_term trees tokens span has other none =
      terms-or-place trees tokens (length text) span
      (subst (AreTerms trees) (same_tokens tokens has.tokens other has.has) has.are) none

  -- a text of terms is not too deep
  no_depth : (terms : Terms) (trees : Trees) (span : Span) → HasTerms text terms
      → HasTrees text trees →
      first_deep 1 trees ≡ Some span → ⊥
  no_depth terms trees span has other deep =
      some_or_none (first_deep 1 trees) span
      (ap (first_deep 1) (same_trees has.trees trees has.has other) ∙ has.not_deep) deep

  -- a text of forms has no unfit term
  no_form : (terms others : Terms) (span : Span) → HasForms text terms → HasTerms text others →
      unfit_file (length text) others ≡ Some span → ⊥
  no_form terms others span has other unfit =
      some_or_none (unfit_file (length text) others) span
      (ap (unfit_file (length text)) (same_terms terms others has.has other) ∙ has.fit) unfit

  -- a file has no number out of range
  no_literal : (terms others : Terms) (span : Span) → IsFileOf text terms → HasForms text others →
      first_large others ≡ Some span → ⊥
  no_literal terms others span has other large =
      some_or_none (first_large others) span
      (ap first_large (same_terms terms others has.has.has other.has) ∙ has.within) large

-- a text is a file of one list of terms
pub one_file : (text : List ℕ) (terms others : Terms) → IsFileOf text terms → IsFileOf text others
    → others ≡ terms
one_file text terms others is other = same_terms text terms others is.has.has other.has.has

-- a file is not refused
pub file_or_refused : (text : List ℕ) (terms : Terms) (refusal : Refusal) → IsFileOf text terms
    → IsRefused text refusal → ⊥
file_or_refused text terms _ is (long beyond) = let short = is.has.has.has.has.short in omega arith
file_or_refused text terms _ is (token before place short fault) =
    no_token text is.has.has.has.tokens before place is.has.has.has.has fault
file_or_refused text terms _ is (term tokens span has none) =
    no_term text is.has.has.trees tokens span is.has.has.has has none
file_or_refused text terms _ is (depth trees span has deep) =
    no_depth text terms trees span is.has.has has deep
file_or_refused text terms _ is (form others span has unfit) =
    no_form text terms others span is.has has unfit
file_or_refused text terms _ is (literal others span has large) =
    no_literal text terms others span is has large

-- a refusal by a rule at a place
abbrev refused_at : Rule → Span → Refusal
refused_at rule span = record { rule = rule; span = span }

-- a text has one first refusal
pub one_refusal : (text : List ℕ) (first other : Refusal) → IsRefused text first
    → IsRefused text other → other ≡ first
one_refusal text _ _ (long beyond) (long beyond2) =
    refl
one_refusal text _ _ (long beyond) (token before2 place2 short2 fault2) =
    let within = short2 in absurd (omega arith)
one_refusal text _ _ (long beyond) (term tokens2 span2 has2 none2) =
    let within = has2.short in absurd (omega arith)
one_refusal text _ _ (long beyond) (depth trees2 span2 has2 deep2) =
    let within = has2.has.short in absurd (omega arith)
one_refusal text _ _ (long beyond) (form terms2 span2 has2 unfit2) =
    let within = has2.has.has.short in absurd (omega arith)
one_refusal text _ _ (long beyond) (literal terms2 span2 has2 large2) =
    let within = has2.has.has.has.short in absurd (omega arith)
one_refusal text _ _ (token before place short fault) (long beyond2) =
    let within = short in absurd (omega arith)
one_refusal text _ _ (token before place short fault) (token before2 place2 short2 fault2) =
    ap (λ at. refusal rule.Token at (at + 1))
    (one_place 0 place place2 text before before2 fault fault2)
one_refusal text _ _ (token before place short fault) (term tokens2 span2 has2 none2) =
    absurd (no_token text tokens2 before place has2 fault)
one_refusal text _ _ (token before place short fault) (depth trees2 span2 has2 deep2) =
    absurd (no_token text has2.tokens before place has2.has fault)
one_refusal text _ _ (token before place short fault) (form terms2 span2 has2 unfit2) =
    absurd (no_token text has2.has.tokens before place has2.has.has fault)
one_refusal text _ _ (token before place short fault) (literal terms2 span2 has2 large2) =
    absurd (no_token text has2.has.has.tokens before place has2.has.has.has fault)
one_refusal text _ _ (term tokens span has none) (long beyond2) =
    let within = has.short in absurd (omega arith)
one_refusal text _ _ (term tokens span has none) (token before2 place2 short2 fault2) =
    absurd (no_token text tokens before2 place2 has fault2)
one_refusal text _ _ (term tokens span has none) (term tokens2 span2 has2 none2) =
    ap (refused_at rule.Term) (one-place tokens (length text) span span2 none
    (subst (λ t. IsNoList t (length text) span2) (same_tokens text tokens tokens2 has has2) none2))
one_refusal text _ _ (term tokens span has none) (depth trees2 span2 has2 deep2) =
    absurd (no_term text trees2 tokens span has2 has none)
one_refusal text _ _ (term tokens span has none) (form terms2 span2 has2 unfit2) =
    absurd (no_term text has2.trees tokens span has2.has has none)
one_refusal text _ _ (term tokens span has none) (literal terms2 span2 has2 large2) =
    absurd (no_term text has2.has.trees tokens span has2.has.has has none)
one_refusal text _ _ (depth trees span has deep) (long beyond2) =
    let within = has.has.short in absurd (omega arith)
one_refusal text _ _ (depth trees span has deep) (token before2 place2 short2 fault2) =
    absurd (no_token text has.tokens before2 place2 has.has fault2)
one_refusal text _ _ (depth trees span has deep) (term tokens2 span2 has2 none2) =
    absurd (no_term text trees tokens2 span2 has has2 none2)
one_refusal text _ _ (depth trees span has deep) (depth trees2 span2 has2 deep2) =
    ap (refused_at rule.Depth) (one_some (first_deep 1 trees) span span2 deep
    (sym (ap (first_deep 1) (same_trees text trees trees2 has has2)) ∙ deep2))
one_refusal text _ _ (depth trees span has deep) (form terms2 span2 has2 unfit2) =
    absurd (no_depth text terms2 trees span has2 has deep)
one_refusal text _ _ (depth trees span has deep) (literal terms2 span2 has2 large2) =
    absurd (no_depth text terms2 trees span has2.has has deep)
one_refusal text _ _ (form terms span has unfit) (long beyond2) =
    let within = has.has.has.short in absurd (omega arith)
one_refusal text _ _ (form terms span has unfit) (token before2 place2 short2 fault2) =
    absurd (no_token text has.has.tokens before2 place2 has.has.has fault2)
one_refusal text _ _ (form terms span has unfit) (term tokens2 span2 has2 none2) =
    absurd (no_term text has.trees tokens2 span2 has.has has2 none2)
one_refusal text _ _ (form terms span has unfit) (depth trees2 span2 has2 deep2) =
    absurd (no_depth text terms trees2 span2 has has2 deep2)
one_refusal text _ _ (form terms span has unfit) (form terms2 span2 has2 unfit2) =
    ap (refused_at rule.Form) (one_some (unfit_file (length text) terms) span span2 unfit
    (sym (ap (unfit_file (length text)) (same_terms text terms terms2 has has2)) ∙ unfit2))
one_refusal text _ _ (form terms span has unfit) (literal terms2 span2 has2 large2) =
    absurd (no_form text terms2 terms span has2 has unfit)
one_refusal text _ _ (literal terms span has large) (long beyond2) =
    let within = has.has.has.has.short in absurd (omega arith)
one_refusal text _ _ (literal terms span has large) (token before2 place2 short2 fault2) =
    absurd (no_token text has.has.has.tokens before2 place2 has.has.has.has fault2)
one_refusal text _ _ (literal terms span has large) (term tokens2 span2 has2 none2) =
    absurd (no_term text has.has.trees tokens2 span2 has.has.has has2 none2)
one_refusal text _ _ (literal terms span has large) (depth trees2 span2 has2 deep2) =
    absurd (no_depth text terms trees2 span2 has.has has2 deep2)
one_refusal text _ _ (literal terms span has large) (form terms2 span2 has2 unfit2) =
    absurd (no_form text terms terms2 span2 has has2 unfit2)
one_refusal text _ _ (literal terms span has large) (literal terms2 span2 has2 large2) =
    ap (refused_at rule.Literal) (one_some (first_large terms) span span2 large
    (sym (ap first_large (same_terms text terms terms2 has.has has2.has)) ∙ large2))
