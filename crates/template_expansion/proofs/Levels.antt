-- Plain terms are not too deep where nothing is refused.
use Rattle.std.proofs.Common.{◌≡◌, ◌≤◌, ◌+◌, ℕ, Bool, true, false, cond, List, [], ◌∷◌, codes}
use Rattle.std.proofs.Common.{Option, Some, None, nat_lt, refl, ap, ◌∙◌, arith}
use Rattle.std.proofs.lemmas.Bool.Decides.{nat_tests}
use Rattle.language_base.specs.Limits.{max_level, max_text}
use Rattle.language_base.specs.declared.span.Span.{Span}
use Rattle.query_trees.specs.Trees.{Trees, none, leaf, call, first_deep, first_of_two}
use Rattle.query_parser.proofs.OptionCases.{first_of_two-none}
use Rattle.query_templates.specs.declared.refusal.TemplateRefusal.{TemplateRefusal}
use Rattle.query_templates.specs.Definitions.{definition_in, definition_refusal, term_refusal}
use Rattle.query_templates.specs.Excess.{excess, first_excess}
use Rattle.query_templates.specs.Expansion.{call_use, expanded, word_use}
use Rattle.query_templates.specs.Extents.{extent_of}
use Rattle.query_templates.specs.File.{first_refusal, plain_after, plain_terms, refusal_after}
use Rattle.query_templates.specs.File.{refused_after, refused_top, used_after, used_with}
use Rattle.query_templates.specs.File.{with_definition}
use Rattle.query_templates.specs.Lists.{joined}
use Rattle.query_templates.specs.Misfits.{misfit_in}
use Rattle.query_templates.specs.Names.{is_named}
use Rattle.query_templates.specs.Refusals.{first_of}
use Rattle.query_templates.specs.Templates.{Template, template_at}
use Rattle.query_templates.specs.Uses.{first_wrong_use}

-- a level that is not too deep
level_fits : (level : ℕ) → level ≤ max_level → nat_lt max_level level ≡ false
level_fits level within = grind (arith, nat_tests)

-- terms of few levels are not too deep
not_deep : (terms : Trees) (level : ℕ) → (extent_of terms).levels + level ≤ max_level + 1
    → first_deep level terms ≡ None
not_deep none level few = refl
not_deep (leaf token rest) level few =
    ap (λ (b : Bool). cond b (Some token.span) (first_deep level rest))
    (level_fits level (omega arith))
    ∙ not_deep rest level (omega arith)
not_deep (call head arguments span rest) level few =
    ap (λ (b : Bool). cond b (Some span)
    (first_of_two (first_deep (level + 1) arguments) (first_deep level rest)))
    (level_fits level (omega arith))
    ∙ ap (λ (o : Option Span). first_of_two o (first_deep level rest))
    (not_deep arguments (level + 1) (omega arith))
    ∙ not_deep rest level (omega arith)

-- what is refused is not none
not_refused : (test : Bool) (refusal : TemplateRefusal) (others : Option TemplateRefusal)
    → cond test (Some refusal) others ≡ None → (test ≡ false) × (others ≡ None)
not_refused true refusal others free = let never : ⊥ = (cc free) in absurd never
not_refused false refusal others free = (refl, free)

-- of two there is none
neither : (one other : Option TemplateRefusal) → first_of one other ≡ None
    → (one ≡ None) × (other ≡ None)
neither None other free = (refl, free)
neither (Some refusal) other free = let never : ⊥ = (cc free) in absurd never

-- terms whose extent is not refused have few levels
few_levels : (used : ℕ) (terms : Trees) (place : Span)
    → excess used (extent_of terms) place ≡ None → (extent_of terms).levels ≤ max_level
unfolding excess
few_levels used terms place free =
    let large = not_refused (nat_lt max_text (used + (extent_of terms).bytes)) _ _ free in
    let deep = not_refused (nat_lt max_level (extent_of terms).levels) _ _ large.1 in
    let test : nat_lt max_level (extent_of terms).levels ≡ false = deep.0 in
    grind (arith, nat_tests)

-- terms beside others have few levels where both have, and the first have where both do
joined_levels : (one others : Trees) → (extent_of one).levels ≤ max_level
    → (extent_of others).levels ≤ max_level → (extent_of (joined one others)).levels ≤ max_level
joined_levels none others few rest = rest
joined_levels (leaf token more) others few rest =
    let inner = joined_levels more others (omega arith) rest in omega arith
joined_levels (call head arguments span more) others few rest =
    let inner = joined_levels more others (omega arith) rest in omega arith

first_levels : (one others : Trees) → (extent_of (joined one others)).levels ≤ max_level
    → (extent_of one).levels ≤ max_level
first_levels none others few = omega arith
first_levels (leaf token more) others few =
    let inner = first_levels more others (omega arith) in omega arith
first_levels (call head arguments span more) others few =
    let inner = first_levels more others (omega arith) in omega arith

module _ (text : List ℕ) where
  -- and so has a term
  term_levels : (templates : List Template) (parameters : Option (List Span)) (used : ℕ)
      (terms : Trees) (place : Span)
      → term_refusal text templates parameters used terms place ≡ None
      → (extent_of (expanded text templates terms)).levels ≤ max_level
  term_levels templates parameters used terms place free =
      let fit = misfit_in text templates parameters place terms in
      let large = excess used (extent_of (expanded text templates terms)) place in
      let parts = neither (first_wrong_use text templates parameters terms)
      (first_of (first_excess text templates terms) (first_of large fit)) free in
      let sizes = neither (first_excess text templates terms) (first_of large fit) parts.1 in
      few_levels used (expanded text templates terms) place (neither large fit sizes.1).0

  -- and so have all that are not refused
  top_levels : (templates : List Template) (used : ℕ) (terms : Trees)
      → refused_top text templates used terms ≡ None
      → (extent_of (expanded text templates terms)).levels ≤ max_level
  top_levels templates used none free = omega arith
  top_levels templates used (leaf word rest) free =
      let one = leaf word none in
      let made = word_use text (template_at text templates word.span) word in
      let parts = neither (term_refusal text templates None used one word.span)
      (refused_top text templates (used_after text templates used one) rest) free in
      joined_levels made (expanded text templates rest)
      (first_levels made none (term_levels templates None used one word.span parts.0))
      (top_levels templates (used_after text templates used one) rest parts.1)
  top_levels templates used (call head arguments span rest) free =
      let one = call head arguments span none in
      let made = call_use text (template_at text templates head.span) head
      (expanded text templates arguments) span in
      let parts = neither (term_refusal text templates None used one span)
      (refused_top text templates (used_after text templates used one) rest) free in
      joined_levels made (expanded text templates rest)
      (first_levels made none (term_levels templates None used one span parts.0))
      (top_levels templates (used_after text templates used one) rest parts.1)

  -- without templates terms stay as they are
  expanded_by_none : (terms : Trees) → expanded text [] terms ≡ terms
  expanded_by_none none = refl
  expanded_by_none (leaf word rest) = ap (leaf word) (expanded_by_none rest)
  expanded_by_none (call head arguments span rest) =
      ap (λ (t : Trees). call head t span (expanded text [] rest)) (expanded_by_none arguments)
      ∙ ap (call head arguments span) (expanded_by_none rest)

  -- the terms after all definitions
  others_not_deep : (templates : List Template) (used : ℕ) (terms : Trees)
      → refused_after text templates used terms ≡ None → first_deep 1 terms ≡ None
      → first_deep 1 (expanded text templates terms) ≡ None
  others_not_deep [] used terms free shallow =
      ap (first_deep 1) (expanded_by_none terms) ∙ shallow
  others_not_deep (first ∷ templates) used terms free shallow =
      let few = top_levels (first ∷ templates) used terms free in
      not_deep (expanded text (first ∷ templates) terms) 1 (omega arith)

  -- either, by a test
  either_not_deep : (test : Bool) (wrong after other : Option TemplateRefusal) (one two : Trees)
      → (after ≡ None → first_deep 1 one ≡ None) → (other ≡ None → first_deep 1 two ≡ None)
      → cond test (first_of wrong after) other ≡ None → first_deep 1 (cond test one two) ≡ None
  either_not_deep true wrong after other one two first second free =
      first (neither wrong after free).1
  either_not_deep false wrong after other one two first second free = second free

  after_not_deep : (templates : List Template) (used : ℕ) (terms : Trees)
      → refusal_after text templates used terms ≡ None → first_deep 1 terms ≡ None
      → first_deep 1 (plain_after text templates terms) ≡ None
  after_not_deep templates used none free shallow = refl
  after_not_deep templates used (leaf word rest) free shallow =
      others_not_deep templates used (leaf word rest) free shallow
  after_not_deep templates used (call head arguments span rest) free shallow =
      let found = definition_in arguments in
      let parts = first_of_two-none (first_deep 2 arguments) (first_deep 1 rest) shallow in
      either_not_deep (is_named text head.span (codes "def"))
      (definition_refusal text templates used found span)
      (refusal_after text (with_definition text templates found span)
      (used_with text templates used found) rest)
      (refused_after text templates used (call head arguments span rest))
      (plain_after text (with_definition text templates found span) rest)
      (expanded text templates (call head arguments span rest))
      (λ right. after_not_deep (with_definition text templates found span)
      (used_with text templates used found) rest right parts.1)
      (λ right. others_not_deep templates used (call head arguments span rest) right shallow)
      free

  pub plain_not_deep : (terms : Trees) → first_refusal text terms ≡ None
      → first_deep 1 terms ≡ None → first_deep 1 (plain_terms text terms) ≡ None
  plain_not_deep terms free shallow = after_not_deep [] 0 terms free shallow
