-- A text stands for one list of terms, or has one refusal.
use Rattle.std.proofs.Common.{◌≡◌, ℕ, List, length, Some, None, sym, ap, subst, ◌∙◌, arith}
use Rattle.language_base.specs.declared.refusal.Refusal.{Refusal}
use Rattle.language_base.specs.declared.rule.Rule.TheVariants as rule
use Rattle.language_base.specs.declared.span.Span.{Span}
use Rattle.query_trees.specs.Trees.{Trees, first_deep}
use Rattle.query_forms.specs.File.{first_large, unfit_file}
use Rattle.query_forms.specs.Terms.{Terms}
use Rattle.query_forms.proofs.Says.{one_terms}
use Rattle.query_parser.specs.Reading as reading
use Rattle.query_parser.specs.TreeReading.{AreFileOf, AreRefused, AreShallow, HasNoTrees}
use Rattle.query_parser.specs.TreeReading.{IsBeforeForms, form, literal}
use Rattle.query_parser.proofs.OneReading.{no_term, no_token, one_refusal, one_some, same_trees}
use Rattle.query_parser.proofs.OneReading.{some_or_none}
use Rattle.query_templates.specs.File.{first_refusal, plain_terms}
use Rattle.query_templates.specs.declared.refusal.TemplateRefusal.{TemplateRefusal}
use Rattle.template_expansion.specs.declared.stop.ExpandStop.{ExpandStop}
use Rattle.template_expansion.specs.declared.stop.ExpandStop.TheVariants.{Refused, Template}
use Rattle.template_expansion.specs.Meaning.{IsRefused, StandsFor}
use Rattle.template_expansion.specs.Meaning.{after, before, template}

module _ (text : List ℕ) where
  -- trees that say a file are not refused
  no_refusal : (trees : Trees) (terms : Terms) (refusal : Refusal) → AreFileOf text trees terms
      → AreRefused text trees refusal → ⊥
  no_refusal trees terms _ are (form others span say unfit) =
      some_or_none (unfit_file (length text) others) span
      (ap (unfit_file (length text)) (one_terms text trees terms others are.say say) ∙ are.fit)
      unfit
  no_refusal trees terms _ are (literal others span say fit large) =
      some_or_none (first_large others) span
      (ap first_large (one_terms text trees terms others are.say say) ∙ are.within) large

  -- trees have one refusal
  same_refusal : (trees : Trees) (one other : Refusal) → AreRefused text trees one
      → AreRefused text trees other → other ≡ one
  same_refusal trees _ _ (form terms span say unfit) (form others place said other) =
      ap (λ (s : Span). let r : Refusal = record { rule = rule.Form; span = s } in r)
      (one_some (unfit_file (length text) terms) span place unfit
      (sym (ap (unfit_file (length text)) (one_terms text trees terms others say said)) ∙ other))
  same_refusal trees _ _ (form terms span say unfit) (literal others place said fit large) =
      absurd (some_or_none (unfit_file (length text) terms) span
      (sym (ap (unfit_file (length text)) (one_terms text trees terms others say said)) ∙ fit)
      unfit)
  same_refusal trees _ _ (literal terms span say fit large) (form others place said unfit) =
      absurd (some_or_none (unfit_file (length text) others) place
      (ap (unfit_file (length text)) (one_terms text trees terms others say said) ∙ fit) unfit)
  same_refusal trees _ _ (literal terms span say fit large) (literal others place said fits more) =
      ap (λ (s : Span). let r : Refusal = record { rule = rule.Literal; span = s } in r)
      (one_some (first_large terms) span place large
      (sym (ap first_large (one_terms text trees terms others say said)) ∙ more))

  -- a text that has trees is not refused before
  has_trees : (trees : Trees) (refusal : Refusal) → AreShallow text trees
      → reading.IsRefused text refusal → IsBeforeForms refusal.rule → ⊥
  has_trees trees _ shallow (reading.long beyond) early =
      let short = shallow.has.has.short in omega arith
  has_trees trees _ shallow (reading.token tokens place short fault) early =
      no_token text shallow.has.tokens tokens place shallow.has.has fault
  has_trees trees _ shallow (reading.term tokens span has none) early =
      no_term text trees tokens span shallow.has has none
  has_trees trees _ shallow (reading.depth others span has deep) early =
      some_or_none (first_deep 1 others) span
      (ap (first_deep 1) (same_trees text trees others shallow.has has) ∙ shallow.not_deep) deep
  has_trees trees _ shallow (reading.form terms span has unfit) early = early
  has_trees trees _ shallow (reading.literal terms span has large) early = early

  never : (trees : Trees) (refusal : Refusal) → AreShallow text trees → HasNoTrees text refusal
      → ⊥
  never trees refusal shallow lack = has_trees trees refusal shallow lack.is lack.before

  -- the terms that two such texts have are the same
  one_list : (a b : Trees) → AreShallow text a → AreShallow text b → b ≡ a
  one_list a b one other = same_trees text a b one.has other.has

  -- a template is wrong or not
  right_or_wrong : (a b : Trees) (refusal : TemplateRefusal) → AreShallow text a
      → first_refusal text a ≡ None → AreShallow text b → first_refusal text b ≡ Some refusal → ⊥
  right_or_wrong a b refusal one right other wrong =
      let same : first_refusal text b ≡ first_refusal text a =
      ap (first_refusal text) (one_list a b one other) in
      let none : None ≡ Some refusal = sym right ∙ sym same ∙ wrong in
      cc none

  pub one_stands : (terms others : Terms) → StandsFor text terms → StandsFor text others
      → others ≡ terms
  one_stands terms others one other =
      let same = one_list one.trees other.trees one.has.shallow other.has.shallow in
      one_terms text (plain_terms text one.trees) terms others one.file.say
      (subst (λ (t : Trees). AreFileOf text (plain_terms text t) others) same other.file).say

  pub stands_or_refused : (terms : Terms) (stop : ExpandStop) → StandsFor text terms
      → IsRefused text stop → ⊥
  stands_or_refused terms _ stands (before refusal lack) =
      never stands.trees refusal stands.has.shallow lack
  stands_or_refused terms _ stands (template trees refusal shallow wrong) =
      right_or_wrong stands.trees trees refusal stands.has.shallow stands.has.right shallow wrong
  stands_or_refused terms _ stands (after trees refusal has refused) =
      let same = one_list stands.trees trees stands.has.shallow has.shallow in
      no_refusal (plain_terms text stands.trees) terms refusal stands.file
      (subst (λ (t : Trees). AreRefused text (plain_terms text t) refusal) same refused)

  pub one_stop : (first other : ExpandStop) → IsRefused text first → IsRefused text other
      → other ≡ first
  one_stop _ _ (before refusal lack) (before other lacks) =
      ap Refused (one_refusal text refusal other lack.is lacks.is)
  one_stop _ _ (before refusal lack) (template trees other shallow wrong) =
      absurd (never trees refusal shallow lack)
  one_stop _ _ (before refusal lack) (after trees other has refused) =
      absurd (never trees refusal has.shallow lack)
  one_stop _ _ (template trees refusal shallow wrong) (before other lacks) =
      absurd (never trees other shallow lacks)
  one_stop _ _ (template trees refusal shallow wrong) (template list other deep bad) =
      let same : first_refusal text list ≡ first_refusal text trees =
      ap (first_refusal text) (one_list trees list shallow deep) in
      let is : Some other ≡ Some refusal = sym bad ∙ same ∙ wrong in
      ap Template (cc is)
  one_stop _ _ (template trees refusal shallow wrong) (after list other has refused) =
      absurd (right_or_wrong list trees refusal has.shallow has.right shallow wrong)
  one_stop _ _ (after trees refusal has refused) (before other lacks) =
      absurd (never trees other has.shallow lacks)
  one_stop _ _ (after trees refusal has refused) (template list other shallow wrong) =
      absurd (right_or_wrong trees list other has.shallow has.right shallow wrong)
  one_stop _ _ (after trees refusal has refused) (after list other have bad) =
      let same = one_list trees list has.shallow have.shallow in
      ap Refused (same_refusal (plain_terms text trees) refusal other refused
      (subst (λ (t : Trees). AreRefused text (plain_terms text t) other) same bad))
