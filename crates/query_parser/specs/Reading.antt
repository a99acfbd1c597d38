-- Statement. What a text is read to, and its first refusal. The relations are those of the
-- language: tokens, terms over tokens, levels, forms and numbers, in this order.
use Rattle.std.specs.Prelude.{◌≡◌, ◌<◌, ◌≤◌, ℕ, ◌+◌, List, length, Some, None}
use Rattle.language_base.specs.Limits.{max_text}
use Rattle.language_base.specs.declared.span.Span.{Span}
use Rattle.language_base.specs.declared.refusal.Refusal.{Refusal}
use Rattle.language_base.specs.declared.rule.Rule.{Rule}
use Rattle.language_base.specs.declared.rule.Rule.TheVariants as rule
use Rattle.query_tokens.specs.declared.token.Token.{Token}
use Rattle.query_tokens.specs.Tokens.{AreTokens, FaultAfter}
use Rattle.query_trees.specs.Trees.{Trees, first_deep}
use Rattle.query_trees.specs.Terms.{AreTerms, IsNoList}
use Rattle.query_forms.specs.Terms.{Terms, Say}
use Rattle.query_forms.specs.File.{unfit_file, first_large}

-- the rule is broken at this place
abbrev pub refusal : Rule → ℕ → ℕ → Refusal
refusal rule from to = record { rule = rule; span = record { from = from; to = to } }

-- a text that is not too long has these tokens
pub record HasTokens (text : List ℕ) (tokens : List Token) : Type 0 where
  pub short : length text ≤ max_text
  pub are : AreTokens 0 text tokens

-- and these are these terms, at any level
pub record HasTrees (text : List ℕ) (trees : Trees) : Type 0 where
  pub tokens : List Token
  pub has : HasTokens text tokens
  pub are : AreTerms trees tokens

-- and they say these terms, none of which is too deep
pub record HasTerms (text : List ℕ) (terms : Terms) : Type 0 where
  pub trees : Trees
  pub has : HasTrees text trees
  pub not_deep : first_deep 1 trees ≡ None
  pub say : Say text trees terms

-- and these have the form of a file
pub record HasForms (text : List ℕ) (terms : Terms) : Type 0 where
  pub has : HasTerms text terms
  pub fit : unfit_file (length text) terms ≡ None

-- the text is a file of these terms
pub record IsFileOf (text : List ℕ) (terms : Terms) : Type 0 where
  pub has : HasForms text terms
  pub within : first_large terms ≡ None

-- the first rule that a text breaks and its place
pub data IsRefused (text : List ℕ) : Refusal → Type 0 where
  -- it is too long
  long : max_text < length text → IsRefused text (refusal rule.Long max_text (max_text + 1))
  -- after some tokens no token begins
  token : (before : List Token) (place : ℕ) → length text ≤ max_text
      → FaultAfter 0 text before place → IsRefused text (refusal rule.Token place (place + 1))
  -- its tokens are no list of terms
  term : (tokens : List Token) (span : Span) → HasTokens text tokens
      → IsNoList tokens (length text) span
      → IsRefused text (record { rule = rule.Term; span = span })
  -- a term is too deep
  depth : (trees : Trees) (span : Span) → HasTrees text trees → first_deep 1 trees ≡ Some span
      → IsRefused text (record { rule = rule.Depth; span = span })
  -- a term has none of the forms of its place
  form : (terms : Terms) (span : Span) → HasTerms text terms
      → unfit_file (length text) terms ≡ Some span
      → IsRefused text (record { rule = rule.Form; span = span })
  -- a number is out of range
  literal : (terms : Terms) (span : Span) → HasForms text terms → first_large terms ≡ Some span
      → IsRefused text (record { rule = rule.Literal; span = span })
