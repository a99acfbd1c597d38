-- Statement. The two halves of reading: the trees of a text, and the file that trees say. Trees
-- with tokens of the text need not stand in it in their order.
use Rattle.std.specs.Prelude.{◌≡◌, ◌≤◌, ℕ, List, length, Some, None}
use Rattle.language_base.specs.Limits.{max_text}
use Rattle.language_base.specs.declared.refusal.Refusal.{Refusal}
use Rattle.language_base.specs.declared.rule.Rule.{Rule}
use Rattle.language_base.specs.declared.rule.Rule.TheVariants as rule
use Rattle.language_base.specs.declared.rule.Rule.TheVariants.{Long, Token, Term, Depth}
use Rattle.language_base.specs.declared.span.Span.{Span}
use Rattle.query_tokens.specs.declared.token.TokenKind.TheVariants.{Word}
use Rattle.query_trees.specs.Terms.{IsLeaf}
use Rattle.query_trees.specs.Trees.{Trees, none, leaf, call, first_deep}
use Rattle.query_forms.specs.File.{unfit_file, first_large}
use Rattle.query_forms.specs.Terms.{IsTokenOf, Say, Terms}
use Rattle.query_parser.specs.Reading.{HasTrees, IsRefused}

-- these are the text's trees, and none is too deep
pub record AreShallow (text : List ℕ) (trees : Trees) : Type 0 where
  pub has : HasTrees text trees
  pub not_deep : first_deep 1 trees ≡ None

-- the rules that are judged before forms and numbers
abbrev pub IsBeforeForms : Rule → Type 0
IsBeforeForms Long = Unit {0}
IsBeforeForms Token = Unit {0}
IsBeforeForms Term = Unit {0}
IsBeforeForms Depth = Unit {0}
IsBeforeForms _ = ⊥

-- the text has no such trees, for this first rule that it breaks
pub record HasNoTrees (text : List ℕ) (refusal : Refusal) : Type 0 where
  pub is : IsRefused text refusal
  pub before : IsBeforeForms refusal.rule

-- there is a tree
abbrev pub HasTree : Trees → Type 0
HasTree none = ⊥
HasTree _ = Unit {0}

-- terms by themselves are words, numbers and strings of the text, and a call has a word of the text
-- and an argument
abbrev pub AreBuilt : List ℕ → Trees → Type 0
AreBuilt text none = Unit {0}
AreBuilt text (leaf token rest) = IsTokenOf text token × IsLeaf token × AreBuilt text rest
AreBuilt text (call head arguments span rest) =
    IsTokenOf text head × (head.kind ≡ Word) × HasTree arguments × AreBuilt text arguments
    × AreBuilt text rest

-- so are these, of a text that is not too long, and none is too deep
pub record AreReadable (text : List ℕ) (trees : Trees) : Type 0 where
  pub short : length text ≤ max_text
  pub built : AreBuilt text trees
  pub not_deep : first_deep 1 trees ≡ None

-- the trees say these terms, which are a file
pub record AreFileOf (text : List ℕ) (trees : Trees) (terms : Terms) : Type 0 where
  pub say : Say text trees terms
  pub fit : unfit_file (length text) terms ≡ None
  pub within : first_large terms ≡ None

-- the first rule that the terms which the trees say break as a file, and its place
pub data AreRefused (text : List ℕ) (trees : Trees) : Refusal → Type 0 where
  -- a term has none of the forms of its place
  form : (terms : Terms) (span : Span) → Say text trees terms
      → unfit_file (length text) terms ≡ Some span
      → AreRefused text trees (record { rule = rule.Form; span = span })
  -- a number is out of range
  literal : (terms : Terms) (span : Span) → Say text trees terms
      → unfit_file (length text) terms ≡ None → first_large terms ≡ Some span
      → AreRefused text trees (record { rule = rule.Literal; span = span })
