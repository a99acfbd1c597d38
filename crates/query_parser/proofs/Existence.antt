-- A text is a file of some terms, or has a first refusal.
use Rattle.std.proofs.Common.{◌≡◌, ◌⊎◌, inl, inr, ℕ, ◌<◌, ◌≤◌, List, length, Option, Some, None}
use Rattle.std.proofs.Common.{refl}
use Rattle.std.proofs.lemmas.Bool.{cases_lt}
use Rattle.language_base.specs.Limits.{max_text}
use Rattle.language_base.specs.declared.refusal.Refusal.{Refusal}
use Rattle.language_base.specs.declared.span.Span.{Span}
use Rattle.query_tokens.specs.declared.token.Token.{Token}
use Rattle.query_tokens.proofs.Existence.{HasTokensOrFault, tokens_or_fault}
use Rattle.query_trees.specs.Trees.{Trees, first_deep}
use Rattle.query_trees.proofs.NoList.{AreListOrNone, list_or_none}
use Rattle.query_forms.specs.Terms.{Terms}
use Rattle.query_forms.specs.File.{unfit_file, first_large}
use Rattle.query_parser.specs.Reading.{HasTokens, HasTrees, HasTerms, HasForms, IsFileOf, IsRefused}
use Rattle.query_parser.specs.Reading.{long, token, term, depth, form, literal}
use Rattle.query_parser.proofs.Passes.{readable}

module _ (text : List ℕ) where
  -- the text is a file of some terms, or is refused
  abbrev pub IsReadOrRefused : Type 0
  IsReadOrRefused = ((terms : Terms) × IsFileOf text terms) ⊎ ((why : Refusal) × IsRefused text why)

  -- so it is with terms that have the form of a file
  with_forms : (terms : Terms) → HasForms text terms → (large : Option Span)
      → first_large terms ≡ large → IsReadOrRefused
  with_forms terms has None within = inl (terms, record { has = has; within = within })
  with_forms terms has (Some span) large = inr (_, literal terms span has large)

  -- with terms
  with_terms : (terms : Terms) → HasTerms text terms → (unfit : Option Span)
      → unfit_file (length text) terms ≡ unfit → IsReadOrRefused
  with_terms terms has None fit =
      with_forms terms (record { has = has; fit = fit }) (first_large terms) refl
  with_terms terms has (Some span) unfit = inr (_, form terms span has unfit)

  -- with trees
  with_trees : (trees : Trees) → HasTrees text trees → (deep : Option Span)
      → first_deep 1 trees ≡ deep → IsReadOrRefused
  with_trees trees has None not_deep =
      let says = (readable text trees has).1 in
      with_terms says.0 (record { trees = trees; has = has; not_deep = not_deep; say = says.1 })
      (unfit_file (length text) says.0) refl
  with_trees trees has (Some span) deep = inr (_, depth trees span has deep)

  -- with tokens
  with_tokens : (tokens : List Token) → HasTokens text tokens → AreListOrNone tokens (length text)
      → IsReadOrRefused
  with_tokens tokens has (inl list) = with_trees list.0
      (record { tokens = tokens; has = has; are = list.1 }) (first_deep 1 list.0) refl
  with_tokens tokens has (inr none) = inr (_, term tokens none.0 has none.1)

  -- where it is not too long
  if_short : length text ≤ max_text → HasTokensOrFault 0 text → IsReadOrRefused
  if_short short (inl tokens) =
      with_tokens tokens.0 (record { short = short; are = tokens.1 })
      (list_or_none tokens.0 (length text))
  if_short short (inr fault) = inr (_, token fault.0 fault.1 short fault.2)

  -- and so each text is
  pub read_or_refused : IsReadOrRefused
  read_or_refused = by_length (cases_lt max_text (length text))
    where
      by_length : (max_text < length text) ⊎ (length text ≤ max_text) → IsReadOrRefused
      by_length (inl beyond) = inr (_, long beyond)
      by_length (inr short) = if_short short (tokens_or_fault 0 text)
