-- Trees that say terms whose numbers are in range can be said.
use Rattle.std.proofs.Common.{◌≡◌, ℕ, ℤ, pos, negsuc, true, List, None, inl, inr, subst, arith}
use Rattle.std.proofs.Common.{FitsSigned, w64}
use Rattle.std.proofs.lemmas.Bool.Decides.{nat_tests}
use Rattle.query_trees.specs.Trees.{Trees, none, leaf, call}
use Rattle.query_forms.specs.Terms as plain
use Rattle.query_forms.specs.Terms.{Terms, Say}
use Rattle.query_forms.specs.File.{is_within, first_large}
use Rattle.query_parser.specs.Sayable.{AreSayable}
use Rattle.query_parser.proofs.OptionCases.{chosen-none, first_of_two-none}

-- a number in range is one of 64 bits
fits_within : (value : ℤ) → is_within value ≡ true → FitsSigned w64 value
fits_within (pos n) is = grind (arith, nat_tests)
fits_within (negsuc n) is = grind (arith, nat_tests)

-- trees that say terms whose numbers are in range can be said
pub sayable_within : (text : List ℕ) (trees : Trees) (terms : Terms) → Say text trees terms
    → first_large terms ≡ None →
    AreSayable text trees
sayable_within text none plain.none say small = tt
sayable_within text (leaf token rest) (plain.word bytes span more) say small = (
  record { leaf = inl say.0; within = λ is. absurd (cc say.0) },
  sayable_within text rest more say.3 small,
)
sayable_within text (leaf token rest) (plain.number value span more) say small =
    let parts = chosen-none (is_within value) (first_large more) span small in (
      record {
        leaf = inr (inl say.0);
        within = λ is. subst (FitsSigned w64) say.1 (fits_within value parts.0);
      },
      sayable_within text rest more say.3 parts.1,
    )
sayable_within text (leaf token rest) (plain.string bytes span more) say small = (
  record { leaf = inr (inr say.0); within = λ is. absurd (cc say.0) },
  sayable_within text rest more say.3 small,
)
sayable_within text (call head arguments span rest) (plain.call bytes inner place more) say small =
    let parts = first_of_two-none (first_large inner) (first_large more) small in
    (sayable_within text arguments inner say.2 parts.0, sayable_within text rest more say.3 parts.1)
sayable_within text _ _ say small = absurd say
