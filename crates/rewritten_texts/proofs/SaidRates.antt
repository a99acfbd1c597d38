-- Rates in the text of a file: what their predicates compare with are numbers of 64 bits and texts,
-- and they have few levels.
use Rattle.std.proofs.Common.{◌≡◌, ◌≤◌, ℕ, ◌+◌, List, ◌∷◌, None, Some, refl, codes, arith}
use Rattle.item_schema.specs.declared.column.Column.{Column}
use Rattle.language_base.specs.Limits.{max_level}
use Rattle.query_forms.specs.declared.term_place.TermPlace.{TermPlace}
use Rattle.query_forms.specs.declared.term_place.TermPlace.TheVariants.{Rate}
use Rattle.query_forms.specs.Forms.{first_unfit}
use Rattle.query_forms.specs.Terms.{Terms, count_of}
use Rattle.query_forms.specs.Terms as terms
use Rattle.query_resolver.specs.Rates.{rate_over}
use Rattle.query_resolver.specs.Tests.{resolved_over}
use Rattle.query_rewrite.specs.Levels.{levels_of_rate}
use Rattle.query_syntax.specs.Rates as r
use Rattle.query_syntax.specs.Words.{join_word}
use Rattle.query_syntax.specs.Written.{predicate_before, rate_before}
use Rattle.query_text.specs.Memory.{HaveOperands}
use Rattle.rate_expr.specs.Rates as rate
use Rattle.rate_expr.specs.Rates.{Regex}
use Rattle.rewritten_texts.proofs.Found.{of_found, of_mapped, of_rates}
use Rattle.rewritten_texts.proofs.SaidTests.{take_test}
use Rattle.rewritten_texts.proofs.Taken.{AreSaid, StandThere, call_fits, take_call, take_word}
use Rattle.rewritten_texts.proofs.Taken.{word_fits}

-- a rate that stands at a level of a text
pub record IsSaid (level : ℕ) (x : Regex) : Type 0 where
  pub operands : HaveOperands x
  pub levels : level + levels_of_rate x ≤ max_level + 1

-- over whatever columns
abbrev pub RateSaid : ℕ → r.Rate → Type 0
RateSaid level tree =
    (columns : List Column) (x : Regex) → rate_over columns tree ≡ Some x → IsSaid level x

module _ (level : ℕ) (a b : Regex) (one : IsSaid (level + 1) a) (other : IsSaid (level + 1) b) where
  sequence_said : IsSaid level (rate.sequence a b)
  sequence_said = record {
    operands = (one.operands, other.operands);
    levels = let low = one.levels in let high = other.levels in omega (arith, low, high);
  }

  choice_said : IsSaid level (rate.choice a b)
  choice_said = record {
    operands = (one.operands, other.operands);
    levels = let low = one.levels in let high = other.levels in omega (arith, low, high);
  }

-- a rate before other terms, with what is known of these
pub record TakesRate (level : ℕ) (tree : r.Rate) (rest : Terms) : Type 0 where
  pub rate : RateSaid level tree
  pub others : AreSaid level rest

take_rate : (tree : r.Rate) (level : ℕ) (rest : Terms)
    → AreSaid level (rate_before tree rest) → TakesRate level tree rest
take_rate (r.eps span) level rest said =
    let taken = take_word level rest span (codes "eps") said in
    let few = taken.few in record {
      rate = λ columns x is. of_found (IsSaid level) rate.empty x is
          (record { operands = tt; levels = omega (arith, few) });
      others = taken.others;
    }
take_rate (r.item pred span) level rest said =
    let taken = take_call level rest span (codes "item") (predicate_before pred terms.none) said in
    let one = take_test pred (level + 1) terms.none taken.inner in record {
      rate = λ columns x is. of_mapped (IsSaid level) rate.one (resolved_over columns pred) x is
          (λ a there. let of_a = one.test columns a there in
          let levels = of_a.levels in
          record { operands = of_a.operands; levels = omega (arith, levels) });
      others = taken.others;
    }
take_rate (r.joined join left right span) level rest said =
    let taken = take_call level rest span (join_word join)
    (rate_before left (rate_before right terms.none)) said in
    let one = take_rate left (level + 1) (rate_before right terms.none) taken.inner in
    let other = take_rate right (level + 1) terms.none one.others in record {
      rate = λ columns x is. of_rates (IsSaid level) x join (rate_over columns left)
          (rate_over columns right) is
          (λ a b there also. sequence_said level a b (one.rate columns a there)
          (other.rate columns b also))
          (λ a b there also. choice_said level a b (one.rate columns a there)
          (other.rate columns b also));
      others = taken.others;
    }
take_rate (r.star inner span) level rest said =
    let taken = take_call level rest span (codes "star") (rate_before inner terms.none) said in
    let one = take_rate inner (level + 1) terms.none taken.inner in record {
      rate = λ columns x is. of_mapped (IsSaid level) rate.star (rate_over columns inner) x is
          (λ a there. let of_a = one.rate columns a there in
          let levels = of_a.levels in
          record { operands = of_a.operands; levels = omega (arith, levels) });
      others = taken.others;
    }

-- a rate is one term
pub rate_count : (tree : r.Rate) (rest : Terms)
    → count_of (rate_before tree rest) ≡ count_of rest + 1
rate_count (r.eps span) rest = refl
rate_count (r.item pred span) rest = refl
rate_count (r.joined join left right span) rest = refl
rate_count (r.star inner span) rest = refl

-- and those after it stand at the places that are left
rate_fits : (tree : r.Rate) (places : List TermPlace) (rest : Terms)
    → first_unfit (Rate ∷ places) (rate_before tree rest) ≡ None → first_unfit places rest ≡ None
rate_fits (r.eps span) places rest fit = word_fits places rest span Rate (codes "eps") fit
rate_fits (r.item pred span) places rest fit =
    call_fits places rest span Rate (codes "item") (predicate_before pred terms.none) fit
rate_fits (r.joined join left right span) places rest fit =
    call_fits places rest span Rate (join_word join)
    (rate_before left (rate_before right terms.none)) fit
rate_fits (r.star inner span) places rest fit =
    call_fits places rest span Rate (codes "star") (rate_before inner terms.none) fit

-- a rate in a node of a let, and those after it
pub record StandsRate (level : ℕ) (places : List TermPlace) (tree : r.Rate) (rest : Terms)
    : Type 0 where
  pub rate : RateSaid level tree
  pub others : StandThere level places rest

pub stands_rate : (level : ℕ) (places : List TermPlace) (tree : r.Rate) (rest : Terms)
    → StandThere level (Rate ∷ places) (rate_before tree rest) → StandsRate level places tree rest
stands_rate level places tree rest stand =
    let taken = take_rate tree level rest stand.said in record {
      rate = taken.rate;
      others = record { said = taken.others; fit = rate_fits tree places rest stand.fit };
    }
