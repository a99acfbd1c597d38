-- Expressions in the nodes of lets, with the terms after them.
use Rattle.std.proofs.Common.{◌≡◌, ℕ, ◌+◌, List, ◌∷◌, None, refl, codes}
use Rattle.query_forms.specs.declared.term_place.TermPlace.{TermPlace}
use Rattle.query_forms.specs.declared.term_place.TermPlace.TheVariants.{Expr}
use Rattle.query_forms.specs.Forms.{first_unfit}
use Rattle.query_forms.specs.Terms.{Terms, count_of}
use Rattle.query_forms.specs.Terms as terms
use Rattle.query_syntax.specs.Expressions as e
use Rattle.query_syntax.specs.Words.{binary_word, compare_word, extremum_word, summary_word}
use Rattle.query_syntax.specs.Words.{unary_word}
use Rattle.query_syntax.specs.Written.{expression_before, expressions_terms, index_before}
use Rattle.query_syntax.specs.Written.{name_before, text_before}
use Rattle.rewritten_texts.proofs.SaidValues.{ValueSaid, take_value}
use Rattle.rewritten_texts.proofs.Taken.{StandThere, call_fits}

-- an expression is one term
pub value_count : (tree : e.Expression) (rest : Terms)
    → count_of (expression_before tree rest) ≡ count_of rest + 1
value_count (e.number n) rest = refl
value_count (e.name n) rest = refl
value_count (e.unary op inner span) rest = refl
value_count (e.binary op left right span) rest = refl
value_count (e.choice op left right at met other span) rest = refl
value_count (e.summary op table span) rest = refl
value_count (e.extremum op table first span) rest = refl
value_count (e.get table key other span) rest = refl
value_count (e.rec parts span) rest = refl
value_count (e.part whole index span) rest = refl

-- and those after it stand at the places that are left
value_fits : (tree : e.Expression) (places : List TermPlace) (rest : Terms)
    → first_unfit (Expr ∷ places) (expression_before tree rest) ≡ None
    → first_unfit places rest ≡ None
value_fits (e.number n) places rest fit = fit
value_fits (e.name n) places rest fit = fit
value_fits (e.unary op inner span) places rest fit =
    call_fits places rest span Expr (unary_word op) (expression_before inner terms.none) fit
value_fits (e.binary op left right span) places rest fit =
    call_fits places rest span Expr (binary_word op)
    (expression_before left (expression_before right terms.none)) fit
value_fits (e.choice op left right at met other span) places rest fit =
    call_fits places rest span Expr (codes "if")
    (terms.call (compare_word op) (expression_before left (expression_before right terms.none)) at
    (expression_before met (expression_before other terms.none))) fit
value_fits (e.summary op table span) places rest fit =
    call_fits places rest span Expr (summary_word op) (name_before table terms.none) fit
value_fits (e.extremum op table first span) places rest fit =
    call_fits places rest span Expr (extremum_word op)
    (name_before table (expression_before first terms.none)) fit
value_fits (e.get table key other span) places rest fit =
    call_fits places rest span Expr (codes "tget")
    (name_before table (text_before key (expression_before other terms.none))) fit
value_fits (e.rec parts span) places rest fit =
    call_fits places rest span Expr (codes "rec") (expressions_terms parts) fit
value_fits (e.part whole index span) places rest fit =
    call_fits places rest span Expr (codes "part")
    (name_before whole (index_before index terms.none)) fit

-- an expression in a node of a let, and those after it
pub record StandsValue (places : List TermPlace) (tree : e.Expression) (rest : Terms) (level : ℕ)
    : Type 0 where
  pub value : ValueSaid level tree
  pub others : StandThere level places rest

pub stands_value : (level : ℕ) (places : List TermPlace) (tree : e.Expression) (rest : Terms)
    → StandThere level (Expr ∷ places) (expression_before tree rest)
    → StandsValue places tree rest level
stands_value level places tree rest stand =
    let taken = take_value tree level rest stand.said in record {
      value = taken.value;
      others = record { said = taken.others; fit = value_fits tree places rest stand.fit };
    }
