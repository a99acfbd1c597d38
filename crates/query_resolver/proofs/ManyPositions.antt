-- Nodes whose rates have too many positions.
use Rattle.std.proofs.Common.{◌≡◌, ◌≤◌, ◌<◌, ℕ, Bool, true, false, cond, List, Some, None, Result}
use Rattle.std.proofs.Common.{Ok, Err, ap, ◌∙◌, not, nat_le, arith}
use Rattle.std.specs.Result.{OnOk}
use Rattle.std.proofs.lemmas.Bool.Decides.{nat_tests}
use Rattle.item_schema.specs.declared.column.Column.{Column}
use Rattle.language_base.specs.Limits.{max_positions}
use Rattle.query_model.specs.Rates.{rate_of}
use Rattle.query_model.specs.Rules.{Standing}
use Rattle.query_model.specs.declared.query.Query.{Query}
use Rattle.rate_expr.specs.Rates.{size_of}
use Rattle.query_resolver.specs.Findings.{first_in, first_over, first_over_two}
use Rattle.query_resolver.specs.Nodes.{Node}
use Rattle.query_resolver.specs.Sizes.{has_many_positions}
use Rattle.query_resolver.proofs.OfOperands.{none_inside, none_inside_both}

are_few : (count : ℕ) → count ≤ max_positions → not (nat_le count max_positions) ≡ false
are_few count few = grind (arith, nat_tests, few)

are_many : (count : ℕ) → max_positions < count → not (nat_le count max_positions) ≡ true
are_many count many = grind (arith, nat_tests, many)

-- what follows from two facts where there is a value
pub on_ok_both : {A E P Q R : Type 0} (result : Result A E) → (P → Q → R)
    → OnOk result P → OnOk result Q → OnOk result R
on_ok_both (Ok value) both one other = both one other
on_ok_both (Err stop) both one other = tt

module _ (node : Node) (columns : List Column) (standing : Standing) (f : Query)
    (none : first_in has_many_positions columns standing f ≡ None) where
  -- a node with few positions over one operand, whose nodes have few
  pub few_over : size_of (rate_of node.query) ≤ max_positions
      → first_over has_many_positions node columns standing f ≡ None
  few_over few =
      none_inside has_many_positions node columns standing f none
      ∙ ap (λ (b : Bool). cond b (Some node.place) None)
      (are_few (size_of (rate_of node.query)) few)

  -- and one with many
  pub many_over : max_positions < size_of (rate_of node.query)
      → first_over has_many_positions node columns standing f ≡ Some node.place
  many_over many =
      none_inside has_many_positions node columns standing f none
      ∙ ap (λ (b : Bool). cond b (Some node.place) None)
      (are_many (size_of (rate_of node.query)) many)

  module _ (others : List Column) (other : Standing) (g : Query)
      (neither : first_in has_many_positions others other g ≡ None) where
    -- the same over two
    pub few_over_both : size_of (rate_of node.query) ≤ max_positions
        → first_over_two has_many_positions node columns standing f others other g ≡ None
    few_over_both few =
        none_inside_both has_many_positions node columns standing f others other g none neither
        ∙ ap (λ (b : Bool). cond b (Some node.place) None)
        (are_few (size_of (rate_of node.query)) few)

    pub many_over_both : max_positions < size_of (rate_of node.query)
        → first_over_two has_many_positions node columns standing f others other g ≡ Some node.place
    many_over_both many =
        none_inside_both has_many_positions node columns standing f others other g none neither
        ∙ ap (λ (b : Bool). cond b (Some node.place) None)
        (are_many (size_of (rate_of node.query)) many)
