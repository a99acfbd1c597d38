use Rattle.std.proofs.Common.{arith, refl, sym, ◌∙◌}
use Rattle.std.specs.List.{Contains}
use Rattle.symbolic_nfa.proofs.Lists.{all-below, all-more, all-none}
use Rattle.symbolic_nfa.proofs.Meeting.{kept_decided, all_decided}
use Rattle.symbolic_nfa.proofs.nfa.Nfa.can_read.Goals as goal

pub places-init : goal.places-init
places-init c = all-none _ _

pub returns-then-not-decides : goal.returns-then-not-decides
returns-then-not-decides c = (
  λ test. cc,
  λ decided.
      sym c.if-not-decides.true
      ∙ c.decides.ensures.1 (kept_decided (λ pred. Contains c.args.cells.now.preds pred) _ _ _ _
      c.preds.ensures.listed c.preds.ensures.shared decided
      (rw c.distinct-preds.ensures at c.get.ensures)),
)

pub places-preserved : goal.places-preserved
places-preserved c =
    all-more _ _ _ _ c.places.invariant c.get.ensures (c.decides.ensures.0 c.if-not-decides.false)

pub returns : goal.returns
returns c = (
  λ test. all_decided (λ pred. Contains c.args.cells.now.preds pred) _ _
      c.preds.ensures.listed c.preds.ensures.shared
      (rw c.distinct-preds.ensures at (all-below _ _ _ c.places.invariant (omega arith))),
  λ decided. refl,
)
