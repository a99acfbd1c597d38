use Rattle.std.proofs.Common.{◌≡◌, ◌++◌, inl, inr, ap}
use Rattle.std.proofs.lemmas.Result.{on_ok_weaker}
use Rattle.rate_expr.specs.Plain.{plain_of}
use Rattle.rate_expr.specs.Rates.{preds_of}
use Rattle.rate_expr.specs.declared.rate.Rate.{Rate}
use Rattle.query_model.proofs.SameMembers.{gathered_both}
use Rattle.query_model.proofs.cells.+add_those_in.Goals as goal

pub returns-in-One : goal.returns-in-One
returns-in-One t c = rw c.in-One.is c.add_once.ensures

pub returns-in_ok-add_those_in-in-Seq : goal.returns-in_ok-add_those_in-in-Seq
returns-in_ok-add_those_in-in-Seq t c =
    let parts : preds_of (plain_of c.args.rate.now)
    ≡ preds_of (plain_of c.in-Seq.left.value) ++ preds_of (plain_of c.in-Seq.right.value) =
    elim c.in-Seq.is [
      | inl is ↦ ap (λ (rate : Rate). preds_of (plain_of rate)) is
      | inr is ↦ ap (λ (rate : Rate). preds_of (plain_of rate)) is
    ] in
    let one = rw c.deref-in-Seq.ensures at c.in_ok-add_those_in-in-Seq.ensures in
    let two = rw c.deref-in-Seq-2.ensures at c.add_those_in-in-Seq-2.ensures in
    rw parts (on_ok_weaker c.add_those_in-in-Seq-2.result
    (gathered_both c.args.preds.now c.add_those_in-in-Seq.new.preds
    c.add_those_in-in-Seq-2.new.preds _ _ one) two)

pub returns-in-Star : goal.returns-in-Star
returns-in-Star t c = rw c.in-Star.is (rw c.deref.ensures at c.add_those_in.ensures)
