use Rattle.std.proofs.Common.{◌≡◌, ◌++◌, inl, inr, ap}
use Rattle.std.proofs.lemmas.Result.{on_ok_weaker}
use Rattle.query_model.specs.Queries.{plain_of}
use Rattle.query_model.specs.Sizes.{predicates_of}
use Rattle.query_model.specs.declared.query.Shape.{Shape}
use Rattle.query_model.proofs.SameMembers.{gathered_both}
use Rattle.query_model.proofs.cells.+add_those_of.Goals as goal

pub returns-in-Atom : goal.returns-in-Atom
returns-in-Atom t c = rw c.in-Atom.is c.add_once.ensures

pub returns-in_ok-add_those_of-in-Or : goal.returns-in_ok-add_those_of-in-Or
returns-in_ok-add_those_of-in-Or t c =
    let parts : predicates_of (plain_of c.args.query.now.shape)
    ≡ predicates_of (plain_of c.in-Or.left.value.shape) ++ predicates_of
    (plain_of c.in-Or.right.value.shape) =
    elim c.in-Or.is [
      | inl is ↦ ap (λ (shape : Shape). predicates_of (plain_of shape)) is
      | inr others ↦ elim others [
        | inl (expression, is) ↦ ap (λ (shape : Shape). predicates_of (plain_of shape)) is
        | inr (expression, is) ↦ ap (λ (shape : Shape). predicates_of (plain_of shape)) is
      ]
    ] in
    let one = rw c.deref-in-Or.ensures at c.in_ok-add_those_of-in-Or.ensures in
    let two = rw c.deref-in-Or-2.ensures at c.add_those_of-in-Or-2.ensures in
    rw parts (on_ok_weaker c.add_those_of-in-Or-2.result
    (gathered_both c.args.preds.now c.add_those_of-in-Or.new.preds
    c.add_those_of-in-Or-2.new.preds _ _ one) two)

pub returns-in-Iter : goal.returns-in-Iter
returns-in-Iter t c =
    let parts : predicates_of (plain_of c.args.query.now.shape)
    ≡ predicates_of (plain_of c.in-Iter.inner.value.shape) =
    elim c.in-Iter.is [
      | inl (number, expression, is) ↦ ap (λ (shape : Shape). predicates_of (plain_of shape)) is
      | inr others ↦ elim others [
        | inl (expression, is) ↦ ap (λ (shape : Shape). predicates_of (plain_of shape)) is
        | inr (second, is) ↦ ap (λ (shape : Shape). predicates_of (plain_of shape)) is
      ]
    ] in
    rw parts (rw c.deref-in-Iter.ensures at c.add_those_of-in-Iter.ensures)

pub returns-in_ok-add_those_in-in-Collect : goal.returns-in_ok-add_those_in-in-Collect
returns-in_ok-add_those_in-in-Collect t c =
    let inner = rw c.deref.ensures at c.add_those_of.ensures in
    rw c.in-Collect.is (on_ok_weaker c.add_those_of.result
    (gathered_both c.args.preds.now c.add_those_in.new.preds c.add_those_of.new.preds _ _
    (gathered_both c.args.preds.now c.add_once-in-Collect.new.preds c.add_those_in.new.preds _ _
    c.in_ok-add_once-in-Collect.ensures c.in_ok-add_those_in-in-Collect.ensures)) inner)
