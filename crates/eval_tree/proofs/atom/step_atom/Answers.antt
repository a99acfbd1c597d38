use Rattle.std.proofs.Common.{List, None, Ok, Option, Some, ap, refl, subst, sym, ℕ, ◌∙◌, ◌≡◌}
use Rattle.value_ops.specs.declared.field.Field.{Field}
use Rattle.value_ops.specs.declared.value.ValueType.{ValueType}
use Rattle.expressions.specs.Evaluation.{given, value_of}
use Rattle.expressions.specs.Expressions as values
use Rattle.expressions.specs.Typing.{HasType, types_of}
use Rattle.predicates.specs.Plain as predicates
use Rattle.eval_nodes.specs.Holdings.{atom_held}
use Rattle.eval_nodes.specs.Plain.{holding_of, seen_of}
use Rattle.eval_nodes.specs.declared.node.State.TheViews.{out-State, roll-State}
use Rattle.step_laws.specs.Lefts.{GivesNoTable}
use Rattle.step_laws.proofs.Allowed.{stepped_atom}
use Rattle.step_laws.proofs.Arms.{can_step_as, numbers_step_as, stepped_as, when_stepped}
use Rattle.step_laws.proofs.NumbersTyped.{given_stepped}
use Rattle.step_laws.proofs.PlainArms.{atom_steps, atom_steps_none, atom_steps_other}
use Rattle.eval_tree.proofs.atom.step_atom.Goals as goal

pub put_value-requires : goal.put_value-requires
put_value-requires c =
    let s = c.in-Atom in
    subst (λ (fields : List Field). (type : ValueType)
    × HasType (types_of (given fields None None)) (values.plain_of c.args.expression.now) type)
    (sym c.fields.ensures)
    (stepped_atom seen_of (predicates.plain_of c.args.pred.now)
    (values.plain_of c.args.expression.now) _ c.requires.can.0 c.args.item.now
    (can_step_as _ _ _ _ c.requires.can.0 c.args.item.now refl (sym (ap holding_of s.is))
    c.requires.can.1))

pub returns-in-Some : goal.returns-in-Some
unfolding roll-State out-State denote.Hole.Carrier.roll denote.Hole.Carrier.out
returns-in-Some c =
    let s = c.in-Atom in
    let e = values.plain_of c.args.expression.now in
    let found : s.found ≡ Some c.in-Some.start =
    sym (rw s.is at c.take.ensures.value) ∙ c.in-Some.is in
    λ now. when_stepped _ _ _ now c.args.item.now c.put_value.result c.put_value.new.hit _ (λ put.
    stepped_as _ _ _ _ (atom_held None) _ now c.args.item.now _ _ refl
    (ap holding_of s.is ∙ ap (λ (start : Option ℕ). atom_held start) found)
    (rw s.is (ap (λ (start : Option ℕ). atom_held start) c.take.ensures.after)) (ap Ok put.1)
    (atom_steps (predicates.plain_of c.args.pred.now) e c.in-Some.start now c.args.item.now put.0
    (sym c.holds.ensures ∙ c.if-holds.true)
    (subst (λ (fields : List Field). value_of (given fields None None) e ≡ Some put.0)
    c.fields.ensures put.2)))
    c.put_value.ensures.put
    (λ free. c.put_value.ensures.no_memory
    (subst (λ (fields : List Field). GivesNoTable (types_of (given fields None None)) e)
    (sym c.fields.ensures)
    (given_stepped seen_of (predicates.plain_of c.args.pred.now) e s.found now c.args.item.now
    (numbers_step_as _ _ _ _ now c.args.item.now refl (sym (ap holding_of s.is)) free))))

pub returns-in_default-take : goal.returns-in_default-take
unfolding roll-State out-State denote.Hole.Carrier.roll denote.Hole.Carrier.out
returns-in_default-take c =
    let s = c.in-Atom in
    λ now. stepped_as _ _ _ _ (atom_held None) _ now c.args.item.now _ _ refl
    (ap holding_of s.is ∙ ap (λ (start : Option ℕ). atom_held start)
    (sym (rw s.is at c.take.ensures.value) ∙ c.in-Some.is))
    (rw s.is (ap (λ (start : Option ℕ). atom_held start) c.take.ensures.after))
    (ap Ok c.requires.none)
    (atom_steps_other (predicates.plain_of c.args.pred.now) (values.plain_of c.args.expression.now)
    c.in-Some.start now c.args.item.now (sym c.holds.ensures ∙ c.if-holds.false))

pub returns-in_default-take-2 : goal.returns-in_default-take-2
unfolding roll-State out-State denote.Hole.Carrier.roll denote.Hole.Carrier.out
returns-in_default-take-2 c =
    let s = c.in-Atom in
    λ now. stepped_as _ _ _ _ (atom_held None) _ now c.args.item.now _ _ refl
    (ap holding_of s.is ∙ ap (λ (start : Option ℕ). atom_held start)
    (sym (rw s.is at c.take.ensures.value) ∙ c.in_default-take.is))
    (rw s.is (ap (λ (start : Option ℕ). atom_held start) c.take.ensures.after))
    (ap Ok c.requires.none)
    (atom_steps_none (predicates.plain_of c.args.pred.now) (values.plain_of c.args.expression.now)
    now c.args.item.now)
