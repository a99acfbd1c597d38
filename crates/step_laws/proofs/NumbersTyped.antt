-- What the expressions of a number query give: no table on all values that they are for.
use Rattle.std.proofs.Common.{◌≡◌, ◌≢◌, ℕ, List, Option, Some, None, refl, subst, sym}
use Rattle.std.specs.Prelude.{ℤ}
use Rattle.std.specs.List.{AllByRecursion}
use Rattle.value_ops.specs.declared.field.Field.{Field}
use Rattle.value_ops.specs.declared.value.Value.{Value}
use Rattle.value_ops.specs.declared.value.Value.TheVariants as value
use Rattle.value_ops.specs.declared.value.ValueType.{ValueType}
use Rattle.value_ops.specs.declared.value.ValueType.TheVariants.{Number, Table}
use Rattle.expressions.specs.Evaluation.{given}
use Rattle.expressions.specs.Expressions.{Expression}
use Rattle.value_ops.specs.Types.{IsValueOf}
use Rattle.expressions.specs.Typing.{HasType, Types, types_of}
use Rattle.value_ops.specs.Values.{IsNoTable}
use Rattle.predicates.specs.Predicates.{Predicate}
use Rattle.query_model.specs.Queries.{Qre, atom, split, iter, combine, apply}
use Rattle.query_model.specs.QueryTypes.{of_columns, of_one, of_two, type_of, type_of_expression}
use Rattle.query_model.specs.Rules.{bound}
use Rattle.query_model.specs.Rules as rules
use Rattle.query_model.proofs.ItemFields.{atom_types, one_type, two_types}
use Rattle.split_eval.specs.Entries.{Contents}
use Rattle.split_eval.specs.declared.entry.Entry.{Entry}
use Rattle.eval_nodes.specs.Holdings.{Holding, atom_held, combine_held, apply_held, split_held}
use Rattle.eval_nodes.specs.Holdings.{iter_held, Seen}
use Rattle.eval_nodes.specs.Sound.{IsTyped}
use Rattle.step_laws.specs.declared.hit.Hit.{Hit}
use Rattle.step_laws.specs.Feeds.{IsCarried}
use Rattle.step_laws.specs.Lefts.{GivesNoTable, AreNoTablesOnHits, AreNoTablesWith, IsEnded}
use Rattle.step_laws.specs.Lefts.{IsNoTableOnBoth, IsNoTableOnHit, IsNoTableOnOne, IsNoTableWith}
use Rattle.step_laws.specs.Numbers.{CarriesNumbers, StartsNumbers, StepsNumbers}
use Rattle.step_laws.specs.Steps.{IsHitOf, StartsSoundly, StepsSoundly}
use Rattle.step_laws.proofs.NumberQueries.{number_type}
use Rattle.step_laws.proofs.Typed.{ended_of, found_typed, hit_of}

gives_none : (types : Types) (e : Expression) → rules.IsTyped types e
    → type_of_expression types e ≢ Table → GivesNoTable types e
gives_none types e typed none = (type_of_expression types e, none, typed)

gives_number : (types : Types) (e : Expression) → HasType types e Number → GivesNoTable types e
gives_number types e typed = (Number, λ is. cc, typed)

-- a value of such a type is no table
pub no_table : (type : ValueType) (v : Value) → type ≢ Table → IsValueOf type v → IsNoTable v
no_table type (value.Scalar scalar) none is = tt
no_table type (value.Rec parts) none is = tt
no_table Table (value.Table entries) none is = absurd (none refl)
no_table _ (value.Table entries) none is = absurd is

on_one : (type : ValueType) (e : Expression) (x : Value) → IsValueOf type x
    → GivesNoTable (of_one type) e → IsNoTableOnOne e x
on_one type e x is typed = subst (λ (t : Types). GivesNoTable t e) (sym (one_type type x is)) typed

on_both : (type other : ValueType) (e : Expression) (x y : Value) → IsValueOf type x
    → IsValueOf other y → GivesNoTable (of_two type other) e → IsNoTableOnBoth e x y
on_both type other e x y is is' typed =
    subst (λ (t : Types). GivesNoTable t e) (sym (two_types type other x y is is')) typed

on_hit : (type : ValueType) (e : Expression) (hit : Option Hit) → IsHitOf type hit
    → GivesNoTable (of_one type) e → IsNoTableOnHit e hit
on_hit type e None is typed = tt
on_hit type e (Some found) is typed = on_one type e found.value is typed

with_right : (type other : ValueType) (e : Expression) (x : Value) (right : Option Hit)
    → IsValueOf type x → IsHitOf other right → GivesNoTable (of_two type other) e
    → IsNoTableWith e x right
with_right type other e x None is is' typed = tt
with_right type other e x (Some found) is is' typed =
    on_both type other e x found.value is is' typed

on_hits : (type other : ValueType) (e : Expression) (left right : Option Hit) → IsHitOf type left
    → IsHitOf other right → GivesNoTable (of_two type other) e → AreNoTablesOnHits e left right
on_hits type other e None right is is' typed = tt
on_hits type other e (Some found) right is is' typed =
    with_right type other e found.value right is is' typed

with_entries : (type other : ValueType) (e : Expression) (entries : List (Entry Value))
    (right : Option Hit)
    → AllByRecursion (λ (entry : Entry Value). IsValueOf type entry.value) entries
    → IsHitOf other right → GivesNoTable (of_two type other) e → AreNoTablesWith e entries right
with_entries type other e entries None all is typed = tt
with_entries type other e entries (Some found) all is typed = λ entry there.
    on_both type other e entry.value found.value
    (found_typed (λ (one : Entry Value). IsValueOf type one.value) entries found.start entry
    all there) is typed

module _ {R : Type 0} (seen : R → Seen R) where
  -- starts
  pub applied_started : (f : Qre) (e : Expression) (a a' : Holding R) (at : ℕ) (hit : Option Hit)
      → StartsNumbers seen (apply f e) (apply_held a) at → StartsSoundly seen f a at a' hit
      → IsNoTableOnHit e hit
  applied_started f e a a' at hit free started =
      let can = free.0 in
      let type = type_of can.columns f in
      let x = started bound can.columns can.clear.0 can.sound in
      on_hit type e hit (hit_of type at hit x.hit) (gives_none (of_one type) e can.clear.1
      (number_type can.columns (apply f e) free.1.no_collect free.1.no_tables))

  pub combined_started : (f g : Qre) (e : Expression) (a b a' b' : Holding R) (at : ℕ)
      (left right : Option Hit) → StartsNumbers seen (combine f g e) (combine_held a b) at
      → StartsSoundly seen f a at a' left → StartsSoundly seen g b at b' right
      → AreNoTablesOnHits e left right
  combined_started f g e a b a' b' at left right free first second =
      let can = free.0 in
      let type = type_of can.columns f in
      let other = type_of can.columns g in
      let x = first bound can.columns can.clear.0 can.sound.0 in
      let y = second bound can.columns can.clear.1 can.sound.1 in
      on_hits type other e left right (hit_of type at left x.hit) (hit_of other at right y.hit)
      (gives_none (of_two type other) e can.clear.2
      (number_type can.columns (combine f g e) free.1.no_collect free.1.no_tables))

  pub joined_started : (f g : Qre) (e : Expression) (a b a' b' : Holding R)
      (held : Contents Value) (at : ℕ) (left : Hit) (right : Option Hit)
      → StartsNumbers seen (split f g e) (split_held a b held) at
      → StartsSoundly seen f a at a' (Some left) → StartsSoundly seen g b at b' right
      → IsNoTableWith e left.value right
  joined_started f g e a b a' b' held at left right free first second =
      let can = free.0 in
      let type = type_of can.columns f in
      let other = type_of can.columns g in
      let x = first bound can.columns can.clear.0 can.sound.0 in
      let y = second bound can.columns can.clear.1 can.sound.1 in
      with_right type other e left.value right x.hit.1 (hit_of other at right y.hit)
      (gives_none (of_two type other) e can.clear.2
      (number_type can.columns (split f g e) free.1.no_collect free.1.no_tables))

  -- steps
  pub given_stepped : (pred : Predicate) (e : Expression) (found : Option ℕ) (now : ℕ)
      (item : List Field) → StepsNumbers seen (atom pred e) (atom_held found) now item
      → GivesNoTable (types_of (given item None None)) e
  given_stepped pred e found now item free =
      let can = free.0 in
      subst (λ (types : Types). GivesNoTable types e)
      (sym (atom_types can.columns item can.is_item))
      (gives_none (of_columns can.columns) e can.clear.1
      (number_type can.columns (atom pred e) free.1.no_collect free.1.no_tables))

  pub applied_stepped : (f : Qre) (e : Expression) (a a' : Holding R) (now : ℕ) (item : List Field)
      (hit : Option Hit) → StepsNumbers seen (apply f e) (apply_held a) now item
      → StepsSoundly seen f a now item a' hit → IsNoTableOnHit e hit
  applied_stepped f e a a' now item hit free stepped =
      let can = free.0 in
      let type = type_of can.columns f in
      let x = stepped bound can.columns can.position can.is_next can.clear.0
      can.is_item can.sound in
      on_hit type e hit x.hit (gives_none (of_one type) e can.clear.1
      (number_type can.columns (apply f e) free.1.no_collect free.1.no_tables))

  pub combined_stepped : (f g : Qre) (e : Expression) (a b a' b' : Holding R) (now : ℕ)
      (item : List Field) (left right : Option Hit)
      → StepsNumbers seen (combine f g e) (combine_held a b) now item
      → StepsSoundly seen f a now item a' left → StepsSoundly seen g b now item b' right
      → AreNoTablesOnHits e left right
  combined_stepped f g e a b a' b' now item left right free first second =
      let can = free.0 in
      let type = type_of can.columns f in
      let other = type_of can.columns g in
      let x = first bound can.columns can.position can.is_next can.clear.0
      can.is_item can.sound.0 in
      let y = second bound can.columns can.position can.is_next can.clear.1
      can.is_item can.sound.1 in
      on_hits type other e left right x.hit y.hit (gives_none (of_two type other) e can.clear.2
      (number_type can.columns (combine f g e) free.1.no_collect free.1.no_tables))

  pub ended_stepped : (f g : Qre) (e : Expression) (a b b' : Holding R)
      (held : Contents Value) (now : ℕ) (item : List Field) (right : Option Hit)
      → StepsNumbers seen (split f g e) (split_held a b held) now item
      → StepsSoundly seen g b now item b' right → AreNoTablesWith e held.entries right
  ended_stepped f g e a b b' held now item right free second =
      let can = free.0 in
      let type = type_of can.columns f in
      let other = type_of can.columns g in
      let y = second bound can.columns can.position can.is_next can.clear.1
      can.is_item can.sound.1 in
      with_entries type other e held.entries right can.sound.2.typed y.hit
      (gives_none (of_two type other) e can.clear.2
      (number_type can.columns (split f g e) free.1.no_collect free.1.no_tables))

  pub joined_stepped : (f g : Qre) (e : Expression) (a b a' b' b'' : Holding R)
      (held : Contents Value) (now : ℕ) (item : List Field) (left : Hit) (right begun : Option Hit)
      → StepsNumbers seen (split f g e) (split_held a b held) now item
      → StepsSoundly seen f a now item a' (Some left) → StepsSoundly seen g b now item b' right
      → StartsSoundly seen g b' now b'' begun → IsNoTableWith e left.value begun
  joined_stepped f g e a b a' b' b'' held now item left right begun free first second third =
      let can = free.0 in
      let type = type_of can.columns f in
      let other = type_of can.columns g in
      let x = first bound can.columns can.position can.is_next can.clear.0
      can.is_item can.sound.0 in
      let y = second bound can.columns can.position can.is_next can.clear.1
      can.is_item can.sound.1 in
      let z = third bound can.columns can.clear.1 y.node in
      with_right type other e left.value begun x.hit (hit_of other now begun z.hit)
      (gives_none (of_two type other) e can.clear.2
      (number_type can.columns (split f g e) free.1.no_collect free.1.no_tables))

  pub ended_piece : (f : Qre) (number : ℤ) (e : Expression) (a a' : Holding R)
      (so_far : Contents Value) (now : ℕ) (item : List Field) (piece : Option Hit)
      → StepsNumbers seen (iter f number e) (iter_held a so_far) now item
      → StepsSoundly seen f a now item a' piece → AreNoTablesWith e so_far.entries piece
  ended_piece f number e a a' so_far now item piece free first =
      let can = free.0 in
      let x = first bound can.columns can.position can.is_next can.clear.0
      can.is_item can.sound.0 in
      with_entries Number (type_of can.columns f) e so_far.entries piece can.sound.1.typed x.hit
      (gives_number (of_two Number (type_of can.columns f)) e can.clear.2)

  -- a value so far is none either
  pub ended_no_table : (f : Qre) (number : ℤ) (e : Expression) (a a' : Holding R)
      (so_far : Contents Value) (now : ℕ) (item : List Field) (piece : Option Hit) (hit : Hit)
      → StepsNumbers seen (iter f number e) (iter_held a so_far) now item
      → StepsSoundly seen f a now item a' piece → IsEnded e so_far.entries piece (Some hit)
      → IsNoTable hit.value
  ended_no_table f number e a a' so_far now item piece hit free first ended =
      let can = free.0 in
      let x = first bound can.columns can.position can.is_next can.clear.0
      can.is_item can.sound.0 in
      no_table Number hit.value (λ is. cc)
      (ended_of Number (type_of can.columns f) Number e so_far.entries piece (Some hit)
      can.sound.1.typed x.hit can.clear.2 ended)

  -- nor is the answer of a runner
  pub answer_no_table : (q : Qre) (old new : R) (item : List Field) (v : Value)
      → CarriesNumbers seen q old item → IsCarried seen q old item new
      → (seen new).answer ≡ Some v → IsNoTable v
  answer_no_table q old new item v free carried is =
      let can = free.0 in
      let sound = carried.sound can.standing can.columns can.clear can.is_item can.sound in
      no_table (type_of can.columns q) v
      (number_type can.columns q free.1.no_collect free.1.no_tables)
      (subst (IsTyped (type_of can.columns q)) is sound.answer)
