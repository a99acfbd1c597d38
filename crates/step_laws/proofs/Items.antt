-- An atom and the empty word: starts and steps.
use Rattle.std.proofs.Common.{◌≡◌, ◌≤◌, ℕ, ◌∙◌, true, false, List, [], ◌∷◌, ◌++◌, Option, Some}
use Rattle.std.proofs.Common.{None, drop, length, refl, sym, ap, subst, arith}
use Rattle.std.specs.List.{Contains}
use Rattle.std.proofs.lemmas.Option.{none-some, same_Some}
use Rattle.std.proofs.lemmas.List.Elements.{Contains-push}
use Rattle.std.specs.Prelude.{ℤ}
use Rattle.value_ops.specs.declared.field.Field.{Field}
use Rattle.value_ops.specs.declared.value.Value.{Value}
use Rattle.expressions.specs.Evaluation.{given, value_of}
use Rattle.expressions.specs.Expressions.{Expression}
use Rattle.predicates.specs.Predicates.{Predicate}
use Rattle.predicates.specs.Truth.{holds}
use Rattle.rate_expr.specs.Words.{Word}
use Rattle.query_model.specs.Queries.{atom, eps}
use Rattle.eval_nodes.specs.Holdings.{atom_held, eps_held, Seen}
use Rattle.eval_nodes.specs.Starts.{ArePositions}
use Rattle.eval_nodes.proofs.Pieces.{at_end, after_end, drop_more, length_more, one_item}
use Rattle.step_laws.specs.Steps.{Starts, Steps}

-- the piece of one item begins at the end of the word before it
last_start : (word : Word) (item other : List Field) (start : ℕ) → start ≤ length word
    → drop start (word ++ item ∷ []) ≡ other ∷ [] → (start ≡ length word) × (item ≡ other)
last_start word item other start inside whole =
    let one = one_item (drop start word) item other
    (sym (drop_more word item start inside) ∙ whole) in
    (at_end word start inside one.0, one.1)

last_item : (word : Word) (item : List Field) (start : ℕ) → start ≡ length word
    → drop start (word ++ item ∷ []) ≡ item ∷ []
last_item word item start end =
    drop_more word item start (omega (arith, end))
    ∙ ap (λ u. u ++ item ∷ []) (after_end word start end)

module _ {R : Type 0} (seen : R → Seen R) where
  pub start_atom : (pred : Predicate) (e : Expression) (old : Option ℕ) (at : ℕ)
      → Starts seen (atom pred e) (atom_held old) at (atom_held (Some at)) None
  start_atom pred e old at =
      λ standing columns word starts clear is positions rep fresh end apart. record {
        after = λ start. (
          λ found. let same : at ≡ start = same_Some at start found in
              (subst (Contains (starts ++ at ∷ [])) same (Contains-push starts at), sym same ∙ end),
          λ there. ap Some (end ∙ sym there.1),
        );
        hit = λ v (item, whole, meets, gives). cc;
      }

  -- none waits at the new end
  none_waits : (word : Word) (item : List Field) (starts : List ℕ) → ArePositions word starts
      → (start : ℕ) → Contains starts start → start ≡ length (word ++ item ∷ []) → ⊥
  none_waits word item starts positions start there end =
      let inside = positions start there in
      let more = length_more word item in
      omega (arith, inside, more, end)

  pub step_atom_none : (pred : Predicate) (e : Expression) (now : ℕ) (item : List Field)
      → Steps seen (atom pred e) (atom_held None) now item (atom_held None) None
  step_atom_none pred e now item =
      λ standing columns word starts clear is positions rep end apart. record {
        after = λ start. (
          λ found. absurd (none-some start found),
          λ there. absurd (none_waits word item starts positions start there.0 there.1),
        );
        hit = record {
          sound = tt;
          complete = λ start v there (other, whole, meets, gives).
              let last = last_start word item other start (positions start there) whole in
              none-some start ((rep start).1 (there, last.0));
        };
      }

  pub step_atom_other : (pred : Predicate) (e : Expression) (begun now : ℕ) (item : List Field)
      → holds pred item ≡ false
      → Steps seen (atom pred e) (atom_held (Some begun)) now item (atom_held None) None
  step_atom_other pred e begun now item not =
      λ standing columns word starts clear is positions rep end apart. record {
        after = λ start. (
          λ found. absurd (none-some start found),
          λ there. absurd (none_waits word item starts positions start there.0 there.1),
        );
        hit = record {
          sound = tt;
          complete = λ start v there (other, whole, meets, gives).
              let last = last_start word item other start (positions start there) whole in
              let same = last.1 in
              let met : holds pred item ≡ true = ap (holds pred) same ∙ meets in
              cc (met, not);
        };
      }

  pub step_atom : (pred : Predicate) (e : Expression) (begun now : ℕ)
      (item : List Field) (v : Value) → holds pred item ≡ true
      → value_of (given item None None) e ≡ Some v
      → Steps seen (atom pred e) (atom_held (Some begun)) now item (atom_held None)
      (Some (record { start = begun; value = v }))
  step_atom pred e begun now item v meets gives =
      λ standing columns word starts clear is positions rep end apart.
      let there = (rep begun).0 refl in
      record {
        after = λ start. (
          λ found. absurd (none-some start found),
          λ other. absurd (none_waits word item starts positions start other.0 other.1),
        );
        hit = record {
          sound = (there.0, (item, last_item word item begun there.1, meets, gives));
          complete = tt;
        };
      }

  pub step_eps : (number : ℤ) (now : ℕ) (item : List Field)
      → Steps seen (eps number) eps_held now item eps_held None
  step_eps number now item =
      λ standing columns word starts clear is positions rep end apart. record {
        after = tt;
        hit = record {
          sound = tt;
          complete = λ start v there (none, same).
              let inside = positions start there in
              let more = length_more word item in
              let last = at_end (word ++ item ∷ []) start (omega (arith, inside, more)) none in
              omega (arith, inside, more, last);
        };
      }
