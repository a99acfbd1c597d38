-- A combine: starts and steps. Both operands have the same words, so that their hits
-- are of one start.
use Rattle.std.proofs.Common.{◌≡◌, ℕ, List, [], ◌∷◌, ◌++◌, Option, Some, None, drop, sym, subst}
use Rattle.std.proofs.Common.{append-nil}
use Rattle.value_ops.specs.declared.field.Field.{Field}
use Rattle.expressions.specs.Expressions.{Expression}
use Rattle.item_schema.specs.declared.column.Column.{Column}
use Rattle.rate_expr.specs.Language.{In}
use Rattle.rate_expr.specs.Words.{Word, IsWordOf}
use Rattle.query_model.specs.Denotation.{Den}
use Rattle.query_model.specs.Queries.{Qre, combine}
use Rattle.query_model.specs.Rates.{rate_of}
use Rattle.query_model.specs.Rules.{bound, IsClear}
use Rattle.query_model.proofs.InRates.{den_in}
use Rattle.eval_nodes.specs.Holdings.{Holding, combine_held, Seen}
use Rattle.eval_nodes.specs.Starts.{AreApart}
use Rattle.eval_nodes.proofs.Apart.{apart_same}
use Rattle.eval_nodes.proofs.Pieces.{word_after}
use Rattle.step_laws.specs.declared.hit.Hit.{Hit}
use Rattle.step_laws.specs.Lefts.{AreCombined}
use Rattle.step_laws.specs.Steps.{IsFirstHit, IsHit, Starts, Steps}

module _ (f g : Qre) (e : Expression) where
  combined_first : (at : ℕ) (left right hit : Option Hit) → IsFirstHit (Den f) at left
      → IsFirstHit (Den g) at right → AreCombined e left right hit
      → IsFirstHit (Den (combine f g e)) at hit
  combined_first at None right hit a b is =
      subst (IsFirstHit (Den (combine f g e)) at) (sym is) (λ v (x, y, in_f, in_g, gives). a x in_f)
  combined_first at (Some found) None hit a b is =
      subst (IsFirstHit (Den (combine f g e)) at) (sym is) (λ v (x, y, in_f, in_g, gives). b y in_g)
  combined_first at (Some found) (Some other) hit a b (v, is, gives) =
      subst (IsFirstHit (Den (combine f g e)) at) (sym is)
      (a.0, (found.value, other.value, a.1, b.1, gives))

  -- the starts of hits of both operands are one
  one_start : (columns : List Column) (word : Word) (starts : List ℕ) (left right : Hit)
      → IsClear bound columns (combine f g e) → IsWordOf columns word
      → AreApart columns (combine f g e) word starts → IsHit (Den f) word starts (Some left)
      → IsHit (Den g) word starts (Some right) → right.start ≡ left.start
  one_start columns word starts left right clear is apart a b =
      let in_f = den_in bound columns f (drop left.start word) left.value clear.0
      (word_after columns word left.start is) a.sound.1 in
      let in_g = den_in bound columns g (drop right.start word) right.value clear.1
      (word_after columns word right.start is) b.sound.1 in
      apart right.start left.start [] tt b.sound.0 a.sound.0
      (subst (In (rate_of f)) (sym (append-nil (drop right.start word)))
      ((clear.3 (drop right.start word) (word_after columns word right.start is)).1 in_g))
      (subst (In (rate_of f)) (sym (append-nil (drop left.start word))) in_f)

  combined_hit : (columns : List Column) (word : Word) (starts : List ℕ)
      (left right hit : Option Hit) → IsClear bound columns (combine f g e) → IsWordOf columns word
      → AreApart columns (combine f g e) word starts → IsHit (Den f) word starts left
      → IsHit (Den g) word starts right → AreCombined e left right hit
      → IsHit (Den (combine f g e)) word starts hit
  combined_hit columns word starts None right hit clear is apart a b joined =
      subst (IsHit (Den (combine f g e)) word starts) (sym joined) (record {
        sound = tt;
        complete = λ start v there (x, y, in_f, in_g, gives). a.complete start x there in_f;
      })
  combined_hit columns word starts (Some found) None hit clear is apart a b joined =
      subst (IsHit (Den (combine f g e)) word starts) (sym joined) (record {
        sound = tt;
        complete = λ start v there (x, y, in_f, in_g, gives). b.complete start y there in_g;
      })
  combined_hit columns word starts (Some found) (Some other) hit clear is apart a b
      (v, same, gives) =
      let one = one_start columns word starts found other clear is apart a b in
      let right = subst (λ s. Den g (drop s word) other.value) one b.sound.1 in
      subst (IsHit (Den (combine f g e)) word starts) (sym same) (record {
        sound = (a.sound.0, (found.value, other.value, a.sound.1, right, gives));
        complete = tt;
      })

module _ {R : Type 0} (seen : R → Seen R) (f g : Qre) (e : Expression) where
  pub start_combine : (a b a' b' : Holding R) (at : ℕ) (left right hit : Option Hit)
      → Starts seen f a at a' left → Starts seen g b at b' right → AreCombined e left right hit
      → Starts seen (combine f g e) (combine_held a b) at (combine_held a' b') hit
  start_combine a b a' b' at left right hit first second combined =
      λ standing columns word starts clear is positions rep fresh end apart.
      let x = first bound columns word starts clear.0 is positions rep.0 fresh end apart in
      let y = second bound columns word starts clear.1 is positions rep.1 fresh end
      (apart_same columns f g e word (starts ++ at ∷ []) clear is apart) in
      record {
        after = (x.after, y.after);
        hit = combined_first f g e at left right hit x.hit y.hit combined;
      }

  pub step_combine : (a b a' b' : Holding R) (now : ℕ) (item : List Field)
      (left right hit : Option Hit) → Steps seen f a now item a' left
      → Steps seen g b now item b' right → AreCombined e left right hit
      → Steps seen (combine f g e) (combine_held a b) now item (combine_held a' b') hit
  step_combine a b a' b' now item left right hit first second combined =
      λ standing columns word starts clear is positions rep end apart.
      let longer = word ++ item ∷ [] in
      let x = first bound columns word starts clear.0 is positions rep.0 end apart in
      let y = second bound columns word starts clear.1 is positions rep.1 end
      (apart_same columns f g e longer starts clear is apart) in
      record {
        after = (x.after, y.after);
        hit = combined_hit f g e columns longer starts left right hit clear is apart
            x.hit y.hit combined;
      }
