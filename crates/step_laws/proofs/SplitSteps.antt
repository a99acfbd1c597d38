-- A split: a step.
use Rattle.std.proofs.Common.{◌≡◌, ℕ, ◌∙◌, Bool, List, [], ◌∷◌, ◌++◌, Option, Some, None, drop}
use Rattle.std.proofs.Common.{length, refl, sym, ap, subst, arith}
use Rattle.std.specs.List.{Contains}
use Rattle.std.specs.Option.{option_or}
use Rattle.value_ops.specs.declared.field.Field.{Field}
use Rattle.value_ops.specs.declared.value.Value.{Value}
use Rattle.expressions.specs.Expressions.{Expression}
use Rattle.item_schema.specs.declared.column.Column.{Column}
use Rattle.rate_expr.specs.Language.{In}
use Rattle.rate_expr.specs.Readings.{HasExtension}
use Rattle.rate_expr.specs.Words.{Word, IsWordOf}
use Rattle.rate_expr.proofs.Wording.{word_parts}
use Rattle.query_model.specs.Denotation.{Den}
use Rattle.query_model.specs.Queries.{Qre, split}
use Rattle.query_model.specs.Rates.{rate_of}
use Rattle.query_model.specs.Rules.{bound, IsClear}
use Rattle.query_model.proofs.InRates.{den_in}
use Rattle.split_eval.specs.Entries.{Contents, live_entries, AreDistinct}
use Rattle.split_eval.specs.declared.entry.Entry.{Entry}
use Rattle.split_eval.proofs.Distinct.{AreDistinct-live}
use Rattle.eval_nodes.specs.Holdings.{Holding, split_held, Seen}
use Rattle.eval_nodes.specs.Live.{live_of}
use Rattle.eval_nodes.specs.Represents.{AreReached, AreWaiting, Represents}
use Rattle.eval_nodes.specs.Starts.{ArePositions}
use Rattle.eval_nodes.proofs.Apart.{apart_left, apart_right}
use Rattle.eval_nodes.proofs.Living.{living}
use Rattle.eval_nodes.proofs.Pieces.{length_more, word_after, word_piece}
use Rattle.step_laws.specs.declared.hit.Hit.{Hit}
use Rattle.step_laws.specs.Lefts.{IsEnded, IsJoined, IsPut}
use Rattle.step_laws.specs.Steps.{IsHit, Starts, Steps}
use Rattle.step_laws.proofs.Elsewhere.{elsewhere, elsewhere_lives}
use Rattle.step_laws.proofs.Ends.{AreReachedBefore, reached_all, reached_end, reached_more}
use Rattle.step_laws.proofs.Splits.{extension_less, handed, none_in}
use Rattle.step_laws.proofs.Waits.{AreWaitingBefore, waiting_all, waiting_more}
use Rattle.step_laws.proofs.SplitHits.{either_end, ended_before, last_joined, no_last}

pub more_positions : (word : Word) (item : List Field) (starts : List ℕ) → ArePositions word starts
    → ArePositions (word ++ item ∷ []) starts
more_positions word item starts positions start there =
    let inside = positions start there in
    let more = length_more word item in
    omega (arith, inside, more)

module _ {R : Type 0} (seen : R → Seen R) where
  -- those that wait where the right piece can still continue
  pub still_waiting : (columns : List Column) (f g : Qre) (e : Expression)
      → IsClear bound columns (split f g e)
      → (word : Word) (item : List Field) (starts ends : List ℕ) (b' : Holding R) (now : ℕ)
      (entries : List (Entry Value))
      → IsWordOf columns (word ++ item ∷ []) → now ≡ length (word ++ item ∷ [])
      → AreReachedBefore (In (rate_of f)) (word ++ item ∷ []) starts ends
      → AreReached (In (rate_of f)) word starts ends
      → AreWaiting (Den f) (HasExtension columns (rate_of g)) word starts entries
      → Represents seen columns g b' (word ++ item ∷ []) ends
      → AreWaitingBefore (Den f) (HasExtension columns (rate_of g)) (word ++ item ∷ []) starts
      (live_entries (elsewhere now (live_of g b')) entries)
  still_waiting columns f g e clear word item starts ends b' now entries is last before
      reached waiting right =
      let old = word_parts columns word (item ∷ []) is in
      waiting_more (Den f) (HasExtension columns (rate_of g)) word item starts ends entries
      (elsewhere now (live_of g b'))
      (λ u. extension_less columns f g e clear item u old.1) waiting
      (λ outer inner piece v from cut den. (reached inner).1 (
        outer,
        piece,
        from,
        cut,
        den_in bound columns f piece v clear.0
            (word_piece columns word outer inner piece old.0 cut) den,
      ))
      (elsewhere_lives now (live_of g b')
      (λ inner. Contains ends inner
      × HasExtension columns (rate_of g) (drop inner (word ++ item ∷ [])))
      (λ there. let (start, piece, begins, cut, below, in_piece) = (before now).0 there.0 in
      omega (arith, below, last))
      (λ inner. living seen bound columns g b' (word ++ item ∷ []) ends inner clear.1 is
      (λ k there. let (start, piece, begins, cut, below, in_piece) = (before k).0 there in
      cut.inside) right))

  pub step_split_none : (f g : Qre) (e : Expression) (a b a' b' : Holding R)
      (held kept : Contents Value) (now : ℕ) (item : List Field) (right hit : Option Hit)
      → Steps seen f a now item a' None → Steps seen g b now item b' right
      → IsEnded e held.entries right hit
      → kept.entries ≡ live_entries (elsewhere now (live_of g b')) held.entries
      → kept.room ≡ held.room
      → Steps seen (split f g e) (split_held a b held) now item (split_held a' b' kept) hit
  step_split_none f g e a b a' b' held kept now item right hit first second ended keeps room =
      λ standing columns word starts clear is positions rep end apart.
      let longer = word ++ item ∷ [] in
      let (ends, reached, right_rep) = rep.1 in
      let before = reached_more (In (rate_of f)) word item starts ends reached in
      let all = more_positions word item starts positions in
      let last : now ≡ length longer = end ∙ sym (length_more word item) in
      let x = first bound columns word starts clear.0 is positions rep.0 end
      (apart_left columns f g e longer starts clear.1 apart) in
      let y = second bound columns word ends clear.1 is
      (λ k there. let (start, piece, from, cut, in_f) = (reached k).0 there in cut.inside) right_rep
      end (apart_right columns f g e longer starts ends clear is apart
      (λ k there. let (start, piece, from, cut, below, in_f) = (before k).0 there in
      (start, piece, from, cut, in_f)))
      in
      let waits = still_waiting columns f g e clear word item starts ends b' now
      held.entries is last before reached rep.2 y.after in
      record {
        after = (
          x.after,
          (
            ends,
            reached_all (In (rate_of f)) longer starts ends before
                (none_in columns f g e clear longer starts is x.hit.complete),
            y.after,
          ),
          subst (AreWaiting (Den f) (HasExtension columns (rate_of g)) longer starts) (sym keeps)
              (waiting_all (Den f) (HasExtension columns (rate_of g)) longer starts
              (live_entries (elsewhere now (live_of g b')) held.entries)
              (AreDistinct-live held.entries (elsewhere now (live_of g b')) rep.2.distinct) waits
              x.hit.complete),
          room ∙ rep.3,
        );
        hit = subst (IsHit (Den (split f g e)) longer starts) (or_none hit)
            (either_end f g e longer starts hit None all
            (ended_before columns f g e clear word item starts ends held.entries is
            reached rep.2 right hit y.hit ended before)
            (no_last f g e longer starts x.hit.complete));
      }
    where
      or_none : (hit : Option Hit) → option_or hit None ≡ hit
      or_none None = refl
      or_none (Some found) = refl

  pub step_split_some : (f g : Qre) (e : Expression) (a b a' b' b'' : Holding R)
      (held kept new : Contents Value) (now : ℕ)
      (item : List Field) (left : Hit) (right begun hit second_hit : Option Hit) (live : Bool)
      → Steps seen f a now item a' (Some left) → Steps seen g b now item b' right
      → IsEnded e held.entries right hit
      → kept.entries ≡ live_entries (elsewhere now (live_of g b')) held.entries
      → kept.room ≡ held.room → Starts seen g b' now b'' begun
      → IsJoined e left.start left.value begun second_hit → live ≡ live_of g b'' now
      → IsPut live kept (record { inner = now; outer = left.start; value = left.value }) new
      → new.room ≡ kept.room → Steps seen (split f g e) (split_held a b held) now item
      (split_held a' b'' new) (option_or hit second_hit)
  step_split_some f g e a b a' b' b'' held kept new now item left right begun hit second_hit live
      first second ended keeps room third joined is_live put same_room =
      λ standing columns word starts clear is positions rep end apart.
      let longer = word ++ item ∷ [] in
      let (ends, reached, right_rep) = rep.1 in
      let before = reached_more (In (rate_of f)) word item starts ends reached in
      let all = more_positions word item starts positions in
      let last : now ≡ length longer = end ∙ sym (length_more word item) in
      let x = first bound columns word starts clear.0 is positions rep.0 end
      (apart_left columns f g e longer starts clear.1 apart) in
      let y = second bound columns word ends clear.1 is
      (λ k there. let (start, piece, from, cut, in_f) = (reached k).0 there in cut.inside) right_rep
      end (apart_right columns f g e longer starts ends clear is apart
      (λ k there. let (start, piece, from, cut, below, in_f) = (before k).0 there in
      (start, piece, from, cut, in_f)))
      in
      let waits = still_waiting columns f g e clear word item starts ends b' now
      held.entries is last before reached rep.2 y.after in
      let from = x.hit.sound.0 in
      let den = x.hit.sound.1 in
      let in_f = den_in bound columns f (drop left.start longer) left.value clear.0
      (word_after columns longer left.start is) den in
      let after = reached_end (In (rate_of f)) longer starts ends left.start before from
      (all left.start from) in_f in
      let z = third bound columns longer ends clear.1 is
      (λ k there. let (start, piece, begins, cut, below, in_piece) = (before k).0 there in
      cut.inside) y.after
      (λ there. let (start, piece, begins, cut, below, in_piece) = (before now).0 there in
      omega (arith, below, last))
      last
      (apart_right columns f g e longer starts (ends ++ now ∷ []) clear is apart
      (λ k there. (after k).0 (subst (λ n. Contains (ends ++ n ∷ []) k) last there))) in
      let passed_on = handed seen columns f g e clear longer starts ends b'' kept new
      left.start left.value live is all apart before
      (subst AreDistinct (sym keeps)
      (AreDistinct-live held.entries (elsewhere now (live_of g b')) rep.2.distinct))
      (subst (AreWaitingBefore (Den f) (HasExtension columns (rate_of g)) longer starts)
      (sym keeps) waits)
      (room ∙ rep.3) from den
      (subst (λ n. Represents seen columns g b'' longer (ends ++ n ∷ [])) last z.after)
      (is_live ∙ ap (live_of g b'') last)
      (subst (λ n. IsPut live kept
      (record { inner = n; outer = left.start; value = left.value }) new) last put)
      same_room in
      record {
        after = (x.after, passed_on.0, passed_on.1, passed_on.2);
        hit = either_end f g e longer starts hit second_hit all
            (ended_before columns f g e clear word item starts ends held.entries is
            reached rep.2 right hit y.hit ended before)
            (last_joined f g e longer starts now left begun second_hit from den z.hit joined);
      }
