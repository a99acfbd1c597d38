-- An iteration: a step. A piece that ends is folded onto the value before it.
use Rattle.std.proofs.Common.{◌≡◌, ℕ, ◌+◌, ◌∙◌, Bool, List, [], ◌∷◌, ◌++◌, Option, Some, None, drop}
use Rattle.std.proofs.Common.{length, sym, ap, subst, arith, inl, inr}
use Rattle.std.specs.Prelude.{ℤ}
use Rattle.std.specs.List.{Contains}
use Rattle.value_ops.specs.declared.field.Field.{Field}
use Rattle.value_ops.specs.declared.value.Value.{Value}
use Rattle.expressions.specs.Expressions.{Expression}
use Rattle.item_schema.specs.declared.column.Column.{Column}
use Rattle.rate_expr.specs.Language.{In}
use Rattle.rate_expr.specs.Readings.{HasExtension}
use Rattle.rate_expr.specs.Words.{Word, IsWordOf}
use Rattle.query_model.specs.Denotation.{Den}
use Rattle.query_model.specs.Queries.{Qre, iter, split}
use Rattle.query_model.specs.Rates.{rate_of}
use Rattle.query_model.specs.Rules.{bound, IsClear}
use Rattle.query_model.proofs.Defined.{in_den}
use Rattle.query_model.proofs.InRates.{den_in}
use Rattle.split_eval.specs.Entries.{Contents, live_entries, AreDistinct}
use Rattle.split_eval.proofs.Distinct.{AreDistinct-live}
use Rattle.eval_nodes.specs.Holdings.{Holding, iter_held, Seen}
use Rattle.eval_nodes.specs.Live.{live_of}
use Rattle.eval_nodes.specs.Represents.{AreWaiting, Represents}
use Rattle.eval_nodes.specs.Starts.{ArePositions}
use Rattle.eval_nodes.proofs.Apart.{apart_right}
use Rattle.eval_nodes.proofs.Chains.{chain_apart, chain_clear, den_push, no_empty, star_last}
use Rattle.eval_nodes.proofs.Pieces.{after_end, drop_more, length_more, split_piece, word_after}
use Rattle.eval_nodes.proofs.Pieces.{word_piece}
use Rattle.step_laws.specs.declared.hit.Hit.{Hit}
use Rattle.step_laws.specs.Lefts.{IsEnded, IsPut}
use Rattle.step_laws.specs.Steps.{IsHit, Starts, Steps}
use Rattle.step_laws.proofs.Elsewhere.{elsewhere}
use Rattle.step_laws.proofs.Ends.{before_end, reached_all, reached_end, reached_more}
use Rattle.step_laws.proofs.SplitHits.{IsBefore, ended_before}
use Rattle.step_laws.proofs.SplitSteps.{more_positions, still_waiting}
use Rattle.step_laws.proofs.Splits.{handed, none_in}
use Rattle.step_laws.proofs.Waits.{AreWaitingBefore, waiting_all}

module _ (columns : List Column) (f : Qre) (number : ℤ) (e : Expression)
    (clear : IsClear bound columns (iter f number e)) where
  -- the value before a piece and that of the piece give one of both
  from_split : (word : Word) (v : Value) → Den (split (iter f number e) f e) word v
      → Den (iter f number e) word v
  from_split word v (first, second, x, y, whole, before, piece, gives) =
      subst (λ w. Den (iter f number e) w v) (sym whole)
      (den_push f number e first second x y v before piece gives)

  -- Each word with an item has a last piece, which begins before its end.
  chain_hit : (word : Word) (item : List Field) (starts : List ℕ) (hit : Option Hit)
      → IsWordOf columns (word ++ item ∷ []) → ArePositions word starts
      → IsBefore (iter f number e) f e (word ++ item ∷ []) starts hit
      → IsHit (Den (iter f number e)) (word ++ item ∷ []) starts hit
  chain_hit word item starts None is positions before = record {
    sound = tt;
    complete = λ start v there den.
        let q = iter f number e in
        let longer = word ++ item ∷ [] in
        let in_q = den_in bound columns q (drop start longer) v clear
        (word_after columns longer start is) den in
        let more = drop_more word item start (positions start there) in
        let (first, last, same, in_first, in_last) =
        star_last (rate_of f) (drop start word) item (subst (In (rate_of q)) more in_q) in
        let (cut, rest) = split_piece longer start first last
        (more_positions word item starts positions start there) (more ∙ same) in
        elim (before_end longer (start + length first) cut.inside) [
          | inl below ↦
              let x = in_den columns q first clear
              (word_piece columns longer start (start + length first) first is cut) in_first in
              let y = in_den columns f (drop (start + length first) longer) clear.0
              (word_after columns longer (start + length first) is)
              (subst (In (rate_of f)) (sym rest) in_last) in
              before.complete start (start + length first) first x.0 y.0 there cut below x.1 y.1
          | inr end ↦
              absurd (no_empty columns (rate_of f) clear.3 (subst (In (rate_of f))
              (sym rest ∙ after_end longer (start + length first) end) in_last))
        ];
  }
  chain_hit word item starts (Some found) is positions before = record {
    sound = (
      before.sound.0,
      from_split (drop found.start (word ++ item ∷ [])) found.value before.sound.1,
    );
    complete = tt;
  }

module _ {R : Type 0} (seen : R → Seen R) (f : Qre) (number : ℤ) (e : Expression) where
  pub step_iter_none : (a a' : Holding R) (so_far kept : Contents Value) (now : ℕ)
      (item : List Field) (piece : Option Hit) → Steps seen f a now item a' piece
      → IsEnded e so_far.entries piece None
      → kept.entries ≡ live_entries (elsewhere now (live_of f a')) so_far.entries
      → kept.room ≡ so_far.room
      → Steps seen (iter f number e) (iter_held a so_far) now item (iter_held a' kept) None
  step_iter_none a a' so_far kept now item piece first ended keeps room =
      λ standing columns word starts clear is positions rep end apart.
      let q = iter f number e in
      let longer = word ++ item ∷ [] in
      let two = chain_clear columns f number e clear in
      let apart_two = chain_apart columns f number e longer starts apart in
      let (ends, reached, operand) = rep.0 in
      let before = reached_more (In (rate_of q)) word item starts ends reached in
      let last : now ≡ length longer = end ∙ sym (length_more word item) in
      let x = first bound columns word ends clear.0 is
      (λ k there. let (start, part, from, cut, in_q) = (reached k).0 there in cut.inside) operand
      end (apart_right columns q f e longer starts ends two is apart_two
      (λ k there. let (start, part, from, cut, below, in_q) = (before k).0 there in
      (start, part, from, cut, in_q))) in
      let waits = still_waiting seen columns q f e two word item starts ends a' now
      so_far.entries is last before reached rep.1 x.after in
      let hit = chain_hit columns f number e clear word item starts None is positions
      (ended_before columns q f e two word item starts ends so_far.entries is reached rep.1
      piece None x.hit ended before) in
      record {
        after = (
          (
            ends,
            reached_all (In (rate_of q)) longer starts ends before
                (none_in columns q f e two longer starts is hit.complete),
            x.after,
          ),
          subst (AreWaiting (Den q) (HasExtension columns (rate_of f)) longer starts) (sym keeps)
              (waiting_all (Den q) (HasExtension columns (rate_of f)) longer starts
              (live_entries (elsewhere now (live_of f a')) so_far.entries)
              (AreDistinct-live so_far.entries (elsewhere now (live_of f a')) rep.1.distinct)
              waits hit.complete),
          room ∙ rep.2,
        );
        hit = hit;
      }

  pub step_iter_some : (a a' a'' : Holding R) (so_far kept new : Contents Value) (now : ℕ)
      (item : List Field) (piece begun : Option Hit) (hit : Hit) (live : Bool)
      → Steps seen f a now item a' piece → IsEnded e so_far.entries piece (Some hit)
      → kept.entries ≡ live_entries (elsewhere now (live_of f a')) so_far.entries
      → kept.room ≡ so_far.room → Starts seen f a' now a'' begun → live ≡ live_of f a'' now
      → IsPut live kept (record { inner = now; outer = hit.start; value = hit.value }) new
      → new.room ≡ kept.room
      → Steps seen (iter f number e) (iter_held a so_far) now item (iter_held a'' new) (Some hit)
  step_iter_some a a' a'' so_far kept new now item piece begun hit live first ended keeps room
      second is_live put same_room =
      λ standing columns word starts clear is positions rep end apart.
      let q = iter f number e in
      let longer = word ++ item ∷ [] in
      let two = chain_clear columns f number e clear in
      let apart_two = chain_apart columns f number e longer starts apart in
      let (ends, reached, operand) = rep.0 in
      let before = reached_more (In (rate_of q)) word item starts ends reached in
      let all = more_positions word item starts positions in
      let last : now ≡ length longer = end ∙ sym (length_more word item) in
      let x = first bound columns word ends clear.0 is
      (λ k there. let (start, part, from, cut, in_q) = (reached k).0 there in cut.inside) operand
      end (apart_right columns q f e longer starts ends two is apart_two
      (λ k there. let (start, part, from, cut, below, in_q) = (before k).0 there in
      (start, part, from, cut, in_q))) in
      let waits = still_waiting seen columns q f e two word item starts ends a' now
      so_far.entries is last before reached rep.1 x.after in
      let is_hit = chain_hit columns f number e clear word item starts (Some hit) is positions
      (ended_before columns q f e two word item starts ends so_far.entries is reached rep.1 piece
      (Some hit) x.hit ended before) in
      let from = is_hit.sound.0 in
      let den = is_hit.sound.1 in
      let in_q = den_in bound columns q (drop hit.start longer) hit.value clear
      (word_after columns longer hit.start is) den in
      let after = reached_end (In (rate_of q)) longer starts ends hit.start before from
      (all hit.start from) in_q in
      let y = second bound columns longer ends clear.0 is
      (λ k there. let (start, part, begins, cut, below, in_part) = (before k).0 there in cut.inside)
      x.after
      (λ there. let (start, part, begins, cut, below, in_part) = (before now).0 there in
      omega (arith, below, last))
      last
      (apart_right columns q f e longer starts (ends ++ now ∷ []) two is apart_two
      (λ k there. (after k).0 (subst (λ n. Contains (ends ++ n ∷ []) k) last there))) in
      record {
        after = handed seen columns q f e two longer starts ends a'' kept new hit.start
            hit.value live is all apart_two before
            (subst AreDistinct (sym keeps)
            (AreDistinct-live so_far.entries (elsewhere now (live_of f a')) rep.1.distinct))
            (subst (AreWaitingBefore (Den q) (HasExtension columns (rate_of f)) longer starts)
            (sym keeps) waits)
            (room ∙ rep.2) from den
            (subst (λ n. Represents seen columns f a'' longer (ends ++ n ∷ [])) last y.after)
            (is_live ∙ ap (live_of f a'') last)
            (subst (λ n. IsPut live kept
            (record { inner = n; outer = hit.start; value = hit.value }) new) last put)
            same_room;
        hit = is_hit;
      }
