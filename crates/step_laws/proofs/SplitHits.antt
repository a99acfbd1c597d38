-- A split: the hits of a step, of left values before the end of the word and of those at it.
use Rattle.std.proofs.Common.{◌≡◌, ◌<◌, ℕ, ◌+◌, ◌∙◌, List, [], ◌∷◌, ◌++◌, Option, Some, None}
use Rattle.std.proofs.Common.{MatchOption, drop, length, refl, sym, subst, append-nil, inl, inr}
use Rattle.std.specs.List.{Contains}
use Rattle.std.specs.Option.{option_or}
use Rattle.std.proofs.lemmas.Option.{none-some}
use Rattle.value_ops.specs.declared.field.Field.{Field}
use Rattle.value_ops.specs.declared.value.Value.{Value}
use Rattle.expressions.specs.Expressions.{Expression}
use Rattle.item_schema.specs.declared.column.Column.{Column}
use Rattle.rate_expr.specs.Language.{In}
use Rattle.rate_expr.specs.Readings.{HasExtension}
use Rattle.rate_expr.specs.Words.{Word, IsWordOf}
use Rattle.rate_expr.proofs.Wording.{word_parts}
use Rattle.query_model.specs.Denotation.{Den}
use Rattle.query_model.specs.Queries.{Qre, split}
use Rattle.query_model.specs.Rates.{rate_of}
use Rattle.query_model.specs.Rules.{bound, IsClear}
use Rattle.query_model.proofs.Defined.{in_den}
use Rattle.query_model.proofs.InRates.{den_in}
use Rattle.split_eval.specs.Entries.{entry_at}
use Rattle.split_eval.specs.declared.entry.Entry.{Entry}
use Rattle.eval_nodes.specs.Represents.{AreReached, AreWaiting}
use Rattle.eval_nodes.specs.Starts.{ArePositions, IsPiece}
use Rattle.eval_nodes.proofs.Pieces.{after_end, drop_more, end_is, piece_more, split_piece}
use Rattle.eval_nodes.proofs.Pieces.{word_after, word_piece}
use Rattle.eval_nodes.proofs.Entries.{is_entry}
use Rattle.step_laws.specs.declared.hit.Hit.{Hit}
use Rattle.step_laws.specs.Lefts.{IsEnded, IsJoined, IsJoinedWith}
use Rattle.step_laws.specs.Steps.{IsFirstHit, IsHit}
use Rattle.step_laws.proofs.Ends.{AreReachedBefore, before_end}

module _ (f g : Qre) (e : Expression) where
  -- a value whose left piece ends before the end of the word, and where there is no
  -- hit none has one
  pub record IsBefore (word : Word) (starts : List ℕ) (hit : Option Hit) : Type 0 where
    pub sound : MatchOption hit (Unit {0})
        (λ found. Contains starts found.start
        × Den (split f g e) (drop found.start word) found.value)
    pub complete : MatchOption hit
        ((start at : ℕ) (piece : Word) (x y : Value) → Contains starts start
        → IsPiece word start piece at → at < length word → Den f piece x
        → Den g (drop at word) y → ⊥)
        (λ found. Unit {0})

  -- a value whose left piece ends at the end
  pub record IsLast (word : Word) (starts : List ℕ) (hit : Option Hit) : Type 0 where
    pub sound : MatchOption hit (Unit {0})
        (λ found. Contains starts found.start
        × Den (split f g e) (drop found.start word) found.value)
    pub complete : MatchOption hit
        ((start : ℕ) (x y : Value) → Contains starts start → Den f (drop start word) x
        → Den g [] y → ⊥) (λ found. Unit {0})

  pub either_end : (word : Word) (starts : List ℕ) (hit begun : Option Hit)
      → ArePositions word starts → IsBefore word starts hit → IsLast word starts begun
      → IsHit (Den (split f g e)) word starts (option_or hit begun)
  either_end word starts None None positions a b = record {
    sound = tt;
    complete = λ start v there (first, second, x, y, whole, in_f, in_g, gives).
        let (cut, rest) = split_piece word start first second (positions start there) whole in
        let right : Den g (drop (start + length first) word) y =
        subst (λ u. Den g u y) (sym rest) in_g in
        elim (before_end word (start + length first) cut.inside) [
          | inl below ↦ a.complete start (start + length first) first x y there cut below in_f right
          | inr last ↦ b.complete start x y there
              (subst (λ u. Den f u x)
              (end_is word start (start + length first) first cut last) in_f)
              (subst (λ u. Den g u y) (after_end word (start + length first) last) right)
        ];
  }
  either_end word starts None (Some found) positions a b = record { sound = b.sound; complete = tt }
  either_end word starts (Some found) begun positions a b =
      record { sound = a.sound; complete = tt }

  -- no left value at the end
  pub no_last : (word : Word) (starts : List ℕ)
      → ((start : ℕ) (v : Value) → Contains starts start → Den f (drop start word) v → ⊥)
      → IsLast word starts None
  no_last word starts none = record {
    sound = tt;
    complete = λ start x y there in_f in_g. none start x there in_f;
  }

  -- the left value at the end and a right value of the empty word
  pub last_joined : (word : Word) (starts : List ℕ) (at : ℕ) (left : Hit) (right begun : Option Hit)
      → Contains starts left.start → Den f (drop left.start word) left.value
      → IsFirstHit (Den g) at right → IsJoined e left.start left.value right begun
      → IsLast word starts begun
  last_joined word starts at left None begun there den first is =
      subst (IsLast word starts) (sym is) (record {
        sound = tt;
        complete = λ start x y from in_f in_g. first y in_g;
      })
  last_joined word starts at left (Some found) begun there den first (v, is, gives) =
      subst (IsLast word starts) (sym is) (record {
        sound = (
          there,
          (
            drop left.start word,
            [],
            left.value,
            found.value,
            sym (append-nil (drop left.start word)),
            den,
            first.1,
            gives,
          ),
        );
        complete = tt;
      })

module _ (columns : List Column) (f g : Qre) (e : Expression)
    (clear : IsClear bound columns (split f g e)) (word : Word) (item : List Field)
    (starts ends : List ℕ) (entries : List (Entry Value))
    (is : IsWordOf columns (word ++ item ∷ []))
    (reached : AreReached (In (rate_of f)) word starts ends)
    (waiting : AreWaiting (Den f) (HasExtension columns (rate_of g)) word starts entries) where
  ended_with : (right : Hit) (waits : Option (Entry Value)) (hit : Option Hit)
      → Contains ends right.start → Den g (drop right.start (word ++ item ∷ [])) right.value
      → entry_at entries right.start ≡ waits → IsJoinedWith e waits (Some right) hit
      → IsBefore f g e (word ++ item ∷ []) starts hit
  ended_with right None hit there den found joined =
      let (start, piece, from, cut, in_f) = (reached right.start).0 there in
      let old = word_parts columns word (item ∷ []) is in
      let x = in_den columns f piece clear.0
      (word_piece columns word start right.start piece old.0 cut) in_f in
      let in_g = den_in bound columns g (drop right.start (word ++ item ∷ [])) right.value clear.1
      (word_after columns (word ++ item ∷ []) right.start is) den in
      absurd (none-some _ (sym found ∙ (waiting.each right.start start x.0).1 (
        from,
        (piece, cut, x.1),
        (item, [], old.1, subst (In (rate_of g)) (drop_more word item right.start cut.inside) in_g),
      )))
  ended_with right (Some entry) hit there den found (v, is_hit, gives) =
      let (from, (piece, cut, in_f), more) = (waiting.each right.start entry.outer entry.value).0
      (is_entry entries right.start entry found) in
      let longer = piece_more word item entry.outer right.start piece cut in
      subst (IsBefore f g e (word ++ item ∷ []) starts) (sym is_hit) (record {
        sound = (
          from,
          (
            piece,
            drop right.start (word ++ item ∷ []),
            entry.value,
            right.value,
            longer.cut,
            in_f,
            den,
            gives,
          ),
        );
        complete = tt;
      })

  pub ended_before : (right hit : Option Hit) → IsHit (Den g) (word ++ item ∷ []) ends right
      → IsEnded e entries right hit
      → AreReachedBefore (In (rate_of f)) (word ++ item ∷ []) starts ends
      → IsBefore f g e (word ++ item ∷ []) starts hit
  ended_before None hit is_hit ended before =
      subst (IsBefore f g e (word ++ item ∷ []) starts) (sym ended) (record {
        sound = tt;
        complete = λ start at piece x y there cut below in_f in_g.
            is_hit.complete at y ((before at).1 (
              start,
              piece,
              there,
              cut,
              below,
              den_in bound columns f piece x clear.0
                  (word_piece columns (word ++ item ∷ []) start at piece is cut) in_f,
            )) in_g;
      })
  ended_before (Some right) hit is_hit ended before =
      ended_with right (entry_at entries right.start) hit is_hit.sound.0 is_hit.sound.1 refl ended
