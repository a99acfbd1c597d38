-- A split: a start.
use Rattle.std.proofs.Common.{◌≡◌, ◌≤◌, ℕ, ◌∙◌, Bool, [], ◌∷◌, ◌++◌, Option, Some, None, drop}
use Rattle.std.proofs.Common.{length, refl, sym, ap, subst, arith, append-nil, inl, inr}
use Rattle.std.specs.List.{Contains}
use Rattle.std.proofs.lemmas.List.Elements.{Contains-append_left, Contains-push}
use Rattle.std.proofs.lemmas.List.Elements.{Contains-push_cases}
use Rattle.value_ops.specs.declared.value.Value.{Value}
use Rattle.expressions.specs.Expressions.{Expression}
use Rattle.rate_expr.specs.Language.{In}
use Rattle.rate_expr.specs.Readings.{HasExtension}
use Rattle.rate_expr.specs.Words.{Word}
use Rattle.query_model.specs.Denotation.{Den}
use Rattle.query_model.specs.Queries.{Qre, split}
use Rattle.query_model.specs.Rates.{rate_of}
use Rattle.query_model.specs.Rules.{bound}
use Rattle.query_model.proofs.Defined.{in_den}
use Rattle.query_model.proofs.InRates.{den_in}
use Rattle.split_eval.specs.Entries.{Contents}
use Rattle.eval_nodes.specs.Holdings.{Holding, split_held, Seen}
use Rattle.eval_nodes.specs.Live.{live_of}
use Rattle.eval_nodes.specs.Represents.{Represents}
use Rattle.eval_nodes.proofs.Apart.{apart_left, apart_right}
use Rattle.eval_nodes.proofs.Pieces.{after_end, end_is, word_after}
use Rattle.step_laws.specs.declared.hit.Hit.{Hit}
use Rattle.step_laws.specs.Lefts.{IsJoined, IsPut}
use Rattle.step_laws.specs.Steps.{IsFirstHit, Starts}
use Rattle.step_laws.proofs.Ends.{reached_end, reached_new, reached_same}
use Rattle.step_laws.proofs.Splits.{handed}
use Rattle.step_laws.proofs.Waits.{waiting_new, waiting_same}

no_part : (u t : Word) → [] ≡ u ++ t → (u ≡ []) × (t ≡ [])
no_part [] t same = (refl, sym same)
no_part (x ∷ u) t same = cc

-- the value of the empty word
joined_first : (f g : Qre) (e : Expression) (at start : ℕ) (x : Value) (right hit : Option Hit)
    → start ≡ at → Den f [] x → IsFirstHit (Den g) at right → IsJoined e start x right hit
    → IsFirstHit (Den (split f g e)) at hit
joined_first f g e at start x None hit same den first is =
    subst (IsFirstHit (Den (split f g e)) at) (sym is) (λ v (u, t, y, z, whole, in_f, in_g, gives).
    first z (subst (λ w. Den g w z) (no_part u t whole).1 in_g))
joined_first f g e at start x (Some found) hit same den first (v, is, gives) =
    subst (IsFirstHit (Den (split f g e)) at) (sym is)
    (same, ([], [], x, found.value, refl, den, first.1, gives))

module _ {R : Type 0} (seen : R → Seen R) where
  pub start_split_none : (f g : Qre) (e : Expression) (a b a' : Holding R)
      (held : Contents Value) (at : ℕ) → Starts seen f a at a' None
      → Starts seen (split f g e) (split_held a b held) at (split_held a' b held) None
  start_split_none f g e a b a' held at first =
      λ standing columns word starts clear is positions rep fresh end apart.
      let x = first bound columns word starts clear.0 is positions rep.0 fresh end
      (apart_left columns f g e word (starts ++ at ∷ []) clear.1 apart) in
      let (ends, reached, right) = rep.1 in
      record {
        after = (
          x.after,
          (
            ends,
            reached_same (In (rate_of f)) word starts ends at end
                (λ in_f. let den = in_den columns f [] clear.0 tt in_f in x.hit den.0 den.1)
                reached,
            right,
          ),
          waiting_same (Den f) (HasExtension columns (rate_of g)) word starts held.entries at
              end x.hit rep.2,
          rep.3,
        );
        hit = λ v (u, t, y, z, whole, in_f, in_g, gives). x.hit y
            (subst (λ w. Den f w y) (no_part u t whole).0 in_f);
      }

  pub start_split_some : (f g : Qre) (e : Expression) (a b a' b' : Holding R)
      (held new : Contents Value) (at : ℕ) (left : Hit) (right hit : Option Hit) (live : Bool)
      → Starts seen f a at a' (Some left) → Starts seen g b at b' right
      → IsJoined e left.start left.value right hit → live ≡ live_of g b' at
      → IsPut live held (record { inner = at; outer = left.start; value = left.value }) new
      → new.room ≡ held.room
      → Starts seen (split f g e) (split_held a b held) at (split_held a' b' new) hit
  start_split_some f g e a b a' b' held new at left right hit live first second joined
      is_live put room =
      λ standing columns word starts clear is positions rep fresh end apart.
      let all = starts ++ at ∷ [] in
      let apart_f = apart_left columns f g e word all clear.1 apart in
      let x = first bound columns word starts clear.0 is positions rep.0 fresh end apart_f in
      let (ends, reached, right_rep) = rep.1 in
      let nothing = after_end word at end in
      let den : Den f (drop at word) left.value =
      subst (λ w. Den f w left.value) (sym nothing) x.hit.1 in
      let in_f = den_in bound columns f (drop at word) left.value clear.0
      (word_after columns word at is) den in
      let none : (start : ℕ) → Contains starts start → In (rate_of f) (drop start word) → ⊥ =
      (λ start there in_old. fresh (subst (Contains starts)
      (apart_f start at [] tt (Contains-append_left starts (at ∷ []) start there)
      (Contains-push starts at) (subst (In (rate_of f)) (sym (append-nil (drop start word))) in_old)
      (subst (In (rate_of f)) (sym (append-nil (drop at word))) in_f)) there)) in
      let no_value : (start : ℕ) (v : Value) → Contains starts start
      → Den f (drop start word) v → ⊥ =
      (λ start v there old. none start there
      (den_in bound columns f (drop start word) v clear.0
      (word_after columns word start is) old)) in
      let before = reached_new (In (rate_of f)) word starts ends at end none reached in
      let inside : at ≤ length word = omega (arith, end) in
      let after = reached_end (In (rate_of f)) word all ends at before
      (Contains-push starts at) inside in_f in
      let not_there : Contains ends at → ⊥ =
      (λ there. let (start, piece, from, cut, in_piece) = (reached at).0 there in
      none start from (subst (In (rate_of f)) (end_is word start at piece cut end) in_piece)) in
      let y = second bound columns word ends clear.1 is
      (λ k there. let (start, piece, from, cut, in_piece) = (reached k).0 there in cut.inside)
      right_rep not_there end (apart_right columns f g e word all (ends ++ at ∷ []) clear is apart
      (λ k there. (after k).0 (subst (λ n. Contains (ends ++ n ∷ []) k) end there))) in
      let inner : left.start ≡ at = x.hit.0 in
      let passed_on = handed seen columns f g e clear word all ends b' held new at
      left.value live is (λ start there. elim (Contains-push_cases starts at start there) [
        | inl old ↦ positions start old
        | inr same ↦ subst (λ k. k ≤ length word) same inside
      ]) apart before
      rep.2.distinct
      (waiting_new (Den f) (HasExtension columns (rate_of g)) word starts held.entries at
      end no_value rep.2)
      rep.3 (Contains-push starts at) den
      (subst (λ n. Represents seen columns g b' word (ends ++ n ∷ [])) end y.after)
      (is_live ∙ ap (live_of g b') end)
      (subst (λ n. IsPut live held (record { inner = n; outer = at; value = left.value }) new) end
      (subst (λ s. IsPut live held (record { inner = at; outer = s; value = left.value }) new) inner
      put))
      room in
      record {
        after = (x.after, passed_on.0, passed_on.1, passed_on.2);
        hit = joined_first f g e at left.start left.value right hit inner x.hit.1 y.hit joined;
      }
