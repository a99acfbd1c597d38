-- An iteration: a start, whose value is that of no piece.
use Rattle.std.proofs.Common.{◌≡◌, ◌≤◌, ℕ, ◌∙◌, Bool, [], ◌∷◌, ◌++◌, Option, Some, drop, length}
use Rattle.std.proofs.Common.{refl, sym, ap, subst, arith, append-nil, inl, inr}
use Rattle.std.specs.Prelude.{ℤ}
use Rattle.std.specs.List.{Contains}
use Rattle.std.proofs.lemmas.List.Elements.{Contains-append_left, Contains-push}
use Rattle.std.proofs.lemmas.List.Elements.{Contains-push_cases}
use Rattle.value_ops.specs.declared.scalar.Scalar.TheVariants.{Number}
use Rattle.value_ops.specs.declared.value.Value.{Value}
use Rattle.value_ops.specs.declared.value.Value.TheVariants as value
use Rattle.expressions.specs.Expressions.{Expression}
use Rattle.rate_expr.specs.Language.{In}
use Rattle.rate_expr.specs.Readings.{HasExtension}
use Rattle.query_model.specs.Denotation.{Den}
use Rattle.query_model.specs.Queries.{Qre, iter}
use Rattle.query_model.specs.Rates.{rate_of}
use Rattle.query_model.specs.Rules.{bound}
use Rattle.query_model.proofs.InRates.{den_in}
use Rattle.split_eval.specs.Entries.{Contents}
use Rattle.eval_nodes.specs.Holdings.{Holding, iter_held, Seen}
use Rattle.eval_nodes.specs.Live.{live_of}
use Rattle.eval_nodes.specs.Represents.{Represents}
use Rattle.eval_nodes.specs.Starts.{ArePositions}
use Rattle.eval_nodes.proofs.Apart.{apart_right}
use Rattle.eval_nodes.proofs.Chains.{chain_apart, chain_clear}
use Rattle.eval_nodes.proofs.Pieces.{after_end, end_is, word_after}
use Rattle.step_laws.specs.declared.hit.Hit.{Hit}
use Rattle.step_laws.specs.Lefts.{IsPut}
use Rattle.step_laws.specs.Steps.{Starts}
use Rattle.step_laws.proofs.Ends.{NoneAtEnd, reached_end, reached_new}
use Rattle.step_laws.proofs.Splits.{handed}
use Rattle.step_laws.proofs.Waits.{waiting_new}

abbrev first_value : ℤ → Value
first_value number = value.Scalar (Number number)

module _ {R : Type 0} (seen : R → Seen R) (f : Qre) (number : ℤ) (e : Expression) where
  pub start_iter : (a a' : Holding R) (so_far new : Contents Value) (at : ℕ)
      (operand : Option Hit) (live : Bool) → Starts seen f a at a' operand → live ≡ live_of f a' at
      → IsPut live so_far
      (record { inner = at; outer = at; value = value.Scalar (Number number) }) new
      → new.room ≡ so_far.room
      → Starts seen (iter f number e) (iter_held a so_far) at (iter_held a' new)
      (Some (record { start = at; value = value.Scalar (Number number) }))
  start_iter a a' so_far new at operand live first is_live put room =
      λ standing columns word starts clear is positions rep fresh end apart.
      let q = iter f number e in
      let x = first_value number in
      let two = chain_clear columns f number e clear in
      let all = starts ++ at ∷ [] in
      let apart_two = chain_apart columns f number e word all apart in
      let (ends, reached, operand_rep) = rep.0 in
      let nothing = after_end word at end in
      let den : Den q (drop at word) x = subst (λ w. Den q w x) (sym nothing) ([], refl, refl) in
      let in_q : In (rate_of q) (drop at word) =
      subst (In (rate_of q)) (sym nothing) ([], refl, tt) in
      let none : NoneAtEnd (In (rate_of q)) word starts =
      (λ start there in_old. fresh (subst (Contains starts)
      (apart start at [] tt (Contains-append_left starts (at ∷ []) start there)
      (Contains-push starts at) (subst (In (rate_of q)) (sym (append-nil (drop start word))) in_old)
      (subst (In (rate_of q)) (sym (append-nil (drop at word))) in_q)) there)) in
      let no_value : (start : ℕ) (v : Value) → Contains starts start
      → Den q (drop start word) v → ⊥ =
      (λ start v there old. none start there
      (den_in bound columns q (drop start word) v clear (word_after columns word start is) old)) in
      let before = reached_new (In (rate_of q)) word starts ends at end none reached in
      let inside : at ≤ length word = omega (arith, end) in
      let after = reached_end (In (rate_of q)) word all ends at before
      (Contains-push starts at) inside in_q in
      let not_there : Contains ends at → ⊥ =
      (λ there. let (start, piece, from, cut, in_piece) = (reached at).0 there in
      none start from (subst (In (rate_of q)) (end_is word start at piece cut end) in_piece)) in
      let places : ArePositions word all =
      (λ start there. elim (Contains-push_cases starts at start there) [
        | inl old ↦ positions start old
        | inr same ↦ subst (λ k. k ≤ length word) same inside
      ]) in
      let y = first bound columns word ends clear.0 is
      (λ k there. let (start, piece, from, cut, in_piece) = (reached k).0 there in cut.inside)
      operand_rep not_there end
      (apart_right columns q f e word all (ends ++ at ∷ []) two is apart_two
      (λ k there. (after k).0 (subst (λ n. Contains (ends ++ n ∷ []) k) end there))) in
      record {
        after = handed seen columns q f e two word all ends a' so_far new at x live is places
            apart_two before rep.1.distinct
            (waiting_new (Den q) (HasExtension columns (rate_of f)) word starts so_far.entries at
            end no_value rep.1)
            rep.2 (Contains-push starts at) den
            (subst (λ n. Represents seen columns f a' word (ends ++ n ∷ [])) end y.after)
            (is_live ∙ ap (live_of f a') end)
            (subst (λ n. IsPut live so_far (record { inner = n; outer = at; value = x }) new) end
            put)
            room;
        hit = (refl, ([], refl, refl));
      }
