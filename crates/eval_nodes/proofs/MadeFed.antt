-- A new node of a compose: all its runners are idle.
use Rattle.std.proofs.Common.{◌≡◌, ◌≤◌, ℕ, ◌+◌, ◌-◌, ◌*◌, ◌^◌, min, List, [], None, length, sym, ap}
use Rattle.std.proofs.Common.{subst, arith}
use Rattle.std.specs.List.{AllByRecursion, Contains}
use Rattle.item_schema.specs.declared.column.Column.{Column}
use Rattle.query_model.specs.Bounds.{inner_of, places_of, slots_of}
use Rattle.query_model.specs.Queries.{Qre, compose}
use Rattle.query_model.specs.QueryTypes.{derived_columns, type_of}
use Rattle.query_model.specs.Sizes.{max_slots}
use Rattle.memory_bound.specs.KeysMet.{keys_met}
use Rattle.compose_eval.specs.Followers.{Contents, outers_of}
use Rattle.compose_eval.specs.declared.instance.Instance.{Instance}
use Rattle.eval_nodes.specs.declared.progress.Progress.{Progress}
use Rattle.value_ops.specs.Sizes.{size_of_answer}
use Rattle.eval_nodes.specs.Counts.{stored_in}
use Rattle.eval_nodes.specs.Runners.{IsSoundOf}
use Rattle.eval_nodes.specs.Holdings.{Holding, compose_held, Seen}
use Rattle.eval_nodes.specs.Plain.{holding_of, seen_of}
use Rattle.eval_nodes.specs.Represents.{KeepsFew, Represents}
use Rattle.eval_nodes.specs.Sound.{IsSound, IsSoundWithin}
use Rattle.eval_nodes.specs.Starts.{AreDifferent}
use Rattle.eval_nodes.proofs.Instances.{all_mapped}
use Rattle.eval_nodes.proofs.Made.{places_few}
use Rattle.eval_nodes.proofs.Members.{no_member}
use Rattle.eval_nodes.proofs.StoredNone.{silent_few}

-- there are as many runners as there are to be
pub runners_fit : (f : Qre) (places count : ℕ) → inner_of f ≤ max_slots
    → places ≡ min (places_of f) (2 ^ 32 - 1) → count ≡ min (places + 1) (2 ^ 32 - 1)
    → count ≡ places_of f + 1
runners_fit f places count small is all =
    let few = places_few f in
    let kept : inner_of f ≤ 2 ^ 20 = small in
    omega (arith, few, kept, is, all)

module _ {R : Type 0} (seen : R → Seen R) where
  pub new_compose : (columns : List Column) (f g : Qre) (a : Holding R) (held : Contents R)
      → Represents seen columns f a [] [] → held.live ≡ [] → length held.idle ≡ places_of f + 1
      → AllByRecursion (KeepsFew seen (stored_in seen g) (slots_of g)) held.idle
      → Represents seen columns (compose f g) (compose_held a held) [] []
  new_compose columns f g a held first none count few =
      let nobody = ap length none in (
        first,
        record {
          distinct = subst (λ (xs : List (Instance R)). AreDifferent (outers_of xs)) (sym none) tt;
          there = λ start. (
            λ there. absurd (no_member start
                (subst (λ (xs : List (Instance R)). Contains (outers_of xs) start) none there)),
            λ continues. absurd (no_member start continues.0),
          );
          each =
              λ start runner there. absurd (no_member (record { outer = start; follower = runner })
              (subst (λ (xs : List (Instance R)). Contains xs
              (record { outer = start; follower = runner })) none there));
          full = omega (arith, nobody, count);
        },
        all_mapped (KeepsFew seen (stored_in seen g) (slots_of g))
            (KeepsFew seen (stored_in seen g) (slots_of g * (1 + keys_met (compose f g) [])))
            held.idle (λ runner little. omega (arith, little)) few,
      )

  pub new_compose_sound : (columns : List Column) (f g : Qre) (a : Holding R) (held : Contents R)
      → IsSound seen columns f 0 a → held.live ≡ [] → length held.idle ≡ places_of f + 1
      → ((columns : List Column) → AllByRecursion (IsSoundOf seen columns g) held.idle)
      → IsSound seen columns (compose f g) 0 (compose_held a held)
  new_compose_sound columns f g a held first none count idle =
      let nobody = ap length none in (
        first,
        subst (λ (xs : List (Instance R)). AreDifferent (outers_of xs)) (sym none) tt,
        omega (arith, nobody, count),
        subst (AllByRecursion (λ (one : Instance R).
            IsSoundWithin seen (IsSoundOf seen (derived_columns (type_of columns f)) g) (0 + 1)
            one.follower)) (sym none) tt,
        idle (derived_columns (type_of columns f)),
      )

  -- the same node of the same query
  pub made_soundly_as : (columns : List Column) (q q' : Qre) (h h' : Holding R) → q' ≡ q → h' ≡ h
      → IsSound seen columns q 0 h → IsSound seen columns q' 0 h'
  made_soundly_as columns q q' h h' query node is =
      subst (λ (x : Qre). IsSound seen columns x 0 h') (sym query)
      (subst (λ (x : Holding R). IsSound seen columns q 0 x) (sym node) is)

-- a runner before its start keeps little
pub fresh_few : (q : Qre) (runner : Progress)
    → Represents seen_of [] q (holding_of runner.node.state) [] []
    → runner.answer ≡ None → KeepsFew seen_of (stored_in seen_of q) (slots_of q) runner
fresh_few q runner rep none =
    let node = silent_few seen_of [] q (holding_of runner.node.state) rep in
    let answer = ap size_of_answer none in
    omega (arith, node, answer)
