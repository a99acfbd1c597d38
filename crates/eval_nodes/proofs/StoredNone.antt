-- What stands for the empty word without a start keeps little, whatever went by before.
use Rattle.std.proofs.Common.{◌≡◌, ◌≤◌, ◌+◌, ◌*◌, ℕ, List, [], ◌∷◌, Some, None, length, sum_by}
use Rattle.std.proofs.Common.{refl, subst, ap, arith}
use Rattle.std.specs.List.{Contains}
use Rattle.std.proofs.Math.Nat.{mul-le-mul_right}
use Rattle.value_ops.specs.declared.value.Value.{Value}
use Rattle.item_schema.specs.declared.column.Column.{Column}
use Rattle.rate_expr.specs.Words.{Word}
use Rattle.query_model.specs.Bounds.{inner_of, places_of, slots_of}
use Rattle.query_model.specs.Queries.{Qre, atom, eps, choice, split, iter, combine, apply, compose}
use Rattle.query_model.specs.Queries.{collect}
use Rattle.memory_bound.specs.KeysMet.{keys_met}
use Rattle.split_eval.specs.declared.entry.Entry.{Entry}
use Rattle.compose_eval.specs.Followers.{followers_of}
use Rattle.compose_eval.specs.declared.instance.Instance.{Instance}
use Rattle.map_collect.specs.declared.track.Track.{Track}
use Rattle.eval_nodes.specs.Counts.{size_of_runner, size_of_track, sizes_of, stored_in}
use Rattle.eval_nodes.specs.Holdings.{Holding, atom_held, eps_held, choice_held, combine_held}
use Rattle.eval_nodes.specs.Holdings.{apply_held, split_held, iter_held, compose_held, collect_held}
use Rattle.eval_nodes.specs.Holdings.{Seen}
use Rattle.eval_nodes.specs.Represents.{AreReached, AreWaiting, KeepsFew, Represents}
use Rattle.eval_nodes.proofs.Instances.{all_member, outer_member}
use Rattle.eval_nodes.proofs.Members.{first_member, no_member}
use Rattle.eval_nodes.proofs.StoredEntries.{only_at}
use Rattle.eval_nodes.proofs.Totals.{sum_few}
use Rattle.eval_nodes.proofs.Zips.{part_there}

none_of : {A : Type 0} (xs : List A) → ((x : A) → Contains xs x → ⊥) → xs ≡ []
none_of [] none = refl
none_of (x ∷ xs) none = absurd (none x (first_member x xs))

no_ends : (A : Word → Type 0) (word : Word) (ends : List ℕ) → AreReached A word [] ends → ends ≡ []
no_ends A word ends reached = none_of ends (λ end there.
    let (start, piece, among, cut, is) = (reached end).0 there in no_member start among)

no_lefts : (D : Word → Value → Type 0) (continues : Word → Type 0) (word : Word)
    (entries : List (Entry Value)) → AreWaiting D continues word [] entries → entries ≡ []
no_lefts D continues word entries lefts = none_of entries (λ entry there.
    no_member entry.outer
    ((lefts.each entry.inner entry.outer entry.value).0
    (only_at entries entry lefts.distinct there)).0)

module _ {R : Type 0} (seen : R → Seen R) where
  pub silent_few : (columns : List Column) (q : Qre) (holding : Holding R)
      → Represents seen columns q holding [] [] → stored_in seen q holding ≤ inner_of q
  silent_few columns (atom pred e) (atom_held None) rep = omega arith
  silent_few columns (atom pred e) (atom_held (Some start)) rep = omega arith
  silent_few columns (eps number) eps_held rep = omega arith
  silent_few columns (choice f g) (choice_held a b) rep =
      let first = silent_few columns f a rep.0 in
      let second = silent_few columns g b rep.1 in
      omega (arith, first, second)
  silent_few columns (combine f g e) (combine_held a b) rep =
      let first = silent_few columns f a rep.0 in
      let second = silent_few columns g b rep.1 in
      omega (arith, first, second)
  silent_few columns (apply f e) (apply_held a) rep = silent_few columns f a rep
  silent_few columns (split f g e) (split_held a b left) rep =
      let (ends, reached, right) = rep.1 in
      let first = silent_few columns f a rep.0 in
      let second = silent_few columns g b
      (subst (Represents seen columns g b []) (no_ends _ [] ends reached) right) in
      let none = ap sizes_of (no_lefts _ _ [] left.entries rep.2) in
      omega (arith, first, second, none)
  silent_few columns (iter f number e) (iter_held a so_far) rep =
      let (ends, reached, operand_rep) = rep.0 in
      let first = silent_few columns f a
      (subst (Represents seen columns f a []) (no_ends _ [] ends reached) operand_rep) in
      let none = ap sizes_of (no_lefts _ _ [] so_far.entries rep.1) in
      omega (arith, first, none)
  silent_few columns (compose f g) (compose_held a held) rep =
      let size : R → ℕ = (λ (runner : R). 1 + size_of_runner seen (stored_in seen g) runner) in
      let first = silent_few columns f a rep.0 in
      let nobody = none_of held.live (λ one there.
      no_member one.outer ((rep.1.there one.outer).0 (outer_member held.live one there)).0) in
      let none = ap (λ (live : List (Instance R)). sum_by size (followers_of live)) nobody in
      let absent = ap length nobody in
      let idle = sum_few size (1 + slots_of g) held.idle (λ runner there.
      let few = all_member
      (KeepsFew seen (stored_in seen g) (slots_of g * (1 + keys_met (compose f g) []))) held.idle
      runner rep.2 there in
      omega (arith, few)) in
      let full = rep.1.full in
      let fewer : length held.idle ≤ places_of f + 1 = omega (arith, full, absent) in
      let up = mul-le-mul_right (1 + slots_of g) fewer in
      omega (arith, first, none, idle, up)
  silent_few columns (collect chosen sync rate f) (collect_held all) rep =
      let none =
      ap (λ (tracks : List (Track R)). sum_by (size_of_track seen (stored_in seen f)) tracks)
      (none_of all.tracks (λ track there.
      no_member track.start
      ((rep.2.there track.start).0
      (part_there (λ (t : Track R). t.start) all.tracks track there)).0)) in
      omega (arith, none)
  silent_few columns q holding rep = absurd rep
