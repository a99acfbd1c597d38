-- A new node of a collect: no start is there.
use Rattle.std.proofs.Common.{◌≡◌, ◌≤◌, ℕ, ◌+◌, ◌*◌, List, [], sym, subst, arith}
use Rattle.std.specs.List.{AllByRecursion}
use Rattle.predicates.specs.Predicates.{Predicate}
use Rattle.item_schema.specs.declared.column.Column.{Column}
use Rattle.rate_expr.specs.FirstLastFollow.{AreSetsOf}
use Rattle.rate_expr.specs.Rates as rates
use Rattle.rate_expr.specs.Rates.{size_of}
use Rattle.query_model.specs.Bounds.{inner_of, slots_of, width_of}
use Rattle.query_model.specs.Queries.{Qre, collect}
use Rattle.query_model.specs.Sizes.{max_slots}
use Rattle.map_collect.specs.Tracks.{Contents, starts_of}
use Rattle.map_collect.specs.declared.track.Track.{Track}
use Rattle.eval_nodes.specs.Holdings.{Seen, collect_held}
use Rattle.eval_nodes.specs.Represents.{Represents}
use Rattle.eval_nodes.specs.Sound.{IsSound}
use Rattle.eval_nodes.specs.Starts.{AreDifferent, IsLive}
use Rattle.eval_nodes.proofs.Members.{no_member}
use Rattle.step_laws.specs.Collects.{AreSoundOf}
use Rattle.step_laws.proofs.CollectSteps.{RowOf}

-- the body is small where the whole is
more_times : (n m : ℕ) → m ≤ (n + 1) * m
more_times n m = omega arith

pub body_small : (chosen : List ℕ) (sync : Predicate) (rate : rates.Regex) (f : Qre)
    → slots_of (collect chosen sync rate f) ≤ max_slots → slots_of f ≤ max_slots
body_small chosen sync rate f small =
    let whole : (size_of rate + 1) * (1 + size_of rate + (inner_of f + 1 + width_of f)) + 1 + 1
    ≤ max_slots = small in
    let more = more_times (size_of rate) (1 + size_of rate + (inner_of f + 1 + width_of f)) in
    omega (arith, whole, more)

module _ {R : Type 0} (seen : R → Seen R) (columns : List Column) (chosen : List ℕ)
    (sync : Predicate)
    (rate : rates.Regex) (f : Qre) (all : Contents R) (of_rate : AreSetsOf all.nfa.sets rate)
    (on : all.nfa.cells.layout.columns ≡ columns) (none : all.tracks ≡ []) where
  pub new_collect : Represents seen columns (collect chosen sync rate f) (collect_held all) [] []
  new_collect = (
    of_rate,
    on,
    subst (RowOf seen columns chosen sync rate f all.nfa
        (IsLive columns (collect chosen sync rate f) [] []) []) (sym none) (record {
          distinct = tt;
          there = λ start.
              (λ there. absurd (no_member start there), λ live. absurd (no_member start live.0));
          each = λ track there. absurd (no_member track there);
        }),
  )

  pub new_collect_sound : slots_of (collect chosen sync rate f) ≤ max_slots → (position : ℕ)
      → IsSound seen columns (collect chosen sync rate f) position (collect_held all)
  new_collect_sound small position = (
    of_rate,
    on,
    body_small chosen sync rate f small,
    subst (λ (ts : List (Track R)). AreDifferent (starts_of ts)) (sym none) tt,
    subst (AllByRecursion (λ (t : Track R). AreSoundOf seen columns f position t.keys)) (sym none)
        tt,
  )
