-- Statement. What it means that a node is put back from what was kept of it.
use Rattle.std.specs.Prelude.{◌≡◌, ℕ, List, Option, None, map}
use Rattle.std.specs.List.{AllZip}
use Rattle.item_schema.specs.declared.column.Column.{Column}
use Rattle.predicate_cells.specs.Cells.{Partition}
use Rattle.query_model.specs.Queries.{Qre}
use Rattle.query_model.specs.QueryTypes.{type_of}
use Rattle.compose_eval.specs.declared.instance.Instance.{Instance}
use Rattle.map_collect.specs.Keys.{fallback_of, followers_of, names_of}
use Rattle.map_collect.specs.declared.keys.Keys as held_keys
use Rattle.map_collect.specs.declared.track.Track as held_track
use Rattle.eval_nodes.specs.Holdings.{Holding, Seen}
use Rattle.eval_nodes.specs.Sound.{IsSound, IsSoundRunner, IsSoundWithin}
use Rattle.eval_nodes.specs.Streams.{AreColumnsOf}
use Rattle.runner_snapshot.specs.Dumps.{Node, Runner, Fed, Keyed, Track, keyed_list}
use Rattle.eval_snapshot.specs.Dumped.{dumped, dumped_node}
use Rattle.eval_snapshot.specs.Fits.{FitsNode, FitsRunner}
use Rattle.snapshot_laws.specs.Runners.{HasItsRunners}

module _ {R : Type 0} (seen : R → Seen R) where
  -- the same would be kept of it; on streams of these cells it is sound if the dump fits; and it
  -- has its runners
  pub record IsRestored (cells : Option Partition) (query : Qre) (dump : Node)
      (holding : Holding R) : Type 0 where
    pub kept : dumped_node seen query holding ≡ dump
    pub sound : (columns : List Column) (position : ℕ) → AreColumnsOf cells columns
        → FitsNode columns query position dump → IsSound seen columns query position holding
    pub runners : HasItsRunners seen query holding

  -- the same of a runner
  pub record IsRestoredRunner (cells : Option Partition) (query : Qre) (dump : Runner)
      (one : R) : Type 0 where
    pub kept : dumped seen query one ≡ dump
    pub sound : (columns : List Column) (most : ℕ) → AreColumnsOf cells columns
        → FitsRunner most (FitsNode columns query) (type_of columns query) dump
        → IsSoundWithin seen (IsSoundRunner seen (IsSound seen columns query)
        (type_of columns query)) most one
    pub runners : HasItsRunners seen query (seen one).node

  -- of a runner of a compose, which is on streams of any cells
  pub record IsRestoredFed (query : Qre) (dump : Fed) (one : Instance R) : Type 0 where
    pub outer : one.outer ≡ dump.outer
    pub runner : IsRestoredRunner None query dump.runner one.follower

  -- of the runners of a start of a collect: the one for later keys, and those for keys
  pub record AreRestoredKeys (query : Qre) (for_others : Runner) (dumps : List Keyed)
      (keys : held_keys.Keys R) : Type 0 where
    pub fallback : IsRestoredRunner None query for_others (fallback_of keys)
    pub names : names_of keys ≡ map (λ dump. dump.key) dumps
    pub keyed : AllZip (λ dump one. IsRestoredRunner None query dump.runner one) dumps
        (followers_of keys)

  -- of a start of a collect
  pub record IsRestoredTrack (query : Qre) (dump : Track) (one : held_track.Track R) : Type 0 where
    pub start : one.start ≡ dump.start
    pub state : one.state ≡ dump.state
    pub keys : AreRestoredKeys query dump.fallback (keyed_list dump.keys) one.keys
