-- For the prover. Extents as the program counts them, up to what 32 bits hold.
use Rattle.std.specs.Prelude.{◌≡◌, ℕ, ◌-◌, ◌^◌, List, [], ◌∷◌, min, None}
use Rattle.query_trees.specs.Trees.{Trees, none, leaf, call}
use Rattle.query_templates.specs.declared.extent.Extent.{Extent}
use Rattle.query_templates.specs.declared.measure.Extents.{Extents}
use Rattle.query_templates.specs.Excess.{first_excess}
use Rattle.query_templates.specs.Expansion.{expanded}
use Rattle.query_templates.specs.Extents.{extent_of}
use Rattle.query_templates.specs.Templates.{Template}

-- an extent, with 2^32 - 1 in place of greater numbers
unfoldable pub capped : Extent → Extent
capped extent = record {
  bytes = min extent.bytes (2 ^ 32 - 1);
  levels = min extent.levels (2 ^ 32 - 1);
}

-- the extent of terms, as it is counted
abbrev pub IsExtentOf : Trees → Extent → Type 0
IsExtentOf terms extent = extent ≡ capped (extent_of terms)

-- the extents of terms, one by one
abbrev pub AreExtents : List Extent → Trees → Type 0
AreExtents [] none = Unit {0}
AreExtents (extent ∷ extents) (leaf token rest) =
    IsExtentOf (leaf token none) extent × AreExtents extents rest
AreExtents (extent ∷ extents) (call head arguments span rest) =
    IsExtentOf (call head arguments span none) extent × AreExtents extents rest
AreExtents _ _ = ⊥

-- of all terms and of each
pub record HasExtents (terms : Trees) (extents : Extents) : Type 0 where
  pub all : IsExtentOf terms extents.all
  pub each : AreExtents extents.each.items terms

-- no term is too large, and with their uses replaced they have this extent
pub record IsMeasured (text : List ℕ) (templates : List Template) (terms : Trees)
    (extent : Extent) : Type 0 where
  pub none_large : first_excess text templates terms ≡ None
  pub is : IsExtentOf (expanded text templates terms) extent

-- and these
pub record AreMeasured (text : List ℕ) (templates : List Template) (terms : Trees)
    (extents : Extents) : Type 0 where
  pub none_large : first_excess text templates terms ≡ None
  pub have : HasExtents (expanded text templates terms) extents
