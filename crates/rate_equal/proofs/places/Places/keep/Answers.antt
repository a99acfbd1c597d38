use Rattle.std.proofs.Common.{◌≡◌, ◌∙◌, ◌<◌, ℕ, List, arith, length, bit_and, get_or, set, sym}
use Rattle.std.proofs.Common.{subst}
use Rattle.std.proofs.lemmas.List.{get_or_default}
use Rattle.rate_equal.specs.PlaceSets.{KeepsBlock}
use Rattle.rate_equal.proofs.PlaceSets.{keeps_block}
use Rattle.rate_equal.proofs.places.Places.keep.Goals as goal

pub returns : goal.returns
returns c =
    let items = c.self.inside.blocks.items in
    let block = c.args.block in
    let within : block < length items = omega (arith, c.self.invariant, c.requires) in
    let was : get_or items block 0 ≡ c.index_mut.result.now =
    get_or_default items block 0 c.index_mut.result.now within ∙ sym c.index_mut.ensures.value in
    let keeps = keeps_block items block c.args.mask c.index_mut.result.now within was in
    let new = set items block (bit_and c.index_mut.result.now c.args.mask) in
    subst (λ (old : List ℕ). KeepsBlock old new block c.args.mask) c.self.view_is keeps
