use Rattle.std.proofs.Common.{◌≡◌, ◌∙◌, ◌<◌, ℕ, List, arith, length, bit_or, get_or, set, sym}
use Rattle.std.proofs.Common.{subst}
use Rattle.std.proofs.lemmas.List.{get_or_default}
use Rattle.rate_equal.specs.PlaceSets.{AddsBlock}
use Rattle.rate_equal.proofs.PlaceSets.{adds_block}
use Rattle.rate_equal.proofs.places.Places.insert_all.Goals as goal

pub returns : goal.returns
returns c =
    let items = c.self.inside.blocks.items in
    let block = c.args.block in
    let within : block < length items = omega (arith, c.self.invariant, c.requires) in
    let was : get_or items block 0 ≡ c.index_mut.result.now =
    get_or_default items block 0 c.index_mut.result.now within ∙ sym c.index_mut.ensures.value in
    let adds = subst
    (λ (m : ℕ). AddsBlock items (set items block (bit_or m c.args.mask)) block c.args.mask) was
    (adds_block items block c.args.mask c.self.invariant c.requires) in
    let new = set items block (bit_or c.index_mut.result.now c.args.mask) in
    subst (λ (old : List ℕ). AddsBlock old new block c.args.mask) c.self.view_is adds
