use Rattle.std.proofs.Common.{arith}
use Rattle.rate_equal.proofs.Lacking.{keeping_added, keeping_begun, keeping_next, keeping_whole}
use Rattle.rate_equal.proofs.restriction.keep_lacking.Goals as goal

pub parts-init : goal.parts-init
parts-init c = keeping_begun _ _ _ _ _

pub parts-preserved : goal.parts-preserved
parts-preserved c =
    keeping_next _ _ _ _ _ _ c.block-known.result c.block-losing.result c.block-known.type_inv
    c.block-losing.type_inv c.block-known.ensures c.block-losing.ensures.first
    c.block-losing.ensures.second c.block-losing.ensures.only _ _ c.parts.invariant
    c.insert_all.ensures

pub returns-clause-added : goal.returns-clause-added
returns-clause-added c =
    keeping_added _ _ _ _ c.requires.lost c.requires.lack _ _ _ _ _ c.requires.few c.requires.known
    c.requires.held c.parts.block (omega arith) _ c.parts.invariant

pub returns-clause-whole : goal.returns-clause-whole
returns-clause-whole c =
    keeping_whole _ _ _ _ c.requires.lost c.requires.lack _ _ _ _ _ c.requires.few c.requires.known
    c.requires.held c.parts.block (omega arith) _ c.parts.invariant
