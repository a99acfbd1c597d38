use Rattle.std.proofs.Common.{arith}
use Rattle.query_forms.proofs.TopTerms.{place_read}
use Rattle.query_forms.proofs.tops.first_place.Goals as goal

pub returns : goal.returns
returns c text = place_read text c.args.trees.now c.tree-item.result c.place_of.result (omega arith)
    c.tree-item.is (c.place_of.ensures text)
