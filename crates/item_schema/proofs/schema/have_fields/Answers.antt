-- Each of the columns has its field where the lists end together.
use Rattle.std.proofs.Common.{rules, ◌≡◌, length, min}
use Rattle.std.proofs.lemmas.Slice.Zip.{zip_end}
use Rattle.item_schema.proofs.ItemLaws.{item_by_length}
use Rattle.item_schema.proofs.schema.have_fields.Goals as goal

pub returns : goal.returns
returns c =
    let turns : length c.fields.yielded
    ≡ min (length c.args.columns.now) (length c.args.fields.now) =
    zip_end c.args.columns.now c.args.fields.now c.fields.yielded c.into_iter-column-iterator.result
    c.fields.column-iterator c.next.new.self c.next.result (search rules) (search rules)
    c.fields.yielded_by c.in-None.is c.next.ensures.steps in
    item_by_length _ _ _ turns c.fields.invariant
