-- All columns are the same where the lists end together.
use Rattle.std.proofs.Common.{rules, ◌≡◌, length, min}
use Rattle.std.proofs.lemmas.Slice.Zip.{zip_end}
use Rattle.beside_run.proofs.StreamsApart.{zip_by_length}
use Rattle.beside_run.proofs.streams.are_same_columns.Goals as goal

pub returns : goal.returns
returns c =
    let turns : length c.columns.yielded ≡ min (length c.args.some.now) (length c.args.others.now) =
    zip_end c.args.some.now c.args.others.now c.columns.yielded c.into_iter-one-iterator.result
    c.columns.one-iterator c.next.new.self c.next.result (search rules) (search rules)
    c.columns.yielded_by c.in-None.is c.next.ensures.steps in
    zip_by_length (λ one other. other ≡ one) _ _ _ turns c.columns.invariant
