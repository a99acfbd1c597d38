use Rattle.std.proofs.Common.{◌≡◌, true, sym, ap, ◌∙◌}
use Rattle.item_schema.specs.Layout.{Layout}
use Rattle.stream_run.proofs.Taking.{header_taken}
use Rattle.stream_run.proofs.drill_loop.take_header.Goals as goal

pub returns-clause-after : goal.returns-clause-after
returns-clause-after g c =
    let has : c.args.checked.now.layout.has_header ≡ true =
    sym (c.has_header.ensures ∙ ap (λ (l : Layout). l.has_header) c.schema.ensures.schema)
    ∙ c.if-not-has_header.false
    in
    header_taken g.F.Follower.follows c.args.checked.now c.args.drill.now.state c.args.session.now
    c.take.new.session c.as_slice.result.now c.args.drill.now.layout has c.requires.layout
    (c.as_slice.ensures ∙ c.in_ok-line.ensures) c.take.result c.take.ensures.takes
