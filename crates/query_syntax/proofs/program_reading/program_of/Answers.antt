use Rattle.std.proofs.Common.{map, ap, ◌∙◌}
use Rattle.query_forms.specs.Terms.{none}
use Rattle.query_syntax.specs.Files.{all_before, let_before, stream_before}
use Rattle.query_syntax.specs.Plain.{plain_let, plain_stream}
use Rattle.query_syntax.proofs.Lists.{file_split, mapped_before}
use Rattle.query_syntax.proofs.program_reading.program_of.Goals as goal

pub returns : goal.returns
returns c =
    let lets = c.in_ok-lets.lets.items in
    file_split c.args.terms.now c.stream-item.result c.main-item.result c.in-len1-up.len_at_least
    c.in-len1-up-body.len_at_least c.stream-item.is c.main-item.is ∙ c.in_ok-stream.ensures _
    ∙ ap (stream_before (plain_stream c.in_ok-stream.stream))
    (c.in_ok-lets.ensures _ ∙ mapped_before plain_let let_before lets _
    ∙ ap (all_before let_before (map plain_let lets)) (c.in_ok-main.ensures none))
