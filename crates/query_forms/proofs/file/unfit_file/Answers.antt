use Rattle.std.proofs.Common.{sym, ◌∙◌}
use Rattle.query_forms.proofs.Body.{file_first_of_text, file_found, file_read, file_rest_of_text}
use Rattle.query_forms.proofs.file.unfit_file.Goals as goal

pub unfit_stream-requires : goal.unfit_stream-requires
unfit_stream-requires c =
    file_first_of_text _ _ _ _ (sym c.iter-tops.ensures.rest ∙ c.in-Some.ensures.steps) c.requires

pub returns-in-Some-unfit_stream : goal.returns-in-Some-unfit_stream
returns-in-Some-unfit_stream c =
    file_found _ _ _ _ _ _ (sym c.iter-tops.ensures.rest ∙ c.in-Some.ensures.steps)
    c.in-Some-unfit_stream.ensures

pub unfit_body-requires : goal.unfit_body-requires
unfit_body-requires c =
    rw c.as_slice.ensures.value
    (file_rest_of_text _ _ _ _ (sym c.iter-tops.ensures.rest ∙ c.in-Some.ensures.steps) c.requires)

pub returns : goal.returns
returns c =
    let at_body = rw c.as_slice.ensures.value at c.unfit_body.ensures in
    file_read _ _ _ _ _ _ (sym c.iter-tops.ensures.rest ∙ c.in-Some.ensures.steps)
    c.in_default-unfit_stream.ensures at_body
