use Rattle.std.proofs.Common.{ap, ◌∙◌}
use Rattle.query_forms.specs.Terms.{none}
use Rattle.query_syntax.specs.Files.{mode_before}
use Rattle.query_syntax.proofs.Lists.{terms_before}
use Rattle.query_syntax.proofs.TopTerms.{stream_split}
use Rattle.query_syntax.proofs.stream_reading.mode_and_columns.Goals as goal

pub mode_of-mode-requires : goal.mode_of-mode-requires
mode_of-mode-requires c =
    (stream_split c.args.arguments.now c.mode-item.result c.requires.some c.requires.fit
    c.mode-item.is).mode_fits

pub columns_of-requires : goal.columns_of-requires
columns_of-requires c =
    (stream_split c.args.arguments.now c.mode-item.result c.requires.some c.requires.fit
    c.mode-item.is).columns_fit_all

pub returns : goal.returns
returns c =
    (stream_split c.args.arguments.now c.mode-item.result c.requires.some c.requires.fit
    c.mode-item.is).terms
    ∙ c.mode_of-mode.ensures _
    ∙ ap (mode_before c.mode_of-mode.result) (terms_before _ ∙ c.in_ok-columns_of.ensures none)
