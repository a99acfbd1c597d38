-- The lines are those of the file.
use Rattle.std.proofs.Common.{◌≡◌, ◌∙◌, ◌++◌, [], ap, subst, sym}
use Rattle.query_model.specs.Queries.{plain_of}
use Rattle.query_model.specs.declared.query.Query.{Query}
use Rattle.query_text.specs.LetTexts.{placed_texts}
use Rattle.query_text.specs.Memory.{FitsMemory}
use Rattle.query_text.specs.Names.{of_columns}
use Rattle.query_text.specs.StreamTexts.{lets_text, stream_text}
use Rattle.query_text.proofs.WholeTexts.{lines_make_text}
use Rattle.query_text.proofs.text.text_of.Goals as goal

pub returns-clause-text : goal.returns-clause-text
returns-clause-text c =
    let layout = c.args.checked.now.layout in
    let columns = c.columns.ensures.columns ∙ ap (λ l. l.columns) c.schema.ensures.schema in
    let same : placed_texts (of_columns c.columns.result.now) (plain_of c.main.result.now.shape)
    c.new-lets.result
    ≡ placed_texts (of_columns layout.columns) (plain_of c.args.checked.now.main.shape) [] =
    λ i. placed_texts (of_columns (columns i))
    (plain_of ((c.main.ensures.main i).shape)) (c.new-lets.ensures i) in
    c.from_vec.ensures
    ∙ lines_make_text layout (plain_of c.args.checked.now.main.shape) c.place_of.new.lets
    c.in_ok-last.last c.new-text.result.items c.write_stream.new.text.items
    c.write_lets.new.text.items c.write_main.new.text.items
    (sym same ∙ c.in_ok-last.ensures.placed) c.new-text.ensures.items
    (c.in_ok-write_stream.ensures
    ∙ ap (λ l. c.new-text.result.items ++ stream_text l) c.schema-2.ensures.schema)
    (c.in_ok-write_lets.ensures
    ∙ ap (λ xs. c.write_stream.new.text.items ++ lets_text 0 xs) c.as_slice.ensures)
    c.in_ok-write_main.ensures

pub returns-clause-kept : goal.returns-clause-kept
returns-clause-kept c =
    subst (λ (q : Query). FitsMemory (plain_of q.shape)) c.main.ensures.main
    c.in_ok-last.ensures.kept
