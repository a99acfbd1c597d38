use Rattle.std.proofs.Common.{◌≡◌, ◌<◌, [], ◌∷◌, ◌++◌, length, ap, arith}
use Rattle.std.proofs.lemmas.Grind.{common_steps}
use Rattle.line_reader.proofs.Fields.{read_on-push}
use Rattle.line_reader.proofs.field.push_field.Goals as goal

pub returns-clause-pushed : goal.returns-clause-pushed
returns-clause-pushed c texts =
    let columns = c.columns.result.now in
    let fields = c.args.fields.now.items in
    let left : length fields < length columns =
    omega (arith, ap length c.columns.ensures.columns) in
    let index : c.len-index.result ≡ length fields = omega arith in
    let pushed : c.push.new.self.items ≡ fields ++ c.in_ok-field.field ∷ [] =
    grind (arith, common_steps) in
    rw (← c.columns.ensures.columns, pushed)
    (read_on-push columns fields c.index-columns-index.result c.args.text.now texts
    c.in_ok-field.field left (rw index at c.in_ok-field.ensures.field))
