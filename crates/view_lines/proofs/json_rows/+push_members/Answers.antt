use Rattle.std.proofs.Common.{arith}
use Rattle.view_lines.proofs.Ends.{members_end}
use Rattle.view_lines.proofs.json_rows.+push_members.Goals as goal

pub returns-in_default-2 : goal.returns-in_default-2
returns-in_default-2 t c =
    members_end c.args.text.now.items c.args.columns.now c.args.fields.now (grind arith)
