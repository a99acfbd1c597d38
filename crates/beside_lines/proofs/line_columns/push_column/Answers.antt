use Rattle.std.proofs.Common.{rules}
use Rattle.std.specs.Option.{option_copied}
use Rattle.beside_lines.proofs.Popped.{popped_is}
use Rattle.beside_lines.proofs.line_columns.push_column.Goals as goal

pub returns : goal.returns
returns c =
    popped_is c.args.reply (option_copied c.args.answer) c.args.buffer.now.items
    c.extend_from_slice.new.self.items c.push_reply.new.buffer.items c.pop.new.self.items _
    (search rules) (search rules) (search rules) (search rules) c.pop.ensures.rest
