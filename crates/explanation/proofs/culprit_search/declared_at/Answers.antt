use Rattle.std.proofs.Common.{rules}
use Rattle.explanation.proofs.LetPlaces.{named_plain}
use Rattle.explanation.proofs.culprit_search.declared_at.Goals as goal

pub returns-else-declares_column : goal.returns-else-declares_column
returns-else-declares_column c =
    search (rules, named_plain c.args.place c.args.program.now.lets.items)
