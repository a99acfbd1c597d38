use Rattle.std.proofs.Common.{arith, rules}
use Rattle.std.proofs.lemmas.List.{take_all}
use Rattle.std.proofs.lemmas.List.Sums.{suffix_len-take_yes}
use Rattle.place_in_text.proofs.line.last_line_start.Goals as goal

pub bytes-init : goal.bytes-init
bytes-init c = search (rules, take_all)

pub bytes-preserved : goal.bytes-preserved
bytes-preserved c = grind (arith, suffix_len-take_yes)
