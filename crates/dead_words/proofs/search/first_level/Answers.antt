use Rattle.std.proofs.Common.{refl}
use Rattle.std.proofs.lemmas.List.Elements.{Contains-push}
use Rattle.dead_words.proofs.search.first_level.Goals as goal

pub returns-clause-initial : goal.returns-clause-initial
returns-clause-initial c = rw c.in_ok-push.ensures.items (_, Contains-push _ _, refl)
