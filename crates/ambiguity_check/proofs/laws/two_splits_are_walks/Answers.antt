use Rattle.ambiguity_check.proofs.SplitWalks.{walk_splits, splits_walks}
use Rattle.ambiguity_check.proofs.laws.two_splits_are_walks.Goals as goal

pub returns-clause-sound : goal.returns-clause-sound
returns-clause-sound c = λ columns first second together parted rejoined are r s of_r of_s items.
    walk_splits columns first second together parted rejoined are r s of_r of_s items

pub returns-clause-whole : goal.returns-clause-whole
returns-clause-whole c = λ columns first second together parted rejoined are r s of_r of_s items.
    splits_walks columns first second together parted rejoined are r s of_r of_s items
