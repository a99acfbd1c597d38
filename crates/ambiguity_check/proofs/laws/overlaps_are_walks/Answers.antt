use Rattle.ambiguity_check.proofs.OverlapWalks.{walk_overlaps, overlap_walks}
use Rattle.ambiguity_check.proofs.laws.overlaps_are_walks.Goals as goal

pub returns-clause-sound : goal.returns-clause-sound
returns-clause-sound c = λ columns first second rows are r s of_r of_s items.
    walk_overlaps columns first second rows are r s of_r of_s items

pub returns-clause-whole : goal.returns-clause-whole
returns-clause-whole c = λ columns first second rows are r s of_r of_s items some.
    overlap_walks columns first second rows are r s of_r of_s items some
