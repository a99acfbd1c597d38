-- The sets of a rate, from those of its parts.
use Rattle.std.proofs.Common.{◌≡◌, ℕ, ◌+◌, ◌^◌, ◌<◌, ◌≤◌, ◌↔◌, ◌⊎◌, List, [], ◌∷◌, ◌++◌, map}
use Rattle.std.proofs.Common.{length, sym, ap, ◌∙◌, subst, length-append, arith}
use Rattle.std.proofs.lemmas.List.{length-map}
use Rattle.std.proofs.lemmas.Nat.{or_lt}
use Rattle.std.specs.List.{AllByRecursion}
use Rattle.predicates.specs.Predicates.{Predicate}
use Rattle.rate_expr.specs.declared.part.Part.{Part}
use Rattle.rate_expr.specs.FirstLastFollow.{AreSetsOf, IsFirst, IsLast, IsFollowedBy}
use Rattle.rate_expr.specs.Joined.{moved, ends_of, ends_after, with_ends, with_links, beside}
use Rattle.rate_expr.specs.Joined.{sets_of_empty, sets_of_one, sets_of_choice, sets_of_sequence}
use Rattle.rate_expr.specs.Joined.{sets_of_star}
use Rattle.rate_expr.specs.Parts.{of_choice, of_sequence}
use Rattle.rate_expr.specs.Rates.{Regex, empty, one, sequence, choice, star, size_of, preds_of}
use Rattle.rate_expr.specs.Sets.{Sets, AreSets}
use Rattle.rate_expr.proofs.Bounds.{are_sets, raised, with_if_below, linked_below}
use Rattle.rate_expr.proofs.JoinedEnds.{AreEnds, choice_ends, ends_higher, sequence_ends, star_ends}
use Rattle.rate_expr.proofs.JoinedSteps.{steps_beside, steps_linked}
use Rattle.rate_expr.proofs.Linking.{Goes, length-all_linked}
use Rattle.rate_expr.proofs.Meetings.{length-preds_of}
use Rattle.rate_expr.proofs.Moved.{moved_below}
use Rattle.rate_expr.proofs.SetsOf.{are_sets_of}

-- two automata have so few positions that one has those of both
pub record AreFew (a b : Sets) : Type 0 where
  pub first : AreSets a
  pub second : AreSets b
  pub few : length a.preds + length b.preds ≤ 128

-- bounds may be raised
all_raised : (masks : List ℕ) (j k : ℕ) → j ≤ k → AllByRecursion (λ mask. mask < 2 ^ j) masks
    → AllByRecursion (λ mask. mask < 2 ^ k) masks
all_raised [] j k le all = tt
all_raised (mask ∷ masks) j k le (below, all) =
    (raised mask j k le below, all_raised masks j k le all)

-- two lists, one after the other
all_append : (k : ℕ) (masks others : List ℕ) → AllByRecursion (λ mask. mask < 2 ^ k) masks
    → AllByRecursion (λ mask. mask < 2 ^ k) others
    → AllByRecursion (λ mask. mask < 2 ^ k) (masks ++ others)
all_append k [] others all also = also
all_append k (mask ∷ masks) others (below, all) also = (below, all_append k masks others all also)

-- masks that are moved
all_moved : (count long : ℕ) (masks : List ℕ) → count + long ≤ 128
    → AllByRecursion (λ mask. mask < 2 ^ long) masks
    → AllByRecursion (λ mask. mask < 2 ^ (count + long)) (map (moved count) masks)
all_moved count long [] few all = tt
all_moved count long (mask ∷ masks) few (below, all) =
    (moved_below count mask long below few, all_moved count long masks few all)

-- how many masks both have
follow_long : (a b : Sets) → AreFew a b
    → length (beside a b).follow ≡ length a.preds + length b.preds
follow_long a b both =
    let long = length-append a.follow (map (moved (length a.preds)) b.follow) in
    let same = length-map b.follow (moved (length a.preds)) in
    let left = both.first.each in
    let right = both.second.each in
    omega arith

-- the positions of both
pub beside_sets : (a b : Sets) → AreFew a b → AreSets (beside a b)
beside_sets a b both =
    let long = length-append a.preds b.preds in
    let le : length a.preds ≤ length (a.preds ++ b.preds) = omega arith in
    let few = both.few in
    let masks = follow_long a b both in
    record {
      few = omega arith;
      each = masks ∙ sym long;
      first = raised a.first (length a.preds) (length (a.preds ++ b.preds)) le both.first.first;
      last = raised a.last (length a.preds) (length (a.preds ++ b.preds)) le both.first.last;
      follow =
          all_append (length (a.preds ++ b.preds)) a.follow (map (moved (length a.preds)) b.follow)
          (all_raised a.follow (length a.preds) (length (a.preds ++ b.preds)) le both.first.follow)
          (subst (λ (k : ℕ). AllByRecursion (λ mask. mask < 2 ^ k)
          (map (moved (length a.preds)) b.follow)) (sym long)
          (all_moved (length a.preds) (length b.preds) b.follow few both.second.follow));
    }

-- more links between them
pub linked_sets : (a : Sets) (from to : ℕ) → AreSets a → to < 2 ^ length a.preds
    → AreSets (with_links a from to)
linked_sets a from to are below = record {
  few = are.few;
  each = length-all_linked from to 0 a.follow ∙ are.each;
  first = are.first;
  last = are.last;
  follow = linked_below from to 0 (length a.preds) a.follow below are.follow;
}

-- other ends
pub ends_sets : (a : Sets) (part : Part) → AreSets a → part.first < 2 ^ length a.preds
    → part.last < 2 ^ length a.preds → AreSets (with_ends a part)
ends_sets a part are first last =
    record { few = are.few; each = are.each; first = first; last = last; follow = are.follow }

-- where words of the second begin and end there
pub after_below : (a b : Sets) → AreFew a b
    → ((ends_after a b).first < 2 ^ length (a.preds ++ b.preds))
    × ((ends_after a b).last < 2 ^ length (a.preds ++ b.preds))
after_below a b both =
    let long = sym (length-append a.preds b.preds) in (
      subst (λ (k : ℕ). (ends_after a b).first < 2 ^ k) long
          (moved_below (length a.preds) b.first (length b.preds) both.second.first both.few),
      subst (λ (k : ℕ). (ends_after a b).last < 2 ^ k) long
          (moved_below (length a.preds) b.last (length b.preds) both.second.last both.few),
    )

-- and where those of a choice do
pub choice_below : (a b : Sets) → AreFew a b
    → ((of_choice (ends_of a) (ends_after a b)).first < 2 ^ length (a.preds ++ b.preds))
    × ((of_choice (ends_of a) (ends_after a b)).last < 2 ^ length (a.preds ++ b.preds))
choice_below a b both =
    let k = length (a.preds ++ b.preds) in
    let left = beside_sets a b both in
    let right = after_below a b both in (
      or_lt k a.first (ends_after a b).first left.first right.0,
      or_lt k a.last (ends_after a b).last left.last right.1,
    )

-- and of a sequence
pub sequence_below : (a b : Sets) → AreFew a b
    → ((of_sequence (ends_of a) (ends_after a b)).first < 2 ^ length (a.preds ++ b.preds))
    × ((of_sequence (ends_of a) (ends_after a b)).last < 2 ^ length (a.preds ++ b.preds))
sequence_below a b both =
    let k = length (a.preds ++ b.preds) in
    let left = beside_sets a b both in
    let right = after_below a b both in (
      with_if_below k a.first a.nullable (ends_after a b).first left.first right.0,
      with_if_below k (ends_after a b).last b.nullable a.last right.1 left.last,
    )

-- where words of a rate begin and end
ends_are : (a : Sets) (r : Regex) → AreSetsOf a r → AreEnds 0 (ends_of a) r
ends_are a r are = record { nullable = are.nullable; first = are.first; last = are.last }

-- this many positions
count_is : (a : Sets) (r : Regex) → AreSetsOf a r → length a.preds ≡ 0 + size_of r
count_is a r are =
    let long = length-preds_of r in
    let same = ap length are.preds in
    omega arith

after_are : (a b : Sets) (r s : Regex) → AreFew a b → AreSetsOf a r → AreSetsOf b s
    → AreEnds (0 + size_of r) (ends_after a b) s
after_are a b r s both of_r of_s =
    subst (λ (base : ℕ). AreEnds base (ends_after a b) s) (count_is a r of_r)
    (ends_higher (length a.preds) (length b.preds) (ends_of b) s both.second.first both.second.last
    both.few (ends_are b s of_s))

-- what continues in both
goes_are : (a b : Sets) (r s : Regex) → AreFew a b → AreSetsOf a r → AreSetsOf b s
    → (i n : ℕ) → Goes (beside a b).follow i n
    ↔ (IsFollowedBy r 0 i n ⊎ IsFollowedBy s (0 + size_of r) i n)
goes_are a b r s both of_r of_s i n =
    let count = count_is a r of_r in
    steps_beside (length a.preds) (length b.preds) a.follow b.follow r s both.first.each
    (omega arith) both.few both.second.follow of_r.follow of_s.follow i n

-- the predicates of both
preds_are : (a b : Sets) (r s : Regex) → AreSetsOf a r → AreSetsOf b s
    → a.preds ++ b.preds ≡ preds_of r ++ preds_of s
preds_are a b r s of_r of_s =
    ap (λ (list : List Predicate). list ++ b.preds) of_r.preds
    ∙ ap (λ (list : List Predicate). preds_of r ++ list) of_s.preds

-- a choice
pub choice_of : (a b : Sets) (r s : Regex) → AreFew a b → AreSetsOf a r → AreSetsOf b s
    → AreSetsOf (sets_of_choice a b) (choice r s)
choice_of a b r s both of_r of_s =
    let ends = choice_ends 0 (ends_of a) (ends_after a b) r s (ends_are a r of_r)
    (after_are a b r s both of_r of_s) in
    record {
      nullable = ends.nullable;
      first = ends.first;
      last = ends.last;
      follow = goes_are a b r s both of_r of_s;
      preds = preds_are a b r s of_r of_s;
    }

-- a sequence
pub sequence_of : (a b : Sets) (r s : Regex) → AreFew a b → AreSetsOf a r → AreSetsOf b s
    → AreSetsOf (sets_of_sequence a b) (sequence r s)
sequence_of a b r s both of_r of_s =
    let after = after_are a b r s both of_r of_s in
    let ends = sequence_ends 0 (ends_of a) (ends_after a b) r s (ends_are a r of_r) after in
    let long = follow_long a b both in
    let within : a.last < 2 ^ length (beside a b).follow =
    raised a.last (length a.preds) (length (beside a b).follow) (omega arith) both.first.last in
    record {
      nullable = ends.nullable;
      first = ends.first;
      last = ends.last;
      follow = λ i n. steps_linked a.last (ends_after a b).first (beside a b).follow i n
          (IsFollowedBy r 0 i n ⊎ IsFollowedBy s (0 + size_of r) i n) (IsLast r 0 i)
          (IsFirst s (0 + size_of r) n) within (goes_are a b r s both of_r of_s i n)
          (of_r.last i) (after.first n);
      preds = preds_are a b r s of_r of_s;
    }

-- a star
pub star_of : (a : Sets) (r : Regex) → AreSets a → AreSetsOf a r
    → AreSetsOf (sets_of_star a) (star r)
star_of a r are of_r =
    let ends = star_ends 0 (ends_of a) r (ends_are a r of_r) in
    let within : a.last < 2 ^ length a.follow =
    subst (λ (k : ℕ). a.last < 2 ^ k) (sym are.each) are.last in
    record {
      nullable = ends.nullable;
      first = ends.first;
      last = ends.last;
      follow = λ i n. steps_linked a.last a.first a.follow i n (IsFollowedBy r 0 i n) (IsLast r 0 i)
          (IsFirst r 0 n) within (of_r.follow i n) (of_r.last i) (of_r.first n);
      preds = of_r.preds;
    }

-- the empty word
pub empty_of : AreSetsOf sets_of_empty empty
empty_of = are_sets_of empty

pub empty_sets : AreSets sets_of_empty
empty_sets = are_sets empty (omega arith)

-- one item
pub one_of : (pred : Predicate) → AreSetsOf (sets_of_one pred) (one pred)
one_of pred = are_sets_of (one pred)

pub one_sets : (pred : Predicate) → AreSets (sets_of_one pred)
one_sets pred = are_sets (one pred) (omega arith)
