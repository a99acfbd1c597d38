-- What is made of the sets of parts, step by step.
use Rattle.std.proofs.Common.{◌≡◌, ℕ, ◌+◌, ◌^◌, ◌<◌, ◌≤◌, List, [], ◌∷◌, ◌++◌, map, take, drop}
use Rattle.std.proofs.Common.{length, sym, ap, ◌∙◌, subst, arith}
use Rattle.std.proofs.lemmas.List.{take_at}
use Rattle.predicates.specs.Predicates.{Predicate}
use Rattle.rate_expr.specs.declared.part.Part.{Part}
use Rattle.rate_expr.specs.FirstLastFollow.{AreSetsOf}
use Rattle.rate_expr.specs.Joined.{moved, part_moved, ends_of, ends_after, with_ends, with_links}
use Rattle.rate_expr.specs.Joined.{beside, sets_of_one}
use Rattle.rate_expr.specs.Parts.{all_linked, of_choice, of_sequence, of_star}
use Rattle.rate_expr.specs.Rates as rates
use Rattle.rate_expr.specs.Rates.{Regex}
use Rattle.rate_expr.specs.Sets.{Sets, AreSets}
use Rattle.rate_expr.proofs.JoinedSets.{AreFew, beside_sets, linked_sets, after_below, choice_below}
use Rattle.rate_expr.proofs.JoinedSets.{sequence_below, choice_of, sequence_of, star_of, one_of}
use Rattle.rate_expr.proofs.Linking.{length-all_linked}

-- the sets with other masks and predicates
abbrev pub with_lists : Sets → List ℕ → List Predicate → Sets
with_lists a follow preds = record {
  nullable = a.nullable;
  first = a.first;
  last = a.last;
  follow = follow;
  preds = preds;
}

-- one position
pub one_made : (before follow : List ℕ) (others preds : List Predicate) (pred : Predicate)
    → before ≡ [] → follow ≡ before ++ 0 ∷ [] → others ≡ [] → preds ≡ others ++ pred ∷ []
    → AreSetsOf (with_lists (sets_of_one pred) follow preds) (rates.one pred)
one_made before follow others preds pred none masks no_others list =
    subst (λ (s : Sets). AreSetsOf s (rates.one pred)) (sym same) (one_of pred)
  where
    same : with_lists (sets_of_one pred) follow preds ≡ sets_of_one pred
    same =
        ap (λ (f : List ℕ). with_lists (sets_of_one pred) f preds)
        (masks ∙ ap (λ (xs : List ℕ). xs ++ 0 ∷ []) none)
        ∙ ap (λ (p : List Predicate). with_lists (sets_of_one pred) (0 ∷ []) p)
        (list ∙ ap (λ (xs : List Predicate). xs ++ pred ∷ []) no_others)

-- masks that were linked in place
pub linked_made : (a : Sets) (from to len : ℕ) (masks written items : List ℕ) → AreSets a
    → to < 2 ^ length a.preds → masks ≡ a.follow → length masks ≡ len
    → written ≡ all_linked from to 0 masks
    → AreSets (with_lists a (take len (written ++ drop (length written) items)) a.preds)
linked_made a from to len masks written items are below is long linked =
    subst (λ (f : List ℕ). AreSets (with_lists a f a.preds)) (sym same)
    (linked_sets a from to are below)
  where
    as_long : length written ≡ len
    as_long = ap length linked ∙ length-all_linked from to 0 masks ∙ long

    same : take len (written ++ drop (length written) items) ≡ all_linked from to 0 a.follow
    same =
        take_at written (drop (length written) items) len as_long
        ∙ linked
        ∙ ap (λ (f : List ℕ). all_linked from to 0 f) is

-- positions that were put after others
pub beside_made : (a b left right : Sets) (count : ℕ) (others follow : List ℕ)
    (preds : List Predicate) → a ≡ left → b ≡ right → AreSets a → AreSets b
    → length left.preds + length right.preds ≤ 128 → count ≡ length left.preds → others ≡ b.follow
    → follow ≡ a.follow ++ map (moved count) others → preds ≡ a.preds ++ b.preds
    → AreSets (with_lists a follow preds)
beside_made a b left right count others follow preds is also are of_b few counted read masks list =
    subst AreSets (sym same) (beside_sets a b (record { first = are; second = of_b; few = within }))
  where
    long : count ≡ length a.preds
    long = counted ∙ ap (λ (s : Sets). length s.preds) (sym is)

    within : length a.preds + length b.preds ≤ 128
    within =
        let one = ap (λ (s : Sets). length s.preds) is in
        let other = ap (λ (s : Sets). length s.preds) also in
        omega arith

    same : with_lists a follow preds ≡ beside a b
    same =
        ap (λ (f : List ℕ). with_lists a f preds) (masks
        ∙ ap (λ (n : ℕ). a.follow ++ map (moved n) others) long
        ∙ ap (λ (xs : List ℕ). a.follow ++ map (moved (length a.preds)) xs) read)
        ∙ ap (λ (p : List Predicate). with_lists a (beside a b).follow p) list

-- two parts, the ends of both, and their positions beside each other
pub record AreReady (a b : Sets) (part after : Part) (sets : Sets) : Type 0 where
  pub both : AreFew a b
  pub ends : part ≡ ends_of a
  pub others : after ≡ ends_after a b
  pub beside_is : sets ≡ beside a b

pub ready : (a b : Sets) (part other after : Part) (count : ℕ) (sets : Sets) → AreSets a
    → AreSets b → length a.preds + length b.preds ≤ 128 → part ≡ ends_of a → other ≡ ends_of b
    → count ≡ length a.preds → after ≡ part_moved count other → sets ≡ beside a b
    → AreReady a b part after sets
ready a b part other after count sets are also few ends others counted moves is = record {
  both = record { first = are; second = also; few = few };
  ends = ends;
  others = moves
      ∙ ap (λ (n : ℕ). part_moved n other) counted
      ∙ ap (λ (p : Part). part_moved (length a.preds) p) others;
  beside_is = is;
}

-- a part begins and ends below a bound
abbrev IsBelow : ℕ → Part → Type 0
IsBelow k part = (part.first < 2 ^ k) × (part.last < 2 ^ k)

pub after_bounds : (a b : Sets) (part after : Part) (sets : Sets)
    → AreReady a b part after sets → IsBelow (length sets.preds) after
after_bounds a b part after sets known =
    subst (λ (s : Sets). IsBelow (length s.preds) after) (sym known.beside_is)
    (subst (λ (p : Part). IsBelow (length (a.preds ++ b.preds)) p) (sym known.others)
    (after_below a b known.both))

-- the ends of a choice and of a sequence
choice_part : (a b : Sets) (part after : Part) (sets : Sets) → AreReady a b part after sets
    → of_choice part after ≡ of_choice (ends_of a) (ends_after a b)
choice_part a b part after sets known =
    ap (λ (p : Part). of_choice p after) known.ends
    ∙ ap (λ (p : Part). of_choice (ends_of a) p) known.others

sequence_part : (a b : Sets) (part after : Part) (sets : Sets) → AreReady a b part after sets
    → of_sequence part after ≡ of_sequence (ends_of a) (ends_after a b)
sequence_part a b part after sets known =
    ap (λ (p : Part). of_sequence p after) known.ends
    ∙ ap (λ (p : Part). of_sequence (ends_of a) p) known.others

pub choice_bounds : (a b : Sets) (part after whole : Part) (sets : Sets)
    → AreReady a b part after sets → whole ≡ of_choice part after
    → IsBelow (length sets.preds) whole
choice_bounds a b part after whole sets known is =
    subst (λ (s : Sets). IsBelow (length s.preds) whole) (sym known.beside_is)
    (subst (λ (p : Part). IsBelow (length (a.preds ++ b.preds)) p)
    (sym (is ∙ choice_part a b part after sets known)) (choice_below a b known.both))

pub choice_made : (a b : Sets) (part after whole : Part) (sets result : Sets)
    → AreReady a b part after sets → whole ≡ of_choice part after → result ≡ with_ends sets whole
    → (r s : Regex) → AreSetsOf a r → AreSetsOf b s → AreSetsOf result (rates.choice r s)
choice_made a b part after whole sets result known is made r s of_r of_s =
    subst (λ (x : Sets). AreSetsOf x (rates.choice r s)) (sym same)
    (choice_of a b r s known.both of_r of_s)
  where
    same : result ≡ with_ends (beside a b) (of_choice (ends_of a) (ends_after a b))
    same =
        made
        ∙ ap (λ (x : Sets). with_ends x whole) known.beside_is
        ∙ ap (with_ends (beside a b)) (is ∙ choice_part a b part after sets known)

pub sequence_bounds : (a b : Sets) (part after whole : Part) (sets linked : Sets)
    → AreReady a b part after sets → linked ≡ with_links sets part.last after.first
    → whole ≡ of_sequence part after → IsBelow (length linked.preds) whole
sequence_bounds a b part after whole sets linked known links is =
    subst (λ (s : Sets). IsBelow (length s.preds) whole) (sym links)
    (subst (λ (s : Sets). IsBelow (length s.preds) whole) (sym known.beside_is)
    (subst (λ (p : Part). IsBelow (length (a.preds ++ b.preds)) p)
    (sym (is ∙ sequence_part a b part after sets known)) (sequence_below a b known.both)))

pub sequence_made : (a b : Sets) (part after whole : Part) (sets linked result : Sets)
    → AreReady a b part after sets → linked ≡ with_links sets part.last after.first
    → whole ≡ of_sequence part after → result ≡ with_ends linked whole → (r s : Regex)
    → AreSetsOf a r → AreSetsOf b s → AreSetsOf result (rates.sequence r s)
sequence_made a b part after whole sets linked result known links is made r s of_r of_s =
    subst (λ (x : Sets). AreSetsOf x (rates.sequence r s)) (sym same)
    (sequence_of a b r s known.both of_r of_s)
  where
    linked_is : linked ≡ with_links (beside a b) a.last (ends_after a b).first
    linked_is =
        links
        ∙ ap (λ (x : Sets). with_links x part.last after.first) known.beside_is
        ∙ ap (λ (p : Part). with_links (beside a b) p.last after.first) known.ends
        ∙ ap (λ (p : Part). with_links (beside a b) a.last p.first) known.others

    same : result ≡ with_ends (with_links (beside a b) a.last (ends_after a b).first)
        (of_sequence (ends_of a) (ends_after a b))
    same =
        made
        ∙ ap (λ (x : Sets). with_ends x whole) linked_is
        ∙ ap (with_ends (with_links (beside a b) a.last (ends_after a b).first))
        (is ∙ sequence_part a b part after sets known)

-- a star
pub star_made : (a : Sets) (part whole : Part) (linked result : Sets) → AreSets a
    → part ≡ ends_of a → linked ≡ with_links a part.last part.first → whole ≡ of_star part
    → result ≡ with_ends linked whole → (r : Regex) → AreSetsOf a r
    → AreSetsOf result (rates.star r)
star_made a part whole linked result are ends links is made r of_r =
    subst (λ (x : Sets). AreSetsOf x (rates.star r)) (sym same) (star_of a r are of_r)
  where
    same : result ≡ with_ends (with_links a a.last a.first) (of_star (ends_of a))
    same =
        made
        ∙ ap (λ (x : Sets). with_ends x whole) (links
        ∙ ap (λ (p : Part). with_links a p.last p.first) ends)
        ∙ ap (with_ends (with_links a a.last a.first)) (is ∙ ap of_star ends)
