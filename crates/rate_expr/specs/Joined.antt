-- For the prover. The sets of a rate, put together from the sets of its parts.
use Rattle.std.specs.Prelude.{◌*◌, ◌%◌, ◌^◌, ℕ, true, false, [], ◌∷◌, ◌++◌, map, length}
use Rattle.predicates.specs.Predicates.{Predicate}
use Rattle.rate_expr.specs.declared.part.Part.{Part}
use Rattle.rate_expr.specs.Parts.{all_linked, of_choice, of_sequence, of_star}
use Rattle.rate_expr.specs.Sets.{Sets}

-- the mask with each position raised by `count`; those past 127 are dropped
abbrev pub moved : ℕ → ℕ → ℕ
moved count mask = mask * 2 ^ count % 2 ^ 128

-- where words of the part begin and end, with each position raised by `count`
abbrev pub part_moved : ℕ → Part → Part
part_moved count part = record {
  nullable = part.nullable;
  first = moved count part.first;
  last = moved count part.last;
}

-- where words begin and end
abbrev pub ends_of : Sets → Part
ends_of sets = record { nullable = sets.nullable; first = sets.first; last = sets.last }

-- the same positions, but words begin and end where those of the part do
abbrev pub with_ends : Sets → Part → Sets
with_ends sets part = record {
  nullable = part.nullable;
  first = part.first;
  last = part.last;
  follow = sets.follow;
  preds = sets.preds;
}

-- the same positions, but each of `to` may also follow each of `from`
abbrev pub with_links : Sets → ℕ → ℕ → Sets
with_links sets from to = record {
  nullable = sets.nullable;
  first = sets.first;
  last = sets.last;
  follow = all_linked from to 0 sets.follow;
  preds = sets.preds;
}

-- the positions of `b` appended to those of `a`; no word leads from the one to the other, and words
-- begin and end where those of `a` do
abbrev pub beside : Sets → Sets → Sets
beside a b = record {
  nullable = a.nullable;
  first = a.first;
  last = a.last;
  follow = a.follow ++ map (moved (length a.preds)) b.follow;
  preds = a.preds ++ b.preds;
}

-- the sets of the empty word: there is no position
abbrev pub sets_of_empty : Sets
sets_of_empty = record { nullable = true; first = 0; last = 0; follow = []; preds = [] }

-- the sets of one predicate: there is one position
abbrev pub sets_of_one : Predicate → Sets
sets_of_one pred =
    record { nullable = false; first = 1; last = 1; follow = 0 ∷ []; preds = pred ∷ [] }

-- where words of `b` begin and end once its positions are appended to those of `a`
abbrev pub ends_after : Sets → Sets → Part
ends_after a b = part_moved (length a.preds) (ends_of b)

-- the sets for the words of either
abbrev pub sets_of_choice : Sets → Sets → Sets
sets_of_choice a b = with_ends (beside a b) (of_choice (ends_of a) (ends_after a b))

-- the sets for a word of the first and then one of the second
abbrev pub sets_of_sequence : Sets → Sets → Sets
sets_of_sequence a b =
    with_ends (with_links (beside a b) a.last (ends_after a b).first)
    (of_sequence (ends_of a) (ends_after a b))

-- the sets for any number of words, one after the other
abbrev pub sets_of_star : Sets → Sets
sets_of_star a = with_ends (with_links a a.last a.first) (of_star (ends_of a))
