-- The sets that are made of a rate are its own.
use Rattle.std.proofs.Common.{◌≡◌, ◌≤◌, ℕ, List, [], ◌++◌, length, sym, ap, ◌∙◌, subst}
use Rattle.predicates.specs.Predicates.{Predicate}
use Rattle.rate_expr.specs.declared.part.Part.{Part}
use Rattle.rate_expr.specs.Parts.{part_of, follow_of}
use Rattle.rate_expr.specs.FirstLastFollow.{AreSetsOf}
use Rattle.rate_expr.specs.Paths.{AreOf}
use Rattle.rate_expr.specs.Rates.{Regex, size_of, preds_of}
use Rattle.rate_expr.specs.Sets.{Sets, AreSets}
use Rattle.rate_expr.proofs.Bounds.{are_sets}
use Rattle.rate_expr.proofs.SetsOf.{sets_of, are_sets_of, sets_spell}

-- the sets of a part, with these masks and predicates
abbrev pub sets_with : Part → List ℕ → List Predicate → Sets
sets_with part follow preds = record {
  nullable = part.nullable;
  first = part.first;
  last = part.last;
  follow = follow;
  preds = preds;
}

-- what was made after nothing
pub record IsMade (rate : Regex) (part : Part) (follow : List ℕ)
    (preds : List Predicate) : Type 0 where
  pub part_is : part ≡ part_of rate 0
  pub follow_is : follow ≡ follow_of rate []
  pub preds_is : preds ≡ preds_of rate

-- is what was made after empty lists
pub made : (rate : Regex) (before follow : List ℕ) (others preds : List Predicate) (part : Part)
    → before ≡ [] → others ≡ [] → part ≡ part_of rate (length before)
    → follow ≡ follow_of rate before → preds ≡ others ++ preds_of rate
    → IsMade rate part follow preds
made rate before follow others preds part none no_others is_part is_follow is_preds = record {
  part_is = is_part ∙ ap (λ (masks : List ℕ). part_of rate (length masks)) none;
  follow_is = is_follow ∙ ap (follow_of rate) none;
  preds_is = is_preds ∙ ap (λ (list : List Predicate). list ++ preds_of rate) no_others;
}

-- these are the sets of the rate
made_sets : (rate : Regex) (part : Part) (follow : List ℕ) (preds : List Predicate)
    → IsMade rate part follow preds → sets_with part follow preds ≡ sets_of rate
made_sets rate part follow preds made =
    ap (λ (p : Part). sets_with p follow preds) made.part_is
    ∙ ap (λ (masks : List ℕ). sets_with (part_of rate 0) masks preds) made.follow_is
    ∙ ap (sets_with (part_of rate 0) (follow_of rate [])) made.preds_is

-- those of the textbook
pub made_sets_of : (rate : Regex) (part : Part) (follow : List ℕ) (preds : List Predicate)
    → IsMade rate part follow preds → AreSetsOf (sets_with part follow preds) rate
made_sets_of rate part follow preds made =
    subst (λ (sets : Sets). AreSetsOf sets rate) (sym (made_sets rate part follow preds made))
    (are_sets_of rate)

-- so they spell exactly its words
pub made_spell : (rate : Regex) (part : Part) (follow : List ℕ) (preds : List Predicate)
    → IsMade rate part follow preds → AreOf (sets_with part follow preds) rate
made_spell rate part follow preds made =
    sets_spell (sets_with part follow preds) rate (made_sets_of rate part follow preds made)

-- and have no positions but its own
pub made_are_sets : (rate : Regex) (part : Part) (follow : List ℕ) (preds : List Predicate)
    → IsMade rate part follow preds → size_of rate ≤ 128 → AreSets (sets_with part follow preds)
made_are_sets rate part follow preds made few =
    subst AreSets (sym (made_sets rate part follow preds made)) (are_sets rate few)
