-- A runner has the one start 0.
use Rattle.std.proofs.Common.{◌≡◌, ℕ, ◌∙◌, List, [], ◌∷◌, Option, Some, None, option_map, drop, sym}
use Rattle.std.proofs.Common.{subst, arith, inl, inr}
use Rattle.std.specs.List.{Contains}
use Rattle.item_schema.specs.declared.column.Column.{Column}
use Rattle.rate_expr.specs.Words.{Word}
use Rattle.query_model.specs.Denotation.{Den}
use Rattle.query_model.specs.Following.{IsAnswer}
use Rattle.query_model.specs.Queries.{Qre}
use Rattle.eval_nodes.specs.Starts.{AreApart, ArePositions}
use Rattle.eval_nodes.proofs.Members.{first_member, member_cases, no_member}
use Rattle.step_laws.specs.declared.hit.Hit.{Hit}
use Rattle.step_laws.specs.Steps.{IsFirstHit, IsHit}

-- the one start
pub only_start : (start : ℕ) → Contains (0 ∷ []) start → 0 ≡ start
only_start start there = elim (member_cases 0 start [] there) [
  | inl same ↦ same
  | inr none ↦ absurd (no_member start none)
]

pub one_apart : (columns : List Column) (q : Qre) (word : Word) → AreApart columns q word (0 ∷ [])
one_apart columns q word =
    λ i j more is first second a b. sym (only_start i first) ∙ only_start j second

pub one_position : (word : Word) → ArePositions word (0 ∷ [])
one_position word = λ start there. let same = only_start start there in omega (arith, same)

-- its hit is the answer
pub hit_answers : (q : Qre) (word : Word) (hit : Option Hit) → IsHit (Den q) word (0 ∷ []) hit
    → IsAnswer q word (option_map (λ (found : Hit). found.value) hit)
hit_answers q word None is = λ v den. is.complete 0 v (first_member 0 []) den
hit_answers q word (Some found) is =
    subst (λ (at : ℕ). Den q (drop at word) found.value)
    (sym (only_start found.start is.sound.0)) is.sound.1

pub first_answers : (q : Qre) (hit : Option Hit) → IsFirstHit (Den q) 0 hit
    → IsAnswer q [] (option_map (λ (found : Hit). found.value) hit)
first_answers q None is = is
first_answers q (Some found) is = is.1
