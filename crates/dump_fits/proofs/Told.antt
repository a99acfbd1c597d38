-- What a test tells.
use Rattle.std.proofs.Common.{◌≡◌, ℕ, Bool, true, false, List, refl, sym, subst}
use Rattle.std.specs.Prelude.{◌↔◌, IsTrue}
use Rattle.std.proofs.lemmas.Bool.{both_ways, false≢true}
use Rattle.item_schema.specs.declared.column.Column.{Column}
use Rattle.query_model.specs.Queries.{Qre}
use Rattle.runner_snapshot.specs.Dumps.{Node}
use Rattle.eval_snapshot.specs.Fits.{FitsNode}

pub told_no : (so : Type 0) → (so → ⊥) → IsTrue false ↔ so
told_no so never = (λ told. absurd (false≢true told), λ is. absurd (never is))

pub told_yes : (so : Type 0) → so → IsTrue true ↔ so
told_yes so is = (λ told. is, λ it. refl)

-- one thing is so, and the test tells the other, in other words
pub told_both : (told : Bool) (first so other : Type 0) → first → (so → other) → (other → so)
    → IsTrue told ↔ so → IsTrue told ↔ (first × other)
told_both told first so other here to from is =
    (λ is_true. (here, to (is.0 is_true)), λ both. is.1 (from both.1))

-- the same of two things that are so
pub told_three : (told : Bool) (first second so other : Type 0) → first → second → (so → other)
    → (other → so) → IsTrue told ↔ so → IsTrue told ↔ (first × second × other)
told_three told first second so other here there to from is =
    (λ is_true. (here, there, to (is.0 is_true)), λ all. is.1 (from all.2))

-- it is not so
pub told_never : (told : Bool) (so : Type 0) → told ≡ false → (so → ⊥) → IsTrue told ↔ so
told_never told so is_false never =
    (λ is_true. absurd (both_ways told is_false is_true), λ is. absurd (never is))

-- of a node of the query that was asked for
pub told_of : (told : Bool) (columns : List Column) (q q' : Qre) (position : ℕ) (node : Node)
    → q' ≡ q → IsTrue told ↔ FitsNode columns q position node
    → IsTrue told ↔ FitsNode columns q' position node
told_of told columns q q' position node same is =
    subst (λ (x : Qre). IsTrue told ↔ FitsNode columns x position node) (sym same) is
