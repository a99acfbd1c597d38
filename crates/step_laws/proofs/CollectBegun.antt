-- A new start of a collect: whether it can be put, and the runner that is made for it.
use Rattle.std.proofs.Common.{◌≡◌, ◌↔◌, ℕ, Bool, true, false, not, IsTrue, List, [], Option, None}
use Rattle.std.proofs.Common.{Some, option_map, slice_get, refl, arith}
use Rattle.std.specs.Prelude.{IfNone, IfSome, is_some}
use Rattle.std.specs.List.{Contains}
use Rattle.item_schema.specs.declared.column.Column.{Column}
use Rattle.query_model.specs.Queries.{Qre}
use Rattle.eval_nodes.specs.declared.progress.Progress.{Progress}
use Rattle.eval_nodes.specs.Holdings.{Holding}
use Rattle.eval_nodes.specs.Plain.{holding_of, seen_of}
use Rattle.eval_nodes.specs.Represents.{Represents}
use Rattle.eval_nodes.specs.Sound.{IsSound}
use Rattle.eval_nodes.proofs.Zips.{read_there}
use Rattle.step_laws.specs.declared.hit.Hit.{Hit}
use Rattle.step_laws.specs.Pushes.{CanMake, IsNew}
use Rattle.step_laws.specs.Steps.{CanStart, Starts, StartsSoundly}
use Rattle.step_laws.proofs.Carried.{begun}

-- where a word can begin, the start is not there
pub place_test : (place : Option ℕ) (test : Bool) (P : Type 0) (starts : List ℕ) (at : ℕ)
    → is_some place ≡ not test → P → IfSome place (λ i. slice_get starts i ≡ Some at)
    → IfNone place (Contains starts at → ⊥) → IsTrue test ↔ (P × (Contains starts at → ⊥))
place_test None true P starts at said can some none = (λ is. (can, none), λ both. refl)
place_test None false P starts at said can some none = let wrong : false ≡ true = said in cc
place_test (Some i) true P starts at said can some none = let wrong : true ≡ false = said in cc
place_test (Some i) false P starts at said can some none = (
  λ is. let wrong : false ≡ true = is in cc,
  λ both. absurd (both.1 (read_there starts i at some)),
)

-- the new node may start
pub start_made : (q : Qre) (node : Holding Progress) → CanMake q
    → ((columns : List Column) → IsSound seen_of columns q 0 node) → CanStart seen_of q node 0
start_made q node can sound =
    let room = can.room in
    record {
      standing = can.standing;
      columns = can.columns;
      clear = can.clear;
      sound = sound can.columns;
      room = omega (arith, room);
    }

-- and then the runner is new
pub made_new : (q : Qre) (node : Holding Progress) (new : Progress) (hit : Option Hit)
    → ((columns : List Column) → Represents seen_of columns q node [] [])
    → ((columns : List Column) → IsSound seen_of columns q 0 node)
    → Starts seen_of q node 0 (holding_of new.node.state) hit
    → StartsSoundly seen_of q node 0 (holding_of new.node.state) hit → new.position ≡ 0
    → new.answer ≡ option_map (λ (found : Hit). found.value) hit → IsNew seen_of q new
made_new q node new hit rep sound starts soundly position answer = record {
  word = λ standing columns clear.
      (begun standing columns q node new hit clear (rep columns) (sound columns) starts soundly
      position answer).follows;
  sound = λ standing columns clear. record {
    within = let at : (seen_of new).position ≡ 0 = position in omega (arith, at);
    sound = (begun standing columns q node new hit clear (rep columns) (sound columns) starts
        soundly position answer).sound;
  };
}
