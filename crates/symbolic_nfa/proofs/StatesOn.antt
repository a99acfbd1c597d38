-- What masks say of states.
use Rattle.std.proofs.Common.{◌≡◌, ℕ, Bool, List, ◌↔◌, ◌^◌, get_or, length, sym, subst, ◌<◌, IsTrue}
use Rattle.std.proofs.Common.{bit_and, arith}
use Rattle.std.proofs.lemmas.Nat.{and_le_r}
use Rattle.std.proofs.lemmas.Option.{slice_get_read}
use Rattle.value_ops.specs.declared.field.Field.{Field}
use Rattle.predicate_cells.specs.Cells.{Partition, cell_count, IsIn}
use Rattle.rate_expr.specs.Sets.{Sets}
use Rattle.symbolic_nfa.specs.Automata.{Automaton, IsMet}
use Rattle.symbolic_nfa.specs.Growth.{IsUseful}
use Rattle.symbolic_nfa.specs.States.{AreWaysOn, Continues, StepsTo, Extends}
use Rattle.symbolic_nfa.specs.Tables.{AreTables}
use Rattle.rate_expr.specs.declared.state.State.{State}
use Rattle.rate_expr.specs.declared.state.State.TheVariants.{Initial, At}
use Rattle.rate_expr.proofs.MaskSets.{AreMeeting, has-and, has-and_both}

-- the positions in which words continue, of those that the items of the cell meet
pub steps_to-and :
    (sets : Sets) (cells : Partition) (state : State) (cell ways met : ℕ) (item : List Field)
    → AreWaysOn sets state ways → IsMet sets cells cell met
    → IsIn cells cell item → StepsTo sets state item (bit_and ways met)
steps_to-and sets cells state cell ways met item are is_met is_in = record {
  sound = λ next has.
      let both = has-and ways met next has in
      ((are.exact next).0 both.0, is_met.sound next item is_in both.1);
  whole = λ next continues meets.
      has-and_both ways met next ((are.exact next).1 continues)
      (is_met.whole next item is_in meets);
}

-- the table has the mask of each cell
pub met-at :
    (nfa : Automaton) (met : List ℕ) (growing : ℕ) (begins : Bool) (cell mask : ℕ)
    → AreTables nfa met growing begins → cell < cell_count nfa.cells → mask ≡ get_or met cell mask
    → IsMet nfa.sets nfa.cells cell mask
met-at nfa met growing begins cell mask tables below read =
    let each = sym tables.met_is.0 in
    tables.met_is.1 cell mask (slice_get_read met (cell_count nfa.cells) cell mask each below read)

-- tables of the fields are those of the value that they make
pub tables_of :
    (nfa seen : Automaton) (met : List ℕ) (growing : ℕ) (begins : Bool) → nfa ≡ seen
    → AreTables nfa met growing begins → AreTables seen met growing begins
tables_of nfa seen met growing begins same tables =
    subst (λ (a : Automaton). AreTables a met growing begins) same tables

-- so the table's mask of the cell gives a step along the ways on
module _ (nfa seen : Automaton) (met : List ℕ) (growing : ℕ) (begins : Bool) (same : nfa ≡ seen)
    (tables : AreTables nfa met growing begins) (ways cell mask : ℕ)
    (below : cell < cell_count seen.cells) (read : mask ≡ get_or met cell mask) where
  is_met : IsMet seen.sets seen.cells cell mask
  is_met =
      met-at seen met growing begins cell mask (tables_of nfa seen met growing begins same tables)
      below read

  pub step_along-at :
      (state : State) → AreWaysOn seen.sets state ways
      → (item : List Field) → IsIn seen.cells cell item
      → StepsTo seen.sets state item (bit_and ways mask)
  step_along-at state are item is_in =
      steps_to-and seen.sets seen.cells state cell ways mask item are is_met is_in

  pub step_along-below : bit_and ways mask < 2 ^ length seen.sets.preds
  step_along-below = let met_below = is_met.within in omega (arith, and_le_r ways mask)

-- a state extends exactly where a word continues from it in a useful position
extends-useful :
    (nfa : Automaton) (state : State)
    → Extends nfa state ↔ ((next : ℕ) × Continues nfa.sets state next × IsUseful nfa next)
extends-useful nfa state = (
  λ on.
      let (next, end, continues, meets, path, last) = on.ends in (
        next,
        continues,
        record {
          item = on.item;
          word = on.word;
          end = end;
          items = on.items;
          met = meets;
          path = path;
          last = last;
        },
      ),
  λ (next, continues, useful).
      record {
        item = useful.item;
        word = useful.word;
        items = useful.items;
        ends = (next, useful.end, continues, useful.met, useful.path, useful.last);
      },
)

-- the tables say it of the initial state
pub extends-begins :
    (nfa : Automaton) (met : List ℕ) (growing : ℕ) (begins : Bool)
    → AreTables nfa met growing begins → IsTrue begins ↔ Extends nfa Initial
extends-begins nfa met growing begins tables =
    let useful = extends-useful nfa Initial in
    let is = tables.begins_is in
    (λ test. useful.1 (is.0 test), λ extends. is.1 (useful.0 extends))

-- and of any other
pub extends-growing :
    (nfa : Automaton) (met : List ℕ) (growing : ℕ) (begins : Bool) (mask : ℕ)
    → AreTables nfa met growing begins → (test : Bool) → IsTrue test ↔ AreMeeting mask growing
    → IsTrue test ↔ Extends nfa (At mask)
extends-growing nfa met growing begins mask tables test meeting =
    let useful = extends-useful nfa (At mask) in (
      λ is.
          let (from, has, grows) = meeting.0 is in
          let (next, follows, ends) = (tables.growing_is from).0 grows in
          useful.1 (next, (from, has, follows), ends),
      λ extends.
          let (next, (from, has, follows), ends) = useful.0 extends in
          meeting.1 (from, has, (tables.growing_is from).1 (next, follows, ends)),
    )
