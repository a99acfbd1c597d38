-- The positions that are useful, found by masks alone.
use Rattle.std.proofs.Common.{◌≡◌, ◌⊎◌, inl, inr, ℕ, zero, suc, ◌<◌, ◌^◌, ◌↔◌, List, [], ◌∷◌, Some}
use Rattle.std.proofs.Common.{length, fold, refl, sym, subst, slice_get, get_or, Bool, IsTrue}
use Rattle.std.proofs.Common.{bit_or}
use Rattle.std.proofs.lemmas.Option.{slice_get-get_or, slice_get_within}
use Rattle.value_ops.specs.declared.field.Field.{Field}
use Rattle.item_schema.specs.Items.{IsItemOf}
use Rattle.predicate_cells.specs.Cells.{Partition, cell_count, cell_of}
use Rattle.predicate_cells.proofs.CellsBelow.{cell_below}
use Rattle.predicate_cells.proofs.CellsFilled.{cells_have_items}
use Rattle.rate_expr.specs.Paths.{LeadsOn, Meets}
use Rattle.rate_expr.specs.Sets.{Sets, AreSets, Has}
use Rattle.rate_expr.specs.Words.{Word, IsWordOf}
use Rattle.symbolic_nfa.specs.Automata.{Automaton, AreDecided, AreMet}
use Rattle.symbolic_nfa.specs.Ends.{ComesBefore, EndsThrough, LeadsThrough}
use Rattle.symbolic_nfa.specs.Growth.{BeginsWords, Grows, IsUseful}
use Rattle.symbolic_nfa.specs.Tables.{AreTables}
use Rattle.rate_expr.proofs.MaskMembers.{has_first, has_or, has_second, has_zero}
use Rattle.rate_expr.proofs.MaskSets.{AreMeeting}

-- one of the masks has the position
abbrev IsInSome : List ℕ → ℕ → Type 0
IsInSome masks position =
    (at : ℕ) × (mask : ℕ) × (slice_get masks at ≡ Some mask) × Has mask position

-- the positions of all masks together
has-union :
    (masks : List ℕ) (start position : ℕ)
    → Has (fold bit_or start masks) position ↔ (Has start position ⊎ IsInSome masks position)
has-union [] start position = (
  λ has. inl has,
  λ has. elim has [ inl before ↦ before | inr (at, mask, found, there) ↦ absurd (cc) ],
)
has-union (mask ∷ masks) start position =
    let rest = has-union masks (bit_or start mask) position in (
      λ has. elim (rest.0 has) [
        | inr (at, other, found, there) ↦ inr (suc at, other, found, there)
        | inl both ↦ elim (has_or start mask position both) [
          | inl before ↦ inl before
          | inr first ↦ inr (0, mask, refl, first)
        ]
      ],
      λ has. rest.1 (elim has [
        | inl before ↦ inl (has_first start mask position before)
        | inr (zero, other, found, there) ↦
            let same : mask ≡ other = cc (found) in
            inl (has_second start mask position
            (subst (λ (m : ℕ). Has m position) (sym same) there))
        | inr (suc at, other, found, there) ↦ inr (at, other, found, there)
      ]),
    )

-- an item of the stream meets the position
abbrev CanBeMet : Automaton → ℕ → Type 0
CanBeMet nfa position = (item : List Field) × IsItemOf nfa.cells.layout.columns item
    × Meets nfa.sets position item

-- those are the positions that the masks of the cells have together
union-met :
    (nfa : Automaton) (met : List ℕ) → AreMet nfa.sets nfa.cells met
    → (position : ℕ) → Has (fold bit_or 0 met) position ↔ CanBeMet nfa position
union-met nfa met are position =
    let union = has-union met 0 position in (
      λ has. elim (union.0 has) [
        | inl none ↦ absurd (has_zero position none)
        | inr (cell, mask, found, there) ↦
            let low : cell < cell_count nfa.cells =
            subst (λ (n : ℕ). cell < n) are.0 (slice_get_within met cell mask found) in
            let (item, is_in) = cells_have_items nfa.cells cell low in
            (item, is_in.0, (are.1 cell mask found).sound position item is_in there)
      ],
      λ (item, is_item, meets).
          let cell = cell_of nfa.cells item in
          let low : cell < length met =
          subst (λ (n : ℕ). cell < n) (sym are.0) (cell_below nfa.cells item) in
          let found = slice_get-get_or met cell 0 low in
          union.1 (inr (
            cell,
            get_or met cell 0,
            found,
            (are.1 cell (get_or met cell 0) found).whole position item (is_item, refl) meets,
          )),
    )

-- a path that a word spells leads through positions that can be met
through_met :
    (nfa : Automaton) (mask : ℕ) → ((position : ℕ) → Has mask position ↔ CanBeMet nfa position)
    → (word : Word) (item : List Field) (position end : ℕ)
    → IsWordOf nfa.cells.layout.columns (item ∷ word) → Meets nfa.sets position item
    → LeadsOn nfa.sets position word end → Has nfa.sets.last end
    → EndsThrough nfa.sets mask position
through_met nfa mask exact [] item position end items met here last = (
  0,
  (
    (exact position).1 (item, items.0, met),
    subst (λ (p : ℕ). Has nfa.sets.last p) (sym here) last,
  ),
)
through_met nfa mask exact (second ∷ word) item position end items met
    (next, follows, meets, path) last =
    let rest = through_met nfa mask exact word second next end items.1 meets path last in
    (suc rest.0, ((exact position).1 (item, items.0, met), next, follows, rest.1))

-- and a path through such positions is spelled by a word
useful_through :
    (nfa : Automaton) (mask : ℕ) → ((position : ℕ) → Has mask position ↔ CanBeMet nfa position)
    → (steps position : ℕ) → LeadsThrough nfa.sets mask position steps → IsUseful nfa position
useful_through nfa mask exact zero position (has, last) =
    let (item, is_item, met) = (exact position).0 has in
    record {
      item = item;
      word = [];
      end = position;
      items = (is_item, tt);
      met = met;
      path = refl;
      last = last;
    }
useful_through nfa mask exact (suc steps) position (has, next, follows, path) =
    let (item, is_item, met) = (exact position).0 has in
    let rest = useful_through nfa mask exact steps next path in
    record {
      item = item;
      word = rest.item ∷ rest.word;
      end = rest.end;
      items = (is_item, rest.items);
      met = met;
      path = (next, follows, rest.met, rest.path);
      last = rest.last;
    }

-- so the positions from which a path leads through the mask to an end are the useful ones
ends-useful :
    (nfa : Automaton) (mask : ℕ) → ((position : ℕ) → Has mask position ↔ CanBeMet nfa position)
    → (position : ℕ) → EndsThrough nfa.sets mask position ↔ IsUseful nfa position
ends-useful nfa mask exact position = (
  λ (steps, path). useful_through nfa mask exact steps position path,
  λ useful. through_met nfa mask exact useful.word useful.item position useful.end useful.items
      useful.met useful.path useful.last,
)

-- the mask has exactly the useful positions
abbrev AreUseful : Automaton → ℕ → Type 0
AreUseful nfa useful = (position : ℕ) → Has useful position ↔ IsUseful nfa position

ending-useful :
    (nfa : Automaton) (met : List ℕ) (useful : ℕ) → AreMet nfa.sets nfa.cells met
    → ((position : ℕ) → Has useful position ↔ EndsThrough nfa.sets (fold bit_or 0 met) position)
    → AreUseful nfa useful
ending-useful nfa met useful are ending position =
    let exact = union-met nfa met are in
    let same = ends-useful nfa (fold bit_or 0 met) exact position in
    (λ has. same.0 ((ending position).0 has), λ is. (ending position).1 (same.1 is))

-- the positions before them grow
before-grows :
    (nfa : Automaton) (useful growing : ℕ) → AreUseful nfa useful
    → ((position : ℕ) → Has growing position ↔ ComesBefore nfa.sets useful position)
    → (position : ℕ) → Has growing position ↔ Grows nfa position
before-grows nfa useful growing exact before position = (
  λ has. let (next, follows, there) = (before position).0 has in
      (next, follows, (exact next).0 there),
  λ (next, follows, is). (before position).1 (next, follows, (exact next).1 is),
)

-- and words may begin in one of them or not
first-begins :
    (nfa : Automaton) (useful : ℕ) → AreUseful nfa useful
    → AreMeeting nfa.sets.first useful ↔ BeginsWords nfa
first-begins nfa useful exact = (
  λ (begin, first, has). (begin, first, (exact begin).0 has),
  λ (begin, first, is). (begin, first, (exact begin).1 is),
)

-- the tables of an automaton
pub tables-made :
    (nfa : Automaton) (met : List ℕ) (useful growing : ℕ) (begins : Bool) → AreSets nfa.sets
    → AreDecided nfa.sets nfa.cells → AreMet nfa.sets nfa.cells met
    → ((position : ℕ) → Has useful position ↔ EndsThrough nfa.sets (fold bit_or 0 met) position)
    → growing < 2 ^ length nfa.sets.preds
    → ((position : ℕ) → Has growing position ↔ ComesBefore nfa.sets useful position)
    → IsTrue begins ↔ AreMeeting nfa.sets.first useful → AreTables nfa met growing begins
tables-made nfa met useful growing begins sets decided are ending within before meeting =
    let exact = ending-useful nfa met useful are ending in
    record {
      sets = sets;
      decided = decided;
      met_is = are;
      within = within;
      growing_is = before-grows nfa useful growing exact before;
      begins_is = let words = first-begins nfa useful exact in
          (λ test. words.0 (meeting.0 test), λ some. meeting.1 (words.1 some));
    }

-- and those over the same sets and cells
pub tables-shared :
    (mine sets : Sets) (kept read cells : Partition) (met : List ℕ) (useful growing : ℕ)
    (begins : Bool)
    → mine ≡ sets → kept ≡ cells → read ≡ cells → AreSets sets → AreDecided sets cells
    → AreMet sets read met
    → ((position : ℕ) → Has useful position ↔ EndsThrough sets (fold bit_or 0 met) position)
    → growing < 2 ^ length sets.preds
    → ((position : ℕ) → Has growing position ↔ ComesBefore sets useful position)
    → IsTrue begins ↔ AreMeeting sets.first useful
    → AreTables (record { sets = mine; cells = kept }) met growing begins
tables-shared mine sets kept read cells met useful growing begins
    is_mine is_kept is_read are decided are_met ending within before meeting =
    subst (λ (s : Sets). AreTables (record { sets = s; cells = kept }) met growing begins)
    (sym is_mine)
    (subst (λ (k : Partition). AreTables (record { sets = sets; cells = k }) met growing begins)
    (sym is_kept)
    (tables-made (record { sets = sets; cells = cells }) met useful growing begins are decided
    (subst (λ (k : Partition). AreMet sets k met) is_read are_met) ending within before meeting))
