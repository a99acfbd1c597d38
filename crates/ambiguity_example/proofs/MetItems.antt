-- Items that meet both places of nodes.
use Rattle.std.proofs.Common.{◌≡◌, ℕ, zero, suc, ◌+◌, ◌<◌, ◌≤◌, inl, inr, List, [], ◌∷◌, ◌++◌}
use Rattle.std.proofs.Common.{length, take, get_or, refl, sym, ap, ◌∙◌, subst, arith}
use Rattle.std.proofs.lemmas.Bool.{cases_eq}
use Rattle.std.proofs.lemmas.List.{take_more}
use Rattle.std.proofs.Math.Seq.{take-length}
use Rattle.std.specs.List.{AllByRecursion}
use Rattle.value_ops.specs.declared.field.Field.{Field}
use Rattle.item_schema.specs.declared.column.Column.{Column}
use Rattle.predicate_cells.proofs.CellsBelow.{cell_below}
use Rattle.predicate_cells.specs.Cells.{IsIn, cell_of, cell_count}
use Rattle.rate_expr.specs.Sets.{Sets, Has}
use Rattle.rate_expr.specs.Words.{Word, IsWordOf}
use Rattle.symbolic_nfa.specs.Automata.{Automaton, IsMet}
use Rattle.ambiguity_check.specs.Meetings.{MeetOne}
use Rattle.ambiguity_check.specs.declared.graph.Node.{Node}
use Rattle.ambiguity_check.specs.declared.graph.Phase.{Phase}
use Rattle.ambiguity_example.specs.Met.{MeetsBoth, AllMeet}
use Rattle.ambiguity_example.specs.WalkLists.{GoesAlong, IsWalkOf}

module _ (first second : Automaton) (same : first.cells ≡ second.cells) (left right : ℕ) where
  -- the item meets a place of each
  abbrev pub Meet : List Field → Type 0
  Meet item = MeetsBoth first.cells.layout.columns first.sets second.sets left right item

  -- no item of a lower cell does
  abbrev pub NoneBelow : ℕ → Type 0
  NoneBelow cell = (item : List Field) → Meet item → cell ≤ cell_of first.cells item

  module _ (cell mask mask' : ℕ) (met : IsMet first.sets first.cells cell mask)
      (met' : IsMet second.sets second.cells cell mask') where
    -- the cells of the one are those of the other
    in_second : (item : List Field) → IsIn first.cells cell item → IsIn second.cells cell item
    in_second item in' = subst (λ cells. IsIn cells cell item) same in'

    -- an item of a cell that meets both places
    pub cell_meets : (item : List Field) → IsIn first.cells cell item → Has mask left
        → Has mask' right → Meet item
    cell_meets item in' has has' =
        (in'.0, met.sound left item in' has, met'.sound right item (in_second item in') has')

    -- a cell that does not is passed over
    pub cell_passed : NoneBelow cell → (Has mask left → Has mask' right → ⊥) → NoneBelow (cell + 1)
    cell_passed none not_here item meets = elim (cases_eq (cell_of first.cells item) cell) [
      | inl here ↦
          let in' : IsIn first.cells cell item = (meets.0, here) in
          absurd (not_here (met.whole left item in' meets.1)
          (met'.whole right item (in_second item in') meets.2))
      | inr other ↦ let least = none item meets in omega arith
    ]

  -- some cell has an item that does
  pub some_cell : MeetOne first.cells.layout.columns first.sets second.sets left right → (cell : ℕ)
      → cell_count first.cells ≤ cell → NoneBelow cell → ⊥
  some_cell one cell all none =
      let least = none one.0 (one.1, one.2, one.3) in omega (arith, cell_below first.cells one.0)

-- one more node and its item
pub all_meet_more : (columns : List Column) (left right : Phase → Sets)
    (nodes : List Node) (word : Word) (node : Node) (item : List Field)
    → AllMeet columns left right nodes word
    → MeetsBoth columns (left node.phase) (right node.phase) node.left node.right item
    → AllMeet columns left right (nodes ++ node ∷ []) (word ++ item ∷ [])
all_meet_more columns left right [] [] node item meet one = (one, tt)
all_meet_more columns left right [] (x ∷ word) node item meet one = absurd meet
all_meet_more columns left right (n ∷ nodes) [] node item meet one = absurd meet
all_meet_more columns left right (n ∷ nodes) (x ∷ word) node item meet one =
    (meet.0, all_meet_more columns left right nodes word node item meet.1 one)

-- as many items as nodes
pub all_meet_long : (columns : List Column) (left right : Phase → Sets)
    (nodes : List Node) (word : Word) → AllMeet columns left right nodes word
    → length word ≡ length nodes
all_meet_long columns left right [] [] meet = refl
all_meet_long columns left right [] (x ∷ word) meet = absurd meet
all_meet_long columns left right (n ∷ nodes) [] meet = absurd meet
all_meet_long columns left right (n ∷ nodes) (x ∷ word) meet =
    let long = all_meet_long columns left right nodes word meet.1 in omega arith

-- they are items of the columns
pub all_meet_word : (columns : List Column) (left right : Phase → Sets)
    (nodes : List Node) (word : Word) → AllMeet columns left right nodes word
    → IsWordOf columns word
all_meet_word columns left right [] [] meet = tt
all_meet_word columns left right [] (x ∷ word) meet = absurd meet
all_meet_word columns left right (n ∷ nodes) [] meet = absurd meet
all_meet_word columns left right (n ∷ nodes) (x ∷ word) meet =
    (meet.0.0, all_meet_word columns left right nodes word meet.1)

-- each node of a walk meets
along_meets : (continues : Node → Node → Type 0) (meet ends P : Node → Type 0)
    → ((node : Node) → meet node → P node) → (node : Node) (nodes : List Node)
    → GoesAlong continues meet ends node nodes → AllByRecursion P nodes
along_meets continues meet ends P is node [] along = tt
along_meets continues meet ends P is node (next ∷ nodes) along =
    (is next along.1, along_meets continues meet ends P is next nodes along.2)

pub walk_meet : (begins : Node → Type 0) (continues : Node → Node → Type 0)
    (meet ends P : Node → Type 0) → ((node : Node) → meet node → P node) → (nodes : List Node)
    → IsWalkOf begins continues meet ends nodes → AllByRecursion P nodes
walk_meet begins continues meet ends P is [] walk = absurd walk
walk_meet begins continues meet ends P is (node ∷ nodes) walk =
    (is node walk.1, along_meets continues meet ends P is node nodes walk.2)

-- what holds of all holds of each
pub all_at : {A : Type 0} (P : A → Type 0) (xs : List A) (at : ℕ) (other : A) → AllByRecursion P xs
    → at < length xs → P (get_or xs at other)
all_at P [] at other all below = absurd (omega arith)
all_at P (x ∷ xs) zero other all below = all.0
all_at P (x ∷ xs) (suc at) other all below = all_at P xs at other all.1 (omega arith)

module _ (columns : List Column) (left right : Phase → Sets) (nodes : List Node) (at : ℕ) where
  -- the item of one more node
  pub items_more : (other : Node) (word word' : Word) (item : List Field) → at < length nodes
      → AllMeet columns left right (take at nodes) word
      → MeetsBoth columns (left (get_or nodes at other).phase) (right (get_or nodes at other).phase)
      (get_or nodes at other).left (get_or nodes at other).right item
      → word' ≡ word ++ item ∷ [] → AllMeet columns left right (take (at + 1) nodes) word'
  items_more other word word' item below meet one more =
      subst (λ (w : Word). AllMeet columns left right (take (at + 1) nodes) w) (sym more)
      (subst (λ (ns : List Node). AllMeet columns left right ns (word ++ item ∷ []))
      (sym (take_more nodes at other below))
      (all_meet_more columns left right (take at nodes) word (get_or nodes at other) item meet one))

  -- the items of all nodes
  pub items_all : (word : Word) → at ≤ length nodes → length nodes ≤ at
      → AllMeet columns left right (take at nodes) word → AllMeet columns left right nodes word
  items_all word le ge meet =
      let end : at ≡ length nodes = omega arith in
      subst (λ (ns : List Node). AllMeet columns left right ns word)
      (ap (λ (n : ℕ). take n nodes) end ∙ take-length nodes) meet
