-- A set of nodes when those of a row are marked.
use Rattle.std.proofs.Common.{◌≡◌, ℕ, zero, suc, ◌+◌, ◌*◌, ◌-◌, ◌^◌, ◌<◌, ◌≤◌, ◌≢◌, ◌⊎◌, ◌∙◌, ◌/◌}
use Rattle.std.proofs.Common.{sym, List, length, get_or, replicate, refl, ap, inl, inr, ⊎_elim}
use Rattle.std.proofs.Common.{arith}
use Rattle.std.specs.Int.{bit_at, bit_not, trailing_zeros, w128}
use Rattle.std.specs.Prelude.{slice_index, bit_and, bit_or, sum}
use Rattle.std.proofs.Math.ListN.{set, length-replicate, get_or-eq_default}
use Rattle.std.proofs.lemmas.List.{get_or-set_same, get_or-set_other, get_or-replicate}
use Rattle.std.proofs.lemmas.List.Sums.{sum_by-set, get_or-le-sum_by}
use Rattle.std.proofs.lemmas.Grind.{get_or_default_zero}
use Rattle.std.proofs.lemmas.Bool.{cases_eq, cases_lt}
use Rattle.std.proofs.lemmas.Nat.{or_disjoint, or_lt, and_le_l}
use Rattle.std.proofs.lemmas.Nat.Bits.{bit_at-zero}
use Rattle.rate_expr.specs.Sets.{Has}
use Rattle.rate_expr.proofs.MaskMembers.{has_zero, has_or, has_first, has_second}
use Rattle.rate_expr.proofs.MaskSets.{below_or_not, and-some_first, has-lowest, same-has}
use Rattle.ambiguity_check.specs.declared.graph.Move.{Move}
use Rattle.ambiguity_check.specs.declared.graph.Node.{Node}
use Rattle.ambiguity_check.specs.declared.graph.Phase.{Phase}
use Rattle.ambiguity_check.specs.declared.graph.Phase.TheVariants.{Together, Parted, Rejoined}
use Rattle.ambiguity_check.specs.Walks.{phases, rank, IsOf}
use Rattle.ambiguity_check.specs.Marked.{row_of, IsMarked, IsInRow, AreMarkedToo, room}
use Rattle.ambiguity_check.proofs.Bits.{new_places, in_new_places, new_or_old}

-- a row is of one phase and one place
pub same_row : (p p' : Phase) (left left' : ℕ) → 3 * left + rank p ≡ 3 * left' + rank p'
    → (p ≡ p') × (left ≡ left')
same_row Together Together left left' e = (refl, omega arith)
same_row Parted Parted left left' e = (refl, omega arith)
same_row Rejoined Rejoined left left' e = (refl, omega arith)
same_row Together Parted left left' e = absurd (omega arith)
same_row Together Rejoined left left' e = absurd (omega arith)
same_row Parted Together left left' e = absurd (omega arith)
same_row Parted Rejoined left left' e = absurd (omega arith)
same_row Rejoined Together left left' e = absurd (omega arith)
same_row Rejoined Parted left left' e = absurd (omega arith)

-- a node by its parts
abbrev pub node_at : Phase → ℕ → ℕ → Node
node_at phase left right = record { phase = phase; left = left; right = right }

-- a node is known by its parts
pub same_parts : (node : Node) (phase : Phase) (left right : ℕ) → node.phase ≡ phase
    → node.left ≡ left → node.right ≡ right → node ≡ node_at phase left right
same_parts node phase left right same_phase lefts rights =
    ap (λ p. node_at p node.left node.right) same_phase ∙ ap (λ l. node_at phase l node.right) lefts
    ∙ ap (λ r. node_at phase left r) rights

-- masks with no place in common
apart : (a b : ℕ) → a < 2 ^ 128 → ((place : ℕ) → Has a place → Has b place → ⊥) → bit_and a b ≡ 0
apart a b fits none = elim (below_or_not 0 (bit_and a b)) [
  | inl some ↦ let both = and-some_first a b some fits in absurd (none both.0 both.1 both.2)
  | inr zero' ↦ omega arith
]

-- two masks together are at most both
or_at_most : (a b : ℕ) → a < 2 ^ 128 → b < 2 ^ 128 → bit_or a b ≤ a + b
or_at_most a b fits fits' =
    let more = new_places b b a in
    let less : more ≤ b = omega (arith, and_le_l (bit_and b b) (bit_not w128 a), and_le_l b b) in
    let none = apart a more fits
    (λ place has also. (in_new_places b b a place fits' fits also).2 has) in
    let whole = or_disjoint a more none in
    let same : bit_or a b ≡ bit_or a more = same-has (bit_or a b) (bit_or a more) (λ place. (
      λ has. ⊎_elim (λ one. has_first a more place one)
          (λ two. ⊎_elim (λ new. has_second a more place new) (λ one. has_first a more place one)
          (new_or_old b b a place fits' fits two two)) (has_or a b place has),
      λ has. ⊎_elim (λ one. has_first a b place one)
          (λ new. has_second a b place (in_new_places b b a place fits' fits new).0)
          (has_or a more place has),
    )) in
    omega arith

-- where the row of a phase and a place is
abbrev pub row_at : Phase → ℕ → ℕ
row_at phase left = phases * left + rank phase

module _ (rows : List ℕ) (phase : Phase) (left mask : ℕ)
    (inside : row_at phase left < length rows) where
  -- the rows with the nodes
  abbrev marked : List ℕ
  marked = set rows (row_at phase left) (bit_or (slice_index rows (row_at phase left)) mask)

  -- their row
  row_same : slice_index marked (row_at phase left)
      ≡ bit_or (slice_index rows (row_at phase left)) mask
  row_same = get_or-set_same rows (row_at phase left) _ 0 inside

  -- a node of another row
  other_row : (other : Node) → (row_of other ≢ row_at phase left)
      → slice_index marked (row_of other) ≡ slice_index rows (row_of other)
  other_row other differ = get_or-set_other rows (row_at phase left) (row_of other) _ 0 differ

  marks : (node : Node) → IsInRow phase left mask node → IsMarked marked node
  marks node in' =
      let same : row_of node ≡ row_at phase left = rw (in'.0, in'.1) refl in
      rw (same, row_same) (has_second (slice_index rows (row_at phase left)) mask node.right in'.2)

  keeps : (other : Node) → IsMarked rows other → IsMarked marked other
  keeps other was =
      elim (cases_eq (row_of other) (row_at phase left)) [
        | inl same ↦ rw (same, row_same)
            (has_first (slice_index rows (row_at phase left)) mask other.right (rw same at was))
        | inr differ ↦ rw (other_row other differ) was
      ]

  adds_only : (other : Node) → IsMarked marked other
      → IsMarked rows other ⊎ IsInRow phase left mask other
  adds_only other is =
      elim (cases_eq (row_of other) (row_at phase left)) [
        | inl same ↦
            let parts = same_row other.phase phase other.left left same in
            ⊎_elim (λ was. inl (rw same was)) (λ new. inr (parts.0, parts.1, new))
            (has_or (slice_index rows (row_at phase left)) mask other.right
            (rw (same, row_same) at is))
        | inr differ ↦ inl (rw (← other_row other differ) is)
      ]

  -- the masks of the rows together
  sums : slice_index rows (row_at phase left) < 2 ^ 128 → mask < 2 ^ 128
      → sum marked ≤ sum rows + mask
  sums fits mask_fits =
      let row = slice_index rows (row_at phase left) in
      let whole = sum_by-set (λ (r : ℕ). r) rows (row_at phase left) (bit_or row mask) 0 inside in
      let parts = or_at_most row mask fits mask_fits in
      omega arith

  takes_room : slice_index rows (row_at phase left) < 2 ^ 128 → mask < 2 ^ 128
      → ((node : Node) → IsInRow phase left mask node → IsMarked rows node → ⊥)
      → room marked + mask ≤ room rows
  takes_room fits mask_fits new =
      let row = slice_index rows (row_at phase left) in
      let none = apart row mask fits
      (λ place has also. new (node_at phase left place) (refl, refl, also) has) in
      let whole = sum_by-set (λ r. 2 ^ 128 - r) rows (row_at phase left)
      (bit_or row mask) 0 inside in
      let parts = or_disjoint row mask none in
      let within = or_lt 128 row mask fits mask_fits in
      omega arith

  -- the rows have the nodes too
  pub marks_more : slice_index rows (row_at phase left) < 2 ^ 128 → mask < 2 ^ 128
      → AreMarkedToo rows phase left mask marked
  marks_more fits mask_fits = record {
    marked = marks;
    kept = keeps;
    only = adds_only;
    larger = sums fits mask_fits;
    room = takes_room fits mask_fits;
  }

-- rows of empty masks have empty masks everywhere
pub empty_row : (count at : ℕ) → slice_index (replicate count 0) at ≡ 0
empty_row count at =
    elim (cases_lt at count) [
      | inl inside ↦ get_or-replicate count at 0 0 inside
      | inr past ↦ get_or-eq_default (replicate count 0) 0 (rw length-replicate past)
    ]

-- no node is in rows of empty masks
pub none_marked : (count : ℕ) (node : Node) → IsMarked (replicate count 0) node → ⊥
none_marked count node is =
    let empty : bit_at (slice_index (replicate count 0) (row_of node)) node.right ≡ 0 =
    rw (empty_row count (row_of node)) (bit_at-zero node.right) in
    absurd (omega arith)

-- the same for the row's mask as it was read
pub marks_read : (items rows : List ℕ) (phase : Phase) (left rights at mask : ℕ) → items ≡ rows
    → at ≡ row_at phase left → at < length items → mask ≡ get_or items at mask → mask < 2 ^ 128
    → rights < 2 ^ 128 → AreMarkedToo rows phase left rights (set items at (bit_or mask rights))
marks_read items rows phase left rights at mask is at_row inside read fits rights_fit =
    let mask_is : mask ≡ slice_index items at = read ∙ get_or_default_zero items at mask inside in
    let within_row : row_at phase left < length items = rw (← at_row) inside in
    let more = marks_more items phase left rights within_row
    (rw (← at_row, ← mask_is) fits) rights_fit in
    rw (← is, mask_is, at_row) more

-- each row is of a phase and a place
pub row_parts : (row : ℕ) → (phase : Phase) × (left : ℕ) × (row ≡ row_at phase left)
row_parts zero = (Together, 0, refl)
row_parts (suc row) = next (row_parts row)
  where
    next : (phase : Phase) × (left : ℕ) × (row ≡ row_at phase left)
        → (phase : Phase) × (left : ℕ) × (suc row ≡ row_at phase left)
    next (Together, left, is) = (Parted, left, omega arith)
    next (Parted, left, is) = (Rejoined, left, omega arith)
    next (Rejoined, left, is) = (Together, left + 1, omega arith)

-- a node of a row that is not empty is marked
pub some_marked : (rows : List ℕ) (row mask : ℕ) → slice_index rows row ≡ mask → 0 < mask
    → mask < 2 ^ 128 → (node : Node) × IsMarked rows node
some_marked rows row mask is some fits =
    let parts = row_parts row in
    let place = trailing_zeros w128 mask in (
      node_at parts.0 parts.1 place,
      rw (← parts.2, is) (has-lowest mask some fits),
    )

-- the same for the row's mask as it was read
pub read_marked : (items rows : List ℕ) (row mask : ℕ) → items ≡ rows → row < length items
    → mask ≡ get_or items row mask → (mask ≡ 0 → ⊥) → mask < 2 ^ 128
    → (node : Node) × IsMarked rows node
read_marked items rows row mask is inside read some fits =
    let more : 0 < mask = elim (below_or_not 0 mask) [
      | inl more ↦ more
      | inr none ↦ absurd (some (omega arith))
    ] in
    some_marked rows row mask
    (rw (← is) (sym (read ∙ get_or_default_zero items row mask inside))) more fits

-- no node is marked where all rows are empty
pub no_rows : (masks : List ℕ) (end : ℕ) → length masks ≤ end
    → ((row : ℕ) → row < end → slice_index masks row ≡ 0) → (node : Node) → IsMarked masks node → ⊥
no_rows masks end past empty node is = elim (cases_lt (row_of node) end) [
  | inl below ↦ has_zero node.right (rw (empty (row_of node) below) at is)
  | inr above ↦
      let far : length masks ≤ row_of node = omega arith in
      has_zero node.right (rw (get_or-eq_default masks 0 far) at is)
]

-- a node that is marked has a row
pub marked_inside : (masks : List ℕ) (node : Node) → IsMarked masks node
    → row_of node < length masks
marked_inside masks node is = elim (cases_lt (row_of node) (length masks)) [
  | inl below ↦ below
  | inr above ↦ absurd (has_zero node.right (rw (get_or-eq_default masks 0 above) at is))
]

-- its place on the left is below a third of the number of rows
pub marked_left : (items rows : List ℕ) (node : Node) (count : ℕ) → items ≡ rows
    → length items ≡ count → count ≡ 384 → IsMarked rows node → node.left < count / 3
marked_left items rows node count is long full marked =
    let inside = marked_inside items node (rw is marked) in
    omega arith

-- where a node is marked, the masks are not all empty
pub marked_sum : (rows : List ℕ) (node : Node) → IsMarked rows node → 0 < sum rows
marked_sum rows node is =
    let inside = marked_inside rows node is in
    let most = get_or-le-sum_by (λ (r : ℕ). r) rows (row_of node) 0 inside in
    elim (below_or_not 0 (slice_index rows (row_of node))) [
      | inl some ↦ omega arith
      | inr none ↦
          let zero' : slice_index rows (row_of node) ≡ 0 = omega arith in
          absurd (has_zero node.right (rw zero' at is))
    ]

-- a place that a row shares with a mask is a node in the set
pub row_has_some : (rows : List ℕ) (nodes : Move) (left row : ℕ)
    → row ≡ slice_index rows (phases * left + rank nodes.phase)
    → Has nodes.left left → (place : ℕ) × Has row place × Has nodes.right place
    → (node : Node) × IsMarked rows node × IsOf nodes node
row_has_some rows nodes left row row_is has shared =
    (node_at nodes.phase left shared.0, rw (← row_is) shared.1, (refl, has, shared.2))
