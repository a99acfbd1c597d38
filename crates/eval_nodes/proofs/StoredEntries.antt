-- Left values that wait: they are at most as many as the right operand has places, and
-- each takes little.
use Rattle.std.proofs.Common.{◌≡◌, ◌≤◌, ◌+◌, ◌*◌, ◌∙◌, ℕ, List, [], ◌∷◌, Some, None, drop, take}
use Rattle.std.proofs.Common.{length, map, sym, ap, subst, arith, inl, inr, take-append-drop}
use Rattle.std.specs.List.{Contains}
use Rattle.std.proofs.lemmas.List.{length-map}
use Rattle.value_ops.specs.declared.value.Value.{Value}
use Rattle.value_ops.specs.declared.value.Value.TheVariants as value
use Rattle.expressions.specs.Expressions.{Expression}
use Rattle.item_schema.specs.declared.column.Column.{Column}
use Rattle.rate_expr.specs.Language.{In}
use Rattle.rate_expr.specs.Readings.{HasExtension}
use Rattle.rate_expr.specs.Words.{Word, IsWordOf}
use Rattle.query_model.specs.Bounds.{places_of, width_of}
use Rattle.query_model.specs.Denotation.{Den}
use Rattle.query_model.specs.Queries.{Qre, split}
use Rattle.query_model.specs.Rates.{rate_of}
use Rattle.query_model.specs.Rules.{Standing, bound, IsClear}
use Rattle.query_model.proofs.InRates.{den_in}
use Rattle.query_model.proofs.Widths.{den_width, width_of_value}
use Rattle.memory_bound.specs.KeysMet.{entries_of, key_columns, keys_met}
use Rattle.memory_bound.proofs.Entries.{among_rest, among_whole, entries_few}
use Rattle.memory_bound.proofs.Growth.{AreAmong, among_all, keys_mono}
use Rattle.split_eval.specs.Entries.{entry_at, AreDistinct}
use Rattle.split_eval.specs.declared.entry.Entry.{Entry}
use Rattle.split_eval.proofs.Found.{first_differs, found_after, found_first, none_after}
use Rattle.value_ops.specs.Sizes.{size_of_value}
use Rattle.eval_nodes.specs.Counts.{sizes_of}
use Rattle.eval_nodes.specs.Represents.{AreReached, AreWaiting}
use Rattle.eval_nodes.specs.Starts.{AreApart, AreDifferent, ArePositions, IsPiece}
use Rattle.eval_nodes.proofs.Apart.{apart_right}
use Rattle.eval_nodes.proofs.Few.{few_live}
use Rattle.eval_nodes.proofs.Members.{member_cases, no_member}
use Rattle.eval_nodes.proofs.Pieces.{word_piece}
use Rattle.eval_nodes.proofs.Totals.{in_turn, many_parts, sum_few, value_fits}
use Rattle.eval_nodes.proofs.Zips.{part_there, whole_there}

-- a value counts as wide as it is, and its entries besides
value_size : (v : Value) → size_of_value v ≡ width_of_value v + entries_of v
value_size (value.Scalar scalar) = omega arith
value_size (value.Rec parts) = omega arith
value_size (value.Table entries) = omega arith

-- a value of a query counts as wide as the query, and one for each key that was met
pub value_few : (standing : Standing) (columns : List Column) (q : Qre) (word : Word) (v : Value)
    → IsClear standing columns q → IsWordOf columns word → Den q word v
    → size_of_value v ≤ width_of q + keys_met q word
value_few standing columns q word v clear is den =
    let few = entries_few standing columns q word v clear den in
    let wide = den_width standing columns q word v clear is den in
    let size = value_size v in
    omega (arith, few, wide, size)

-- items of a piece are items of the word
pub after_among : (word : Word) (at : ℕ) → AreAmong (drop at word) word
after_among word at = among_rest word (take at word) (drop at word) (sym (take-append-drop at word))

pub piece_among : (word : Word) (from to : ℕ) (piece : Word) → IsPiece word from piece to
    → AreAmong piece word
piece_among word from to piece is = record {
  each = λ item there. (after_among word from).each item
      ((among_whole (drop from word) piece (drop to word) is.cut).each item there);
}

abbrev inners_of : List (Entry Value) → List ℕ
inners_of entries = map (λ (entry : Entry Value). entry.inner) entries

-- the inner starts differ, and the first entry with an inner start is the only one
none_at : (entries : List (Entry Value)) (inner : ℕ) → entry_at entries inner ≡ None
    → Contains (inners_of entries) inner → ⊥
none_at [] inner none there = no_member inner there
none_at (x ∷ entries) inner none there =
    elim (member_cases x.inner inner (inners_of entries) there) [
      | inl same ↦ first_differs x entries inner none same
      | inr later ↦ none_at entries inner (none_after x entries inner none) later
    ]

inners_differ : (entries : List (Entry Value)) → AreDistinct entries
    → AreDifferent (inners_of entries)
inners_differ [] distinct = tt
inners_differ (x ∷ entries) distinct =
    (none_at entries x.inner distinct.0, inners_differ entries distinct.1)

inner_there : (entries : List (Entry Value)) (entry : Entry Value) → Contains entries entry
    → Contains (inners_of entries) entry.inner
inner_there entries entry there = part_there (λ (x : Entry Value). x.inner) entries entry there

pub only_at : (entries : List (Entry Value)) (entry : Entry Value) → AreDistinct entries
    → Contains entries entry → entry_at entries entry.inner ≡ Some entry
only_at [] entry distinct there = absurd (no_member entry there)
only_at (x ∷ entries) entry distinct there = elim (member_cases x entry entries there) [
  | inl same ↦
      found_first x entries entry.inner (ap (λ (e : Entry Value). e.inner) same) ∙ ap Some same
  | inr later ↦ found_after x entries entry.inner
      (λ same. none_at entries x.inner distinct.0
      (subst (Contains (inners_of entries)) (sym same) (inner_there entries entry later)))
      ∙ only_at entries entry distinct.1 later
]

module _ (columns : List Column) (f g : Qre) (e : Expression) (word : Word) (starts ends : List ℕ)
    (entries : List (Entry Value)) (clear : IsClear bound columns (split f g e))
    (is : IsWordOf columns word) (positions : ArePositions word starts)
    (apart : AreApart columns (split f g e) word starts)
    (reached : AreReached (In (rate_of f)) word starts ends)
    (waiting : AreWaiting (Den f) (HasExtension columns (rate_of g)) word starts entries) where
  -- what is known of an entry
  record IsWaiting (entry : Entry Value) : Type 0 where
    among : Contains starts entry.outer
    piece : Word
    cut : IsPiece word entry.outer piece entry.inner
    gives : Den f piece entry.value
    continues : HasExtension columns (rate_of g) (drop entry.inner word)

  waits : (entry : Entry Value) → Contains entries entry → IsWaiting entry
  waits entry there =
      let (among, (piece, cut, gives), continues) =
      (waiting.each entry.inner entry.outer entry.value).0
      (only_at entries entry waiting.distinct there) in
      record { among = among; piece = piece; cut = cut; gives = gives; continues = continues }

  ends_at : (entry : Entry Value) → IsWaiting entry → Contains ends entry.inner
  ends_at entry it = (reached entry.inner).1 (
    entry.outer,
    it.piece,
    it.among,
    it.cut,
    den_in bound columns f it.piece entry.value clear.0
        (word_piece columns word entry.outer entry.inner it.piece is it.cut) it.gives,
  )

  pub entries_count : length entries ≤ places_of g
  entries_count =
      let few = few_live bound columns g word ends (inners_of entries) clear.1 is
      (λ at there. let (start, piece, among, cut, in_f) = (reached at).0 there in cut.inside)
      (apart_right columns f g e word starts ends clear is apart
      (λ at there. let (start, piece, among, cut, in_f) = (reached at).0 there in
      (start, piece, among, cut, in_f)))
      (inners_differ entries waiting.distinct)
      (λ at there.
      let (entry, among, same) = whole_there (λ (x : Entry Value). x.inner) entries at there in
      let it = waits entry among in
      subst (λ (i : ℕ). Contains ends i × HasExtension columns (rate_of g) (drop i word)) same
      (ends_at entry it, it.continues)) in
      let count = length-map entries (λ (x : Entry Value). x.inner) in
      omega (arith, few, count)

  -- each value counts little
  entry_few : (entry : Entry Value) → Contains entries entry
      → 2 + size_of_value entry.value ≤ (2 + width_of f) * (1 + keys_met f word)
  entry_few entry there =
      let it = waits entry there in
      let few = value_few bound columns f it.piece entry.value clear.0
      (word_piece columns word entry.outer entry.inner it.piece is it.cut) it.gives in
      let all = keys_mono f f it.piece word (among_all (key_columns f))
      (piece_among word entry.outer entry.inner it.piece it.cut) in
      value_fits 2 (width_of f) (keys_met f word) (size_of_value entry.value) (omega arith)
      (omega (arith, few, all))

  pub entries_size : sizes_of entries ≤ (2 + width_of f) * places_of g * (1 + keys_met f word)
  entries_size =
      let few = sum_few (λ (entry : Entry Value). 2 + size_of_value entry.value)
      ((2 + width_of f) * (1 + keys_met f word)) entries entry_few in
      in_turn (sizes_of entries) (places_of g) (2 + width_of f) (keys_met f word)
      (many_parts (sizes_of entries) (length entries) (places_of g) (2 + width_of f)
      (keys_met f word) few entries_count)
