-- Exactly the starts that can continue are live.
use Rattle.std.proofs.Common.{◌≡◌, ◌↔◌, ◌==◌, ◌||◌, ℕ, ◌∙◌, Bool, true, false, List, [], ◌∷◌, ◌++◌}
use Rattle.std.proofs.Common.{Option, Some, None, IsTrue, cond, drop, refl, sym, ap, subst}
use Rattle.std.proofs.Common.{append_assoc, ◌⊎◌, inl, inr}
use Rattle.std.specs.List.{list_any, Contains}
use Rattle.std.proofs.lemmas.Bool.{eqb-true, eq-eqb}
use Rattle.std.proofs.lemmas.Option.{none-some, same_Some}
use Rattle.value_ops.specs.declared.value.Value.{Value}
use Rattle.expressions.specs.Expressions.{Expression}
use Rattle.predicates.specs.Predicates.{Predicate}
use Rattle.item_schema.specs.declared.column.Column.{Column}
use Rattle.rate_expr.specs.Language.{In}
use Rattle.rate_expr.specs.Rates as rate
use Rattle.rate_expr.specs.Words.{Word, IsWordOf}
use Rattle.query_model.specs.Queries.{Qre, atom, eps, choice, split, iter, combine, apply, compose}
use Rattle.query_model.specs.Queries.{collect}
use Rattle.query_model.specs.Rates.{rate_of}
use Rattle.query_model.specs.Rules.{Standing, bound, IsClear}
use Rattle.query_model.proofs.Defined.{in_den}
use Rattle.query_model.proofs.InRates.{den_in}
use Rattle.split_eval.specs.Entries.{entry_at, AreDistinct}
use Rattle.split_eval.specs.declared.entry.Entry.{Entry}
use Rattle.split_eval.proofs.Found.{found_after, found_first}
use Rattle.map_collect.specs.Tracks.{begins_at, starts_of}
use Rattle.map_collect.specs.declared.track.Track.{Track}
use Rattle.eval_nodes.specs.Holdings.{Holding, atom_held, eps_held, choice_held, combine_held}
use Rattle.eval_nodes.specs.Holdings.{apply_held, split_held, iter_held, compose_held, collect_held}
use Rattle.eval_nodes.specs.Holdings.{Seen}
use Rattle.eval_nodes.specs.Live.{is_outer, is_waiting, live_of}
use Rattle.eval_nodes.specs.Represents.{Represents}
use Rattle.eval_nodes.specs.Starts.{ArePositions, IsLive}
use Rattle.eval_nodes.proofs.Chains.{star_push}
use Rattle.eval_nodes.proofs.Few.{live_atom, no_live}
use Rattle.eval_nodes.proofs.Continuing.{live_iter, live_split}
use Rattle.eval_nodes.proofs.Members.{first_member, later_member, member_cases, no_member}
use Rattle.eval_nodes.proofs.Pieces.{after_end, piece_continues, word_join, word_piece}
use Rattle.eval_nodes.proofs.SomeWords.{some_word}
use Rattle.eval_nodes.proofs.Entries.{is_entry}

either_true : (a b : Bool) → IsTrue (a || b) → IsTrue a ⊎ IsTrue b
either_true true b is = inl refl
either_true false b is = inr is

left_true : (a b : Bool) → IsTrue a → IsTrue (a || b)
left_true true b is = refl
left_true false b is = let wrong : false ≡ true = is in cc

right_true : (a b : Bool) → IsTrue b → IsTrue (a || b)
right_true true b is = refl
right_true false b is = is

-- an entry with the outer start is found at its inner start
pub outer_found : (entries : List (Entry Value)) (start : ℕ) → AreDistinct entries
    → IsTrue (is_outer entries start)
    → (entry : Entry Value) × (entry_at entries entry.inner ≡ Some entry) × (entry.outer ≡ start)
outer_found [] start distinct is = let wrong : false ≡ true = is in cc
outer_found (x ∷ entries) start distinct is =
    elim (either_true (x.outer == start) (is_outer entries start) is) [
      | inl first ↦ (x, found_first x entries x.inner refl, eqb-true x.outer start first)
      | inr later ↦
          let (entry, found, outer) = outer_found entries start distinct.1 later in (
            entry,
            found_after x entries entry.inner
                (λ same. none-some entry (sym distinct.0 ∙ ap (entry_at entries) same ∙ found))
                ∙ found,
            outer,
          )
    ]

pub outer_is : (entries : List (Entry Value)) (inner : ℕ) (entry : Entry Value)
    → entry_at entries inner ≡ Some entry → IsTrue (is_outer entries entry.outer)
outer_is [] inner entry found = absurd (none-some entry found)
outer_is (x ∷ entries) inner entry found =
    first (x.inner == inner) (outer_is entries inner entry) found
  where
    first : (same : Bool)
        → (entry_at entries inner ≡ Some entry → IsTrue (is_outer entries entry.outer))
        → cond same (Some x) (entry_at entries inner) ≡ Some entry
        → IsTrue (is_outer (x ∷ entries) entry.outer)
    first true later there =
        left_true (x.outer == entry.outer) (is_outer entries entry.outer)
        (eq-eqb x.outer entry.outer (ap (λ (e : Entry Value). e.outer) (same_Some x entry there)))
    first false later there =
        right_true (x.outer == entry.outer) (is_outer entries entry.outer) (later there)

-- a start of a collect that is found is there, and the other way round
pub start_there : {R : Type 0} (tracks : List (Track R)) (start : ℕ)
    → IsTrue (list_any (begins_at start) tracks) → Contains (starts_of tracks) start
start_there [] start is = let wrong : false ≡ true = is in cc
start_there (x ∷ tracks) start is =
    elim (either_true (x.start == start) (list_any (begins_at start) tracks) is) [
      | inl first ↦ subst (Contains (x.start ∷ starts_of tracks)) (eqb-true x.start start first)
          (first_member x.start (starts_of tracks))
      | inr later ↦ later_member x.start start (starts_of tracks) (start_there tracks start later)
    ]

pub start_read : {R : Type 0} (tracks : List (Track R)) (start : ℕ)
    → Contains (starts_of tracks) start → IsTrue (list_any (begins_at start) tracks)
start_read [] start there = absurd (no_member start there)
start_read (x ∷ tracks) start there = elim (member_cases x.start start (starts_of tracks) there) [
  | inl same ↦ left_true (x.start == start) (list_any (begins_at start) tracks)
      (eq-eqb x.start start same)
  | inr later ↦ right_true (x.start == start) (list_any (begins_at start) tracks)
      (start_read tracks start later)
]

module _ {R : Type 0} (seen : R → Seen R) where
  living_atom : (standing : Standing) (columns : List Column) (pred : Predicate) (e : Expression)
      (found : Option ℕ) (word : Word) (starts : List ℕ) (start : ℕ)
      → IsClear standing columns (atom pred e) → ArePositions word starts
      → Represents seen columns (atom pred e) (atom_held found) word starts
      → IsTrue (is_waiting found start) ↔ IsLive columns (atom pred e) word starts start
  living_atom standing columns pred e None word starts start clear positions rep = (
    λ is. let wrong : false ≡ true = is in cc,
    λ live. absurd (none-some start ((rep start).1
        (live.0, live_atom columns pred e word starts start positions live))),
  )
  living_atom standing columns pred e (Some begun) word starts start clear positions rep = (
    λ is.
        let same : begun ≡ start = eqb-true begun start is in
        let there = (rep start).0 (ap Some same) in
        let item = clear.0 in (
          there.0,
          (
            item.item,
            [],
            (item.is_item, tt),
            (
              item.item,
              ap (λ u. u ++ item.item ∷ []) (after_end word start there.1),
              item.meets,
            ),
          ),
        ),
    λ live. eq-eqb begun start (same_Some begun start ((rep start).1
        (live.0, live_atom columns pred e word starts start positions live))),
  )

  pub living : (standing : Standing) (columns : List Column) (q : Qre)
      (holding : Holding R) (word : Word) (starts : List ℕ) (start : ℕ) → IsClear standing columns q
      → IsWordOf columns word → ArePositions word starts
      → Represents seen columns q holding word starts
      → IsTrue (live_of q holding start) ↔ IsLive columns q word starts start
  living standing columns (atom pred e) (atom_held found) word starts start clear is positions rep =
      living_atom standing columns pred e found word starts start clear positions rep
  living standing columns (eps number) eps_held word starts start clear is positions rep = (
    λ live. let wrong : false ≡ true = live in cc,
    λ live. absurd (no_live columns number word starts start live),
  )
  living standing columns (choice f g) (choice_held a b) word starts start clear is positions rep =
      let first = living bound columns f a word starts start clear.0 is positions rep.0 in
      let second = living bound columns g b word starts start clear.1 is positions rep.1 in (
        λ live. elim (either_true (live_of f a start) (live_of g b start) live) [
          | inl left ↦ let (there, (item, more, more_is, in_f)) =
              first.0 left in (there, (item, more, more_is, inl in_f))
          | inr right ↦ let (there, (item, more, more_is, in_g)) =
              second.0 right in (there, (item, more, more_is, inr in_g))
        ],
        λ (there, (item, more, more_is, in_either)). elim in_either [
          | inl in_f ↦ left_true (live_of f a start) (live_of g b start)
              (first.1 (there, (item, more, more_is, in_f)))
          | inr in_g ↦ right_true (live_of f a start) (live_of g b start)
              (second.1 (there, (item, more, more_is, in_g)))
        ],
      )
  living standing columns (split f g e) (split_held a b left) word starts start clear
      is positions rep =
      let first = living bound columns f a word starts start clear.0 is positions rep.0 in (
        λ live. elim (either_true (live_of f a start) (is_outer left.entries start) live) [
          | inl begun ↦
              let (there, (item, more, more_is, in_f)) = first.0 begun in
              let last = some_word bound columns g clear.1 in (
                there,
                (
                  item,
                  more ++ last.0,
                  word_join columns (item ∷ more) last.0 more_is last.1,
                  (
                    drop start word ++ item ∷ more,
                    last.0,
                    sym (append_assoc (drop start word) (item ∷ more) last.0),
                    in_f,
                    last.2,
                  ),
                ),
              )
          | inr waits ↦
              let (entry, found, outer) = outer_found left.entries start rep.2.distinct waits in
              let (from, (piece, cut, den), (item, more, more_is, in_g)) =
              (rep.2.each entry.inner entry.outer entry.value).0
              (is_entry left.entries entry.inner entry found) in
              let in_f = den_in bound columns f piece entry.value clear.0
              (word_piece columns word entry.outer entry.inner piece is cut) den in
              subst (IsLive columns (split f g e) word starts) outer (
                from,
                (
                  item,
                  more,
                  more_is,
                  (
                    piece,
                    drop entry.inner word ++ item ∷ more,
                    piece_continues word entry.outer entry.inner piece (item ∷ more) cut,
                    in_f,
                    in_g,
                  ),
                ),
              )
        ],
        λ live. elim (live_split columns f g e word starts start is positions live) [
          | inl begun ↦ left_true (live_of f a start) (is_outer left.entries start) (first.1 begun)
          | inr (at, (piece, from, cut, in_f, more)) ↦
              let den = in_den columns f piece clear.0
              (word_piece columns word start at piece is cut) in_f in
              right_true (live_of f a start) (is_outer left.entries start)
              (outer_is left.entries at (record { inner = at; outer = start; value = den.0 })
              ((rep.2.each at start den.0).1 (from, (piece, cut, den.1), more)))
        ],
      )
  living standing columns (iter f number e) (iter_held a so_far) word starts start clear is
      positions rep = (
        λ live.
            let (entry, found, outer) = outer_found so_far.entries start rep.1.distinct live in
            let (from, (piece, cut, den), (item, more, more_is, in_f)) =
            (rep.1.each entry.inner entry.outer entry.value).0
            (is_entry so_far.entries entry.inner entry found) in
            let in_pieces = den_in bound columns (iter f number e) piece entry.value clear
            (word_piece columns word entry.outer entry.inner piece is cut) den in
            let whole = piece_continues word entry.outer entry.inner piece (item ∷ more) cut in
            subst (IsLive columns (iter f number e) word starts) outer (
              from,
              (
                item,
                more,
                more_is,
                subst (In (rate.star (rate_of f))) (sym whole)
                    (star_push (rate_of f) piece (drop entry.inner word ++ item ∷ more)
                    in_pieces in_f),
              ),
            ),
        λ live.
            let (at, (piece, from, cut, in_pieces, more)) =
            live_iter columns f number e word starts start positions live in
            let den = in_den columns (iter f number e) piece clear
            (word_piece columns word start at piece is cut) in_pieces in
            outer_is so_far.entries at (record { inner = at; outer = start; value = den.0 })
            ((rep.1.each at start den.0).1 (from, (piece, cut, den.1), more)),
      )
  living standing columns (combine f g e) (combine_held a b) word starts start clear
      is positions rep =
      living bound columns f a word starts start clear.0 is positions rep.0
  living standing columns (apply f e) (apply_held a) word starts start clear is positions rep =
      living bound columns f a word starts start clear.0 is positions rep
  living standing columns (compose f g) (compose_held a held) word starts start clear
      is positions rep =
      living standing columns f a word starts start clear.0 is positions rep.0
  living standing columns (collect chosen sync rate f) (collect_held all) word starts start clear is
      positions rep = (
        λ live. (rep.2.there start).0 (start_there all.tracks start live),
        λ live. start_read all.tracks start ((rep.2.there start).1 live),
      )
  living standing columns q holding word starts start clear is positions rep = absurd rep
