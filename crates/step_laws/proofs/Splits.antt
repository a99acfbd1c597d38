-- A split: what both operands and the left values stand for once left values of the end
-- are handed over.
use Rattle.std.proofs.Common.{◌≡◌, ◌<◌, ℕ, ◌∙◌, Bool, List, [], ◌∷◌, ◌++◌, Some, drop, length, refl}
use Rattle.std.proofs.Common.{sym, ap, subst, arith, append-nil, append_assoc, inl, inr}
use Rattle.std.specs.List.{Contains}
use Rattle.std.proofs.lemmas.Option.{none-some}
use Rattle.std.proofs.lemmas.List.Elements.{Contains-append_left, Contains-push}
use Rattle.value_ops.specs.declared.field.Field.{Field}
use Rattle.value_ops.specs.declared.value.Value.{Value}
use Rattle.expressions.specs.Expressions.{Expression}
use Rattle.item_schema.specs.declared.column.Column.{Column}
use Rattle.rate_expr.specs.Language.{In}
use Rattle.rate_expr.specs.Readings.{HasExtension}
use Rattle.rate_expr.specs.Words.{Word, IsWordOf}
use Rattle.query_model.specs.Bounds.{places_of}
use Rattle.query_model.specs.Denotation.{Den}
use Rattle.query_model.specs.Queries.{Qre, split}
use Rattle.query_model.specs.Rates.{rate_of}
use Rattle.query_model.specs.Rules.{bound, IsClear}
use Rattle.query_model.proofs.Defined.{in_den}
use Rattle.query_model.proofs.InRates.{den_in}
use Rattle.query_model.proofs.Unique.{one_value}
use Rattle.split_eval.specs.Entries.{Contents, entry_at, AreDistinct}
use Rattle.split_eval.specs.declared.entry.Entry.{Entry}
use Rattle.split_eval.proofs.Found.{found_after, found_first}
use Rattle.eval_nodes.specs.Holdings.{Holding, Seen}
use Rattle.eval_nodes.specs.Live.{live_of}
use Rattle.eval_nodes.specs.Represents.{AreReached, AreWaiting, Represents}
use Rattle.eval_nodes.specs.Starts.{AreApart, AreDifferent, ArePositions}
use Rattle.eval_nodes.proofs.Apart.{apart_left, apart_right}
use Rattle.eval_nodes.proofs.Few.{few_live}
use Rattle.eval_nodes.proofs.Living.{living}
use Rattle.eval_nodes.proofs.Members.{member_cases, no_member}
use Rattle.eval_nodes.proofs.Pieces.{word_after, word_piece}
use Rattle.eval_nodes.proofs.Entries.{is_entry}
use Rattle.step_laws.specs.Lefts.{IsPut}
use Rattle.step_laws.proofs.Ends.{AreReachedBefore, NoneAtEnd, reached_end}
use Rattle.step_laws.proofs.Waits.{AreWaitingBefore, fresh_end, waiting_end}

-- the inner starts of entries
abbrev inners : List (Entry Value) → List ℕ
inners [] = []
inners (x ∷ entries) = x.inner ∷ inners entries

count_inners : (entries : List (Entry Value)) → length (inners entries) ≡ length entries
count_inners [] = refl
count_inners (x ∷ entries) = let rest = count_inners entries in omega (arith, rest)

inner_found : (entries : List (Entry Value)) (inner : ℕ) → AreDistinct entries
    → Contains (inners entries) inner
    → (entry : Entry Value) × (entry_at entries inner ≡ Some entry)
inner_found [] inner distinct there = absurd (no_member inner there)
inner_found (x ∷ entries) inner distinct there =
    elim (member_cases x.inner inner (inners entries) there) [
      | inl same ↦ (x, found_first x entries inner same)
      | inr later ↦
          let (entry, found) = inner_found entries inner distinct.1 later in (
            entry,
            found_after x entries inner
                (λ same. none-some entry (sym distinct.0 ∙ ap (entry_at entries) same ∙ found))
                ∙ found,
          )
    ]

different_inners : (entries : List (Entry Value)) → AreDistinct entries
    → AreDifferent (inners entries)
different_inners [] distinct = tt
different_inners (x ∷ entries) distinct = (
  λ there. let (entry, found) = inner_found entries x.inner distinct.1 there in
      none-some entry (sym distinct.0 ∙ found),
  different_inners entries distinct.1,
)

module _ (columns : List Column) (f g : Qre) (e : Expression)
    (clear : IsClear bound columns (split f g e)) where
  -- what comes after the item too
  pub extension_less : (item : List Field) → ((u : Word) → IsWordOf columns (item ∷ [])
      → HasExtension columns (rate_of g) (u ++ item ∷ []) → HasExtension columns (rate_of g) u)
  extension_less item u is (next, more, more_is, in_g) = (
    item,
    next ∷ more,
    (is.0, more_is),
    subst (In (rate_of g)) (append_assoc u (item ∷ []) (next ∷ more)) in_g,
  )

  -- no value is no word of the rate
  pub none_in : (word : Word) (starts : List ℕ) → IsWordOf columns word
      → ((start : ℕ) (v : Value) → Contains starts start → Den f (drop start word) v → ⊥)
      → NoneAtEnd (In (rate_of f)) word starts
  none_in word starts is none = λ start there in_f.
      let den = in_den columns f (drop start word) clear.0
      (word_after columns word start is) in_f in
      none start den.0 there den.1

  -- The room is enough: left values that wait, and one more, have different live
  -- starts on the right.
  pub has_room : (word : Word) (starts ends : List ℕ) (held : Contents Value)
      → IsWordOf columns word → AreApart columns (split f g e) word starts
      → AreDistinct held.entries → AreReachedBefore (In (rate_of f)) word starts ends
      → AreReached (In (rate_of f)) word starts (ends ++ length word ∷ [])
      → AreWaitingBefore (Den f) (HasExtension columns (rate_of g)) word starts held.entries
      → HasExtension columns (rate_of g) (drop (length word) word)
      → held.room ≡ places_of g → length held.entries < held.room
  has_room word starts ends held is apart distinct before reached waiting more room =
      let all = ends ++ length word ∷ [] in
      let count = count_inners held.entries in
      let few = few_live bound columns g word all (length word ∷ inners held.entries) clear.1 is
      (λ at there. let (start, piece, from, cut, in_f) = (reached at).0 there in cut.inside)
      (apart_right columns f g e word starts all clear is apart
      (λ at there. (reached at).0 there)) (
        (λ there. let (entry, found) = inner_found held.entries (length word) distinct there in
            none-some entry
            (sym (fresh_end (Den f) (HasExtension columns (rate_of g)) word starts held.entries
            waiting) ∙ found)),
        different_inners held.entries distinct,
      )
      (λ at there. elim (member_cases (length word) at (inners held.entries) there) [
        | inl same ↦ (
          subst (Contains all) same (Contains-push ends (length word)),
          subst (λ i. HasExtension columns (rate_of g) (drop i word)) same more,
        )
        | inr later ↦
            let (entry, found) = inner_found held.entries at distinct later in
            let (from, (piece, cut, below, den), continues) = (waiting at entry.outer entry.value).0
            (is_entry held.entries at entry found) in
            let in_f = den_in bound columns f piece entry.value clear.0
            (word_piece columns word entry.outer at piece is cut) den in (
              Contains-append_left ends (length word ∷ []) at
                  ((before at).1 (entry.outer, piece, from, cut, below, in_f)),
              continues,
            )
      ]) in
      omega (arith, few, count, room)

module _ {R : Type 0} (seen : R → Seen R) (columns : List Column) (f g : Qre) (e : Expression)
    (clear : IsClear bound columns (split f g e)) where
  -- the right operand of a split and its left values stand for the word
  abbrev pub IsRight : Word → List ℕ → Holding R → Contents Value → Type 0
  IsRight word starts b left =
      ((ends : List ℕ) × AreReached (In (rate_of f)) word starts ends
      × Represents seen columns g b word ends)
      × AreWaiting (Den f) (HasExtension columns (rate_of g)) word starts left.entries
      × (left.room ≡ places_of g)

  -- A left value of a piece to the end is handed over: the right operand is started there, and
  -- the value waits.
  pub handed : (word : Word) (starts ends : List ℕ) (b : Holding R) (old new : Contents Value)
      (begun : ℕ) (x : Value) (live : Bool) → IsWordOf columns word → ArePositions word starts
      → AreApart columns (split f g e) word starts
      → AreReachedBefore (In (rate_of f)) word starts ends → AreDistinct old.entries
      → AreWaitingBefore (Den f) (HasExtension columns (rate_of g)) word starts old.entries
      → old.room ≡ places_of g → Contains starts begun → Den f (drop begun word) x
      → Represents seen columns g b word (ends ++ length word ∷ [])
      → live ≡ live_of g b (length word)
      → IsPut live old (record { inner = length word; outer = begun; value = x }) new
      → new.room ≡ old.room → IsRight word starts b new
  handed word starts ends b old new begun x live is positions apart before distinct
      waiting room there den right live_is put same_room =
      let in_f = den_in bound columns f (drop begun word) x clear.0
      (word_after columns word begun is) den in
      let reached = reached_end (In (rate_of f)) word starts ends begun before there
      (positions begun there) in_f in
      let lives = living seen bound columns g b word (ends ++ length word ∷ [])
      (length word) clear.1 is
      (λ at among. let (start, piece, from, cut, in_piece) = (reached at).0 among in cut.inside)
      right in
      let apart_f = apart_left columns f g e word starts clear.1 apart in (
        (ends ++ length word ∷ [], reached, right),
        waiting_end (Den f) (HasExtension columns (rate_of g)) word starts old new begun x live
            distinct waiting there (positions begun there) den
            (λ start v from other.
            let in_other = den_in bound columns f (drop start word) v clear.0
            (word_after columns word start is) other in
            let same : start ≡ begun = apart_f start begun [] tt from there
            (subst (In (rate_of f)) (sym (append-nil (drop start word))) in_other)
            (subst (In (rate_of f)) (sym (append-nil (drop begun word))) in_f) in (
              same,
              one_value bound columns f (drop begun word) v x clear.0
                  (word_after columns word begun is)
                  (subst (λ s. Den f (drop s word) v) same other) den,
            )) (
              (λ is_live. (lives.0 (sym live_is ∙ is_live)).1),
              (λ more. live_is ∙ lives.1 (Contains-push ends (length word), more)),
            )
            (λ is_live. has_room columns f g e clear word starts ends old is apart distinct
            before reached waiting ((lives.0 (sym live_is ∙ is_live)).1) room)
            put,
        same_room ∙ room,
      )
