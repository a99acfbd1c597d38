-- Words of a rate, by the items that meet its predicates.
use Rattle.std.proofs.Common.{◌≡◌, Bool, true, false, List, [], ◌∷◌, ◌++◌, refl}
use Rattle.std.proofs.Common.{sym, subst, inl, inr}
use Rattle.std.specs.List.{AllByRecursion, Contains}
use Rattle.std.proofs.lemmas.List.{append-nil}
use Rattle.std.proofs.lemmas.List.Elements.{Contains-append_left}
use Rattle.std.proofs.lemmas.List.Elements.{Contains-append_right}
use Rattle.value_ops.specs.declared.field.Field.{Field}
use Rattle.item_schema.specs.Items.{IsItemOf}
use Rattle.item_schema.specs.declared.column.Column.{Column}
use Rattle.predicates.specs.Predicates.{Predicate}
use Rattle.predicates.specs.Truth.{holds}
use Rattle.rate_expr.specs.Language.{In}
use Rattle.rate_expr.specs.Rates.{Regex, choice, empty, one, preds_of, sequence, star}
use Rattle.rate_expr.specs.Words.{Word, IsWordOf, join}
use Rattle.query_model.specs.Rules.{CanBeMet}
use Rattle.empty_tables.specs.OwnItems.{HasOwnItem, HaveOwnItem}
use Rattle.empty_tables.proofs.Keys.{AreEvery, first_member}

module _ {A : Type 0} (P : A → Type 0) where
  all_parts : (xs ys : List A) → AllByRecursion P (xs ++ ys)
      → AllByRecursion P xs × AllByRecursion P ys
  all_parts [] ys all = (tt, all)
  all_parts (x ∷ xs) ys all = let rest = all_parts xs ys all.1 in ((all.0, rest.0), rest.1)

  all_both : (xs ys : List A) → AllByRecursion P xs → AllByRecursion P ys
      → AllByRecursion P (xs ++ ys)
  all_both [] ys all others = others
  all_both (x ∷ xs) ys all others = (all.0, all_both xs ys all.1 others)

module _ (columns : List Column) (sync : Predicate) where
  item_every : (pred : Predicate) (item : List Field) (every : Bool) → holds sync item ≡ every
      → IsItemOf columns item → holds pred item ≡ true → (HasOwnItem columns sync pred → ⊥)
      → holds sync item ≡ true
  item_every pred item true is is_item meets none = is
  item_every pred item false is is_item meets none =
      absurd (none (record { item = item; is_item = is_item; meets = meets; own = is }))

  pieces_every : (P : Word → Type 0)
      → ((piece : Word) → IsWordOf columns piece → P piece → AreEvery sync piece)
      → (pieces : List Word) → IsWordOf columns (join pieces) → AllByRecursion P pieces
      → AreEvery sync (join pieces)
  pieces_every P each [] is all = tt
  pieces_every P each (piece ∷ pieces) is all =
      let parts = all_parts (IsItemOf columns) piece (join pieces) is in
      all_both (λ item. holds sync item ≡ true) piece (join pieces)
      (each piece parts.0 all.0) (pieces_every P each pieces parts.1 all.1)

  -- where no item of the rate is a key's own, those of its words are all every key's
  pub all_every : (rate : Regex) (word : Word) → (HaveOwnItem columns sync rate → ⊥)
      → IsWordOf columns word → In rate word → AreEvery sync word
  all_every empty word none is in_rate = subst (AreEvery sync) (sym in_rate) tt
  all_every (one pred) word none is (item, same, meets) =
      let items = subst (IsWordOf columns) same is in
      subst (AreEvery sync) (sym same)
      (item_every pred item (holds sync item) refl items.0 meets none, tt)
  all_every (sequence left right) word none is (u, v, same, first, second) =
      let parts = all_parts (IsItemOf columns) u v (subst (IsWordOf columns) same is) in
      subst (AreEvery sync) (sym same) (all_both (λ item. holds sync item ≡ true) u v
      (all_every left u (λ own. none (inl own)) parts.0 first)
      (all_every right v (λ own. none (inr own)) parts.1 second))
  all_every (choice left right) word none is (inl first) =
      all_every left word (λ own. none (inl own)) is first
  all_every (choice left right) word none is (inr second) =
      all_every right word (λ own. none (inr own)) is second
  all_every (star inner) word none is (pieces, same, all) =
      subst (AreEvery sync) (sym same) (pieces_every (In inner)
      (λ piece is_piece in_inner. all_every inner piece none is_piece in_inner) pieces
      (subst (IsWordOf columns) same is) all)

module _ (columns : List Column) where
  -- a word of the rate
  abbrev pub HasWord : Regex → Type 0
  HasWord rate = (word : Word) × IsWordOf columns word × In rate word

  some_word : (rate : Regex) → AllByRecursion (CanBeMet columns) (preds_of rate) → HasWord rate
  some_word empty all = ([], tt, refl)
  some_word (one pred) all =
      (all.0.item ∷ [], (all.0.is_item, tt), (all.0.item, refl, all.0.meets))
  some_word (sequence left right) all =
      let parts = all_parts (CanBeMet columns) (preds_of left) (preds_of right) all in
      let u = some_word left parts.0 in
      let v = some_word right parts.1 in
      (u.0 ++ v.0, all_both (IsItemOf columns) u.0 v.0 u.1 v.1, (u.0, v.0, refl, u.2, v.2))
  some_word (choice left right) all =
      let parts = all_parts (CanBeMet columns) (preds_of left) (preds_of right) all in
      let u = some_word left parts.0 in
      (u.0, u.1, inl u.2)
  some_word (star inner) all = ([], tt, ([], refl, tt))

  module _ (sync : Predicate) where
    -- a word of the rate with an item that is not every key's
    abbrev pub HasOwnWord : Regex → Type 0
    HasOwnWord rate = (word : Word) × IsWordOf columns word × In rate word
        × (item : List Field) × Contains word item × (holds sync item ≡ false)

    -- such an item of the rate stands in some word
    pub own_word : (rate : Regex) → AllByRecursion (CanBeMet columns) (preds_of rate)
        → HaveOwnItem columns sync rate → HasOwnWord rate
    own_word empty all own = absurd own
    own_word (one pred) all own = (
      own.item ∷ [],
      (own.is_item, tt),
      (own.item, refl, own.meets),
      own.item,
      first_member own.item [],
      own.own,
    )
    own_word (sequence left right) all (inl own) =
        let parts = all_parts (CanBeMet columns) (preds_of left) (preds_of right) all in
        let u = own_word left parts.0 own in
        let v = some_word right parts.1 in (
          u.0 ++ v.0,
          all_both (IsItemOf columns) u.0 v.0 u.1 v.1,
          (u.0, v.0, refl, u.2, v.2),
          u.3,
          Contains-append_left u.0 v.0 u.3 u.4,
          u.5,
        )
    own_word (sequence left right) all (inr own) =
        let parts = all_parts (CanBeMet columns) (preds_of left) (preds_of right) all in
        let u = some_word left parts.0 in
        let v = own_word right parts.1 own in (
          u.0 ++ v.0,
          all_both (IsItemOf columns) u.0 v.0 u.1 v.1,
          (u.0, v.0, refl, u.2, v.2),
          v.3,
          Contains-append_right u.0 v.0 v.3 v.4,
          v.5,
        )
    own_word (choice left right) all (inl own) =
        let parts = all_parts (CanBeMet columns) (preds_of left) (preds_of right) all in
        let u = own_word left parts.0 own in (u.0, u.1, inl u.2, u.3, u.4, u.5)
    own_word (choice left right) all (inr own) =
        let parts = all_parts (CanBeMet columns) (preds_of left) (preds_of right) all in
        let v = own_word right parts.1 own in (v.0, v.1, inr v.2, v.3, v.4, v.5)
    own_word (star inner) all own =
        let u = own_word inner all own in
        (u.0, u.1, (u.0 ∷ [], sym (append-nil u.0), (u.2, tt)), u.3, u.4, u.5)
