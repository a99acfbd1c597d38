-- The idle runners of a compose keep no more than one that follows what comes out on the word.
use Rattle.std.proofs.Common.{◌≡◌, ◌+◌, ◌*◌, ◌∙◌, ℕ, Bool, true, false, List, [], ◌∷◌, ◌++◌, Option}
use Rattle.std.proofs.Common.{Some, None, drop, sym, ap, subst, arith, inl, inr}
use Rattle.std.specs.List.{AllByRecursion, Contains}
use Rattle.value_ops.specs.declared.field.Field.{Field}
use Rattle.item_schema.specs.declared.column.Column.{Column}
use Rattle.rate_expr.specs.Words.{Word, IsWordOf}
use Rattle.query_model.specs.Bounds.{slots_of}
use Rattle.query_model.specs.Queries.{Qre, compose}
use Rattle.query_model.specs.QueryTypes.{derived_columns, type_of}
use Rattle.query_model.specs.Rules.{Standing, HasNoCollect, IsClear}
use Rattle.memory_bound.specs.KeysMet.{key_columns, keys_met}
use Rattle.memory_bound.proofs.Entries.{out_keys}
use Rattle.memory_bound.proofs.Growth.{among_all, among_first, keys_mono}
use Rattle.compose_eval.specs.Followers.{Contents, retired}
use Rattle.compose_eval.specs.declared.instance.Instance.{Instance}
use Rattle.eval_nodes.specs.Counts.{size_of_runner, stored_in}
use Rattle.eval_nodes.specs.Holdings.{Seen}
use Rattle.eval_nodes.specs.Represents.{KeepsFew}
use Rattle.eval_nodes.proofs.Instances.{all_but_last, all_joined, all_mapped, all_retired}
use Rattle.eval_nodes.proofs.Members.{first_member, later_member}
use Rattle.eval_nodes.proofs.Pieces.{word_after}
use Rattle.eval_nodes.proofs.StoredEntries.{after_among}
use Rattle.eval_nodes.proofs.Totals.{scaled}
use Rattle.step_laws.specs.declared.hit.Hit.{Hit}
use Rattle.step_laws.specs.Feeds.{IsFedFrom, PassesOn}
use Rattle.step_laws.proofs.Fed.{Row, Sees}
use Rattle.step_laws.proofs.Outputs.{out_word}
use Rattle.step_laws.proofs.StoredFew.{runner_few}
use Rattle.step_laws.proofs.StoredTracks.{derived_texts}

-- what holds of each that is there
all_there : {A : Type 0} (P : A → Type 0) (xs : List A) → ((x : A) → Contains xs x → P x)
    → AllByRecursion P xs
all_there P [] each = tt
all_there P (x ∷ xs) each =
    (each x (first_member x xs), all_there P xs (λ y there. each y (later_member x y xs there)))

module _ {R : Type 0} (seen : R → Seen R) where
  -- it keeps no more than one that follows what comes out on the word
  abbrev pub KeepsFewOn : Qre → Qre → Word → R → Type 0
  KeepsFewOn f g word runner =
      KeepsFew seen (stored_in seen g) (slots_of g * (1 + keys_met (compose f g) word)) runner

  -- an item that goes by leaves the idle ones as they are
  pub idle_passed : (q : Qre) (held passed : Contents R) (left hit : Option Hit)
      → PassesOn seen q held left passed hit → passed.idle ≡ held.idle
  idle_passed q held passed None hit (same, none) = ap (λ (s : Contents R). s.idle) same
  idle_passed q held passed (Some found) hit passes = elim passes [
    | inl one ↦ ap (λ (s : Contents R). s.idle) one.is
    | inr (none, same, no_hit) ↦ ap (λ (s : Contents R). s.idle) same
  ]

  module _ (standing : Standing) (columns : List Column) (f g : Qre)
      (clear : IsClear standing columns f)
      (clear_right : IsClear standing (derived_columns (type_of columns f)) g)
      (none : HasNoCollect g) where
    -- one that is fed
    sees_few : (word : Word) (start : ℕ) (runner : R) → IsWordOf columns word
        → Sees seen standing columns f g clear clear_right word start runner
        → KeepsFewOn f g word runner
    sees_few word start runner is (out, outputs, follows) =
        let after = word_after columns word start is in
        let few = runner_few seen standing (derived_columns (type_of columns f)) g out
        runner clear_right (derived_texts (type_of columns f))
        (out_word standing columns f clear (drop start word) out after outputs) follows in
        let less = out_keys standing columns f g (drop start word) out clear none outputs in
        let part = keys_mono f f (drop start word) word (among_all (key_columns f))
        (after_among word start) in
        scaled (size_of_runner seen (stored_in seen g) runner) (slots_of g) (keys_met g out)
        (keys_met (compose f g) word) few (omega (arith, less, part))

    -- where a start is added
    pub idle_started : (live : Bool) (word : Word) (at : ℕ) (held new : Contents R)
        (left hit : Option Hit) → IsWordOf columns word
        → AllByRecursion (KeepsFewOn f g word) held.idle
        → (feeds : IsFedFrom seen g held live at left new hit)
        → Sees seen standing columns f g clear clear_right word at feeds.next
        → AllByRecursion (KeepsFewOn f g word) new.idle
    idle_started true word at held new left hit is all feeds sees =
        subst (λ (s : Contents R). AllByRecursion (KeepsFewOn f g word) s.idle) (sym feeds.is)
        (all_but_last (KeepsFewOn f g word) feeds.front feeds.runner
        (subst (AllByRecursion (KeepsFewOn f g word)) feeds.last all)).0
    idle_started false word at held new left hit is all feeds sees =
        subst (λ (s : Contents R). AllByRecursion (KeepsFewOn f g word) s.idle) (sym feeds.is)
        (all_joined (KeepsFewOn f g word) feeds.front (feeds.next ∷ [])
        (all_but_last (KeepsFewOn f g word) feeds.front feeds.runner
        (subst (AllByRecursion (KeepsFewOn f g word)) feeds.last all)).0
        (sees_few word at feeds.next is sees, tt))

    -- where an item went by
    pub idle_stepped : (lives : ℕ → Type 0) (word : Word) (item : List Field)
        (held passed kept : Contents R) (p : ℕ → Bool) → IsWordOf columns (word ++ item ∷ [])
        → passed.idle ≡ held.idle → kept.idle ≡ passed.idle ++ retired p passed.live
        → Row seen standing columns f g clear clear_right lives (word ++ item ∷ []) passed
        → AllByRecursion (KeepsFewOn f g word) held.idle
        → AllByRecursion (KeepsFewOn f g (word ++ item ∷ [])) kept.idle
    idle_stepped lives word item held passed kept p is same idle row all =
        let longer = word ++ item ∷ [] in
        let more = keys_mono f f word longer (among_all (key_columns f))
        (among_first word (item ∷ [])) in
        let old : AllByRecursion (KeepsFewOn f g longer) held.idle =
        all_mapped (KeepsFewOn f g word) (KeepsFewOn f g longer) held.idle
        (λ runner few. scaled (size_of_runner seen (stored_in seen g) runner) (slots_of g)
        (keys_met (compose f g) word) (keys_met (compose f g) longer) few more) all in
        subst (AllByRecursion (KeepsFewOn f g longer))
        (sym (idle ∙ ap (λ (xs : List R). xs ++ retired p passed.live) same))
        (all_joined (KeepsFewOn f g longer) held.idle (retired p passed.live) old
        (all_retired (KeepsFewOn f g longer) p passed.live
        (all_there (λ (one : Instance R). KeepsFewOn f g longer one.follower) passed.live
        (λ one there. sees_few longer one.outer one.follower is
        (row.each one.outer one.follower there)))))
