-- The runners of a compose stay sound, and what they answer has the type.
use Rattle.std.proofs.Common.{◌≡◌, ◌≤◌, ◌∙◌, ℕ, ◌+◌, Bool, true, false, List, [], ◌∷◌, ◌++◌, Option}
use Rattle.std.proofs.Common.{Some, None, length, refl, sym, ap, subst, arith, inl, inr}
use Rattle.std.specs.List.{AllByRecursion, Contains}
use Rattle.std.proofs.lemmas.List.{length-append, map-append}
use Rattle.value_ops.specs.declared.value.Value.{Value}
use Rattle.value_ops.specs.declared.value.ValueType.{ValueType}
use Rattle.item_schema.specs.declared.column.Column.{Column}
use Rattle.query_model.specs.Queries.{Qre}
use Rattle.query_model.specs.QueryTypes.{type_of}
use Rattle.query_model.specs.Rules.{Standing, IsClear}
use Rattle.compose_eval.specs.Followers.{Contents, live_instances, outers_of, retired}
use Rattle.compose_eval.specs.declared.instance.Instance.{Instance}
use Rattle.compose_eval.proofs.Starts.{as_many, same_outers}
use Rattle.eval_nodes.specs.Runners.{IsSoundOf}
use Rattle.eval_nodes.specs.Holdings.{Seen}
use Rattle.eval_nodes.specs.Sound.{IsSoundWithin, IsTyped}
use Rattle.eval_nodes.specs.Starts.{AreDifferent}
use Rattle.eval_nodes.proofs.Instances.{all_but_last, all_joined, all_kept, all_mapped, all_member}
use Rattle.eval_nodes.proofs.Instances.{all_retired, all_written, different_more, kept_count}
use Rattle.eval_nodes.proofs.Instances.{kept_different, read_member, some_fed}
use Rattle.step_laws.specs.declared.hit.Hit.{Hit}
use Rattle.step_laws.specs.Feeds.{Feeds, hit_at, IsBegun, IsFedFrom, IsHitIn, IsPassed, PassesOn}
use Rattle.step_laws.specs.Steps.{IsHitAt, IsHitOf}
use Rattle.step_laws.proofs.Typed.{hit_of}

answer_at : (type : ValueType) (start : ℕ) (answer : Option Value) → IsTyped type answer
    → IsHitAt type start (hit_at start answer)
answer_at type start None is = tt
answer_at type start (Some v) is = (refl, is)

module _ {R : Type 0} (seen : R → Seen R) where
  -- the starts differ, there are this many runners, and all are sound, those that are fed with at
  -- most this many items
  pub record AreSoundly (columns : List Column) (query : Qre) (count most : ℕ)
      (held : Contents R) : Type 0 where
    pub distinct : AreDifferent (outers_of held.live)
    pub full : length held.live + length held.idle ≡ count
    pub live : AllByRecursion
        (λ (one : Instance R). IsSoundWithin seen (IsSoundOf seen columns query) most one.follower)
        held.live
    pub idle : AllByRecursion (IsSoundOf seen columns query) held.idle

  module _ (standing : Standing) (columns : List Column) (g : Qre)
      (clear : IsClear standing columns g) where
    within_more : (n : ℕ) (runner : R) → IsSoundWithin seen (IsSoundOf seen columns g) n runner
        → IsSoundWithin seen (IsSoundOf seen columns g) (n + 1) runner
    within_more n runner is = let within = is.within in
        record { within = omega (arith, within); sound = is.sound }

    more_allowed : (count most : ℕ) (held : Contents R) → AreSoundly columns g count most held
        → AreSoundly columns g count (most + 1) held
    more_allowed count most held is = record {
      distinct = is.distinct;
      full = is.full;
      live = all_mapped
          (λ (one : Instance R). IsSoundWithin seen (IsSoundOf seen columns g) most one.follower)
          (λ (one : Instance R). IsSoundWithin seen (IsSoundOf seen columns g) (most + 1)
          one.follower) held.live
          (λ one is_within. within_more most one.follower is_within) is.live;
      idle = is.idle;
    }

    -- a step
    one_passed : (count most : ℕ) (held passed : Contents R) (found : Hit) (hit : Option Hit)
        → IsHitIn columns (Some found) → AreSoundly columns g count most held
        → IsPassed seen g held found passed hit
        → AreSoundly columns g count (most + 1) passed × IsHitOf (type_of columns g) hit
    one_passed count most held passed found hit is_item soundly one =
        let x : Instance R = record { outer = found.start; follower = one.runner } in
        let old = all_member
        (λ (one : Instance R). IsSoundWithin seen (IsSoundOf seen columns g) most one.follower)
        held.live x soundly.live (read_member held.live one.place x one.at) in
        let delivered = one.delivers.carried.sound standing columns clear is_item old.sound in
        let within = old.within in
        let position = one.delivers.carried.position in
        let many = as_many held.live one.place one.delivered in
        let full = soundly.full in
        let more = more_allowed count most held soundly in (
          subst (AreSoundly columns g count (most + 1)) (sym one.is) (record {
            distinct = subst AreDifferent (sym (same_outers held.live one.place one.delivered))
                soundly.distinct;
            full = omega (arith, many, full);
            live = all_written (IsSoundWithin seen (IsSoundOf seen columns g) (most + 1)) held.live
                one.place one.delivered
                more.live (record { within = omega (arith, within, position); sound = delivered });
            idle = soundly.idle;
          }),
          subst (IsHitOf (type_of columns g)) (sym one.delivers.answers)
              (hit_of (type_of columns g) found.start
              (hit_at found.start (seen one.delivered).answer)
              (answer_at (type_of columns g) found.start (seen one.delivered).answer
              delivered.answer)),
        )

    pub passed_soundly : (count most : ℕ) (held passed : Contents R) (left hit : Option Hit)
        → IsHitIn columns left → AreSoundly columns g count most held
        → PassesOn seen g held left passed hit
        → AreSoundly columns g count (most + 1) passed × IsHitOf (type_of columns g) hit
    passed_soundly count most held passed None hit is_item soundly (same, none) = (
      subst (AreSoundly columns g count (most + 1)) (sym same)
          (more_allowed count most held soundly),
      subst (IsHitOf (type_of columns g)) (sym none) tt,
    )
    passed_soundly count most held passed (Some found) hit is_item soundly passes = elim passes [
      | inl one ↦ one_passed count most held passed found hit is_item soundly one
      | inr (nowhere, same, none) ↦ (
        subst (AreSoundly columns g count (most + 1)) (sym same)
            (more_allowed count most held soundly),
        subst (IsHitOf (type_of columns g)) (sym none) tt,
      )
    ]

    pub kept_soundly : (count most : ℕ) (passed kept : Contents R) (p : ℕ → Bool)
        → kept.live ≡ live_instances p passed.live
        → kept.idle ≡ passed.idle ++ retired p passed.live → AreSoundly columns g count most passed
        → AreSoundly columns g count most kept
    kept_soundly count most passed kept p live idle soundly =
        let full = soundly.full in
        let many = kept_count p passed.live in
        let lives_now = ap length live in
        let rests_now = ap length idle ∙ length-append passed.idle (retired p passed.live) in
        let each = all_mapped
        (λ (one : Instance R). IsSoundWithin seen (IsSoundOf seen columns g) most one.follower)
        (λ (one : Instance R). IsSoundOf seen columns g one.follower) passed.live
        (λ one is. is.sound) soundly.live in
        record {
          distinct = subst (λ (xs : List (Instance R)). AreDifferent (outers_of xs)) (sym live)
              (kept_different p passed.live soundly.distinct);
          full = omega (arith, full, many, lives_now, rests_now);
          live = subst (AllByRecursion
              (λ (one : Instance R). IsSoundWithin seen (IsSoundOf seen columns g) most
              one.follower)) (sym live)
              (all_kept (λ (one : Instance R). IsSoundWithin seen (IsSoundOf seen columns g)
              most one.follower) p
              passed.live soundly.live);
          idle = subst (AllByRecursion (IsSoundOf seen columns g)) (sym idle)
              (all_joined (IsSoundOf seen columns g) passed.idle
              (retired p passed.live) soundly.idle
              (all_retired (IsSoundOf seen columns g) p passed.live each));
        }

    -- a start
    begun_soundly : (type : ValueType) (at most : ℕ) (left : Option Hit) (runner next : R)
        (hit : Option Hit) → IsHitIn columns left → IsHitAt type at left → 1 ≤ most
        → IsSoundOf seen columns g runner → IsBegun seen g runner left next hit
        → IsSoundWithin seen (IsSoundOf seen columns g) most next
        × IsHitAt (type_of columns g) at hit
    begun_soundly type at most None runner next hit is_item is_at some sound (renewed, none) =
        let position = renewed.position in (
          record {
            within = omega (arith, position, some);
            sound = renewed.sound standing columns clear sound;
          },
          subst (IsHitAt (type_of columns g) at) (sym none) tt,
        )
    begun_soundly type at most (Some found) runner next hit is_item is_at some sound
        (between, renewed, delivered) =
        let first = renewed.position in
        let second = delivered.carried.position in
        let after = delivered.carried.sound standing columns clear is_item
        (renewed.sound standing columns clear sound) in (
          record { within = omega (arith, first, second, some); sound = after },
          subst (λ (start : ℕ). IsHitAt (type_of columns g) start hit) is_at.0
              (subst (IsHitAt (type_of columns g) found.start) (sym delivered.answers)
              (answer_at (type_of columns g) found.start (seen next).answer after.answer)),
        )

    fed_soundly_live : (count most at : ℕ) (held : Contents R) (front : List R) (runner next : R)
        → AreSoundly columns g count most held → (Contains (outers_of held.live) at → ⊥)
        → held.idle ≡ front ++ runner ∷ [] → AllByRecursion (IsSoundOf seen columns g) front
        → IsSoundWithin seen (IsSoundOf seen columns g) most next
        → AreSoundly columns g count most (record {
          live = held.live ++ record { outer = at; follower = next } ∷ [];
          idle = front;
          room = held.room;
        })
    fed_soundly_live count most at held front runner next soundly fresh last rests is =
        let x : Instance R = record { outer = at; follower = next } in
        let full = soundly.full in
        let idle = ap length last ∙ length-append front (runner ∷ []) in
        let lives = length-append held.live (x ∷ []) in
        record {
          distinct =
              subst AreDifferent (sym (map-append (λ (y : Instance R). y.outer) held.live (x ∷ [])))
              (different_more (outers_of held.live) at soundly.distinct fresh);
          full = omega (arith, full, idle, lives);
          live = all_joined (λ (one : Instance R). IsSoundWithin seen (IsSoundOf seen columns g)
              most one.follower)
              held.live (x ∷ []) soundly.live (is, tt);
          idle = rests;
        }

    fed_soundly_dead : (count most : ℕ) (held : Contents R) (front : List R) (runner next : R)
        → AreSoundly columns g count most held → held.idle ≡ front ++ runner ∷ []
        → AllByRecursion (IsSoundOf seen columns g) front → IsSoundOf seen columns g next
        → AreSoundly columns g count most (record {
          live = held.live;
          idle = front ++ next ∷ [];
          room = held.room;
        })
    fed_soundly_dead count most held front runner next soundly last rests is =
        let full = soundly.full in
        let idle = ap length last ∙ length-append front (runner ∷ []) in
        let rested = length-append front (next ∷ []) in
        record {
          distinct = soundly.distinct;
          full = omega (arith, full, idle, rested);
          live = soundly.live;
          idle = all_joined (IsSoundOf seen columns g) front (next ∷ []) rests (is, tt);
        }

    fed_soundly_from : (live : Bool) (count most at : ℕ) (held new : Contents R)
        (left hit : Option Hit) → AreSoundly columns g count most held
        → (Contains (outers_of held.live) at → ⊥)
        → (feeds : IsFedFrom seen g held live at left new hit)
        → AllByRecursion (IsSoundOf seen columns g) feeds.front
        → IsSoundWithin seen (IsSoundOf seen columns g) most feeds.next
        → AreSoundly columns g count most new
    fed_soundly_from true count most at held new left hit soundly fresh feeds rests is =
        subst (AreSoundly columns g count most) (sym feeds.is)
        (fed_soundly_live count most at held feeds.front feeds.runner feeds.next soundly fresh
        feeds.last rests is)
    fed_soundly_from false count most at held new left hit soundly fresh feeds rests is =
        subst (AreSoundly columns g count most) (sym feeds.is)
        (fed_soundly_dead count most held feeds.front feeds.runner feeds.next soundly
        feeds.last rests is.sound)

    pub fed_soundly : (type : ValueType) (count most at : ℕ) (live : Bool) (held new : Contents R)
        (left hit : Option Hit) → IsHitIn columns left → IsHitAt type at left → 1 ≤ most
        → AreSoundly columns g count most held → Feeds seen g held live at left new hit
        → AreSoundly columns g count most new × IsHitAt (type_of columns g) at hit
    fed_soundly type count most at live held new left hit is_item is_at some soundly feeds =
        elim feeds [
          | inl (can, one) ↦
              let (rests, last) = all_but_last (IsSoundOf seen columns g) one.front one.runner
              (subst (AllByRecursion (IsSoundOf seen columns g)) one.last soundly.idle) in
              let (next, hit_is) = begun_soundly type at most left one.runner one.next
              hit is_item is_at some last one.begun in (
                fed_soundly_from live count most at held new left hit soundly
                    (λ there. some_fed held.live at there can.fresh) one rests next,
                hit_is,
              )
          | inr (cannot, same, none) ↦ (
            subst (AreSoundly columns g count most) (sym same) soundly,
            subst (IsHitAt (type_of columns g) at) (sym none) tt,
          )
        ]
