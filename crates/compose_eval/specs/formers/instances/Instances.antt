-- For the prover. Instances as a type that may hold followers that hold instances.
use Rattle.std.specs.Prelude.{◌≡◌, ◌==◌, ℕ, List, [], ◌∷◌, map}
use mathlib.Core.Path.{refl, sym, ap, subst}
use mathlib.Core.Former.{Former, this, const, pair, list, via}
use native.Mathlib.Bridge.{le_prop}
use native.Mathlib.Nat.{ℕ_set}
use native.Mathlib.Omega.{arith}
use lib.ListN.{length-map}
use base.Stored.{code_map, gcons, coded_ℕ}
use denote.RattleType.{RattleType}
use denote.HoleLaws.{Alike}
use denote.HolePlaces.{Recodes, struct_places, laid}
use denote.Hole.Fix.{over}
use denote.Param.Weighed.{Weighed, w_const, w_list, w_pair, w_via}
use denote.Model.Placed.{view_places}
use Rattle.std.specs.List.{IsDistinct, IsDistinct-prop}
use Rattle.std.specs.formers.vec.Vec as vec
use Rattle.std.specs.declared.alloc.Global.{Global}
use Rattle.std.specs.contracts.alloc.Global as heap
use Rattle.std.specs.contracts.impls.GlobalAllocator.TheImpl.{ghosts}
use Rattle.compose_eval.specs.Followers.{Contents, IsKept, instance_code, outers_of}
use Rattle.compose_eval.specs.declared.instance.Instance.{Instance}
use Rattle.compose_eval.specs.contracts.instance.Instance as instance
use Rattle.compose_eval.specs.declared.instances.Instances.TheInside.{Inside}
use Rattle.compose_eval.specs.declared.instances.Instances.TheView.{view, invariant}
use Rattle.compose_eval.specs.contracts.instances.Instances as C
use Rattle.compose_eval.specs.contracts.instances.Instances.TheInside as I

-- a start together with a value of `g`
abbrev with_start : Former {0} → Former {0}
with_start g = via (pair (const ℕ) g) (λ X. Instance (g.Of X)) (λ X x. (x.outer, x.follower))
    (λ X v. record { outer = v.0; follower = v.1 }) (λ X x. refl) (λ X v. refl)

abbrev weighed_start : {g : Former {0}} → Weighed g → Weighed (with_start g)
weighed_start {g} w =
    w_via (w_pair (w_const ℕ) w) (λ X. Instance (g.Of X)) (λ X x. (x.outer, x.follower))
    (λ X v. record { outer = v.0; follower = v.1 }) (λ X x. refl) (λ X v. refl)

abbrev pub the_former : Former {0} → Former {0}
the_former g = via (pair (list (with_start g)) (pair (list g) (const ℕ))) (λ X. Contents (g.Of X))
    (λ X c. (c.live, (c.idle, c.room)))
    (λ X v. record { live = v.0; idle = v.1.0; room = v.1.1 }) (λ X c. refl) (λ X v. refl)

abbrev pub the_weighed : {g : Former {0}} → Weighed g → Weighed (the_former g)
the_weighed {g} w = w_via (w_pair (w_list (weighed_start w)) (w_pair (w_list w) (w_const ℕ)))
    (λ X. Contents (g.Of X)) (λ X c. (c.live, (c.idle, c.room)))
    (λ X v. record { live = v.0; idle = v.1.0; room = v.1.1 }) (λ X c. refl) (λ X v. refl)

pub the_empty : Contents ⊥
the_empty = record { live = []; idle = []; room = 0 }

abbrev fields : Former {0}
fields = via (pair (vec.the_former (with_start this) Global)
    (pair (vec.the_former this Global) (const ℕ)))
    Inside (λ X a. (a.live, (a.idle, a.room)))
    (λ X v. record { live = v.0; idle = v.1.0; room = v.1.1 }) (λ X a. refl) (λ X v. refl)

-- the same instance, with `h` applied to its follower
abbrev on_follower : {X Y : Type 0} → (X → Y) → Instance X → Instance Y
on_follower h x = record { outer = x.outer; follower = h x.follower }

module _ {X Y : Type 0} (h : X → Y) where
  same_outers : (xs : List (Instance X)) → outers_of (map (on_follower h) xs) ≡ outers_of xs
  same_outers [] = refl
  same_outers (x ∷ xs) = λ i. x.outer ∷ same_outers xs i

  IsKept-over : (live : List (Instance X)) (idle : List X) (room c d : ℕ)
      → IsKept live idle room c d → IsKept (map (on_follower h) live) (map h idle) room c d
  IsKept-over live idle room c d kept = record {
    live_reserved = kept.live_reserved;
    idle_reserved = kept.idle_reserved;
    few =
        let few = kept.few in
        let live_length = length-map live (on_follower h) in
        let idle_length = length-map idle h in
        omega (arith, few, live_length, idle_length);
    distinct = subst (IsDistinct ◌==◌) (sym (same_outers live)) kept.distinct;
  }

  IsKept-under : (live : List (Instance X)) (idle : List X) (room c d : ℕ)
      → IsKept (map (on_follower h) live) (map h idle) room c d → IsKept live idle room c d
  IsKept-under live idle room c d kept = record {
    live_reserved = kept.live_reserved;
    idle_reserved = kept.idle_reserved;
    few =
        let few = kept.few in
        let live_length = length-map live (on_follower h) in
        let idle_length = length-map idle h in
        omega (arith, few, live_length, idle_length);
    distinct = subst (IsDistinct ◌==◌) (same_outers live) kept.distinct;
  }

IsKept-prop : {X : Type 0} (live : List (Instance X)) (idle : List X) (room c d : ℕ)
    → (p q : IsKept live idle room c d) → p ≡ q
IsKept-prop live idle room c d p q = λ i. record {
  live_reserved = ℕ_set _ _ p.live_reserved q.live_reserved i;
  idle_reserved = ℕ_set _ _ p.idle_reserved q.idle_reserved i;
  few = le_prop p.few q.few i;
  distinct = IsDistinct-prop ◌==◌ (outers_of live) p.distinct q.distinct i;
}

module _ (R S : RattleType) (h : R.Denot → S.Denot) where
  instance_places : Alike R S h → Alike (instance.the_row R) (instance.the_row S) (on_follower h)
  instance_places a = struct_places (instance.the_type R) (instance.the_type S) ((λ n. n), (h, tt))
      (on_follower h) (λ x. refl) refl ((refl, (λ n. refl, λ n. refl)), (laid _ _ _ a, tt))

  pub the_places : Alike R S h
      → Alike (C.the_row R) (C.the_row S) ((the_former this).map R.Denot S.Denot h)
  the_places a = view_places fields (the_former this) view (λ X Y k u. refl) (λ X u. refl)
      R.Denot S.Denot h (C.the_row R).coded (C.the_row S).coded
      (invariant R.Denot) (invariant S.Denot)
      (λ u. IsKept-prop _ _ _ _ _) (λ u. IsKept-prop _ _ _ _ _)
      (λ u. IsKept-over h _ _ _ _ _) (λ u. IsKept-under h _ _ _ _ _)
      (over (I.the_row R)) (over (I.the_row S))
      (struct_places (I.the_type R) (I.the_type S)
      (vec.mapped (on_follower h), (vec.mapped h, (λ n. n, tt))) _ (λ d. refl) refl (
        laid _ _ _ (vec.the_places heap.the_row ghosts (instance.the_row R) (instance.the_row S)
            (on_follower h) (instance_places a)),
        (
          laid _ _ _ (vec.the_places heap.the_row ghosts R S h a),
          ((refl, (λ n. refl, λ n. refl)), tt),
        ),
      ))

  recoded : Recodes R S h → (x : Instance R.Denot)
      → (instance_code S.coded).code (on_follower h x) ≡ (instance_code R.coded).code x
  recoded e x = ap (λ c. gcons (coded_ℕ.code x.outer) c) (e x.follower)

  pub the_codes_placed : Recodes R S h
      → Recodes (C.the_row R) (C.the_row S) ((the_former this).map R.Denot S.Denot h)
  the_codes_placed e c = λ i. gcons
      (sym (code_map (instance_code R.coded).code (instance_code S.coded).code (on_follower h)
      (λ x. sym (recoded e x)) c.live) i)
      (gcons (sym (code_map R.coded.code S.coded.code h (λ x. sym (e x)) c.idle) i)
      (coded_ℕ.code c.room))
