-- For the prover. Followers by keys as a type that may hold followers that hold it.
use Rattle.std.specs.Prelude.{◌≡◌, ℕ, List, [], map, length}
use mathlib.Core.Path.{refl, sym, ap, ◌∙◌}
use mathlib.Core.Former.{Former, this, const, pair, list, via}
use native.Mathlib.Nat.{ℕ_set}
use lib.ListN.{length-map}
use base.Stored.{code_map, gcons, coded_list, coded_ℕ}
use denote.RattleType.{RattleType}
use denote.HoleLaws.{Alike}
use denote.HolePlaces.{Recodes, struct_places, laid}
use denote.Hole.Fix.{over}
use denote.Param.Weighed.{Weighed, w_const, w_list, w_pair, w_via}
use denote.Model.Placed.{view_places}
use Rattle.std.specs.List.{IsDistinct-prop}
use Rattle.std.specs.Str.{bytes_eq}
use Rattle.std.specs.formers.vec.Vec as vec
use Rattle.std.specs.declared.alloc.Global.{Global}
use Rattle.std.specs.contracts.alloc.Global as heap
use Rattle.std.specs.contracts.impls.GlobalAllocator.TheImpl.{ghosts}
use Rattle.map_collect.specs.Followers.{AreKept, Followers}
use Rattle.map_collect.specs.declared.keyed.Keyed.TheInside.{Inside}
use Rattle.map_collect.specs.declared.keyed.Keyed.TheView.{view, invariant}
use Rattle.map_collect.specs.contracts.keyed.Keyed as C
use Rattle.map_collect.specs.contracts.keyed.Keyed.TheInside as I

abbrev pub the_former : Former {0} → Former {0}
the_former g = via (pair (const (List (List ℕ))) (list g)) (λ X. Followers (g.Of X))
    (λ X k. (k.names, k.followers)) (λ X v. record { names = v.0; followers = v.1 })
    (λ X k. refl) (λ X v. refl)

abbrev pub the_weighed : {g : Former {0}} → Weighed g → Weighed (the_former g)
the_weighed {g} w = w_via (w_pair (w_const (List (List ℕ))) (w_list w)) (λ X. Followers (g.Of X))
    (λ X k. (k.names, k.followers)) (λ X v. record { names = v.0; followers = v.1 })
    (λ X k. refl) (λ X v. refl)

pub the_empty : Followers ⊥
the_empty = record { names = []; followers = [] }

abbrev fields : Former {0}
fields = via (pair (const _) (vec.the_former this Global)) Inside
    (λ X a. (a.names, a.followers)) (λ X v. record { names = v.0; followers = v.1 })
    (λ X a. refl) (λ X v. refl)

AreKept-prop : {X : Type 0} (names : List (List ℕ)) (followers : List X)
    → (p q : AreKept names followers) → p ≡ q
AreKept-prop names followers p q = λ i. record {
  distinct = IsDistinct-prop bytes_eq names p.distinct q.distinct i;
  each = ℕ_set (length followers) (length names) p.each q.each i;
}

module _ {X Y : Type 0} (h : X → Y) where
  AreKept-over : (names : List (List ℕ)) (followers : List X)
      → AreKept names followers → AreKept names (map h followers)
  AreKept-over names followers kept = record {
    distinct = kept.distinct;
    each = length-map followers h ∙ kept.each;
  }

  AreKept-under : (names : List (List ℕ)) (followers : List X)
      → AreKept names (map h followers) → AreKept names followers
  AreKept-under names followers kept = record {
    distinct = kept.distinct;
    each = sym (length-map followers h) ∙ kept.each;
  }

module _ (R S : RattleType) (h : R.Denot → S.Denot) where
  pub the_places : Alike R S h
      → Alike (C.the_row R) (C.the_row S) ((the_former this).map R.Denot S.Denot h)
  the_places a = view_places fields (the_former this) view (λ X Y k u. refl) (λ X u. refl)
      R.Denot S.Denot h (C.the_row R).coded (C.the_row S).coded
      (invariant R.Denot) (invariant S.Denot) (λ u. AreKept-prop _ _) (λ u. AreKept-prop _ _)
      (λ u. AreKept-over h _ _) (λ u. AreKept-under h _ _)
      (over (I.the_row R)) (over (I.the_row S))
      (struct_places (I.the_type R) (I.the_type S) (λ n. n, (vec.mapped h, tt)) _ (λ d. refl) refl (
        (refl, (λ n. refl, λ n. refl)),
        (laid _ _ _ (vec.the_places heap.the_row ghosts R S h a), tt),
      ))

  pub the_codes_placed : Recodes R S h
      → Recodes (C.the_row R) (C.the_row S) ((the_former this).map R.Denot S.Denot h)
  the_codes_placed e k = ap (λ c. gcons ((coded_list (coded_list coded_ℕ)).code k.names) c)
      (sym (code_map R.coded.code S.coded.code h (λ x. sym (e x)) k.followers))
