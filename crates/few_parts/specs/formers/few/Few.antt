-- For the prover. A few things as a type that may hold the type that holds it.
use Rattle.std.specs.Prelude.{◌≡◌, ℕ, List, [], length, map}
use mathlib.Core.Path.{refl, sym, subst}
use mathlib.Core.Former.{Former, this, list, via, children}
use native.Mathlib.Bridge.{le_prop}
use lib.ListN.{length-map}
use base.Stored.{code_map}
use denote.RattleType.{RattleType}
use denote.HoleLaws.{Alike}
use denote.HolePlaces.{Recodes, struct_places, laid}
use denote.Hole.Carrier.{listed, list-listed}
use denote.Hole.Fix.{over}
use denote.Param.Weighed.{Weighed, w_list}
use denote.Model.Placed.{view_places}
use Rattle.std.specs.formers.vec.Vec as vec
use Rattle.std.specs.declared.alloc.Global.{Global}
use Rattle.std.specs.contracts.alloc.Global as heap
use Rattle.std.specs.contracts.impls.GlobalAllocator.TheImpl.{ghosts}
use Rattle.few_parts.specs.Sizes.{IsRecordSize}
use Rattle.few_parts.specs.declared.few.Few.TheInside.{Inside}
use Rattle.few_parts.specs.declared.few.Few.TheView.{view, invariant}
use Rattle.few_parts.specs.contracts.few.Few as C
use Rattle.few_parts.specs.contracts.few.Few.TheInside as I

abbrev pub the_former : Former {0} → Former {0}
the_former g = list g

abbrev pub the_weighed : {g : Former {0}} → Weighed g → Weighed (the_former g)
the_weighed w = w_list w

pub the_empty : List ⊥
the_empty = []

abbrev pub the_items : (X : Type 0) → List X → List X
the_items X d = d

pub the_items_listed : (X : Type 0) (d : List X)
    → listed _ (children (the_former this) X d) ≡ the_items X d
the_items_listed X d = list-listed X d

abbrev fields : Former {0}
fields = via (vec.the_former this Global) Inside (λ X a. a.items) (λ X v. record { items = v })
    (λ X a. refl) (λ X v. refl)

-- the size has one proof at most, and is the same of as many things
size-prop : (size : ℕ) → (p q : IsRecordSize size) → p ≡ q
size-prop size p q = λ i. (le_prop p.0 q.0 i, le_prop p.1 q.1 i)

module _ {X Y : Type 0} (h : X → Y) where
  size-over : (xs : List X) → IsRecordSize (length xs) → IsRecordSize (length (map h xs))
  size-over xs size = subst IsRecordSize (sym (length-map xs h)) size

  size-under : (xs : List X) → IsRecordSize (length (map h xs)) → IsRecordSize (length xs)
  size-under xs size = subst IsRecordSize (length-map xs h) size

module _ (R S : RattleType) (h : R.Denot → S.Denot) where
  pub the_places : Alike R S h
      → Alike (C.the_row R) (C.the_row S) ((the_former this).map R.Denot S.Denot h)
  the_places a = view_places fields (list this) view (λ X Y k u. refl) (λ X u. refl)
      R.Denot S.Denot h (C.the_row R).coded (C.the_row S).coded
      (invariant R.Denot) (invariant S.Denot)
      (λ u. size-prop _) (λ u. size-prop _) (λ u. size-over h _) (λ u. size-under h _)
      (over (I.the_row R)) (over (I.the_row S))
      (struct_places (I.the_type R) (I.the_type S) (vec.mapped h, tt) _ (λ d. refl) refl
      (laid _ _ _ (vec.the_places heap.the_row ghosts R S h a), tt))

  pub the_codes_placed : Recodes R S h
      → Recodes (C.the_row R) (C.the_row S) ((the_former this).map R.Denot S.Denot h)
  the_codes_placed e d = sym (code_map R.coded.code S.coded.code h (λ x. sym (e x)) d)
