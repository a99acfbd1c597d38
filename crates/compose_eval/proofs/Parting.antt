-- The live ones continue, and the others come to rest, one after another.
use Rattle.std.proofs.Common.{◌≡◌, ◌+◌, ◌<◌, ◌∙◌, ◌++◌, ℕ, Bool, true, false, cond, not, List, []}
use Rattle.std.proofs.Common.{◌∷◌, length, refl, sym, ap, subst, arith}
use Rattle.std.specs.Prelude.{filter, get_or, remove}
use Rattle.std.proofs.lemmas.List.{get_or_default, append-nil, append_assoc, length-append}
use Rattle.std.proofs.lemmas.List.{map-append}
use Rattle.std.proofs.lemmas.List.Elements.{filter-append}
use Rattle.compose_eval.specs.Followers.{followers_of, live_instances, retired, AnswersAs, IsKept}
use Rattle.compose_eval.specs.declared.instance.Instance.{Instance}
use Rattle.compose_eval.proofs.Kept.{IsKept-retired}

module _ {R : Type 0} where
  -- after this many turns, of all instances those seen are live and kept, or at rest after the ones
  -- that rested before
  pub record HasParted {F : Type 0} (post : F → ℕ → Bool → Type 0) (test : F)
      (all : List (Instance R))
      (rested : List R) (turns place : ℕ) (live : List (Instance R)) (idle : List R) : Type 0 where
    pub seen : List (Instance R)
    pub kept : List (Instance R)
    pub rest : List (Instance R)
    pub whole : all ≡ seen ++ rest
    pub turned : turns ≡ length seen
    pub placed : place ≡ length kept
    pub living : live ≡ kept ++ rest
    pub decided : (is_live : ℕ → Bool) → AnswersAs post test is_live
        → (kept ≡ live_instances is_live seen) × (idle ≡ rested ++ retired is_live seen)

  module _ {F : Type 0} (post : F → ℕ → Bool → Type 0) (test : F) where
    -- before the first turn
    pub none_parted : (all live : List (Instance R)) (rested idle : List R)
        → live ≡ all → idle ≡ rested → HasParted post test all rested 0 0 live idle
    none_parted all live rested idle same_live same_idle = record {
      seen = [];
      kept = [];
      rest = all;
      whole = refl;
      turned = refl;
      placed = refl;
      living = same_live;
      decided = λ is_live answers. (refl, same_idle ∙ sym (append-nil rested));
    }

  module _ (is_live : ℕ → Bool) where
    live_one : (seen : List (Instance R)) (x : Instance R) → is_live x.outer ≡ true
        → live_instances is_live (seen ++ x ∷ []) ≡ live_instances is_live seen ++ x ∷ []
    live_one seen x live =
        filter-append (λ (y : Instance R). is_live y.outer) seen (x ∷ [])
        ∙ ap (λ (b : Bool). live_instances is_live seen ++ cond b (x ∷ []) []) live

    live_other : (seen : List (Instance R)) (x : Instance R) → is_live x.outer ≡ false
        → live_instances is_live (seen ++ x ∷ []) ≡ live_instances is_live seen
    live_other seen x live =
        filter-append (λ (y : Instance R). is_live y.outer) seen (x ∷ [])
        ∙ ap (λ (b : Bool). live_instances is_live seen ++ cond b (x ∷ []) []) live
        ∙ append-nil (live_instances is_live seen)

    retired_first : (seen : List (Instance R)) (x : Instance R) (b : Bool) → is_live x.outer ≡ b
        → retired is_live (seen ++ x ∷ [])
        ≡ retired is_live seen ++ followers_of (cond (not b) (x ∷ []) [])
    retired_first seen x b live =
        ap (λ (xs : List (Instance R)). followers_of xs)
        (filter-append (λ (y : Instance R). not (is_live y.outer)) seen (x ∷ []))
        ∙ map-append (λ (y : Instance R). y.follower)
        (filter (λ (y : Instance R). not (is_live y.outer)) seen)
        (cond (not (is_live x.outer)) (x ∷ []) [])
        ∙ ap (λ (c : Bool). retired is_live seen ++ followers_of (cond (not c) (x ∷ []) [])) live

  at_place : (kept : List (Instance R)) (y : Instance R) (rest : List (Instance R)) (d : Instance R)
      → get_or (kept ++ y ∷ rest) (length kept) d ≡ y
  at_place [] y rest d = refl
  at_place (z ∷ kept) y rest d = at_place kept y rest d

  left_at : (kept : List (Instance R)) (y : Instance R) (rest : List (Instance R))
      → remove (kept ++ y ∷ rest) (length kept) ≡ kept ++ rest
  left_at [] y rest = refl
  left_at (z ∷ kept) y rest = ap (λ (xs : List (Instance R)). z ∷ xs) (left_at kept y rest)

  -- two that are read at a place are the same
  pub same_read : (live : List (Instance R)) (place : ℕ) (x y : Instance R) → place < length live
      → x ≡ get_or live place x → y ≡ get_or live place y → x ≡ y
  same_read live place x y inside read read_too =
      read ∙ get_or_default live place x y inside ∙ sym read_too

  -- what is read at the place is the first of the rest
  read_next : (live kept rest : List (Instance R)) (place : ℕ) (y x : Instance R)
      → live ≡ kept ++ y ∷ rest → place ≡ length kept → x ≡ get_or live place x → x ≡ y
  read_next live kept rest place y x living placed read =
      read
      ∙ ap (λ (xs : List (Instance R)). get_or xs place x) living
      ∙ ap (λ (i : ℕ). get_or (kept ++ y ∷ rest) i x) placed
      ∙ at_place kept y rest x

  not_over : (all seen : List (Instance R)) (turns : ℕ) → all ≡ seen ++ [] → turns ≡ length seen
      → turns < length all → ⊥
  not_over all seen turns whole turned below =
      let long : length all ≡ length (seen ++ []) =
      ap (λ (xs : List (Instance R)). length xs) whole in
      let count = length-append seen [] in
      omega (arith, turned, below, long, count)

  -- the next one, which is first of the rest
  pub record IsNext {F : Type 0} (post : F → ℕ → Bool → Type 0) (test : F) (all : List (Instance R))
      (rested : List R) (turns place : ℕ) (live : List (Instance R)) (idle : List R)
      (x : Instance R) : Type 0 where
    pub parted : HasParted post test all rested turns place live idle
    pub after : List (Instance R)
    pub first : parted.rest ≡ x ∷ after

  module _ {F : Type 0} (post : F → ℕ → Bool → Type 0) (test : F) where
    next_of : (all live : List (Instance R)) (rested idle : List R) (turns place : ℕ)
        (x : Instance R) → (parted : HasParted post test all rested turns place live idle)
        → (rest : List (Instance R)) → parted.rest ≡ rest
        → turns < length all → x ≡ get_or live place x
        → IsNext post test all rested turns place live idle x
    next_of all live rested idle turns place x parted [] are below read =
        absurd (not_over all parted.seen turns
        (parted.whole ∙ ap (λ (xs : List (Instance R)). parted.seen ++ xs) are) parted.turned below)
    next_of all live rested idle turns place x parted (y ∷ rest) are below read =
        let living = parted.living ∙ ap (λ (xs : List (Instance R)). parted.kept ++ xs) are in
        let same = read_next live parted.kept rest place y x living parted.placed read in
        record {
          parted = parted;
          after = rest;
          first = are ∙ ap (λ (z : Instance R). z ∷ rest) (sym same);
        }

    -- where not all have been seen, what is read at the place is the next one
    pub next : (all live : List (Instance R)) (rested idle : List R) (turns place : ℕ)
        (x : Instance R) → HasParted post test all rested turns place live idle
        → turns < length all → x ≡ get_or live place x
        → IsNext post test all rested turns place live idle x
    next all live rested idle turns place x parted below read =
        next_of all live rested idle turns place x parted parted.rest refl below read

    -- it stands among the instances
    pub next_inside : (all live : List (Instance R)) (rested idle : List R) (turns place : ℕ)
        → HasParted post test all rested turns place live idle → turns < length all
        → place < length live
    next_inside all live rested idle turns place parted below =
        let whole = ap (λ (xs : List (Instance R)). length xs) parted.whole in
        let living = ap (λ (xs : List (Instance R)). length xs) parted.living in
        let seen = length-append parted.seen parted.rest in
        let kept = length-append parted.kept parted.rest in
        let turned = parted.turned in
        let placed = parted.placed in
        omega (arith, whole, living, seen, kept, turned, placed, below)

    -- a live one stays where it is
    pub live_turn : (all live : List (Instance R)) (rested idle : List R) (turns place : ℕ)
        (x : Instance R) → IsNext post test all rested turns place live idle x
        → post test x.outer true → HasParted post test all rested (turns + 1) (place + 1) live idle
    live_turn all live rested idle turns place x at said =
        let parted = at.parted in
        let seen = parted.seen in
        let kept = parted.kept in
        let rest = at.after in
        let seen_count = length-append seen (x ∷ []) in
        let kept_count = length-append kept (x ∷ []) in
        let turned = parted.turned in
        let placed = parted.placed in
        record {
          seen = seen ++ x ∷ [];
          kept = kept ++ x ∷ [];
          rest = rest;
          whole = parted.whole ∙ ap (λ (xs : List (Instance R)). seen ++ xs) at.first
              ∙ sym (append_assoc seen (x ∷ []) rest);
          turned = omega (arith, turned, seen_count);
          placed = omega (arith, placed, kept_count);
          living = parted.living ∙ ap (λ (xs : List (Instance R)). kept ++ xs) at.first
              ∙ sym (append_assoc kept (x ∷ []) rest);
          decided = λ is_live answers.
              let before = parted.decided is_live answers in
              let live : is_live x.outer ≡ true = sym (answers x.outer true said) in
              let one = live_one is_live seen x live in
              let none = retired_first is_live seen x true live
              ∙ append-nil (retired is_live seen) in (
                ap (λ (xs : List (Instance R)). xs ++ x ∷ []) before.0 ∙ sym one,
                before.1 ∙ ap (λ (ys : List R). rested ++ ys) (sym none),
              );
        }

    -- any other one comes to rest
    pub retire_turn : (all live left : List (Instance R)) (rested idle now : List R)
        (turns place : ℕ) → (x : Instance R) → IsNext post test all rested turns place live idle x
        → post test x.outer false → left ≡ remove live place → now ≡ idle ++ x.follower ∷ []
        → HasParted post test all rested (turns + 1) place left now
    retire_turn all live left rested idle now turns place x at said removed came =
        let parted = at.parted in
        let seen = parted.seen in
        let kept = parted.kept in
        let rest = at.after in
        let seen_count = length-append seen (x ∷ []) in
        let turned = parted.turned in
        let living = parted.living ∙ ap (λ (xs : List (Instance R)). kept ++ xs) at.first in
        record {
          seen = seen ++ x ∷ [];
          kept = kept;
          rest = rest;
          whole = parted.whole ∙ ap (λ (xs : List (Instance R)). seen ++ xs) at.first
              ∙ sym (append_assoc seen (x ∷ []) rest);
          turned = omega (arith, turned, seen_count);
          placed = parted.placed;
          living = removed ∙ ap (λ (xs : List (Instance R)). remove xs place) living
              ∙ ap (λ (i : ℕ). remove (kept ++ x ∷ rest) i) parted.placed ∙ left_at kept x rest;
          decided = λ is_live answers.
              let before = parted.decided is_live answers in
              let live : is_live x.outer ≡ false = sym (answers x.outer false said) in
              let one = retired_first is_live seen x false live in (
                before.0 ∙ sym (live_other is_live seen x live),
                came ∙ ap (λ (ys : List R). ys ++ x.follower ∷ []) before.1
                    ∙ append_assoc rested (retired is_live seen) (x.follower ∷ [])
                    ∙ ap (λ (ys : List R). rested ++ ys) (sym one),
              );
        }

    -- and stays in its room
    pub retired_kept : (all live left : List (Instance R)) (rested idle now : List R)
        (turns place : ℕ) → (x : Instance R) (room c d same grown : ℕ)
        → IsNext post test all rested turns place live idle x
        → IsKept live idle room c d → left ≡ remove live place → now ≡ idle ++ x.follower ∷ []
        → same ≡ c → grown ≡ d → IsKept left now room same grown
    retired_kept all live left rested idle now turns place x room c d same grown at was
        removed came a b =
        let parted = at.parted in
        let kept = parted.kept in
        let rest = at.after in
        let living : live ≡ kept ++ x ∷ rest =
        parted.living ∙ ap (λ (xs : List (Instance R)). kept ++ xs) at.first in
        let gone = removed ∙ ap (λ (xs : List (Instance R)). remove xs place) living
        ∙ ap (λ (i : ℕ). remove (kept ++ x ∷ rest) i) parted.placed ∙ left_at kept x rest in
        IsKept-retired kept rest left idle now x room c d same grown gone came
        (subst (λ (xs : List (Instance R)). IsKept xs idle room c d) living was) a b
