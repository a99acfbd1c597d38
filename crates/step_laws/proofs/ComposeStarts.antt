-- A compose: a start.
use Rattle.std.proofs.Common.{◌≡◌, ◌∙◌, ℕ, Bool, true, false, IsTrue, List, [], ◌∷◌, ◌++◌, Option}
use Rattle.std.proofs.Common.{Some, None, length, refl, sym, ap, subst, arith, inl, inr}
use Rattle.std.specs.List.{Contains}
use Rattle.std.proofs.lemmas.List.{length-append, map-append}
use Rattle.std.proofs.lemmas.List.Elements.{Contains-append_left, Contains-push}
use Rattle.std.proofs.lemmas.List.Elements.{Contains-push_cases}
use Rattle.item_schema.specs.declared.column.Column.{Column}
use Rattle.rate_expr.specs.Words.{Word, IsWordOf}
use Rattle.query_model.specs.Denotation.{Den, Outputs}
use Rattle.query_model.specs.Queries.{Qre, compose}
use Rattle.query_model.specs.QueryTypes.{derived_columns, type_of}
use Rattle.query_model.specs.Rules.{Standing, IsClear}
use Rattle.compose_eval.specs.Followers.{Contents, outers_of}
use Rattle.compose_eval.specs.declared.instance.Instance.{Instance}
use Rattle.eval_nodes.specs.Runners.{FollowsWord}
use Rattle.eval_nodes.specs.Holdings.{Holding, compose_held, Seen}
use Rattle.eval_nodes.specs.Live.{live_of}
use Rattle.eval_nodes.specs.Starts.{AreApart, AreDifferent, ArePositions, IsLive}
use Rattle.eval_nodes.proofs.Few.{few_live}
use Rattle.eval_nodes.proofs.Instances.{different_more, none_fed}
use Rattle.eval_nodes.proofs.Living.{living}
use Rattle.eval_nodes.proofs.Pieces.{after_end}
use Rattle.step_laws.specs.declared.hit.Hit.{Hit}
use Rattle.step_laws.specs.Feeds.{Feeds, HasIdle, IsBegun, IsFedFrom, item_of}
use Rattle.step_laws.specs.Steps.{IsFirstHit, Starts}
use Rattle.step_laws.proofs.ComposeHits.{composed_first, none_composed_first}
use Rattle.step_laws.proofs.Fed.{Row, Sees}
use Rattle.step_laws.proofs.FedFew.{idle_started}
use Rattle.step_laws.proofs.Outputs.{out_word}

module _ {R : Type 0} (seen : R → Seen R) (standing : Standing) (columns : List Column) (f g : Qre)
    (clear : IsClear standing columns f)
    (clear_right : IsClear standing (derived_columns (type_of columns f)) g) where
  -- the row of a compose
  abbrev RowOf : (ℕ → Type 0) → Word → Contents R → Type 0
  RowOf lives word held = Row seen standing columns f g clear clear_right lives word held

  -- what comes out on the empty word goes to a runner that has begun anew, and the
  -- hit is its answer
  begun_sees : (at : ℕ) (left : Option Hit) (runner next : R) (hit : Option Hit)
      → IsFirstHit (Den f) at left → IsBegun seen g runner left next hit
      → ((out : Word) × Outputs (Den f) [] [] out
      × FollowsWord seen (derived_columns (type_of columns f)) g out next)
      × IsFirstHit (Den (compose f g)) at hit
  begun_sees at None runner next hit first (renewed, none) = (
    (
      [],
      inr (first, refl),
      renewed.word standing (derived_columns (type_of columns f)) clear_right,
    ),
    subst (IsFirstHit (Den (compose f g)) at) (sym none)
        (none_composed_first standing columns f g clear at first),
  )
  begun_sees at (Some found) runner next hit first (between, renewed, delivered) =
      let out : Word = item_of found.value ∷ [] in
      let outputs : Outputs (Den f) [] [] out = inl (found.value, first.1, refl) in
      let follows = delivered.carried.word standing
      (derived_columns (type_of columns f)) [] clear_right
      (out_word standing columns f clear [] out tt outputs)
      (renewed.word standing (derived_columns (type_of columns f)) clear_right) in (
        (out, outputs, follows),
        subst (IsFirstHit (Den (compose f g)) at) (sym delivered.answers)
            (composed_first standing columns f g clear at found out (seen next).answer first outputs
            follows.answer),
      )

  -- one is idle, since live starts are fewer than runners, and the new start feeds none
  has_idle : (word : Word) (starts : List ℕ) (at : ℕ) (held : Contents R) → IsWordOf columns word
      → ArePositions word starts → (Contains starts at → ⊥)
      → AreApart columns f word (starts ++ at ∷ []) → RowOf (IsLive columns f word starts) word held
      → HasIdle held at
  has_idle word starts at held is positions fresh apart row =
      let few = few_live standing columns f word starts (outers_of held.live) clear is positions
      (λ i j more more_is first second. apart i j more more_is
      (Contains-append_left starts (at ∷ []) i first)
      (Contains-append_left starts (at ∷ []) j second))
      row.distinct (λ i there. (row.there i).0 there) in
      let many = outers_many held.live in
      let full = row.full in
      record {
        idle = omega (arith, few, many, full);
        fresh = none_fed held.live at (λ there. fresh ((row.there at).0 there).0);
      }
    where
      outers_many : (live : List (Instance R)) → length (outers_of live) ≡ length live
      outers_many [] = refl
      outers_many (x ∷ live) = let rest = outers_many live in omega (arith, rest)

  -- the start of the runner can continue, and it is fed from there
  fed_live : (word : Word) (starts : List ℕ) (at : ℕ) (held : Contents R) (front : List R)
      (runner next : R) → (Contains starts at → ⊥) → RowOf (IsLive columns f word starts) word held
      → held.idle ≡ front ++ runner ∷ [] → IsLive columns f word (starts ++ at ∷ []) at
      → Sees seen standing columns f g clear clear_right word at next
      → RowOf (IsLive columns f word (starts ++ at ∷ [])) word (record {
        live = held.live ++ record { outer = at; follower = next } ∷ [];
        idle = front;
        room = held.room;
      })
  fed_live word starts at held front runner next fresh row last live sees =
      let x : Instance R = record { outer = at; follower = next } in
      let outers : outers_of (held.live ++ x ∷ []) ≡ outers_of held.live ++ at ∷ [] =
      map-append (λ (y : Instance R). y.outer) held.live (x ∷ []) in
      let full = row.full in
      let rests = ap length last ∙ length-append front (runner ∷ []) in
      let lives = length-append held.live (x ∷ []) in
      record {
        distinct = subst AreDifferent (sym outers)
            (different_more (outers_of held.live) at row.distinct
            (λ there. fresh ((row.there at).0 there).0));
        there = λ start. (
          λ there. elim (Contains-push_cases (outers_of held.live) at start
              (subst (λ (xs : List ℕ). Contains xs start) outers there)) [
                | inl old ↦
                    let (from, continues) = (row.there start).0 old in
                    (Contains-append_left starts (at ∷ []) start from, continues)
                | inr same ↦ subst (IsLive columns f word (starts ++ at ∷ [])) same live
              ],
          λ (from, continues). subst (λ (xs : List ℕ). Contains xs start) (sym outers)
              (elim (Contains-push_cases starts at start from) [
                | inl old ↦ Contains-append_left (outers_of held.live) (at ∷ []) start
                    ((row.there start).1 (old, continues))
                | inr same ↦ subst (Contains (outers_of held.live ++ at ∷ [])) same
                    (Contains-push (outers_of held.live) at)
              ]),
        );
        each = λ start follower there. elim (Contains-push_cases held.live x
            (record { outer = start; follower = follower }) there) [
              | inl old ↦ row.each start follower old
              | inr same ↦ subst (λ (y : Instance R). Sees seen standing columns f g clear
                  clear_right word y.outer y.follower)
                  same sees
            ];
        full = omega (arith, full, rests, lives);
      }

  -- it can't, and the runner comes to rest again
  fed_dead : (word : Word) (starts : List ℕ) (at : ℕ) (held : Contents R) (front : List R)
      (runner next : R) → RowOf (IsLive columns f word starts) word held
      → held.idle ≡ front ++ runner ∷ [] → (IsLive columns f word (starts ++ at ∷ []) at → ⊥)
      → RowOf (IsLive columns f word (starts ++ at ∷ [])) word (record {
        live = held.live;
        idle = front ++ next ∷ [];
        room = held.room;
      })
  fed_dead word starts at held front runner next row last dead =
      let full = row.full in
      let rests = ap length last ∙ length-append front (runner ∷ []) in
      let rested = length-append front (next ∷ []) in
      record {
        distinct = row.distinct;
        there = λ start. (
          λ there.
              let (from, continues) = (row.there start).0 there in
              (Contains-append_left starts (at ∷ []) start from, continues),
          λ (from, continues). elim (Contains-push_cases starts at start from) [
            | inl old ↦ (row.there start).1 (old, continues)
            | inr same ↦ absurd (dead (subst (IsLive columns f word (starts ++ at ∷ [])) (sym same)
                (from, continues)))
          ],
        );
        each = row.each;
        full = omega (arith, full, rests, rested);
      }

  fed_from : (live : Bool) (word : Word) (starts : List ℕ) (at : ℕ) (held new : Contents R)
      (left hit : Option Hit) → (Contains starts at → ⊥)
      → RowOf (IsLive columns f word starts) word held
      → (IsTrue live → IsLive columns f word (starts ++ at ∷ []) at)
      → (IsLive columns f word (starts ++ at ∷ []) at → IsTrue live)
      → (feeds : IsFedFrom seen g held live at left new hit)
      → Sees seen standing columns f g clear clear_right word at feeds.next
      → RowOf (IsLive columns f word (starts ++ at ∷ [])) word new
  fed_from true word starts at held new left hit fresh row continues is_live feeds sees =
      subst (RowOf (IsLive columns f word (starts ++ at ∷ [])) word) (sym feeds.is)
      (fed_live word starts at held feeds.front feeds.runner feeds.next fresh row feeds.last
      (continues refl) sees)
  fed_from false word starts at held new left hit fresh row continues is_live feeds sees =
      subst (RowOf (IsLive columns f word (starts ++ at ∷ [])) word) (sym feeds.is)
      (fed_dead word starts at held feeds.front feeds.runner feeds.next row feeds.last
      (λ live. let wrong : false ≡ true = is_live live in cc))

module _ {R : Type 0} (seen : R → Seen R) where
  pub start_compose : (f g : Qre) (a a' : Holding R) (held new : Contents R) (at : ℕ)
      (left hit : Option Hit) (live : Bool) → Starts seen f a at a' left → live ≡ live_of f a' at
      → Feeds seen g held live at left new hit
      → Starts seen (compose f g) (compose_held a held) at (compose_held a' new) hit
  start_compose f g a a' held new at left hit live first is_live feeds =
      λ standing columns word starts clear is positions rep fresh end apart.
      let x = first standing columns word starts clear.0 is positions rep.0 fresh end apart in
      let all : ArePositions word (starts ++ at ∷ []) =
      (λ start there. elim (Contains-push_cases starts at start there) [
        | inl old ↦ positions start old
        | inr same ↦ omega (arith, same, end)
      ]) in
      let lives = living seen standing columns f a' word (starts ++ at ∷ []) at clear.0
      is all x.after in
      elim feeds [
        | inl (can, feeds_one) ↦
            let (sees, hit_is) = begun_sees seen standing columns f g clear.0 clear.1 at left
            feeds_one.runner feeds_one.next hit x.hit feeds_one.begun in
            let (out, outputs, follows) = sees in
            let sees_at : Sees seen standing columns f g clear.0 clear.1 word at feeds_one.next = (
              out,
              subst (λ (u : Word). Outputs (Den f) [] u out) (sym (after_end word at end)) outputs,
              follows,
            ) in
            record {
              after = (
                x.after,
                fed_from seen standing columns f g clear.0 clear.1 live word starts at held new
                    left hit fresh rep.1 (λ continues. lives.0 (subst IsTrue is_live continues))
                    (λ continues. subst IsTrue (sym is_live) (lives.1 continues)) feeds_one
                    sees_at,
                idle_started seen standing columns f g clear.0 clear.1 clear.2 live word at held new
                    left hit is rep.2 feeds_one sees_at,
              );
              hit = hit_is;
            }
        | inr (cannot, same, none) ↦ absurd (cannot
            (has_idle seen standing columns f g clear.0 clear.1 word starts at held is positions
            fresh apart rep.1))
      ]
