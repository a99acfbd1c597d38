-- The runners of a compose after one more item: each follows what comes out from its start, and
-- there is one for each start that can continue.
use Rattle.std.proofs.Common.{◌≡◌, ◌≤◌, ◌↔◌, ◌∙◌, ℕ, ◌+◌, Bool, IsTrue, List, [], ◌∷◌, ◌++◌, Option}
use Rattle.std.proofs.Common.{Some, None, drop, length, sym, ap, subst, arith, inl, inr}
use Rattle.std.specs.List.{Contains}
use Rattle.std.proofs.lemmas.List.{length-append}
use Rattle.value_ops.specs.declared.field.Field.{Field}
use Rattle.value_ops.specs.declared.value.Value.{Value}
use Rattle.item_schema.specs.declared.column.Column.{Column}
use Rattle.rate_expr.specs.Language.{In}
use Rattle.rate_expr.specs.Readings.{HasExtension}
use Rattle.rate_expr.specs.Words.{Word, IsWordOf}
use Rattle.rate_expr.proofs.Wording.{word_parts}
use Rattle.query_model.specs.Bounds.{places_of}
use Rattle.query_model.specs.Denotation.{Den, Outputs}
use Rattle.query_model.specs.Queries.{Qre}
use Rattle.query_model.specs.QueryTypes.{derived_columns, type_of}
use Rattle.query_model.specs.Rates.{rate_of}
use Rattle.query_model.specs.Rules.{Standing, IsClear}
use Rattle.query_model.proofs.InRates.{den_in}
use Rattle.compose_eval.specs.Followers.{Contents, instance_at, live_instances, outers_of, retired}
use Rattle.compose_eval.specs.Followers.{with_follower}
use Rattle.compose_eval.specs.declared.instance.Instance.{Instance}
use Rattle.compose_eval.proofs.Starts.{as_many, same_outers}
use Rattle.eval_nodes.specs.Runners.{FollowsWord}
use Rattle.eval_nodes.specs.Holdings.{Seen}
use Rattle.eval_nodes.specs.Represents.{AreFed, IsFed}
use Rattle.eval_nodes.specs.Starts.{AreApart, AreDifferent, ArePositions, IsLive}
use Rattle.eval_nodes.proofs.Instances.{kept_count, kept_different, kept_member, member_kept}
use Rattle.eval_nodes.proofs.Instances.{member_outer, outer_member, read_member, some_fed}
use Rattle.eval_nodes.proofs.Instances.{written_member}
use Rattle.eval_nodes.proofs.Pieces.{drop_more, word_after}
use Rattle.step_laws.specs.declared.hit.Hit.{Hit}
use Rattle.step_laws.specs.Feeds.{IsPassed, IsDelivered, PassesOn, item_of}
use Rattle.step_laws.specs.Steps.{IsHit}
use Rattle.step_laws.proofs.Outputs.{none_comes, one_comes, out_word}
use Rattle.step_laws.proofs.Quiet.{extension_before, quiet}

module _ {R : Type 0} (seen : R → Seen R) (standing : Standing) (columns : List Column) (f g : Qre)
    (clear : IsClear standing columns f)
    (clear_right : IsClear standing (derived_columns (type_of columns f)) g) where
  -- the runner follows what comes out from the start
  abbrev pub Sees : Word → ℕ → R → Type 0
  Sees word start runner =
      IsFed seen
      (Den f) (λ (out : Word). FollowsWord seen (derived_columns (type_of columns f)) g out)
      (drop start word) runner

  -- the runners of the starts, whatever these are
  abbrev pub Row : (ℕ → Type 0) → Word → Contents R → Type 0
  Row lives word held = AreFed seen lives (Sees word) (places_of f + 1) held

  module _ (word : Word) (item : List Field) (starts : List ℕ)
      (is : IsWordOf columns (word ++ item ∷ [])) (positions : ArePositions word starts) where
    -- the start of a runner is a start
    started : (held : Contents R) → Row (IsLive columns f word starts) word held
        → (start : ℕ) (runner : R)
        → Contains held.live (record { outer = start; follower = runner }) → Contains starts start
    started held row start runner there =
        ((row.there start).0
        (outer_member held.live (record { outer = start; follower = runner }) there)).0

    -- no value: what comes out stays the same
    sees_none : (start : ℕ) (runner : R) → start ≤ length word → Sees word start runner
        → ((v : Value) → Den f (drop start (word ++ item ∷ [])) v → ⊥)
        → Sees (word ++ item ∷ []) start runner
    sees_none start runner inside (out, outputs, follows) none = (
      out,
      subst (λ (u : Word). Outputs (Den f) [] u out) (sym (drop_more word item start inside))
          (none_comes (Den f) (drop start word) item out outputs
          (λ v den. none v
          (subst (λ (u : Word). Den f u v) (sym (drop_more word item start inside)) den))),
      follows,
    )

    -- a value: it comes out, and the runner takes it
    sees_one : (left : Hit) (runner delivered : R) (hit : Option Hit) → left.start ≤ length word
        → Den f (drop left.start (word ++ item ∷ [])) left.value → Sees word left.start runner
        → IsDelivered seen g runner left delivered hit
        → Sees (word ++ item ∷ []) left.start delivered
    sees_one left runner delivered hit inside den (out, outputs, follows) delivers =
        let after = drop_more word item left.start inside in
        let longer =
        subst (λ (u : Word). Outputs (Den f) [] u (out ++ item_of left.value ∷ [])) (sym after)
        (one_comes (Den f) (drop left.start word) item out left.value outputs
        (subst (λ (u : Word). Den f u left.value) after den)) in (
          out ++ item_of left.value ∷ [],
          longer,
          delivers.carried.word standing (derived_columns (type_of columns f)) out clear_right
              (out_word standing columns f clear (drop left.start (word ++ item ∷ []))
              (out ++ item_of left.value ∷ [])
              (word_after columns (word ++ item ∷ []) left.start is) longer)
              follows,
        )

    -- no value from any start
    none_fed_on : (held : Contents R) → Row (IsLive columns f word starts) word held
        → ((start : ℕ) (v : Value) → Contains starts start
        → Den f (drop start (word ++ item ∷ [])) v → ⊥)
        → Row (IsLive columns f word starts) (word ++ item ∷ []) held
    none_fed_on held row none = record {
      distinct = row.distinct;
      there = row.there;
      each = λ start runner there.
          let from = started held row start runner there in
          sees_none start runner (positions start from) (row.each start runner there)
          (λ v den. none start v from den);
      full = row.full;
    }

    -- the runner of the hit takes its value, and from no other start there is one
    one_fed_on : (held passed : Contents R) (found : Hit) (hit : Option Hit)
        → Row (IsLive columns f word starts) word held
        → AreApart columns f (word ++ item ∷ []) starts
        → IsHit (Den f) (word ++ item ∷ []) starts (Some found)
        → IsPassed seen g held found passed hit
        → Row (IsLive columns f word starts) (word ++ item ∷ []) passed
    one_fed_on held passed found hit row apart left passes =
        let fed : Instance R = record { outer = found.start; follower = passes.runner } in
        let outers : outers_of (with_follower held.live passes.place passes.delivered)
        ≡ outers_of held.live =
        same_outers held.live passes.place passes.delivered in
        let among : Contains held.live fed = read_member held.live passes.place fed passes.at in
        let inside = positions found.start (started held row found.start passes.runner among) in
        let many = as_many held.live passes.place passes.delivered in
        let full = row.full in
        subst (Row (IsLive columns f word starts) (word ++ item ∷ [])) (sym passes.is) (record {
          distinct = subst AreDifferent (sym outers) row.distinct;
          there = λ start. (
            λ there. (row.there start).0 (subst (λ (xs : List ℕ). Contains xs start) outers there),
            λ live. subst (λ (xs : List ℕ). Contains xs start) (sym outers)
                ((row.there start).1 live),
          );
          each = λ start runner there.
              elim (written_member held.live passes.place found.start passes.runner passes.delivered
              (record { outer = start; follower = runner }) passes.at row.distinct there) [
                | inl same ↦ subst (λ (x : Instance R). Sees (word ++ item ∷ []) x.outer x.follower)
                    (sym same)
                    (sees_one found passes.runner passes.delivered hit inside left.sound.1
                    (row.each found.start passes.runner among) passes.delivers)
                | inr (old, differs) ↦
                    let from = started held row start runner old in
                    sees_none start runner (positions start from) (row.each start runner old)
                    (quiet standing columns f clear (word ++ item ∷ []) starts is apart found left
                    start from differs)
              ];
          full = omega (arith, many, full);
        })

    -- a hit is at a start that feeds one
    pub hit_feeds : (held : Contents R) (found : Hit) → Row (IsLive columns f word starts) word held
        → IsHit (Den f) (word ++ item ∷ []) starts (Some found)
        → instance_at held.live found.start ≡ None → ⊥
    hit_feeds held found row left none =
        let from = left.sound.0 in
        let in_f = den_in standing columns f (drop found.start (word ++ item ∷ []))
        found.value clear (word_after columns (word ++ item ∷ []) found.start is) left.sound.1 in
        let old = word_parts columns word (item ∷ []) is in
        some_fed held.live found.start ((row.there found.start).1 (
          from,
          (
            item,
            [],
            old.1,
            subst (In (rate_of f))
                (drop_more word item found.start (positions found.start from)) in_f,
          ),
        )) none

    -- each follows what comes out after the item
    pub fed_on : (held passed : Contents R) (left hit : Option Hit)
        → Row (IsLive columns f word starts) word held
        → AreApart columns f (word ++ item ∷ []) starts
        → IsHit (Den f) (word ++ item ∷ []) starts left → PassesOn seen g held left passed hit
        → Row (IsLive columns f word starts) (word ++ item ∷ []) passed
    fed_on held passed None hit row apart left (same, none) =
        subst (Row (IsLive columns f word starts) (word ++ item ∷ [])) (sym same)
        (none_fed_on held row left.complete)
    fed_on held passed (Some found) hit row apart left passes = elim passes [
      | inl one ↦ one_fed_on held passed found hit row apart left one
      | inr (none, same, no_hit) ↦ absurd (hit_feeds held found row left none)
    ]

    -- those whose start can continue stay
    pub narrowed : (passed kept : Contents R) (p : ℕ → Bool)
        → ((start : ℕ) → IsTrue (p start) ↔ IsLive columns f (word ++ item ∷ []) starts start)
        → kept.live ≡ live_instances p passed.live
        → kept.idle ≡ passed.idle ++ retired p passed.live
        → Row (IsLive columns f word starts) (word ++ item ∷ []) passed
        → Row (IsLive columns f (word ++ item ∷ []) starts) (word ++ item ∷ []) kept
    narrowed passed kept p lives live idle row =
        let old = word_parts columns word (item ∷ []) is in
        let full = row.full in
        let many = kept_count p passed.live in
        let lives_now = ap length live in
        let rests_now = ap length idle ∙ length-append passed.idle (retired p passed.live) in
        record {
          distinct = subst (λ (xs : List (Instance R)). AreDifferent (outers_of xs)) (sym live)
              (kept_different p passed.live row.distinct);
          there = λ start. (
            λ there.
                let (runner, among) = member_outer (live_instances p passed.live) start
                (subst (λ (xs : List (Instance R)). Contains (outers_of xs) start) live there) in
                (lives start).0
                (kept_member p passed.live (record { outer = start; follower = runner }) among).1,
            λ continues.
                let before = extension_before columns (rate_of f) (drop start word) item old.1
                (subst (HasExtension columns (rate_of f))
                (drop_more word item start (positions start continues.0)) continues.1) in
                let (runner, among) = member_outer passed.live start
                ((row.there start).1 (continues.0, before)) in
                subst (λ (xs : List (Instance R)). Contains (outers_of xs) start) (sym live)
                (outer_member (live_instances p passed.live)
                (record { outer = start; follower = runner })
                (member_kept p passed.live (record { outer = start; follower = runner }) among
                ((lives start).1 continues))),
          );
          each = λ start runner there.
              row.each start runner
              (kept_member p passed.live (record { outer = start; follower = runner })
              (subst (λ (xs : List (Instance R)). Contains xs
              (record { outer = start; follower = runner })) live there)).0;
          full = omega (arith, full, many, lives_now, rests_now);
        }
