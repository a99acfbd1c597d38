-- What the calls on the runners of a compose do, out of what is read of their lists before
-- and after them.
use Rattle.std.proofs.Common.{◌≡◌, ◌<◌, ◌∙◌, ℕ, ◌-◌, zero, suc, Bool, true, false, List, [], ◌∷◌}
use Rattle.std.proofs.Common.{◌++◌, Option, Some, None, length, set, slice_get, refl, sym, ap}
use Rattle.std.proofs.Common.{subst, arith, inl, inr}
use Rattle.std.specs.Option.{option_map}
use Rattle.std.proofs.lemmas.List.{length-append}
use Rattle.std.proofs.lemmas.Option.{none-some, same_Some, slice_get-map}
use Rattle.query_model.specs.Queries.{Qre}
use Rattle.compose_eval.specs.Followers.{Contents, followers_of, instance_at, with_follower, IsAt}
use Rattle.compose_eval.specs.Followers.{Wakes}
use Rattle.compose_eval.specs.declared.instance.Instance.{Instance}
use Rattle.eval_nodes.specs.Runners.{IsSoundOf}
use Rattle.eval_nodes.specs.Holdings.{Seen}
use Rattle.eval_nodes.specs.Sound.{IsSoundWithin}
use Rattle.eval_nodes.proofs.Alike.{all_followers}
use Rattle.eval_nodes.proofs.Instances.{outer_member, read_member, some_fed, all_read}
use Rattle.step_laws.specs.declared.hit.Hit.{Hit}
use Rattle.step_laws.specs.Feeds.{CanBegin, CanCarry, CanFeed, CanPassOn, Feeds, HasIdle, IsBegun}
use Rattle.step_laws.specs.Feeds.{IsFedFrom, IsPassed, IsDelivered, item_of}

-- the last of a list
record IsLastOf {A : Type 0} (xs : List A) (last : A) : Type 0 where
  pub front : List A
  pub is : xs ≡ front ++ last ∷ []

after_first : {A : Type 0} (x last : A) (xs : List A) → IsLastOf xs last → IsLastOf (x ∷ xs) last
after_first x last xs is = record { front = x ∷ is.front; is = ap (λ (ys : List _). x ∷ ys) is.is }

last_read : {A : Type 0} (xs : List A) (i : ℕ) (x : A) → 0 < length xs → i ≡ length xs - 1
    → slice_get xs i ≡ Some x → IsLastOf xs x
last_read [] i x some at is = absurd (none-some x is)
last_read (y ∷ []) zero x some at is =
    record { front = []; is = ap (λ (z : _). z ∷ []) (same_Some y x is) }
last_read (y ∷ []) (suc i) x some at is = absurd (omega (arith, at))
last_read (y ∷ z ∷ xs) zero x some at is = absurd (omega (arith, at))
last_read (y ∷ z ∷ xs) (suc i) x some at is =
    after_first y x (z ∷ xs) (last_read (z ∷ xs) i x (omega arith) (omega (arith, at)) is)

-- another one in its place
set_last : {A : Type 0} (front : List A) (x w : A)
    → set (front ++ x ∷ []) (length front) w ≡ front ++ w ∷ []
set_last [] x w = refl
set_last (y ∷ front) x w = ap (λ (ys : List _). y ∷ ys) (set_last front x w)

last_written : {A : Type 0} (xs : List A) (last x w : _) (is : IsLastOf {A = A} xs x)
    → last ≡ length xs - 1 → set xs last w ≡ is.front ++ w ∷ []
last_written xs last x w is at =
    let count = ap length is.is ∙ length-append is.front (x ∷ []) in
    let here : last ≡ length is.front = omega (arith, at, count) in
    ap (λ (ys : List _). set ys last w) is.is ∙ ap (λ (n : ℕ). set (is.front ++ x ∷ []) n w) here
    ∙ set_last is.front x w

-- the same list with one more, in two ways
same_push : {A : Type 0} (xs ys : List A) (x y : A) → xs ++ x ∷ [] ≡ ys ++ y ∷ []
    → (xs ≡ ys) × (x ≡ y)
same_push [] [] x y same = (refl, cc)
same_push [] (z ∷ ys) x y same =
    let count = ap length same in let more = length-append ys (y ∷ []) in
    absurd (omega (arith, count, more))
same_push (z ∷ xs) [] x y same =
    let count = ap length same in let more = length-append xs (x ∷ []) in
    absurd (omega (arith, count, more))
same_push (z ∷ xs) (u ∷ ys) x y same =
    let heads : z ≡ u = cc in
    let tails : xs ++ x ∷ [] ≡ ys ++ y ∷ [] = cc in
    let (rest, last) = same_push xs ys x y tails in
    (ap (λ (v : _). v ∷ xs) heads ∙ ap (λ (vs : List _). u ∷ vs) rest, last)

-- one is fed from the start
pub fed_already : {R : Type 0} (live : List (Instance R)) (place at : ℕ) → IsAt live place at
    → instance_at live at ≡ None → ⊥
fed_already live place at (follower, read) =
    let one : Instance _ = record { outer = at; follower = follower } in
    some_fed live at (outer_member live one (read_member live place one read))

module _ {R : Type 0} (seen : R → Seen R) (g : Qre) where
  -- the runner at the place that is found
  pub passed_one : (old : Contents R) (found : Hit) (place : ℕ) (runner delivered : R)
      (hit : Option Hit) → IsAt old.live place found.start
      → slice_get (followers_of old.live) place ≡ Some runner
      → IsDelivered seen g runner found delivered hit
      → IsPassed seen g old found
      (record { live = with_follower old.live place delivered; idle = old.idle; room = old.room })
      hit
  passed_one old found place runner delivered hit (follower, at) read delivers =
      let same : follower ≡ runner = same_Some follower runner (sym
      (slice_get-map (λ (x : Instance R). x.follower) old.live place
      ∙ ap (λ (x : Option (Instance R)). option_map (λ (y : Instance R). y.follower) x) at)
      ∙ read) in
      record {
        place = place;
        runner = runner;
        delivered = delivered;
        at = subst (λ (r : R). slice_get old.live place
            ≡ Some (record { outer = found.start; follower = r })) same at;
        is = refl;
        delivers = delivers;
      }

  unfoldable pub deliver_allowed : (old : Contents R) (found : Hit) (place : ℕ) (runner : R)
      → CanPassOn seen g old (Some found)
      → slice_get (followers_of old.live) place ≡ Some runner
      → CanCarry seen g runner (item_of found.value)
  deliver_allowed old found place runner can read =
      let is = all_read (IsSoundWithin seen (IsSoundOf seen can.columns g) can.most)
      (followers_of old.live) place runner
      (all_followers (IsSoundWithin seen (IsSoundOf seen can.columns g) can.most) old.live can.live)
      read in
      let within = is.within in
      let room = can.room in
      record {
        standing = can.standing;
        columns = can.columns;
        clear = can.clear;
        sound = is.sound;
        is_item = can.is_item;
        room = omega (arith, within, room);
      }

  -- the last idle one
  unfoldable pub begin_last : (old : Contents R) (left : Option Hit) (i : ℕ) (runner : R)
      → CanFeed seen g old left → slice_get old.idle i ≡ Some runner → CanBegin seen g runner left
  begin_last old left i runner can read = record {
    standing = can.standing;
    columns = can.columns;
    clear = can.clear;
    no_collect = can.no_collect;
    sound = all_read (IsSoundOf seen can.columns g) old.idle i runner can.idle read;
    is_item = can.is_item;
    room = can.room;
  }

  unfoldable pub renew_allowed : (runner : R) (left : Option Hit) → CanBegin seen g runner left
      → CanBegin seen g runner None
  renew_allowed runner left can = record {
    standing = can.standing;
    columns = can.columns;
    clear = can.clear;
    no_collect = can.no_collect;
    sound = can.sound;
    is_item = tt;
    room = can.room;
  }

  pub fed_awake : (old new : Contents R) (at i : ℕ) (left hit : Option Hit) (runner next : R)
      → 0 < length old.idle → i ≡ length old.idle - 1 → slice_get old.idle i ≡ Some runner
      → IsBegun seen g runner left next hit
      → Wakes at (record { live = old.live; idle = set old.idle i next; room = old.room }) new
      → new.room ≡ old.room → IsFedFrom seen g old true at left new hit
  fed_awake old new at i left hit runner next some last read begun wakes room =
      let is = last_read old.idle i runner some last read in
      let (rests, woken) = same_push is.front new.idle next wakes.follower
      (sym (last_written old.idle i runner next is last) ∙ wakes.last) in
      record {
        front = is.front;
        runner = runner;
        next = next;
        last = is.is;
        begun = begun;
        is = whole new (old.live ++ record { outer = at; follower = next } ∷ []) is.front old.room
            (wakes.woken
            ∙ ap (λ (r : R). old.live ++ record { outer = at; follower = r } ∷ []) (sym woken))
            (sym rests) room;
      }
    where
      whole : (new : Contents R) (live : List (Instance R)) (idle : List R) (room : ℕ)
          → new.live ≡ live → new.idle ≡ idle → new.room ≡ room
          → ◌≡◌ {A = Contents R} new (record { live = live; idle = idle; room = room })
      whole new live idle room same_live same_idle same_room =
          λ k. record { live = same_live k; idle = same_idle k; room = same_room k }

  pub fed_at_rest : (old : Contents R) (at i : ℕ) (left hit : Option Hit) (runner next : R)
      → 0 < length old.idle → i ≡ length old.idle - 1 → slice_get old.idle i ≡ Some runner
      → IsBegun seen g runner left next hit → IsFedFrom seen g old false at left
      (record { live = old.live; idle = set old.idle i next; room = old.room }) hit
  fed_at_rest old at i left hit runner next some last read begun =
      let is = last_read old.idle i runner some last read in
      record {
        front = is.front;
        runner = runner;
        next = next;
        last = is.is;
        begun = begun;
        is = ap (λ (idle : List R). record { live = old.live; idle = idle; room = old.room })
            (last_written old.idle i runner next is last);
      }

  -- where none is idle, or one is fed from the start
  pub feeds_none : (old : Contents R) (live : Bool) (at : ℕ) (left : Option Hit)
      → (HasIdle old at → ⊥) → Feeds seen g old live at left old None
  feeds_none old live at left never = inr (never, refl, refl)

  pub feeds_awake : (old new : Contents R) (live : Bool) (at i : ℕ) (left hit : Option Hit)
      (runner next : R) → live ≡ true → HasIdle old at → i ≡ length old.idle - 1
      → slice_get old.idle i ≡ Some runner → IsBegun seen g runner left next hit
      → Wakes at (record { live = old.live; idle = set old.idle i next; room = old.room }) new
      → new.room ≡ old.room → Feeds seen g old live at left new hit
  feeds_awake old new live at i left hit runner next continues has last read begun wakes room =
      subst (λ (b : Bool). Feeds seen g old b at left new hit) (sym continues)
      (inl (has, fed_awake old new at i left hit runner next has.idle last read begun wakes room))

  pub feeds_at_rest : (old : Contents R) (live : Bool) (at i : ℕ) (left hit : Option Hit)
      (runner next : R) → live ≡ false → HasIdle old at → i ≡ length old.idle - 1
      → slice_get old.idle i ≡ Some runner → IsBegun seen g runner left next hit
      → Feeds seen g old live at left
      (record { live = old.live; idle = set old.idle i next; room = old.room }) hit
  feeds_at_rest old live at i left hit runner next ends has last read begun =
      subst (λ (b : Bool). Feeds seen g old b at left
      (record { live = old.live; idle = set old.idle i next; room = old.room }) hit) (sym ends)
      (inl (has, fed_at_rest old at i left hit runner next has.idle last read begun))
