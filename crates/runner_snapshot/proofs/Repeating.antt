-- Reading things of one kind one after the other, as a loop does.
use Rattle.std.proofs.Common.{◌≡◌, ◌<◌, ◌≤◌, ◌+◌, ◌-◌, ℕ, zero, suc, List, [], ◌∷◌, ◌++◌, length}
use Rattle.std.proofs.Common.{None}
use Rattle.std.proofs.Common.{Some, refl, sym, ap, ◌∙◌, append_assoc, arith}
use Rattle.std.specs.Int.{w32}
use Rattle.std.proofs.lemmas.List.{append-nil}
use Rattle.std.proofs.lemmas.Option.{same_Some}
use Rattle.runner_snapshot.specs.declared.flaw.Flaw.TheVariants.{Long, Head, Query, Form, Unfit}
use Rattle.runner_snapshot.specs.declared.flaw.SnapStop.{SnapStop}
use Rattle.runner_snapshot.specs.declared.flaw.SnapStop.TheVariants.{Bad, Memory}
use Rattle.runner_snapshot.proofs.Readers.{bind_some}
use Rattle.runner_snapshot.specs.Reading.{Read, ◌>>=◌, IsUnread, counted_at, number_at}
use Rattle.runner_snapshot.specs.Reading.{pair_at, repeat_at}

-- where nothing is read first, nothing is read at all
pub unread_first : {A B : Type 0} (stop : SnapStop) (read : Read A) (more : A × List ℕ → Read B)
    → IsUnread stop read → IsUnread stop (read >>= more)
unread_first Memory read more unread = tt
unread_first (Bad Long) read more unread = unread
unread_first (Bad Head) read more unread = unread
unread_first (Bad Query) read more unread = unread
unread_first (Bad Unfit) read more unread = unread
unread_first {A} {B} (Bad Form) read more unread =
    ap (λ (r : Read A). r >>= more) unread

-- the same of what is the same
pub unread_same : {A : Type 0} (stop : SnapStop) (read other : Read A) → other ≡ read
    → IsUnread stop read → IsUnread stop other
unread_same Memory read other same unread = tt
unread_same (Bad Long) read other same unread = unread
unread_same (Bad Head) read other same unread = unread
unread_same (Bad Query) read other same unread = unread
unread_same (Bad Unfit) read other same unread = unread
unread_same (Bad Form) read other same unread = same ∙ unread

-- one thing and then another are read
pub pair_reads : {A B : Type 0} (f : List ℕ → Read A) (g : List ℕ → Read B) (bytes : List ℕ)
    (x : A) (after : List ℕ) (y : B) (rest : List ℕ) → f bytes ≡ Some (x, after)
    → g after ≡ Some (y, rest) → pair_at f g bytes ≡ Some ((x, y), rest)
pair_reads {A} {B} f g bytes x after y rest first second =
    let more : A × List ℕ → Read (A × B) = λ a. g a.1 >>= λ b. Some ((a.0, b.0), b.1) in
    let whole : B × List ℕ → Read (A × B) = λ b. Some ((x, b.0), b.1) in
    ap (λ (r : Read A). r >>= more) first ∙ ap (λ (r : Read B). r >>= whole) second

-- what was read before, and what is still read
abbrev pub with_front : {A : Type 0} → List A → Read (List A) → Read (List A)
with_front front read = read >>= λ xs. Some (front ++ xs.0, xs.1)

module _ {A : Type 0} (f : List ℕ → Read A) where
  regroup : (front : List A) (x : A) (read : Read (List A))
      → with_front front (read >>= λ xs. Some (x ∷ xs.0, xs.1)) ≡ with_front (front ++ x ∷ []) read
  regroup front x (Some xs) =
      ap (λ (all : List A). Some (all, xs.1)) (sym (append_assoc front (x ∷ []) xs.0))
  regroup front x None = refl

  -- nothing was read before
  pub begins : (read : Read (List A)) → with_front [] read ≡ read
  begins (Some xs) = refl
  begins None = refl

  pub goes_on : (front : List A) (count i : ℕ) (bytes : List ℕ) (x : A) (after : List ℕ)
      (total : Read (List A)) → i < count → f bytes ≡ Some (x, after)
      → with_front front (repeat_at f (count - i) bytes) ≡ total
      → with_front (front ++ x ∷ []) (repeat_at f (count - (i + 1)) after) ≡ total
  goes_on front count i bytes x after total within reads so_far =
      let left : count - i ≡ suc (count - (i + 1)) = omega arith in
      let one : with_front front (repeat_at f (count - i) bytes)
      ≡ with_front (front ++ x ∷ []) (repeat_at f (count - (i + 1)) after) =
      ap (λ (n : ℕ). with_front front (repeat_at f n bytes)) left
      ∙ ap (λ (r : Read A). with_front front (r >>= λ y. repeat_at f (count - (i + 1)) y.1
      >>= λ ys. Some (y.0 ∷ ys.0, ys.1))) reads
      ∙ regroup front x (repeat_at f (count - (i + 1)) after) in
      sym one ∙ so_far

  unread_total : (stop : SnapStop) (front : List A) (left : ℕ) (bytes : List ℕ)
      → IsUnread stop (f bytes) → IsUnread stop (with_front front (repeat_at f (suc left) bytes))
  unread_total stop front left bytes unread =
      unread_first stop (repeat_at f (suc left) bytes) (λ xs. Some (front ++ xs.0, xs.1))
      (unread_first stop (f bytes) (λ y. repeat_at f left y.1 >>= λ ys.
      Some (y.0 ∷ ys.0, ys.1)) unread)

  pub ends : (stop : SnapStop) (front : List A) (count i : ℕ) (bytes : List ℕ)
      (total : Read (List A)) → i < count → IsUnread stop (f bytes)
      → with_front front (repeat_at f (count - i) bytes) ≡ total → IsUnread stop total
  ends stop front count i bytes total within unread so_far =
      let left : count - i ≡ suc (count - (i + 1)) = omega arith in
      unread_same stop (with_front front (repeat_at f (suc (count - (i + 1))) bytes)) total
      (sym so_far ∙ ap (λ (n : ℕ). with_front front (repeat_at f n bytes)) left)
      (unread_total stop front (count - (i + 1)) bytes unread)

  pub is_done : (front : List A) (count i : ℕ) (bytes : List ℕ) (total : Read (List A))
      → count ≤ i → with_front front (repeat_at f (count - i) bytes) ≡ total
      → total ≡ Some (front, bytes)
  is_done front count i bytes total end so_far =
      let left : count - i ≡ 0 = omega arith in
      sym so_far ∙ ap (λ (n : ℕ). with_front front (repeat_at f n bytes)) left
      ∙ ap (λ (all : List A). Some (all, bytes)) (append-nil front)

  -- the same after their count
  counted_total : (bytes : List ℕ) (count : ℕ) (after : List ℕ)
      → number_at w32 bytes ≡ Some (count, after) → counted_at f bytes ≡ repeat_at f count after
  unfolding counted_at
  counted_total bytes count after counts =
      ap (λ (r : Read ℕ). r >>= λ n. repeat_at f n.0 n.1) counts

  pub counted_ends : (stop : SnapStop) (front : List A) (count i : ℕ) (bytes after rest : List ℕ)
      → number_at w32 bytes ≡ Some (count, after) → i < count → IsUnread stop (f rest)
      → with_front front (repeat_at f (count - i) rest) ≡ repeat_at f count after
      → IsUnread stop (counted_at f bytes)
  counted_ends stop front count i bytes after rest counts within unread so_far =
      unread_same stop (repeat_at f count after) (counted_at f bytes)
      (counted_total bytes count after counts)
      (ends stop front count i rest (repeat_at f count after) within unread so_far)

  pub counted_done : (front : List A) (count i : ℕ) (bytes after rest : List ℕ)
      → number_at w32 bytes ≡ Some (count, after) → count ≤ i
      → with_front front (repeat_at f (count - i) rest) ≡ repeat_at f count after
      → counted_at f bytes ≡ Some (front, rest)
  counted_done front count i bytes after rest counts end so_far =
      counted_total bytes count after counts
      ∙ is_done front count i rest (repeat_at f count after) end so_far

  pub counted_none : (stop : SnapStop) (bytes : List ℕ) → IsUnread stop (number_at w32 bytes)
      → IsUnread stop (counted_at f bytes)
  unfolding counted_at
  counted_none stop bytes unread =
      unread_first stop (number_at w32 bytes) (λ n. repeat_at f n.0 n.1) unread

  -- as many are read
  pub repeat_count : (count : ℕ) (bytes : List ℕ) (xs : List A) (rest : List ℕ)
      → repeat_at f count bytes ≡ Some (xs, rest) → length xs ≡ count
  repeat_count zero bytes xs rest e =
      let none : List A × List ℕ = ([], bytes) in
      ap (λ (r : List A × List ℕ). length r.0) (sym (same_Some none (xs, rest) e))
  repeat_count (suc count) bytes xs rest e =
      let a = bind_some (f bytes) (λ x. repeat_at f count x.1 >>= λ ys. Some (x.0 ∷ ys.0, ys.1))
      (xs, rest) e in
      let b = bind_some (repeat_at f count a.0.1) (λ ys. Some (a.0.0 ∷ ys.0, ys.1)) (xs, rest)
      a.2 in
      let all : List A × List ℕ = (a.0.0 ∷ b.0.0, b.0.1) in
      ap (λ (r : List A × List ℕ). length r.0) (sym (same_Some all (xs, rest) b.2))
      ∙ ap (λ (n : ℕ). suc n) (repeat_count count a.0.1 b.0.0 b.0.1 b.1)
