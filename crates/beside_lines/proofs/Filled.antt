-- What is written of a line, as runs fill its columns, replies to it.
use Rattle.std.proofs.Common.{set, ◌≡◌, ◌+◌, ◌<◌, ◌≤◌, ℕ, zero, suc, Bool, List, [], ◌∷◌}
use Rattle.std.proofs.Common.{◌++◌, get_or, length, refl, sym, ap, subst, ◌∙◌, append_assoc}
use Rattle.std.proofs.Common.{append-nil, arith}
use Rattle.std.specs.List.{AllByRecursion, AllZip, flat_map}
use Rattle.std.specs.Vec.{with_items}
use Rattle.std.proofs.lemmas.List.{with_items_is}
use Rattle.std.proofs.lemmas.List.Recursion.{max_bounds}
use Rattle.io_edge.specs.Lines.{Shown}
use Rattle.rate_expr.specs.Words.{Word}
use Rattle.stream_run.specs.Meanings.{Meaning}
use Rattle.stream_run.specs.Output.{answer}
use Rattle.stream_run.specs.Replying.{Replies}
use Rattle.stream_run.specs.Resumed.{meaning_after}
use Rattle.stream_run.specs.Sessions.{IsAfter, origin_of}
use Rattle.stream_run.specs.declared.session.Session.{Session}
use Rattle.beside_lines.specs.Besides.{AreBeside, BeginsFor, as_read, besides, column}
use Rattle.beside_lines.specs.Filling.{AllInTurn, AreAfter, Fills, most, origins_of}
use Rattle.beside_lines.specs.declared.beside.Beside.{Beside}
use Rattle.beside_lines.proofs.Besides.{besides-push}
use Rattle.beside_lines.proofs.InTurn.{all_long}

-- what holds of all holds at an index
pub read_at : {X : Type 0} (P : X → Type 0) (xs : List X) (i : ℕ) (d : X) → AllByRecursion P xs
    → i < length xs → P (get_or xs i d)
read_at P [] i d all inside = absurd (omega (arith, inside))
read_at P (x ∷ xs) zero d all inside = all.0
read_at P (x ∷ xs) (suc i) d all inside = read_at P xs i d all.1 (omega (arith, inside))

-- and still where another stands there of which it holds
pub all_with : {X : Type 0} (P : X → Type 0) (xs : List X) (i : ℕ) (y : X) → AllByRecursion P xs
    → P y → AllByRecursion P (set xs i y)
all_with P [] i y all one = all
all_with P (x ∷ xs) zero y all one = (one, all.1)
all_with P (x ∷ xs) (suc i) y all one = (all.0, all_with P xs i y all.1 one)

module _ {F : Type 0} (position : F → ℕ) where
  -- none has taken more than the most
  pub at_most : (sessions : List (Session F)) (i : ℕ) (d : Session F) → i < length sessions
      → position (get_or sessions i d).follower ≤ most position sessions
  at_most sessions i d inside =
      max_bounds (most position) (λ session. position session.follower) refl
      (λ session others. refl) sessions i d inside

module _ {F : Type 0} (follows : F → Word → Type 0) (position : F → ℕ) (line : Shown) where
  -- by one line each takes one item more at most
  pub one_more : (olds news : List (Session F)) (before after : List ℕ)
      → AllInTurn (Fills follows position line) olds news before after
      → most position news ≤ most position olds + 1
  one_more [] [] before after turns = omega arith
  one_more [] (new ∷ news) before after turns = absurd turns
  one_more (old ∷ olds) [] before after turns = absurd turns
  one_more (old ∷ olds) (new ∷ news) before after turns =
      let here = turns.1.one in
      let others = one_more olds news turns.0 after turns.2 in
      omega (arith, here, others)

  -- all stand after the line
  pub all_after : (firsts olds news : List (Session F)) (lines : List Shown)
      (before after : List ℕ) → AreAfter follows firsts lines olds
      → AllInTurn (Fills follows position line) olds news before after
      → AreAfter follows firsts (lines ++ line ∷ []) news
  all_after [] [] [] lines before after stand turns = tt
  all_after [] [] (new ∷ news) lines before after stand turns = absurd turns
  all_after [] (old ∷ olds) news lines before after stand turns = absurd stand
  all_after (first ∷ firsts) [] news lines before after stand turns = absurd stand
  all_after (first ∷ firsts) (old ∷ olds) [] lines before after stand turns = absurd turns
  all_after (first ∷ firsts) (old ∷ olds) (new ∷ news) lines before after stand turns = (
    turns.1.replies.takes (origin_of first) lines stand.0,
    all_after firsts olds news lines turns.0 after stand.1 turns.2,
  )

  -- a run that begins before the first line writes the answer of its query
  answer_is : (first old new : Session F) (meaning : Meaning) (lines : List Shown)
      (before after : List ℕ) → IsAfter follows (origin_of first) lines old
      → BeginsFor follows (origin_of first) meaning
      → Fills follows position line old new before after
      → after ≡ before ++ column (answer meaning lines line)
  answer_is first old new meaning lines before after stand begins fills =
      fills.filled
      ∙ ap (λ (r : List ℕ). before ++ column r)
      (fills.replies.answers (origin_of first) lines stand [] meaning (tt, begins.no_item)
      begins.means
      ∙ ap (λ (b : Bool). answer (meaning_after meaning [] b) lines line) begins.no_line)

  -- and all of them a column each
  columns_are : (firsts olds news : List (Session F)) (meanings : List Meaning)
      (lines : List Shown) (before after : List ℕ) → AreAfter follows firsts lines olds
      → AllZip (BeginsFor follows) (origins_of firsts) meanings
      → AllInTurn (Fills follows position line) olds news before after
      → after ≡ before ++ flat_map (λ meaning. column (answer meaning lines line)) meanings
  columns_are [] [] [] [] lines before after stand begin turns =
      turns ∙ sym (append-nil before)
  columns_are [] olds news (meaning ∷ meanings) lines before after stand begin turns =
      absurd begin
  columns_are [] [] (new ∷ news) [] lines before after stand begin turns = absurd turns
  columns_are [] (old ∷ olds) news [] lines before after stand begin turns = absurd stand
  columns_are (first ∷ firsts) olds news [] lines before after stand begin turns = absurd begin
  columns_are (first ∷ firsts) [] news (meaning ∷ meanings) lines before after stand begin turns =
      absurd stand
  columns_are (first ∷ firsts) (old ∷ olds) [] (meaning ∷ meanings) lines before after stand begin
      turns = absurd turns
  columns_are (first ∷ firsts) (old ∷ olds) (new ∷ news) (meaning ∷ meanings) lines before after
      stand begin turns =
      let others = flat_map (λ m. column (answer m lines line)) meanings in
      columns_are firsts olds news meanings lines turns.0 after stand.1 begin.1 turns.2
      ∙ ap (λ (b : List ℕ). b ++ others)
      (answer_is first old new meaning lines before turns.0 stand.0 begin.0 turns.1)
      ∙ append_assoc before (column (answer meaning lines line)) others

  -- so what is written of one line more is written beside it
  beside_more : (firsts olds news : List (Session F)) (lines : List Shown) (so_far filled : List ℕ)
      → AreAfter follows firsts lines olds → AreBeside follows (origins_of firsts) lines so_far
      → AllInTurn (Fills follows position line) olds news (as_read line) filled
      → AreBeside follows (origins_of firsts) (lines ++ line ∷ []) (so_far ++ (filled ++ 10 ∷ []))
  beside_more firsts olds news lines so_far filled stand said turns meanings begin =
      let all = besides meanings lines in
      ap (λ (t : List ℕ). t ++ (filled ++ 10 ∷ [])) (said meanings begin)
      ∙ ap (λ (t : List ℕ). all ++ (t ++ 10 ∷ []))
      (columns_are firsts olds news meanings lines (as_read line) filled stand begin turns)
      ∙ sym (besides-push meanings lines line)

  module _ (old : Beside F) (olds news : List (Session F)) (start filled : List ℕ)
      (same : olds ≡ old.sessions.items)
      (turns : AllInTurn (Fills follows position line) olds news start filled)
    where
      led : AllInTurn (Fills follows position line) old.sessions.items news start filled
      led = subst (λ (os : List (Session F)). AllInTurn (Fills follows position line) os news start
          filled) same turns

      items_are : (with_items old.sessions news).items ≡ news
      items_are = with_items_is old.sessions news
          (all_long (Fills follows position line) old.sessions.items news start filled led
          ∙ sym old.sessions.ok.0)

      pub one_more_of : most position (with_items old.sessions news).items
          ≤ most position old.sessions.items + 1
      one_more_of = subst (λ (ns : List (Session F)). most position ns
          ≤ most position old.sessions.items + 1) (sym items_are)
          (one_more old.sessions.items news start filled led)

      pub replies_beside : (text : List ℕ) → start ≡ as_read line → text ≡ filled ++ 10 ∷ []
          → Replies
          (λ first lines now. AreAfter follows first.sessions.items lines now.sessions.items)
          (λ first lines said. AreBeside follows (origins_of first.sessions.items) lines said)
          line text old (record { sessions = with_items old.sessions news })
      replies_beside text read is = record {
        stands = λ first before stand.
            subst (λ (ns : List (Session F)). AreAfter follows first.sessions.items
            (before ++ line ∷ []) ns) (sym items_are)
            (all_after first.sessions.items old.sessions.items news before start filled stand led);
        says = λ first before so_far stand said.
            subst (λ (t : List ℕ). AreBeside follows (origins_of first.sessions.items)
            (before ++ line ∷ []) (so_far ++ t)) (sym is)
            (beside_more first.sessions.items old.sessions.items news before so_far filled stand
            said
            (subst (λ (b : List ℕ). AllInTurn (Fills follows position line) old.sessions.items
            news b filled) read led));
      }
