-- How the lines continue where the first one has begun.
use Rattle.std.proofs.Common.{◌≡◌, ◌≢◌, ℕ, Bool, List, [], ◌∷◌, ◌++◌, length, ◌<◌, ltb, cond, inl}
use Rattle.std.proofs.Common.{inr, sym, ap, ◌∙◌, arith, length-append, append_assoc, append-nil}
use Rattle.std.proofs.Common.{◌==◌, ◌&&◌}
use Rattle.std.proofs.lemmas.List.Elements.{All-head, All-tail}
use Rattle.std.proofs.lemmas.Bool.{ne_eqb, cases_lt, lt-ltb}
use Rattle.std.specs.Io.BufRead.{strip_last}
use Rattle.io_edge.specs.Lines.{Shown, text, long, NoLf, ended_by_lf, ended_by_end, last_line}
use Rattle.io_edge.specs.Lines.{lines_from}
use Rattle.io_edge.specs.Started.{StandsFor}
use Rattle.io_edge.specs.Limits.{max_line}

-- bytes without an LF go into the line that has begun
pub lines_from-piece : (start piece rest : List ℕ) (ended : Bool) → NoLf piece
    → lines_from start (piece ++ rest) ended ≡ lines_from (start ++ piece) rest ended
lines_from-piece start [] rest ended no_lf =
    ap (λ s. lines_from s rest ended) (sym (append-nil start))
lines_from-piece start (x ∷ piece) rest ended no_lf =
    let not_lf = ne_eqb x 10 (All-head (λ b. b ≢ 10) x piece no_lf) in
    let more = piece ++ rest in
    let after = lines_from-piece (start ++ x ∷ []) piece rest ended
    (All-tail (λ b. b ≢ 10) x piece no_lf) in
    ap (λ b. cond b (ended_by_lf start ∷ lines_from [] more ended)
    (lines_from (start ++ x ∷ []) more ended)) not_lf
    ∙ after ∙ ap (λ s. lines_from s rest ended) (append_assoc start (x ∷ []) piece)

-- what is shown of a line depends on its bytes only where it is not too long
unless_long : (shows : List ℕ → Shown) (bytes others : List ℕ) → StandsFor bytes others
    → cond (ltb max_line (length bytes)) long (shows bytes)
    ≡ cond (ltb max_line (length others)) long (shows others)
unless_long shows bytes others stands =
    elim (cases_lt max_line (length bytes)) [
      | inl above ↦
          let others_above : max_line < length others = omega (arith, stands.count) in
          rw (lt-ltb max_line (length bytes) above, lt-ltb max_line (length others) others_above)
      | inr within ↦ ap (λ l. cond (ltb max_line (length l)) long (shows l))
          (sym (stands.same within))
    ]

-- so what an LF ends
pub ended_by_lf-stands : (bytes others : List ℕ) → StandsFor bytes others
    → ended_by_lf bytes ≡ ended_by_lf others
ended_by_lf-stands bytes others stands =
    unless_long (λ l. text (strip_last 13 l)) bytes others stands

-- and what the end of the input ends
pub ended_by_end-stands : (bytes others : List ℕ) → StandsFor bytes others
    → ended_by_end bytes ≡ ended_by_end others
ended_by_end-stands bytes others stands = unless_long text bytes others stands

-- bytes that show the same line do so with the same bytes after them
StandsFor-append : (bytes others more : List ℕ) → StandsFor bytes others
    → StandsFor (bytes ++ more) (others ++ more)
StandsFor-append bytes others more stands = record {
  count = omega (arith, length-append bytes more, length-append others more, stands.count);
  same = λ within. ap (λ l. l ++ more) (stands.same (omega (arith, length-append bytes more)));
}

-- the last line is the same from bytes that show the same line
last_line-stands : (bytes others : List ℕ) (ended : Bool) → StandsFor bytes others
    → last_line bytes ended ≡ last_line others ended
last_line-stands bytes others ended stands =
    ap (λ n. cond (ended && ltb 0 n) (ended_by_end bytes ∷ []) []) (sym stands.count)
    ∙ ap (λ s. cond (ended && ltb 0 (length others)) (s ∷ []) [])
    (ended_by_end-stands bytes others stands)

-- the lines are the same from bytes that show the same line
pub lines_from-stands : (bytes others rest : List ℕ) (ended : Bool) → StandsFor bytes others
    → lines_from bytes rest ended ≡ lines_from others rest ended
lines_from-stands bytes others [] ended stands = last_line-stands bytes others ended stands
lines_from-stands bytes others (x ∷ rest) ended stands =
    let here = ended_by_lf-stands bytes others stands in
    let longer = StandsFor-append bytes others (x ∷ []) stands in
    let after = lines_from-stands (bytes ++ x ∷ []) (others ++ x ∷ []) rest ended longer in
    ap (λ s. cond (x == 10) (s ∷ lines_from [] rest ended)
    (lines_from (bytes ++ x ∷ []) rest ended)) here
    ∙ ap (λ l. cond (x == 10) (ended_by_lf others ∷ lines_from [] rest ended) l) after
