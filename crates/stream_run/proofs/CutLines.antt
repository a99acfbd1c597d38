-- The lines of bytes that are cut where a line ends.
use Rattle.std.proofs.Common.{◌≡◌, ◌==◌, ◌<◌, ℕ, Bool, true, false, cond, List, [], ◌∷◌, ◌++◌}
use Rattle.std.proofs.Common.{length, inl, inr, refl, sym, ap, ◌∙◌, append_assoc, arith}
use Rattle.std.proofs.lemmas.Bool.{lt-ltb}
use Rattle.io_edge.specs.Lines.{Shown, ended_by_end, ended_by_lf, lines, lines_from}
use Rattle.stream_run.specs.Resumed.{EndsLine, is_some_byte}
use Rattle.stream_run.specs.Sessions.{is_begun}

-- where a line is ended, it stands before the lines after it; where not, it continues
cut_next : (is_lf : Bool) (line : Shown) (rest more rest' more' others : List Shown)
    → rest ≡ more ++ others → rest' ≡ more' ++ others
    → cond is_lf (line ∷ rest) rest' ≡ cond is_lf (line ∷ more) more' ++ others
cut_next true line rest more rest' more' others ended continues = ap (λ l. line ∷ l) ended
cut_next false line rest more rest' more' others ended continues = continues

-- the lines up to an LF, and then those after it
cut_at : (start front others : List ℕ) (ended : Bool)
    → lines_from start (front ++ 10 ∷ others) ended
    ≡ lines_from start (front ++ 10 ∷ []) true ++ lines others ended
cut_at start [] others ended = refl
cut_at start (x ∷ front) others ended =
    cut_next (x == 10) (ended_by_lf start) _ _ _ _ (lines others ended)
    (cut_at [] front others ended) (cut_at (start ++ x ∷ []) front others ended)

-- the lines of all bytes are those of the first, and then those of the others
pub lines-cut : (first others : List ℕ) (ended : Bool) → EndsLine first
    → lines (first ++ others) ended ≡ lines first true ++ lines others ended
lines-cut first others ended (inl none) =
    ap (λ (b : List ℕ). lines (b ++ others) ended) none
    ∙ sym (ap (λ (b : List ℕ). lines b true ++ lines others ended) none)
lines-cut first others ended (inr (front, is)) =
    ap (λ (b : List ℕ). lines (b ++ others) ended) is
    ∙ ap (λ (b : List ℕ). lines b ended) (append_assoc front (10 ∷ []) others)
    ∙ cut_at [] front others ended
    ∙ sym (ap (λ (b : List ℕ). lines b true ++ lines others ended) is)

-- a line that has begun comes
begun_with : (is_lf : Bool) (line : Shown) (rest rest' : List Shown) → is_begun rest' ≡ true
    → is_begun (cond is_lf (line ∷ rest) rest') ≡ true
begun_with true line rest rest' begun = refl
begun_with false line rest rest' begun = begun

begun_from : (x : ℕ) (start bytes : List ℕ)
    → is_begun (lines_from (x ∷ start) bytes true) ≡ true
begun_from x start [] =
    let some : 0 < length (x ∷ start) = omega arith in
    ap (λ (b : Bool). is_begun (cond b (ended_by_end (x ∷ start) ∷ []) []))
    (lt-ltb 0 (length (x ∷ start)) some)
begun_from x start (y ∷ bytes) =
    begun_with (y == 10) (ended_by_lf (x ∷ start)) _ _ (begun_from x (start ++ y ∷ []) bytes)

-- a line has come where a byte has
pub begun-lines : (bytes : List ℕ) → is_begun (lines bytes true) ≡ is_some_byte bytes
begun-lines [] = refl
begun-lines (x ∷ bytes) = begun_with (x == 10) (ended_by_lf []) _ _ (begun_from x [] bytes)
