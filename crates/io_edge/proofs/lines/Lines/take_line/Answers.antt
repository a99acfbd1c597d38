use Rattle.std.proofs.Common.{rules, take, drop, length, refl, ap, ◌∙◌, arith}
use Rattle.std.proofs.lemmas.List.{drop_all}
use Rattle.io_edge.proofs.Readings.{Joins-from_piece, Cuts-from_piece, Cuts-from_whole}
use Rattle.io_edge.proofs.lines.Lines.take_line.Goals as goal

pub returns-in-Some : goal.returns-in-Some
returns-in-Some c =
    let lf = rw c.unread-bytes.ensures at c.in-Some.ensures in
    let line = ap (λ chunk. chunk.line) c.cut.ensures in
    let unread = ap (λ chunk. chunk.unread) c.cut.ensures in
    rw (← c.self.view_is)
    (Cuts-from_whole _ _ c.in-Some.at lf.0 lf.1 (omega arith) (omega arith) line refl unread
    (omega arith) (search rules))

pub returns-in-Some-2 : goal.returns-in-Some-2
returns-in-Some-2 c =
    let piece = take c.in-Some.at c.self.inside.chunk.unread in
    let lf = rw c.unread-bytes.ensures at c.in-Some.ensures in
    let stands = rw c.unread-bytes.ensures at c.add.ensures in
    let line = c.end_at_lf.ensures in
    rw (← c.self.view_is)
    (Cuts-from_piece _ _ piece c.add.new.self.start _ lf.0 (rw c.skip.ensures lf.1) (search rules)
    line.shows line.over (search rules) (search rules))

pub returns-in-None : goal.returns-in-None
returns-in-None c =
    let no_lf = rw c.unread-bytes.ensures at c.in-None.ensures in
    let unread = c.self.inside.chunk.unread in
    let no_unread = ap (λ chunk. chunk.unread) c.skip-in-None.ensures
    ∙ ap (λ l. drop (length l) unread) c.unread-bytes.ensures
    ∙ drop_all (length unread) unread (omega arith) in
    rw (← c.self.view_is) (Joins-from_piece _ _ no_lf (search rules) no_unread refl (search rules))
