use Rattle.std.proofs.Common.{◌+◌, ◌∷◌, ◌≡◌, drop, get_or, sym, subst, arith, add-one}
use Rattle.std.proofs.Math.Seq.{drop-cons}
use Rattle.rate_expr.specs.Words.{IsWordOf}
use Rattle.ambiguity_example.specs.Parts.{PartsFrom}
use Rattle.ambiguity_example.proofs.Parting.{piece_on, piece_back}
use Rattle.ambiguity_example.proofs.Readable.{word_rest}
use Rattle.ambiguity_example.proofs.membership.reads_parts.Goals as goal

pub cuts-preserved : goal.cuts-preserved
cuts-preserved c =
    let cuts = c.args.cuts.now in
    let at = c.cuts.cut-index in
    let here : drop at cuts ≡ get_or cuts at 0 ∷ drop (at + 1) cuts =
    rw add-one (drop-cons cuts at 0 c.cuts-test.true) in record {
      on = λ rate are parts. piece_on rate _ _ _ _ _ _ c.split_at-in-cuts.ensures.front
          c.split_at-in-cuts.ensures.back (subst (PartsFrom rate c.cuts.begin c.cuts.rest.now) here
          (c.cuts.invariant.on rate are parts));
      back = λ rate are parts. c.cuts.invariant.back rate are
          (subst (PartsFrom rate c.cuts.begin c.cuts.rest.now) (sym here)
          (piece_back rate _ _ _ _ _ _ c.split_at-in-cuts.ensures.front c.split_at-in-cuts.ensures.back
          (omega arith) (omega arith) (rw c.if-not-reads.false at c.reads.ensures rate are) parts));
      word = subst (IsWordOf c.args.nfa.now.cells.layout.columns) (sym c.split_at-in-cuts.ensures.back)
          (word_rest c.args.nfa.now.cells.layout.columns c.cuts.rest.now _ c.cuts.invariant.word);
    }
