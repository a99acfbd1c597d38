-- A line that is taken without a text is replied to by none.
use Rattle.std.proofs.Common.{◌≡◌, ℕ, List, [], ◌++◌, ap, ◌∙◌}
use Rattle.io_edge.specs.Lines.{Shown}
use Rattle.rate_expr.specs.Words.{Word}
use Rattle.stream_run.specs.Replying.{Replies}
use Rattle.stream_run.specs.Sessions.{IsAfter, Takes, origin_of}
use Rattle.beside_lines.specs.declared.quiet.Quiet.{Quiet}

pub replies_quiet : {F : Type 0} (follows : F → Word → Type 0) (line : Shown) (written : List ℕ)
    (old new : Quiet F) → Takes follows line old.session new.session → written ≡ []
    → Replies (λ first lines now. IsAfter follows (origin_of first.session) lines now.session)
    (λ first lines said. said ≡ []) line written old new
replies_quiet follows line written old new takes is = record {
  stands = λ first before holds_after. takes (origin_of first.session) before holds_after;
  says = λ first before so_far holds_after said.
      ap (λ (t : List ℕ). t ++ written) said ∙ is;
}
