-- What was written for lines, and for one line more.
use Rattle.std.proofs.Common.{◌≡◌, ℕ, Bool, true, false, cond, List, [], ◌∷◌, ◌++◌, Option, None}
use Rattle.std.proofs.Common.{Result, Ok, Err, IfOk, Bor, refl, sym, ap, subst, ◌∙◌, append_assoc, append-nil}
use Rattle.std.specs.declared.alloc.AllocError.{AllocError}
use Rattle.io_edge.specs.Lines.{Shown}
use Rattle.value_ops.specs.declared.field.Field.{Field}
use Rattle.item_schema.specs.Layout.{Layout}
use Rattle.item_schema.specs.declared.column.Column.{Column}
use Rattle.line_reader.specs.declared.stop.Skip.{Skip}
use Rattle.rate_expr.specs.Words.{Word}
use Rattle.stream_run.specs.Meanings.{Meaning}
use Rattle.stream_run.specs.Output.{answer, answers, body_of, read_of}
use Rattle.stream_run.specs.Replies.{AreReplies, AreRepliesTo, IsReply}
use Rattle.stream_run.specs.Replying.{Replies}
use Rattle.stream_run.specs.Resumed.{meaning_after}
use Rattle.stream_run.specs.Sessions.{IsAfter, IsSaid, Origin, RepliesTo, layout_from, origin_of}
use Rattle.stream_run.specs.declared.session.Session.{Session}
use Rattle.stream_run.proofs.Answering.{answers-push}
use Rattle.stream_run.proofs.LineItems.{read_after}
use Rattle.stream_run.proofs.Sessions.{read_is}

-- the answers so far and then a text that replies to the next line
pub replied : (meaning : Meaning) (shown : List Shown) (line : Shown) (reply : List ℕ)
    → reply ≡ answer meaning shown line
    → answers meaning shown ++ reply ≡ answers meaning (shown ++ line ∷ [])
replied meaning shown line reply replies =
    ap (λ (l : List ℕ). answers meaning shown ++ l) replies ∙ sym (answers-push meaning shown line)

-- replies to lines, and a reply to one more
replies-push : (columns : List Column) (lines : List Shown) (line : Shown) (text reply : List ℕ)
    → AreReplies columns lines text → IsReply (read_of columns line) reply
    → AreReplies columns (lines ++ line ∷ []) (text ++ reply)
replies-push columns [] line text reply none replies =
    (reply, [], replies, refl, ap (λ (t : List ℕ). t ++ reply) none ∙ sym (append-nil reply))
replies-push columns (first ∷ lines) line text reply are replies = (
  are.0,
  are.1 ++ reply,
  are.2,
  replies-push columns lines line are.1 reply are.3 replies,
  ap (λ (t : List ℕ). t ++ reply) are.4 ∙ append_assoc are.0 are.1 reply,
)

-- the header has no reply
unread : (columns : List Column) (lines : List Shown) (text reply : List ℕ)
    → AreReplies columns lines text → IsReply None reply → AreReplies columns lines (text ++ reply)
unread columns lines text reply are none = subst (AreReplies columns lines)
    (sym (ap (λ (r : List ℕ). text ++ r) none.1 ∙ append-nil text)) are

module _ (columns : List Column) (line : Shown) (text reply : List ℕ) where
  -- the first line of all
  first_said : (has_header : Bool) → AreReplies columns (body_of has_header []) text
      → IsReply (cond has_header None (read_of columns line)) reply
      → AreReplies columns (body_of has_header ([] ++ line ∷ [])) (text ++ reply)
  first_said true are replies = unread columns [] text reply are replies
  first_said false are replies = replies-push columns [] line text reply are replies

  -- each later one
  later_said : (has_header : Bool) (first : Shown) (before : List Shown)
      → AreReplies columns (body_of has_header (first ∷ before)) text
      → IsReply (read_of columns line) reply
      → AreReplies columns (body_of has_header ((first ∷ before) ++ line ∷ [])) (text ++ reply)
  later_said true first before are replies =
      replies-push columns before line text reply are replies
  later_said false first before are replies =
      replies-push columns (first ∷ before) line text reply are replies

-- one line more of a stream
said-push : (layout : Layout) (before : List Shown) (line : Shown) (text reply : List ℕ)
    → AreRepliesTo layout before text → IsReply (read_after layout before line) reply
    → AreRepliesTo layout (before ++ line ∷ []) (text ++ reply)
said-push layout [] line text reply are replies =
    first_said layout.columns line text reply layout.has_header are replies
said-push layout (first ∷ before) line text reply are replies =
    later_said layout.columns line text reply layout.has_header first before are replies

module _ {F : Type 0} (follows : F → Word → Type 0) (origin : Origin F) where
  -- what was said of lines, and the reply to one more
  pub said_more : (before : List Shown) (line : Shown) (text reply : List ℕ) (old new : Session F)
      → IsAfter follows origin before old → IsSaid follows origin before text
      → RepliesTo follows line reply old new
      → IsSaid follows origin (before ++ line ∷ []) (text ++ reply)
  said_more before line text reply old new holds_after said replies = record {
    replies = said-push (layout_from origin) before line text reply said.replies
        (subst (λ (r : Option (Result (List Field) Skip)). IsReply r reply)
        (read_is follows origin before line old new holds_after) replies.reply);
    values = λ word meaning first means.
        ap (λ (t : List ℕ). t ++ reply) (said.values word meaning first means)
        ∙ replied (meaning_after meaning word origin.began) before line reply
        (replies.answers origin before holds_after word meaning first means);
  }

-- what a session writes for a line is what replies to it
pub replies_so : {F : Type 0} (follows : F → Word → Type 0) (line : Shown) (written : List ℕ)
    (old new : Session F) → RepliesTo follows line written old new
    → Replies (λ first lines now. IsAfter follows (origin_of first) lines now)
    (λ first lines text. IsSaid follows (origin_of first) lines text) line written old new
replies_so follows line written old new replies = record {
  stands = λ first before holds_after. replies.takes (origin_of first) before holds_after;
  says = λ first before text holds_after said.
      said_more follows (origin_of first) before line text written old new holds_after said replies;
}

-- so is a text that was made for it
pub said_so : {F : Type 0} (follows : F → Word → Type 0) (line : Shown)
    (result : Result (Bor (List ℕ)) AllocError) (old new : Session F)
    → IfOk result (λ reply. RepliesTo follows line reply.now old new)
    → IfOk result (λ reply. Replies (λ first lines now. IsAfter follows (origin_of first) lines now)
    (λ first lines text. IsSaid follows (origin_of first) lines text) line reply.now old new)
said_so follows line (Ok reply) old new replies = replies_so follows line reply.now old new replies
said_so follows line (Err error) old new replies = tt
