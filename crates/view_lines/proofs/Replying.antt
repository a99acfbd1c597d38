-- The row of a line is that of what the line was read to.
use Rattle.std.proofs.Common.{◌≡◌, ℕ, Bool, true, false, cond, List, [], ◌∷◌, ◌++◌, Option, Some}
use Rattle.std.proofs.Common.{None, Result, Ok, Err, IsOk, refl, sym, ap, subst, ◌∙◌}
use Rattle.io_edge.specs.Lines.{Shown, long, text}
use Rattle.value_ops.specs.declared.field.Field.{Field}
use Rattle.value_ops.specs.declared.value.Value.{Value}
use Rattle.item_schema.specs.Layout.{Layout}
use Rattle.item_schema.specs.declared.column.Column.{Column}
use Rattle.line_reader.specs.Reading.{item_of}
use Rattle.line_reader.specs.declared.stop.Skip.{Skip}
use Rattle.rate_expr.specs.Words.{Word}
use Rattle.query_model.specs.Checked.{IsChecked, CheckedQuery}
use Rattle.query_model.specs.Following.{IsAnswer}
use Rattle.query_model.specs.Monitors.{monitor_of}
use Rattle.query_model.specs.Queries.{Qre, plain_of}
use Rattle.query_model.specs.Rules.{free}
use Rattle.stream_run.specs.Meanings.{IsMeaning, Meaning}
use Rattle.stream_run.specs.Output.{is_header, items_of, read_of}
use Rattle.stream_run.specs.Resumed.{layout_after, meaning_after}
use Rattle.stream_run.specs.Sessions.{FollowsFrom, IsAfter, IsReplyTo, Origin, Takes}
use Rattle.stream_run.specs.Sessions.{awaits_header, layout_from, read_by}
use Rattle.stream_run.specs.declared.session.Reply.{Reply}
use Rattle.stream_run.specs.declared.session.Reply.TheVariants.{Answered, Silent, Skipped}
use Rattle.stream_run.specs.declared.session.Session.{Session}
use Rattle.stream_run.proofs.LineItems.{read_after, word_joined}
use Rattle.stream_run.proofs.OneAnswer.{one_answer}
use Rattle.stream_run.proofs.Sessions.{read_is}
use Rattle.view_lines.specs.Replies.{IsReadable, row_replied}
use Rattle.view_lines.specs.Rows.{row_of, row_read, skipped}

-- an item is read from the bytes of a line
item_read : (header : Bool) (columns : List Column) (line : Shown) (item : List Field)
    → cond header None (read_of columns line) ≡ Some (Ok item)
    → (bytes : List ℕ) × (line ≡ text bytes) × (item_of columns bytes ≡ Ok item)
item_read true columns line item is = absurd (cc)
item_read false columns (text []) item is = absurd (cc)
item_read false columns (text (byte ∷ bytes)) item is = (byte ∷ bytes, refl, cc)
item_read false columns long item is = absurd (cc)

-- none is read from one that is too long
no_item : (header : Bool) (columns : List Column) (item : List Field)
    → cond header None (read_of columns long) ≡ Some (Ok item) → ⊥
no_item true columns item is = cc
no_item false columns item is = cc

-- an item that a session has read is read again
pub readable : {F : Type 0} (session : Session F) (line : List ℕ) (reply : Reply)
    → IsReplyTo (read_by session (text line)) reply
    → IsReadable session.checked.now.layout.columns line reply
readable session line Silent is = tt
readable session line (Skipped why) is = tt
readable session line Answered is = at (read_by session (text line)) refl is
  where
    columns : List Column
    columns = session.checked.now.layout.columns

    same_line : (bytes : List ℕ) (item : List Field) → text line ≡ text bytes
        → item_of columns bytes ≡ Ok item → IsOk (item_of columns line)
    same_line bytes item same is =
        let bytes_are : line ≡ bytes = cc in
        subst IsOk (sym (ap (item_of columns) bytes_are ∙ is)) refl

    at : (read : Option (Result (List Field) Skip)) → read_by session (text line) ≡ read
        → IsReplyTo read Answered → IsOk (item_of columns line)
    at (Some (Ok item)) found is =
        let again = item_read (awaits_header session) columns (text line) item found in
        same_line again.0 item again.1 again.2
    at (Some (Err why)) found is = absurd is
    at None found is = absurd is

-- the row by a reply is that of what was read
replied : (columns : List Column) (line : Shown) (read : Option (Result (List Field) Skip))
    (reply : Reply) (answer value : Option Value) → IsReplyTo read reply
    → ((item : List Field) → read ≡ Some (Ok item)
    → (bytes : List ℕ) × (line ≡ text bytes) × (item_of columns bytes ≡ Ok item))
    → ((item : List Field) → read ≡ Some (Ok item) → answer ≡ value)
    → row_replied columns line reply answer ≡ row_read line read value
replied columns line None Silent answer value is again same = refl
replied columns line (Some (Err why)) (Skipped skip) answer value is again same =
    ap (λ (s : Skip). skipped line s) is
replied columns line (Some (Ok item)) Answered answer value is again same =
    let found = again item refl in
    ap (λ (l : Shown). row_replied columns l Answered answer) found.1
    ∙ ap (λ (r : Result (List Field) Skip). row_read (text found.0) (Some r) answer) found.2
    ∙ ap (λ (v : Option Value). row_read (text found.0) (Some (Ok item)) v) (same item refl)
replied _ _ _ _ answer value is again same = absurd is

module _ {F : Type 0} (follows : F → Word → Type 0) (query : F → Qre) where
  -- and so it is the row of the line by the query's meaning
  pub row_is : (line : Shown) (reply : Reply) (answer : Option Value) (old new : Session F)
      → IsReplyTo (read_by old line) reply → Takes follows line old new
      → ((item : List Field) → read_by old line ≡ Some (Ok item) → IsChecked old.checked.now
      × (query new.follower ≡ plain_of new.checked.now.main.shape)
      × ((word : Word) → follows new.follower word → IsAnswer (query new.follower) word answer))
      → (origin : Origin F) (before : List Shown) → IsAfter follows origin before old
      → (word : Word) (meaning : Meaning) → FollowsFrom follows origin word
      → IsMeaning (monitor_of origin.on) meaning
      → row_replied origin.on.layout.columns line reply answer
      ≡ row_of (meaning_after meaning word origin.began) before line
  row_is line reply answer old new is_reply takes answers origin before holds_after word meaning
      first means =
      let lines = before ++ line ∷ [] in
      let on = origin.on in
      let layout = layout_from origin in
      let items = items_of layout lines in
      let read = read_after layout before line in
      let is : read_by old line ≡ read = read_is follows origin before line old new holds_after in
      let after = takes origin before holds_after in
      replied on.layout.columns line read reply answer (meaning.value (word ++ items))
      (subst (λ (r : Option (Result (List Field) Skip)). IsReplyTo r reply) is is_reply)
      (λ item found. item_read (is_header layout before) on.layout.columns line item found)
      (λ item found.
      let given = answers item (is ∙ found) in
      let checked : IsChecked on = subst IsChecked holds_after.same given.0 in
      let query_is : query new.follower ≡ plain_of on.main.shape =
      given.1 ∙ ap (λ (o : CheckedQuery). plain_of o.main.shape) after.same in
      let is_word = word_joined on.layout.columns word items first.0 after.is_word in
      one_answer free on.layout.columns (plain_of on.main.shape) (word ++ items) answer
      (meaning.value (word ++ items)) checked.clear is_word
      (subst (λ (q : Qre). IsAnswer q (word ++ items) answer) query_is
      (given.2 (word ++ items) (after.carries word first.1)))
      (means.value (word ++ items) is_word))
      ∙ sym (ap (λ (l : Layout). row_read line
      (read_after (layout_after l origin.began) before line)
      (meaning.value (word ++ items_of (layout_after l origin.began) lines))) means.layout)

  -- so is that of a line that is too long
  pub long_row_is : (reply : Reply) (old new : Session F) → IsReplyTo (read_by old long) reply
      → Takes follows long old new
      → (origin : Origin F) (before : List Shown) → IsAfter follows origin before old
      → (word : Word) (meaning : Meaning) → FollowsFrom follows origin word
      → IsMeaning (monitor_of origin.on) meaning
      → row_replied origin.on.layout.columns long reply None
      ≡ row_of (meaning_after meaning word origin.began) before long
  long_row_is reply old new is_reply takes =
      row_is long reply None old new is_reply takes
      (λ item found. absurd (no_item (awaits_header old) old.checked.now.layout.columns item found))
