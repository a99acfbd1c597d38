-- What a session follows, from one line to the next.
use Rattle.std.proofs.Common.{◌≡◌, ◌==◌, ℕ, ◌&&◌, not, Bool, true, false, cond, List, [], ◌∷◌, ◌++◌}
use Rattle.std.proofs.Common.{Option, None, Some, Result, Ok, Err, IfOk, Bor, length, refl, sym, ap}
use Rattle.std.proofs.Common.{subst, ◌∙◌, append_assoc, append-nil}
use Rattle.std.specs.declared.alloc.AllocError.{AllocError}
use Rattle.io_edge.specs.Lines.{Shown, long, text}
use Rattle.value_ops.specs.declared.field.Field.{Field}
use Rattle.value_ops.specs.declared.value.Value.{Value}
use Rattle.item_schema.specs.Layout.{Layout}
use Rattle.item_schema.specs.declared.column.Column.{Column}
use Rattle.line_reader.specs.declared.stop.Skip.{Skip}
use Rattle.line_reader.specs.Reading.{item_of}
use Rattle.rate_expr.specs.Words.{Word, IsWordOf}
use Rattle.rate_expr.proofs.Wording.{word_more}
use Rattle.query_model.specs.Checked.{IsChecked, CheckedQuery}
use Rattle.query_model.specs.Following.{IsAnswer}
use Rattle.query_model.specs.Monitors.{monitor_of}
use Rattle.query_model.specs.Queries.{Qre, plain_of}
use Rattle.query_model.specs.Rules.{free}
use Rattle.report_writer.specs.Texts.{answer_text, skip_text}
use Rattle.stream_run.specs.Meanings.{IsMeaning, Meaning}
use Rattle.stream_run.specs.Output.{answer, is_header, item_in, items_of, read_of, reply_to}
use Rattle.stream_run.specs.Output.{value_after}
use Rattle.stream_run.specs.Replies.{IsReply}
use Rattle.stream_run.specs.Resumed.{layout_after, meaning_after}
use Rattle.stream_run.specs.Sessions.{FollowsFrom, FollowsOn, IsAfter, IsReady, IsReplyTo, Origin}
use Rattle.stream_run.specs.Sessions.{RepliesTo, Takes, awaits_header, layout_from}
use Rattle.stream_run.specs.Sessions.{read_by, text_of}
use Rattle.stream_run.specs.declared.session.Reply.{Reply}
use Rattle.stream_run.specs.declared.session.Reply.TheVariants.{Answered, Silent, Skipped}
use Rattle.stream_run.specs.declared.session.Session.{Session}
use Rattle.stream_run.proofs.LineItems.{begun_next, header_next, items-push}
use Rattle.stream_run.proofs.LineItems.{read_after, word_joined}
use Rattle.stream_run.proofs.OneAnswer.{one_answer}

-- a line that is not the header is replied to by what it gives
pub answer-is : (meaning : Meaning) (before : List Shown) (line : Shown)
    → answer meaning before line
    ≡ reply_to (read_after meaning.layout before line) (value_after meaning (before ++ line ∷ []))
answer-is meaning before line = at (is_header meaning.layout before)
  where
    value : Option Value
    value = value_after meaning (before ++ line ∷ [])

    read : Option (Result (List Field) Skip)
    read = read_of meaning.layout.columns line

    at : (b : Bool) → cond b [] (reply_to read value) ≡ reply_to (cond b None read) value
    at true = refl
    at false = refl

-- the text of a reply to what was read, where an answer to an item is the value
reply-text : (read : Option (Result (List Field) Skip)) (reply : Reply)
    (answered value : Option Value) → IsReplyTo read reply
    → ((item : List Field) → read ≡ Some (Ok item) → answered ≡ value)
    → text_of reply answered ≡ reply_to read value
reply-text None Silent answered value is same = refl
reply-text (Some (Err why)) (Skipped skip) answered value is same = ap skip_text is
reply-text (Some (Ok item)) Answered answered value is same = ap answer_text (same item refl)
reply-text _ _ answered value is same = absurd is

-- the text of a reply to what was read is a reply
is_reply : (read : Option (Result (List Field) Skip)) (reply : Reply) (answered : Option Value)
    → IsReplyTo read reply → IsReply read (text_of reply answered)
is_reply read reply answered is =
    (answered, reply-text read reply answered answered is (λ item found. refl))

module _ {F : Type 0} (follows : F → Word → Type 0) where
  module _ (origin : Origin F) (before : List Shown) (line : Shown) (old new : Session F)
      (holds_after : IsAfter follows origin before old) where
    -- what the session reads is what the line gives after these
    pub read_is : read_by old line ≡ read_after (layout_from origin) before line
    read_is =
        ap (λ (o : CheckedQuery). cond (o.layout.has_header && not old.began) None
        (read_of o.layout.columns line)) holds_after.same
        ∙ ap (λ (b : Bool). cond (origin.on.layout.has_header && not b) None
        (read_of origin.on.layout.columns line)) holds_after.began_is
        ∙ ap (λ (b : Bool). cond b None (read_of origin.on.layout.columns line))
        (header_next origin.on.layout origin.began before)

    -- the items of these and of the line are a word, and it follows them
    follows_more : (read : Option (Result (List Field) Skip))
        → read_after (layout_from origin) before line ≡ read
        → FollowsOn follows origin.on.layout.columns read old.follower new.follower
        → IsWordOf origin.on.layout.columns (items_of (layout_from origin) (before ++ line ∷ []))
        × ((word : Word) → follows origin.follower word
        → follows new.follower (word ++ items_of (layout_from origin) (before ++ line ∷ [])))
    follows_more read is follows_on =
        let layout = layout_from origin in
        let items = items_of layout before in
        let more = sym (items-push layout before line
        ∙ ap (λ (r : Option (Result (List Field) Skip)). items ++ item_in r) is) in
        let both = at read follows_on in (
          subst (IsWordOf origin.on.layout.columns) more both.0,
          λ word first. subst (λ (w : Word). follows new.follower (word ++ w)) more
              (both.1 word first),
        )
      where
        items : Word
        items = items_of (layout_from origin) before

        unread : new.follower ≡ old.follower
            → IsWordOf origin.on.layout.columns (items ++ [])
            × ((word : Word) → follows origin.follower word
            → follows new.follower (word ++ (items ++ [])))
        unread same =
            let none = sym (append-nil items) in (
              subst (IsWordOf origin.on.layout.columns) none holds_after.is_word,
              λ word first. subst (λ (w : Word). follows new.follower (word ++ w)) none
                  (subst (λ (f : F). follows f (word ++ items)) (sym same)
                  (holds_after.carries word first)),
            )

        at : (r : Option (Result (List Field) Skip))
            → FollowsOn follows origin.on.layout.columns r old.follower new.follower
            → IsWordOf origin.on.layout.columns (items ++ item_in r)
            × ((word : Word) → follows origin.follower word
            → follows new.follower (word ++ (items ++ item_in r)))
        at None same = unread same
        at (Some (Err why)) same = unread same
        at (Some (Ok item)) (is_item, carries) = (
          word_more origin.on.layout.columns items item holds_after.is_word is_item,
          λ word first. subst (follows new.follower) (append_assoc word items (item ∷ []))
              (carries (word ++ items) (holds_after.carries word first)),
        )

  -- a session that reads a line and follows on is after it
  pub takes : (line : Shown) (old new : Session F) → new.checked ≡ old.checked → new.began ≡ true
      → FollowsOn follows old.checked.now.layout.columns (read_by old line) old.follower
      new.follower → Takes follows line old new
  takes line old new same began follows_on origin before holds_after =
      let read = read_after (layout_from origin) before line in
      let is : read_by old line ≡ read = read_is origin before line old new holds_after in
      let after = follows_more origin before line old new holds_after read refl
      (subst
      (λ (o : CheckedQuery). FollowsOn follows o.layout.columns read old.follower new.follower)
      holds_after.same
      (subst (λ (r : Option (Result (List Field) Skip)). FollowsOn follows
      old.checked.now.layout.columns r old.follower new.follower) is follows_on)) in
      record {
        same = ap (λ c. c.now) same ∙ holds_after.same;
        is_word = after.0;
        carries = after.1;
        began_is = began ∙ sym (begun_next origin.began before line);
      }

module _ {F : Type 0} (follows : F → Word → Type 0) (query : F → Qre) where
  -- a text by the reply to a line is what is written for it, where the answer to an item
  -- is the query's
  pub replies : (line : Shown) (reply : Reply) (answered : Option Value) (old new : Session F)
      → new.checked ≡ old.checked → new.began ≡ true → IsReplyTo (read_by old line) reply
      → FollowsOn follows old.checked.now.layout.columns (read_by old line)
      old.follower new.follower
      → ((item : List Field) → read_by old line ≡ Some (Ok item) → IsChecked old.checked.now
      × (query new.follower ≡ plain_of new.checked.now.main.shape)
      × ((word : Word) → follows new.follower word → IsAnswer (query new.follower) word answered))
      → RepliesTo follows line (text_of reply answered) old new
  replies line reply answered old new same began replied follows_on answers = record {
    takes = taken;
    reply = is_reply (read_by old line) reply answered replied;
    answers = answer_is;
  }
    where
      taken : Takes follows line old new
      taken = takes follows line old new same began follows_on

      answer_is : (origin : Origin F) (before : List Shown) → IsAfter follows origin before old
          → (word : Word) (meaning : Meaning) → FollowsFrom follows origin word
          → IsMeaning (monitor_of origin.on) meaning
          → text_of reply answered ≡ answer (meaning_after meaning word origin.began) before line
      answer_is origin before holds_after word meaning first means =
          let lines = before ++ line ∷ [] in
          let on = origin.on in
          let layout = layout_from origin in
          let items = items_of layout lines in
          let read = read_after layout before line in
          let is : read_by old line ≡ read = read_is follows origin before line old new holds_after in
          let after = taken origin before holds_after in
          reply-text read reply answered (meaning.value (word ++ items))
          (subst (λ (r : Option (Result (List Field) Skip)). IsReplyTo r reply) is replied)
          (λ item found.
          let given = answers item (is ∙ found) in
          let checked : IsChecked on = subst IsChecked holds_after.same given.0 in
          let query_is : query new.follower ≡ plain_of on.main.shape =
          given.1 ∙ ap (λ (o : CheckedQuery). plain_of o.main.shape) after.same in
          let is_word = word_joined on.layout.columns word items first.0 after.is_word in
          one_answer free on.layout.columns (plain_of on.main.shape) (word ++ items) answered
          (meaning.value (word ++ items)) checked.clear is_word
          (subst (λ (q : Qre). IsAnswer q (word ++ items) answered) query_is
          (given.2 (word ++ items) (after.carries word first.1)))
          (means.value (word ++ items) is_word))
          ∙ sym (answer-is (meaning_after meaning word origin.began) before line
          ∙ ap (λ (l : Layout). reply_to (read_after (layout_after l origin.began) before line)
          (meaning.value (word ++ items_of (layout_after l origin.began) lines))) means.layout)

  -- a line that is too long is the header or skipped
  pub replies_long : (reply : Reply) (answered : Option Value) (old new : Session F)
      → new ≡ record old { began = true } → IsReplyTo (read_by old long) reply
      → RepliesTo follows long (text_of reply answered) old new
  replies_long reply answered old new is replied =
      replies long reply answered old new (ap (λ (s : Session F). s.checked) is)
      (ap (λ (s : Session F). s.began) is) replied (unmoved (awaits_header old))
      (λ item found. absurd (no_item (awaits_header old) item found))
    where
      unmoved : (b : Bool)
          → FollowsOn follows old.checked.now.layout.columns
          (cond b None (read_of old.checked.now.layout.columns long)) old.follower new.follower
      unmoved true = ap (λ (s : Session F). s.follower) is
      unmoved false = ap (λ (s : Session F). s.follower) is

      no_item : (b : Bool) (item : List Field)
          → cond b None (read_of old.checked.now.layout.columns long) ≡ Some (Ok item) → ⊥
      no_item true item found = cc
      no_item false item found = cc

-- what was made of a line is the text that replies to it
pub reported : {F : Type 0} (follows : F → Word → Type 0)
    (result : Result (Bor (List ℕ)) AllocError) (said : List ℕ) (line : Shown)
    (old new : Session F) → IfOk result (λ t. t.now ≡ said) → RepliesTo follows line said old new
    → IfOk result (λ reply. RepliesTo follows line reply.now old new)
reported follows (Ok reply) said line old new is said_so =
    subst (λ (t : List ℕ). RepliesTo follows line t old new) (sym is) said_so
reported follows (Err error) said line old new is said_so = tt

-- a line that is not empty gives what is read of it, after the header
pub read_line : {F : Type 0} (session : Session F) (line : List ℕ) → awaits_header session ≡ false
    → (length line == 0) ≡ false
    → read_by session (text line) ≡ Some (item_of session.checked.now.layout.columns line)
read_line session line other some =
    ap (λ (b : Bool). cond b None (read_of session.checked.now.layout.columns (text line))) other
    ∙ at line some
  where
    at : (l : List ℕ) → (length l == 0) ≡ false
        → read_of session.checked.now.layout.columns (text l)
        ≡ Some (item_of session.checked.now.layout.columns l)
    at [] none = absurd (cc)
    at (b ∷ bytes) none = refl

-- a session of a follower that follows the empty word is ready
pub ready_begins : {F : Type 0} (query : F → Qre) (columns : F → List Column) (lost : F → Bool)
    (sound : F → Type 0) (on : CheckedQuery) (follower : F) (session : Session F)
    → session.checked.now ≡ on → session.follower ≡ follower
    → query follower ≡ plain_of on.main.shape → columns follower ≡ on.layout.columns
    → lost follower ≡ false → sound follower → IsReady query columns lost sound session
ready_begins query columns lost sound on follower session same kept query_is columns_are found
    is_sound = record {
      query_is =
          ap query kept ∙ query_is ∙ ap (λ (o : CheckedQuery). plain_of o.main.shape) (sym same);
      columns_are =
          ap columns kept ∙ columns_are ∙ ap (λ (o : CheckedQuery). o.layout.columns) (sym same);
      found = ap lost kept ∙ found;
      is_sound = subst sound (sym kept) is_sound;
    }
