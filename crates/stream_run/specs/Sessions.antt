-- Statement. A session takes the lines of a stream one by one, and its follower, the engine, takes
-- the items among them: what it has after some lines, and what one more line does.
use Rattle.std.specs.Prelude.{◌≡◌, ℕ, Bool, ◌&&◌, ◌||◌, not, true, false, List, [], ◌∷◌, ◌++◌}
use Rattle.std.specs.Prelude.{Option, Some, None, Result, Ok, Err, if◌then◌else◌}
use Rattle.io_edge.specs.Lines.{Shown}
use Rattle.value_ops.specs.declared.field.Field.{Field}
use Rattle.value_ops.specs.declared.value.Value.{Value}
use Rattle.item_schema.specs.Items.{IsItemOf}
use Rattle.item_schema.specs.Layout.{Layout}
use Rattle.item_schema.specs.declared.column.Column.{Column}
use Rattle.line_reader.specs.declared.stop.Skip.{Skip}
use Rattle.rate_expr.specs.Words.{Word, IsWordOf}
use Rattle.report_writer.specs.Texts.{answer_text, skip_text}
use Rattle.query_model.specs.Checked.{CheckedQuery}
use Rattle.query_model.specs.Following.{Carries}
use Rattle.query_model.specs.Monitors.{monitor_of}
use Rattle.query_model.specs.Queries.{Qre, plain_of}
use Rattle.stream_run.specs.Meanings.{IsMeaning, Meaning}
use Rattle.stream_run.specs.Output.{answer, answers, items_of, read_of}
use Rattle.stream_run.specs.Replies.{AreRepliesTo, IsReply}
use Rattle.stream_run.specs.Resumed.{layout_after, meaning_after}
use Rattle.stream_run.specs.declared.session.Reply.{Reply}
use Rattle.stream_run.specs.declared.session.Reply.TheVariants.{Answered, Silent, Skipped}
use Rattle.stream_run.specs.declared.session.Session.{Session}

-- at least one line has come
abbrev pub is_begun : List Shown → Bool
is_begun [] = false
is_begun (line ∷ lines) = true

-- the next line is the header
abbrev pub awaits_header : {F : Type 0} → Session F → Bool
awaits_header session = session.checked.now.layout.has_header && not session.began

-- what is read from the next line: an item, or the cause of a skip, or nothing if it is the header
-- or empty
abbrev pub read_by : {F : Type 0} → Session F → Shown → Option (Result (List Field) Skip)
read_by session line =
    if awaits_header session then None else read_of session.checked.now.layout.columns line

-- the reply reports what was read; of an item, only that there is one
abbrev pub IsReplyTo : Option (Result (List Field) Skip) → Reply → Type 0
IsReplyTo None Silent = Unit {0}
IsReplyTo (Some (Err why)) (Skipped skip) = skip ≡ why
IsReplyTo (Some (Ok item)) Answered = Unit {0}
IsReplyTo _ _ = ⊥

-- how a line moves the follower: an item of these columns moves it from whichever word it follows
-- to this word and the item; a skip, or nothing, does not move it
abbrev pub FollowsOn : {F : Type 0} → (F → Word → Type 0) → List Column
    → Option (Result (List Field) Skip) → F → F → Type 0
FollowsOn follows columns (Some (Ok item)) old new =
    IsItemOf columns item × Carries follows old item new
FollowsOn follows columns _ old new = new ≡ old

-- the session can take a line: its follower has the session's query and columns, is sound, and is
-- not lost; out of memory it may get lost
pub record IsReady {F : Type 0} (query : F → Qre) (columns : F → List Column) (lost : F → Bool)
    (sound : F → Type 0) (session : Session F) : Type 0 where
  pub query_is : query session.follower ≡ plain_of session.checked.now.main.shape
  pub columns_are : columns session.follower ≡ session.checked.now.layout.columns
  pub found : lost session.follower ≡ false
  pub is_sound : sound session.follower

-- where a run begins: the checked query, what follows it, and whether a line has come
pub record Origin (F : Type 0) : Type 0 where
  pub on : CheckedQuery
  pub follower : F
  pub began : Bool

-- a run may begin where a session stands
abbrev pub origin_of : {F : Type 0} → Session F → Origin F
origin_of session =
    record { on = session.checked.now; follower = session.follower; began = session.began }

-- or before the first line of a stream
abbrev pub first_origin : {F : Type 0} → CheckedQuery → F → Origin F
first_origin on follower = record { on = on; follower = follower; began = false }

-- how the items lie in the lines to come
abbrev pub layout_from : {F : Type 0} → Origin F → Layout
layout_from origin = layout_after origin.on.layout origin.began

-- a word of the stream is followed there
abbrev pub FollowsFrom : {F : Type 0} → (F → Word → Type 0) → Origin F → Word → Type 0
FollowsFrom follows origin word =
    IsWordOf origin.on.layout.columns word × follows origin.follower word

-- the state of a session after these lines: of whichever word was followed at the origin, the word
-- and the items of the lines after it are followed now
pub record IsAfter {F : Type 0} (follows : F → Word → Type 0) (origin : Origin F)
    (lines : List Shown) (session : Session F) : Type 0 where
  pub same : session.checked.now ≡ origin.on
  pub is_word : IsWordOf origin.on.layout.columns (items_of (layout_from origin) lines)
  pub carries : (word : Word) → follows origin.follower word
      → follows session.follower (word ++ items_of (layout_from origin) lines)
  pub began_is : session.began ≡ (origin.began || is_begun lines)

-- after whichever lines the old session stands, the new one stands after these and the line
abbrev pub Takes : {F : Type 0} → (F → Word → Type 0) → Shown → Session F → Session F → Type 0
Takes {F = F} follows line old new =
    (origin : Origin F) (before : List Shown)
    → IsAfter follows origin before old → IsAfter follows origin (before ++ line ∷ []) new

-- one line is taken, by a session that is `old` before it and `new` after it, and this is written:
-- a reply to the line. After whichever word a run began, and whichever lines came before this one,
-- it answers this line, by every function that gives the values of the query
pub record RepliesTo {F : Type 0} (follows : F → Word → Type 0) (line : Shown) (written : List ℕ)
    (old new : Session F) : Type 0 where
  pub takes : Takes follows line old new
  pub reply : IsReply (read_by old line) written
  pub answers : (origin : Origin F) (before : List Shown) → IsAfter follows origin before old
      → (word : Word) (meaning : Meaning) → FollowsFrom follows origin word
      → IsMeaning (monitor_of origin.on) meaning
      → written ≡ answer (meaning_after meaning word origin.began) before line

-- what a text is to the lines of a run that it is written for: it has a reply to each line, and
-- after whichever word the run began, the answers, by every function that gives the values of the
-- query
pub record IsSaid {F : Type 0} (follows : F → Word → Type 0) (origin : Origin F)
    (lines : List Shown) (text : List ℕ) : Type 0 where
  pub replies : AreRepliesTo (layout_from origin) lines text
  pub values : (word : Word) (meaning : Meaning) → FollowsFrom follows origin word
      → IsMeaning (monitor_of origin.on) meaning
      → text ≡ answers (meaning_after meaning word origin.began) lines

-- what is written for a reply, where the value on all items so far is this
abbrev pub text_of : Reply → Option Value → List ℕ
text_of Silent value = []
text_of (Skipped skip) value = skip_text skip
text_of Answered value = answer_text value
