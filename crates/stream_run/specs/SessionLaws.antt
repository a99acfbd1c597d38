-- For the prover. A session before its first line.
use Rattle.std.specs.Prelude.{◌≡◌, ◌||◌, Bool, true, false, List, [], ◌++◌}
use Rattle.std.specs.List.{flat_map}
use Rattle.std.proofs.Common.{refl, sym, subst, append-nil}
use Rattle.item_schema.specs.Layout.{Layout}
use Rattle.item_schema.specs.declared.column.Column.{Column}
use Rattle.rate_expr.specs.Words.{Word, IsWordOf}
use Rattle.stream_run.specs.Output.{body_of, item_in, items_of, read_of}
use Rattle.stream_run.specs.Replies.{AreReplies}
use Rattle.stream_run.specs.Sessions.{IsAfter, IsSaid, layout_from, origin_of}
use Rattle.stream_run.specs.declared.session.Session.{Session}

pub or-false : (b : Bool) → (b || false) ≡ b
or-false true = refl
or-false false = refl

-- of no lines there are no items
pub no_items : (layout : Layout) → items_of layout [] ≡ []
no_items layout = at layout.has_header
  where
    at : (h : Bool) → flat_map (λ l. item_in (read_of layout.columns l)) (body_of h []) ≡ []
    at true = refl
    at false = refl

-- and nothing is said
said_none : (columns : List Column) (has_header : Bool)
    → AreReplies columns (body_of has_header []) []
said_none columns true = refl
said_none columns false = refl

module _ {F : Type 0} (follows : F → Word → Type 0) (session : Session F) where
  -- the session stands where it is
  pub after_none : IsAfter follows (origin_of session) [] session
  after_none =
      let layout = layout_from (origin_of session) in
      let none : [] ≡ items_of layout [] = sym (no_items layout) in
      record {
        same = refl;
        is_word = subst (IsWordOf session.checked.now.layout.columns) none tt;
        carries = λ word first. subst (λ (w : Word). follows session.follower (word ++ w)) none
            (subst (follows session.follower) (sym (append-nil word)) first);
        began_is = sym (or-false session.began);
      }

  pub said_nothing : IsSaid follows (origin_of session) [] []
  said_nothing =
      let layout = layout_from (origin_of session) in
      record {
        replies = said_none layout.columns layout.has_header;
        values = λ word meaning first means. refl;
      }
