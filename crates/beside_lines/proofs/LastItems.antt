-- The last item among lines.
use Rattle.std.proofs.Common.{◌≡◌, ◌⊎◌, inl, inr, List, [], ◌∷◌, ◌++◌, Option, Some, None, Result}
use Rattle.std.proofs.Common.{Ok, Err, refl, sym, ap, subst, ◌∙◌, append_assoc, append-nil}
use Rattle.io_edge.specs.Lines.{Shown}
use Rattle.value_ops.specs.declared.field.Field.{Field}
use Rattle.item_schema.specs.Layout.{Layout}
use Rattle.line_reader.specs.declared.stop.Skip.{Skip}
use Rattle.rate_expr.specs.Words.{Word}
use Rattle.report_writer.specs.Texts.{answer_text}
use Rattle.stream_run.specs.Meanings.{Meaning}
use Rattle.stream_run.specs.Output.{answer, item_in, items_of, reply_to, value_after}
use Rattle.stream_run.specs.SessionLaws.{no_items}
use Rattle.stream_run.proofs.LineItems.{items-push, read_after}
use Rattle.stream_run.proofs.Sessions.{answer-is}
use Rattle.beside_lines.specs.LastAnswer.{AreNoItems, last_answer}

-- a line among others that come after these is an item, and none after it is
record LastIn (layout : Layout) (before shown : List Shown) : Type 0 where
  front : List Shown
  line : Shown
  others : List Shown
  parts : shown ≡ front ++ line ∷ others
  item : List Field
  is_item : read_after layout (before ++ front) line ≡ Some (Ok item)
  none_after : AreNoItems layout ((before ++ front) ++ line ∷ []) others

module _ (layout : Layout) where
  -- a line after these and one more is after these
  shifted : (before : List Shown) (first : Shown) (rest : List Shown)
      → LastIn layout (before ++ first ∷ []) rest → LastIn layout before (first ∷ rest)
  shifted before first rest found =
      let same : (before ++ first ∷ []) ++ found.front ≡ before ++ first ∷ found.front =
      append_assoc before (first ∷ []) found.front in
      record {
        front = first ∷ found.front;
        line = found.line;
        others = found.others;
        parts = ap (λ (l : List Shown). first ∷ l) found.parts;
        item = found.item;
        is_item = ap (λ (b : List Shown). read_after layout b found.line) (sym same)
            ∙ found.is_item;
        none_after = subst
            (λ (b : List Shown). AreNoItems layout (b ++ found.line ∷ []) found.others)
            same found.none_after;
      }

  -- there is one, or these lines bring no items
  last_in : (before shown : List Shown)
      → LastIn layout before shown ⊎ AreNoItems layout before shown
  last_in before [] = inr (ap (items_of layout) (append-nil before))
  last_in before (first ∷ rest) = at (last_in (before ++ first ∷ []) rest)
    where
      pushed : (read : Option (Result (List Field) Skip)) → read_after layout before first ≡ read
          → items_of layout (before ++ first ∷ []) ≡ items_of layout before ++ item_in read
      pushed read is = items-push layout before first
          ∙ ap (λ (r : Option (Result (List Field) Skip)). items_of layout before ++ item_in r) is

      all : AreNoItems layout (before ++ first ∷ []) rest
          → items_of layout (before ++ first ∷ rest) ≡ items_of layout (before ++ first ∷ [])
      all none = ap (items_of layout) (sym (append_assoc before (first ∷ []) rest)) ∙ none

      by : (read : Option (Result (List Field) Skip)) → read_after layout before first ≡ read
          → AreNoItems layout (before ++ first ∷ []) rest
          → LastIn layout before (first ∷ rest) ⊎ AreNoItems layout before (first ∷ rest)
      by None is none = inr (all none ∙ pushed None is ∙ append-nil (items_of layout before))
      by (Some (Err why)) is none =
          inr (all none ∙ pushed (Some (Err why)) is ∙ append-nil (items_of layout before))
      by (Some (Ok item)) is none =
          let same : before ++ [] ≡ before = append-nil before in
          inl (record {
            front = [];
            line = first;
            others = rest;
            parts = refl;
            item = item;
            is_item = ap (λ (b : List Shown). read_after layout b first) same ∙ is;
            none_after = subst (λ (b : List Shown). AreNoItems layout (b ++ first ∷ []) rest)
                (sym same) none;
          })

      at : LastIn layout (before ++ first ∷ []) rest ⊎ AreNoItems layout (before ++ first ∷ []) rest
          → LastIn layout before (first ∷ rest) ⊎ AreNoItems layout before (first ∷ rest)
      at (inl found) = inl (shifted before first rest found)
      at (inr none) = by (read_after layout before first) refl none

-- what a run writes for the last item is the last answer
pub last_item : (meaning : Meaning) (shown : List Shown) → (items_of meaning.layout shown ≡ [])
    ⊎ ((before : List Shown) × (line : Shown) × (others : List Shown)
    × (shown ≡ before ++ line ∷ others) × (answer meaning before line ≡ last_answer meaning shown)
    × AreNoItems meaning.layout (before ++ line ∷ []) others)
last_item meaning shown = at (last_in meaning.layout [] shown)
  where
    at : LastIn meaning.layout [] shown ⊎ AreNoItems meaning.layout [] shown
        → (items_of meaning.layout shown ≡ [])
        ⊎ ((before : List Shown) × (line : Shown) × (others : List Shown)
        × (shown ≡ before ++ line ∷ others)
        × (answer meaning before line ≡ last_answer meaning shown)
        × AreNoItems meaning.layout (before ++ line ∷ []) others)
    at (inr none) = inl (none ∙ no_items meaning.layout)
    at (inl found) =
        let to_here = found.front ++ found.line ∷ [] in
        let all : items_of meaning.layout shown ≡ items_of meaning.layout to_here =
        ap (items_of meaning.layout)
        (found.parts ∙ sym (append_assoc found.front (found.line ∷ []) found.others))
        ∙ found.none_after in
        inr (
          found.front,
          found.line,
          found.others,
          found.parts,
          answer-is meaning found.front found.line
              ∙ ap (λ (r : Option (Result (List Field) Skip)).
              reply_to r (value_after meaning to_here)) found.is_item
              ∙ ap (λ (w : Word). answer_text (meaning.value w)) (sym all),
          found.none_after,
        )
