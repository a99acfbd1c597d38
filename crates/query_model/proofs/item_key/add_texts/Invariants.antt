use Rattle.std.proofs.Common.{◌≡◌, ◌++◌, take}
use Rattle.joined_texts.specs.Joining.{after_bars}
use Rattle.query_model.specs.Keys.{texts_in}
use Rattle.query_model.proofs.item_key.add_texts.Given as goal

-- the texts so far
abbrev pub invariant-columns : goal.invariant-columns
invariant-columns l = l.text ≡ l.initial.text
    ++ after_bars (texts_in (take l.column-index l.columns) l.item)
