-- The key is none of those before it, and its bytes stand after theirs.
use Rattle.std.proofs.Common.{◌≡◌, ◌++◌, [], ◌∷◌, List, length, ◌∙◌, ap}
use Rattle.value_ops.specs.declared.entries.Entry.{Entry}
use Rattle.value_ops.proofs.EntryLaws.{IsTable-push}
use Rattle.value_ops.proofs.KeyBytesLaws.{entries_from-push, KeysFill-push}
use Rattle.value_ops.proofs.Texts.{text_from_bytes}
use Rattle.value_ops.proofs.entries.Entries.push.Goals as goal

pub invariant_of-self-2 : goal.invariant_of-self-2
invariant_of-self-2 c =
    let entries = c.self.inside.entries.items in
    let bytes = c.self.inside.keys.items in
    let key = c.args.key.now in
    let entry : Entry = record { end = c.len-end.result; value = c.known-value.result } in
    let added : c.extend_from_slice.new.self.items ≡ bytes ++ key =
    c.in_ok-extend_from_slice.ensures.items in
    let ends : c.len-end.result ≡ length (bytes ++ key)
    = c.len-end.ensures ∙ c.extend_from_slice.new.self.ok.0 ∙ ap length added in
    let put : c.push_reserved.new.self.items ≡ entries ++ entry ∷ []
    = c.push_reserved.ensures.items
    ∙ ap (λ (before : List Entry). before ++ entry ∷ []) c.reserve.ensures.items in
    let none = rw (← c.self.view_is) at c.requires in
    rw (put, added) (
      KeysFill-push 0 entries bytes key entry c.self.invariant.0 ends,
      rw (entries_from-push 0 entries bytes key entry c.self.invariant.0 ends)
          (IsTable-push _ key c.known-value.result c.self.invariant.1 none
          (text_from_bytes key c.type_inv.key)
          (rw c.known-value.ensures.same c.known-value.ensures.range)),
    )

pub returns-clause-ok : goal.returns-clause-ok
returns-clause-ok c =
    let entries = c.self.inside.entries.items in
    let bytes = c.self.inside.keys.items in
    let key = c.args.key.now in
    let entry : Entry = record { end = c.len-end.result; value = c.known-value.result } in
    let added : c.extend_from_slice.new.self.items ≡ bytes ++ key =
    c.in_ok-extend_from_slice.ensures.items in
    let ends : c.len-end.result ≡ length (bytes ++ key)
    = c.len-end.ensures ∙ c.extend_from_slice.new.self.ok.0 ∙ ap length added in
    let put : c.push_reserved.new.self.items ≡ entries ++ entry ∷ []
    = c.push_reserved.ensures.items
    ∙ ap (λ (before : List Entry). before ++ entry ∷ []) c.reserve.ensures.items in
    rw (← c.self.view_is, put, added, ← c.known-value.ensures.same)
    (entries_from-push 0 entries bytes key entry c.self.invariant.0 ends)
