use Rattle.std.proofs.Common.{ℕ, List, sym, ap, ◌∙◌}
use Rattle.std.specs.List.{list_any}
use Rattle.std.specs.Str.{bytes_eq}
use Rattle.runner_snapshot.proofs.Added.{keys_after, more_keys, none_held, some_held}
use Rattle.runner_snapshot.proofs.table_reader.add_entry.Goals as goal

pub returns-then-contains-clause-entry : goal.returns-then-contains-clause-entry
returns-then-contains-clause-entry c =
    some_held c.args.key.now c.args.table.now
    (ap (λ (names : List (List ℕ)). list_any (bytes_eq c.args.key.now) names)
    (sym c.requires.names) ∙ sym c.contains.ensures ∙ c.if-contains.true)

pub push-requires : goal.push-requires
push-requires c =
    none_held c.args.key.now c.args.table.now
    (ap (λ (names : List (List ℕ)). list_any (bytes_eq c.args.key.now) names)
    (sym c.requires.names) ∙ sym c.contains.ensures ∙ c.if-contains.false)

pub returns-clause-entry : goal.returns-clause-entry
returns-clause-entry c = (
  none_held c.args.key.now c.args.table.now
      (ap (λ (names : List (List ℕ)). list_any (bytes_eq c.args.key.now) names)
      (sym c.requires.names) ∙ sym c.contains.ensures ∙ c.if-contains.false),
  c.in_ok-push.ensures.ok,
)

pub returns-clause-names : goal.returns-clause-names
returns-clause-names c =
    keys_after c.args.table.now c.push.new.self c.args.key.now c.args.scalar c.args.names.now.keys
    c.insert.new.self.keys c.requires.names c.in_ok-push.ensures.ok
    (more_keys c.args.key.now c.in_ok-name.name c.args.names.now.keys c.insert.new.self.keys
    c.in_ok-name.ensures (sym c.contains.ensures ∙ c.if-contains.false)
    c.in_ok-insert.ensures.keys)
