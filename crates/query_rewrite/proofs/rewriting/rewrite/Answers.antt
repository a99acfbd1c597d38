-- The rewritten query is one that the query may be rewritten as, so it is alike.
use Rattle.std.proofs.Common.{◌≡◌, ◌∙◌, ap, subst, sym, rules}
use Rattle.query_model.specs.Checked.{IsChecked}
use Rattle.query_model.specs.Queries.{plain_of}
use Rattle.query_rewrite.specs.Steps.{rewritten}
use Rattle.query_rewrite.proofs.Kept.{is_rewriting, still_checked}
use Rattle.query_rewrite.proofs.rewriting.rewrite.Goals as goal

pub new-requires : goal.new-requires
new-requires c =
    let is : plain_of c.in_ok-main.main.value.shape
    ≡ rewritten (plain_of c.args.checked.now.main.shape) =
    c.in_ok-main.ensures ∙ ap (λ q. rewritten (plain_of q.shape)) c.main.ensures.main in
    let stream = c.in_ok-schema.ensures ∙ c.schema.ensures.schema in
    subst (λ l. IsChecked (record { layout = l; main = c.in_ok-main.main.value })) (sym stream)
    (still_checked c.args.checked.now c.main.ensures.checked c.in_ok-main.main.value is)

pub returns : goal.returns
returns c =
    let is : plain_of c.new.result.main.shape
    ≡ rewritten (plain_of c.args.checked.now.main.shape) =
    ap (λ made. plain_of made.main.shape) c.new.ensures
    ∙ c.in_ok-main.ensures ∙ ap (λ q. rewritten (plain_of q.shape)) c.main.ensures.main in
    let all = is_rewriting c.args.checked.now c.main.ensures.checked c.new.result.main is in
    record {
      stream = ap (λ made. made.layout) c.new.ensures ∙ c.in_ok-schema.ensures
          ∙ c.schema.ensures.schema;
      rules = all.rules;
      plain = all.plain;
      values = all.values;
      slots = all.slots;
      levels = all.levels;
    }
