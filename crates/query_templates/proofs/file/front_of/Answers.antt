use Rattle.std.proofs.Common.{◌≡◌, ◌<◌, ℕ, ◌-◌, ◌++◌, ◌∷◌, [], List, length, drop, take, get_or, Option}
use Rattle.std.proofs.Common.{refl, rules, sym, ap, subst, ◌∙◌, arith}
use Rattle.std.proofs.lemmas.List.{drop_more, length-drop, take_all}
use Rattle.std.proofs.lemmas.Result.{err_from_is_err_and}
use Rattle.query_trees.specs.declared.tree.Tree.{Tree}
use Rattle.query_trees.specs.Trees.{trees_of}
use Rattle.query_templates.specs.declared.refusal.TemplateRefusal.{TemplateRefusal}
use Rattle.query_templates.specs.declared.stop.TemplateStop.{TemplateStop}
use Rattle.query_templates.specs.Definitions.{definition_in, definition_refusal}
use Rattle.query_templates.specs.File.{plain_after, refusal_after, refused_after, used_with, with_definition}
use Rattle.query_templates.specs.Expansion.{expanded}
use Rattle.query_templates.specs.Fronts.{IsOther}
use Rattle.query_templates.specs.Origins.{origins_after, origins_of}
use Rattle.query_templates.specs.Plain.{templates_of}
use Rattle.query_templates.specs.Refusals.{IsStopAt, first_of}
use Rattle.query_templates.specs.Templates.{Template}
use Rattle.query_templates.proofs.Files.{plain_next, plain_other, refusal_end, refusal_next, refusal_other}
use Rattle.query_templates.proofs.Files.{templates_pushed}
use Rattle.query_templates.proofs.Firsts.{first_stops}
use Rattle.query_templates.proofs.Tracing.{origins_next, origins_other}
use Rattle.query_templates.proofs.file.front_of.Goals as goal
use Rattle.query_templates.proofs.file.front_of.Goals.{in_default}
use Rattle.query_templates.proofs.file.front_of.Goals.{in-len1-up+in_default-definition_at}

-- a list with its first tree
split : (list : List Tree) (first : Tree) → 0 < length list → first ≡ get_or list 0 first
    → list ≡ first ∷ take (length list - 1) (drop 1 list)
split list first some is =
    drop_more list 0 first some ∙ ap (λ (t : Tree). t ∷ drop 1 list) (sym is)
    ∙ ap (λ (l : List Tree). first ∷ l) (sym (take_all (length list - 1) (drop 1 list)
    (omega (arith, length-drop 1 list))))

-- the same refusal
stops_by : (a b : Option TemplateRefusal) → a ≡ b → (stop : TemplateStop) → IsStopAt b stop
    → IsStopAt a stop
stops_by a b is stop has = subst (λ (f : Option TemplateRefusal). IsStopAt f stop) (sym is) has

pub returns-in_err-defined-clause-stopped : goal.returns-in_err-defined-clause-stopped
returns-in_err-defined-clause-stopped c =
    let text = c.args.text.now in
    let templates = templates_of c.definitions.templates.items in
    let rest = c.definitions.rest.now in
    let first = c.first-item.result in
    let inner = c.in-Some.arguments.now in
    let others = take (length rest - 1) (drop 1 rest) in
    let found = definition_in (trees_of inner) in
    let whole = c.definitions.invariant.refusal
    ∙ ap (λ (l : List Tree). refusal_after text templates c.definitions.used (trees_of l))
    (split rest first (omega arith) c.first-item.is)
    ∙ refusal_next text templates c.definitions.used first others inner c.in-Some.place
    c.in-Some.ensures in
    let err = err_from_is_err_and c.from_residual.result c.from_residual.ensures.1 in
    rw (err.1, err.2) (stops_by _ _ whole _
    (first_stops (definition_refusal text templates c.definitions.used found c.in-Some.place)
    (refusal_after text (with_definition text templates found c.in-Some.place)
    (used_with text templates c.definitions.used found) (trees_of others)) _
    (rw c.deref.ensures.value at c.in_err-defined.ensures.stopped)))

pub definitions-preserved : goal.definitions-preserved
definitions-preserved c =
    let text = c.args.text.now in
    let templates = templates_of c.definitions.templates.items in
    let rest = c.definitions.rest.now in
    let first = c.first-item.result in
    let inner = c.in-Some.arguments.now in
    let others = take (length rest - 1) (drop 1 rest) in
    let found = definition_in (trees_of inner) in
    let used = c.definitions.used in
    let place = c.in-Some.place in
    let one = rw c.deref.ensures.value at c.in_ok-defined.ensures.defined in
    let apart = split rest first (omega arith) c.first-item.is in
    let grew : c.push.new.self.items
    ≡ c.definitions.templates.items ++ c.in_ok-defined.defined.template ∷ [] = search rules in
    let same = ap templates_of grew
    ∙ templates_pushed c.definitions.templates.items c.in_ok-defined.defined.template ∙ one.is in
    record {
      plain = c.definitions.invariant.plain
          ∙ ap (λ (l : List Tree). plain_after text templates (trees_of l)) apart
          ∙ plain_next text templates first others inner place c.in-Some.ensures
          ∙ ap (λ (t : List Template). plain_after text t (trees_of others)) (sym same);
      refusal = c.definitions.invariant.refusal
          ∙ ap (λ (l : List Tree). refusal_after text templates used (trees_of l)) apart
          ∙ refusal_next text templates used first others inner place c.in-Some.ensures
          ∙ ap (λ (f : Option TemplateRefusal). first_of f (refusal_after text
          (with_definition text templates found place) (used_with text templates used found)
          (trees_of others))) one.right
          ∙ ap (λ (t : List Template). refusal_after text t
          (used_with text templates used found) (trees_of others)) (sym same)
          ∙ ap (λ (u : ℕ). refusal_after text (templates_of c.push.new.self.items) u
          (trees_of others)) (sym one.used_is);
      origins = c.definitions.invariant.origins
          ∙ ap (λ (l : List Tree). origins_after text templates (trees_of l)) apart
          ∙ origins_next text templates first others inner place c.in-Some.ensures
          ∙ ap (λ (t : List Template). origins_after text t (trees_of others)) (sym same);
    }

-- nothing is left
front_end : (text : List ℕ) (templates : List Template) (used : ℕ) (rest : List Tree)
    → length rest < 1
    → (plain_after text templates (trees_of rest) ≡ expanded text templates (trees_of rest))
    × (refusal_after text templates used (trees_of rest)
    ≡ refused_after text templates used (trees_of rest))
    × (origins_after text templates (trees_of rest) ≡ origins_of text templates (trees_of rest))
front_end text templates used [] few = (refl, refusal_end text templates used, refl)
front_end text templates used (first ∷ others) few = absurd (omega arith)

-- another term is next
front_other : (text : List ℕ) (templates : List Template) (used : ℕ) (rest : List Tree)
    (first : Tree) → 0 < length rest → first ≡ get_or rest 0 first → IsOther text first
    → (plain_after text templates (trees_of rest) ≡ expanded text templates (trees_of rest))
    × (refusal_after text templates used (trees_of rest)
    ≡ refused_after text templates used (trees_of rest))
    × (origins_after text templates (trees_of rest) ≡ origins_of text templates (trees_of rest))
front_other text templates used [] first some is other = absurd (omega arith)
front_other text templates used (head ∷ others) first some is other =
    let here : IsOther text head = subst (IsOther text) is other in (
      plain_other text templates head others here,
      refusal_other text templates used head others here,
      origins_other text templates head others here,
    )

pub returns-clause-front : goal.returns-clause-front
returns-clause-front c =
    let text = c.args.text.now in
    let templates = templates_of c.definitions.templates.items in
    let used = c.definitions.used in
    let rest = c.definitions.rest.now in
    elim c.if-rest-lt1.branch [
      | in_default w ↦
          let both = front_end text templates used rest (omega (arith, w.in_default)) in
          record {
            plain = c.definitions.invariant.plain ∙ both.0;
            refusal = c.definitions.invariant.refusal ∙ both.1;
            origins = c.definitions.invariant.origins ∙ both.2;
          }
      | in-len1-up+in_default-definition_at w ↦
          let both = front_other text templates used rest w.first-item.result (omega arith)
          w.first-item.is w.in_default-definition_at.ensures in
          record {
            plain = c.definitions.invariant.plain ∙ both.0;
            refusal = c.definitions.invariant.refusal ∙ both.1;
            origins = c.definitions.invariant.origins ∙ both.2;
          }
    ]
