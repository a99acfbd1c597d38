-- Plain terms are built of the text's tokens, as the terms are that stand for them.
use Rattle.std.proofs.Common.{◌≡◌, ◌==◌, ◌+◌, ℕ, zero, suc, Bool, true, false, cond, List, [], ◌∷◌}
use Rattle.std.proofs.Common.{◌++◌, codes, Option, Some, None, refl}
use Rattle.std.proofs.lemmas.Bool.{false≢true}
use Rattle.std.specs.Option.{option_map}
use Rattle.language_base.specs.declared.span.Span.{Span}
use Rattle.query_tokens.specs.declared.token.Token.{Token}
use Rattle.query_trees.specs.Terms.{IsLeaf}
use Rattle.query_trees.specs.Trees.{Trees, none, leaf, call}
use Rattle.query_forms.specs.Terms.{IsTokenOf}
use Rattle.query_parser.specs.TreeReading.{AreBuilt, HasTree}
use Rattle.query_templates.specs.Definitions.{Definition, definition_before, definition_in, is_word}
use Rattle.query_templates.specs.Definitions.{template_of, words_in}
use Rattle.query_templates.specs.Expansion.{argument_for, bare_use, call_use, expanded, filled}
use Rattle.query_templates.specs.Expansion.{parameter_at, term_at, word_use}
use Rattle.query_templates.specs.File.{plain_after, plain_terms, with_definition}
use Rattle.query_templates.specs.Lists.{count_of, joined}
use Rattle.query_templates.specs.Names.{is_named, same_name}
use Rattle.query_templates.specs.Templates.{Template, template_at}

-- there is a term
has_joined : (a b : Trees) → HasTree a → HasTree (joined a b)
has_joined none b has = absurd has
has_joined (leaf token rest) b has = tt
has_joined (call head arguments span rest) b has = tt

has_term : (terms : Trees) (at : ℕ) (word : Token) → HasTree (term_at terms at word)
has_term none at word = tt
has_term (leaf token rest) zero word = tt
has_term (leaf token rest) (suc at) word = has_term rest at word
has_term (call head arguments span rest) zero word = tt
has_term (call head arguments span rest) (suc at) word = has_term rest at word

has_argument : (arguments : Trees) (at : Option ℕ) (word : Token)
    → HasTree (argument_for arguments at word)
has_argument arguments None word = tt
has_argument arguments (Some at) word = has_term arguments at word

has_one : (body : Trees) → (count_of body + 1 == 2) ≡ true → HasTree body
has_one none two = absurd (false≢true two)
has_one (leaf token rest) two = tt
has_one (call head arguments span rest) two = tt

module _ (text : List ℕ) where
  has_filled : (template : Template) (arguments terms : Trees) → HasTree terms
      → HasTree (filled text template arguments terms)
  has_filled template arguments none has = absurd has
  has_filled template arguments (leaf word rest) has = has_joined
      (argument_for arguments (parameter_at text template word.span) word)
      (filled text template arguments rest)
      (has_argument arguments (parameter_at text template word.span) word)
  has_filled template arguments (call head inner span rest) has = tt

  built_joined : (a b : Trees) → AreBuilt text a → AreBuilt text b → AreBuilt text (joined a b)
  built_joined none b one other = other
  built_joined (leaf token rest) b one other = (one.0, one.1, built_joined rest b one.2 other)
  built_joined (call head arguments span rest) b one other =
      (one.0, one.1, one.2, one.3, built_joined rest b one.4 other)

  built_term : (terms : Trees) (at : ℕ) (word : Token) → AreBuilt text terms
      → IsTokenOf text word → IsLeaf word → AreBuilt text (term_at terms at word)
  built_term none at word are is kind = (is, kind, tt)
  built_term (leaf token rest) zero word are is kind = (are.0, are.1, tt)
  built_term (leaf token rest) (suc at) word are is kind = built_term rest at word are.2 is kind
  built_term (call head arguments span rest) zero word are is kind =
      (are.0, are.1, are.2, are.3, tt)
  built_term (call head arguments span rest) (suc at) word are is kind =
      built_term rest at word are.4 is kind

  built_argument : (arguments : Trees) (at : Option ℕ) (word : Token) → AreBuilt text arguments
      → IsTokenOf text word → IsLeaf word → AreBuilt text (argument_for arguments at word)
  built_argument arguments None word are is kind = (is, kind, tt)
  built_argument arguments (Some at) word are is kind = built_term arguments at word are is kind

  built_filled : (template : Template) (arguments terms : Trees) → AreBuilt text arguments
      → AreBuilt text terms → AreBuilt text (filled text template arguments terms)
  built_filled template arguments none given are = tt
  built_filled template arguments (leaf word rest) given are = built_joined
      (argument_for arguments (parameter_at text template word.span) word)
      (filled text template arguments rest)
      (built_argument arguments (parameter_at text template word.span) word given are.0 are.1)
      (built_filled template arguments rest given are.2)
  built_filled template arguments (call head inner span rest) given are = (
    are.0,
    are.1,
    has_filled template arguments inner are.2,
    built_filled template arguments inner given are.3,
    built_filled template arguments rest given are.4,
  )

  -- terms that are built, of which there is one
  abbrev Stands : Trees → Type 0
  Stands terms = AreBuilt text terms × HasTree terms

  -- so are all bodies
  abbrev Bodies : List Template → Type 0
  Bodies [] = Unit {0}
  Bodies (first ∷ others) = Stands first.body × Bodies others

  instance_stands : (template : Template) (arguments : Trees) → Stands template.body
      → AreBuilt text arguments → Stands (filled text template arguments template.body)
  instance_stands template arguments body given = (
    built_filled template arguments template.body given body.0,
    has_filled template arguments template.body body.1,
  )

  bare_stands : (template : Template) (parameters : List Span) (word : Token)
      → Stands template.body → IsTokenOf text word → IsLeaf word
      → Stands (bare_use text template parameters word)
  bare_stands template [] word body is kind = instance_stands template none body tt
  bare_stands template (first ∷ others) word body is kind = ((is, kind, tt), tt)

  word_choice : (same : Bool) (first : Template) (other : Option Template) (word : Token)
      → Stands (word_use text (Some first) word) → Stands (word_use text other word)
      → Stands (word_use text (cond same (Some first) other) word)
  word_choice true first other word one two = one
  word_choice false first other word one two = two

  word_stands : (templates : List Template) (word : Token) → Bodies templates
      → IsTokenOf text word → IsLeaf word
      → Stands (word_use text (template_at text templates word.span) word)
  word_stands [] word bodies is kind = ((is, kind, tt), tt)
  word_stands (first ∷ others) word bodies is kind =
      word_choice (same_name text first.name word.span) first
      (template_at text others word.span) word
      (bare_stands first first.parameters word bodies.0 is kind)
      (word_stands others word bodies.1 is kind)

  call_choice : (same : Bool) (first : Template) (other : Option Template) (head : Token)
      (arguments : Trees) (span : Span)
      → Stands (call_use text (Some first) head arguments span)
      → Stands (call_use text other head arguments span)
      → Stands (call_use text (cond same (Some first) other) head arguments span)
  call_choice true first other head arguments span one two = one
  call_choice false first other head arguments span one two = two

  call_stands : (templates : List Template) (head : Token) (arguments : Trees) (span : Span)
      → Bodies templates → AreBuilt text (call head arguments span none)
      → Stands (call_use text (template_at text templates head.span) head arguments span)
  call_stands [] head arguments span bodies are = (are, tt)
  call_stands (first ∷ others) head arguments span bodies are =
      call_choice (same_name text first.name head.span) first
      (template_at text others head.span) head arguments span
      (instance_stands first arguments bodies.0 are.3)
      (call_stands others head arguments span bodies.1 are)

  -- with uses replaced
  expanded_stands : (templates : List Template) (terms : Trees) → Bodies templates
      → AreBuilt text terms → AreBuilt text (expanded text templates terms)
      × (HasTree terms → HasTree (expanded text templates terms))
  expanded_stands templates none bodies are = (tt, λ has. absurd has)
  expanded_stands templates (leaf word rest) bodies are =
      let one = word_stands templates word bodies are.0 are.1 in
      let others = expanded_stands templates rest bodies are.2 in (
        built_joined (word_use text (template_at text templates word.span) word)
            (expanded text templates rest) one.0 others.0,
        λ has. has_joined (word_use text (template_at text templates word.span) word)
            (expanded text templates rest) one.1,
      )
  expanded_stands templates (call head arguments span rest) bodies are =
      let inner = expanded_stands templates arguments bodies are.3 in
      let one = call_stands templates head (expanded text templates arguments) span bodies
      (are.0, are.1, inner.1 are.2, inner.0, tt) in
      let others = expanded_stands templates rest bodies are.4 in (
        built_joined (call_use text (template_at text templates head.span) head
            (expanded text templates arguments) span) (expanded text templates rest) one.0
            others.0,
        λ has. has_joined (call_use text (template_at text templates head.span) head
            (expanded text templates arguments) span) (expanded text templates rest) one.1,
      )

  -- the body of a definition is so
  abbrev HasBody : Option Definition → Type 0
  HasBody None = Unit {0}
  HasBody (Some definition) = Stands definition.body

  body_if : (test : Bool) (found : Option Definition) → HasBody found
      → HasBody (cond test found None)
  body_if true found has = has
  body_if false found has = tt

  body_with : (name : Span) (body : Trees) (words : Option (List Span)) → Stands body
      → HasBody (option_map (λ (words : List Span). let d : Definition =
      record { name = name; parameters = words; body = body } in d) words)
  body_with name body None are = tt
  body_with name body (Some words) are = are

  body_before : (arguments : Trees) → AreBuilt text arguments
      → (count_of arguments == 2) ≡ true → HasBody (definition_before arguments)
  body_before none are two = tt
  body_before (leaf name body) are two = body_if (is_word name.kind)
      (Some (record { name = name.span; parameters = []; body = body }))
      (are.2, has_one body two)
  body_before (call name parameters span body) are two =
      body_with name.span body (words_in parameters) (are.4, has_one body two)

  body_in : (arguments : Trees) → AreBuilt text arguments → HasBody (definition_in arguments)
  body_in arguments are = by_count (count_of arguments == 2) refl
    where
      by_count : (test : Bool) → (count_of arguments == 2) ≡ test
          → HasBody (cond test (definition_before arguments) None)
      by_count true two = body_before arguments are two
      by_count false other = tt

  pushed_bodies : (templates : List Template) (one : Template) → Bodies templates
      → Stands one.body → Bodies (templates ++ one ∷ [])
  pushed_bodies [] one bodies body = (body, tt)
  pushed_bodies (first ∷ others) one bodies body =
      (bodies.0, pushed_bodies others one bodies.1 body)

  bodies_with : (templates : List Template) (found : Option Definition) (place : Span)
      → Bodies templates → HasBody found → Bodies (with_definition text templates found place)
  bodies_with templates None place bodies has = bodies
  bodies_with templates (Some definition) place bodies has =
      let body = expanded_stands templates definition.body bodies has.0 in
      pushed_bodies templates (template_of text templates definition place) bodies
      (body.0, body.1 has.1)

  either_built : (test : Bool) (one other : Trees) → AreBuilt text one → AreBuilt text other
      → AreBuilt text (cond test one other)
  either_built true one other first second = first
  either_built false one other first second = second

  after_built : (templates : List Template) (terms : Trees) → Bodies templates
      → AreBuilt text terms → AreBuilt text (plain_after text templates terms)
  after_built templates none bodies are = tt
  after_built templates (leaf word rest) bodies are =
      (expanded_stands templates (leaf word rest) bodies are).0
  after_built templates (call head arguments place rest) bodies are = either_built
      (is_named text head.span (codes "def"))
      (plain_after text (with_definition text templates (definition_in arguments) place) rest)
      (expanded text templates (call head arguments place rest))
      (after_built (with_definition text templates (definition_in arguments) place) rest
      (bodies_with templates (definition_in arguments) place bodies (body_in arguments are.3))
      are.4)
      (expanded_stands templates (call head arguments place rest) bodies are).0

  pub plain_built : (terms : Trees) → AreBuilt text terms → AreBuilt text (plain_terms text terms)
  plain_built terms are = after_built [] terms tt are
