-- A file without templates stands for itself.
use Rattle.std.proofs.Common.{◌≡◌, ◌≤◌, ◌&&◌, ℕ, Bool, true, false, cond, List, codes, length}
use Rattle.std.proofs.Common.{Some, None, nat_le, refl, sym, ap, subst, ◌∙◌, arith}
use Rattle.std.proofs.lemmas.Bool.Decides.{nat_tests}
use Rattle.std.proofs.lemmas.Slice.Eq.{bytes_eq-Decides}
use Rattle.std.specs.Str.{bytes_eq}
use Rattle.language_base.specs.declared.span.Span.{Span}
use Rattle.query_tokens.specs.declared.token.Token.{Token}
use Rattle.query_trees.specs.Trees as trees
use Rattle.query_trees.specs.Trees.{Trees}
use Rattle.query_forms.specs.Terms.{IsTokenOf, Say, Terms, bytes_at, count_of}
use Rattle.query_forms.specs.Terms.{none, word, number, string, call}
use Rattle.query_forms.specs.File.{is_stream, unfit_file}
use Rattle.query_parser.specs.Printing.{file_text}
use Rattle.query_parser.specs.Reading.{IsFileOf}
use Rattle.query_parser.specs.TreeReading.{AreFileOf, AreShallow}
use Rattle.query_parser.proofs.OptionCases.{chosen-none}
use Rattle.query_parser.proofs.Passes.{shallow_readable}
use Rattle.query_parser.specs.TreeReading.{AreBuilt}
use Rattle.query_templates.specs.File.{first_refusal, plain_terms}
use Rattle.query_templates.specs.Fronts.{IsOtherFirst}
use Rattle.query_templates.specs.Names.{are_bytes, is_named, part_at}
use Rattle.template_expansion.specs.Meaning.{IsExpansionOf, IsRefused, StandsFor}
use Rattle.template_expansion.specs.declared.stop.ExpandStop.{ExpandStop}
use Rattle.template_expansion.proofs.Meanings.{one_stands, stands_or_refused}

-- a name at a place that the text has
named_by : (text : List ℕ) (place : Span) (name : List ℕ) → place.from ≤ place.to
    → place.to ≤ length text → is_named text place name ≡ bytes_eq (bytes_at text place) name
unfolding is_named part_at
named_by text place name order within =
    let test : (nat_le place.from place.to && nat_le place.to (length text)) ≡ true =
    grind (arith, nat_tests) in
    ap (λ (b : Bool). are_bytes (cond b (Some (bytes_at text place)) None) name) test

-- both tests hold
both_true : (one other : Bool) → (one && other) ≡ true → one ≡ true
both_true true other is = refl
both_true false other is = is

-- a stream is no definition
stream_named : (text : List ℕ) (head : Token) (bytes : List ℕ) (count : ℕ)
    → IsTokenOf text head → bytes ≡ bytes_at text head.span → is_stream bytes count ≡ true
    → is_named text head.span (codes "def") ≡ false
stream_named text head bytes count is said stream =
    let first = both_true (bytes_eq bytes (codes "stream") && nat_le 2 count) _ stream in
    let same : bytes ≡ codes "stream" = (bytes_eq-Decides bytes (codes "stream")).0
    (both_true (bytes_eq bytes (codes "stream")) (nat_le 2 count) first) in
    named_by text head.span (codes "def") is.order is.within
    ∙ ap (λ (b : List ℕ). bytes_eq b (codes "def")) (sym said ∙ same)

-- a file begins with none
file_first : (text : List ℕ) (list : Trees) (terms : Terms) (end : ℕ) → AreBuilt text list
    → Say text list terms → unfit_file end terms ≡ None → IsOtherFirst text list
file_first text trees.none terms end are say fit = tt
file_first text (trees.leaf token rest) terms end are say fit = tt
file_first text (trees.call head arguments span rest) none end are say fit = absurd say
file_first text (trees.call head arguments span rest) (word bytes place more) end are say fit =
    absurd say
file_first text (trees.call head arguments span rest) (number value place more) end are say fit =
    absurd say
file_first text (trees.call head arguments span rest) (string bytes place more) end are say fit =
    absurd say
file_first text (trees.call head arguments span rest) (call bytes inner place more) end are say
    fit =
    stream_named text head bytes (count_of inner) are.0 say.0
    (chosen-none (is_stream bytes (count_of inner)) _ place fit).0

-- where a file that begins with none comes out as it is and is not refused
module _ (plain : (text : List ℕ) (terms : Trees) → IsOtherFirst text terms
    → plain_terms text terms ≡ terms)
    (right : (text : List ℕ) (terms : Trees) → IsOtherFirst text terms
    → first_refusal text terms ≡ None) where
  -- a file without templates stands for its terms
  pub plain_stands : (text : List ℕ) (terms : Terms) → IsFileOf text terms → StandsFor text terms
  plain_stands text terms is =
      let has = is.has.has in
      let shallow : AreShallow text has.trees =
      record { has = has.has; not_deep = has.not_deep } in
      let other = file_first text has.trees terms (length text)
      (shallow_readable text has.trees shallow).built has.say is.has.fit in
      let file : AreFileOf text has.trees terms =
      record { say = has.say; fit = is.has.fit; within = is.within } in
      record {
        trees = has.trees;
        has = record { shallow = shallow; right = right text has.trees other };
        file = subst (λ (t : Trees). AreFileOf text t terms)
            (sym (plain text has.trees other)) file;
      }

  -- so it is written as these
  pub plain_written : (text bytes : List ℕ) (terms : Terms) → IsFileOf text terms
      → IsExpansionOf text bytes → bytes ≡ file_text terms
  plain_written text bytes terms is expansion =
      expansion.is ∙ ap file_text
      (one_stands text terms expansion.terms (plain_stands text terms is) expansion.stands)

  -- and is not refused
  pub plain_is_kept : (text : List ℕ) (terms : Terms) (stop : ExpandStop) → IsFileOf text terms
      → IsRefused text stop → ⊥
  plain_is_kept text terms stop is refused =
      stands_or_refused text terms stop (plain_stands text terms is) refused
