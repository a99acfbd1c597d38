-- Where parameters stand, term by term.
use Rattle.std.proofs.Common.{◌≡◌, ◌≤◌, ◌<◌, ◌+◌, ℕ, List, [], ◌∷◌, ◌++◌, length, get_or, take}
use Rattle.std.proofs.Common.{drop}
use Rattle.std.proofs.Common.{Option, Some, None, Vec, Global, refl, sym, ap, ◌∙◌, append_assoc}
use Rattle.std.proofs.Common.{append-nil}
use Rattle.std.proofs.lemmas.List.{drop_all, drop_more, map-append, take_more}
use Rattle.std.proofs.lemmas.List.Elements.{filter_map-append}
use Rattle.std.specs.List.{cons_option, filter_map}
use Rattle.std.specs.Option.{option_and_then}
use Rattle.language_base.specs.declared.span.Span.{Span}
use Rattle.query_tokens.specs.declared.token.Token.{Token}
use Rattle.query_trees.specs.declared.tree.Tree.{Tree, Leaf, Call, Call'}
use Rattle.query_trees.specs.Trees.{none, tree_before, trees_of, row_trees}
use Rattle.query_forms.specs.declared.term_place.TermPlace.{TermPlace}
use Rattle.query_templates.specs.declared.standing.Standing.{Standing}
use Rattle.query_templates.specs.Expansion.{parameter_at}
use Rattle.query_templates.specs.Kinds.{places_inside}
use Rattle.query_templates.specs.Lists.{count_of}
use Rattle.query_templates.specs.Plain.{plain_standings}
use Rattle.query_templates.specs.Standings.{both, stand, stand_word}
use Rattle.query_templates.specs.Templates.{Template}
use Rattle.query_templates.proofs.Lists.{call_before, count-trees}

abbrev Found : Type 0
Found = Option (List Standing)

both-assoc : (a b c : Found) → both (both a b) c ≡ both a (both b c)
both-assoc None b c = refl
both-assoc (Some a) None c = refl
both-assoc (Some a) (Some b) None = refl
both-assoc (Some a) (Some b) (Some c) = ap (λ (l : List Standing). Some l) (append_assoc a b c)

both-nothing : (a : Found) → both a (Some []) ≡ a
both-nothing None = refl
both-nothing (Some a) = ap (λ (l : List Standing). Some l) (append-nil a)

-- the first of two parts is found
pub stood_more : (known new : List Standing) (whole part rest : Found) → whole ≡ both part rest
    → both (Some known) part ≡ Some new → both (Some known) whole ≡ both (Some new) rest
stood_more known new whole part rest parts one =
    ap (both (Some known)) parts ∙ sym (both-assoc (Some known) part rest)
    ∙ ap (λ (b : Found). both b rest) one

-- it is not
pub stood_none : (known : List Standing) (whole part rest : Found) → whole ≡ both part rest
    → both (Some known) part ≡ None → both (Some known) whole ≡ None
stood_none known whole part rest parts one =
    ap (both (Some known)) parts ∙ sym (both-assoc (Some known) part rest)
    ∙ ap (λ (b : Found). both b rest) one

-- nothing is added
pub stood_all : (known : List Standing) (whole : Found) → whole ≡ Some []
    → both (Some known) whole ≡ Some known
stood_all known whole empty = ap (both (Some known)) empty ∙ both-nothing (Some known)

module _ (text : List ℕ) (template : Template) where
  stand-none : (places : List TermPlace) → stand text template places none ≡ Some []
  stand-none [] = refl
  stand-none (at ∷ places) = refl

  -- a term before others
  stand_next : (at : TermPlace) (places : List TermPlace) (tree : Tree) (trees : List Tree)
      → stand text template (at ∷ places) (trees_of (tree ∷ trees))
      ≡ both (stand text template (at ∷ []) (tree_before tree none))
      (stand text template places (trees_of trees))
  stand_next at places (Leaf word) trees =
      ap (λ (b : Found). both b (stand text template places (trees_of trees)))
      (sym (both-nothing (stand_word text at word (parameter_at text template word.span))))
  stand_next at places (Call' head shape row span) trees =
      ap (λ (b : Found). both b (stand text template places (trees_of trees)))
      (sym (both-nothing (option_and_then
      (λ (inner : List TermPlace). stand text template inner (row_trees row))
      (places_inside text at head.span (count_of (row_trees row))))))

  -- at an index of two lists
  pub stand_at_index : (places : List TermPlace) (trees : List Tree) (index : ℕ) (at : TermPlace)
      (tree : Tree) → index < length places → at ≡ get_or places index at → index < length trees
      → tree ≡ get_or trees index tree
      → stand text template (drop index places) (trees_of (drop index trees))
      ≡ both (stand text template (at ∷ []) (tree_before tree none))
      (stand text template (drop (index + 1) places) (trees_of (drop (index + 1) trees)))
  stand_at_index places trees index at tree within at_is inside tree_is =
      ap (λ (p : List TermPlace). stand text template p (trees_of (drop index trees)))
      (drop_more places index at within
      ∙ ap (λ (a : TermPlace). a ∷ drop (index + 1) places) (sym at_is))
      ∙ ap (λ (t : List Tree). stand text template (at ∷ drop (index + 1) places) (trees_of t))
      (drop_more trees index tree inside
      ∙ ap (λ (t : Tree). t ∷ drop (index + 1) trees) (sym tree_is))
      ∙ stand_next at (drop (index + 1) places) tree (drop (index + 1) trees)

  -- no term is left
  pub stand_end : (places : List TermPlace) (trees : List Tree) (index : ℕ)
      → length trees ≤ index → stand text template places (trees_of (drop index trees)) ≡ Some []
  stand_end places trees index past =
      ap (λ (t : List Tree). stand text template places (trees_of t)) (drop_all index trees past)
      ∙ stand-none places

  -- a call
  pub stand_call : (at : TermPlace) (tree : Tree) (head : Token) (inner : Vec Tree Global)
      (span : Span) (list : List Tree) → tree ≡ Call head inner span → list ≡ inner.items
      → (count : ℕ) → count ≡ length list → (found : Option (List TermPlace))
      → places_inside text at head.span count ≡ found
      → stand text template (at ∷ []) (tree_before tree none)
      ≡ option_and_then (λ (p : List TermPlace). stand text template p (trees_of list)) found
  stand_call at tree head inner span list is items count counted found found_is =
      let deep : List TermPlace → Found = λ p. stand text template p (trees_of list) in
      ap (stand text template (at ∷ [])) (call_before tree head inner span list none is items)
      ∙ both-nothing (option_and_then deep
      (places_inside text at head.span (count_of (trees_of list))))
      ∙ ap (λ (n : ℕ). option_and_then deep (places_inside text at head.span n))
      (count-trees list ∙ sym counted)
      ∙ ap (option_and_then deep) found_is

-- the lists that a function gives for the kinds of places, one kind more
module _ (h : TermPlace → Found) (places : List TermPlace) (index : ℕ) (d : TermPlace)
    (within : index < length places) (found : List (Vec Standing Global))
    (before : plain_standings found ≡ filter_map h (take index places)) where
  abbrev at : TermPlace
  at = get_or places index d

  one_more : filter_map h (take (index + 1) places)
      ≡ plain_standings found ++ cons_option (h at) []
  one_more =
      ap (filter_map h) (take_more places index d within)
      ∙ filter_map-append h (take index places) (at ∷ [])
      ∙ ap (λ (l : List (List Standing)). l ++ cons_option (h at) []) (sym before)

  pub found_more : (known : Vec Standing Global) → Some known.items ≡ h at
      → plain_standings (found ++ known ∷ []) ≡ filter_map h (take (index + 1) places)
  found_more known here =
      map-append (λ (k : Vec Standing Global). k.items) found (known ∷ [])
      ∙ ap (λ (f : Found). plain_standings found ++ cons_option f []) here
      ∙ sym one_more

  pub found_none : None ≡ h at → plain_standings found ≡ filter_map h (take (index + 1) places)
  found_none here =
      sym (append-nil (plain_standings found))
      ∙ ap (λ (f : Found). plain_standings found ++ cons_option f []) here
      ∙ sym one_more
