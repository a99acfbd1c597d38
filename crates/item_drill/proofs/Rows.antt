-- The rows of texts, from one text to the next.
use Rattle.std.proofs.Common.{◌≡◌, ℕ, zero, suc, ◌+◌, ◌<◌, List, [], ◌∷◌, ◌++◌, length, get_or}
use Rattle.std.proofs.Common.{take, codes, replicate, ◌&&◌, Bool, IsTrue, refl, sym, ap, ◌∙◌}
use Rattle.std.proofs.Common.{append_assoc, add-one, arith}
use Rattle.std.specs.List.{list_all}
use Rattle.std.proofs.lemmas.List.{length-map, length-take-le, map-append, take_more}
use Rattle.std.proofs.lemmas.Bool.{and_from, and_parts}
use Rattle.item_schema.specs.declared.column.Column.{Column}
use Rattle.item_drill.specs.Commas.{comma_at}
use Rattle.item_drill.specs.Draws.{drawn, state_after, next_state}
use Rattle.item_drill.specs.Fields.{field_text}
use Rattle.item_drill.specs.Lines.{texts_from, names_of, row_of}

-- one text more
row_of-push : (texts : List (List ℕ)) (text : List ℕ)
    → row_of (texts ++ text ∷ []) ≡ row_of texts ++ comma_at (length texts) ++ text
row_of-push [] text = refl
row_of-push (first ∷ []) text = sym (append_assoc first (codes ",") text)
row_of-push (first ∷ second ∷ others) text =
    ap (λ (l : List ℕ). first ++ 44 ∷ l) (row_of-push (second ∷ others) text)
    ∙ apart first (row_of (second ∷ others)) (comma_at (length (second ∷ others))) text
  where
    apart : (a b c d : List ℕ) → a ++ 44 ∷ (b ++ c ++ d) ≡ (a ++ 44 ∷ b) ++ c ++ d
    apart a b c d = simp append_assoc

-- a draw before others is one draw more
state_after-next : (draws state : ℕ)
    → state_after draws (next_state state) ≡ next_state (state_after draws state)
state_after-next zero state = refl
state_after-next (suc draws) state = ap next_state (state_after-next draws state)

-- one column more has the field of the next draw
texts_from-push : (columns : List Column) (column : Column) (state : ℕ)
    → texts_from (columns ++ column ∷ []) state
    ≡ texts_from columns state
    ++ field_text column.kind (drawn (next_state (state_after (length columns) state))) ∷ []
texts_from-push [] column state = refl
texts_from-push (first ∷ columns) column state =
    ap (λ (l : List (List ℕ)). field_text first.kind (drawn (next_state state)) ∷ l)
    (texts_from-push columns column (next_state state)
    ∙ ap (λ (s : ℕ). texts_from columns (next_state state)
    ++ field_text column.kind (drawn (next_state s))
    ∷ []) (state_after-next (length columns) state))

-- the names up to a column and the one there
pub row_of-names : (columns : List Column) (place : ℕ) (column : Column) → place < length columns
    → column ≡ get_or columns place column → row_of (names_of (take (place + 1) columns))
    ≡ row_of (names_of (take place columns)) ++ comma_at place ++ column.name
row_of-names columns place column within is =
    ap (λ (l : List Column). row_of (names_of l)) (take_more columns place column within)
    ∙ ap (λ (c : Column). row_of (names_of (take place columns ++ c ∷ []))) (sym is)
    ∙ ap row_of (map-append (λ (c : Column). c.name) (take place columns) (column ∷ []))
    ∙ row_of-push (names_of (take place columns)) column.name
    ∙ ap (λ (n : ℕ). row_of (names_of (take place columns)) ++ comma_at n ++ column.name) many
  where
    many : length (names_of (take place columns)) ≡ place
    many = length-map (take place columns) (λ (c : Column). c.name)
        ∙ length-take-le place columns (omega arith)

-- as many texts as columns
pub length-texts_from : (columns : List Column) (state : ℕ)
    → length (texts_from columns state) ≡ length columns
length-texts_from [] state = refl
length-texts_from (column ∷ columns) state = ap suc (length-texts_from columns (next_state state))

-- the fields up to a column and the one there
pub row_of-fields : (columns : List Column) (place : ℕ) (column : Column) (state : ℕ)
    → place < length columns → column ≡ get_or columns place column
    → row_of (texts_from (take (place + 1) columns) state)
    ≡ row_of (texts_from (take place columns) state) ++ comma_at place
    ++ field_text column.kind (drawn (next_state (state_after place state)))
row_of-fields columns place column state within is =
    ap (λ (l : List Column). row_of (texts_from l state)) (take_more columns place column within)
    ∙ ap (λ (c : Column). row_of (texts_from (take place columns ++ c ∷ []) state)) (sym is)
    ∙ ap row_of (texts_from-push (take place columns) column state)
    ∙ row_of-push (texts_from (take place columns) state) (text (length (take place columns)))
    ∙ ap (λ (n : ℕ). row_of (texts_from (take place columns) state) ++ comma_at n
    ++ text (length (take place columns)))
    (length-texts_from (take place columns) state)
    ∙ ap (λ (n : ℕ). row_of (texts_from (take place columns) state) ++ comma_at n ++ text n)
    (length-take-le place columns (omega arith))
  where
    text : ℕ → List ℕ
    text n = field_text column.kind (drawn (next_state (state_after n state)))

-- one zero more after the others
pub replicate-push : (count digit : ℕ)
    → replicate (count + 1) digit ≡ replicate count digit ++ digit ∷ []
replicate-push count digit = rw add-one (onward count)
  where
    onward : (count : ℕ) → replicate (suc count) digit ≡ replicate count digit ++ digit ∷ []
    onward zero = refl
    onward (suc count) = ap (λ (l : List ℕ). digit ∷ l) (onward count)

-- two tests of all elements are one
pub all_both : {X : Type 0} (p q : X → Bool) (xs : List X) → IsTrue (list_all p xs)
    → IsTrue (list_all q xs) → IsTrue (list_all (λ x. p x && q x) xs)
all_both p q [] first second = refl
all_both p q (x ∷ xs) first second =
    let one = and_parts (p x) (list_all p xs) first in
    let two = and_parts (q x) (list_all q xs) second in
    and_from (p x && q x) _ (and_from (p x) (q x) one.0 two.0) (all_both p q xs one.1 two.1)

-- after a front and a row, a comma and a text make the row of one text more
pub after_row : (old after_comma new front row longer text comma : List ℕ) → old ≡ front ++ row
    → after_comma ≡ old ++ comma → new ≡ after_comma ++ text → longer ≡ row ++ comma ++ text
    → new ≡ front ++ longer
after_row old after_comma new front row longer text comma is_old is_after is_new is_longer =
    is_new ∙ ap (λ (l : List ℕ). l ++ text) (is_after ∙ ap (λ (l : List ℕ). l ++ comma) is_old)
    ∙ apart front row comma text ∙ ap (λ (l : List ℕ). front ++ l) (sym is_longer)
  where
    apart : (f r c t : List ℕ) → ((f ++ r) ++ c) ++ t ≡ f ++ (r ++ c ++ t)
    apart f r c t = simp append_assoc

-- one draw more
pub state_after-more : (draws state : ℕ)
    → next_state (state_after draws state) ≡ state_after (draws + 1) state
state_after-more draws state = rw add-one refl
