-- When an item of a cell is plain in a column.
use Rattle.std.proofs.Common.{◌≡◌, ◌≢◌, ℕ, zero, suc, ◌≤◌, ℤ, List, [], ◌∷◌, Option, None, Some}
use Rattle.std.proofs.Common.{refl, sym, ap, subst, ◌∙◌}
use Rattle.std.specs.Prelude.{slice_get, slice_set, unsigned_abs}
use Rattle.std.proofs.lemmas.Option.{none-some, same_Some}
use Rattle.value_ops.specs.declared.field.Field.{Field}
use Rattle.value_ops.specs.declared.field.Field.TheVariants as field
use Rattle.value_ops.specs.declared.scalar.Scalar.TheVariants as scalar
use Rattle.value_ops.specs.declared.value.Value.{Value}
use Rattle.value_ops.specs.declared.value.Value.TheVariants as value
use Rattle.item_schema.specs.declared.column.Kind.{Kind}
use Rattle.item_schema.specs.declared.column.Kind.TheVariants.{Int, Fixed, Text}
use Rattle.item_schema.specs.Items.{IsFieldOf}
use Rattle.predicate_cells.specs.Cells.{Partition, IsIn}
use Rattle.predicates.specs.Truth.{number_of, text_of, number_in, text_in}
use Rattle.plain_items.specs.Becoming.{number_field}
use Rattle.plain_items.specs.Plain.{IsPlainAt, plain_text}
use Rattle.plain_items.specs.declared.replacement.Form.{Form}
use Rattle.plain_items.specs.declared.replacement.Form.TheVariants as form
use Rattle.plain_items.proofs.Fields.{AreOfKind, mixed, same_kinds}

module _ {A : Type 0} where
  pub get_set_same : (xs : List A) (k : ℕ) (own new : A) → slice_get xs k ≡ Some own
      → slice_get (slice_set xs k new) k ≡ Some new
  get_set_same [] k own new is = absurd (none-some _ is)
  get_set_same (x ∷ xs) zero own new is = refl
  get_set_same (x ∷ xs) (suc k) own new is = get_set_same xs k own new is

  pub get_set_other : (xs : List A) (k : ℕ) (new : A) (j : ℕ) → j ≢ k
      → slice_get (slice_set xs k new) j ≡ slice_get xs j
  get_set_other [] k new j differ = refl
  get_set_other (x ∷ xs) zero new zero differ = absurd (differ refl)
  get_set_other (x ∷ xs) zero new (suc j) differ = refl
  get_set_other (x ∷ xs) (suc k) new zero differ = refl
  get_set_other (x ∷ xs) (suc k) new (suc j) differ =
      get_set_other xs k new j (λ e. differ (ap suc e))

  pub set_own : (xs : List A) (k : ℕ) (own : A) → slice_get xs k ≡ Some own
      → slice_set xs k own ≡ xs
  set_own [] k own is = refl
  set_own (x ∷ xs) zero own is = ap (λ y. y ∷ xs) (sym (same_Some _ _ is))
  set_own (x ∷ xs) (suc k) own is = ap (λ ys. x ∷ ys) (set_own xs k own is)

-- no kind of column has numbers of both forms
no_value : (kind : Kind) (n : ℤ) (v : Value) → IsFieldOf kind (field.Int n)
    → IsFieldOf kind (field.Val v) → ⊥
no_value Int n v a b = b
no_value (Fixed digits) n v a b = b
no_value kind n v a b = a

-- nor both texts and others
no_text : (kind : Kind) (own : Field) (t : List ℕ) → text_of (Some own) ≡ None → IsFieldOf kind own
    → IsFieldOf kind (field.Text t) → ⊥
no_text Text (field.Text s) t e a b = none-some _ (sym e)
no_text Text own t e a b = a
no_text kind own t e a b = b

-- a number in a column that has one of the form is of the form
like_number : (form : Form) (own n : ℤ) (f : Option Field)
    → AreOfKind (Some (number_field form own)) f → number_of f ≡ Some n
    → f ≡ Some (number_field form n)
like_number form.Whole own n (Some (field.Int m)) like is =
    ap (λ x. Some (field.Int x)) (same_Some m n is)
like_number form.Whole own n (Some (field.Val v)) (kind, a, b) is = absurd (no_value kind own v a b)
like_number form.Value own n (Some (field.Int m)) (kind, a, b) is = absurd (no_value kind m _ b a)
like_number form.Value own n (Some (field.Val (value.Scalar (scalar.Number m)))) like is =
    ap (λ x. Some (field.Val (value.Scalar (scalar.Number x)))) (same_Some m n is)
like_number form own n (Some f) like is = absurd (none-some _ is)
like_number form own n None like is = absurd like

-- the number of a field of a number
number_is : (form : Form) (n : ℤ) → number_of (Some (number_field form n)) ≡ Some n
number_is form.Whole n = refl
number_is form.Value n = refl

-- no column has a number and a text
no_both : (form : Form) (n : ℤ)
    → AreOfKind (Some (number_field form n)) (Some (field.Text plain_text)) → ⊥
no_both form.Whole n (kind, a, b) = no_text kind _ plain_text refl a b
no_both form.Value n (kind, a, b) = no_text kind _ plain_text refl a b

-- a text is one
is_text : (f : Option Field) (t : List ℕ) → text_of f ≡ Some t → f ≡ Some (field.Text t)
is_text (Some (field.Text s)) t is = ap (λ x. Some (field.Text x)) (same_Some s t is)
is_text (Some f) t is = absurd (none-some _ is)
is_text None t is = absurd (none-some _ is)

module _ (cells : Partition) (cell : ℕ) (item : List Field) (column : ℕ)
    (is_in : IsIn cells cell item) where
  -- the item stays in the cell with it
  abbrev Stays : Field → Type 0
  Stays f = IsIn cells cell (slice_set item column f)

  -- so it does with a field of another item of the cell
  stays_with : (other : List Field) (f : Field) → IsIn cells cell other
      → slice_get other column ≡ Some f → Stays f
  stays_with other f o is =
      mixed cells.preds 0 cells.layout.columns item other column f cell is_in o is

  like : (other : List Field) → IsIn cells cell other
      → AreOfKind (slice_get item column) (slice_get other column)
  like other o = same_kinds cells.layout.columns item other is_in.0 o.0 column

  -- a number is plain where no other may stand there that is nearer to zero
  pub plain_number : (form : Form) (own : ℤ) → slice_get item column ≡ Some (number_field form own)
      → ((n : ℤ) → Stays (number_field form n) → unsigned_abs own ≤ unsigned_abs n)
      → IsPlainAt cells cell item column
  plain_number form own stands nearest = record {
    number = λ other own' its o a b.
        let both = like other o in
        let found = like_number form own its (slice_get other column) (rw stands at both) b in
        let same : own ≡ own' =
        same_Some _ _ (sym (number_is form own) ∙ sym (ap number_of stands) ∙ a) in
        subst (λ x. unsigned_abs x ≤ unsigned_abs its) same
        (nearest its (stays_with other _ o found));
    text = λ other o b.
        let both = like other o in
        absurd (no_both form own
        (rw (stands, is_text (slice_get other column) plain_text b) at both));
  }

  -- a text is plain where it is the plain one, or that may not stand there
  pub plain_at_text : (own : List ℕ) → slice_get item column ≡ Some (field.Text own)
      → (Stays (field.Text plain_text) → own ≡ plain_text) → IsPlainAt cells cell item column
  plain_at_text own stands plain = record {
    number = λ other own' its o a b. absurd (none-some _ (sym (ap number_of stands) ∙ a));
    text = λ other o b.
        ap text_of stands
        ∙ ap Some (plain (stays_with other _ o (is_text (slice_get other column) plain_text b)));
  }

  -- where there is neither a number nor a text, nothing is to do
  pub plain_without : number_in item column ≡ None → text_in item column ≡ None
      → IsPlainAt cells cell item column
  plain_without no_number none = record {
    number = λ other own' its o a b. absurd (none-some _ (sym no_number ∙ a));
    text = λ other o b.
        let both = like other o in
        absurd (neither (slice_get item column) none
        (rw (is_text (slice_get other column) plain_text b) at both));
  }
    where
      neither : (f : Option Field) → text_of f ≡ None
          → AreOfKind f (Some (field.Text plain_text)) → ⊥
      neither (Some f) e (kind, a, b) = no_text kind f plain_text e a b
      neither None e likes = likes
