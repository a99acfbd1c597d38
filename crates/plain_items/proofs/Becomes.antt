-- What is so of an item into which a field was put.
use Rattle.std.proofs.Common.{◌≡◌, ◌≢◌, ℕ, zero, suc, ◌+◌, ◌<◌, ◌≤◌, ℤ, pos, negsuc, Bool, true}
use Rattle.std.proofs.Common.{false, List, Option, Some, None, get_or, length, refl, sym, ap, subst}
use Rattle.std.proofs.Common.{◌∙◌, zero-le, arith}
use Rattle.std.specs.Prelude.{slice_get, slice_set, unsigned_abs}
use Rattle.std.proofs.lemmas.List.{set-set}
use Rattle.std.proofs.lemmas.Option.{slice_get_read}
use Rattle.value_ops.specs.declared.field.Field.{Field}
use Rattle.value_ops.specs.declared.field.Field.TheVariants as field
use Rattle.item_schema.specs.Items.{IsItemOf}
use Rattle.predicate_cells.specs.Cells.{Partition, IsIn, cell_of}
use Rattle.predicates.specs.Truth.{number_of, text_of}
use Rattle.plain_items.specs.Becoming.{AreHalves, BecomesPlain, IsPut, StaysWith, number_field}
use Rattle.plain_items.specs.Becoming.{with_sign}
use Rattle.plain_items.specs.Plain.{plain_text}
use Rattle.plain_items.specs.declared.replacement.Form.{Form}
use Rattle.plain_items.proofs.Halving.{abs_with_sign, with_own_sign, with_sign_zero, nearest}
use Rattle.plain_items.proofs.Plainness.{get_set_same, get_set_other, set_own, plain_number}
use Rattle.plain_items.proofs.Plainness.{plain_at_text, plain_without}

-- a field may come into the column after another as it may at once
module _ (cells : Partition) (old item : List Field) (column : ℕ) (f g : Field)
    (has : item ≡ slice_set old column f) (stays : StaysWith cells old column f) where
  at_once : slice_set item column g ≡ slice_set old column g
  at_once = ap (λ (xs : List Field). slice_set xs column g) has ∙ set-set old column f g

  one_cell : cell_of cells item ≡ cell_of cells old
  one_cell = ap (cell_of cells) has ∙ stays.1

  pub stays_at_once : StaysWith cells item column g → StaysWith cells old column g
  stays_at_once is_in = (
    subst (IsItemOf cells.layout.columns) at_once is_in.0,
    ap (cell_of cells) (sym at_once) ∙ is_in.1 ∙ one_cell,
  )

  pub stays_after : StaysWith cells old column g → StaysWith cells item column g
  stays_after is_in = (
    subst (IsItemOf cells.layout.columns) (sym at_once) is_in.0,
    ap (cell_of cells) at_once ∙ is_in.1 ∙ sym one_cell,
  )

  pub in_cell : IsIn cells (cell_of cells old) item
  in_cell = (subst (IsItemOf cells.layout.columns) (sym has) stays.0, one_cell)

-- the field that was found in a column, as it was matched
pub found_in : (xs ys : List Field) (k : ℕ) (f g : Field) → xs ≡ ys → k < length xs
    → f ≡ get_or xs k f → f ≡ g → slice_get ys k ≡ Some g
found_in xs ys k f g same lt is matched =
    subst (λ zs. slice_get zs k ≡ Some g) same
    (slice_get_read xs _ k f refl lt is ∙ ap Some matched)

module _ (cells : Partition) (old : List Field) (column : ℕ) where
  others_stay : (new : List Field) (f : Field) → new ≡ slice_set old column f → (other : ℕ)
      → other ≢ column → slice_get new other ≡ slice_get old other
  others_stay new f has other differ =
      ap (λ (xs : List Field). slice_get xs other) has ∙ get_set_other old column f other differ

  -- an item becomes plain with a number that is as near to zero as any with which it
  -- stays in its cell
  pub becomes_number : (form : Form) (n : ℤ) (own : Field) (new : List Field)
      → slice_get old column ≡ Some own → new ≡ slice_set old column (number_field form n)
      → StaysWith cells old column (number_field form n)
      → ((m : ℤ) → StaysWith cells old column (number_field form m)
      → unsigned_abs n ≤ unsigned_abs m)
      → BecomesPlain cells column old new
  becomes_number form n own new stands has stays least =
      let cell = in_cell cells old new column _ (number_field form n) has stays in
      let there : slice_get new column ≡ Some (number_field form n) =
      ap (λ (xs : List Field). slice_get xs column) has ∙ get_set_same old column own _ stands in
      record {
        cell = cell;
        plain = plain_number cells (cell_of cells old) new column cell form n there
            (λ m is_in. least m
            (stays_at_once cells old new column _ (number_field form m) has stays
            (is_in.0, is_in.1 ∙ sym cell.1)));
        others = others_stay new _ has;
      }

  -- zero is as near as any
  pub becomes_zero : (form : Form) (own : Field) (new : List Field)
      → slice_get old column ≡ Some own
      → IsPut cells old column (number_field form (pos 0)) new true
      → BecomesPlain cells column old new
  becomes_zero form own new stands put =
      becomes_number form (pos 0) own new stands put.0 put.1 (λ m is_in. zero-le)

  -- the plain text is put if it may stand there
  pub becomes_text : (own : List ℕ) (new : List Field) (put : Bool)
      → IsItemOf cells.layout.columns old → slice_get old column ≡ Some (field.Text own)
      → IsPut cells old column (field.Text plain_text) new put → BecomesPlain cells column old new
  becomes_text own new true item stands put =
      let cell = in_cell cells old new column _ (field.Text plain_text) put.0 put.1 in
      record {
        cell = cell;
        plain = plain_at_text cells (cell_of cells old) new column cell plain_text
            (ap (λ (xs : List Field). slice_get xs column) put.0
            ∙ get_set_same old column _ _ stands) (λ is_in. refl);
        others = others_stay new _ put.0;
      }
  becomes_text own new false item stands put = rw put.0 record {
    cell = (item, refl);
    plain = plain_at_text cells (cell_of cells old) old column (item, refl) own stands
        (λ is_in. absurd (put.1 is_in));
    others = λ other differ. refl;
  }

  -- an item with neither a number nor a text there is plain as it is
  pub becomes_nothing : (f : Option Field) → IsItemOf cells.layout.columns old
      → slice_get old column ≡ f → number_of f ≡ None → text_of f ≡ None
      → BecomesPlain cells column old old
  becomes_nothing f item is no_number none = record {
    cell = (item, refl);
    plain = plain_without cells (cell_of cells old) old column (item, refl)
        (ap number_of is ∙ no_number) (ap text_of is ∙ none);
    others = λ other differ. refl;
  }

module _ (cells : Partition) (old : List Field) (column : ℕ) (form : Form) (number : ℤ)
    (item : IsItemOf cells.layout.columns old)
    (own : slice_get old column ≡ Some (number_field form number)) where
  -- the item stays in its cell with the number
  abbrev Stays : ℤ → Type 0
  Stays n = StaysWith cells old column (number_field form n)

  same_item : slice_set old column (number_field form number) ≡ old
  same_item = set_own old column (number_field form number) own

  stays_as_is : Stays number
  stays_as_is =
      (subst (IsItemOf cells.layout.columns) (sym same_item) item, ap (cell_of cells) same_item)

  -- a number is not zero where zero may not stand
  not_zero : (n : ℤ) → n ≡ number → (Stays (pos 0) → ⊥) → 0 < unsigned_abs n
  not_zero (pos zero) is not = absurd (not (subst Stays (sym is) stays_as_is))
  not_zero (pos (suc n)) is not = omega arith
  not_zero (negsuc n) is not = omega arith

  -- halving begins between zero and the number
  pub halves_begin : (inside : ℕ) → inside ≡ unsigned_abs number
      → (Stays (pos 0) → ⊥) → AreHalves cells old column form number 0 inside old
  halves_begin inside is not =
      let same : with_sign number inside ≡ number =
      ap (with_sign number) is ∙ with_own_sign number in
      record {
        apart = omega (arith, is, not_zero number refl not);
        from_own = omega (arith, is);
        has = sym (ap (λ (n : ℤ). slice_set old column (number_field form n)) same ∙ same_item);
        stays = subst Stays (sym same) stays_as_is;
        none = λ is_in. not (subst Stays (with_sign_zero number) is_in);
      }

  module _ (outside inside : ℕ) (now : List Field)
      (halves : AreHalves cells old column form number outside inside now) where
    -- a nearer number that was put is inside
    pub halves_nearer : (middle : ℕ) (nearer : ℤ) (new : List Field) → outside < middle
        → middle < inside → nearer ≡ with_sign number middle
        → IsPut cells now column (number_field form nearer) new true
        → AreHalves cells old column form number outside middle new
    halves_nearer middle nearer new more less is put =
        let f = number_field form (with_sign number inside) in
        let g = number_field form (with_sign number middle) in
        let same : number_field form nearer ≡ g = ap (number_field form) is in
        record {
          apart = more;
          from_own = omega (arith, halves.from_own);
          has = put.0
              ∙ at_once cells old now column f (number_field form nearer) halves.has halves.stays
              ∙ ap (λ (h : Field). slice_set old column h) same;
          stays = stays_at_once cells old now column f g halves.has halves.stays
              (subst (λ h. StaysWith cells now column h) same put.1);
          none = halves.none;
        }

    -- and one that was not is outside
    pub halves_farther : (middle : ℕ) (nearer : ℤ) (new : List Field) → middle < inside
        → nearer ≡ with_sign number middle
        → IsPut cells now column (number_field form nearer) new false
        → AreHalves cells old column form number middle inside new
    halves_farther middle nearer new less is put =
        let f = number_field form (with_sign number inside) in
        let g = number_field form (with_sign number middle) in
        let same : number_field form nearer ≡ g = ap (number_field form) is in
        record {
          apart = less;
          from_own = halves.from_own;
          has = put.0 ∙ halves.has;
          stays = halves.stays;
          none = λ is_in. put.1 (subst (λ h. StaysWith cells now column h) (sym same)
              (stays_after cells old now column f g halves.has halves.stays is_in));
        }

    -- where none is between them, the number inside is the nearest
    pub halves_end : inside ≤ outside + 1 → BecomesPlain cells column old now
    halves_end close =
        becomes_number cells old column form (with_sign number inside) _ now own
        halves.has halves.stays (λ m is_in. rw (abs_with_sign number inside)
        (nearest cells (cell_of cells old) old column form number outside inside halves.apart
        close halves.stays halves.none m is_in))
