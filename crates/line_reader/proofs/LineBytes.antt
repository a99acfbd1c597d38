-- The texts of a line of bytes are of bytes.
use Rattle.std.proofs.Common.{◌≡◌, ℕ, Bool, true, false, ◌&&◌, if◌then◌else◌, nat_lt, List, [], ◌∷◌}
use Rattle.std.proofs.Common.{◌++◌, Option, Some, None, option_map, refl, ◌∙◌}
use Rattle.std.specs.List.{list_all}
use Rattle.std.specs.Option.{IfSome}
use Rattle.std.proofs.lemmas.Bool.{and_from, and_parts}
use Rattle.std.proofs.lemmas.List.Folds.{list_all-append}
use Rattle.csv.specs.Machine.{Read, next_record, step, ends_at_end, is_end, fields_after}
use Rattle.csv.specs.Machine.{field_after}
use Rattle.csv.specs.Reading.{default_config, is_bom, strip_bom}
use Rattle.csv.specs.declared.parser.State.{State}
use Rattle.csv.specs.declared.parser.State.TheVariants as st
use Rattle.csv.specs.declared.parser.Action.{Action}
use Rattle.csv.specs.declared.parser.Action.TheVariants as act
use Rattle.value_ops.specs.Texts.{IsText, are_bytes}
use Rattle.line_reader.specs.Reading.{record_of}
use Rattle.line_reader.proofs.CutLines.{continues}

-- each of the texts is of bytes
abbrev pub are_texts : List (List ℕ) → Bool
are_texts texts = list_all are_bytes texts

-- one more of them
all_push : {A : Type 0} (p : A → Bool) (xs : List A) (x : A) → list_all p xs ≡ true → p x ≡ true
    → list_all p (xs ++ x ∷ []) ≡ true
all_push p xs x are is = list_all-append p xs (x ∷ [])
    ∙ and_from (list_all p xs) (p x && true) are (and_from (p x) true is refl)

-- the fields after an action
fields_bytes : (action : Action) (fields : List (List ℕ)) (text : List ℕ) → are_texts fields ≡ true
    → are_bytes text ≡ true → are_texts (fields_after action fields text) ≡ true
fields_bytes act.EndField fields text are bytes = all_push are_bytes fields text are bytes
fields_bytes act.Skip fields text are bytes = are
fields_bytes act.Copy fields text are bytes = are
fields_bytes act.EndRecord fields text are bytes = all_push are_bytes fields text are bytes

-- and the field at hand
field_bytes : (action : Action) (byte : ℕ) (text : List ℕ) → nat_lt byte 256 ≡ true
    → are_bytes text ≡ true → are_bytes (field_after action byte text) ≡ true
field_bytes act.Copy byte text is bytes = all_push (λ b. nat_lt b 256) text byte bytes is
field_bytes act.EndField byte text is bytes = refl
field_bytes act.Skip byte text is bytes = bytes
field_bytes act.EndRecord byte text is bytes = refl

-- the fields of what was read
abbrev ReadsTexts : Option Read → Type 0
ReadsTexts read = IfSome read (λ r. are_texts r.0 ≡ true)

-- the record that is read from some place on
record_bytes : (s : State) (fields : List (List ℕ)) (text bytes : List ℕ) → are_texts fields ≡ true
    → are_bytes text ≡ true → are_bytes bytes ≡ true
    → ReadsTexts (next_record default_config s fields text bytes)
unfolding next_record
record_bytes s fields text [] are is rest = by_end (ends_at_end s)
  where
    by_end : (ends : Bool)
        → ReadsTexts (if ends then Some (fields ++ (text ∷ []), st.StartRecord, []) else None)
    by_end true = all_push are_bytes fields text are is
    by_end false = tt
record_bytes s fields text (byte ∷ bytes) are is rest =
    by_action (step default_config s byte).0 (step default_config s byte).1
    (λ next fields text are is. record_bytes next fields text bytes are is
    (and_parts (nat_lt byte 256) (are_bytes bytes) rest).1)
  where
    by_action : (next : State) (action : Action)
        → ((next : State) (fields : List (List ℕ)) (text : List ℕ) → are_texts fields ≡ true
        → are_bytes text ≡ true → ReadsTexts (next_record default_config next fields text bytes))
        → ReadsTexts (continues fields text byte bytes (next, action))
    by_action next action after = by_end (is_end action)
      where
        by_end : (ends : Bool)
            → ReadsTexts (if ends then Some (fields_after action fields text, next, bytes)
            else next_record default_config next (fields_after action fields text)
            (field_after action byte text) bytes)
        by_end true = fields_bytes action fields text are is
        by_end false =
            after next (fields_after action fields text) (field_after action byte text)
            (fields_bytes action fields text are is)
            (field_bytes action byte text (and_parts (nat_lt byte 256) (are_bytes bytes) rest).0 is)

-- what is left of a line after a mark
strip_bytes : (line : List ℕ) → are_bytes line ≡ true → are_bytes (strip_bom line) ≡ true
unfolding strip_bom
strip_bytes [] are = refl
strip_bytes (a ∷ []) are = are
strip_bytes (a ∷ b ∷ []) are = are
strip_bytes (a ∷ b ∷ c ∷ rest) are = by_mark (is_bom a b c)
  where
    by_mark : (mark : Bool) → are_bytes (if mark then rest else a ∷ b ∷ c ∷ rest) ≡ true
    by_mark true =
        let second = (and_parts (nat_lt a 256) (are_bytes (b ∷ c ∷ rest)) are).1 in
        let third = (and_parts (nat_lt b 256) (are_bytes (c ∷ rest)) second).1 in
        (and_parts (nat_lt c 256) (are_bytes rest) third).1
    by_mark false = are

-- the texts of a line's record
pub texts_bytes : (line : List ℕ) (texts : List (List ℕ)) → IsText line
    → record_of line ≡ Some texts → are_texts texts ≡ true
texts_bytes line texts are row =
    by_read (next_record default_config st.StartRecord [] [] (strip_bom line)) row
    (record_bytes st.StartRecord [] [] (strip_bom line) refl refl (strip_bytes line are))
  where
    by_read : (read : Option Read) → option_map (λ (r : Read). r.0) read ≡ Some texts
        → ReadsTexts read → are_texts texts ≡ true
    by_read None none bytes = absurd (cc)
    by_read (Some read) some bytes =
        let same : read.0 ≡ texts = cc in
        rw (← same) bytes
