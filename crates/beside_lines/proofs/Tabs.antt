-- What stands in a column of a line that ends with columns.
use Rattle.std.proofs.Common.{◌≡◌, ℕ, zero, suc, ◌==◌, Bool, true, false, cond, List, [], ◌∷◌, ◌++◌}
use Rattle.std.proofs.Common.{length, Option, Some, None, refl, sym, ap, ◌∙◌, append_assoc}
use Rattle.std.proofs.Common.{append-nil, arith}
use Rattle.std.specs.List.{AllByRecursion, flat_map, list_all}
use Rattle.std.proofs.lemmas.Bool.{and_parts}
use Rattle.std.proofs.lemmas.Bool.Decides.{nat_tests}
use Rattle.beside_lines.specs.AfterTabs.{at_last_tab, ended, front, in_column, part, parted}
use Rattle.beside_lines.specs.AfterTabs.{without}
use Rattle.beside_lines.proofs.HighBytes.{AreHigh, is_high}
use Rattle.beside_lines.proofs.Rows.{AreInside, all_inside, inside_both}

no_tab : (byte : ℕ) → is_high byte ≡ true → (byte == 9) ≡ false
no_tab byte is = grind (arith, nat_tests)

-- no tab is among such bytes
untabbed : (bytes : List ℕ) → AreHigh bytes → at_last_tab bytes ≡ None
untabbed [] are = refl
untabbed (byte ∷ bytes) are =
    let parts = and_parts (is_high byte) (list_all is_high bytes) are in
    ap (part byte bytes) (untabbed bytes parts.1)
    ∙ ap (λ (b : Bool). cond b (Some ([], bytes)) None) (no_tab byte parts.0)

-- after a tab before them they stand
tabbed : (line bytes : List ℕ) → AreHigh bytes
    → at_last_tab (line ++ 9 ∷ bytes) ≡ Some (line, bytes)
tabbed [] bytes are = ap (part 9 bytes) (untabbed bytes are)
tabbed (byte ∷ line) bytes are = ap (part byte (line ++ 9 ∷ bytes)) (tabbed line bytes are)

-- columns with these texts
abbrev pub columns_with : List (List ℕ) → List ℕ
columns_with texts = flat_map (λ text. 9 ∷ text) texts

-- they have no LF
pub columns_inside : (texts : List (List ℕ)) → AllByRecursion AreHigh texts
    → AreInside (columns_with texts)
columns_inside [] are = refl
columns_inside (text ∷ texts) are =
    inside_both (9 ∷ text) (columns_with texts) (all_inside text are.0)
    (columns_inside texts are.1)

-- without them the line is left
without_columns : (line : List ℕ) (texts : List (List ℕ)) → AllByRecursion AreHigh texts
    → without (length texts) (line ++ columns_with texts) ≡ Some line
without_columns line [] are = ap Some (append-nil line)
without_columns line (text ∷ texts) are =
    ap (λ (l : List ℕ). front (parted (without (length texts) l)))
    (sym (append_assoc line (9 ∷ text) (columns_with texts)))
    ∙ ap (λ (o : Option (List ℕ)). front (parted o))
    (without_columns (line ++ 9 ∷ text) texts are.1)
    ∙ ap front (tabbed line text are.0)

-- each text stands in its column
pub column_there : (line : List ℕ) (before : List (List ℕ)) (text : List ℕ)
    (after : List (List ℕ)) → AreHigh text → AllByRecursion AreHigh after
    → in_column (length after)
    (line ++ (columns_with before ++ (9 ∷ text) ++ columns_with after)) ≡ text ++ 10 ∷ []
column_there line before text after is are =
    let start = line ++ columns_with before in
    let others = columns_with after in
    ap (in_column (length after))
    (sym (append_assoc line (columns_with before ++ 9 ∷ text) others)
    ∙ ap (λ (l : List ℕ). l ++ others) (sym (append_assoc line (columns_with before) (9 ∷ text))))
    ∙ ap (λ (o : Option (List ℕ)). ended (parted o)) (without_columns (start ++ 9 ∷ text) after are)
    ∙ ap ended (tabbed start text is)

-- no column stands in an empty line
pub no_column : (count : ℕ) → parted (without count []) ≡ None
no_column zero = refl
no_column (suc count) = ap (λ (o : Option (List ℕ × List ℕ)). parted (front o)) (no_column count)
