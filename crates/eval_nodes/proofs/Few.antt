-- Live starts are at most as many as there are places for them.
use Rattle.std.proofs.Common.{◌≡◌, ◌≤◌, ℕ, ◌+◌, ◌∙◌, List, [], ◌∷◌, ◌++◌, drop, length, refl, sym}
use Rattle.std.proofs.Common.{subst, arith, ◌⊎◌, inl, inr}
use Rattle.std.specs.Prelude.{ℤ}
use Rattle.std.specs.List.{Contains}
use Rattle.expressions.specs.Expressions.{Expression}
use Rattle.predicates.specs.Predicates.{Predicate}
use Rattle.item_schema.specs.declared.column.Column.{Column}
use Rattle.rate_expr.specs.Words.{Word, IsWordOf}
use Rattle.query_model.specs.Bounds.{places_of}
use Rattle.query_model.specs.Queries.{Qre, atom, eps, choice, split, iter, combine, apply, compose}
use Rattle.query_model.specs.Queries.{collect}
use Rattle.query_model.specs.Rules.{Standing, bound, IsClear}
use Rattle.eval_nodes.specs.Starts.{AreApart, AreDifferent, ArePositions, IsLive}
use Rattle.eval_nodes.proofs.Apart.{apart_first, apart_second, apart_left, apart_right}
use Rattle.eval_nodes.proofs.Chains.{chain_apart, chain_clear}
use Rattle.eval_nodes.proofs.CollectFew.{few_collect}
use Rattle.eval_nodes.proofs.Continuing.{ContinuesAt, ContinuesRight, live_iter, live_split}
use Rattle.eval_nodes.proofs.Members.{first_member, later_member, member_cases, no_member}
use Rattle.eval_nodes.proofs.Pieces.{at_end, none_before, piece_continues, some_item}

-- of different numbers that are each of one kind or another
pub record AreParted (P Q : ℕ → Type 0) (all : List ℕ) : Type 0 where
  pub firsts : List ℕ
  pub seconds : List ℕ
  pub count : length all ≡ length firsts + length seconds
  pub different : AreDifferent firsts × AreDifferent seconds
  pub among : ((i : ℕ) → Contains firsts i → Contains all i)
      × ((i : ℕ) → Contains seconds i → Contains all i)
  pub are : ((i : ℕ) → Contains firsts i → P i) × ((i : ℕ) → Contains seconds i → Q i)

parted : (P Q : ℕ → Type 0) (all : List ℕ) → AreDifferent all
    → ((i : ℕ) → Contains all i → P i ⊎ Q i) → AreParted P Q all
parted P Q [] different each = record {
  firsts = [];
  seconds = [];
  count = refl;
  different = (tt, tt);
  among = (λ i there. there, λ i there. there);
  are = (λ i there. absurd (no_member i there), λ i there. absurd (no_member i there));
}
parted P Q (x ∷ all) different each =
    let rest = parted P Q all different.1 (λ i there. each i (later_member x i all there)) in
    let count = rest.count in
    elim (each x (first_member x all)) [
      | inl is ↦ record {
        firsts = x ∷ rest.firsts;
        seconds = rest.seconds;
        count = omega (arith, count);
        different =
            ((λ there. different.0 (rest.among.0 x there), rest.different.0), rest.different.1);
        among = (
          λ i there. elim (member_cases x i rest.firsts there) [
            | inl same ↦ subst (Contains (x ∷ all)) same (first_member x all)
            | inr later ↦ later_member x i all (rest.among.0 i later)
          ],
          λ i there. later_member x i all (rest.among.1 i there),
        );
        are = (
          λ i there. elim (member_cases x i rest.firsts there) [
            | inl same ↦ subst P same is
            | inr later ↦ rest.are.0 i later
          ],
          rest.are.1,
        );
      }
      | inr is ↦ record {
        firsts = rest.firsts;
        seconds = x ∷ rest.seconds;
        count = omega (arith, count);
        different =
            (rest.different.0, (λ there. different.0 (rest.among.1 x there), rest.different.1));
        among = (
          λ i there. later_member x i all (rest.among.0 i there),
          λ i there. elim (member_cases x i rest.seconds there) [
            | inl same ↦ subst (Contains (x ∷ all)) same (first_member x all)
            | inr later ↦ later_member x i all (rest.among.1 i later)
          ],
        );
        are = (
          rest.are.0,
          λ i there. elim (member_cases x i rest.seconds there) [
            | inl same ↦ subst Q same is
            | inr later ↦ rest.are.1 i later
          ],
        );
      }
    ]

-- the start of an atom that can continue is the end of the word
pub live_atom : (columns : List Column) (pred : Predicate) (e : Expression) (word : Word)
    (starts : List ℕ) (start : ℕ) → ArePositions word starts
    → IsLive columns (atom pred e) word starts start → start ≡ length word
live_atom columns pred e word starts start positions
    (there, (item, more, is, (other, whole, meets))) =
    at_end word start (positions start there) (none_before (drop start word) item other more whole)

few_atom : (columns : List Column) (pred : Predicate) (e : Expression) (word : Word)
    (starts live : List ℕ) → ArePositions word starts → AreDifferent live
    → ((i : ℕ) → Contains live i → IsLive columns (atom pred e) word starts i) → length live ≤ 1
few_atom columns pred e word starts [] positions different each = omega arith
few_atom columns pred e word starts (x ∷ []) positions different each = omega arith
few_atom columns pred e word starts (x ∷ y ∷ live) positions different each =
    let a = live_atom columns pred e word starts x positions (each x (first_member x (y ∷ live))) in
    let b = live_atom columns pred e word starts y positions
    (each y (later_member x y (y ∷ live) (first_member y live))) in
    absurd (different.0 (subst (Contains (y ∷ live)) (b ∙ sym a) (first_member y live)))

pub no_live : (columns : List Column) (number : ℤ) (word : Word) (starts : List ℕ) (start : ℕ)
    → IsLive columns (eps number) word starts start → ⊥
no_live columns number word starts start (there, (item, more, is, whole)) =
    some_item (drop start word) item more whole

few_eps : (columns : List Column) (number : ℤ) (word : Word) (starts live : List ℕ)
    → ((i : ℕ) → Contains live i → IsLive columns (eps number) word starts i) → length live ≤ 0
few_eps columns number word starts [] each = omega arith
few_eps columns number word starts (x ∷ live) each =
    absurd (no_live columns number word starts x (each x (first_member x live)))

-- positions at which the starts continue on the right, one for each
pub record AreThrough (columns : List Column) (f g : Qre) (word : Word)
    (starts all : List ℕ) : Type 0 where
  pub ends : List ℕ
  pub count : length all ≡ length ends
  pub different : AreDifferent ends
  pub each : (at : ℕ) → Contains ends at
      → (start : ℕ) × Contains all start × ContinuesAt columns f g word starts start at

through : (columns : List Column) (f g : Qre) (e : Expression) (word : Word) (starts all : List ℕ)
    → IsClear bound columns (split f g e) → IsWordOf columns word
    → AreApart columns (split f g e) word starts → AreDifferent all
    → ((i : ℕ) → Contains all i → ContinuesRight columns f g word starts i)
    → AreThrough columns f g word starts all
through columns f g e word starts [] clear is apart different each = record {
  ends = [];
  count = refl;
  different = tt;
  each = λ at there. absurd (no_member at there);
}
through columns f g e word starts (x ∷ all) clear is apart different each =
    let rest = through columns f g e word starts all clear is apart different.1
    (λ i there. each i (later_member x i all there)) in
    let (at, continues) = each x (first_member x all) in
    let count = rest.count in
    record {
      ends = at ∷ rest.ends;
      count = omega (arith, count);
      different = (
        λ there.
            let (other, among, (piece', from', is', in_f', (item', more', more_is', in_g'))) =
            rest.each at there in
            let (piece, from, is_piece, in_f, (item, more, more_is, in_g)) = continues in
            let same : x ≡ other = apart x other (item ∷ more) more_is from from' (
              piece,
              drop at word ++ item ∷ more,
              piece_continues word x at piece (item ∷ more) is_piece,
              in_f,
              in_g,
            ) (
              piece',
              drop at word ++ item ∷ more,
              piece_continues word other at piece' (item ∷ more) is',
              in_f',
              in_g,
            ) in
            different.0 (subst (Contains all) (sym same) among),
        rest.different,
      );
      each = λ place there. elim (member_cases at place rest.ends there) [
        | inl same ↦
            (x, first_member x all, subst (ContinuesAt columns f g word starts x) same continues)
        | inr later ↦ let (start, among, more) = rest.each place later in
            (start, later_member x start all among, more)
      ];
    }

pub few_live : (standing : Standing) (columns : List Column) (q : Qre) (word : Word)
    (starts live : List ℕ) → IsClear standing columns q → IsWordOf columns word
    → ArePositions word starts → AreApart columns q word starts → AreDifferent live
    → ((i : ℕ) → Contains live i → IsLive columns q word starts i) → length live ≤ places_of q
few_live standing columns (atom pred e) word starts live clear is positions apart different each =
    few_atom columns pred e word starts live positions different each
few_live standing columns (eps number) word starts live clear is positions apart different each =
    few_eps columns number word starts live each
few_live standing columns (choice f g) word starts live clear is positions apart different each =
    let two = parted (IsLive columns f word starts) (IsLive columns g word starts) live different
    (λ i there. let (among, (item, more, more_is, in_either)) = each i there in
    elim in_either [
      | inl in_f ↦ inl (among, (item, more, more_is, in_f))
      | inr in_g ↦ inr (among, (item, more, more_is, in_g))
    ]) in
    let count = two.count in
    let first = few_live bound columns f word starts two.firsts clear.0 is positions
    (apart_first columns f g word starts apart) two.different.0 two.are.0 in
    let second = few_live bound columns g word starts two.seconds clear.1 is positions
    (apart_second columns f g word starts apart) two.different.1 two.are.1 in
    omega (arith, count, first, second)
few_live standing columns (split f g e) word starts live clear is positions apart different each =
    let two = parted (IsLive columns f word starts)
    (ContinuesRight columns f g word starts) live different
    (λ i there. live_split columns f g e word starts i is positions (each i there)) in
    let right = through columns f g e word starts two.seconds clear is apart
    two.different.1 two.are.1 in
    let count = two.count in
    let same = right.count in
    let first = few_live bound columns f word starts two.firsts clear.0 is positions
    (apart_left columns f g e word starts clear.1 apart) two.different.0 two.are.0 in
    let second = few_live bound columns g word right.ends right.ends clear.1 is
    (λ at there. let (start, among, (piece, from, is_piece, in_f, more)) = right.each at there in
    is_piece.inside)
    (apart_right columns f g e word starts right.ends clear is apart
    (λ at there. let (start, among, (piece, from, is_piece, in_f, more)) = right.each at there in
    (start, piece, from, is_piece, in_f)))
    right.different
    (λ at there. let (start, among, (piece, from, is_piece, in_f, more)) = right.each at there in
    (there, more)) in
    omega (arith, count, same, first, second)
few_live standing columns (iter f number e) word starts live clear is positions apart
    different each =
    let q = iter f number e in
    let two = chain_clear columns f number e clear in
    let apart_two = chain_apart columns f number e word starts apart in
    let next = through columns q f e word starts live two is apart_two different
    (λ i there. live_iter columns f number e word starts i positions (each i there)) in
    let same = next.count in
    let few = few_live bound columns f word next.ends next.ends clear.0 is
    (λ at there. let (start, among, (piece, from, is_piece, in_q, more)) = next.each at there in
    is_piece.inside)
    (apart_right columns q f e word starts next.ends two is apart_two
    (λ at there. let (start, among, (piece, from, is_piece, in_q, more)) = next.each at there in
    (start, piece, from, is_piece, in_q)))
    next.different
    (λ at there. let (start, among, (piece, from, is_piece, in_q, more)) = next.each at there in
    (there, more)) in
    omega (arith, same, few)
few_live standing columns (combine f g e) word starts live clear is positions apart different each =
    let first = few_live bound columns f word starts live clear.0 is positions apart
    different each in
    omega (arith, first)
few_live standing columns (apply f e) word starts live clear is positions apart different each =
    few_live bound columns f word starts live clear.0 is positions apart different each
few_live standing columns (compose f g) word starts live clear is positions apart different each =
    few_live standing columns f word starts live clear.0 is positions apart different each
few_live standing columns (collect chosen sync rate f) word starts live clear is positions apart
    different each =
    few_collect columns chosen sync rate f word starts live positions apart different each
