-- Readers: what is read is spelled so, and what is spelled so is read, whatever comes after it.
use Rattle.std.proofs.Common.{◌≡◌, ◌<◌, ℕ, zero, suc, List, [], ◌∷◌, ◌++◌, get_or, length}
use Rattle.std.proofs.Common.{Option, None, Some, refl, sym, ap, subst, ◌∙◌, append_assoc}
use Rattle.std.specs.List.{flat_map, AllByRecursion}
use Rattle.std.proofs.lemmas.Option.{none-some, same_Some}
use Rattle.runner_snapshot.specs.Reading.{Read, ◌>>=◌, byte_at, made_at, pair_at, repeat_at}

-- each number is a byte
abbrev pub IsBytes : List ℕ → Type 0
IsBytes bytes = (i : ℕ) → get_or bytes i 0 < 256

-- the bytes begin with the text, and after it comes the rest
pub record Takes (bytes text rest : List ℕ) : Type 0 where
  pub parts : bytes ≡ text ++ rest
  pub rest_fits : IsBytes rest

pub Takes-then : (a x b y c : List ℕ) → Takes a x b → Takes b y c → Takes a (x ++ y) c
Takes-then a x b y c p q = record {
  parts = p.parts ∙ ap (λ (t : List ℕ). x ++ t) q.parts ∙ sym (append_assoc x y c);
  rest_fits = q.rest_fits;
}

pub IsBytes-rest : (b : ℕ) (bytes : List ℕ) → IsBytes (b ∷ bytes) → IsBytes bytes
IsBytes-rest b bytes h i = h (suc i)

-- a step that read something
pub bind_some : {A B : Type 0} (read : Option A) (f : A → Option B) (y : B) → (read >>= f) ≡ Some y
    → (x : A) × (read ≡ Some x) × (f x ≡ Some y)
bind_some (Some x) f y e = (x, refl, e)
bind_some None f y e = absurd (none-some y e)

-- the reader reads exactly what is spelled so and fits
pub record Reads {A : Type 0} (spelled : A → List ℕ) (fits : A → Type 0)
    (f : List ℕ → Read A) : Type 0 where
  pub takes : (bytes : List ℕ) (x : A) (rest : List ℕ) → IsBytes bytes → f bytes ≡ Some (x, rest)
      → Takes bytes (spelled x) rest × fits x
  pub again : (x : A) (rest : List ℕ) → fits x → f (spelled x ++ rest) ≡ Some (x, rest)

-- one thing and then another
pub both : {A B : Type 0} (first : A → List ℕ) (fits : A → Type 0) (f : List ℕ → Read A)
    (second : B → List ℕ) (fit : B → Type 0) (g : List ℕ → Read B)
    → Reads first fits f → Reads second fit g
    → Reads (λ (p : A × B). first p.0 ++ second p.1) (λ (p : A × B). fits p.0 × fit p.1)
    (pair_at f g)
both {A} {B} first fits f second fit g reads also = record {
  takes = λ bytes p rest are_bytes e.
      let a = bind_some (f bytes) (λ x. g x.1 >>= λ y. Some ((x.0, y.0), y.1)) (p, rest) e in
      let b = bind_some (g a.0.1) (λ y. Some ((a.0.0, y.0), y.1)) (p, rest) a.2 in
      let front = reads.takes bytes a.0.0 a.0.1 are_bytes a.1 in
      let back = also.takes a.0.1 b.0.0 b.0.1 front.0.rest_fits b.1 in
      let made : (A × B) × List ℕ = ((a.0.0, b.0.0), b.0.1) in
      subst
      (λ (r : (A × B) × List ℕ). Takes bytes (first r.0.0 ++ second r.0.1) r.1
      × (fits r.0.0 × fit r.0.1)) (same_Some made (p, rest) b.2) (
        Takes-then bytes (first a.0.0) a.0.1 (second b.0.0) b.0.1 front.0 back.0,
        (front.1, back.1),
      );
  again = λ p rest are.
      ap (pair_at f g) (append_assoc (first p.0) (second p.1) rest)
      ∙ ap (λ (r : Read A). r >>= λ x. g x.1 >>= λ y. Some ((x.0, y.0), y.1))
      (reads.again p.0 (second p.1 ++ rest) are.0)
      ∙ ap (λ (r : Read B). r >>= λ y. Some ((p.0, y.0), y.1)) (also.again p.1 rest are.1);
}

-- what is made of a thing, where it can be taken apart again
pub made : {A B : Type 0} (spelled : A → List ℕ) (fits : A → Type 0) (f : List ℕ → Read A)
    (make : A → B) (back : B → A) (text : B → List ℕ) (fit : B → Type 0)
    → ((b : B) → fit b → make (back b) ≡ b)
    → ((a : A) → fits a → text (make a) ≡ spelled a)
    → ((a : A) → fits a → fit (make a)) → ((b : B) → fit b → fits (back b))
    → Reads spelled fits f → Reads text fit (made_at make f)
made {A} {B} spelled fits f make back text fit whole same fit_made fit_back reads = record {
  takes = λ bytes b rest are_bytes e.
      let a = bind_some (f bytes) (λ x. Some (make x.0, x.1)) (b, rest) e in
      let front = reads.takes bytes a.0.0 a.0.1 are_bytes a.1 in
      let it : B × List ℕ = (make a.0.0, a.0.1) in
      subst (λ (r : B × List ℕ). Takes bytes (text r.0) r.1 × fit r.0)
      (same_Some it (b, rest) a.2) (
        subst (λ (s : List ℕ). Takes bytes s a.0.1) (sym (same a.0.0 front.1)) front.0,
        fit_made a.0.0 front.1,
      );
  again = λ b rest is.
      let parts = fit_back b is in
      ap (λ (s : List ℕ). made_at make f (s ++ rest))
      (ap text (sym (whole b is)) ∙ same (back b) parts)
      ∙ ap (λ (r : Read A). r >>= λ x. Some (make x.0, x.1)) (reads.again (back b) rest parts)
      ∙ ap (λ (x : B). Some (x, rest)) (whole b is);
}

module _ {A : Type 0} (spelled : A → List ℕ) (fits : A → Type 0) (f : List ℕ → Read A)
    (reads : Reads spelled fits f) where
  -- so many of one kind
  pub repeat_takes : (count : ℕ) (bytes : List ℕ) (xs : List A) (rest : List ℕ) → IsBytes bytes
      → repeat_at f count bytes ≡ Some (xs, rest)
      → Takes bytes (flat_map spelled xs) rest × (length xs ≡ count) × AllByRecursion fits xs
  repeat_takes zero bytes xs rest are_bytes e =
      let none : List A × List ℕ = ([], bytes) in
      subst
      (λ (r : List A × List ℕ). Takes bytes (flat_map spelled r.0) r.1 × (length r.0 ≡ zero)
      × AllByRecursion fits r.0) (same_Some none (xs, rest) e)
      (record { parts = refl; rest_fits = are_bytes }, refl, tt)
  repeat_takes (suc count) bytes xs rest are_bytes e =
      let a = bind_some (f bytes) (λ x. repeat_at f count x.1 >>= λ ys. Some (x.0 ∷ ys.0, ys.1))
      (xs, rest) e in
      let b = bind_some (repeat_at f count a.0.1) (λ ys. Some (a.0.0 ∷ ys.0, ys.1)) (xs, rest)
      a.2 in
      let front = reads.takes bytes a.0.0 a.0.1 are_bytes a.1 in
      let others = repeat_takes count a.0.1 b.0.0 b.0.1 front.0.rest_fits b.1 in
      let all : List A × List ℕ = (a.0.0 ∷ b.0.0, b.0.1) in
      let count_is : length (a.0.0 ∷ b.0.0) ≡ suc count = ap (λ (n : ℕ). suc n) others.1 in
      subst
      (λ (r : List A × List ℕ). Takes bytes (flat_map spelled r.0) r.1 × (length r.0 ≡ suc count)
      × AllByRecursion fits r.0) (same_Some all (xs, rest) b.2) (
        Takes-then bytes (spelled a.0.0) a.0.1 (flat_map spelled b.0.0) b.0.1 front.0 others.0,
        count_is,
        (front.1, others.2),
      )

  pub repeat_again : (xs : List A) (rest : List ℕ) → AllByRecursion fits xs
      → repeat_at f (length xs) (flat_map spelled xs ++ rest) ≡ Some (xs, rest)
  repeat_again [] rest are = refl
  repeat_again (x ∷ xs) rest are =
      ap (repeat_at f (length (x ∷ xs))) (append_assoc (spelled x) (flat_map spelled xs) rest)
      ∙ ap (λ (r : Read A). r >>= λ y. repeat_at f (length xs) y.1 >>= λ ys.
      Some (y.0 ∷ ys.0, ys.1)) (reads.again x (flat_map spelled xs ++ rest) are.0)
      ∙ ap (λ (r : Read (List A)). r >>= λ ys. Some (x ∷ ys.0, ys.1))
      (repeat_again xs rest are.1)

-- what comes after a byte that says what it is
module _ {T A : Type 0} (tag_of : ℕ → Option T) (byte_of : T → ℕ)
    (known : (byte : ℕ) (tag : T) → tag_of byte ≡ Some tag → byte_of tag ≡ byte)
    (read : Option T → List ℕ → Read A) (unknown : (rest : List ℕ) → read None rest ≡ None)
    (spelled : A → List ℕ) (fits : A → Type 0) where
  -- what is read after this tag is spelled so, the tag before it
  abbrev pub TakesAfter : T → Type 0
  TakesAfter tag = (bytes : List ℕ) (x : A) (rest : List ℕ) → IsBytes bytes
      → read (Some tag) bytes ≡ Some (x, rest)
      → Takes (byte_of tag ∷ bytes) (spelled x) rest × fits x

  pub tagged_takes : ((tag : T) → TakesAfter tag) → (bytes : List ℕ) (x : A) (rest : List ℕ)
      → IsBytes bytes → (byte_at bytes >>= λ byte. read (tag_of byte.0) byte.1) ≡ Some (x, rest)
      → Takes bytes (spelled x) rest × fits x
  tagged_takes after [] x rest are_bytes e = absurd (none-some (x, rest) e)
  tagged_takes after (byte ∷ bytes) x rest are_bytes e = go (tag_of byte) refl
    where
      go : (tag : Option T) → tag_of byte ≡ tag → Takes (byte ∷ bytes) (spelled x) rest × fits x
      go None is =
          absurd (none-some (x, rest) (sym (unknown bytes)
          ∙ subst (λ (tag : Option T). read tag bytes ≡ Some (x, rest)) is e))
      go (Some tag) is =
          subst (λ (k : ℕ). Takes (k ∷ bytes) (spelled x) rest × fits x) (known byte tag is)
          (after tag bytes x rest (IsBytes-rest byte bytes are_bytes)
          (subst (λ (tag : Option T). read tag bytes ≡ Some (x, rest)) is e))

-- a tag before what is read
pub tagged : (tag : ℕ) (bytes text rest : List ℕ) → Takes bytes text rest
    → Takes (tag ∷ bytes) (tag ∷ text) rest
tagged tag bytes text rest takes = record {
  parts = ap (λ (t : List ℕ). tag ∷ t) takes.parts;
  rest_fits = takes.rest_fits;
}

-- what is made of what is read after a tag
pub arm_takes : {A B : Type 0} (spelled : A → List ℕ) (fits : A → Type 0) (f : List ℕ → Read A)
    (make : A → B) (text : B → List ℕ) (fit : B → Type 0) (tag : ℕ)
    → ((a : A) → fits a → text (make a) ≡ tag ∷ spelled a) → ((a : A) → fits a → fit (make a))
    → Reads spelled fits f → (bytes : List ℕ) (b : B) (rest : List ℕ) → IsBytes bytes
    → made_at make f bytes ≡ Some (b, rest) → Takes (tag ∷ bytes) (text b) rest × fit b
arm_takes {A} {B} spelled fits f make text fit tag same fit_made reads bytes b rest are_bytes e =
    let a = bind_some (f bytes) (λ x. Some (make x.0, x.1)) (b, rest) e in
    let front = reads.takes bytes a.0.0 a.0.1 are_bytes a.1 in
    let it : B × List ℕ = (make a.0.0, a.0.1) in
    subst (λ (r : B × List ℕ). Takes (tag ∷ bytes) (text r.0) r.1 × fit r.0)
    (same_Some it (b, rest) a.2) (
      subst (λ (s : List ℕ). Takes (tag ∷ bytes) s a.0.1) (sym (same a.0.0 front.1))
          (tagged tag bytes (spelled a.0.0) a.0.1 front.0),
      fit_made a.0.0 front.1,
    )

pub arm_again : {A B : Type 0} (spelled : A → List ℕ) (fits : A → Type 0) (f : List ℕ → Read A)
    (make : A → B) → Reads spelled fits f → (a : A) (rest : List ℕ) → fits a
    → made_at make f (spelled a ++ rest) ≡ Some (make a, rest)
arm_again {A} spelled fits f make reads a rest are =
    ap (λ (r : Read A). r >>= λ x. Some (make x.0, x.1)) (reads.again a rest are)

-- a tag with nothing after it
pub alone_takes : {B : Type 0} (b : B) (text : B → List ℕ) (fit : B → Type 0) (tag : ℕ)
    → text b ≡ tag ∷ [] → fit b → (bytes : List ℕ) (x : B) (rest : List ℕ) → IsBytes bytes
    → ◌≡◌ {A = Read B} (Some (b, bytes)) (Some (x, rest))
    → Takes (tag ∷ bytes) (text x) rest × fit x
alone_takes {B} b text fit tag same is bytes x rest are_bytes e =
    let it : B × List ℕ = (b, bytes) in
    let none : Takes (tag ∷ bytes) (tag ∷ []) bytes =
    record { parts = refl; rest_fits = are_bytes } in
    subst (λ (r : B × List ℕ). Takes (tag ∷ bytes) (text r.0) r.1 × fit r.0)
    (same_Some it (x, rest) e)
    (subst (λ (s : List ℕ). Takes (tag ∷ bytes) s bytes) (sym same) none, is)
