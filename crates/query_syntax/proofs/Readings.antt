-- Each tree reads back, so that no two trees are written alike.
use Rattle.std.proofs.Common.{◌≡◌, List, [], ◌∷◌, codes, refl, sym, ap, ◌∙◌}
use Rattle.query_forms.specs.Terms.{Terms, none}
use Rattle.query_syntax.specs.Predicates as p
use Rattle.query_syntax.specs.Predicates.{Predicate}
use Rattle.query_syntax.specs.Queries as q
use Rattle.query_syntax.specs.Queries.{Query}
use Rattle.query_syntax.specs.Rates as r
use Rattle.query_syntax.specs.Rates.{Rate}
use Rattle.query_syntax.specs.Written.{number_before, expression_before, predicate_before}
use Rattle.query_syntax.specs.Written.{rate_before, query_before}
use Rattle.query_syntax.proofs.ReadTerms.{Reading, Back, before, call_back, name_reading}
use Rattle.query_syntax.proofs.ReadTerms.{number_reading, readings, predicate_from, rate_from}
use Rattle.query_syntax.proofs.FoundHeads.{equality_found, order_found, connective_found}
use Rattle.query_syntax.proofs.FoundHeads.{join_found}
use Rattle.query_syntax.proofs.LeavesRead.{literal_back, key_back}
use Rattle.query_syntax.proofs.ExpressionsRead.{expression_back}

-- a predicate reads back
pub predicate_back : (f : Predicate) (rest : Terms)
    → Back (λ (x : Reading). x.predicate) f (predicate_before f rest) rest
predicate_back (p.any span) rest = record {
  reading = name_reading (record { bytes = codes "any"; span = span });
  is = refl;
  says = refl;
}
predicate_back (p.equality op column l span) rest =
    let x = literal_back l none in
    call_back _ _ _ _ span rest (name_reading column ∷ x.reading ∷ [])
    (ap (λ (l : List Reading). name_reading column ∷ l) x.is)
    (ap (λ h. predicate_from h (name_reading column ∷ x.reading ∷ []) span) (equality_found op)
    ∙ ap (λ t. p.equality op column t span) x.says)
predicate_back (p.order op column n span) rest =
    call_back _ _ _ _ span rest (name_reading column ∷ number_reading n ∷ []) refl
    (ap (λ h. predicate_from h (name_reading column ∷ number_reading n ∷ []) span) (order_found op))
predicate_back (p.between column m n span) rest =
    call_back _ _ _ _ span rest
    (name_reading column ∷ number_reading m ∷ number_reading n ∷ []) refl refl
predicate_back (p.is_num column span) rest =
    call_back _ _ _ _ span rest (name_reading column ∷ []) refl refl
predicate_back (p.joined op a b span) rest =
    let x = predicate_back a (predicate_before b none) in
    let y = predicate_back b none in
    call_back _ _ _ _ span rest (x.reading ∷ y.reading ∷ []) (before _ _ _ _ _ x y.is)
    (ap (λ h. predicate_from h (x.reading ∷ y.reading ∷ []) span) (connective_found op)
    ∙ (λ i. p.joined op (x.says i) (y.says i) span))
predicate_back (p.negated a span) rest =
    let x = predicate_back a none in
    call_back _ _ _ _ span rest (x.reading ∷ []) x.is (ap (λ t. p.negated t span) x.says)

-- a rate reads back
pub rate_back : (t : Rate) (rest : Terms)
    → Back (λ (x : Reading). x.rate) t (rate_before t rest) rest
rate_back (r.eps span) rest = record {
  reading = name_reading (record { bytes = codes "eps"; span = span });
  is = refl;
  says = refl;
}
rate_back (r.item f span) rest =
    let x = predicate_back f none in
    call_back _ _ _ _ span rest (x.reading ∷ []) x.is (ap (λ t. r.item t span) x.says)
rate_back (r.joined op a b span) rest =
    let x = rate_back a (rate_before b none) in
    let y = rate_back b none in
    call_back _ _ _ _ span rest (x.reading ∷ y.reading ∷ []) (before _ _ _ _ _ x y.is)
    (ap (λ h. rate_from h (x.reading ∷ y.reading ∷ []) span) (join_found op)
    ∙ (λ i. r.joined op (x.says i) (y.says i) span))
rate_back (r.star a span) rest =
    let x = rate_back a none in
    call_back _ _ _ _ span rest (x.reading ∷ []) x.is (ap (λ t. r.star t span) x.says)

-- a query reads back
pub query_back : (a : Query) (rest : Terms)
    → Back (λ (x : Reading). x.query) a (query_before a rest) rest
query_back (q.name n) rest = record { reading = name_reading n; is = refl; says = refl }
query_back (q.atom f v span) rest =
    let x = predicate_back f (expression_before v none) in
    let y = expression_back v none in
    call_back _ _ _ _ span rest (x.reading ∷ y.reading ∷ []) (before _ _ _ _ _ x y.is)
    (λ i. q.atom (x.says i) (y.says i) span)
query_back (q.eps n span) rest = call_back _ _ _ _ span rest (number_reading n ∷ []) refl refl
query_back (q.or a b span) rest =
    let x = query_back a (query_before b none) in
    let y = query_back b none in
    call_back _ _ _ _ span rest (x.reading ∷ y.reading ∷ []) (before _ _ _ _ _ x y.is)
    (λ i. q.or (x.says i) (y.says i) span)
query_back (q.split a b v span) rest =
    let x = query_back a (query_before b (expression_before v none)) in
    let y = query_back b (expression_before v none) in
    let z = expression_back v none in
    call_back _ _ _ _ span
    rest (x.reading ∷ y.reading ∷ z.reading ∷ []) (before _ _ _ _ _ x (before _ _ _ _ _ y z.is))
    (λ i. q.split (x.says i) (y.says i) (z.says i) span)
query_back (q.iter a n v span) rest =
    let x = query_back a (number_before n (expression_before v none)) in
    let z = expression_back v none in
    call_back _ _ _ _ span rest (x.reading ∷ number_reading n ∷ z.reading ∷ [])
    (before _ _ _ _ _ x (ap (λ (l : List Reading). number_reading n ∷ l) z.is))
    (λ i. q.iter (x.says i) n (z.says i) span)
query_back (q.combine a b v span) rest =
    let x = query_back a (query_before b (expression_before v none)) in
    let y = query_back b (expression_before v none) in
    let z = expression_back v none in
    call_back _ _ _ _ span
    rest (x.reading ∷ y.reading ∷ z.reading ∷ []) (before _ _ _ _ _ x (before _ _ _ _ _ y z.is))
    (λ i. q.combine (x.says i) (y.says i) (z.says i) span)
query_back (q.apply a v span) rest =
    let x = query_back a (expression_before v none) in
    let z = expression_back v none in
    call_back _ _ _ _ span rest (x.reading ∷ z.reading ∷ []) (before _ _ _ _ _ x z.is)
    (λ i. q.apply (x.says i) (z.says i) span)
query_back (q.compose a b span) rest =
    let x = query_back a (query_before b none) in
    let y = query_back b none in
    call_back _ _ _ _ span rest (x.reading ∷ y.reading ∷ []) (before _ _ _ _ _ x y.is)
    (λ i. q.compose (x.says i) (y.says i) span)
query_back (q.collect k f t a span) rest =
    let w = key_back k (predicate_before f (rate_before t (query_before a none))) in
    let x = predicate_back f (rate_before t (query_before a none)) in
    let y = rate_back t (query_before a none) in
    let z = query_back a none in
    call_back _ _ _ _ span rest (w.reading ∷ x.reading ∷ y.reading ∷ z.reading ∷ [])
    (before _ _ _ _ _ w (before _ _ _ _ _ x (before _ _ _ _ _ y z.is)))
    (λ i. q.collect (w.says i) (x.says i) (y.says i) (z.says i) span)

-- no two queries are written alike
pub one_query : (a b : Query) → query_before a none ≡ query_before b none → a ≡ b
one_query a b same =
    let x = query_back a none in
    let y = query_back b none in
    let readings_same : x.reading ∷ [] ≡ y.reading ∷ [] = sym x.is ∙ ap readings same ∙ y.is in
    let reading_same : x.reading ≡ y.reading = cc in
    sym x.says ∙ ap (λ (l : Reading). l.query) reading_same ∙ y.says
