-- Laws of the plain set: lookup, erase and relabelPair, said by counting.
use Rattle.std.specs.Prelude.{◌≡◌, refl, Bool, true, ◌&&◌, List, [], ◌∷◌, ℕ, ◌+◌, ◌≤◌, ◌<◌, eqb}
use Rattle.std.proofs.Common.{ap, arith, eqb-true}
use Rattle.std.proofs.Math.Option.{none, some}
use Rattle.laws.specs.Folds.{count}
use Rattle.laws.specs.Cases.{cases, both_true}
use Rattle.plain_set.specs.Rebuilt.{Pair, pair}
use Rattle.plain_set.specs.Set.{has_key, lookup, erase, relabel_pair}
use Rattle.plain_set.specs.theory.Count.{one, count_mono}

-- the test for one pair
abbrev pub is_pair : Pair → Pair → Bool
is_pair q p = eqb p.key q.key && eqb p.label q.label

is_pair_key : (q p : Pair) → is_pair q p ≡ true → has_key q.key p ≡ true
is_pair_key q p e = (both_true (eqb p.key q.key) (eqb p.label q.label) e).0

is_pair_label : (q p : Pair) → is_pair q p ≡ true → p.label ≡ q.label
is_pair_label q p e = eqb-true p.label q.label (both_true (eqb p.key q.key) (eqb p.label q.label) e).1

-- a pair is its key and its label
pair_is : (k l : ℕ) (p : Pair) → p.key ≡ k → p.label ≡ l → p ≡ pair k l
pair_is k l p e q = λ i. record { key = e i; label = q i }

-- a key that no pair has is not found
pub lookup_none : (k : ℕ) (ps : List Pair) → count (has_key k) ps ≡ 0 → lookup k ps ≡ none
lookup_none k [] h = refl
lookup_none k (p ∷ ps) h =
    cases (has_key k p) (λ e. absurd (omega (arith, ap one e))) (λ e. rw e (lookup_none k ps (omega (arith, ap one e))))

-- where no key stands twice, a pair of the set is found by its key
pub lookup_some : (k l : ℕ) (ps : List Pair) → count (has_key k) ps ≤ 1 → 0 < count (is_pair (pair k l)) ps → lookup k ps ≡ some l
lookup_some k l [] h g = absurd (omega arith)
lookup_some k l (p ∷ ps) h g =
    cases (is_pair (pair k l) p)
    (λ e. rw (is_pair_key (pair k l) p e) (ap some (is_pair_label (pair k l) p e)))
    (λ e.
    cases (has_key k p)
    (λ d. absurd (omega (arith, ap one e, ap one d, count_mono (is_pair (pair k l)) (has_key k) ps (is_pair_key (pair k l)))))
    (λ d. rw d (lookup_some k l ps (omega (arith, ap one d)) (omega (arith, ap one e)))))

-- erase takes the pair that lookup finds, and no other
pub count_erase : (f : Pair → Bool) (k l : ℕ) (ps : List Pair) → lookup k ps ≡ some l
    → count f ps ≡ one (f (pair k l)) + count f (erase k ps)
count_erase f k l [] h = absurd (let z : ◌≡◌ {A = ℕ} 0 1 = cc in omega arith)
count_erase f k l (p ∷ ps) h =
    cases (has_key k p)
    (λ e.
    let found : some p.label ≡ some l = rw e at h in
    rw e (omega (arith, ap (λ (q : Pair). one (f q)) (pair_is k l p (eqb-true p.key k e) (cc)))))
    (λ e. rw e (omega (arith, count_erase f k l ps (rw e at h))))

-- relabelPair trades the pair that lookup finds for the one with the new label
pub count_relabel : (f : Pair → Bool) (k l m : ℕ) (ps : List Pair) → lookup k ps ≡ some m
    → count f (relabel_pair k l ps) + one (f (pair k m)) ≡ count f ps + one (f (pair k l))
count_relabel f k l m [] h = absurd (let z : ◌≡◌ {A = ℕ} 0 1 = cc in omega arith)
count_relabel f k l m (p ∷ ps) h =
    cases (has_key k p)
    (λ e.
    let found : some p.label ≡ some m = rw e at h in
    rw e (omega (arith, ap (λ (q : Pair). one (f q)) (pair_is k m p (eqb-true p.key k e) (cc)))))
    (λ e. rw e (omega (arith, count_relabel f k l m ps (rw e at h))))
