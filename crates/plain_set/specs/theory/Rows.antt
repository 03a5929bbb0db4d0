-- Rows of slots: the pairs that all lists together hold.
use Rattle.std.specs.Prelude.{◌≡◌, refl, ◌≢◌, Bool, true, false, List, [], ◌∷◌, ◌++◌, ℕ, zero, suc, ◌+◌, ◌^◌, ◌≤◌, ◌<◌, length, get_or, set, eqb}
use Rattle.std.proofs.Common.{sym, ap, ◌∙◌, arith, length-set, set-set, get_or-set_same, get_or-set_other, eq-eqb, ne_eqb, eqb-true}
use Rattle.std.proofs.lemmas.Bool.{eqb-false}
use Rattle.laws.specs.Folds.{count}
use Rattle.laws.specs.Cases.{cases}
use Rattle.settings.specs.declared.settings.Settings.{Settings}
use Rattle.settings.specs.Sizes.{lists}
use Rattle.settings.specs.Legal.{Legal}
use Rattle.settings.specs.Layout.{layout_of}
use Rattle.keys.specs.Key.{entry, list_number}
use Rattle.plain_set.specs.Rebuilt.{Pair, pair_of, pairs_of}
use Rattle.plain_set.specs.Set.{has_key, list_length}
use Rattle.table.specs.theory.Formed.{All, Fits}
use Rattle.table.specs.theory.Positions.{is_entry}
use Rattle.plain_set.specs.theory.Count.{count_append, count_ext, count_none, count_every}
use Rattle.plain_set.specs.theory.Keys.{number_below, number_of_slot, key_of_slot_below, key_test}

-- The pairs of all lists -------------------------------------------------------------------------------------------------

module _ (s : Settings) where
  -- the pairs of the lists from number i on
  abbrev pub pairs_from : ℕ → List (List ℕ) → List Pair
  pairs_from i [] = []
  pairs_from i (es ∷ T) = pairs_of s i es ++ pairs_from (suc i) T

  -- every slot of every list fits its bits
  abbrev pub RowsFit : List (List ℕ) → Type 0
  RowsFit T = (i : ℕ) → i < lists s → All (Fits (layout_of s).slot) (get_or T i [])

  count_row : (f : Pair → Bool) (i : ℕ) (es : List ℕ) → count f (pairs_of s i es) ≡ count (λ x. f (pair_of s i x)) es
  count_row f i [] = refl
  count_row f i (x ∷ es) = omega (arith, count_row f i es)

  -- the pairs from list j on are those of one list, and the others
  count_split : (f : Pair → Bool) (j : ℕ) (T : List (List ℕ)) (i : ℕ) → i < length T
      → count f (pairs_from j T) ≡ count f (pairs_of s (j + i) (get_or T i [])) + count f (pairs_from j (set T i []))
  count_split f j [] i h = absurd (omega arith)
  count_split f j (es ∷ T) zero h =
      let e : j + 0 ≡ j = omega arith in
      rw e (count_append f (pairs_of s j es) (pairs_from (suc j) T))
  count_split f j (es ∷ T) (suc i) h =
      let e : suc j + i ≡ j + suc i = omega arith in
      let rest : count f (pairs_from (suc j) T) ≡ count f (pairs_of s (j + suc i) (get_or T i [])) + count f (pairs_from (suc j) (set T i [])) =
      rw e at (count_split f (suc j) T i (omega arith)) in
      simp count_append (omega arith)

  -- a test that no list's pairs pass counts nothing
  count_zero : (f : Pair → Bool) (j : ℕ) (T : List (List ℕ))
      → ((i : ℕ) → i < length T → count f (pairs_of s (j + i) (get_or T i [])) ≡ 0) → count f (pairs_from j T) ≡ 0
  count_zero f j [] h = refl
  count_zero f j (es ∷ T) h =
      let e : j + 0 ≡ j = omega arith in
      let first : count f (pairs_of s j es) ≡ 0 = rw e at (h 0 (omega arith)) in
      let rest : count f (pairs_from (suc j) T) ≡ 0 =
      count_zero f (suc j) T (λ i l. let q : suc j + i ≡ j + suc i = omega arith in rw q (h (suc i) (omega arith))) in
      simp count_append (omega arith)

  -- all pairs are those of list i, and the others
  pub count_at_row : (f : Pair → Bool) (T : List (List ℕ)) (i : ℕ) → i < length T
      → count f (pairs_from 0 T) ≡ count (λ x. f (pair_of s i x)) (get_or T i []) + count f (pairs_from 0 (set T i []))
  count_at_row f T i h =
      let e : 0 + i ≡ i = omega arith in
      omega (arith, count_row f i (get_or T i []), rw e at (count_split f 0 T i h))

  -- a list put in another's place trades its pairs for the other's
  pub count_put : (f : Pair → Bool) (T : List (List ℕ)) (i : ℕ) (es : List ℕ) → i < length T
      → count f (pairs_from 0 (set T i es)) + count (λ x. f (pair_of s i x)) (get_or T i [])
      ≡ count f (pairs_from 0 T) + count (λ x. f (pair_of s i x)) es
  count_put f T i es h =
      let l : i < length (set T i es) = rw length-set h in
      let before = count_at_row f T i h in
      let after : count f (pairs_from 0 (set T i es)) ≡ count (λ x. f (pair_of s i x)) es + count f (pairs_from 0 (set T i [])) =
      rw (get_or-set_same T i es [] h, set-set) at (count_at_row f (set T i es) i l) in
      omega arith

  pub fit_put : (T : List (List ℕ)) (i : ℕ) (es : List ℕ) → i < length T → RowsFit T → All (Fits (layout_of s).slot) es → RowsFit (set T i es)
  fit_put T i es h fit a j l =
      cases (eqb j i)
      (λ q. rw (eqb-true j i q, get_or-set_same T i es [] h) a)
      (λ q. rw (get_or-set_other T i j es [] (eqb-false j i q)) (fit j l))

  module _ (T : List (List ℕ)) (long : length T ≡ lists s) (fit : RowsFit T) where
    -- a test that only pairs of list i pass counts in list i alone
    count_only : (f : Pair → Bool) (i : ℕ) → i < lists s
        → ((j x : ℕ) → j < lists s → Fits (layout_of s).slot x → j ≢ i → f (pair_of s j x) ≡ false)
        → count f (pairs_from 0 T) ≡ count (λ x. f (pair_of s i x)) (get_or T i [])
    count_only f i h off = omega (arith, count_at_row f T i (omega arith), count_zero f 0 (set T i []) others)
      where
        others : (j : ℕ) → j < length (set T i []) → count f (pairs_of s (0 + j) (get_or (set T i []) j [])) ≡ 0
        others j l =
            let e : 0 + j ≡ j = omega arith in
            let high : j < lists s = omega (arith, length-set T i []) in
            rw e
            (cases (eqb j i)
            (λ q. let z : j ≡ i = eqb-true j i q in rw (z, get_or-set_same T i [] [] (omega arith)))
            (λ q.
            rw (get_or-set_other T i j [] [] (eqb-false j i q))
            (count_row f j (get_or T j [])
            ∙ count_ext (λ x. f (pair_of s j x)) (λ x. false) (fit j high) (λ x b. off j x high b (eqb-false j i q))
            ∙ count_none (get_or T j []))))

    module _ (legal : Legal s) where
      -- a key is counted in its list, by its entry
      pub count_key : (k : ℕ) → k < 2 ^ s.w
          → count (has_key k) (pairs_from 0 T) ≡ count (is_entry (layout_of s) (entry s k)) (get_or T (list_number s k) [])
      count_key k h =
          count_only (has_key k) (list_number s k) (number_below s legal k h) off
          ∙ count_ext (λ x. has_key k (pair_of s (list_number s k) x)) (is_entry (layout_of s) (entry s k))
          (fit (list_number s k) (number_below s legal k h))
          (λ x b. key_test s legal k x h b)
        where
          off : (j x : ℕ) → j < lists s → Fits (layout_of s).slot x → j ≢ list_number s k → has_key k (pair_of s j x) ≡ false
          off j x l b ne = ne_eqb _ k (λ e. ne (sym (number_of_slot s legal j x l b) ∙ ap (list_number s) e))

      -- a number that is no key is counted nowhere
      pub count_above : (k : ℕ) → 2 ^ s.w ≤ k → count (has_key k) (pairs_from 0 T) ≡ 0
      count_above k h = count_zero (has_key k) 0 T none
        where
          none : (j : ℕ) → j < length T → count (has_key k) (pairs_of s (0 + j) (get_or T j [])) ≡ 0
          none j l =
              let e : 0 + j ≡ j = omega arith in
              let high : j < lists s = omega arith in
              rw e
              (count_row (has_key k) j (get_or T j [])
              ∙ count_ext (λ x. has_key k (pair_of s j x)) (λ x. false) (fit j high)
              (λ x b. ne_eqb _ k (λ q. omega (arith, key_of_slot_below s legal j x high b)))
              ∙ count_none (get_or T j []))

      -- clause 8.8: how many keys of the set have this list's number
      pub count_list : (i : ℕ) → i < lists s → list_length s (pairs_from 0 T) i ≡ length (get_or T i [])
      count_list i h =
          count_only (λ p. eqb (list_number s p.key) i) i h
          (λ j x l b ne. ne_eqb _ i (λ e. ne (sym (number_of_slot s legal j x l b) ∙ e)))
          ∙ count_ext (λ x. eqb (list_number s (pair_of s i x).key) i) (λ x. true) (fit i h)
          (λ x b. eq-eqb _ i (number_of_slot s legal i x h b))
          ∙ count_every (get_or T i [])
