-- The table as its lists of slots, without block numbers: the level between the plain set and the table's fields.
use Rattle.std.specs.Prelude.{◌≡◌, refl, Bool, true, false, ◌&&◌, List, [], ◌∷◌, ◌++◌, ℕ, ◌^◌, ◌<◌, length, get_or, set, eqb}
use Rattle.std.proofs.Common.{sym, ◌∙◌, subst, arith, length-set, eq-eqb, eqb-true, ltb-true, ltb-false}
use Rattle.std.proofs.Math.Path.{ap}
use Rattle.std.proofs.Math.Option.{none, some}
use Rattle.std.proofs.lemmas.List.{set-get_or}
use Rattle.laws.specs.Folds.{count}
use Rattle.laws.specs.Cases.{cases}
use Rattle.laws.specs.Sums.{sum_ext}
use Rattle.settings.specs.declared.settings.Settings.{Settings}
use Rattle.settings.specs.Sizes.{lists}
use Rattle.settings.specs.Legal.{Legal}
use Rattle.settings.specs.Layout.{layout_of}
use Rattle.keys.specs.Key.{entry, list_number}
use Rattle.table.specs.State.{entry_of, label_of}
use Rattle.plain_set.specs.Rebuilt.{Pair, pair, pair_of}
use Rattle.table.specs.Calls.{Verb, find, enter, relabel, delete, verb_due}
use Rattle.plain_set.specs.Set.{has_key, lookup, erase, relabel_pair, Step, blocks_used, list_length, no_vacant_slot, blocks_needed, all_blocks_used, key_step}
use Rattle.table.specs.theory.Formed.{all_nil, all_cons, all_append, all_set}
use Rattle.plain_set.specs.theory.Count.{one, count_append, count_at, count_set}
use Rattle.plain_set.specs.theory.Use.{blocks_for, used_by, no_room}
use Rattle.plain_set.specs.theory.Keys.{slot_fits, slot_entry, slot_label, number_below, key_of_entry}
use Rattle.plain_set.specs.Same.{SamePairs, NoKeyTwice}
use Rattle.table.specs.theory.Positions.{position_held, position_none}
use Rattle.plain_set.specs.theory.SetLaws.{is_pair, lookup_none, lookup_some, count_erase, count_relabel}
use Rattle.plain_set.specs.theory.Swap.{swap_out, count_swap, all_swap}
use Rattle.plain_set.specs.theory.Rows.{pairs_from, RowsFit, count_at_row, count_put, fit_put, count_key, count_list}
use Rattle.plain_set.specs.theory.OneList.{Told, in_row, place_in, label_in, slot_for, row_told, row_after}
use Rattle.settings.specs.theory.Dues.{NoneDue}
use Rattle.plain_set.proofs.Refusals.{label_below}

-- A call on the lists ----------------------------------------------------------------------------------------------------

module _ (s : Settings) (T : List (List ℕ)) (k : ℕ) where
  -- the slots of the key's list
  abbrev pub row_of : List ℕ
  row_of = get_or T (list_number s k) []

  -- is the key in the lists
  abbrev pub holds_key : Bool
  holds_key = in_row s k row_of

  -- then its entry stands in its place
  pub place_there : holds_key ≡ true → place_in s k row_of < length row_of
  place_there e = ltb-true _ _ e

  pub place_entry : holds_key ≡ true → entry_of (layout_of s) (get_or row_of (place_in s k row_of) 0) ≡ entry s k
  place_entry e = eqb-true _ _ (position_held (layout_of s) (entry s k) row_of 0 (place_there e))

  -- the key's list has no vacant slot, and no block is free
  abbrev pub is_full : Bool
  is_full = no_room (layout_of s) T (list_number s k)

  -- what the call with the key is told, and the lists after it: its own list's slots say both
  abbrev pub lists_told : Verb → Told
  lists_told v = row_told s v k row_of is_full

  abbrev pub lists_after : Verb → List (List ℕ)
  lists_after v = set T (list_number s k) (row_after s v k row_of is_full)

-- The lists stand for a set ----------------------------------------------------------------------------------------------

-- as many lists as the settings say, each slot in its bits; the pairs rebuilt from them are those of the set, which has no key twice
pub record Stands (s : Settings) (T : List (List ℕ)) (ps : List Pair) : Type 0 where
  pub long : length T ≡ lists s
  pub fit : RowsFit s T
  pub pairs : SamePairs (pairs_from s 0 T) ps
  pub once : NoKeyTwice ps

-- what is told, and the lists after it, beside a step of the set: the same answer, and the lists after it stand for the set after it
pub record Agrees (s : Settings) (x : Told) (U : List (List ℕ)) (b : Step) : Type 0 where
  pub answers : x.answer ≡ b.answer
  pub stands : Stands s U b.after

module _ (s : Settings) (legal : Legal s) (T : List (List ℕ)) (ps : List Pair) (w : Stands s T ps) where
  -- the length rule: set and lists count the same slots and the same blocks
  length_same : (i : ℕ) → i < lists s → list_length s ps i ≡ length (get_or T i [])
  length_same i h = sym (w.pairs (λ p. eqb (list_number s p.key) i)) ∙ count_list s T w.long w.fit legal i h

  used_same : blocks_needed s ps ≡ used_by (layout_of s) T
  unfolding blocks_used blocks_for layout_of
  used_same =
      sum_ext (lists s) (λ i. blocks_used s (list_length s ps i)) (λ i. blocks_used s (length (get_or T i [])))
      (λ i h. ap (blocks_used s) (length_same i h))

  -- a legal key
  module _ (k : ℕ) (ok : k < 2 ^ s.w) where
    in_lists : list_number s k < length T
    in_lists = omega (arith, w.long, number_below s legal k ok)

    -- the pair of a slot with the key's entry
    pair_there : (x : ℕ) → entry_of (layout_of s) x ≡ entry s k → pair_of s (list_number s k) x ≡ pair k (label_of (layout_of s) x)
    pair_there x e = ap (λ (n : ℕ). pair n (label_of (layout_of s) x)) (key_of_entry s legal k x ok e)

    -- the label of such a slot in the key's list is the key's
    pub lookup_at : (p : ℕ) → p < length (row_of s T k) → entry_of (layout_of s) (get_or (row_of s T k) p 0) ≡ entry s k
        → lookup k ps ≡ some (label_of (layout_of s) (get_or (row_of s T k) p 0))
    lookup_at p l e =
        let x : ℕ = get_or (row_of s T k) p 0 in
        let q : Pair = pair k (label_of (layout_of s) x) in
        let self : is_pair q q ≡ true = rw (eq-eqb k k refl, eq-eqb (label_of (layout_of s) x) (label_of (layout_of s) x) refl) in
        let found =
        count_at (λ y. is_pair q (pair_of s (list_number s k) y)) (row_of s T k) p 0 l (ap (is_pair q) (pair_there x e) ∙ self) in
        lookup_some k (label_of (layout_of s) x) ps (w.once k)
        (omega (arith, w.pairs (is_pair q), count_at_row s (is_pair q) T (list_number s k) in_lists))

    -- the pair at the place of the key's entry
    pair_held : holds_key s T k ≡ true
        → pair_of s (list_number s k) (get_or (row_of s T k) (place_in s k (row_of s T k)) 0) ≡ pair k (label_in s k (row_of s T k))
    pair_held e = pair_there (get_or (row_of s T k) (place_in s k (row_of s T k)) 0) (place_entry s T k e)

    lookup_held : holds_key s T k ≡ true → lookup k ps ≡ some (label_in s k (row_of s T k))
    lookup_held e = lookup_at (place_in s k (row_of s T k)) (place_there s T k e) (place_entry s T k e)

    none_there : holds_key s T k ≡ false → count (has_key k) ps ≡ 0
    none_there e =
        sym (w.pairs (has_key k)) ∙ count_key s T w.long w.fit legal k ok
        ∙ position_none (layout_of s) (entry s k) (row_of s T k) (ltb-false _ _ e)

    lookup_free : holds_key s T k ≡ false → lookup k ps ≡ none
    lookup_free e = lookup_none k ps (none_there e)

    -- clause 8.7: the list has no vacant slot, and all blocks are used
    full_same : no_vacant_slot s (list_length s ps (list_number s k)) && all_blocks_used s ps ≡ is_full s T k
    unfolding blocks_used blocks_for layout_of
    full_same = rw (length_same (list_number s k) (number_below s legal k ok), used_same)

    -- the pair of the slot of key and label
    pair_new : (l : ℕ) → l < 2 ^ s.val → pair_of s (list_number s k) (slot_for s k l) ≡ pair k l
    pair_new l high = pair_there (slot_for s k l) (slot_entry s k l high) ∙ ap (pair k) (slot_label s k l high)

    stands_enter : (l : ℕ) → l < 2 ^ s.val → holds_key s T k ≡ false → Stands s (set T (list_number s k) (row_of s T k ++ slot_for s k l ∷ [])) (pair k l ∷ ps)
    stands_enter l high e =
        record {
          long = simp length-set w.long;
          fit = fit_put s T (list_number s k) (row_of s T k ++ x ∷ []) in_lists w.fit
              (all_append (w.fit (list_number s k) (number_below s legal k ok)) (all_cons (slot_fits s k l high) all_nil));
          pairs = λ f.
              omega (
                arith,
                count_put s f T (list_number s k) (row_of s T k ++ x ∷ []) in_lists,
                count_append (λ y. f (pair_of s (list_number s k) y)) (row_of s T k) (x ∷ []),
                w.pairs f,
                ap (λ (p : Pair). one (f p)) (pair_new l high),
              );
          once = λ j.
              cases (eqb k j)
              (λ q. omega (arith, ap one q, ap (λ (n : ℕ). count (has_key n) ps) (eqb-true k j q), none_there e))
              (λ q. omega (arith, ap one q, w.once j));
        }
      where
        x : ℕ
        x = slot_for s k l

    stands_relabel : (l : ℕ) → l < 2 ^ s.val → holds_key s T k ≡ true
        → Stands s (set T (list_number s k) (set (row_of s T k) (place_in s k (row_of s T k)) (slot_for s k l))) (relabel_pair k l ps)
    stands_relabel l high e =
        record {
          long = simp length-set w.long;
          fit = fit_put s T (list_number s k) (set es p x) in_lists w.fit
              (all_set (w.fit (list_number s k) (number_below s legal k ok)) p (slot_fits s k l high));
          pairs = λ f.
              omega (
                arith,
                count_put s f T (list_number s k) (set es p x) in_lists,
                count_set (λ y. f (pair_of s (list_number s k) y)) es p x 0 (place_there s T k e),
                count_relabel f k l (label_in s k es) ps (lookup_held e),
                ap (λ (q : Pair). one (f q)) (pair_held e),
                ap (λ (q : Pair). one (f q)) (pair_new l high),
                w.pairs f,
              );
          once = λ j. omega (arith, count_relabel (has_key j) k l (label_in s k es) ps (lookup_held e), w.once j);
        }
      where
        es : List ℕ
        es = row_of s T k

        p : ℕ
        p = place_in s k es

        x : ℕ
        x = slot_for s k l

    stands_delete : holds_key s T k ≡ true → Stands s (set T (list_number s k) (swap_out (row_of s T k) (place_in s k (row_of s T k)))) (erase k ps)
    stands_delete e =
        record {
          long = simp length-set w.long;
          fit = fit_put s T (list_number s k) (swap_out es p) in_lists w.fit
              (all_swap p (place_there s T k e) (w.fit (list_number s k) (number_below s legal k ok)));
          pairs = λ f.
              omega (
                arith,
                count_put s f T (list_number s k) (swap_out es p) in_lists,
                count_swap (λ y. f (pair_of s (list_number s k) y)) es p (place_there s T k e),
                count_erase f k (label_in s k (row_of s T k)) ps (lookup_held e),
                ap (λ (q : Pair). one (f q)) (pair_held e),
                w.pairs f,
              );
          once = λ j. omega (arith, count_erase (has_key j) k (label_in s k (row_of s T k)) ps (lookup_held e), w.once j);
        }
      where
        es : List ℕ
        es = row_of s T k

        p : ℕ
        p = place_in s k es

    -- the lists as they are
    stands_kept : Stands s (set T (list_number s k) (row_of s T k)) ps
    stands_kept = subst (λ (U : List (List ℕ)). Stands s U ps) (sym (set-get_or T (list_number s k) [])) w

    -- the call with a legal key: the key's list tells what the set answers, and the lists still stand for the set
    pub call_agrees : (v : Verb) → NoneDue (verb_due s v) → Agrees s (lists_told s T k v) (lists_after s T k v) (key_step s ps v k)
    unfolding row_told row_after
    call_agrees find d =
        cases (holds_key s T k)
        (λ e. rw (e, lookup_held e) record { answers = refl; stands = stands_kept })
        (λ e. rw (e, lookup_free e) record { answers = refl; stands = stands_kept })
    call_agrees (enter l) d =
        cases (holds_key s T k)
        (λ e. rw (e, lookup_held e) record { answers = refl; stands = stands_kept })
        (λ e.
        rw (e, lookup_free e, full_same)
        (cases (is_full s T k)
        (λ q. rw q record { answers = refl; stands = stands_kept })
        (λ q. rw q record { answers = refl; stands = stands_enter l (label_below s l d) e })))
    call_agrees (relabel l) d =
        cases (holds_key s T k)
        (λ e. rw (e, lookup_held e) record { answers = refl; stands = stands_relabel l (label_below s l d) e })
        (λ e. rw (e, lookup_free e) record { answers = refl; stands = stands_kept })
    call_agrees delete d =
        cases (holds_key s T k)
        (λ e. rw (e, lookup_held e) record { answers = refl; stands = stands_delete e })
        (λ e. rw (e, lookup_free e) record { answers = refl; stands = stands_kept })
