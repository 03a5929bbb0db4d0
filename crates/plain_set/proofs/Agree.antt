-- The lent bytes and the plain set agree: the bits hold lists of slots that stand for the set. From this follows what the claim says of them.
use Rattle.std.specs.Prelude.{◌≡◌, refl, true, false, List, [], ◌∷◌, ◌++◌, length, get_or, ltb}
use Rattle.std.proofs.Common.{sym, ap₂, ◌∙◌, arith, ltb-true, ltb-false, ne_eqb}
use Rattle.std.proofs.Math.Path.{ap}
use Prim.Native.Nat.{ℕ, suc, ◌+◌, ◌^◌, ◌≤◌, ◌<◌}
use Rattle.laws.specs.Folds.{count}
use Rattle.laws.specs.Cases.{cases, true_both}
use Rattle.bits.specs.Bytes.{Bytes}
use Rattle.settings.specs.declared.settings.Settings.{Settings}
use Rattle.settings.specs.Sizes.{bie, lists, table_bytes}
use Rattle.settings.specs.Legal.{Legal}
use Rattle.settings.specs.Layout.{layout_of}
use Rattle.keys.specs.Key.{entry, list_number, rebuilt}
use Rattle.keys.specs.theory.Keys.{entry_rebuilt, list_rebuilt, rebuilt_below}
use Rattle.table.specs.State.{Basic, Overflow, State, basic_at}
use Rattle.table.specs.Decode.{decode}
use Rattle.table.specs.Follow.{content_of, content}
use Rattle.plain_set.specs.Rebuilt.{Pair, slots_of, pairs_of, rebuilt_from, rebuilt_pairs}
use Rattle.plain_set.specs.Set.{has_key}
use Rattle.plain_set.specs.Same.{NoKeyTwice}
use Rattle.table.specs.Check.{fill_zero, table_sound}
use Rattle.table.specs.theory.Positions.{is_entry}
use Rattle.plain_set.specs.Holds.{Holds}
use Rattle.plain_set.specs.theory.Count.{count_ext, count_none}
use Rattle.plain_set.specs.theory.Rep.{Rep, Stores, Single}
use Rattle.plain_set.specs.theory.Change.{rep_content}
use Rattle.plain_set.specs.theory.Check.{sound_check}
use Rattle.plain_set.specs.theory.Keys.{layout_lists, entry_fits, number_below}
use Rattle.plain_set.specs.theory.Rows.{pairs_from, RowsFit, count_key, count_above}
use Rattle.plain_set.proofs.Lists.{Stands}

-- the bytes t hold the lists T; the lists stand for the set ps; and the fill is zero
pub record Agree (s : Settings) (t : List ℕ) (T : List (List ℕ)) (ps : List Pair) : Type 0 where
  pub bytes : Bytes t
  pub room : table_bytes s ≤ length t
  pub stores : Stores (layout_of s) (decode (layout_of s) t) T
  pub stands : Stands s T ps
  pub fill : fill_zero (layout_of s) t ≡ true

-- The pairs rebuilt from the bits -------------------------------------------------------------------------------------------

-- the pairs from list i on, where following finds the slots of T
rebuilt_slots : (s : Settings) (i : ℕ) (bs : List Basic) (os : List Overflow) (T : List (List ℕ)) → length bs ≡ length T
    → ((j k : ℕ) → j ≡ i + k → k < length bs → slots_of (content_of (layout_of s) j (basic_at bs k) os) ≡ get_or T k [])
    → rebuilt_from s i bs os ≡ pairs_from s i T
rebuilt_slots s i [] os [] l h = refl
rebuilt_slots s i [] os (es ∷ T) l h = absurd (omega arith)
rebuilt_slots s i (b ∷ bs) os [] l h = absurd (omega arith)
rebuilt_slots s i (b ∷ bs) os (es ∷ T) l h =
    ap₂ ◌++◌ (ap (pairs_of s i) (h i 0 (omega arith) (omega arith)))
    (rebuilt_slots s (suc i) bs os T (omega arith) (λ j k e m. h j (suc k) (omega arith) (omega arith)))

-- the pairs rebuilt from a state are those of the lists that it holds
pub rep_rebuilt : (s : Settings) {st : State} {T B : List (List ℕ)} {fs : List ℕ} → Rep (layout_of s) st T B fs
    → rebuilt_pairs s st ≡ pairs_from s 0 T
unfolding rebuilt_pairs content
rep_rebuilt s {st} {T} r =
    rebuilt_slots s 0 st.basic st.overflow T (r.basics ∙ sym r.lists)
    (λ j k e m. let z : j ≡ k = omega arith in rw z (ap slots_of (rep_content r k (omega (arith, r.basics)))))

-- No key twice, and no entry twice in a list ----------------------------------------------------------------------------------

module _ (s : Settings) (legal : Legal s) (T : List (List ℕ)) (long : length T ≡ lists s) (fit : RowsFit s T) where
  -- an entry of list i is a key with that list number
  entry_once : NoKeyTwice (pairs_from s 0 T) → (i : ℕ) → i < lists s → (e : ℕ) → e < 2 ^ bie s → count (is_entry (layout_of s) e) (get_or T i []) ≤ 1
  unfolding lists
  entry_once once i h e l =
      let k : ℕ = rebuilt s i e in
      rw (count_key s T long fit legal k (rebuilt_below legal h l), entry_rebuilt legal h l, list_rebuilt legal h l) at (once k)

  keys_single : NoKeyTwice (pairs_from s 0 T) → (i : ℕ) → i < lists s → Single (layout_of s) (get_or T i [])
  keys_single once i h e =
      cases (ltb e (2 ^ bie s))
      (λ q. entry_once once i h e (ltb-true e (2 ^ bie s) q))
      (λ q.
      let high = ltb-false e (2 ^ bie s) q in
      let none : count (is_entry (layout_of s) e) (get_or T i []) ≡ 0 =
      count_ext (is_entry (layout_of s) e) (λ x. false) (fit i h) (λ x b. ne_eqb _ e (λ z. omega (arith, entry_fits s x b))) ∙ count_none (get_or T i []) in
      omega arith)

  pub single_keys : ((i : ℕ) → i < lists s → Single (layout_of s) (get_or T i [])) → NoKeyTwice (pairs_from s 0 T)
  single_keys single k =
      cases (ltb k (2 ^ s.w))
      (λ q.
      let below = ltb-true k (2 ^ s.w) q in
      rw (count_key s T long fit legal k below) (single (list_number s k) (number_below s legal k below) (entry s k)))
      (λ q. omega (arith, count_above s T long fit legal k (ltb-false k (2 ^ s.w) q)))

-- What the claim says of bytes and set ----------------------------------------------------------------------------------------

module _ (s : Settings) (legal : Legal s) {t : List ℕ} {T : List (List ℕ)} {ps : List Pair} where
  -- where they agree, the pairs rebuilt from the bits are the set, and the table is sound
  pub agree_holds : Agree s t T ps → Holds s t ps
  unfolding table_sound
  agree_holds a = record {
    pairs = λ f. ap (count f) (rep_rebuilt s a.stores.rep) ∙ a.stands.pairs f;
    once = a.stands.once;
    sound =
        true_both
        (sound_check (layout_of s) (decode (layout_of s) t) (record {
          T = T;
          B = a.stores.B;
          fs = a.stores.fs;
          rep = a.stores.rep;
          single = λ i h. keys_single s legal T a.stands.long a.stands.fit once i (rw (layout_lists s) at h);
        }))
        a.fill;
  }
    where
      once : NoKeyTwice (pairs_from s 0 T)
      once k = omega (arith, a.stands.pairs (has_key k), a.stands.once k)
