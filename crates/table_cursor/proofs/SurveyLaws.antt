-- Laws of the survey: what is known behind the first i lists, and what list i adds.
use mathlib.Core.Path.{◌≡◌, refl, sym, ap, ◌∙◌}
use mathlib.Core.Logic.{◌≢◌}
use mathlib.Core.Bool.{Bool, true, false, ◌&&◌}
use mathlib.Core.List.{List, [], ◌∷◌}
use mathlib.Core.Option.{Option, none, some}
use Prim.Native.Nat.{ℕ, zero, suc, ◌+◌, ◌-◌, ◌*◌, ◌^◌, ◌≤◌, ◌<◌}
use native.Mathlib.Omega.{arith}
use native.Mathlib.Nat.{add-zero, zero-add}
use native.Mathlib.Numerals.{add-one}
use native.Mathlib.Decide.{dec_le}
use lib.ListN.{length, drop, length-append}
use lib.Seq.{drop-drop, drop_at}
use lib.Dec.{leb, ltb}
use borrow.Author.Tests.{leb-true, ltb-true, le-leb, lt-ltb}
use Rattle.std.specs.Prelude.{Ok, Err}
use Rattle.laws.specs.Cases.{both_true, true_both, never}
use Rattle.laws.specs.Options.{nothing}
use Rattle.settings.specs.Layout.{layout_of}
use Rattle.settings.specs.declared.settings.Settings.{Settings}
use Rattle.settings.specs.declared.layout.Layout.{Layout}
use Rattle.table.specs.Decode.{decode}
use Rattle.table.specs.Table.{Table}
use Rattle.table.specs.Follow.{Content, content}
use Rattle.table.specs.declared.damage.Damage.{Damage}
use Rattle.plain_set.specs.Rebuilt.{Pair, slots_of, pairs_of}
use Rattle.table_cursor.specs.Ahead.{pairs_from, Before}
use Rattle.table_cursor.specs.Survey.{list_length, Counts}
use Rattle.table_cursor.specs.theory.Pairs.{pairs_on_lem, pairs_end, pairs_all}
use Rattle.table_cursor.proofs.LengthLaws.{not_damage, entries_are, list_few}
use Rattle.table_cursor.specs.declared.places.Cursor.{Cursor}

-- the first i lists are whole, and have count entries
pub record Passed (g : Layout) (t : List ℕ) (count i : ℕ) : Type 0 where
  pub within : i ≤ g.lists
  pub whole : (j : ℕ) → j < i → content g (decode g t) j ≢ none
  pub few : count ≤ i * 2 ^ 20
  pub long : (s : Settings) → layout_of s ≡ g → length (pairs_from s t 0) ≡ count + length (pairs_from s t i)
  pub rest : (s : Settings) → layout_of s ≡ g → drop count (pairs_from s t 0) ≡ pairs_from s t i

-- record n, if it is one of the first count or n is 0, is entry m of list p
pub record Stands (g : Layout) (t : List ℕ) (n count p m : ℕ) : Type 0 where
  pub list : p < g.lists
  pub entry : m ≤ length (slots_of (content g (decode g t) p))
  pub are : (0 < n → n < count) → (s : Settings) → layout_of s ≡ g → drop n (pairs_from s t 0) ≡ drop m (pairs_from s t p)

-- ---- one list

pub damaged_none : (o : Option Content) {d : Damage} → list_length o ≡ Err d → o ≡ none
damaged_none none e = refl
damaged_none (some v) e = not_damage (sym e)

-- it has an end, and k entries
record Whole (o : Option Content) (k : ℕ) : Type 0 where
  end : o ≢ none
  slots : length (slots_of o) ≡ k

whole_of : (o : Option Content) {k : ℕ} → list_length o ≡ Ok k → Whole o k
whole_of none e = not_damage e
whole_of (some v) e = record { end = λ n. nothing (sym n); slots = entries_are e }

length_pairs : (s : Settings) (i : ℕ) (es : List ℕ) → length (pairs_of s i es) ≡ length es
length_pairs s i [] = refl
length_pairs s i (x ∷ es) = ap suc (length_pairs s i es)

module _ (g : Layout) (t : List ℕ) (T : Table g t) where
  -- ---- before the first list

  pub passed_none : Passed g t 0 0
  passed_none =
      record {
        within = omega arith;
        whole = λ j h. absurd (omega arith);
        few = omega arith;
        long = λ s laid. sym (zero-add (length (pairs_from s t 0)));
        rest = λ s laid. refl;
      }

  pub stands_first : (n : ℕ) → Stands g t n 0 0 0
  stands_first n =
      record {
        list = omega (arith, T.proper.lists_low);
        entry = omega arith;
        are = λ h s laid. ap (λ (x : ℕ). drop x (pairs_from s t 0)) (first_is n h);
      }
    where
      first_is : (x : ℕ) → (0 < x → x < 0) → x ≡ 0
      first_is zero h = refl
      first_is (suc x) h = absurd (omega (arith, h (omega arith)))

  -- ---- list i, which has k entries

  module _ (count i k : ℕ) (P : Passed g t count i) (low : i < g.lists) (is : list_length (content g (decode g t) i) ≡ Ok k) where
    abbrev o : Option Content
    o = content g (decode g t) i

    pub passed_on : Passed g t (count + k) (i + 1)
    passed_on =
        let w = whole_of o is in
        record {
          within = omega arith;
          whole = λ j h. pick j h (dec_le i j);
          few = omega (arith, P.few, list_few g t T i k is);
          long = λ s laid.
              let e = P.long s laid in
              let f = ap (λ (ps : List Pair). length ps) (pairs_on_lem g t s laid i low) ∙ length-append (pairs_of s i (slots_of o)) (pairs_from s t (suc i)) in
              let d = length_pairs s i (slots_of o) in
              rw (add-one i) (omega (arith, w.slots));
          rest = λ s laid.
              sym (drop-drop k count (pairs_from s t 0))
              ∙ ap (drop k) (P.rest s laid ∙ pairs_on_lem g t s laid i low)
              ∙ drop_at (pairs_of s i (slots_of o)) (pairs_from s t (suc i)) k (length_pairs s i (slots_of o) ∙ w.slots)
              ∙ ap (pairs_from s t) (sym (add-one i));
        }
      where
        pick : (j : ℕ) → j < i + 1 → Dec (i ≤ j) → content g (decode g t) j ≢ none
        pick j h (yes l) = let z : i ≡ j = omega arith in rw z at (whole_of o is).end
        pick j h (no l) = P.whole j (omega arith)

    module _ (n : ℕ) where
      -- whether record n is in it
      abbrev in_list : Bool
      in_list = leb count n && ltb n (count + k)

      pub stands_here : (p m : ℕ) → in_list ≡ true → p ≡ i → m ≡ n - count → Stands g t n (count + k) p m
      stands_here p m q ep em =
          let b = both_true (leb count n) (ltb n (count + k)) q in
          let l = leb-true count n b.0 in
          let h = ltb-true n (count + k) b.1 in
          rw (ep, em)
          (record {
            list = low;
            entry = omega (arith, (whole_of o is).slots);
            are = λ r s laid.
                let z : n ≡ count + (n - count) = omega arith in
                ap (λ (x : ℕ). drop x (pairs_from s t 0)) z
                ∙ sym (drop-drop (n - count) count (pairs_from s t 0))
                ∙ ap (drop (n - count)) (P.rest s laid);
          })

      pub stands_still : (p m p₀ m₀ : ℕ) → Stands g t n count p₀ m₀ → in_list ≡ false → p ≡ p₀ → m ≡ m₀ → Stands g t n (count + k) p m
      stands_still p m p₀ m₀ S q ep em =
          rw (ep, em) (record { list = S.list; entry = S.entry; are = λ r s laid. S.are (λ z. before (r z) (dec_le count n)) s laid })
        where
          before : n < count + k → Dec (count ≤ n) → n < count
          before h (yes l) = never (sym q ∙ true_both (le-leb count n l) (lt-ltb n (count + k) h))
          before h (no l) = omega arith

  -- ---- behind the last list, with a cursor before entry m of list p

  pub all_passed : (n count i p m : ℕ) (c : Cursor) → Passed g t count i → Stands g t n count p m → g.lists ≤ i → Before g t p m c → Counts g t n count c
  all_passed n count i p m c P S out B =
      record {
        whole = λ j h. P.whole j (omega arith);
        few = omega (arith, P.few, P.within, T.proper.lists_high);
        count = λ s laid.
            ap (λ (ps : List Pair). length ps) (sym (pairs_all g t s laid))
            ∙ P.long s laid
            ∙ ap (λ (ps : List Pair). count + length ps) (pairs_end g t s laid i out)
            ∙ add-zero count;
        good = B.good;
        are = λ h s laid. B.are s laid ∙ sym (S.are h s laid) ∙ ap (drop n) (pairs_all g t s laid);
      }
