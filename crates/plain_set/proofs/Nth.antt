-- Record n of a table without damage is the nth of the pairs that are rebuilt from it, and beyond the last it is "none".
use Rattle.std.specs.Prelude.{◌≡◌, ◌≢◌, true, ℕ, zero, suc, ◌+◌, ◌-◌, ◌≤◌, ◌<◌, get_or, ltb, None, Ok}
use Rattle.std.proofs.Math.Path.{refl, sym}
use Rattle.std.proofs.Common.{ap, ◌∙◌}
use mathlib.Core.List.{List, [], ◌∷◌, ◌++◌}
use Rattle.std.proofs.Math.Option.{Option, none, some}
use native.Mathlib.Omega.{arith}
use Rattle.std.proofs.Math.ListN.{length}
use borrow.Author.Tests.{ltb-true, ltb-false, le-leb}
use Rattle.laws.specs.Cases.{cases}
use Rattle.laws.specs.Options.{nothing}
use Rattle.settings.specs.declared.settings.Settings.{Settings}
use Rattle.settings.specs.Sizes.{table_bytes}
use Rattle.settings.specs.Legal.{Legal}
use Rattle.settings.specs.Layout.{layout_of}
use Rattle.settings.specs.theory.Legal.{legal_if}
use Rattle.table.specs.State.{Basic, Overflow, basic_at}
use Rattle.table.specs.Decode.{decode}
use Rattle.table.specs.Follow.{Content, content_of, content}
use Rattle.table.specs.Record.{record_of, record_from, record_in}
use Rattle.plain_set.specs.Rebuilt.{Pair, pair, pairs_of, rebuilt_from, rebuilt_pairs}
use Rattle.table.specs.Calls.{record_call, check_call}
use Rattle.table.specs.Check.{table_sound}
use Rattle.table.specs.theory.Formed.{decode_formed}
use Rattle.table.specs.theory.Sound.{test_sound}
use Rattle.plain_set.specs.Nth.{record_of_pair, nth_record, Undamaged}
use Rattle.plain_set.specs.theory.Answers.{sound_opened}

-- The nth of some pairs --------------------------------------------------------------------------------------------------------

pub nth_pair : (ps : List Pair) (n : ℕ) → n < length ps → nth_record ps n ≡ record_of_pair (get_or ps n (pair 0 0))
nth_pair [] n h = absurd (omega arith)
nth_pair (p ∷ ps) zero h = refl
nth_pair (p ∷ ps) (suc n) h = nth_pair ps n (omega arith)

pub nth_none : (ps : List Pair) (n : ℕ) → length ps ≤ n → nth_record ps n ≡ (Ok None)
nth_none [] n h = refl
nth_none (p ∷ ps) zero h = absurd (omega arith)
nth_none (p ∷ ps) (suc n) h = nth_none ps n (omega arith)

module _ (s : Settings) where
  -- the pairs of one list, and those behind them
  row_here : (i : ℕ) (es : List ℕ) (ps : List Pair) (n : ℕ) → n < length es → nth_record (pairs_of s i es ++ ps) n ≡ record_of s i (get_or es n 0)
  row_here i [] ps n h = absurd (omega arith)
  row_here i (x ∷ es) ps zero h = refl
  row_here i (x ∷ es) ps (suc n) h = row_here i es ps n (omega arith)

  row_past : (i : ℕ) (es : List ℕ) (ps : List Pair) (n : ℕ) → length es ≤ n
      → nth_record (pairs_of s i es ++ ps) n ≡ nth_record ps (n - length es)
  row_past i [] ps n h = let e : n ≡ n - 0 = omega arith in ap (nth_record ps) e
  row_past i (x ∷ es) ps zero h = absurd (omega arith)
  row_past i (x ∷ es) ps (suc n) h =
      let e : n - length es ≡ suc n - suc (length es) = omega arith in
      row_past i es ps n (omega arith) ∙ ap (nth_record ps) e

  -- The lists from list i on, each without damage ------------------------------------------------------------------------------

  record Each (i : ℕ) (bs : List Basic) (os : List Overflow) : Type 0 where
    undamaged : (j k : ℕ) → j ≡ i + k → k < length bs → content_of (layout_of s) j (basic_at bs k) os ≢ none

  nth_from : (i : ℕ) (bs : List Basic) (os : List Overflow) → Each i bs os → (n : ℕ)
      → record_from s i bs os n ≡ nth_record (rebuilt_from s i bs os) n
  unfolding record_from
  nth_from i [] os U n = refl
  nth_from i (b ∷ bs) os U n =
      go (content_of (layout_of s) i b os) refl (U.undamaged i 0 (omega arith) (omega arith))
      (λ m. nth_from (suc i) bs os (record { undamaged = λ j k e h. U.undamaged j (suc k) (omega arith) (omega arith) }) m)
    where
      go : (o : Option Content) → content_of (layout_of s) i b os ≡ o → o ≢ none
          → ((m : ℕ) → record_from s (suc i) bs os m ≡ nth_record (rebuilt_from s (suc i) bs os) m)
          → record_from s i (b ∷ bs) os n ≡ nth_record (rebuilt_from s i (b ∷ bs) os) n
      go none e u on = absurd (u refl)
      go (some v) e u on =
          cases (ltb n (length v.slots))
          (λ p. rw (e, p) (sym (row_here i v.slots (rebuilt_from s (suc i) bs os) n (ltb-true n (length v.slots) p))))
          (λ p.
          rw (e, p)
          (on (n - length v.slots) ∙ sym (row_past i v.slots (rebuilt_from s (suc i) bs os) n (ltb-false n (length v.slots) p))))

-- The call -----------------------------------------------------------------------------------------------------------------------

module _ (s : Settings) (t : List ℕ) where
  record_in_nth : Undamaged (layout_of s) (decode (layout_of s) t) → (n : ℕ)
      → record_in s (decode (layout_of s) t) n ≡ nth_record (rebuilt_pairs s (decode (layout_of s) t)) n
  unfolding record_in rebuilt_pairs content
  record_in_nth u n =
      nth_from s 0 (decode (layout_of s) t).basic (decode (layout_of s) t).overflow
      (record {
        undamaged = λ j k e h. let z : j ≡ k = omega arith in rw z (u k (omega (arith, (decode_formed (layout_of s) t).basic.long)));
      }) n

  -- clause 6.9, on every table without damage
  pub record_nth : Legal s → table_bytes s ≤ length t → Undamaged (layout_of s) (decode (layout_of s) t) → (n : ℕ)
      → record_call s t n ≡ nth_record (rebuilt_pairs s (decode (layout_of s) t)) n
  unfolding record_call
  record_nth right room u n = rw (legal_if s right, le-leb (table_bytes s) (length t) room) (record_in_nth u n)

  undamaged : table_sound (layout_of s) t ≡ true → Undamaged (layout_of s) (decode (layout_of s) t)
  undamaged e i h n = nothing (sym n ∙ (test_sound (layout_of s) e).state.undamaged i h)

  -- and so on every table that check finds sound, whatever marks it was lent
  pub sound_record_nth : (m : List ℕ) → (check_call s t m).answer ≡ Ok true → (n : ℕ)
      → record_call s t n ≡ nth_record (rebuilt_pairs s (decode (layout_of s) t)) n
  sound_record_nth m e n = let o = sound_opened s t m e in record_nth o.0.right o.0.room (undamaged o.1) n
