-- What page comes to once the lists are surveyed: refusal 7, refusal 13, or the page.
use mathlib.Core.Path.{◌≡◌, refl, sym, ap, ap₂, ◌∙◌}
use mathlib.Core.Bool.{Bool, true, false, not, ◌&&◌}
use mathlib.Core.List.{List, [], ◌∷◌, ◌++◌}
use Prim.Native.Nat.{ℕ, ◌+◌, ◌-◌, ◌*◌, ◌^◌, ◌≤◌, ◌<◌}
use native.Mathlib.Omega.{arith}
use native.Mathlib.Decide.{dec_le}
use lib.ListN.{length, take, drop}
use lib.Dec.{leb}
use borrow.Author.Tests.{le-leb, lt-leb, eq-eqb, ne_eqb}
use Rattle.std.specs.Prelude.{Ok, Err}
use Rattle.std.specs.declared.result.Result.{Result}
use Rattle.settings.specs.Layout.{layout_of}
use Rattle.settings.specs.Legal.{legal}
use Rattle.settings.specs.Due.{Due, due, unless_due, width_due}
use Rattle.settings.specs.Reply.{Reply, reply, Gives}
use Rattle.settings.specs.declared.refusal.Refusal.{Refusal}
use Rattle.settings.specs.declared.settings.Settings.{Settings}
use Rattle.settings.specs.declared.layout.Layout.{Layout}
use Rattle.settings.specs.declared.refusal.Refusal.TheVariants as refusal
use Rattle.table.specs.Decode.{decode}
use Rattle.table.specs.Calls.{held}
use Rattle.table.specs.theory.Opened.{due_settings, due_short, due_later}
use Rattle.table_cursor.specs.Undamaged.{undamaged}
use Rattle.table_cursor.specs.Survey.{Counts}
use Rattle.table_cursor.specs.Ahead.{ahead}
use Rattle.table_cursor.specs.theory.Undamaged.{undamaged_test}
use Rattle.table_cursor.specs.declared.places.Cursor.{Cursor}
use Rattle.plain_set.specs.Rebuilt.{Pair, rebuilt_pairs}
use Rattle.text_sheet.specs.Row.{heading, rows}
use Rattle.text_sheet.specs.Pages.{page_count, pairs_on, page_text}
use Rattle.text_sheet.specs.Answers.{page_room, records, damage_due, page_due, page_put, page_call}
use Rattle.text_sheet.specs.Steps.{Lines, page_after}
use Rattle.text_sheet.proofs.Pages.{count_bounds, count_least, count_none}

-- ---- whether there is a page k, by its first record n

abbrev is_page : ℕ → ℕ → Bool
is_page k count = leb 1 k && leb k (page_count count)

is_page_lem : (k count : ℕ) → 1 ≤ k → k ≤ page_count count → is_page k count ≡ true
is_page_lem k count a b = rw (le-leb 1 k a, le-leb k (page_count count) b)

no_page_0 : (k count : ℕ) → k < 1 → is_page k count ≡ false
no_page_0 k count h = rw (lt-leb 1 k h)

no_page : (k count : ℕ) → 1 ≤ k → page_count count < k → is_page k count ≡ false
no_page k count a h = rw (le-leb 1 k a, lt-leb k (page_count count) h)

few_pages : (count : ℕ) → 40 * page_count count ≤ count + 40
few_pages count = pick (dec_le 1 count)
  where
    pick : Dec (1 ≤ count) → 40 * page_count count ≤ count + 40
    pick (yes h) = omega (arith, count_least count h)
    pick (no h) = omega (arith, count_none count (omega arith))

there : (k count n : ℕ) → 1 ≤ k → n ≡ (k - 1) * 40 → (0 < n → n < count) → is_page k count ≡ true
there k count n a e h = is_page_lem k count a (pick (dec_le 2 k))
  where
    pick : Dec (2 ≤ k) → k ≤ page_count count
    pick (yes x) = omega (arith, (count_bounds count).0, h (omega arith))
    pick (no x) = omega (arith, (count_bounds count).1)

not_there : (k count n : ℕ) → 1 ≤ k → n ≡ (k - 1) * 40 → 0 < n → count ≤ n → is_page k count ≡ false
not_there k count n a e h l = no_page k count a (pick (dec_le 1 count))
  where
    pick : Dec (1 ≤ count) → page_count count < k
    pick (yes x) = omega (arith, count_least count x)
    pick (no x) = omega (arith, count_none count (omega arith))

-- a page whose first record has no number of 64 bits
nowhere : (k count : ℕ) → ((1 ≤ k) × ((k - 1) * 40 < 2 ^ 64) → ⊥) → count < 2 ^ 40 → is_page k count ≡ false
nowhere k count far few = pick (dec_le 1 k)
  where
    pick : Dec (1 ≤ k) → is_page k count ≡ false
    pick (yes a) = no_page k count a (pick_far (dec_le (2 ^ 64) ((k - 1) * 40)))
      where
        pick_far : Dec (2 ^ 64 ≤ (k - 1) * 40) → page_count count < k
        pick_far (yes b) = omega (arith, few_pages count)
        pick_far (no b) = absurd (far (a, omega arith))
    pick (no a) = no_page_0 k count (omega arith)

abbrev Answer : Type 0
Answer = Result ℕ Refusal

-- ---- what is answered

module _ (s : Settings) (g : Layout) (t : List ℕ) (laid : layout_of s ≡ g) (k : ℕ) (out : List ℕ) where
  pub damaged : undamaged g (decode g t) ≡ false → Gives (page_after s t k out) (Err refusal.Damage) out
  damaged e =
      let d : undamaged (layout_of s) (held s t) ≡ false = ap (λ (x : Layout). undamaged x (decode x t)) laid ∙ e in
      rw d (record { answer = refl; bytes = refl })

  module _ (n count : ℕ) (c : Cursor) (C : Counts g t n count c) where
    whole : undamaged (layout_of s) (held s t) ≡ true
    whole = ap (λ (x : Layout). undamaged x (decode x t)) laid ∙ undamaged_test g t C.whole

    held_is : rebuilt_pairs s (decode g t) ≡ records s t
    held_is = ap (λ (x : Layout). rebuilt_pairs s (decode x t)) (sym laid)

    counted : length (records s t) ≡ count
    counted = ap (λ (ps : List Pair). length ps) (sym held_is) ∙ C.count s laid

    page_is : n ≡ (k - 1) * 40 → ahead s t c ≡ drop n (rebuilt_pairs s (decode g t)) → heading ++ rows (take 40 (ahead s t c)) ≡ page_text (records s t) k
    unfolding page_text pairs_on
    page_is e a =
        let e′ : n ≡ 40 * (k - 1) = omega arith in
        ap (λ (ps : List Pair). heading ++ rows (take 40 ps)) (a ∙ ap₂ (λ (m : ℕ) (ps : List Pair). drop m ps) e′ held_is)

    no_page_here : is_page k count ≡ false → Gives (page_after s t k out) (Err refusal.Page) out
    no_page_here h =
        let e : is_page k (length (records s t)) ≡ false = ap (is_page k) counted ∙ h in
        rw (whole, e) (record { answer = refl; bytes = refl })

    pub no_number : ((1 ≤ k) × ((k - 1) * 40 < 2 ^ 64) → ⊥) → Gives (page_after s t k out) (Err refusal.Page) out
    no_number far = no_page_here (nowhere k count far C.few)

    pub no_such : (m : ℕ) → 1 ≤ k → m ≡ (k - 1) * 40 → 0 < m → count ≤ m → Gives (page_after s t k out) (Err refusal.Page) out
    no_such m a is h l = no_page_here (not_there k count m a is h l)

    -- the lines of the page's records are the page
    pub put : 1 ≤ k → n ≡ (k - 1) * 40 → (0 < n → n < count) → (r : ℕ) (out' : List ℕ) → Lines (take 40 (ahead s t c)) out out' r → Gives (page_after s t k out) (Ok r) out'
    put a is h r out' L =
        let e : is_page k (length (records s t)) ≡ true = ap (is_page k) counted ∙ there k count n a is h in
        let same : heading ++ rows (take 40 (ahead s t c)) ≡ page_text (records s t) k = page_is is (C.are h s laid) in
        let long : r ≡ length (page_text (records s t) k) = L.end ∙ ap (λ (x : List ℕ). length x) same in
        rw (whole, e) (record { answer = ap Ok long; bytes = L.are ∙ ap₂ (λ (x : List ℕ) (m : ℕ). x ++ drop m out) same long })

-- ---- refusals 1, 2, 3 and 9

gives : {o : Reply Answer} {a : Answer} {u : List ℕ} → o ≡ reply a u → Gives o a u
gives e = rw e (record { answer = refl; bytes = refl })

module _ (s : Settings) (t : List ℕ) (k : ℕ) (out : List ℕ) where
  refuse : Refusal → Reply Answer
  refuse why = reply (Err why) out

  later : List Due
  later = width_due s ∷ due (not (leb page_room (length out))) refusal.Output ∷ damage_due s t ∷ page_due s t k ∷ []

  pub refused_settings : legal s ≡ false → Gives (page_call s t k out) (Err refusal.Settings) out
  unfolding page_call refuse later
  refused_settings h = gives (due_settings refuse s (length t) later (page_put s t k out) h)

  module _ (g : Layout) (is : (legal s ≡ true) × (layout_of s ≡ g)) where
    pub refused_short : length t < g.bytes → Gives (page_call s t k out) (Err refusal.Short) out
    unfolding page_call refuse later
    refused_short l = gives (due_short refuse s (length t) later (page_put s t k out) g is.0 is.1 l)

    module _ (l : g.bytes ≤ length t) where
      opened : page_call s t k out ≡ unless_due later refuse (page_put s t k out)
      unfolding page_call refuse later
      opened = due_later refuse s (length t) later (page_put s t k out) g is.0 is.1 l

      pub refused_width : (s.w ≡ 128 → ⊥) → Gives (page_call s t k out) (Err refusal.Width) out
      unfolding refuse later
      refused_width n = gives (opened ∙ rw (ne_eqb s.w 128 n))

      pub refused_output : s.w ≡ 128 → length out < page_room → Gives (page_call s t k out) (Err refusal.Output) out
      unfolding refuse later
      refused_output w n = gives (opened ∙ rw (eq-eqb s.w 128 w, lt-leb page_room (length out) n))

      pub goes_on : s.w ≡ 128 → page_room ≤ length out → page_call s t k out ≡ page_after s t k out
      unfolding refuse later
      goes_on w n = opened ∙ rw (eq-eqb s.w 128 w, le-leb page_room (length out) n)
