-- The claim on the sheet of a table, for every table in which no list is damaged, and so for every one that check finds sound.
use Rattle.std.specs.Prelude.{◌≡◌, true, List, [], ◌∷◌, ◌++◌, ℕ, suc, ◌-◌, ◌*◌, ◌^◌, ◌≤◌, ◌<◌, length, get_or, drop, take, Ok}
use Rattle.std.proofs.Common.{sym, ap, ◌∙◌, arith, mod-lt, length-append, pow_pos, pow_mono}
use borrow.Author.Tests.{eq-eqb, le-leb}
use Rattle.laws.specs.Options.{nothing}
use Rattle.settings.specs.Sizes.{table_bytes}
use Rattle.settings.specs.Legal.{Legal}
use Rattle.settings.specs.Layout.{layout_of}
use Rattle.settings.specs.Reply.{reply}
use Rattle.settings.specs.theory.Legal.{legal_if}
use Rattle.settings.specs.theory.Proper.{layout_proper}
use Rattle.settings.specs.declared.settings.Settings.{Settings}
use Rattle.table.specs.State.{Basic, Overflow, label_of}
use Rattle.table.specs.Follow.{content_of}
use Rattle.table.specs.Calls.{held, check_call}
use Rattle.table.specs.theory.Formed.{All, all_nil, all_cons, all_at, all_take, all_drop, all_append}
use Rattle.table.specs.theory.Sound.{test_sound}
use Rattle.table_cursor.specs.Undamaged.{undamaged}
use Rattle.table_cursor.specs.theory.Undamaged.{test_undamaged, undamaged_test}
use Rattle.plain_set.specs.Rebuilt.{Pair, pair, slots_of, pairs_of, rebuilt_from, rebuilt_pairs}
use Rattle.plain_set.specs.theory.Answers.{sound_opened}
use Rattle.plain_set.proofs.Nth.{record_nth}
use Rattle.text_sheet.specs.Row.{heading, rows}
use Rattle.text_sheet.specs.Pages.{page_count, pairs_on, page_text}
use Rattle.text_sheet.specs.Answers.{page_room, records, page_call}
use Rattle.text_sheet.specs.Claim.{Sheet}
use Rattle.text_sheet.specs.theory.Lines.{heading_length, Labelled, pair_row_length, rows_length}
use Rattle.text_sheet.proofs.Pages.{whole}

-- Labels have at most 32 bits -------------------------------------------------------------------------------------------------

module _ (s : Settings) (right : Legal s) where
  label_small : (x : ℕ) → label_of (layout_of s) x < 2 ^ 32
  label_small x =
      omega (arith, mod-lt x (pow_pos (layout_of s).val), pow_mono (layout_proper s right).val_high)

  labelled_pairs : (i : ℕ) (es : List ℕ) → All Labelled (pairs_of s i es)
  labelled_pairs i [] = all_nil
  labelled_pairs i (x ∷ es) = all_cons (label_small x) (labelled_pairs i es)

  labelled_from : (i : ℕ) (bs : List Basic) (os : List Overflow) → All Labelled (rebuilt_from s i bs os)
  labelled_from i [] os = all_nil
  labelled_from i (b ∷ bs) os =
      all_append (labelled_pairs i (slots_of (content_of (layout_of s) i b os))) (labelled_from (suc i) bs os)

  labelled : (t : List ℕ) → All Labelled (records s t)
  unfolding rebuilt_pairs
  labelled t = labelled_from 0 (held s t).basic (held s t).overflow

-- The pages -------------------------------------------------------------------------------------------------------------------

page_length : (ps : List Pair) → All Labelled ps → (k : ℕ) → length (page_text ps k) ≡ 51 * suc (length (pairs_on ps k))
unfolding page_text pairs_on
page_length ps l k =
    let on : List Pair = take 40 (drop (40 * (k - 1)) ps) in
    omega (arith, length-append heading (rows on), heading_length, rows_length on (all_take 40 (all_drop (40 * (k - 1)) l)))

-- no page is longer than a full one
pub page_fits : (s : Settings) (t : List ℕ) → Legal s → (k : ℕ) → length (page_text (records s t) k) ≤ page_room
page_fits s t right k = omega (arith, page_length (records s t) (labelled s right t) k, (whole (records s t)).most k)

module _ (s : Settings) (t : List ℕ) (right : Legal s) (wide : s.w ≡ 128) (room : table_bytes s ≤ length t) (ends : undamaged (layout_of s) (held s t) ≡ true) where
  page_call_lem : (k : ℕ) (out : List ℕ) → 1 ≤ k → k ≤ page_count (length (records s t)) → page_room ≤ length out
      → let text = page_text (records s t) k in page_call s t k out ≡ reply (Ok (length text)) (text ++ drop (length text) out)
  unfolding page_call
  page_call_lem k out a b r =
      rw (
        legal_if s right,
        le-leb (table_bytes s) (length t) room,
        eq-eqb s.w 128 wide,
        le-leb page_room (length out) r,
        ends,
        le-leb 1 k a,
        le-leb k (page_count (length (records s t))) b,
      )

  pub sheet : Sheet s t
  sheet =
      record {
        whole = whole (records s t);
        order = record_nth s t right room (test_undamaged (layout_of s) t ends);
        row = λ n h. pair_row_length (get_or (records s t) n (pair 0 0)) (all_at (labelled s right t) (pair 0 0) n h);
        page = λ k out a b r.
            page_call_lem k out a b r
            ∙ ap (λ (n : ℕ). reply (Ok n) (page_text (records s t) k ++ drop n out)) (page_length (records s t) (labelled s right t) k);
      }

-- and so of every table for addresses that check finds sound, whatever marks it was lent
pub sound_sheet : (s : Settings) (t m : List ℕ) → s.w ≡ 128 → (check_call s t m).answer ≡ Ok true → Sheet s t
sound_sheet s t m w e =
    let o = sound_opened s t m e in
    sheet s t o.0.right w o.0.room (undamaged_test (layout_of s) t (λ i h n. nothing (sym n ∙ (test_sound (layout_of s) o.1).state.undamaged i h)))
