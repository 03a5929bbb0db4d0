-- Where the claim starts: the empty set agrees with a new table, and the pairs rebuilt from the bits with one that check finds sound.
use Rattle.std.specs.Prelude.{◌≡◌, true, List, [], ◌++◌, ℕ, zero, suc, ◌-◌, ◌*◌, ◌≤◌, length, drop, replicate}
use Rattle.std.proofs.Math.Path.{refl}
use Rattle.std.proofs.Common.{sym, ap, ◌∙◌, arith, length-append}
use Rattle.std.proofs.lemmas.List.{length-replicate}
use borrow.Author.Tests.{le-leb, eq-eqb}
use Rattle.laws.specs.Folds.{count}
use Rattle.laws.specs.Cases.{both_true}
use Rattle.laws.specs.Lists.{replicate_at}
use Rattle.bits.specs.Bytes.{Bytes}
use Rattle.bits.specs.theory.Fields.{zero_field}
use Rattle.settings.specs.declared.settings.Settings.{Settings}
use Rattle.settings.specs.Sizes.{lists, table_bytes}
use Rattle.settings.specs.Legal.{legal, Legal}
use Rattle.settings.specs.Layout.{layout_of}
use Rattle.settings.specs.theory.Legal.{legal_if}
use Rattle.settings.specs.theory.Proper.{layout_proper}
use Rattle.table.specs.Decode.{decode}
use Rattle.table.specs.New.{new_bytes}
use Rattle.table.specs.Calls.{make_call}
use Rattle.plain_set.specs.Rebuilt.{rebuilt_pairs}
use Rattle.table.specs.Check.{state_sound, fill_zero, table_sound}
use Rattle.table.specs.theory.Formed.{all_nil, decode_formed}
use Rattle.table.specs.theory.FormedCalls.{new_formed}
use Rattle.plain_set.specs.theory.New.{up_from, new_rep}
use Rattle.plain_set.specs.theory.Checked.{check_sound}
use Rattle.plain_set.specs.theory.Keys.{layout_lists}
use Rattle.plain_set.specs.theory.Rows.{pairs_from, RowsFit}
use Rattle.plain_set.proofs.Lists.{Stands}
use Rattle.plain_set.proofs.Agree.{Agree, rep_rebuilt, single_keys}
use Rattle.plain_set.proofs.Stored.{agree_written}
use Rattle.plain_set.proofs.Longer.{bytes_append, bytes_drop, fill_append}

-- A sound table ---------------------------------------------------------------------------------------------------------------

-- clause 8.2, beside a table that check finds sound
pub sound_agree : (s : Settings) → Legal s → (t : List ℕ) → Bytes t → table_bytes s ≤ length t → table_sound (layout_of s) t ≡ true
    → (T : List (List ℕ)) × Agree s t T (rebuilt_pairs s (decode (layout_of s) t))
unfolding table_sound
sound_agree s legal t bytes room h =
    let both = both_true (state_sound (layout_of s) (decode (layout_of s) t)) (fill_zero (layout_of s) t) h in
    let o = check_sound (layout_proper s legal) (decode (layout_of s) t) (decode_formed (layout_of s) t) both.0 in
    let long : length o.T ≡ lists s = o.rep.lists ∙ layout_lists s in
    let fit : RowsFit s o.T = λ i l. o.rep.fits i (rw (layout_lists s) l) in
    let e = rep_rebuilt s o.rep in (
      o.T,
      record {
        bytes = bytes;
        room = room;
        stores = record { B = o.B; fs = o.fs; rep = o.rep };
        stands = record {
          long = long;
          fit = fit;
          pairs = λ f. ap (count f) (sym e);
          once = rw e (single_keys s legal o.T long fit (λ i l. o.single i (rw (layout_lists s) l)));
        };
        fill = both.1;
      },
    )

-- A new table -----------------------------------------------------------------------------------------------------------------

-- empty lists have no pairs
pairs_none : (s : Settings) (i n : ℕ) → pairs_from s i (replicate n []) ≡ []
pairs_none s i zero = refl
pairs_none s i (suc n) = pairs_none s (suc i) n

stands_new : (s : Settings) → Stands s (replicate (layout_of s).lists []) []
stands_new s =
    record {
      long = length-replicate (layout_of s).lists [] ∙ layout_lists s;
      fit = λ i l. rw (replicate_at {A = List ℕ} (layout_of s).lists i []) all_nil;
      pairs = λ f. ap (count f) (pairs_none s 0 (layout_of s).lists);
      once = λ k. omega arith;
    }

-- clause 8.2, beside a new table, whatever the bytes were
pub new_agree : (s : Settings) → Legal s → (t : List ℕ) → Bytes t → table_bytes s ≤ length t
    → Agree s (make_call s t).bytes (replicate (layout_of s).lists []) []
unfolding make_call new_bytes
new_agree s right t bytes room =
    rw (legal_if s right, le-leb (table_bytes s) (length t) room)
    (agree_written (zeros ++ rest) right (bytes_append zeros rest zero_bytes (bytes_drop n t bytes)) long
    (fill_append s zeros rest n_long ∙ zero_fill)
    (new_formed (layout_of s) (layout_proper s right))
    (record { B = replicate (layout_of s).lists []; fs = up_from 0 (layout_of s).nob; rep = new_rep (layout_of s) })
    (stands_new s))
  where
    n : ℕ
    n = (layout_of s).bytes

    zeros : List ℕ
    zeros = replicate n 0

    rest : List ℕ
    rest = drop n t

    zero_bytes : Bytes zeros
    zero_bytes i = rw (replicate_at {A = ℕ} n i 0) (omega arith)

    n_is : (layout_of s).bytes ≡ table_bytes s
    n_is = unfold layout_of in refl

    n_long : table_bytes s ≤ length zeros
    n_long = omega (arith, n_is, length-replicate {A = ℕ} n 0)

    long : table_bytes s ≤ length (zeros ++ rest)
    long = omega (arith, length-append zeros rest, n_long)

    zero_fill : fill_zero (layout_of s) zeros ≡ true
    zero_fill = unfold fill_zero in eq-eqb _ 0 (zero_field n (layout_of s).bits (8 * (layout_of s).bytes - (layout_of s).bits))
