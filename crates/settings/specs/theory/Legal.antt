-- What legal settings keep, as facts; and what the answers to settings tell.
use Rattle.std.specs.Prelude.{◌≡◌, ℕ, ◌*◌, Bool, true, false, nat_le, nat_lt, Err, Ok}
use Rattle.std.proofs.Common.{sym, ◌∙◌, true≢false, arith}
use borrow.Author.Tests.{leb-true, ltb-true, le-leb, lt-ltb}
use Rattle.laws.specs.Cases.{cases, both_true}
use Rattle.settings.specs.Prime.{prime_above}
use Rattle.settings.specs.Sizes.{slot_bits, link_bits, table_bytes}
use Rattle.settings.specs.Legal.{in_ranges, fits, below_prime, legal, Ranges, Legal}
use Rattle.settings.specs.Layout.{layout_of}
use Rattle.settings.specs.Made.{laid_of}
use Rattle.settings.specs.declared.settings.Settings.{Settings}
use Rattle.settings.specs.declared.layout.Layout.{Layout}
use Rattle.settings.specs.declared.refusal.Refusal.{Refusal}
use Rattle.settings.specs.declared.refusal.Refusal.TheVariants as refusal

module _ (s : Settings) where
  pub ranges_of : in_ranges s ≡ true → Ranges s
  unfolding in_ranges
  ranges_of h =
      let s9 = both_true _ (nat_le s.val 32) h in
      let s8 = both_true _ (nat_le s.sio 15) s9.0 in
      let s7 = both_true _ (nat_le 1 s.sio) s8.0 in
      let s6 = both_true _ (nat_le s.nob 65535) s7.0 in
      let s5 = both_true _ (nat_le s.sib 255) s6.0 in
      let s4 = both_true _ (nat_le 1 s.sib) s5.0 in
      let s3 = both_true _ (nat_lt s.bii s.w) s4.0 in
      let s2 = both_true _ (nat_le s.bii 16) s3.0 in
      let s1 = both_true (nat_le 2 s.w) (nat_le s.w 128) s2.0 in
      record {
        w_low = leb-true 2 s.w s1.0;
        w_high = leb-true s.w 128 s1.1;
        bii_high = leb-true s.bii 16 s2.1;
        bii_below = ltb-true s.bii s.w s3.1;
        sib_low = leb-true 1 s.sib s4.1;
        sib_high = leb-true s.sib 255 s5.1;
        nob_high = leb-true s.nob 65535 s6.1;
        sio_low = leb-true 1 s.sio s7.1;
        sio_high = leb-true s.sio 15 s8.1;
        val_high = leb-true s.val 32 s9.1;
      }

  pub legal_means : legal s ≡ true → Legal s
  unfolding legal fits below_prime
  legal_means h =
      let t1 = both_true (in_ranges s) _ h in
      let t2 = both_true (fits s) (below_prime s) t1.1 in
      let f = both_true (nat_le (link_bits s) (s.sib * slot_bits s)) (nat_le (table_bytes s) 16777216) t2.0 in
      let p3 = both_true _ (nat_lt s.b (prime_above s.bii)) t2.1 in
      let p2 = both_true _ (nat_le 1 s.b) p3.0 in
      let p1 = both_true (nat_le 1 s.a) (nat_lt s.a (prime_above s.bii)) p2.0 in
      record {
        ranges = ranges_of t1.0;
        link_fits = leb-true (link_bits s) (s.sib * slot_bits s) f.0;
        bytes_high = leb-true (table_bytes s) 16777216 f.1;
        a_low = leb-true 1 s.a p1.0;
        a_below = ltb-true s.a (prime_above s.bii) p1.1;
        b_low = leb-true 1 s.b p2.1;
        b_below = ltb-true s.b (prime_above s.bii) p3.1;
      }

  -- and back: settings that keep every range and rule are legal
  pub in_ranges_if : Ranges s → in_ranges s ≡ true
  unfolding in_ranges
  in_ranges_if r =
      rw (
        le-leb 2 s.w r.w_low,
        le-leb s.w 128 r.w_high,
        le-leb s.bii 16 r.bii_high,
        lt-ltb s.bii s.w r.bii_below,
        le-leb 1 s.sib r.sib_low,
        le-leb s.sib 255 r.sib_high,
        le-leb s.nob 65535 r.nob_high,
        le-leb 1 s.sio r.sio_low,
        le-leb s.sio 15 r.sio_high,
        le-leb s.val 32 r.val_high,
      )

  pub fits_if : Legal s → fits s ≡ true
  unfolding fits
  fits_if l =
      rw (le-leb (link_bits s) (s.sib * slot_bits s) l.link_fits, le-leb (table_bytes s) 16777216 l.bytes_high)

  pub below_prime_if : Legal s → below_prime s ≡ true
  unfolding below_prime
  below_prime_if l =
      rw (
        le-leb 1 s.a l.a_low,
        lt-ltb s.a (prime_above s.bii) l.a_below,
        le-leb 1 s.b l.b_low,
        lt-ltb s.b (prime_above s.bii) l.b_below,
      )

  pub legal_if : Legal s → legal s ≡ true
  unfolding legal
  legal_if l = rw (in_ranges_if l.ranges, fits_if l, below_prime_if l)

  -- ---- what the answers to settings tell

  pub laid_if_lem : in_ranges s ≡ true → below_prime s ≡ true → fits s ≡ true → Ok (layout_of s) ≡ laid_of s
  unfolding laid_of legal
  laid_if_lem r p f = rw (r, f, p)

  -- a test that legal settings pass refuses the others
  pub refused_if : {t : Bool} → (Legal s → t ≡ true) → t ≡ false → Err refusal.Settings ≡ laid_of s
  unfolding laid_of
  refused_if f e = cases (legal s) (λ l. absurd (true≢false (sym (f (legal_means l)) ∙ e))) (λ l. rw l)

  -- a layout is answered to legal settings alone, and is theirs
  pub laid_layout : (g : Layout) → laid_of s ≡ Ok g → (legal s ≡ true) × (layout_of s ≡ g)
  unfolding laid_of
  laid_layout g e =
      cases (legal s)
      (λ h. let q : Ok (layout_of s) ≡ Ok g = rw h at e in (h, cc))
      (λ h. let q : Err refusal.Settings ≡ Ok g = rw h at e in let z : ◌≡◌ {A = ℕ} 0 1 = cc in absurd (omega arith))

  -- settings are refused with 1, and only where they are not legal
  pub laid_refused : (why : Refusal) → laid_of s ≡ Err why → (legal s ≡ false) × (refusal.Settings ≡ why)
  unfolding laid_of
  laid_refused why e =
      cases (legal s)
      (λ h. let q : Ok (layout_of s) ≡ Err why = rw h at e in let z : ◌≡◌ {A = ℕ} 0 1 = cc in absurd (omega arith))
      (λ h. let q : Err refusal.Settings ≡ Err why = rw h at e in (h, cc))
