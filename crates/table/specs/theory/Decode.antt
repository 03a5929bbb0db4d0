-- A table's bits as one number: the bytes with their own state in them are the bytes. Changes within a range of bits.
use Rattle.std.specs.Prelude.{◌≡◌, refl, ◌⊎◌, List, map, ℕ, ◌+◌, ◌*◌, ◌^◌, ◌≤◌, length}
use Rattle.std.proofs.Math.Path.{sym, ap, ap₂}
use Rattle.std.proofs.Common.{◌∙◌, inl, inr, ⊎_elim, zero-add}
use native.Mathlib.Omega.{arith}
use Rattle.std.proofs.Math.Decide.{dec_le}
use Rattle.bits.specs.Bytes.{Bytes}
use Rattle.bits.specs.Field.{bit_at, field}
use Rattle.bits.specs.Put.{put_field}
use Rattle.bits.specs.theory.Fields.{field_cat, field_ext, bits_ext}
use Rattle.bits.specs.theory.Puts.{put_own, put_length, put_bytes, put_bit_in, put_bit_out}
use Rattle.settings.specs.Proper.{Proper}
use Rattle.settings.specs.declared.layout.Layout.{Layout}
use Rattle.table.specs.Arrays.{tabulate, packed}
use Rattle.table.specs.State.{rest_bits}
use Rattle.table.specs.Decode.{block_at, basic_slots, link_at, owner_at, overflow_slots, read_basic, read_overflow, decode, pack_basic, pack_overflow, image, written}
use Rattle.table.specs.Table.{Only}
use Rattle.table.specs.theory.Arrays.{tab_ext, map_tab, fields_packed}

-- n blocks of w bits from `start` on, each packed as it is read, are one field
rows : {A : Type 0} (t : List ℕ) (start n w : ℕ) (pack : A → ℕ) (read : ℕ → A) → ((i : ℕ) → pack (read i) ≡ field t (start + i * w) w)
    → field t (0 + start) (n * w) ≡ packed w (map pack (tabulate n read))
rows t start n w pack read is =
    ap (λ (x : ℕ). field t x (n * w)) (zero-add start)
    ∙ fields_packed t w n start
    ∙ ap (packed w) (tab_ext n (λ i. pack (read i)) (λ i. field t (start + i * w) w) (λ i l. sym (is i)) ∙ sym (map_tab n pack read))

module _ (g : Layout) (F : Proper g) where
  pub pack_read_b : (t : List ℕ) (i : ℕ) → pack_basic g (read_basic g t i) ≡ field t (block_at g.basic i) g.basic.bits
  unfolding read_basic basic_slots
  pack_read_b t i =
      let e : g.basic.bits ≡ g.basic.counter + g.link + rest_bits g = omega (arith, F.basic_is, F.link_fits) in
      let a : block_at g.basic i + g.basic.counter + g.link ≡ block_at g.basic i + (g.basic.counter + g.link) = omega arith in
      sym
      (ap (field t (block_at g.basic i)) e
      ∙ field_cat t (block_at g.basic i) (g.basic.counter + g.link) (rest_bits g)
      ∙ ap₂ (λ (x y : ℕ). x * 2 ^ rest_bits g + field t y (rest_bits g)) (field_cat t (block_at g.basic i) g.basic.counter g.link) (sym a))

  pub pack_read_o : (t : List ℕ) (j : ℕ) → pack_overflow g (read_overflow g t j) ≡ field t (block_at g.overflow j) g.overflow.bits
  unfolding read_overflow overflow_slots link_at owner_at
  pack_read_o t j =
      let e : g.overflow.counter + (g.link + g.owner) ≡ g.overflow.counter + g.link + g.owner = omega arith in
      let front =
      ap (field t (block_at g.overflow j)) e
      ∙ field_cat t (block_at g.overflow j) (g.overflow.counter + g.link) g.owner
      ∙ ap (λ (x : ℕ). x * 2 ^ g.owner + field t (block_at g.overflow j + (g.overflow.counter + g.link)) g.owner) (field_cat t (block_at g.overflow j) g.overflow.counter g.link) in
      sym
      (ap (field t (block_at g.overflow j)) F.overflow_is
      ∙ field_cat t (block_at g.overflow j) (g.overflow.counter + (g.link + g.owner)) (g.sio * g.slot)
      ∙ ap₂ (λ (x y : ℕ). x * 2 ^ (g.sio * g.slot) + y) front (fields_packed t g.slot g.sio (block_at g.overflow j + (g.overflow.counter + (g.link + g.owner)))))

  pub image_decode : (t : List ℕ) → image g (decode g t) ≡ field t 0 g.bits
  unfolding image decode block_at
  image_decode t =
      sym
      (ap (field t 0) F.bits_is
      ∙ field_cat t 0 g.overflow.start (g.nob * g.overflow.bits)
      ∙ ap₂ (λ (x y : ℕ). x * 2 ^ (g.nob * g.overflow.bits) + y)
      (ap (field t 0) F.start_is ∙ field_cat t 0 g.basic.start (g.lists * g.basic.bits) ∙ ap (λ (y : ℕ). field t 0 g.basic.start * 2 ^ (g.lists * g.basic.bits) + y)
      (rows t g.basic.start g.lists g.basic.bits (pack_basic g) (read_basic g t) (pack_read_b t)))
      (rows t g.overflow.start g.nob g.overflow.bits (pack_overflow g) (read_overflow g t) (pack_read_o t)))

pub put_only : (t : List ℕ) (a n v : ℕ) → a + n ≤ 8 * length t → Only t (put_field t a n v) a n
put_only t a n v l = record { long = put_length t a n v; bytes = put_bytes t a n v; out = put_bit_out t a n v l }

pub only_refl : (t : List ℕ) (a n : ℕ) → Only t t a n
only_refl t a n = record { long = refl; bytes = λ b. b; out = λ j o. refl }

pub only_trans : (t u v : List ℕ) (a n : ℕ) → Only t u a n → Only u v a n → Only t v a n
only_trans t u v a n p q =
    record {
      long = q.long ∙ p.long;
      bytes = λ b. q.bytes (p.bytes b);
      out = λ j o. q.out j o ∙ p.out j o;
    }

pub only_wide : (t u : List ℕ) (a n b m : ℕ) → Only t u a n → b ≤ a → a + n ≤ b + m → Only t u b m
only_wide t u a n b m p h k =
    record {
      long = p.long;
      bytes = p.bytes;
      out = λ j o. p.out j (⊎_elim (λ x. inl (omega arith)) (λ x. inr (omega arith)) o);
    }

pub only_field : (t u : List ℕ) (a n o m : ℕ) → Only t u a n → (o + m ≤ a) ⊎ (a + n ≤ o) → field u o m ≡ field t o m
only_field t u a n o m p d = field_ext u t o m (λ i x y. p.out i (⊎_elim (λ e. inl (omega arith)) (λ e. inr (omega arith)) d))

pub written_of : (g : Layout) → Proper g → (t u : List ℕ) → Bytes t → g.bits ≤ 8 * length t → Only t u 0 g.bits → u ≡ written g t (decode g u)
unfolding written
written_of g F t u b l o =
    bits_ext u (put_field t 0 g.bits (image g (decode g u)))
    (o.long ∙ sym (put_length t 0 g.bits (image g (decode g u))))
    (o.bytes b) (put_bytes t 0 g.bits (image g (decode g u)) b)
    (λ j h. pick j (dec_le g.bits j))
  where
    v : ℕ
    v = image g (decode g u)

    lu : 0 + g.bits ≤ 8 * length u
    lu = omega (arith, l, o.long)

    own : put_field u 0 g.bits v ≡ u
    own = ap (put_field u 0 g.bits) (image_decode g F u) ∙ put_own u 0 g.bits

    pick : (j : ℕ) → Dec (g.bits ≤ j) → bit_at u j ≡ bit_at (put_field t 0 g.bits v) j
    pick j (yes p) = o.out j (inr (omega arith)) ∙ sym (put_bit_out t 0 g.bits v (omega (arith, l)) j (inr (omega arith)))
    pick j (no p) =
        ap (λ (s : List ℕ). bit_at s j) (sym own)
        ∙ put_bit_in u 0 g.bits v lu j (omega arith) (omega arith)
        ∙ sym (put_bit_in t 0 g.bits v (omega (arith, l)) j (omega arith) (omega arith))
