-- The laws of writing, each for every width together.
use Rattle.std.specs.Prelude.{◌≡◌, refl, ◌≢◌, ◌⊎◌, List, [], ◌∷◌, length, get_or, set}
use Rattle.std.proofs.Common.{sym, ap, ◌∙◌, inl, inr, ⊎_elim, add-zero, add-suc, add_assoc, div-one, mod-lt, mod-eq_of_lt, arith, get_or-set_same, get_or-set_other, set-set, pow_pos, shr-shr}
use Prim.Native.Nat.{ℕ, zero, suc, ◌+◌, ◌-◌, ◌*◌, ◌/◌, ◌%◌, ◌^◌, ◌≤◌, ◌<◌}
use Rattle.std.proofs.Math.Decide.{dec_le, ℕ_discrete}
use Rattle.std.proofs.Math.ListN.{length-set}
use Rattle.std.proofs.lemmas.List.{set-get_or}
use Rattle.std.proofs.Math.Pow.{high, low}
use Rattle.bits.specs.Bytes.{Bytes}
use Rattle.bits.specs.Field.{bit_at, field}
use Rattle.bits.specs.Put.{replaced, put_bit, put_field}
use Rattle.bits.specs.theory.Fields.{bit_lt, field_ext, first_field, last_field, bits_ext}
use Rattle.bits.specs.theory.Numbers.{
  low_halves,
  low_half,
  low_bit,
  above,
  replaced_low,
  replaced_rest,
  replaced_mid,
  replaced_lt,
  replaced_own,
  replaced_more,
  replaced_other,
}

-- ---- one bit

module _ (s : List ℕ) (i v : ℕ) where
  bit_length : length (put_bit s i v) ≡ length s
  unfolding put_bit
  bit_length = length-set s _ _

  module _ (l : i < 8 * length s) (h : v < 2) where
    bit_same : bit_at (put_bit s i v) i ≡ v
    unfolding put_bit bit_at
    bit_same = rw (get_or-set_same s (i / 8) (replaced (get_or s (i / 8) 0) (7 - i % 8) 1 v) 0 (omega arith)) (replaced_mid (get_or s (i / 8) 0) (7 - i % 8) 1 h)

    bit_other : (j : ℕ) → j ≢ i → bit_at (put_bit s i v) j ≡ bit_at s j
    unfolding put_bit bit_at
    bit_other j ne = pick (ℕ_discrete (j / 8) (i / 8))
      where
        b : ℕ
        b = replaced (get_or s (i / 8) 0) (7 - i % 8) 1 v

        pick : Dec (j / 8 ≡ i / 8) → get_or (set s (i / 8) b) (j / 8) 0 / 2 ^ (7 - j % 8) % 2 ≡ get_or s (j / 8) 0 / 2 ^ (7 - j % 8) % 2
        pick (yes e) =
            rw (e, get_or-set_same s (i / 8) b 0 (omega arith))
            (replaced_other _ (7 - i % 8) v (7 - j % 8) h (omega arith))
        pick (no f) = rw (get_or-set_other s (i / 8) (j / 8) b 0 f)

bit_own : (s : List ℕ) (i : ℕ) → put_bit s i (bit_at s i) ≡ s
unfolding put_bit bit_at
bit_own s i = rw (replaced_own (get_or s (i / 8) 0) (7 - i % 8) 1) (set-get_or s (i / 8) 0)

set_bytes : (s : List ℕ) (i x : ℕ) → x < 256 → Bytes s → Bytes (set s i x)
set_bytes [] i x h b j = b j
set_bytes (y ∷ ys) zero x h b zero = h
set_bytes (y ∷ ys) zero x h b (suc j) = b (suc j)
set_bytes (y ∷ ys) (suc i) x h b zero = b zero
set_bytes (y ∷ ys) (suc i) x h b (suc j) = set_bytes ys i x h (λ k. b (suc k)) j

bit_bytes : (s : List ℕ) (i v : ℕ) → v < 2 → Bytes s → Bytes (put_bit s i v)
unfolding put_bit
bit_bytes s i v h b = set_bytes s (i / 8) _ (replaced_lt (get_or s (i / 8) 0) (7 - i % 8) 1 h 8 (omega arith) (b (i / 8))) b

two : (v : ℕ) → v % 2 < 2
two v = omega arith

-- ---- what stays

pub put_zero : (s : List ℕ) (off v : ℕ) → put_field s off 0 v ≡ s
unfolding put_field
put_zero s off v = refl

pub put_length : (s : List ℕ) (off n v : ℕ) → length (put_field s off n v) ≡ length s
unfolding put_field
put_length s off zero v = refl
put_length s off (suc n) v = bit_length _ _ _ ∙ put_length s off n (v / 2)

pub put_bytes : (s : List ℕ) (off n v : ℕ) → Bytes s → Bytes (put_field s off n v)
unfolding put_field
put_bytes s off zero v b = b
put_bytes s off (suc n) v b = bit_bytes _ (off + n) (v % 2) (two v) (put_bytes s off n (v / 2) b)

-- ---- the bits in the field and out of it

-- bit j of the list is the bit of v that it stands for
pub put_bit_in : (s : List ℕ) (off n v : ℕ) → off + n ≤ 8 * length s → (j : ℕ) → off ≤ j → j < off + n
    → bit_at (put_field s off n v) j ≡ v / 2 ^ (off + n - suc j) % 2
unfolding put_field
put_bit_in s off zero v l j a b = absurd (omega arith)
put_bit_in s off (suc n) v l j a b = pick (λ h. put_bit_in s off n (v / 2) (omega arith) j a h) (ℕ_discrete j (off + n))
  where
    t : List ℕ
    t = put_field s off n (v / 2)

    lt : off + n < 8 * length t
    lt = omega (arith, put_length s off n (v / 2))

    pick : (j < off + n → bit_at t j ≡ v / 2 / 2 ^ (off + n - suc j) % 2) → Dec (j ≡ off + n) → bit_at (put_bit t (off + n) (v % 2)) j ≡ v / 2 ^ (off + suc n - suc j) % 2
    pick ih (yes e) =
        let z : off + suc n - suc j ≡ 0 = omega arith in
        rw (e, bit_same t (off + n) (v % 2) lt (two v)) (rw (← e, z) (omega arith))
    pick ih (no f) =
        let z : off + suc n - suc j ≡ 1 + (off + n - suc j) = omega arith in
        bit_other t (off + n) (v % 2) lt (two v) j f
        ∙ ih (omega arith)
        ∙ rw (z, ← shr-shr v 1 (off + n - suc j))

-- no other bit changes
pub put_bit_out : (s : List ℕ) (off n v : ℕ) → off + n ≤ 8 * length s → (j : ℕ) → (j < off) ⊎ (off + n ≤ j) → bit_at (put_field s off n v) j ≡ bit_at s j
unfolding put_field
put_bit_out s off zero v l j o = refl
put_bit_out s off (suc n) v l j o =
    bit_other (put_field s off n (v / 2)) (off + n) (v % 2) (rw put_length (omega arith)) (two v) j
    (⊎_elim (λ a. omega arith) (λ a. omega arith) o)
    ∙ put_bit_out s off n (v / 2) (omega arith) j (⊎_elim (λ a. inl a) (λ a. inr (omega arith)) o)

-- ---- the field read back, and others

-- the field itself: the n low bits of v
pub put_mod : (s : List ℕ) (off n v : ℕ) → off + n ≤ 8 * length s → field (put_field s off n v) off n ≡ v % 2 ^ n
unfolding put_field field
put_mod s off zero v l = sym (omega (arith, mod-lt v (pow_pos 0)))
put_mod s off (suc n) v l =
    rw (bit_same (put_field s off n (v / 2)) (off + n) (v % 2) (rw put_length (omega arith)) (two v))
    (rw (
      field_ext (put_bit (put_field s off n (v / 2)) (off + n) (v % 2)) (put_field s off n (v / 2)) off n (λ i a b. bit_other _ (off + n) (v % 2) (rw put_length (omega arith)) (two v) i (omega arith)),
      put_mod s off n (v / 2) (omega arith),
    )
    (low_halves v n))

pub put_same : (s : List ℕ) (off n v : ℕ) → off + n ≤ 8 * length s → v < 2 ^ n → field (put_field s off n v) off n ≡ v
put_same s off n v l h = put_mod s off n v l ∙ mod-eq_of_lt h

-- the value that stands there already
pub put_own : (s : List ℕ) (off n : ℕ) → put_field s off n (field s off n) ≡ s
unfolding put_field field
put_own s off zero = refl
put_own s off (suc n) =
    let e : (field s off n * 2 + bit_at s (off + n)) / 2 ≡ field s off n = omega (arith, bit_lt s (off + n)) in
    let f : (field s off n * 2 + bit_at s (off + n)) % 2 ≡ bit_at s (off + n) = omega (arith, bit_lt s (off + n)) in
    rw (e, f, put_own s off n) (bit_own s (off + n))

-- a field that the replaced one does not meet
pub put_out : (s : List ℕ) (off n v o m : ℕ) → off + n ≤ 8 * length s → (o + m ≤ off) ⊎ (off + n ≤ o) → field (put_field s off n v) o m ≡ field s o m
put_out s off n v o m l d =
    field_ext _ s o m λ i a b. put_bit_out s off n v l i (⊎_elim (λ e. inl (omega arith)) (λ e. inr (omega arith)) d)

-- ---- fields side by side, and within one another

-- a field written in two parts
pub put_cat : (s : List ℕ) (off m n v : ℕ) → put_field s off (m + n) v ≡ put_field (put_field s off m (v / 2 ^ n)) (off + m) n (v % 2 ^ n)
unfolding put_field
put_cat s off m zero v = rw (add-zero m, div-one v)
put_cat s off m (suc n) v =
    let e : off + (m + n) ≡ off + m + n = sym (add_assoc off m n) in
    let t : put_field s off (m + n) (v / 2) ≡ put_field (put_field s off m (v / 2 ^ suc n)) (off + m) n (v % 2 ^ suc n / 2) =
    put_cat s off m n (v / 2) ∙ cc (above v n, low_half v n) in
    ap (λ (k : ℕ). put_field s off k v) (add-suc m n) ∙ cc (e, t, low_bit v n)

-- the part between the first a bits and the last b of a field of w bits, replaced in the number that the field reads as
pub put_sub : (s : List ℕ) (off w a n b v : ℕ) → a + n + b ≡ w → v < 2 ^ n → off + a + n ≤ 8 * length s
    → put_field s off w (replaced (field s off w) b n v) ≡ put_field s (off + a) n v
put_sub s off w a n b v e h l =
    let f : a + n + b ≡ a + (b + n) = omega arith in
    let hi : replaced (field s off (a + n + b)) b n v / 2 ^ b ≡ field s off a * 2 ^ n + v =
    replaced_rest (field s off (a + n + b)) b n v ∙ ap (λ (y : ℕ). y * 2 ^ n + v) (rw f (first_field s off a (b + n))) in
    let lo : replaced (field s off (a + n + b)) b n v % 2 ^ b ≡ field s (off + (a + n)) b =
    replaced_low (field s off (a + n + b)) b n v ∙ last_field s off (a + n) b in
    let t : put_field s off (a + n) (field s off a * 2 ^ n + v) ≡ put_field s (off + a) n v =
    put_cat s off a n (field s off a * 2 ^ n + v) ∙ rw (high (field s off a) n h, low (field s off a) n h, put_own s off a) in
    rw (← e)
    (put_cat s off (a + n) b (replaced (field s off (a + n + b)) b n v)
    ∙ rw (hi, lo, t, ← put_out s (off + a) n v (off + (a + n)) b l (inr (omega arith)), put_own (put_field s (off + a) n v) (off + (a + n)) b))

-- a field within byte i: after its first a bits, with k left after it
pub put_in : (s : List ℕ) (i a m k v : ℕ) → i < length s → a + m + k ≡ 8 → put_field s (8 * i + a) m v ≡ set s i (replaced (get_or s i 0) k m (v % 2 ^ m))
unfolding put_field put_bit
put_in s i a zero k v l e =
    let z : v % 1 ≡ get_or s i 0 / 2 ^ k % 1 = omega arith in
    rw (z, replaced_own (get_or s i 0) k 0) (sym (set-get_or s i 0))
put_in s i a (suc m) k v l e =
    let at_byte : (8 * i + a + m) / 8 ≡ i = omega arith in
    let at_bit : 7 - (8 * i + a + m) % 8 ≡ k = omega arith in
    rw (put_in s i a m (k + 1) (v / 2) l (omega arith), at_byte, at_bit, get_or-set_same s i (replaced (get_or s i 0) (k + 1) m (v / 2 % 2 ^ m)) 0 l, set-set)
    (ap (set s i) (rw (low_half v m, low_bit v m) at (replaced_more (get_or s i 0) k m (v % 2 ^ suc m))))

-- ---- two fields written

-- a place is in a field or out of it
place : (off n j : ℕ) → ((off ≤ j) × (j < off + n)) ⊎ ((j < off) ⊎ (off + n ≤ j))
place off n j = pick (dec_le off j) (dec_le (off + n) j)
  where
    pick : Dec (off ≤ j) → Dec (off + n ≤ j) → ((off ≤ j) × (j < off + n)) ⊎ ((j < off) ⊎ (off + n ≤ j))
    pick (no f) d = inr (inl (omega arith))
    pick (yes h) (yes k) = inr (inr k)
    pick (yes h) (no f) = inl (h, omega arith)

-- the same field twice: the second counts
pub put_put : (s : List ℕ) (off n v w : ℕ) → Bytes s → off + n ≤ 8 * length s → put_field (put_field s off n v) off n w ≡ put_field s off n w
put_put s off n v w b l =
    bits_ext (put_field t off n w) (put_field s off n w) (put_length t off n w ∙ put_length s off n v ∙ sym (put_length s off n w))
    (put_bytes t off n w (put_bytes s off n v b)) (put_bytes s off n w b)
    (λ j h. ⊎_elim (λ i. in_both j i.0 i.1) (out_of_both j) (place off n j))
  where
    t : List ℕ
    t = put_field s off n v

    lt : off + n ≤ 8 * length t
    lt = omega (arith, put_length s off n v)

    in_both : (j : ℕ) → off ≤ j → j < off + n → bit_at (put_field t off n w) j ≡ bit_at (put_field s off n w) j
    in_both j x y = put_bit_in t off n w lt j x y ∙ sym (put_bit_in s off n w l j x y)

    out_of_both : (j : ℕ) → (j < off) ⊎ (off + n ≤ j) → bit_at (put_field t off n w) j ≡ bit_at (put_field s off n w) j
    out_of_both j o = put_bit_out t off n w lt j o ∙ put_bit_out s off n v l j o ∙ sym (put_bit_out s off n w l j o)

-- two fields that do not meet: in either order
pub put_comm : (s : List ℕ) (o n v p m w : ℕ) → Bytes s → o + n ≤ p → p + m ≤ 8 * length s
    → put_field (put_field s o n v) p m w ≡ put_field (put_field s p m w) o n v
put_comm s o n v p m w b d l =
    bits_ext (put_field x p m w) (put_field y o n v)
    (put_length x p m w ∙ put_length s o n v ∙ sym (put_length y o n v ∙ put_length s p m w))
    (put_bytes x p m w (put_bytes s o n v b)) (put_bytes y o n v (put_bytes s p m w b))
    (λ j h. ⊎_elim (λ i. in_o j i.0 i.1) (λ f. ⊎_elim (λ i. in_p j i.0 i.1) (λ g. neither j f g) (place p m j)) (place o n j))
  where
    x : List ℕ
    x = put_field s o n v

    y : List ℕ
    y = put_field s p m w

    lx : p + m ≤ 8 * length x
    lx = omega (arith, put_length s o n v)

    ly : o + n ≤ 8 * length y
    ly = omega (arith, put_length s p m w)

    in_o : (j : ℕ) → o ≤ j → j < o + n → bit_at (put_field x p m w) j ≡ bit_at (put_field y o n v) j
    in_o j f g = put_bit_out x p m w lx j (inl (omega arith)) ∙ put_bit_in s o n v (omega arith) j f g ∙ sym (put_bit_in y o n v ly j f g)

    in_p : (j : ℕ) → p ≤ j → j < p + m → bit_at (put_field x p m w) j ≡ bit_at (put_field y o n v) j
    in_p j f g = put_bit_in x p m w lx j f g ∙ sym (put_bit_out y o n v ly j (inr (omega arith)) ∙ put_bit_in s p m w l j f g)

    neither : (j : ℕ) → (j < o) ⊎ (o + n ≤ j) → (j < p) ⊎ (p + m ≤ j) → bit_at (put_field x p m w) j ≡ bit_at (put_field y o n v) j
    neither j f g = put_bit_out x p m w lx j g ∙ put_bit_out s o n v (omega arith) j f ∙ sym (put_bit_out y o n v ly j f ∙ put_bit_out s p m w l j g)
