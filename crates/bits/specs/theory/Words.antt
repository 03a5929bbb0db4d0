-- The laws behind a load and a store of eight bytes at once, and behind reading and writing byte by byte.
use Rattle.std.specs.Prelude.{◌≡◌, refl, List, [], ◌∷◌, ℕ, suc, ◌+◌, ◌*◌, ◌/◌, ◌%◌, ◌^◌, ◌≤◌, ◌<◌, ◌++◌, length, get_or, set, take, drop}
use Rattle.std.proofs.Common.{sym, ap, ◌∙◌, arith}
use Rattle.std.proofs.Math.Pow.{mod-mod-pow}
use Rattle.std.proofs.Math.Pow as P
use mathlib.Core.List.{append_assoc}
use lib.Seq.{drop-drop, sets, sets-eq}
use Rattle.bits.specs.Bytes.{Bytes}
use Rattle.bits.specs.Field.{field}
use Rattle.bits.specs.Put.{replaced, put_field}
use Rattle.bits.specs.Word.{low_first, low_first_four, swapped, set_four}
use Rattle.bits.specs.theory.Fields.{field_zero, field_cat, field_byte}
use Rattle.bits.specs.theory.Puts.{put_zero, put_cat, put_in, put_bytes, put_length}

-- ---- a field in two parts, wherever their places are said to be

pub field_two : (s : List ℕ) (p m q t off n : ℕ) → p ≡ off → q ≡ off + m → m + t ≡ n
    → field s p m * 2 ^ t + field s q t ≡ field s off n
field_two s p m q t off n e f g = rw (e, f, ← g) (sym (field_cat s off m t))

pub put_two : (s : List ℕ) (p m q t off n v : ℕ) → p ≡ off → q ≡ off + m → m + t ≡ n
    → put_field (put_field s p m (v / 2 ^ t)) q t (v % 2 ^ t) ≡ put_field s off n v
put_two s p m q t off n v e f g = rw (e, f, ← g) (sym (put_cat s off m t v))

-- the same in three parts
pub put_three : (s : List ℕ) (p m q t o b r off n v : ℕ) → p ≡ off → q ≡ off + m → o ≡ q + t → t + b ≡ r → m + r ≡ n
    → put_field (put_field (put_field s p m (v / 2 ^ r)) q t (v / 2 ^ b % 2 ^ t)) o b (v % 2 ^ b) ≡ put_field s off n v
put_three s p m q t o b r off n v e f g h k =
    rw (← P.field v t b, ← mod-mod-pow v t b, h, put_two (put_field s p m (v / 2 ^ r)) q t o b q r (v % 2 ^ r) refl g h)
    (put_two s p m q r off n v e f k)

-- bit off by its byte and its place there
pub byte_and_bit : (off : ℕ) → 8 * (off / 8) + off % 8 ≡ off
byte_and_bit off = omega arith

-- ---- a field and the whole byte j after it

pub byte_more : (s : List ℕ) (off m j : ℕ) → off + m ≡ 8 * j → get_or s j 0 < 256
    → field s off (m + 8) ≡ field s off m * 256 + get_or s j 0
byte_more s off m j e l = field_cat s off m 8 ∙ rw e (ap (λ (x : ℕ). field s off m * 256 + x) (field_byte s j l))

-- a whole byte replaced
replaced_all : (x v : ℕ) → x < 256 → replaced x 0 8 v ≡ v
unfolding replaced
replaced_all x v h = omega arith

pub put_byte_more : (s : List ℕ) (off m j v : ℕ) → Bytes s → off + m ≡ 8 * j → j < length s
    → put_field s off (m + 8) v ≡ set (put_field s off m (v / 256)) j (v % 256)
put_byte_more s off m j v b e l =
    let f : off + m ≡ 8 * j + 0 = omega arith in
    put_cat s off m 8 v
    ∙ ap (λ (p : ℕ). put_field (put_field s off m (v / 256)) p 8 (v % 256)) f
    ∙ put_in (put_field s off m (v / 256)) j 0 8 0 (v % 256) (rw put_length l) refl
    ∙ ap (set (put_field s off m (v / 256)) j) (replaced_all _ _ (put_bytes s off m (v / 256) b j) ∙ omega arith)

-- ---- bytes put in the middle at once are stored one by one

pub put_sets : (s vs : List ℕ) (i k : ℕ) → k ≡ length vs → i + length vs ≤ length s → take i s ++ (vs ++ drop k (drop i s)) ≡ sets s i vs
put_sets s vs i k e h =
    rw e
    (ap (λ (r : List ℕ). take i s ++ (vs ++ r)) (drop-drop (length vs) i s)
    ∙ sym (append_assoc (take i s) vs (drop (i + length vs) s))
    ∙ sym (sets-eq vs s i h))

-- a number's four low bytes put there at once, the lowest first
pub put_four : (s : List ℕ) (i x k : ℕ) → k ≡ 4 → i + 4 ≤ length s
    → take i s ++ ((x % 256 ∷ x / 256 % 256 ∷ x / 65536 % 256 ∷ x / 16777216 % 256 ∷ []) ++ drop k (drop i s)) ≡ set_four s i x
put_four s i x k e h =
    let p1 : suc i ≡ i + 1 = omega arith in
    let p2 : suc (i + 1) ≡ i + 2 = omega arith in
    let p3 : suc (i + 2) ≡ i + 3 = omega arith in
    put_sets s (x % 256 ∷ x / 256 % 256 ∷ x / 65536 % 256 ∷ x / 16777216 % 256 ∷ []) i k e h ∙ rw (p1, p2, p3) refl

-- ---- eight bytes

-- the eight bytes of a number, each by itself
record Eight (x b0 b1 b2 b3 b4 b5 b6 b7 : ℕ) : Type 0 where
  pub at0 : x % 256 ≡ b0
  pub at1 : x / 256 % 256 ≡ b1
  pub at2 : x / 65536 % 256 ≡ b2
  pub at3 : x / 16777216 % 256 ≡ b3
  pub at4 : x / 4294967296 % 256 ≡ b4
  pub at5 : x / 1099511627776 % 256 ≡ b5
  pub at6 : x / 281474976710656 % 256 ≡ b6
  pub at7 : x / 72057594037927936 % 256 ≡ b7

eight : (x b0 b1 b2 b3 b4 b5 b6 b7 : ℕ) → b0 < 256 → b1 < 256 → b2 < 256 → b3 < 256 → b4 < 256 → b5 < 256 → b6 < 256 → b7 < 256
    → x ≡ b0 + b1 * 256 + b2 * 65536 + b3 * 16777216 + b4 * 4294967296 + b5 * 1099511627776 + b6 * 281474976710656 + b7 * 72057594037927936
    → Eight x b0 b1 b2 b3 b4 b5 b6 b7
eight x b0 b1 b2 b3 b4 b5 b6 b7 l0 l1 l2 l3 l4 l5 l6 l7 e =
    record {
      at0 = omega arith;
      at1 = omega arith;
      at2 = omega arith;
      at3 = omega arith;
      at4 = omega arith;
      at5 = omega arith;
      at6 = omega arith;
      at7 = omega arith;
    }

module _ (s : List ℕ) (i : ℕ) (b : Bytes s) where
  word : field s (8 * i) 64
      ≡ get_or s i 0 * 72057594037927936
      + get_or s (i + 1) 0 * 281474976710656
      + get_or s (i + 2) 0 * 1099511627776
      + get_or s (i + 3) 0 * 4294967296
      + get_or s (i + 4) 0 * 16777216
      + get_or s (i + 5) 0 * 65536
      + get_or s (i + 6) 0 * 256
      + get_or s (i + 7) 0
  word =
      omega (
        arith,
        field_zero s (8 * i),
        byte_more s (8 * i) 0 i (omega arith) (b i),
        byte_more s (8 * i) 8 (i + 1) (omega arith) (b (i + 1)),
        byte_more s (8 * i) 16 (i + 2) (omega arith) (b (i + 2)),
        byte_more s (8 * i) 24 (i + 3) (omega arith) (b (i + 3)),
        byte_more s (8 * i) 32 (i + 4) (omega arith) (b (i + 4)),
        byte_more s (8 * i) 40 (i + 5) (omega arith) (b (i + 5)),
        byte_more s (8 * i) 48 (i + 6) (omega arith) (b (i + 6)),
        byte_more s (8 * i) 56 (i + 7) (omega arith) (b (i + 7)),
      )

  -- the bytes taken lowest first and then swapped round
  pub load_word : (x : ℕ) → x ≡ low_first s i → swapped x ≡ field s (8 * i) 64
  load_word x e =
      let d =
      eight x (get_or s i 0) (get_or s (i + 1) 0) (get_or s (i + 2) 0) (get_or s (i + 3) 0) (get_or s (i + 4) 0) (get_or s (i + 5) 0) (get_or s (i + 6) 0) (get_or s (i + 7) 0)
      (b i) (b (i + 1)) (b (i + 2)) (b (i + 3)) (b (i + 4)) (b (i + 5)) (b (i + 6)) (b (i + 7)) e in
      rw (d.at0, d.at1, d.at2, d.at3, d.at4, d.at5, d.at6, d.at7) (sym word)

  put_eight : (w : ℕ) → i + 8 ≤ length s
      → put_field s (8 * i) 64 w
      ≡ set (set (set (set (set (set (set (set s i (w / 72057594037927936 % 256)) (i + 1) (w / 281474976710656 % 256)) (i + 2) (w / 1099511627776 % 256)) (i + 3) (w / 4294967296 % 256))
      (i + 4) (w / 16777216 % 256)) (i + 5) (w / 65536 % 256)) (i + 6) (w / 256 % 256)) (i + 7) (w % 256)
  put_eight w l =
      let q2 : w / 256 / 256 ≡ w / 65536 = omega arith in
      let q3 : w / 65536 / 256 ≡ w / 16777216 = omega arith in
      let q4 : w / 16777216 / 256 ≡ w / 4294967296 = omega arith in
      let q5 : w / 4294967296 / 256 ≡ w / 1099511627776 = omega arith in
      let q6 : w / 1099511627776 / 256 ≡ w / 281474976710656 = omega arith in
      let q7 : w / 281474976710656 / 256 ≡ w / 72057594037927936 = omega arith in
      rw (
        put_byte_more s (8 * i) 56 (i + 7) w b (omega arith) (omega arith),
        put_byte_more s (8 * i) 48 (i + 6) (w / 256) b (omega arith) (omega arith),
        q2,
        put_byte_more s (8 * i) 40 (i + 5) (w / 65536) b (omega arith) (omega arith),
        q3,
        put_byte_more s (8 * i) 32 (i + 4) (w / 16777216) b (omega arith) (omega arith),
        q4,
        put_byte_more s (8 * i) 24 (i + 3) (w / 4294967296) b (omega arith) (omega arith),
        q5,
        put_byte_more s (8 * i) 16 (i + 2) (w / 1099511627776) b (omega arith) (omega arith),
        q6,
        put_byte_more s (8 * i) 8 (i + 1) (w / 281474976710656) b (omega arith) (omega arith),
        q7,
        put_byte_more s (8 * i) 0 i (w / 72057594037927936) b (omega arith) (omega arith),
        put_zero,
      )

  -- a number's eight bytes put there at once, the highest first
  pub put_word : (w k : ℕ) → k ≡ 8 → i + 8 ≤ length s
      → take i s
      ++ ((w / 72057594037927936 % 256 ∷ w / 281474976710656 % 256 ∷ w / 1099511627776 % 256 ∷ w / 4294967296 % 256 ∷ w / 16777216 % 256 ∷ w / 65536 % 256 ∷ w / 256 % 256 ∷ w % 256 ∷ [])
      ++ drop k (drop i s))
      ≡ put_field s (8 * i) 64 w
  put_word w k e h =
      let p1 : suc i ≡ i + 1 = omega arith in
      let p2 : suc (i + 1) ≡ i + 2 = omega arith in
      let p3 : suc (i + 2) ≡ i + 3 = omega arith in
      let p4 : suc (i + 3) ≡ i + 4 = omega arith in
      let p5 : suc (i + 4) ≡ i + 5 = omega arith in
      let p6 : suc (i + 5) ≡ i + 6 = omega arith in
      let p7 : suc (i + 6) ≡ i + 7 = omega arith in
      put_sets s
      (w / 72057594037927936 % 256 ∷ w / 281474976710656 % 256 ∷ w / 1099511627776 % 256 ∷ w / 4294967296 % 256 ∷ w / 16777216 % 256 ∷ w / 65536 % 256 ∷ w / 256 % 256 ∷ w % 256 ∷ [])
      i k e h
      ∙ rw (p1, p2, p3, p4, p5, p6, p7) (sym (put_eight w h))

  -- a number swapped round and its bytes set lowest first
  pub store_word : (w x : ℕ) → i + 8 ≤ length s → x ≡ swapped w
      → set_four (set_four s i x) (i + 4) (x / 4294967296) ≡ put_field s (8 * i) 64 w
  store_word w x l e =
      let d =
      eight x (w / 72057594037927936 % 256) (w / 281474976710656 % 256) (w / 1099511627776 % 256) (w / 4294967296 % 256) (w / 16777216 % 256) (w / 65536 % 256) (w / 256 % 256) (w % 256)
      (omega arith) (omega arith) (omega arith) (omega arith) (omega arith) (omega arith) (omega arith) (omega arith) (omega arith) in
      let p5 : i + 4 + 1 ≡ i + 5 = omega arith in
      let p6 : i + 4 + 2 ≡ i + 6 = omega arith in
      let p7 : i + 4 + 3 ≡ i + 7 = omega arith in
      let q5 : x / 4294967296 / 256 ≡ x / 1099511627776 = omega arith in
      let q6 : x / 4294967296 / 65536 ≡ x / 281474976710656 = omega arith in
      let q7 : x / 4294967296 / 16777216 ≡ x / 72057594037927936 = omega arith in
      rw (p5, p6, p7, q5, q6, q7, d.at0, d.at1, d.at2, d.at3, d.at4, d.at5, d.at6, d.at7) (sym (put_eight w l))

-- ---- swapped round twice

sum_of : (x x1 x2 x3 x4 x5 x6 x7 b0 b1 b2 b3 b4 b5 b6 b7 : ℕ) → x ≡ x1 * 256 + b0 → x1 ≡ x2 * 256 + b1 → x2 ≡ x3 * 256 + b2
    → x3 ≡ x4 * 256 + b3 → x4 ≡ x5 * 256 + b4 → x5 ≡ x6 * 256 + b5 → x6 ≡ x7 * 256 + b6 → x7 ≡ b7
    → b7 * 72057594037927936 + b6 * 281474976710656 + b5 * 1099511627776 + b4 * 4294967296 + b3 * 16777216 + b2 * 65536 + b1 * 256 + b0 ≡ x
sum_of x x1 x2 x3 x4 x5 x6 x7 b0 b1 b2 b3 b4 b5 b6 b7 e0 e1 e2 e3 e4 e5 e6 e7 = omega arith

swapped_bytes : (x : ℕ) → Eight (swapped x) (x / 72057594037927936 % 256) (x / 281474976710656 % 256) (x / 1099511627776 % 256) (x / 4294967296 % 256)
    (x / 16777216 % 256) (x / 65536 % 256) (x / 256 % 256) (x % 256)
swapped_bytes x =
    eight (swapped x) (x / 72057594037927936 % 256) (x / 281474976710656 % 256) (x / 1099511627776 % 256) (x / 4294967296 % 256) (x / 16777216 % 256) (x / 65536 % 256) (x / 256 % 256) (x % 256)
    (omega arith) (omega arith) (omega arith) (omega arith) (omega arith) (omega arith) (omega arith) (omega arith) (omega arith)

bytes_of : (x : ℕ) → x < 2 ^ 64
    → x / 72057594037927936 % 256 * 72057594037927936 + x / 281474976710656 % 256 * 281474976710656 + x / 1099511627776 % 256 * 1099511627776
    + x / 4294967296 % 256 * 4294967296 + x / 16777216 % 256 * 16777216 + x / 65536 % 256 * 65536 + x / 256 % 256 * 256 + x % 256
    ≡ x
bytes_of x h =
    sum_of x (x / 256) (x / 65536) (x / 16777216) (x / 4294967296) (x / 1099511627776) (x / 281474976710656) (x / 72057594037927936) _ _ _ _ _ _ _ _
    (omega arith) (omega arith) (omega arith) (omega arith) (omega arith) (omega arith) (omega arith) (omega arith)

pub swapped_twice : (x : ℕ) → x < 2 ^ 64 → swapped (swapped x) ≡ x
swapped_twice x h = let d = swapped_bytes x in rw (d.at0, d.at1, d.at2, d.at3, d.at4, d.at5, d.at6, d.at7) (bytes_of x h)

-- ---- bytes compared as they stand

four_fits : (q : ℕ) → q < 2 ^ 32 → q * 4294967296 < 2 ^ 64
four_fits q h = omega arith

module _ (s : List ℕ) (i : ℕ) (b : Bytes s) where
  word_low : low_first s i < 2 ^ 64
  word_low = omega (arith, b i, b (i + 1), b (i + 2), b (i + 3), b (i + 4), b (i + 5), b (i + 6), b (i + 7))

  pub word_same : (q : ℕ) → low_first s i ≡ q → field s (8 * i) 64 ≡ swapped q
  word_same q e = sym (load_word s i b (low_first s i) refl) ∙ ap swapped e

  pub same_word : (q : ℕ) → q < 2 ^ 64 → field s (8 * i) 64 ≡ swapped q → low_first s i ≡ q
  same_word q h e =
      sym (swapped_twice (low_first s i) word_low)
      ∙ ap swapped (load_word s i b (low_first s i) refl ∙ e)
      ∙ swapped_twice q h

  -- four bytes, as a number of 64 bits whose first bytes they are
  four : field s (8 * i) 32 ≡ get_or s i 0 * 16777216 + get_or s (i + 1) 0 * 65536 + get_or s (i + 2) 0 * 256 + get_or s (i + 3) 0
  four =
      omega (
        arith,
        field_zero s (8 * i),
        byte_more s (8 * i) 0 i (omega arith) (b i),
        byte_more s (8 * i) 8 (i + 1) (omega arith) (b (i + 1)),
        byte_more s (8 * i) 16 (i + 2) (omega arith) (b (i + 2)),
        byte_more s (8 * i) 24 (i + 3) (omega arith) (b (i + 3)),
      )

  swapped_four : swapped (low_first_four s i * 4294967296) ≡ field s (8 * i) 32
  swapped_four =
      let d =
      eight (low_first_four s i * 4294967296) 0 0 0 0 (get_or s i 0) (get_or s (i + 1) 0) (get_or s (i + 2) 0) (get_or s (i + 3) 0)
      (omega arith) (omega arith) (omega arith) (omega arith) (b i) (b (i + 1)) (b (i + 2)) (b (i + 3)) (omega arith) in
      rw (d.at0, d.at1, d.at2, d.at3, d.at4, d.at5, d.at6, d.at7) (omega (arith, four))

  four_low : low_first_four s i * 4294967296 < 2 ^ 64
  four_low = omega (arith, b i, b (i + 1), b (i + 2), b (i + 3))

  pub four_same : (q : ℕ) → low_first_four s i ≡ q → field s (8 * i) 32 ≡ swapped (q * 2 ^ 32)
  four_same q e = sym swapped_four ∙ ap (λ (x : ℕ). swapped (x * 4294967296)) e

  pub same_four : (q : ℕ) → q < 2 ^ 32 → field s (8 * i) 32 ≡ swapped (q * 2 ^ 32) → low_first_four s i ≡ q
  same_four q h e =
      let z : low_first_four s i * 4294967296 ≡ q * 4294967296 =
      sym (swapped_twice (low_first_four s i * 4294967296) four_low) ∙ ap swapped (swapped_four ∙ e) ∙ swapped_twice (q * 4294967296) (four_fits q h) in
      omega arith
