-- A key and its place say the same: each is found from the other.
use Rattle.std.specs.Prelude.{◌≡◌, refl, ℕ, zero, suc, ◌+◌, ◌-◌, ◌/◌, ◌%◌, ◌^◌, ◌<◌}
use Rattle.std.proofs.Common.{sym, ◌∙◌, mod-eq_of_lt, le_of_eq, arith, pow_pos, pow_mono}
use Rattle.std.proofs.Math.Path.{ap, ap₂}
use Rattle.std.proofs.Math.Nat.{mod-lt, lt_of_lt_of_le}
use Rattle.std.specs.Int.Bits.{bit_xor, differ, xor_step, xor_lt}
use Rattle.std.proofs.Math.Arith.{digits_lt}
use Rattle.std.proofs.Math.Pow.{pow-add, shr_lt, split, high, low}
use Rattle.settings.specs.Sizes.{bie}
use Rattle.settings.specs.Legal.{Legal}
use Rattle.keys.specs.Key.{key_number, key_of, index, entry, hash, list_number, rebuilt}
use Rattle.settings.specs.declared.settings.Settings.{Settings}
use Rattle.keys.specs.declared.Key.{Key}

-- ---- xor undoes itself

by_bit : (P : ℕ → Type 0) → P 0 → P 1 → (x : ℕ) → x < 2 → P x
by_bit P a b zero h = a
by_bit P a b (suc zero) h = b
by_bit P a b (suc (suc x)) h = absurd (omega arith)

differ_lt : (x y : ℕ) → x < 2 → y < 2 → differ x y < 2
differ_lt x y hx hy =
    by_bit (λ n. differ n y < 2)
    (by_bit (λ m. differ 0 m < 2) (omega arith) (omega arith) y hy)
    (by_bit (λ m. differ 1 m < 2) (omega arith) (omega arith) y hy)
    x
    hx

differ_twice : (x y : ℕ) → x < 2 → y < 2 → differ (differ x y) y ≡ x
differ_twice x y hx hy =
    by_bit (λ n. differ (differ n y) y ≡ n)
    (by_bit (λ m. differ (differ 0 m) m ≡ 0) refl refl y hy)
    (by_bit (λ m. differ (differ 1 m) m ≡ 1) refl refl y hy)
    x
    hx

pub xor_twice : (n a b : ℕ) → a < 2 ^ n → b < 2 ^ n → bit_xor (bit_xor a b) b ≡ a
xor_twice zero a b ha hb =
    let z : a ≡ 0 = omega arith in
    let y : b ≡ 0 = omega arith in
    rw (z, y)
xor_twice (suc n) a b ha hb =
    let bit = differ_lt (a % 2) (b % 2) (omega arith) (omega arith) in
    let once = xor_step a b in
    let half : bit_xor a b / 2 ≡ bit_xor (a / 2) (b / 2) = omega arith in
    let odd : bit_xor a b % 2 ≡ differ (a % 2) (b % 2) = omega arith in
    let halves = ap (λ (x : ℕ). bit_xor x (b / 2)) half ∙ xor_twice n (a / 2) (b / 2) (omega arith) (omega arith) in
    let bits = ap (λ (x : ℕ). differ x (b % 2)) odd ∙ differ_twice (a % 2) (b % 2) (omega arith) (omega arith) in
    omega (arith, xor_step (bit_xor a b) b)

-- ---- a key and its number

pub number_key : (n : ℕ) → key_number (key_of n) ≡ n
unfolding key_number key_of
number_key n = split n 64

pub key_number_lem : (k : Key) → k.low < 2 ^ 64 → key_of (key_number k) ≡ k
unfolding key_number key_of
key_number_lem k h =
    let e = high k.high 64 h in
    let f = low k.high 64 h in
    λ i. record { high = e i; low = f i }

pub key_below : (k : Key) → k.high < 2 ^ 64 → k.low < 2 ^ 64 → key_number k < 2 ^ 128
unfolding key_number
key_below k h l = digits_lt h l

-- a key whose number is known is the key of that number
pub key_from : (k : Key) {n : ℕ} → k.low < 2 ^ 64 → key_number k ≡ n → k ≡ key_of n
key_from k h e = sym (key_number_lem k h) ∙ ap key_of e

-- ---- a key and its place

module _ (s : Settings) where
  pub hash_below : (e : ℕ) → hash s e < 2 ^ s.bii
  unfolding hash
  hash_below e = mod-lt _ (pow_pos s.bii)

  pub entry_below : (k : ℕ) → entry s k < 2 ^ bie s
  unfolding entry
  entry_below k = mod-lt k (pow_pos (bie s))

module _ {s : Settings} (legal : Legal s) where
  widths : s.bii + bie s ≡ s.w
  widths = let h = legal.ranges.bii_below in omega arith

  pub index_below : {k : ℕ} → k < 2 ^ s.w → index s k < 2 ^ s.bii
  unfolding index
  index_below {k} h = shr_lt s.bii (bie s) (rw widths h)

  pub list_below : {k : ℕ} → k < 2 ^ s.w → list_number s k < 2 ^ s.bii
  unfolding list_number
  list_below {k} h = xor_lt s.bii (index s k) (hash s (entry s k)) (index_below h) (hash_below s (entry s k))

  -- an entry has no bit above its low 128 - bii
  pub entry_whole : {e : ℕ} → e < 2 ^ bie s → e % 2 ^ (128 - s.bii) ≡ e
  entry_whole h =
      let wide = legal.ranges.w_high in
      mod-eq_of_lt (lt_of_lt_of_le h (pow_mono (omega arith)))

  -- clause 3.3: a list's number and an entry give the key back
  pub key_rebuilt : {k : ℕ} → k < 2 ^ s.w → rebuilt s (list_number s k) (entry s k) ≡ k
  unfolding rebuilt list_number index entry
  key_rebuilt {k} h =
      rw (xor_twice s.bii (index s k) (hash s (entry s k)) (index_below h) (hash_below s (entry s k))) (split k (bie s))

  module _ {list e : ℕ} (list_high : list < 2 ^ s.bii) (e-high : e < 2 ^ bie s) where
    index_rebuilt : index s (rebuilt s list e) ≡ bit_xor list (hash s e)
    unfolding index rebuilt
    index_rebuilt = high (bit_xor list (hash s e)) (bie s) e-high

    pub entry_rebuilt : entry s (rebuilt s list e) ≡ e
    unfolding entry rebuilt
    entry_rebuilt = low (bit_xor list (hash s e)) (bie s) e-high

    pub list_rebuilt : list_number s (rebuilt s list e) ≡ list
    unfolding list_number
    list_rebuilt =
        ap₂ bit_xor index_rebuilt (ap (hash s) entry_rebuilt)
        ∙ xor_twice s.bii list (hash s e) list_high (hash_below s e)

    pub rebuilt_below : rebuilt s list e < 2 ^ s.w
    unfolding rebuilt
    rebuilt_below =
        let h = digits_lt (xor_lt s.bii list (hash s e) list_high (hash_below s e)) e-high in
        let power : 2 ^ s.w ≡ 2 ^ (s.bii + bie s) = ap (λ (n : ℕ). 2 ^ n) (sym widths) in
        lt_of_lt_of_le h (le_of_eq (sym (power ∙ pow-add 2 s.bii (bie s))))
