-- The number that groups stand for: its bound, its parts, and its two halves.
use Rattle.std.specs.Prelude.{Ok, Err}
use Prim.Native.Nat.{ℕ, zero, suc, ◌+◌, ◌-◌, ◌*◌, ◌/◌, ◌%◌, ◌^◌, ◌≤◌, ◌<◌}
use native.Mathlib.Nat.{add-zero, zero-add, zero-mul, mul_assoc, mul_comm, mul_right_comm, add-mul, pow-suc, div-add-mod', div-lt_iff_lt-mul, mod-lt, lt_of_le_of_lt}
use lib.Pow.{pow-add}
use lib.Arith.{digits_lt}
use native.Mathlib.Omega.{arith}
use mathlib.Core.Path.{◌≡◌, refl, sym, ap, ◌∙◌}
use mathlib.Core.Bool.{Bool, true, false, cond, ◌&&◌}
use mathlib.Core.List.{List, [], ◌∷◌, ◌++◌}
use mathlib.Core.Option.{Option, none, some}
use lib.ListN.{length, replicate}
use lib.Dec.{leb, ltb, eqb, lit<}
use borrow.Author.Tests.{ltb-true, leb-true, lt-ltb, le-ltb, eq-eqb}
use Rattle.laws.specs.Cases.{both_true}
use Rattle.keys.specs.Key.{key_of}
use Rattle.settings.specs.declared.refusal.Refusal.TheVariants as refusal
use Rattle.text_read.specs.Class.{class_of}
use Rattle.text_read.specs.Numerals.{digits, number, group}
use Rattle.text_read.specs.Reading.{push, dotted, or_else, groups, filled, joined}
use Rattle.text_read.specs.Answers.{keyed}
use Rattle.text_read.specs.Gathered.{Gathered, made, Sized, filled_with}
use Rattle.text_read.specs.ReaderSteps.{dotted_from, filled_by}
use Rattle.text_read.specs.theory.Joined.{digit_more, Small, joined_append}
use Rattle.text_read.proofs.Fields.{digit_most}
use Rattle.text_read.proofs.Splits.{halves, dotted_halves, dotted_below}
use Rattle.text_read.specs.declared.groups.Groups.TheInside.{Inside}

-- Each group is below 65,536 ----------------------------------------------------------------------------------------------

number_bound : (f : List ℕ) (n v : ℕ) → digits 16 f ≡ true → v < 16 ^ n → number 16 v f < 16 ^ (n + length f)
unfolding number digits
number_bound [] n v d h = rw (add-zero n) h
number_bound (x ∷ f) n v d h =
    let p = both_true (ltb (class_of x) 16) (digits 16 f) d in
    let e : n + suc (length f) ≡ n + 1 + length f = omega arith in
    rw e (number_bound f (n + 1) (v * 16 + class_of x) p.1 (digit_more 16 n v (class_of x) h (ltb-true (class_of x) 16 p.0)))

abbrev pub AllSmall : Option (List ℕ) → Type 0
AllSmall none = Unit {0}
AllSmall (some l) = Small l

abbrev One : Option ℕ → Type 0
One none = Unit {0}
One (some v) = v < 65536

group_one : (f : List ℕ) → One (group f)
unfolding group
group_one f = go (digits 16 f && leb 1 (length f) && leb (length f) 4) refl
  where
    go : (b : Bool) → (digits 16 f && leb 1 (length f) && leb (length f) 4) ≡ b → One (cond b (some (number 16 0 f)) none)
    go true e =
        let p = both_true (digits 16 f && leb 1 (length f)) (leb (length f) 4) e in
        let q = both_true (digits 16 f) (leb 1 (length f)) p.0 in
        digit_most 16 (0 + length f) 4 (number 16 0 f) (lit< tt) (number_bound f 0 0 q.0 (lit< tt)) (omega (arith, leb-true (length f) 4 p.1))
    go false e = tt

pub group_small : (f : List ℕ) (v : ℕ) → group f ≡ some v → v < 65536
group_small f v e = rw e at (group_one f)

pub dotted_small : (t : List ℕ) → AllSmall (dotted t)
dotted_small t = rw (dotted_halves t) (go (dotted_from 0 0 t) refl)
  where
    go : (o : Option ℕ) → dotted_from 0 0 t ≡ o → AllSmall (halves o)
    go none e = tt
    go (some w) e = (omega (arith, dotted_below t w e), (omega arith, tt))

push_small : (o : Option ℕ) (r : Option (List ℕ)) → One o → AllSmall r → AllSmall (push o r)
unfolding push
push_small none r a b = tt
push_small (some v) none a b = tt
push_small (some v) (some l) a b = (a, b)

pub groups_small : (end : Bool) (fs : List (List ℕ)) → AllSmall (groups end fs)
unfolding groups
groups_small end [] = tt
groups_small end (f ∷ []) = go (group f) (group_one f) end
  where
    go : (o : Option ℕ) → One o → (d : Bool) → AllSmall (or_else o (cond d (dotted f) none))
    go none k true = unfold or_else in dotted_small f
    go none k false = unfold or_else in tt
    go (some v) k d = unfold or_else in (k, tt)
groups_small end (f ∷ g ∷ fs) = push_small (group f) (groups end (g ∷ fs)) (group_one f) (groups_small end (g ∷ fs))

-- The number --------------------------------------------------------------------------------------------------------------

shift : (v g w : ℕ) → (v * 65536 + g) * w ≡ v * (w * 65536) + g * w
shift v g w = omega (arith, add-mul (v * 65536) g w, mul_right_comm v 65536 w, mul_assoc v w 65536)

pub joined_from : (v : ℕ) (l : List ℕ) → joined v l ≡ v * 65536 ^ length l + joined 0 l
unfolding joined
joined_from v [] = omega arith
joined_from v (g ∷ l) =
    let p : joined (v * 65536 + g) l ≡ (v * 65536 + g) * 65536 ^ length l + joined 0 l = joined_from (v * 65536 + g) l in
    let q : joined (0 * 65536 + g) l ≡ (0 * 65536 + g) * 65536 ^ length l + joined 0 l = joined_from (0 * 65536 + g) l in
    p ∙ rw (pow-suc, q, zero-add g, shift v g (65536 ^ length l)) (omega arith)

pub joined_zeros : (v n : ℕ) → joined v (replicate n 0) ≡ v * 65536 ^ n
unfolding joined
joined_zeros v zero = omega arith
joined_zeros v (suc n) = joined_zeros (v * 65536 + 0) n ∙ rw (pow-suc, shift v 0 (65536 ^ n)) (omega arith)

-- Two halves ------------------------------------------------------------------------------------------------------------

abbrev number_of : Inside → ℕ
number_of g = g.high * 2 ^ 64 + g.low

abbrev gathered_of : Inside → Gathered
gathered_of g = made (number_of g) g.count

abbrev Sound : Inside → Type 0
Sound g = Sized g.high g.low g.count

top_half : (r h l : ℕ) → h * 2 ^ 64 + l < r * 2 ^ 64 → h < r
top_half r h l b = omega arith

low_only : (g : Inside) → number_of g < 2 ^ 64 → number_of g ≡ g.low
low_only g h = omega arith

-- The gap ---------------------------------------------------------------------------------------------------------------

pub filled_key : (a : List ℕ) (o : Option (List ℕ)) → keyed (filled (some a) o) ≡ filled_by (joined 0 a) (length a) o
unfolding filled filled_by filled_with
filled_key a none = unfold keyed in refl
filled_key a (some b) = go (ltb (length a + length b) 8) refl
  where
    number_filled : length a + length b < 8 → joined 0 (a ++ replicate (8 - (length a + length b)) 0 ++ b) ≡ joined 0 a * 65536 ^ (8 - length a) + joined 0 b
    number_filled h =
        let e : 8 - (length a + length b) + length b ≡ 8 - length a = omega arith in
        joined_append 0 (a ++ replicate (8 - (length a + length b)) 0) b
        ∙ ap (λ (v : ℕ). joined v b) (joined_append 0 a (replicate (8 - (length a + length b)) 0) ∙ joined_zeros (joined 0 a) (8 - (length a + length b)))
        ∙ joined_from (joined 0 a * 65536 ^ (8 - (length a + length b))) b
        ∙ ap (λ (v : ℕ). v + joined 0 b) (mul_assoc (joined 0 a) (65536 ^ (8 - (length a + length b))) (65536 ^ length b) ∙ rw (sym (pow-add 65536 (8 - (length a + length b)) (length b)), e))

    go : (t : Bool) → ltb (length a + length b) 8 ≡ t
        → keyed (cond t (some (a ++ replicate (8 - (length a + length b)) 0 ++ b)) none) ≡ cond t (Ok (key_of (joined 0 a * 65536 ^ (8 - length a) + joined 0 b))) (Err refusal.Text)
    go true e = unfold keyed in rw (number_filled (ltb-true (length a + length b) 8 e))
    go false e = unfold keyed in refl

-- The key -----------------------------------------------------------------------------------------------------------------

pub key_halves : (n h l : ℕ) → l < 2 ^ 64 → n ≡ h * 2 ^ 64 + l → key_of n ≡ record { high = h; low = l }
unfolding key_of
key_halves n h l b e =
    let p : n / 2 ^ 64 ≡ h = omega arith in
    let q : n % 2 ^ 64 ≡ l = omega arith in
    rw (p, q)

filled_found : (v n w m h l : ℕ) → n + m < 8 → l < 2 ^ 64 → v * 65536 ^ (8 - n) + w ≡ h * 2 ^ 64 + l
    → filled_with v n w m ≡ Ok (record { high = h; low = l })
unfolding filled_with
filled_found v n w m h l lt b e = rw (lt-ltb (n + m) 8 lt, key_halves (v * 65536 ^ (8 - n) + w) h l b e)

pub filled_none : (v n w m : ℕ) → 7 < n + m → filled_with v n w m ≡ Err refusal.Text
unfolding filled_with
filled_none v n w m h = rw (le-ltb (n + m) 8 h)

pub power_bits : (n : ℕ) → 2 ^ (16 * n) ≡ 65536 ^ n
power_bits zero = refl
power_bits (suc n) =
    let e : 16 * suc n ≡ 16 * n + 16 = omega arith in
    rw (e, pow-add 2 (16 * n) 16, power_bits n) (sym (pow-suc 65536 n))

-- k groups of w fit below the n groups above them, and eight are the most
below : (n k w : ℕ) → w < 65536 ^ k → n + k ≤ 7 → w < 65536 ^ (8 - n)
below n k w h l = digit_most 65536 k (8 - n) w (lit< tt) h (omega arith)

-- The powers are never written out, as `omega` stops at 38 digits.
none_up : (v p w : ℕ) → v ≡ 0 → v * p + w ≡ w
none_up v p w e = rw (e, zero-mul p) (zero-add w)

low_up : (high low p w x : ℕ) → high ≡ 0 → (high * 2 ^ 64 + low) * (p * 2 ^ 64) + (w * 2 ^ 64 + x) ≡ (low * p + w) * 2 ^ 64 + x
low_up high low p w x e =
    let n : high * 2 ^ 64 + low ≡ low = omega arith in
    rw n (omega (arith, mul_assoc low p (2 ^ 64)))

record Up (n high low p w x : ℕ) : Type 0 where
  pub fits : low * p + w < 2 ^ 64
  pub number : (high * 2 ^ 64 + low) * 65536 ^ (8 - n) + (w * 2 ^ 64 + x) ≡ (low * p + w) * 2 ^ 64 + x

up : (n high low p w x : ℕ) → high * 2 ^ 64 + low < 65536 ^ n → w * 2 ^ 64 + x < 65536 ^ (8 - n) → w < 2 ^ 64 → n ≤ 4
    → p ≡ 65536 ^ ((4 - n) % 4) → Up n high low p w x
up zero high low p w x f b h l e =
    let z : high * 2 ^ 64 + low ≡ 0 = omega arith in
    let y : low ≡ 0 = omega arith in
    let u : low * p + w ≡ w = none_up low p w y in
    record { fits = rw u h; number = none_up (high * 2 ^ 64 + low) (65536 ^ 8) (w * 2 ^ 64 + x) z ∙ rw u }
up (suc n) high low p w x f b h l e =
    let i : (4 - suc n) % 4 ≡ 4 - suc n = omega arith in
    let j : suc n + (4 - suc n) ≡ 4 = omega arith in
    let k : 8 - suc n ≡ 4 - suc n + 4 = omega arith in
    let q : p ≡ 65536 ^ (4 - suc n) = e ∙ rw i in
    let s : 65536 ^ suc n * p ≡ 2 ^ 64 = rw (q, ← pow-add 65536 (suc n) (4 - suc n), j) in
    let t : 65536 ^ (8 - suc n) ≡ p * 2 ^ 64 = rw (k, pow-add 65536 (4 - suc n) 4, q) in
    let a : high * 2 ^ 64 + low < 2 ^ 64 = digit_most 65536 (suc n) 4 (high * 2 ^ 64 + low) (lit< tt) f l in
    let c : low < 65536 ^ suc n = lt_of_le_of_lt (omega arith) f in
    let d : w < p = omega (arith, rw t at b) in
    record { fits = rw s at (digits_lt c d); number = rw t (low_up high low p w x (omega arith)) }

-- what groups make, by their halves: s and t are what the halves `head` and `tail` stand for
module _ (s : Gathered) (head : Inside) (es : gathered_of head ≡ s) (sh : Sound head) where
  pub eight_key : head.count ≡ 8 → cond (eqb s.count 8) (Ok (key_of s.number)) (Err refusal.Text) ≡ Ok (record { high = head.high; low = head.low })
  eight_key e = rw (← es, eq-eqb head.count 8 e, key_halves (number_of head) head.high head.low sh.half refl)

  module _ (t : Gathered) (tail : Inside) (et : gathered_of tail ≡ t) (st : Sound tail) where
    pub filled_over : 7 < head.count + tail.count → filled_with s.number s.count t.number t.count ≡ Err refusal.Text
    filled_over h = rw (← es, ← et) (filled_none (number_of head) head.count (number_of tail) tail.count h)

    -- at most four groups, moved up by p: the high half has room for them and for the tail's high half
    pub record Raised (p : ℕ) : Type 0 where
      pub fits : head.low * p + tail.high < 2 ^ 64
      pub answer : filled_with s.number s.count t.number t.count ≡ Ok (record { high = head.low * p + tail.high; low = tail.low })

    pub raised : (p : ℕ) → s.count ≤ 4 → s.count + t.count ≤ 7 → p ≡ 65536 ^ ((4 - head.count) % 4) → Raised p
    raised p l m e =
        let n : head.count ≡ s.count = ap (λ (g : Gathered). g.count) es in
        let k : tail.count ≡ t.count = ap (λ (g : Gathered). g.count) et in
        let h : tail.high < 2 ^ 64 = top_half (65536 ^ 4) tail.high tail.low (digit_most 65536 tail.count 8 (number_of tail) (lit< tt) st.fits st.most) in
        let u = up head.count head.high head.low p tail.high tail.low sh.fits (below head.count tail.count (number_of tail) st.fits (omega arith)) h (omega arith) e in
        record {
          fits = u.fits;
          answer =
              rw (← es, ← et)
              (filled_found (number_of head) head.count (number_of tail) tail.count (head.low * p + tail.high) tail.low (omega arith) st.half u.number);
        }

    -- five to seven groups: there is room for the tail's, which are below 2^64, as the last of eight
    pub record Pushed : Type 0 where
      pub fits : tail.low < 65536 ^ (8 - head.count)
      pub room : s.count + (8 - head.count) ≤ 8
      pub answer : cond (eqb (s.count + (8 - head.count)) 8) (Ok (key_of (s.number * 65536 ^ (8 - head.count) + tail.low))) (Err refusal.Text) ≡ filled_with s.number s.count t.number t.count

    pub pushed : 4 < head.count → head.count + tail.count ≤ 7 → Pushed
    unfolding filled_with
    pushed l m =
        let n = head.count in
        let w : number_of tail < 65536 ^ (8 - n) = below n tail.count (number_of tail) st.fits m in
        let v : number_of tail ≡ tail.low = low_only tail (digit_most 65536 (8 - n) 4 (number_of tail) (lit< tt) w (omega arith)) in
        let c : n + (8 - n) ≡ 8 = omega arith in
        record {
          fits = rw v at w;
          room = rw (← es) (omega arith);
          answer = rw (← es, ← et, eq-eqb (n + (8 - n)) 8 c, lt-ltb (n + tail.count) 8 (omega arith), v);
        }

across : (high low x q r : ℕ) → r * q ≡ 2 ^ 64 → (high * 2 ^ 64 + low) * q + x ≡ (high * q + low / r) * 2 ^ 64 + (low % r * q + x)
across high low x q r h =
    let e : low * q ≡ low / r * 2 ^ 64 + low % r * q =
    ap (λ (n : ℕ). n * q) (sym (div-add-mod' low r)) ∙ add-mul (low / r * r) (low % r) q ∙ ap (λ (n : ℕ). n + low % r * q) (mul_assoc (low / r) r q ∙ ap (λ (n : ℕ). low / r * n) h)
    in
    omega (arith, add-mul (high * 2 ^ 64) low q, mul_right_comm high (2 ^ 64) q)

-- More groups -----------------------------------------------------------------------------------------------------------

-- n groups more, the number x, behind groups s that are moved up by q; the upper ones of the low half are low / r: both halves have room
pub record Moved (s : Gathered) (g : Inside) (n x q r : ℕ) : Type 0 where
  pub some : 0 < r
  pub high : g.high * q + g.low / r < 2 ^ 64
  pub low : g.low % r * q + x < 2 ^ 64
  pub sized : Sized (g.high * q + g.low / r) (g.low % r * q + x) (g.count + n)
  pub groups : gathered_of (record { high = g.high * q + g.low / r; low = g.low % r * q + x; count = g.count + n }) ≡ made (s.number * 65536 ^ n + x) (s.count + n)

pub moved_up : (s : Gathered) (g : Inside) (n x q r : ℕ) → gathered_of g ≡ s → Sound g → n ≤ 4 → s.count + n ≤ 8 → x < 65536 ^ n
    → q ≡ 65536 ^ n → r ≡ 65536 ^ (4 - n) → Moved s g n x q r
moved_up s g n x q r es z l m h e k =
    let c : g.count ≡ s.count = ap (λ (g : Gathered). g.count) es in
    let i : 4 - n + n ≡ 4 = omega arith in
    let j : 8 - n ≡ 4 - n + 4 = omega arith in
    let w : r * q ≡ 2 ^ 64 = rw (e, k, ← pow-add 65536 (4 - n) n, i) in
    let t : 65536 ^ (8 - n) ≡ r * 2 ^ 64 = ap (λ (y : ℕ). 65536 ^ y) j ∙ pow-add 65536 (4 - n) 4 ∙ rw k in
    let f : number_of g < r * 2 ^ 64 = rw t at (digit_most 65536 g.count (8 - n) (number_of g) (lit< tt) z.fits (omega arith)) in
    let a : g.high < r = omega arith in
    let o : 0 < r = omega arith in
    let b : g.low / r < q = (div-lt_iff_lt-mul o).1 (rw (mul_comm q r, w) z.half) in
    let u : x < q = rw e h in
    let d : g.low % r * q + x < 2 ^ 64 = rw w at (digits_lt (mod-lt g.low o) u) in
    let y : number_of g * 65536 ^ n + x ≡ (g.high * q + g.low / r) * 2 ^ 64 + (g.low % r * q + x) =
    ap (λ (y : ℕ). number_of g * y + x) (sym e) ∙ across g.high g.low x q r w in
    record {
      some = o;
      high = rw w at (digits_lt a b);
      low = d;
      sized = record { fits = rw (← y, pow-add 65536 g.count n) (digits_lt z.fits h); half = d; most = omega arith };
      groups = rw (← es, y);
    }
