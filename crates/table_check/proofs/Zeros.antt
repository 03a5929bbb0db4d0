-- Bits that are zero: a run in parts, and the slots that it holds.
use mathlib.Core.Path.{◌≡◌, refl, sym, ap, ap₂, ◌∙◌}
use mathlib.Core.Bool.{Bool, ◌&&◌}
use mathlib.Core.List.{List, [], ◌∷◌}
use Prim.Native.Nat.{ℕ, zero, suc, ◌+◌, ◌-◌, ◌*◌, ◌/◌, ◌%◌, ◌^◌, ◌<◌}
use native.Mathlib.Omega.{arith}
use native.Mathlib.Nat.{zero-div, zero-mod}
use lib.ListN.{length, drop}
use lib.Pow.{pow_pos}
use lib.Dec.{eqb}
use borrow.Author.Tests.{eq-eqb, ne_eqb}
use Rattle.std.specs.List.{list_all, range_with_len}
use Rattle.laws.specs.Folds.{all_zero, every_below}
use Rattle.bits.specs.Field.{field}
use Rattle.bits.specs.theory.Fields.{field_cat, sub_field}
use Rattle.settings.specs.declared.layout.Layout.{Layout}
use Rattle.table.specs.Arrays.{tabulate, packed, unpacked}
use Rattle.table.specs.State.{Basic, Overflow, basic_at, overflow_at, rest_bits, unpack, own_slots}
use Rattle.table.specs.Decode.{basic_slots, overflow_slots, read_basic, read_overflow, decode}
use Rattle.table.specs.Table.{Table}
use Rattle.table.specs.theory.Arrays.{tab_ext, fields_packed}
use Rattle.table.specs.theory.Changes.{at_basic, at_over}
use Rattle.table_read.specs.theory.Reads.{unpacked_fields}

-- ---- a run of bits in parts

pub zero_part : (s : List ℕ) (off w a n b : ℕ) → a + n + b ≡ w → field s off w ≡ 0 → field s (off + a) n ≡ 0
zero_part s off w a n b e z =
    sym (sub_field s off w a n b e)
    ∙ ap (λ (x : ℕ). x / 2 ^ b % 2 ^ n) z
    ∙ ap (λ (x : ℕ). x % 2 ^ n) (zero-div (2 ^ b))
    ∙ zero-mod (2 ^ n)

pub zero_more : (s : List ℕ) (off a n b : ℕ) → b ≡ a + n → field s off a ≡ 0 → field s (off + a) n ≡ 0 → field s off b ≡ 0
zero_more s off a n b e p q = rw (e, field_cat s off a n, p, q) (omega arith)

-- ---- slots in a row

zero_sum : (x p q : ℕ) → 0 < p → (eqb x 0 && eqb q 0) ≡ eqb (x * p + q) 0
zero_sum zero p q h =
    let e : 0 * p + q ≡ q = omega arith in
    rw e
zero_sum (suc x) p q h =
    rw (ne_eqb (suc x) 0 (λ e. omega arith)) (sym (ne_eqb (suc x * p + q) 0 (λ e. omega arith)))

zero_packed : (w : ℕ) (xs : List ℕ) → all_zero xs ≡ eqb (packed w xs) 0
zero_packed w [] = sym (eq-eqb 0 0 refl)
zero_packed w (x ∷ xs) =
    ap (λ (q : Bool). eqb x 0 && q) (zero_packed w xs) ∙ zero_sum x (2 ^ (length xs * w)) (packed w xs) (pow_pos (length xs * w))

zero_fields : (s : List ℕ) (w n off : ℕ) → all_zero (tabulate n (λ k. field s (off + k * w) w)) ≡ eqb (field s off (n * w)) 0
zero_fields s w n off =
    zero_packed w (tabulate n (λ k. field s (off + k * w) w)) ∙ ap (λ (x : ℕ). eqb x 0) (sym (fields_packed s w n off))

drop_tab : {A : Type 0} (c n : ℕ) (f : ℕ → A) → drop c (tabulate n f) ≡ tabulate (n - c) (λ k. f (c + k))
drop_tab zero n f =
    let z : n ≡ n - 0 = omega arith in
    tab_ext n (λ k. f (0 + k)) f (λ j l. let e : j ≡ 0 + j = omega arith in ap f e) ∙ ap (λ (m : ℕ). tabulate m (λ k. f (0 + k))) z
drop_tab (suc c) zero f = let e : 0 - suc c ≡ 0 = omega arith in rw e
drop_tab (suc c) (suc n) f =
    let e : suc n - suc c ≡ n - c = omega arith in
    drop_tab c n (λ i. f (suc i))
    ∙ ap (λ (m : ℕ). tabulate m (λ k. f (suc (c + k)))) (sym e)
    ∙ tab_ext (suc n - suc c) (λ k. f (suc c + k)) (λ k. f (suc (c + k))) (λ j l. let q : suc (c + j) ≡ suc c + j = omega arith in ap f q)

-- the slots from slot c on
zero_from : (s : List ℕ) (w n off c : ℕ)
    → all_zero (drop c (tabulate n (λ k. field s (off + k * w) w))) ≡ eqb (field s (off + c * w) ((n - c) * w)) 0
zero_from s w n off c =
    ap all_zero
    (drop_tab c n (λ k. field s (off + k * w) w)
    ∙ tab_ext (n - c) (λ k. field s (off + c * w + k * w) w) (λ k. field s (off + (c + k) * w) w)
    (λ j l. let e : off + (c + j) * w ≡ off + c * w + j * w = omega arith in ap (λ (x : ℕ). field s x w) e))
    ∙ zero_fields s w (n - c) (off + c * w)

-- ---- the slots of blocks

module _ (g : Layout) (t : List ℕ) (T : Table g t) where
  pub over_zeros : (j c : ℕ) → j < g.nob
      → all_zero (drop c (overflow_at (decode g t).overflow j).slots) ≡ eqb (field t (overflow_slots g j + c * g.slot) ((g.sio - c) * g.slot)) 0
  unfolding read_overflow
  over_zeros j c h =
      ap (λ (o : Overflow). all_zero (drop c o.slots)) (at_over g T.proper t j h)
      ∙ zero_from t g.slot g.sio (overflow_slots g j) c

  own_slots_lem : (i : ℕ) → i < g.lists
      → own_slots g (basic_at (decode g t).basic i)
      ≡ tabulate g.sib (λ k. field t (basic_slots g i + k * g.slot) g.slot)
  unfolding unpack read_basic
  own_slots_lem i h =
      let e : g.sib * g.slot ≡ g.link + rest_bits g = omega (arith, T.proper.link_fits) in
      ap (λ (b : Basic). unpacked g.slot g.sib (b.head * 2 ^ rest_bits g + b.rest)) (at_basic g T.proper t i h)
      ∙ ap (unpacked g.slot g.sib) (sym (ap (field t (basic_slots g i)) e ∙ field_cat t (basic_slots g i) g.link (rest_bits g)))
      ∙ unpacked_fields t g.slot g.sib (basic_slots g i)

  pub basic_zeros : (i c : ℕ) → i < g.lists
      → all_zero (drop c (own_slots g (basic_at (decode g t).basic i)))
      ≡ eqb (field t (basic_slots g i + c * g.slot) ((g.sib - c) * g.slot)) 0
  basic_zeros i c h =
      ap (λ (es : List ℕ). all_zero (drop c es)) (own_slots_lem i h)
      ∙ zero_from t g.slot g.sib (basic_slots g i) c

-- ---- a test of each number in a range

pub all_in_range : (f q : ℕ → Bool) (a n : ℕ) → ((i : ℕ) → f (a + i) ≡ q i) → list_all f (range_with_len a n) ≡ every_below n q
all_in_range f q a zero h = refl
all_in_range f q a (suc n) h =
    let e : a ≡ a + 0 = omega arith in
    ap₂ ◌&&◌ (ap f e ∙ h 0)
    (all_in_range f (λ i. q (suc i)) (a + 1) n (λ i. let w : a + 1 + i ≡ a + suc i = omega arith in ap f w ∙ h (suc i)))
