-- What is read where the first bits of slots count as something else, and the slots of blocks as rows of fields.
use Rattle.std.specs.Prelude.{◌≡◌, refl, get_or, false, eqb}
use Rattle.std.proofs.Math.Path.{sym, ap, ap₂}
use Rattle.std.proofs.Common.{◌∙◌, inr, sub-add_cancel, mod-eq_of_lt, pow_mono, eq-eqb, ne_eqb, eqb-true}
use mathlib.Core.List.{List, ◌∷◌}
use Prim.Native.Nat.{ℕ, zero, suc, ◌+◌, ◌-◌, ◌*◌, ◌/◌, ◌%◌, ◌^◌, ◌≤◌, ◌<◌, min}
use native.Mathlib.Omega.{arith}
use Rattle.std.proofs.Math.Nat.{mul-le-mul_right}
use Rattle.std.proofs.Math.ListN.{length, take}
use Rattle.std.proofs.Math.Pow.{split, high, low}
use Rattle.std.proofs.lemmas.Bool.{eqb-false}
use Rattle.laws.specs.Cases.{cases}
use Rattle.bits.specs.Field.{field}
use Rattle.bits.specs.Put.{put_field}
use Rattle.bits.specs.theory.Fields.{field_lt, field_fits, field_cat, first_field, last_field, sub_field, field_parts}
use Rattle.bits.specs.theory.Puts.{put_zero, put_same, put_own, put_out}
use Rattle.settings.specs.Proper.{Proper}
use Rattle.keys.specs.Key.{key_number, key_of}
use Rattle.keys.specs.theory.Keys.{number_key, key_from}
use Rattle.keys.specs.declared.Key.{Key}
use Rattle.settings.specs.declared.layout.Layout.{Layout}
use Rattle.table.specs.Arrays.{tabulate, unpacked}
use Rattle.table.specs.State.{Basic, Overflow, basic_at, overflow_at, rest_bits, unpack, own_slots, entry_of, label_of}
use Rattle.table.specs.Decode.{block_at, basic_slots, link_at, owner_at, overflow_slots, read_basic, read_overflow, decode}
use Rattle.table.specs.Table.{Table}
use Rattle.table_read.specs.Steps.{restored_bytes, FieldWithin, SlotsWithin, slots_in, basic_run, displaced_run, overflow_run}
use Rattle.table.specs.theory.Arrays.{length_tab, get_or_tab, tab_ext}
use Rattle.table.specs.theory.Changes.{basic_ends, over_ends, start_high, bits_high, at_basic, at_over}
use Rattle.table_read.specs.declared.slots.Slots.{Slots}

-- ---- a field that lies behind the displaced bits, in them, or across their end

module _ (t : List ℕ) (b : Slots) (at : ℕ) where
  pub restored_bytes_out : (n : ℕ) → FieldWithin t b at n → b.start + b.displaced ≤ at → field t at n ≡ field (restored_bytes t b) at n
  unfolding restored_bytes
  restored_bytes_out n v o = sym (put_out t b.start b.displaced b.value at n v.block (inr o))

  pub restored_bytes_in : (n : ℕ) → FieldWithin t b at n → at + n ≤ b.start + b.displaced
      → b.value / 2 ^ (b.start + b.displaced - at - n) % 2 ^ n ≡ field (restored_bytes t b) at n
  unfolding restored_bytes
  restored_bytes_in n v o =
      let e : at - b.start + n + (b.start + b.displaced - at - n) ≡ b.displaced = omega (arith, v.from) in
      let f : b.start + (at - b.start) ≡ at = omega (arith, v.from) in
      ap (λ (x : ℕ). x / 2 ^ (b.start + b.displaced - at - n) % 2 ^ n) (sym (put_same t b.start b.displaced b.value v.block v.fits))
      ∙ sub_field (put_field t b.start b.displaced b.value) b.start b.displaced (at - b.start) n (b.start + b.displaced - at - n) e
      ∙ ap (λ (x : ℕ). field (put_field t b.start b.displaced b.value) x n) f

  pub restored_bytes_across : (n k m : ℕ) → FieldWithin t b at n → at + k ≡ b.start + b.displaced → k + m ≡ n
      → b.value / 2 ^ 0 % 2 ^ k * 2 ^ m + field t (b.start + b.displaced) m ≡ field (restored_bytes t b) at n
  unfolding restored_bytes
  restored_bytes_across n k m v e f =
      let z : b.start + b.displaced - at - k ≡ 0 = omega arith in
      let p : FieldWithin t b at k =
      record { from = v.from; ends = omega (arith, v.ends); near = omega (arith, v.near); block = v.block; narrow = v.narrow; fits = v.fits } in
      ap₂ (λ (x y : ℕ). x * 2 ^ m + y)
      (ap (λ (x : ℕ). b.value / 2 ^ x % 2 ^ k) (sym z) ∙ restored_bytes_in k p (omega arith))
      (sym (put_out t b.start b.displaced b.value (b.start + b.displaced) m v.block (inr (omega arith)))
      ∙ ap (λ (x : ℕ). field (put_field t b.start b.displaced b.value) x m) (sym e))
      ∙ sym (field_cat (put_field t b.start b.displaced b.value) at k m)
      ∙ ap (field (put_field t b.start b.displaced b.value) at) f

-- ---- a slot's entry and label

module _ (g : Layout) (F : Proper g) (s : List ℕ) (at : ℕ) where
  pub slot_entry : entry_of g (field s at g.slot) ≡ field s at g.bie
  slot_entry = ap (λ (w : ℕ). field s at w / 2 ^ g.val) F.slot_is ∙ first_field s at g.bie g.val

  pub slot_label : label_of g (field s at g.slot) ≡ field s (at + g.bie) g.val
  slot_label = ap (λ (w : ℕ). field s at w % 2 ^ g.val) F.slot_is ∙ last_field s at g.bie g.val

-- an entry is compared with the bits of a field: all at once, or the last 64 and then the others
pub entry_low : (k : Key) (n : ℕ) → n ≤ 64 → key_number k < 2 ^ n → key_number k ≡ k.low
unfolding key_number
entry_low k n h l = let m = pow_mono h in omega arith

-- numbers whose last m bits are the same are the same if their other bits are
same_above : (x e m : ℕ) → x % 2 ^ m ≡ e % 2 ^ m → eqb (x / 2 ^ m) (e / 2 ^ m) ≡ eqb x e
same_above x e m q =
    cases (eqb (x / 2 ^ m) (e / 2 ^ m))
    (λ p. rw p (sym (eq-eqb x e (sym (split x m) ∙ ap₂ (λ (a b : ℕ). a * 2 ^ m + b) (eqb-true (x / 2 ^ m) (e / 2 ^ m) p) q ∙ split e m))))
    (λ p. rw p (sym (ne_eqb x e (λ r. eqb-false (x / 2 ^ m) (e / 2 ^ m) p (ap (λ (y : ℕ). y / 2 ^ m) r)))))

-- a field is compared by its last m bits and then by the others
module _ (s : List ℕ) (at n m e : ℕ) (h : m ≤ n) where
  last_bits : field s at n % 2 ^ m ≡ field s (at + (n - m)) m
  last_bits = ap (λ (w : ℕ). field s at w % 2 ^ m) (sym (sub-add_cancel h)) ∙ last_field s at (n - m) m

  first_bits : field s at n / 2 ^ m ≡ field s at (n - m)
  first_bits = ap (λ (w : ℕ). field s at w / 2 ^ m) (sym (sub-add_cancel h)) ∙ first_field s at (n - m) m

  pub last_differ : (field s (at + (n - m)) m ≡ e % 2 ^ m → ⊥) → eqb (field s at n) e ≡ false
  last_differ d = ne_eqb (field s at n) e (λ q. d (sym last_bits ∙ ap (λ (x : ℕ). x % 2 ^ m) q))

  pub last_same : field s (at + (n - m)) m ≡ e % 2 ^ m → eqb (field s at (n - m)) (e / 2 ^ m) ≡ eqb (field s at n) e
  last_same q = ap (λ (x : ℕ). eqb x (e / 2 ^ m)) (sym first_bits) ∙ same_above (field s at n) e m (last_bits ∙ q)

module _ (s : List ℕ) (at n : ℕ) (k : Key) (h : 64 ≤ n) (l : k.low < 2 ^ 64) where
  pub entry_differs : (field s (at + (n - 64)) 64 ≡ k.low → ⊥) → eqb (field s at n) (key_number k) ≡ false
  unfolding key_number
  entry_differs d = last_differ s at n 64 (k.high * 2 ^ 64 + k.low) h (λ q. d (q ∙ low k.high 64 l))

  pub entry_halves : field s (at + (n - 64)) 64 ≡ k.low → eqb (field s at (n - 64)) k.high ≡ eqb (field s at n) (key_number k)
  unfolding key_number
  entry_halves q =
      ap (eqb (field s at (n - 64))) (sym (high k.high 64 l))
      ∙ last_same s at n 64 (k.high * 2 ^ 64 + k.low) h (q ∙ sym (low k.high 64 l))

module _ (g : Layout) (t : List ℕ) (b : Slots) where
  pub slots_length : length (slots_in g t b) ≡ b.count
  unfolding slots_in
  slots_length = length_tab b.count _

  pub slot_in_lem : (k : ℕ) → k < b.count → get_or (slots_in g t b) k 0 ≡ field (restored_bytes t b) (b.start + k * g.slot) g.slot
  unfolding slots_in
  slot_in_lem k h = get_or_tab b.count _ k 0 h

  pub entry_in : Proper g → (k : ℕ) → k < b.count → entry_of g (get_or (slots_in g t b) k 0) ≡ field (restored_bytes t b) (b.start + k * g.slot) g.bie
  entry_in F k h = ap (entry_of g) (slot_in_lem k h) ∙ slot_entry g F (restored_bytes t b) (b.start + k * g.slot)

  -- and it has bie bits
  pub entry_bound : Proper g → (j : ℕ) → j < b.count → (k : Key) → k ≡ key_of (entry_of g (get_or (slots_in g t b) j 0)) → key_number k < 2 ^ g.bie
  entry_bound F j l k e =
      rw (e, number_key (entry_of g (get_or (slots_in g t b) j 0)), entry_in F j l) (field_lt (restored_bytes t b) (b.start + j * g.slot) g.bie)

  pub label_in_lem : Proper g → (k : ℕ) → k < b.count
      → label_of g (get_or (slots_in g t b) k 0) ≡ field (restored_bytes t b) (b.start + k * g.slot + g.bie) g.val
  label_in_lem F k h = ap (label_of g) (slot_in_lem k h) ∙ slot_label g F (restored_bytes t b) (b.start + k * g.slot)

  pub slot_inside : (k : ℕ) → k < b.count → b.start + k * g.slot + g.slot ≤ b.start + b.count * g.slot
  slot_inside k h = omega (arith, mul-le-mul_right g.slot h)

  -- the entry of slot k is within the slots
  pub entry_within : Proper g → SlotsWithin g t b → (k at : ℕ) → k < b.count → at ≡ b.start + k * g.slot → FieldWithin t b at g.bie
  entry_within F R k at h e =
      let r = slot_inside k h in
      record {
        from = omega arith;
        ends = omega (arith, R.ends, F.slot_is);
        near = omega (arith, R.near, F.slot_is);
        block = R.block;
        narrow = R.narrow;
        fits = R.fits;
      }

-- a field of up to 128 bits as a key, of one number and of two
module _ (s : List ℕ) (at n : ℕ) where
  pub short_key : n ≤ 64 → (k : Key) → k.high ≡ 0 → k.low ≡ field s at n → k ≡ key_of (field s at n)
  unfolding key_number
  short_key h k e f = key_from k (omega (arith, field_fits s at n 64 h)) (omega arith)

  pub long_key : 64 < n → (k : Key) → k.high ≡ field s at (n - 64) → k.low ≡ field s (at + (n - 64)) 64 → k ≡ key_of (field s at n)
  unfolding key_number
  long_key h k e f =
      key_from k (omega (arith, field_lt s (at + (n - 64)) 64)) (field_parts s at (n - 64) 64 n k.high k.low (omega arith) e f)

-- ---- rows of fields

pub take_tab : {A : Type 0} (c n : ℕ) (f : ℕ → A) → take c (tabulate n f) ≡ tabulate (min c n) f
take_tab zero n f = let z : min 0 n ≡ 0 = omega arith in rw z
take_tab (suc c) zero f = let z : min (suc c) 0 ≡ 0 = omega arith in rw z
take_tab (suc c) (suc n) f =
    let z : min (suc c) (suc n) ≡ suc (min c n) = omega arith in
    rw z (ap (f 0 ∷◌) (take_tab c n (λ i. f (suc i))))

pub unpacked_fields : (s : List ℕ) (w n at : ℕ) → unpacked w n (field s at (n * w)) ≡ tabulate n (λ k. field s (at + k * w) w)
unpacked_fields s w zero at = refl
unpacked_fields s w (suc n) at =
    let e : suc n * w ≡ w + n * w = omega arith in
    let z : at ≡ at + 0 * w = omega arith in
    let l : field s (at + w) (n * w) < 2 ^ (n * w) = field_lt s (at + w) (n * w) in
    let q : field s at (suc n * w) ≡ field s at w * 2 ^ (n * w) + field s (at + w) (n * w) = ap (field s at) e ∙ field_cat s at w (n * w) in
    rw (q, high (field s at w) (n * w) l, low (field s at w) (n * w) l)
    (ap₂ ◌∷◌
    (mod-eq_of_lt (field_lt s at w) ∙ ap (λ (x : ℕ). field s x w) z)
    (unpacked_fields s w n (at + w)
    ∙ tab_ext n (λ k. field s (at + suc k * w) w) (λ k. field s (at + w + k * w) w)
    (λ j h. let d : at + w + j * w ≡ at + suc j * w = omega arith in ap (λ (x : ℕ). field s x w) d)))

-- a basic block has sib slots
unpacked_length : (w n v : ℕ) → length (unpacked w n v) ≡ n
unpacked_length w zero v = refl
unpacked_length w (suc n) v = ap suc (unpacked_length w n (v % 2 ^ (n * w)))

pub unpack_length : (g : Layout) (h r : ℕ) → length (unpack g h r) ≡ g.sib
unfolding unpack
unpack_length g h r = unpacked_length g.slot g.sib (h * 2 ^ rest_bits g + r)

-- ---- the slots of blocks

module _ (g : Layout) (t : List ℕ) (T : Table g t) where
  pub basic_room : (i : ℕ) → i < g.lists → basic_slots g i + g.sib * g.slot ≤ g.bits
  unfolding basic_slots
  basic_room i h = omega (arith, basic_ends g T.proper i h, start_high g T.proper, T.proper.basic_is)

  pub overflow_room : (j : ℕ) → j < g.nob → overflow_slots g j + g.sio * g.slot ≤ g.bits
  unfolding overflow_slots
  overflow_room j h = omega (arith, over_ends g T.proper j h, T.proper.overflow_is)

  pub basic_run_within : (i n : ℕ) → i < g.lists → n ≤ g.sib → SlotsWithin g t (basic_run g i n)
  unfolding basic_run
  basic_run_within i n l k =
      let F = T.proper in
      let m : n * g.slot ≤ g.sib * g.slot = mul-le-mul_right g.slot k in
      let r = basic_room i l in
      let q = bits_high g F in
      record {
        ends = omega (arith, T.room);
        near = omega arith;
        block = omega (arith, T.room);
        narrow = omega arith;
        fits = omega arith;
        few = omega (arith, F.sib_high);
      }

  pub displaced_run_within : (i h : ℕ) → i < g.lists → h < 2 ^ g.link → SlotsWithin g t (displaced_run g i h)
  unfolding displaced_run
  displaced_run_within i h l f =
      let F = T.proper in
      let r = basic_room i l in
      let q = bits_high g F in
      record {
        ends = omega (arith, T.room);
        near = omega arith;
        block = omega (arith, F.link_fits, T.room);
        narrow = F.link_high;
        fits = f;
        few = F.sib_high;
      }

  pub overflow_run_within : (j c : ℕ) → j < g.nob → SlotsWithin g t (overflow_run g j c)
  unfolding overflow_run
  overflow_run_within j c l =
      let F = T.proper in
      let k : min (suc c) g.sio ≤ g.sio = omega arith in
      let m : min (suc c) g.sio * g.slot ≤ g.sio * g.slot = mul-le-mul_right g.slot k in
      let r = overflow_room j l in
      let q = bits_high g F in
      record {
        ends = omega (arith, T.room);
        near = omega arith;
        block = omega (arith, T.room);
        narrow = omega arith;
        fits = omega arith;
        few = omega (arith, F.sio_high);
      }

  -- the fields of a block are those of the decoded state
  pub basic_counter_field : (i : ℕ) → i < g.lists → field t (block_at g.basic i) g.basic.counter ≡ (basic_at (decode g t).basic i).counter
  unfolding read_basic
  basic_counter_field i h = sym (ap (λ (b : Basic). b.counter) (at_basic g T.proper t i h))

  pub head_field : (i : ℕ) → i < g.lists → field t (block_at g.basic i + g.basic.counter) g.link ≡ (basic_at (decode g t).basic i).head
  unfolding basic_slots read_basic
  head_field i h = sym (ap (λ (b : Basic). b.head) (at_basic g T.proper t i h))

  pub overflow_counter_field : (j : ℕ) → j < g.nob → field t (block_at g.overflow j) g.overflow.counter ≡ (overflow_at (decode g t).overflow j).counter
  unfolding read_overflow
  overflow_counter_field j h = sym (ap (λ (o : Overflow). o.counter) (at_over g T.proper t j h))

  pub link_field : (j : ℕ) → j < g.nob → field t (block_at g.overflow j + g.overflow.counter) g.link ≡ (overflow_at (decode g t).overflow j).link
  unfolding link_at read_overflow
  link_field j h = sym (ap (λ (o : Overflow). o.link) (at_over g T.proper t j h))

  pub owner_field : (j : ℕ) → j < g.nob
      → field t (block_at g.overflow j + (g.overflow.counter + g.link)) g.owner ≡ (overflow_at (decode g t).overflow j).owner
  unfolding owner_at read_overflow
  owner_field j h = sym (ap (λ (o : Overflow). o.owner) (at_over g T.proper t j h))

  -- what stands in a field fits it
  pub head_lt : (i : ℕ) → i < g.lists → (basic_at (decode g t).basic i).head < 2 ^ g.link
  unfolding read_basic
  head_lt i h = rw (ap (λ (b : Basic). b.head) (at_basic g T.proper t i h)) (field_lt t (basic_slots g i) g.link)

  pub link_lt : (j : ℕ) → j < g.nob → (overflow_at (decode g t).overflow j).link < 2 ^ g.link
  unfolding read_overflow
  link_lt j h = rw (ap (λ (o : Overflow). o.link) (at_over g T.proper t j h)) (field_lt t (link_at g j) g.link)

  -- a decoded block has sio slots
  pub sized : (j : ℕ) → j < g.nob → length (overflow_at (decode g t).overflow j).slots ≡ g.sio
  unfolding read_overflow
  sized j h = ap (λ (o : Overflow). length o.slots) (at_over g T.proper t j h) ∙ length_tab g.sio _

  -- the slots of a basic block, whose first L bits count as h
  pub displaced_slots_in : (i h : ℕ) → i < g.lists → h < 2 ^ g.link → slots_in g t (displaced_run g i h) ≡ unpack g h (basic_at (decode g t).basic i).rest
  unfolding slots_in restored_bytes displaced_run unpack read_basic
  displaced_slots_in i h l f =
      let F = T.proper in
      let e : g.sib * g.slot ≡ g.link + rest_bits g = omega (arith, F.link_fits) in
      let r : basic_slots g i + g.link ≤ 8 * length t = omega (arith, basic_room i l, F.link_fits, T.room) in
      let u : List ℕ = put_field t (basic_slots g i) g.link h in
      sym
      (ap (λ (b : Basic). unpacked g.slot g.sib (h * 2 ^ rest_bits g + b.rest)) (at_basic g F t i l)
      ∙ ap (unpacked g.slot g.sib)
      (sym
      (ap (field u (basic_slots g i)) e
      ∙ field_cat u (basic_slots g i) g.link (rest_bits g)
      ∙ ap₂ (λ (x y : ℕ). x * 2 ^ rest_bits g + y)
      (put_same t (basic_slots g i) g.link h r f)
      (put_out t (basic_slots g i) g.link h (basic_slots g i + g.link) (rest_bits g) r (inr (omega arith)))))
      ∙ unpacked_fields u g.slot g.sib (basic_slots g i))

  -- the first n of them, as they stand
  own_head : (i : ℕ) → i < g.lists → put_field t (basic_slots g i) g.link (basic_at (decode g t).basic i).head ≡ t
  unfolding read_basic
  own_head i l =
      ap (λ (b : Basic). put_field t (basic_slots g i) g.link b.head) (at_basic g T.proper t i l) ∙ put_own t (basic_slots g i) g.link

  standing : (i n : ℕ) → i < g.lists → n ≤ g.sib
      → slots_in g t (basic_run g i n) ≡ take n (slots_in g t (displaced_run g i (basic_at (decode g t).basic i).head))
  unfolding slots_in restored_bytes basic_run displaced_run
  standing i n l k =
      let z : n ≡ min n g.sib = omega arith in
      ap₂ (λ (s : List ℕ) (m : ℕ). tabulate m (λ q. field s (basic_slots g i + q * g.slot) g.slot)) (put_zero t (basic_slots g i) 0 ∙ sym (own_head i l)) z
      ∙ sym (take_tab n g.sib (λ q. field (put_field t (basic_slots g i) g.link (basic_at (decode g t).basic i).head) (basic_slots g i + q * g.slot) g.slot))

  pub basic_slots_in : (i n : ℕ) → i < g.lists → n ≤ g.sib
      → slots_in g t (basic_run g i n) ≡ take n (own_slots g (basic_at (decode g t).basic i))
  basic_slots_in i n l k = standing i n l k ∙ ap (take n) (displaced_slots_in i (basic_at (decode g t).basic i).head l (head_lt i l))

  -- the slots in use of an overflow block
  pub overflow_slots_in : (j c : ℕ) → j < g.nob → slots_in g t (overflow_run g j c) ≡ take (suc c) (overflow_at (decode g t).overflow j).slots
  unfolding slots_in restored_bytes overflow_run read_overflow
  overflow_slots_in j c l =
      ap (λ (s : List ℕ). tabulate (min (suc c) g.sio) (λ k. field s (overflow_slots g j + k * g.slot) g.slot)) (put_zero t (overflow_slots g j) 0)
      ∙ sym
      (ap (λ (o : Overflow). take (suc c) o.slots) (at_over g T.proper t j l)
      ∙ take_tab (suc c) g.sio (λ k. field t (overflow_slots g j + k * g.slot) g.slot))
