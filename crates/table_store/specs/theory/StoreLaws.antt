-- The places of stores, and what each store does to the decoded state.
use Rattle.std.specs.Prelude.{◌≡◌, ◌≢◌, ◌⊎◌, ℕ, zero, suc, ◌+◌, ◌-◌, ◌*◌, ◌/◌, ◌%◌, ◌^◌, ◌≤◌, ◌<◌, get_or, set}
use Rattle.std.proofs.Math.Path.{refl, sym, ap}
use Rattle.std.proofs.Common.{ap₂, ◌∙◌, inl, inr, add-zero, zero-add, lt_of_lt_of_le, mod-lt, get_or-set_same, set-set, shr_lt, pow_pos, pow_mono, pow-add}
use mathlib.Core.List.{List, [], ◌∷◌}
use native.Mathlib.Omega.{arith}
use Rattle.std.proofs.Math.Nat.{mul-le-mul_right, zero-div, zero-mod, mul-mod_left}
use Rattle.std.proofs.Math.Decide.{dec_le}
use Rattle.std.proofs.Math.ListN.{length}
use Rattle.std.proofs.Math.Pow.{high, low, split}
use Rattle.std.proofs.lemmas.Nat.{shl-shr, mod-pow-add}
use Rattle.std.proofs.Math.Arith.{digits_lt}
use Rattle.settings.specs.Legal.{most_bits}
use Rattle.bits.specs.Bytes.{Bytes}
use Rattle.bits.specs.Field.{field}
use Rattle.bits.specs.Put.{replaced, put_field}
use Rattle.bits.specs.theory.Fields.{field_cat, field_lt, sub_field}
use Rattle.bits.specs.theory.Puts.{put_length, put_bytes, put_same, put_own, put_out, put_cat, put_in, put_put, put_comm}
use Rattle.settings.specs.Proper.{Proper}
use Rattle.settings.specs.declared.layout.Layout.{Layout}
use Rattle.table.specs.Arrays.{tabulate, packed, unpacked, padded}
use Rattle.table.specs.State.{Basic, Overflow, State, mk_overflow, mk_state, empty_basic, absent_block, basic_at, overflow_at, empty_block, rest_bits, unpack, head_of, rest_of, own_slots, slot_of}
use Rattle.table.specs.Updates.{with_head, with_free, with_rest, with_slot, with_link, with_counter, over_basic, with_basic_counter, over_overflow}
use Rattle.table.specs.Decode.{block_at, basic_slots, link_at, owner_at, overflow_slots, read_basic, read_overflow, decode, written}
use Rattle.table.specs.Table.{Table, Only}
use Rattle.table.specs.Store.{slot_in}
use Rattle.table.specs.theory.Arrays.{tab_ext, tab_set, fields_packed}
use Rattle.table.specs.theory.Decode.{put_only, only_refl, only_trans, only_wide, written_of}
use Rattle.table_read.specs.Places.{basic_slot, overflow_slot}
use Rattle.table.specs.theory.Changes.{bits_high, basic_ends, over_ends, start_low, start_high, slot_ends, slot_low, decode_free, decode_basic, decode_over, at_basic, at_over}
use Rattle.table_read.specs.theory.Places.{basic_slot_ends}
use Rattle.table_read.specs.theory.Reads.{unpacked_fields}
use Rattle.table_store.specs.Stores.{Slotted, free_put, basic_counter_put, head_put, overflow_counter_put, link_put, owner_put, slot_put, Stored, StoredOver}
use Rattle.table.specs.theory.Formed.{basics}
use Rattle.table.specs.theory.Written.{join_fits}

-- a table stays one where the length does
pub table_kept : {g : Layout} {t : List ℕ} (u : List ℕ) → length u ≡ length t → Table g t → Table g u
table_kept u e T = record { proper = T.proper; room = omega (arith, T.room) }

-- ---- a slot in parts

pub slot_lt : (g : Layout) → Proper g → (e label : ℕ) → Slotted g e label → slot_of g e label < 2 ^ g.slot
slot_lt g F e label S = rw F.slot_is (join_fits g.bie g.val S.entry_fits S.label_fits)

-- what put_slot asks and leaves, in a table
pub slot_asks : (g : Layout) (t : List ℕ) → Table g t → (at e label : ℕ) → at + g.slot ≤ g.bits → Slotted g e label
    → (at + (g.bie + g.val) ≤ 8 * length t) × (at + (g.bie + g.val) ≤ most_bits) × (g.bie ≤ 128) × (g.val ≤ 32) × (e < 2 ^ g.bie) × (label < 2 ^ g.val)
slot_asks g t T at e label l S =
    let F = T.proper in
    (omega (arith, F.slot_is, T.room), omega (arith, F.slot_is, bits_high g F), F.bie_high, F.val_high, S.entry_fits, S.label_fits)

pub slot_put_lem : (g : Layout) → Proper g → (t u : List ℕ) (at x : ℕ) → u ≡ put_field t at (g.bie + g.val) x → u ≡ slot_put g t at x
unfolding slot_put
slot_put_lem g F t u at x e = e ∙ ap (λ (n : ℕ). put_field t at n x) (sym F.slot_is)

-- what copy asks, for a slot of a table
pub copy_asks : (g : Layout) (t : List ℕ) → Table g t → (from to : ℕ) → from + g.slot ≤ g.bits → to + g.slot ≤ g.bits
    → (1 ≤ g.slot) × (g.slot ≤ 160) × (from + g.slot ≤ 8 * length t) × (from + g.slot ≤ most_bits) × (to + g.slot ≤ 8 * length t) × (to + g.slot ≤ most_bits)
copy_asks g t T from to l m =
    let F = T.proper in
    let high = bits_high g F in
    let room = T.room in
    (omega (arith, F.slot_is, F.bie_low), omega (arith, F.slot_is, F.bie_high, F.val_high), omega arith, omega arith, omega arith, omega arith)

-- a slot as two words of 64 bits, where the label's bits push out the first bits of the low one
module _ (val : ℕ) (hv : val ≤ 32) where
  whole_word : 2 ^ (64 - val) * 2 ^ val ≡ 2 ^ 64
  whole_word =
      let e : 64 - val + val ≡ 64 = omega arith in
      sym (pow-add 2 (64 - val) val) ∙ ap (λ (n : ℕ). 2 ^ n) e

  pushed : (lo : ℕ) → lo * 2 ^ val % 2 ^ 64 ≡ lo % 2 ^ (64 - val) * 2 ^ val
  pushed lo =
      let e : 64 - val + val ≡ 64 = omega arith in
      rw e at (mod-pow-add (lo * 2 ^ val) (64 - val) val) ∙ rw (shl-shr lo val, mul-mod_left lo (2 ^ val)) (add-zero _)

  pub low_word : (lo label : ℕ) → label < 2 ^ val → lo * 2 ^ val % 2 ^ 64 + label < 2 ^ 64
  low_word lo label h = rw (pushed lo) (rw whole_word at (digits_lt (mod-lt lo (pow_pos (64 - val))) h))

  pub high_word : (hi lo : ℕ) → hi < 2 ^ (64 - val) → lo < 2 ^ 64 → hi * 2 ^ val + lo / 2 ^ (64 - val) < 2 ^ 64
  high_word hi lo h l =
      let e : val + (64 - val) ≡ 64 = omega arith in
      let q : lo / 2 ^ (64 - val) < 2 ^ val = shr_lt val (64 - val) (rw e l) in
      rw whole_word at (digits_lt h q)

  pub slot_words : (hi lo label : ℕ) → (hi * 2 ^ val + lo / 2 ^ (64 - val)) * 2 ^ 64 + (lo * 2 ^ val % 2 ^ 64 + label) ≡ (hi * 2 ^ 64 + lo) * 2 ^ val + label
  slot_words hi lo label =
      omega (
        arith,
        pushed lo,
        ap (λ (x : ℕ). x * 2 ^ val) (split lo (64 - val)),
        ap (λ (x : ℕ). lo / 2 ^ (64 - val) * x) whole_word,
      )

-- the first word of an entry whose slot has at most 128 bits
pub entry_high : (hi lo bie val : ℕ) → val ≤ 32 → bie + val ≤ 128 → lo < 2 ^ 64 → hi * 2 ^ 64 + lo < 2 ^ bie → hi < 2 ^ (64 - val)
entry_high hi lo bie val hv hn l h =
    let w : hi * 2 ^ 64 + lo < 2 ^ (64 - val + 64) = lt_of_lt_of_le h (pow_mono (omega arith)) in
    rw (high hi 64 l) at (shr_lt (64 - val) 64 w)

-- two fields side by side, the second put first
pub put_back : (t a u : List ℕ) (at m p k n x y v : ℕ) → Bytes t → p + k ≤ 8 * length t → p ≡ at + m → m + k ≡ n → y < 2 ^ k → v ≡ x * 2 ^ k + y
    → a ≡ put_field t p k y → u ≡ put_field a at m x → u ≡ put_field t at n v
put_back t a u at m p k n x y v b l ep en hy ev ea eu =
    eu
    ∙ ap (λ (s : List ℕ). put_field s at m x) ea
    ∙ sym
    (ap₂ (put_field t at) (sym en) ev
    ∙ put_cat t at m k (x * 2 ^ k + y)
    ∙ ap₂ (λ (q w : ℕ). put_field (put_field t at m q) (at + m) k w) (high x k hy) (low x k hy)
    ∙ ap (λ (o : ℕ). put_field (put_field t at m x) o k y) (sym ep)
    ∙ put_comm t at m x p k y b (omega arith) l)

-- ---- a store over displaced bits

module _ (m n : ℕ) (t u : List ℕ) (base h at x : ℕ) where
  -- store by store
  pub stored_over : (a b : List ℕ) (old new : ℕ) → old ≡ field t base m → a ≡ put_field t base m h → b ≡ put_field a at n x → new ≡ field b base m → u ≡ put_field b base m old
      → StoredOver m n t u base h at x new
  stored_over a b old new eo ea eb en eu = record { head = rw (en, eb, ea); bytes = rw (eu, eb, ea, eo) }

  -- behind the displaced bits nothing of them is touched
  pub over_behind : Bytes t → base + m ≤ at → at + n ≤ 8 * length t → h < 2 ^ m → u ≡ put_field t at n x → StoredOver m n t u base h at x h
  over_behind b l r hh e =
      let y = put_field t at n x in
      let long : length y ≡ length t = put_length t at n x in
      let c : put_field (put_field t base m h) at n x ≡ put_field y base m h = put_comm t base m h at n x b l r in
      record {
        head = sym (ap (λ (s : List ℕ). field s base m) c ∙ put_same y base m h (omega arith) hh);
        bytes =
            e
            ∙ sym
            (ap (λ (s : List ℕ). put_field s base m (field t base m)) c
            ∙ put_put y base m h (field t base m) (put_bytes t at n x b) (omega arith)
            ∙ ap (put_field y base m) (sym (put_out t at n x base m r (inl l)))
            ∙ put_own y base m);
      }

-- ---- zeros

-- a byte with its last m bits zero, and with its first k bits zero
pub first_bits : (b m : ℕ) → b / 2 ^ m * 2 ^ m ≡ replaced b 0 m 0
unfolding replaced
first_bits b m = rw (zero-add m) (omega arith)

pub last_bits : (b k : ℕ) → k ≤ 8 → b < 256 → b % 2 ^ (8 - k) ≡ replaced b (8 - k) k 0
unfolding replaced
last_bits b k h l =
    let e : 8 - k + k ≡ 8 = omega arith in
    let z : b / 256 ≡ 0 = omega arith in
    rw (e, z) (omega arith)

-- zeros to the end of the byte where they begin, in the byte where they end, and in a row
pub clear_first : (s : List ℕ) (off x : ℕ) → off < 8 * length s → x ≡ replaced (get_or s (off / 8) 0) 0 (8 - off % 8) 0 → set s (off / 8) x ≡ put_field s off (8 - off % 8) 0
clear_first s off x l e =
    let p : 8 * (off / 8) + off % 8 ≡ off = omega arith in
    ap (set s (off / 8)) e
    ∙ sym (rw (p, zero-mod (2 ^ (8 - off % 8))) at (put_in s (off / 8) (off % 8) (8 - off % 8) 0 0 (omega arith) (omega arith)))

pub clear_last : (s : List ℕ) (i k x : ℕ) → i < length s → k ≤ 8 → x ≡ replaced (get_or s i 0) (8 - k) k 0 → set s i x ≡ put_field s (8 * i) k 0
clear_last s i k x l h e =
    let p : 8 * i + 0 ≡ 8 * i = omega arith in
    ap (set s i) e ∙ sym (rw (p, zero-mod (2 ^ k)) at (put_in s i 0 k (8 - k) 0 l (omega arith)))

pub clear_more : (s t u : List ℕ) (off d p m n : ℕ) → p ≡ off + d → d + m ≡ n → t ≡ put_field s off d 0 → u ≡ put_field t p m 0 → u ≡ put_field s off n 0
clear_more s t u off d p m n ep en et eu =
    eu
    ∙ ap₂ (λ (x : List ℕ) (q : ℕ). put_field x q m 0) et ep
    ∙ sym
    (ap (λ (w : ℕ). put_field s off w 0) (sym en)
    ∙ put_cat s off d m 0
    ∙ ap₂ (λ (x y : ℕ). put_field (put_field s off d x) (off + d) m y) (zero-div (2 ^ m)) (zero-mod (2 ^ m)))

zero_part : (t : List ℕ) (off n a m : ℕ) → off + n ≤ 8 * length t → a + m ≤ n → field (put_field t off n 0) (off + a) m ≡ 0
zero_part t off n a m l h =
    let e : a + m + (n - (a + m)) ≡ n = omega arith in
    sym (sub_field (put_field t off n 0) off n a m (n - (a + m)) e)
    ∙ ap (λ (v : ℕ). v / 2 ^ (n - (a + m)) % 2 ^ m) (put_same t off n 0 l (pow_pos n))
    ∙ ap (λ (v : ℕ). v % 2 ^ m) (zero-div (2 ^ (n - (a + m))))
    ∙ zero-mod (2 ^ m)

zeros : (n : ℕ) (f : ℕ → ℕ) → ((k : ℕ) → k < n → f k ≡ 0) → tabulate n f ≡ padded n []
zeros zero f z = refl
zeros (suc n) f z = ap₂ ◌∷◌ (z 0 (omega arith)) (zeros n (λ k. f (suc k)) (λ k l. z (suc k) (omega arith)))

-- ---- rows of slots

slot_apart : (at w j k : ℕ) → j ≢ k → (at + j * w + w ≤ at + k * w) ⊎ (at + k * w + w ≤ at + j * w)
slot_apart at w j k ne = pick (dec_le j k)
  where
    pick : Dec (j ≤ k) → (at + j * w + w ≤ at + k * w) ⊎ (at + k * w + w ≤ at + j * w)
    pick (yes l) = let p : j < k = omega arith in inl (omega (arith, mul-le-mul_right w p))
    pick (no f) = let p : k < j = omega arith in inr (omega (arith, mul-le-mul_right w p))

tab_put : (t : List ℕ) (w n at p x : ℕ) → at + p * w + w ≤ 8 * length t → x < 2 ^ w
    → tabulate n (λ k. field (put_field t (at + p * w) w x) (at + k * w) w) ≡ set (tabulate n (λ k. field t (at + k * w) w)) p x
tab_put t w n at p x l h =
    tab_set n (λ k. field t (at + k * w) w) (λ k. field (put_field t (at + p * w) w x) (at + k * w) w) p
    (λ j _ ne. put_out t (at + p * w) w x (at + j * w) w l (slot_apart at w j p ne))
    ∙ ap (set (tabulate n (λ k. field t (at + k * w) w)) p) (put_same t (at + p * w) w x l h)

-- ---- states with one block changed

abbrev pub with_owner : ℕ → Overflow → Overflow
with_owner i o = mk_overflow o.counter o.link i o.slots

pub basic_twice : (i : ℕ) (f h : Basic → Basic) (st : State) → i < length st.basic → over_basic i f (over_basic i h st) ≡ over_basic i (λ b. f (h b)) st
basic_twice i f h st l =
    ap (λ (xs : List Basic). mk_state st.free xs st.overflow)
    (ap (λ (b : Basic). set (set st.basic i (h (basic_at st.basic i))) i (f b)) (get_or-set_same st.basic i (h (basic_at st.basic i)) empty_basic l)
    ∙ set-set st.basic i (h (basic_at st.basic i)) (f (h (basic_at st.basic i))))

pub overflow_twice : (j : ℕ) (f h : Overflow → Overflow) (st : State) → j < length st.overflow → over_overflow j f (over_overflow j h st) ≡ over_overflow j (λ o. f (h o)) st
overflow_twice j f h st l =
    ap (λ (xs : List Overflow). mk_state st.free st.basic xs)
    (ap (λ (o : Overflow). set (set st.overflow j (h (overflow_at st.overflow j))) j (f o)) (get_or-set_same st.overflow j (h (overflow_at st.overflow j)) absent_block l)
    ∙ set-set st.overflow j (h (overflow_at st.overflow j)) (f (h (overflow_at st.overflow j))))

-- ---- stores

pub stored_none : {g : Layout} {t : List ℕ} → Table g t → Stored g t t (decode g t)
stored_none {g} {t} T = record { table = T; only = only_refl t 0 g.bits; state = refl }

-- one store after another: f is what the second does to any state
pub stored_then : {g : Layout} {t u v : List ℕ} {st : State} (f : State → State) → Stored g t u st → Stored g u v (f (decode g u)) → Stored g t v (f st)
stored_then {g} {t} {u} {v} f a b =
    record { table = b.table; only = only_trans t u v 0 g.bits a.only b.only; state = b.state ∙ ap f a.state }

pub stored_as : {g : Layout} {t u : List ℕ} {st : State} (su : State) → Stored g t u st → st ≡ su → Stored g t u su
stored_as su a e = record { table = a.table; only = a.only; state = a.state ∙ e }

pub stored_written : {g : Layout} {t u : List ℕ} {st : State} → Table g t → Bytes t → Stored g t u st → u ≡ written g t st
stored_written {g} {t} {u} T b a = written_of g T.proper t u b T.room a.only ∙ ap (written g t) a.state

-- a table's own state in it is the table

module _ (g : Layout) (t : List ℕ) (T : Table g t) where
  in_basic : (u : List ℕ) (i : ℕ) (f : Basic → Basic) → i < g.lists → Only t u (block_at g.basic i) g.basic.bits → read_basic g u i ≡ f (read_basic g t i)
      → Stored g t u (over_basic i f (decode g t))
  in_basic u i f h o e =
      record {
        table = table_kept u o.long T;
        only = only_wide t u (block_at g.basic i) g.basic.bits 0 g.bits o (omega arith) (omega (arith, basic_ends g T.proper i h, start_high g T.proper));
        state =
            decode_basic g T.proper t u i h o
            ∙ ap (λ (b : Basic). mk_state (decode g t).free (set (decode g t).basic i b) (decode g t).overflow) (e ∙ ap f (sym (at_basic g T.proper t i h)));
      }

  in_overflow : (u : List ℕ) (j : ℕ) (f : Overflow → Overflow) → j < g.nob → Only t u (block_at g.overflow j) g.overflow.bits → read_overflow g u j ≡ f (read_overflow g t j)
      → Stored g t u (over_overflow j f (decode g t))
  in_overflow u j f h o e =
      record {
        table = table_kept u o.long T;
        only = only_wide t u (block_at g.overflow j) g.overflow.bits 0 g.bits o (omega arith) (omega (arith, over_ends g T.proper j h));
        state =
            decode_over g T.proper t u j o
            ∙ ap (λ (b : Overflow). mk_state (decode g t).free (decode g t).basic (set (decode g t).overflow j b)) (e ∙ ap f (sym (at_over g T.proper t j h)));
      }

  fits : (a n : ℕ) → a + n ≤ g.bits → a + n ≤ 8 * length t
  fits a n h = omega (arith, T.room)

  pub stored_free : (u : List ℕ) (f : ℕ) → f < 2 ^ g.basic.start → u ≡ free_put g t f → Stored g t u (with_free f (decode g t))
  unfolding free_put
  stored_free u f hf e =
      let l : 0 + g.basic.start ≤ 8 * length t = omega (arith, T.room, start_low g T.proper, start_high g T.proper) in
      let o : Only t u 0 g.basic.start = rw e (put_only t 0 g.basic.start f l) in
      record {
        table = table_kept u o.long T;
        only = only_wide t u 0 g.basic.start 0 g.bits o (omega arith) (omega (arith, start_low g T.proper, start_high g T.proper));
        state =
            decode_free g T.proper t u o
            ∙ ap (λ (n : ℕ). mk_state n (decode g t).basic (decode g t).overflow) (ap (λ (s : List ℕ). field s 0 g.basic.start) e ∙ put_same t 0 g.basic.start f l hf);
      }

  -- ---- a basic block

  module _ (i : ℕ) (h : i < g.lists) where
    -- a field of the block, put
    put_basic : (a n v : ℕ) → block_at g.basic i ≤ a → a + n ≤ block_at g.basic i + g.basic.bits → Only t (put_field t a n v) (block_at g.basic i) g.basic.bits
    put_basic a n v l m =
        only_wide t (put_field t a n v) a n (block_at g.basic i) g.basic.bits
        (put_only t a n v (omega (arith, T.room, basic_ends g T.proper i h, start_high g T.proper))) l m

    pub stored_basic_counter : (u : List ℕ) (n : ℕ) → n < 2 ^ g.basic.counter → u ≡ basic_counter_put g t i n
        → Stored g t u (over_basic i (with_basic_counter n) (decode g t))
    unfolding basic_counter_put read_basic basic_slots
    stored_basic_counter u n hn e =
        let F = T.proper in
        let s = F.basic_is in
        let l = fits (block_at g.basic i) g.basic.counter (omega (arith, basic_ends g F i h, start_high g F)) in
        in_basic u i (with_basic_counter n) h
        (rw e (put_basic (block_at g.basic i) g.basic.counter n (omega arith) (omega arith)))
        (rw e
        (λ k. record {
          counter = put_same t (block_at g.basic i) g.basic.counter n l hn k;
          head = put_out t (block_at g.basic i) g.basic.counter n (block_at g.basic i + g.basic.counter) g.link l (inr (omega arith)) k;
          rest = put_out t (block_at g.basic i) g.basic.counter n (block_at g.basic i + g.basic.counter + g.link) (rest_bits g) l (inr (omega arith)) k;
        }))

    pub stored_head : (u : List ℕ) (v : ℕ) → v < 2 ^ g.link → u ≡ head_put g t i v
        → Stored g t u (over_basic i (with_head v) (decode g t))
    unfolding head_put read_basic basic_slots
    stored_head u v hv e =
        let F = T.proper in
        let s = F.basic_is in
        let f = F.link_fits in
        let a = block_at g.basic i + g.basic.counter in
        let l : block_at g.basic i + g.basic.counter + g.link ≤ 8 * length t = omega (arith, T.room, basic_ends g F i h, start_high g F) in
        in_basic u i (with_head v) h
        (rw e (put_basic (block_at g.basic i + g.basic.counter) g.link v (omega arith) (omega arith)))
        (rw e
        (λ k. record {
          counter = put_out t a g.link v (block_at g.basic i) g.basic.counter l (inl (omega arith)) k;
          head = put_same t a g.link v l hv k;
          rest = put_out t a g.link v (block_at g.basic i + g.basic.counter + g.link) (rest_bits g) l (inr (omega arith)) k;
        }))

    whole : (s : List ℕ) → field s (basic_slots g i) (g.sib * g.slot) ≡ field s (basic_slots g i) g.link * 2 ^ rest_bits g + field s (basic_slots g i + g.link) (rest_bits g)
    whole s =
        let e : g.sib * g.slot ≡ g.link + rest_bits g = omega (arith, T.proper.link_fits) in
        ap (field s (basic_slots g i)) e ∙ field_cat s (basic_slots g i) g.link (rest_bits g)

    module _ (p x : ℕ) (hp : p < g.sib) (hx : x < 2 ^ g.slot) where
      abbrev there : ℕ
      there = basic_slots g i + p * g.slot

      abbrev t₁ : List ℕ
      t₁ = put_field t there g.slot x

      room_there : basic_slots g i + p * g.slot + g.slot ≤ 8 * length t
      unfolding basic_slot
      room_there = omega (arith, basic_slot_ends g T.proper i h p hp, T.room)

      -- the slots as one number
      body : packed g.slot (set (own_slots g (read_basic g t i)) p x)
          ≡ field t₁ (basic_slots g i) g.link * 2 ^ rest_bits g + field t₁ (basic_slots g i + g.link) (rest_bits g)
      unfolding unpack read_basic
      body =
          ap (λ (v : ℕ). packed g.slot (set (unpacked g.slot g.sib v) p x)) (sym (whole t))
          ∙ ap (λ (xs : List ℕ). packed g.slot (set xs p x)) (unpacked_fields t g.slot g.sib (basic_slots g i))
          ∙ ap (packed g.slot) (sym (tab_put t g.slot g.sib (basic_slots g i) p x room_there hx))
          ∙ sym (fields_packed t₁ g.slot g.sib (basic_slots g i))
          ∙ whole t₁

      before_slots : block_at g.basic i + g.basic.counter ≤ basic_slots g i + p * g.slot
      unfolding basic_slots
      before_slots = omega arith

      read_slot : read_basic g t₁ i ≡ slot_in g p x (read_basic g t i)
      unfolding read_basic head_of rest_of
      read_slot =
          let l = field_lt t₁ (basic_slots g i + g.link) (rest_bits g) in
          λ k. record {
            counter = counter_stays k;
            head = sym (ap (λ (n : ℕ). n / 2 ^ rest_bits g) body ∙ high (field t₁ (basic_slots g i) g.link) (rest_bits g) l) k;
            rest = sym (ap (λ (n : ℕ). n % 2 ^ rest_bits g) body ∙ low (field t₁ (basic_slots g i) g.link) (rest_bits g) l) k;
          }
        where
          counter_stays : field t₁ (block_at g.basic i) g.basic.counter ≡ field t (block_at g.basic i) g.basic.counter
          counter_stays = put_out t there g.slot x (block_at g.basic i) g.basic.counter room_there (inl before_slots)

      within : basic_slots g i + p * g.slot + g.slot ≤ block_at g.basic i + g.basic.bits
      unfolding basic_slots
      within = omega (arith, mul-le-mul_right g.slot hp, T.proper.basic_is)

      pub stored_basic_slot : (u : List ℕ) → u ≡ slot_put g t (basic_slot g i p) x → Stored g t u (over_basic i (slot_in g p x) (decode g t))
      unfolding slot_put basic_slot
      stored_basic_slot u e =
          in_basic u i (slot_in g p x) h (rw e (put_basic there g.slot x (omega (arith, before_slots)) within)) (rw e read_slot)

  -- ---- an overflow block

  module _ (j : ℕ) (h : j < g.nob) where
    put_overflow : (a n v : ℕ) → block_at g.overflow j ≤ a → a + n ≤ block_at g.overflow j + g.overflow.bits → Only t (put_field t a n v) (block_at g.overflow j) g.overflow.bits
    put_overflow a n v l m =
        only_wide t (put_field t a n v) a n (block_at g.overflow j) g.overflow.bits
        (put_only t a n v (omega (arith, T.room, over_ends g T.proper j h))) l m

    -- the slots stand behind counter, link and owner, and stay where one of these is put
    numbers_before : (p : ℕ) → block_at g.overflow j + (g.overflow.counter + (g.link + g.owner)) ≤ overflow_slots g j + p * g.slot
    unfolding overflow_slots
    numbers_before p = omega arith

    slots_stay : (a n v : ℕ) → a + n ≤ 8 * length t → a + n ≤ block_at g.overflow j + (g.overflow.counter + (g.link + g.owner))
        → tabulate g.sio (λ q. field (put_field t a n v) (overflow_slots g j + q * g.slot) g.slot) ≡ tabulate g.sio (λ q. field t (overflow_slots g j + q * g.slot) g.slot)
    slots_stay a n v l m =
        tab_ext g.sio (λ q. field t (overflow_slots g j + q * g.slot) g.slot) (λ q. field (put_field t a n v) (overflow_slots g j + q * g.slot) g.slot)
        (λ q _. put_out t a n v (overflow_slots g j + q * g.slot) g.slot l (inr (omega (arith, numbers_before q))))

    pub stored_overflow_counter : (u : List ℕ) (n : ℕ) → n < 2 ^ g.overflow.counter → u ≡ overflow_counter_put g t j n
        → Stored g t u (over_overflow j (with_counter n) (decode g t))
    unfolding overflow_counter_put read_overflow link_at owner_at
    stored_overflow_counter u n hn e =
        let F = T.proper in
        let s = F.overflow_is in
        let a = block_at g.overflow j in
        let l = fits (block_at g.overflow j) g.overflow.counter (omega (arith, over_ends g F j h)) in
        in_overflow u j (with_counter n) h
        (rw e (put_overflow a g.overflow.counter n (omega arith) (omega arith)))
        (rw e
        (λ k. record {
          counter = put_same t a g.overflow.counter n l hn k;
          link = put_out t a g.overflow.counter n (a + g.overflow.counter) g.link l (inr (omega arith)) k;
          owner = put_out t a g.overflow.counter n (a + (g.overflow.counter + g.link)) g.owner l (inr (omega arith)) k;
          slots = slots_stay a g.overflow.counter n l (omega arith) k;
        }))

    pub stored_link : (u : List ℕ) (v : ℕ) → v < 2 ^ g.link → u ≡ link_put g t j v
        → Stored g t u (over_overflow j (with_link v) (decode g t))
    unfolding link_put read_overflow link_at owner_at
    stored_link u v hv e =
        let F = T.proper in
        let s = F.overflow_is in
        let a = block_at g.overflow j + g.overflow.counter in
        let l = fits a g.link (omega (arith, over_ends g F j h)) in
        in_overflow u j (with_link v) h
        (rw e (put_overflow a g.link v (omega arith) (omega arith)))
        (rw e
        (λ k. record {
          counter = put_out t a g.link v (block_at g.overflow j) g.overflow.counter l (inl (omega arith)) k;
          link = put_same t a g.link v l hv k;
          owner = put_out t a g.link v (block_at g.overflow j + (g.overflow.counter + g.link)) g.owner l (inr (omega arith)) k;
          slots = slots_stay a g.link v l (omega arith) k;
        }))

    pub stored_owner : (u : List ℕ) (i : ℕ) → i < 2 ^ g.owner → u ≡ owner_put g t j i
        → Stored g t u (over_overflow j (with_owner i) (decode g t))
    unfolding owner_put read_overflow link_at owner_at
    stored_owner u i hi e =
        let F = T.proper in
        let s = F.overflow_is in
        let a = block_at g.overflow j + (g.overflow.counter + g.link) in
        let l = fits a g.owner (omega (arith, over_ends g F j h)) in
        in_overflow u j (with_owner i) h
        (rw e (put_overflow a g.owner i (omega arith) (omega arith)))
        (rw e
        (λ k. record {
          counter = put_out t a g.owner i (block_at g.overflow j) g.overflow.counter l (inl (omega arith)) k;
          link = put_out t a g.owner i (block_at g.overflow j + g.overflow.counter) g.link l (inl (omega arith)) k;
          owner = put_same t a g.owner i l hi k;
          slots = slots_stay a g.owner i l (omega arith) k;
        }))

    pub stored_overflow_slot : (p x : ℕ) → p < g.sio → x < 2 ^ g.slot → (u : List ℕ) → u ≡ slot_put g t (overflow_slot g j p) x
        → Stored g t u (over_overflow j (with_slot p x) (decode g t))
    unfolding slot_put overflow_slot read_overflow link_at owner_at
    stored_overflow_slot p x hp hx u e =
        let F = T.proper in
        let a = overflow_slots g j + p * g.slot in
        let z = slot_ends g F j p hp in
        let l : overflow_slots g j + p * g.slot + g.slot ≤ 8 * length t = omega (arith, T.room, over_ends g F j h) in
        let b = numbers_before p in
        in_overflow u j (with_slot p x) h
        (rw e (put_overflow a g.slot x (slot_low g F j p) (omega arith)))
        (rw e
        (λ k. record {
          counter = put_out t a g.slot x (block_at g.overflow j) g.overflow.counter l (inl (omega arith)) k;
          link = put_out t a g.slot x (block_at g.overflow j + g.overflow.counter) g.link l (inl (omega arith)) k;
          owner = put_out t a g.slot x (block_at g.overflow j + (g.overflow.counter + g.link)) g.owner l (inl (omega arith)) k;
          slots = tab_put t g.slot g.sio (overflow_slots g j) p x l hx k;
        }))

    pub stored_zeros : Stored g t (put_field t (block_at g.overflow j) g.overflow.bits 0) (over_overflow j (λ o. empty_block g 0 0) (decode g t))
    unfolding read_overflow link_at owner_at overflow_slots
    stored_zeros =
        let F = T.proper in
        let s = F.overflow_is in
        let a = block_at g.overflow j in
        let l : block_at g.overflow j + g.overflow.bits ≤ 8 * length t = omega (arith, T.room, over_ends g F j h) in
        let z : a ≡ a + 0 = omega arith in
        let m = g.overflow.counter + (g.link + g.owner) in
        in_overflow (put_field t a g.overflow.bits 0) j (λ o. empty_block g 0 0) h
        (put_overflow a g.overflow.bits 0 (omega arith) (omega arith))
        (λ k. record {
          counter = (ap (λ (b : ℕ). field (put_field t a g.overflow.bits 0) b g.overflow.counter) z ∙ zero_part t a g.overflow.bits 0 g.overflow.counter l (omega arith)) k;
          link = zero_part t a g.overflow.bits g.overflow.counter g.link l (omega arith) k;
          owner = zero_part t a g.overflow.bits (g.overflow.counter + g.link) g.owner l (omega arith) k;
          slots =
              zeros g.sio (λ q. field (put_field t a g.overflow.bits 0) (a + m + q * g.slot) g.slot)
              (λ q hq.
              let e : a + m + q * g.slot ≡ a + (m + q * g.slot) = omega arith in
              ap (λ (b : ℕ). field (put_field t a g.overflow.bits 0) b g.slot) e
              ∙ zero_part t a g.overflow.bits (m + q * g.slot) g.slot l (omega (arith, mul-le-mul_right g.slot hq))) k;
        })

-- a slot stored where the first L bits of basic block i count as v
module _ (g : Layout) (t : List ℕ) (T : Table g t) (i : ℕ) (h : i < g.lists) (p v x : ℕ) (hp : p < g.sib) (hv : v < 2 ^ g.link) (hx : x < 2 ^ g.slot) where
  abbrev back : Basic → Basic
  back b = with_head v b

  abbrev restored : List ℕ
  restored = put_field t (basic_slots g i) g.link v

  abbrev stored : List ℕ
  stored = slot_put g restored (basic_slot g i p) x

  there_is : i < length (decode g t).basic
  there_is = omega (arith, basics g t, h)

  restored_is : Stored g t restored (over_basic i back (decode g t))
  unfolding head_put
  restored_is = stored_head g t T i h restored v hv refl

  stored_is : Stored g t stored (over_basic i (λ b. slot_in g p x (back b)) (decode g t))
  stored_is =
      stored_as (over_basic i (λ b. slot_in g p x (back b)) (decode g t))
      (stored_then (over_basic i (slot_in g p x)) restored_is (stored_basic_slot g restored restored_is.table i h p x hp hx stored refl))
      (basic_twice i (slot_in g p x) back (decode g t) there_is)

  own_head : field t (basic_slots g i) g.link ≡ (basic_at (decode g t).basic i).head
  unfolding read_basic
  own_head = sym (ap (λ (b : Basic). b.head) (at_basic g T.proper t i h))

  stored_head_is : field stored (basic_slots g i) g.link ≡ (basic_at (decode g stored).basic i).head
  unfolding read_basic
  stored_head_is = sym (ap (λ (b : Basic). b.head) (at_basic g T.proper stored i h))

  pub over_head : (u : List ℕ) (r : ℕ) → StoredOver g.link g.slot t u (basic_slots g i) v (basic_slot g i p) x r
      → r ≡ head_of g (set (unpack g v (basic_at (decode g t).basic i).rest) p x)
  unfolding slot_put
  over_head u r P =
      P.head ∙ stored_head_is
      ∙ ap (λ (st : State). (basic_at st.basic i).head) stored_is.state
      ∙ ap (λ (b : Basic). b.head) (get_or-set_same (decode g t).basic i (slot_in g p x (back (basic_at (decode g t).basic i))) empty_basic there_is)

  pub over_rest : (u : List ℕ) (r : ℕ) → StoredOver g.link g.slot t u (basic_slots g i) v (basic_slot g i p) x r
      → Stored g t u (over_basic i (λ b. with_rest (rest_of g (set (unpack g v b.rest) p x)) b) (decode g t))
  unfolding head_put slot_put
  over_rest u r P =
      let old = field t (basic_slots g i) g.link in
      let to : Basic → Basic = with_head old in
      stored_as (over_basic i (λ b. with_rest (rest_of g (set (unpack g v b.rest) p x)) b) (decode g t))
      (stored_then (over_basic i to) stored_is (stored_head g stored stored_is.table i h u old (field_lt t (basic_slots g i) g.link) P.bytes))
      (basic_twice i to (λ b. slot_in g p x (back b)) (decode g t) there_is
      ∙ ap (λ (n : ℕ). over_basic i (λ b. with_head n (with_rest (rest_of g (set (unpack g v b.rest) p x)) b)) (decode g t)) own_head)
