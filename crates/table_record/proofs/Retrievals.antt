-- Laws of retrieving: the number of a slot, a slot of a list's basic block, and a slot of an overflow block whose list was followed.
use mathlib.Core.Path.{◌≡◌, refl, sym, ap, ap₂, ◌∙◌}
use mathlib.Core.Bool.{Bool, true, false, not}
use mathlib.Core.List.{List, [], ◌∷◌}
use mathlib.Core.Option.{Option, none, some}
use Prim.Native.Nat.{ℕ, suc, ◌+◌, ◌-◌, ◌*◌, ◌/◌, ◌%◌, ◌^◌, ◌≤◌, ◌<◌}
use native.Mathlib.Omega.{arith}
use native.Mathlib.Nat.{mul-le-mul, div-lt_iff_lt-mul}
use lib.ListN.{length, take, get_or, length-take}
use lib.Seq.{get_or-take}
use lib.Dec.{ltb}
use borrow.Author.Tests.{lt-ltb, le-ltb, ltb-true, ltb-false}
use Rattle.std.specs.Prelude.{Ok, Err, Some, None}
use Rattle.std.specs.declared.result.Result.{Result}
use Rattle.laws.specs.Cases.{cases}
use Rattle.bits.specs.Field.{field}
use Rattle.bits.specs.theory.Fields.{field_lt}
use Rattle.settings.specs.Layout.{layout_of}
use Rattle.settings.specs.Legal.{legal}
use Rattle.settings.specs.Due.{Due, due, unless_due}
use Rattle.settings.specs.Proper.{Proper}
use Rattle.keys.specs.Key.{key_number, key_of, rebuilt}
use Rattle.keys.specs.theory.Keys.{number_key}
use Rattle.keys.specs.declared.Key.{Key}
use Rattle.keys.specs.declared.ListNumber.{ListNumber}
use Rattle.keys.specs.declared.SlotNumber.{SlotNumber}
use Rattle.settings.specs.declared.settings.Settings.{Settings}
use Rattle.settings.specs.declared.layout.Layout.{Layout}
use Rattle.settings.specs.declared.refusal.Refusal.TheVariants as refusal
use Rattle.table.specs.State.{Overflow, State, basic_at, overflow_at, entry_of, label_of}
use Rattle.table.specs.Decode.{block_at, basic_slots, decode}
use Rattle.table.specs.Table.{Table}
use Rattle.table.specs.Follow.{Content, content}
use Rattle.table.specs.Record.{record_of}
use Rattle.table.specs.Take.{occurs}
use Rattle.table.specs.Numbers.{basic_capacity, capacity}
use Rattle.table.specs.Retrieve.{basic_found, overflow_found, retrieve_basic, retrieve_overflow, retrieve_in}
use Rattle.table.specs.Answer.{RecordAnswer, recorded}
use Rattle.table.specs.Calls.{retrieve_call}
use Rattle.table.specs.theory.Opened.{due_settings, due_short, due_later}
use Rattle.table_read.specs.Places.{basic_slot, overflow_slot}
use Rattle.table_read.specs.Steps.{restored_bytes, FieldWithin, SlotsWithin, slots_in, basic_run, displaced_run, overflow_run, last_from, OwnFollowed, Overflows}
use Rattle.table_read.specs.BlockSlots.{has_block}
use Rattle.table_read.specs.theory.Reads.{restored_bytes_out, slots_length, slot_in_lem, slot_inside, basic_run_within, displaced_run_within, overflow_run_within, owner_field, link_lt, sized, overflow_slots_in}
use Rattle.table_read.specs.theory.Walks.{owns, content_short}
use Rattle.table_read.specs.theory.BlockSlots.{has_as}
use Rattle.table_read.specs.declared.slots.Slots.{Slots}
use Rattle.table.specs.declared.damage.Damage.{Damage}
use Rattle.table_record.specs.RecordSteps.{nth_of, nth_in, found_record, on_nth, Stands}
use Rattle.table_record.specs.declared.Nth.{Nth}
use Rattle.table_record.specs.declared.slot.Spot.{Spot}
use Rattle.table_record.specs.declared.slot.Spot.TheVariants as spot
use Rattle.table_record.proofs.Records.{stands, nth_here, nth_past, nth_damaged, nth_short, nth_displaced, list_content, list_own}

-- ---- the numbers

module _ (g : Layout) (F : Proper g) where
  -- the numbers have less than 32 bits
  pub basic_few : basic_capacity g ≤ 255 * 65536
  basic_few = mul-le-mul F.sib_high F.lists_high

  pub overflow_few : g.sio * g.nob ≤ 15 * 65535
  overflow_few = mul-le-mul F.sio_high F.nob_high

  pub block_below : (n b : ℕ) → b ≡ basic_capacity g → b ≤ n → n < capacity g → (n - b) / g.sio < g.nob
  unfolding capacity
  block_below n b e h l = (div-lt_iff_lt-mul F.sio_low).1 (omega arith)

-- ---- block j of a list that has an end

module _ (g : Layout) (os : List Overflow) (j : ℕ) where
  -- what the walk that looks for it says of the list's blocks
  pub has_own : {i n b : ℕ} (f : OwnFollowed g i n os b) (x : Bool) → has_block g n os b j ≡ x → ltb 0 (occurs j f.blocks) ≡ x
  has_own {i} {n} {b} f x e = sym (has_as g os j n b f.blocks (owns g os i f).found) ∙ e

-- the list that it names is one of the table's
pub owner_below : (g : Layout) (t : List ℕ) → Table g t → (j : ℕ) → j < g.nob → (overflow_at (decode g t).overflow j).owner < g.lists
owner_below g t T j h = omega (arith, owner_field g t T j h, field_lt t (block_at g.overflow j + (g.overflow.counter + g.link)) g.owner, T.proper.owner_holds)

pub named : (g : Layout) (t : List ℕ) → Table g t → (j : ℕ) → j < g.nob → (i : ℕ) → i ≡ (overflow_at (decode g t).overflow j).owner → i < g.lists
named g t T j h i e = omega (arith, owner_below g t T j h)

-- a field of n bits, as a key
pub key_bound : (t : List ℕ) (at n : ℕ) (k : Key) → k ≡ key_of (field t at n) → key_number k < 2 ^ n
key_bound t at n k e = rw (e, number_key (field t at n)) (field_lt t at n)

-- ---- the answers

-- what stands behind the slots of a row, where no other list is looked at
abbrev pub none_behind : ℕ → RecordAnswer
none_behind m = Ok None

module _ (s : Settings) (g : Layout) (laid : layout_of s ≡ g) where
  -- an entry and a label of the slot x, as they were read
  pub record_as : (i x : ℕ) (k : Key) (l : ℕ) → k ≡ key_of (entry_of g x) → l ≡ label_of g x → Ok (Some (found_record s i k l)) ≡ record_of s i x
  record_as i x k l ek el =
      ap₂ (λ (y : Key) (z : ℕ). recorded (key_of (rebuilt s i (key_number y))) z) ek el
      ∙ ap (λ (e : ℕ). recorded (key_of (rebuilt s i e)) (label_of g x)) (number_key (entry_of g x))
      ∙ ap (λ (y : Layout). recorded (key_of (rebuilt s i (entry_of y x))) (label_of y x)) (sym laid)

  -- slot n of a row
  here_record : (i : ℕ) (es : List ℕ) (n : ℕ) → n < length es → on_nth s i (stands (nth_of g es n)) none_behind ≡ record_of s i (get_or es n 0)
  here_record i es n h =
      ap (λ (r : Nth). on_nth s i (stands r) none_behind) (nth_here g es n h)
      ∙ record_as i (get_or es n 0) (key_of (entry_of g (get_or es n 0))) (label_of g (get_or es n 0)) refl refl

  past_none : (i : ℕ) (es : List ℕ) (n : ℕ) → length es ≤ n → on_nth s i (stands (nth_of g es n)) none_behind ≡ Ok None
  past_none i es n h = ap (λ (r : Nth). on_nth s i (stands r) none_behind) (nth_past g es n h)

module _ (s : Settings) (g : Layout) (laid : layout_of s ≡ g) (st : State) where
  -- slot number n
  in_basic : (n : ℕ) → n < basic_capacity g → retrieve_basic s st (n / g.sib) (n % g.sib) ≡ retrieve_in s st n
  unfolding retrieve_in
  in_basic n h = rw (← laid) (rw (lt-ltb n (basic_capacity (layout_of s)) (rw (← laid) at h)))

  in_overflow : (n b : ℕ) → b ≡ basic_capacity g → b ≤ n → retrieve_overflow s st ((n - b) / g.sio) ((n - b) % g.sio) ≡ retrieve_in s st n
  unfolding retrieve_in
  in_overflow n b e h = rw (e, ← laid) (rw (le-ltb n (basic_capacity (layout_of s)) (rw (e, ← laid) at h)))

  -- slot p of the basic block of list i
  basic_as : (i p : ℕ) (o : Option Content) → on_nth s i (nth_in (layout_of s) o p) none_behind ≡ basic_found s i p o
  unfolding nth_in nth_of
  basic_as i p none = refl
  basic_as i p (some v) = cases (ltb p (length v.slots)) (λ e. rw (e, number_key)) (λ e. rw e)

  basic_answer : (i p : ℕ) (r : Result Nth Damage) → r ≡ nth_in g (content g st i) p → on_nth s i r none_behind ≡ retrieve_basic s st i p
  unfolding retrieve_basic
  basic_answer i p r e =
      ap (λ (x : Result Nth Damage). on_nth s i x none_behind) (e ∙ ap (λ (x : Layout). nth_in x (content x st i) p) (sym laid))
      ∙ basic_as i p (content (layout_of s) st i)

  -- slot k of overflow block j, which names list i
  module _ (i j k : ℕ) (owner-is : i ≡ (overflow_at st.overflow j).owner) where
    overflow_as : (v : Option Content) → content g st i ≡ v → overflow_found s j k (overflow_at st.overflow j) v ≡ retrieve_overflow s st j k
    unfolding retrieve_overflow
    overflow_as v e =
        sym
        (ap (λ (x : Layout). overflow_found s j k (overflow_at st.overflow j) (content x st (overflow_at st.overflow j).owner)) laid
        ∙ ap (λ (x : ℕ). overflow_found s j k (overflow_at st.overflow j) (content g st x)) (sym owner-is)
        ∙ ap (overflow_found s j k (overflow_at st.overflow j)) e)

    -- a list that does not have the block
    unlisted : (v : Content) → content g st i ≡ some v → ltb 0 (occurs j v.blocks) ≡ false → Ok None ≡ retrieve_overflow s st j k
    unlisted v e n = sym (rw n) ∙ overflow_as (some v) e

    -- a list that has it: the slot is in use if the counter says so
    module _ (v : Content) (list_is : content g st i ≡ some v) (has : ltb 0 (occurs j v.blocks) ≡ true)
        (long : length (overflow_at st.overflow j).slots ≡ g.sio) (low : k < g.sio) where
      abbrev block : Overflow
      block = overflow_at st.overflow j

      abbrev used : List ℕ
      used = take (suc block.counter) block.slots

      slot_held : ltb k (suc block.counter) ≡ true → on_nth s i (stands (nth_of g used k)) none_behind ≡ overflow_found s j k block (some v)
      slot_held q =
          let n = ltb-true k (suc block.counter) q in
          let here : k < length used = omega (arith, length-take (suc block.counter) block.slots) in
          here_record s g laid i used k here
          ∙ ap (record_of s i) (get_or-take (suc block.counter) block.slots k 0 n)
          ∙ ap (λ (y : ℕ). record_of s y (get_or block.slots k 0)) owner-is
          ∙ sym (rw (has, q))

      slot_unused : ltb k (suc block.counter) ≡ false → on_nth s i (stands (nth_of g used k)) none_behind ≡ overflow_found s j k block (some v)
      slot_unused q =
          let past : length used ≤ k = omega (arith, length-take (suc block.counter) block.slots, ltb-false k (suc block.counter) q) in
          past_none s g laid i used k past ∙ sym (rw (has, q))

      slot_answer : on_nth s i (stands (nth_of g used k)) none_behind ≡ retrieve_overflow s st j k
      slot_answer = cases (ltb k (suc block.counter)) slot_held slot_unused ∙ overflow_as (some v) list_is

-- ---- spots

module _ (g : Layout) (t : List ℕ) where
  -- slot number n
  pub number_basic : (r : Result Spot Damage) (n : ℕ) → n < basic_capacity g → Stands g t (λ s. retrieve_basic s (decode g t) (n / g.sib) (n % g.sib)) r
      → Stands g t (λ s. retrieve_in s (decode g t) n) r
  number_basic r n h v = record { are = λ s laid. v.are s laid ∙ in_basic s g laid (decode g t) n h; readable = v.readable }

  pub number_overflow : (r : Result Spot Damage) (n b : ℕ) → b ≡ basic_capacity g → b ≤ n → Stands g t (λ s. retrieve_overflow s (decode g t) ((n - b) / g.sio) ((n - b) % g.sio)) r
      → Stands g t (λ s. retrieve_in s (decode g t) n) r
  number_overflow r n b e h v = record { are = λ s laid. v.are s laid ∙ in_overflow s g laid (decode g t) n b e h; readable = v.readable }

  -- place j of the slots `run`, which are of list i
  module _ (F : Proper g) (run : Slots) (R : SlotsWithin g t run) (i : ListNumber) (l : i.0 < g.lists) (j : SlotNumber) (answers : Settings → RecordAnswer)
      (is : (s : Settings) → layout_of s ≡ g → on_nth s i.0 (stands (nth_of g (slots_in g t run) j.0)) none_behind ≡ answers s) where
    past_row : run.count ≤ j.0 → Stands g t answers (Ok spot.Empty)
    past_row h =
        record {
          are = λ s laid. sym (past_none s g laid i.0 (slots_in g t run) j.0 (omega (arith, slots_length g t run))) ∙ is s laid;
          readable = tt;
        }

    module _ (h : j.0 < run.count) where
      under_row : Stands g t answers (Ok (spot.Under i run j))
      under_row =
          record {
            are = λ s laid. sym (here_record s g laid i.0 (slots_in g t run) j.0 (omega (arith, slots_length g t run))) ∙ is s laid;
            readable = (l, R, h);
          }

      -- behind the displaced bits it is read as it stands
      in_row : (at : ℕ) → at ≡ run.start + j.0 * g.slot → run.start + run.displaced ≤ at → Stands g t answers (Ok (spot.Slot i at))
      in_row at e o =
          let q = slot_inside g t run j.0 h in
          let f : FieldWithin t run at g.slot =
          record { from = omega arith; ends = omega (arith, R.ends); near = omega (arith, R.near); block = R.block; narrow = R.narrow; fits = R.fits } in
          let x : field t at g.slot ≡ get_or (slots_in g t run) j.0 0 =
          restored_bytes_out t run at g.slot f o ∙ ap (λ (y : ℕ). field (restored_bytes t run) y g.slot) e ∙ sym (slot_in_lem g t run j.0 h) in
          record {
            are = λ s laid. ap (record_of s i.0) x ∙ under_row.are s laid;
            readable = (l, f.ends, f.near);
          }

-- ---- a slot of a basic block

module _ (g : Layout) (t : List ℕ) (T : Table g t) (i : ListNumber) (l : i.0 < g.lists) (p : SlotNumber) where
  pub basic_damaged : content g (decode g t) i.0 ≡ none → Stands g t (λ s. retrieve_basic s (decode g t) i.0 p.0) (Err (record {}))
  basic_damaged e =
      record {
        are = λ s laid. basic_answer s g laid (decode g t) i.0 p.0 (Err (record {})) (nth_damaged g t T i.0 l p.0 e);
        readable = tt;
      }

  -- of a list without overflow blocks
  module _ (c : ℕ) (ec : c ≡ (basic_at (decode g t).basic i.0).counter) (low : c ≤ g.sib) where
    short_row : (s : Settings) → layout_of s ≡ g
        → on_nth s i.0 (stands (nth_of g (slots_in g t (basic_run g i.0 c)) p.0)) none_behind ≡ retrieve_basic s (decode g t) i.0 p.0
    short_row s laid = basic_answer s g laid (decode g t) i.0 p.0 _ (nth_short g t T i.0 l p.0 (basic_run g i.0 c) c ec low refl)

    pub short_empty : c ≤ p.0 → Stands g t (λ s. retrieve_basic s (decode g t) i.0 p.0) (Ok spot.Empty)
    unfolding basic_run
    short_empty h = past_row g t T.proper (basic_run g i.0 c) (basic_run_within g t T i.0 c l low) i l p _ short_row h

    pub short_slot : (at : ℕ) → at ≡ basic_slot g i.0 p.0 → p.0 < c → Stands g t (λ s. retrieve_basic s (decode g t) i.0 p.0) (Ok (spot.Slot i at))
    unfolding basic_run basic_slot
    short_slot at e h = in_row g t T.proper (basic_run g i.0 c) (basic_run_within g t T i.0 c l low) i l p _ short_row h at e (omega arith)

  -- of a list with overflow blocks: its basic block's slots, as run has them
  module _ (run : Slots) where
    pub record LongRow : Type 0 where
      pub holds : p.0 < run.count
      pub start : run.start ≡ basic_slots g i.0
      pub displaced : run.displaced ≡ g.link
      pub within : SlotsWithin g t run
      pub are : (s : Settings) → layout_of s ≡ g
          → on_nth s i.0 (stands (nth_of g (slots_in g t run) p.0)) none_behind ≡ retrieve_basic s (decode g t) i.0 p.0

    -- the blocks start at h and end with z
    pub long_row : (h z : ℕ) (over : Overflows g (decode g t) i.0 h) (last_is : z ≡ last_from g i.0 g.nob (decode g t).overflow h) (sound : z < g.nob)
        → p.0 < g.sib → (d : ℕ) → d ≡ (overflow_at (decode g t).overflow z).link → run ≡ displaced_run g i.0 d → LongRow
    unfolding displaced_run
    long_row h z over last_is sound low d ed er =
        record {
          holds = omega (arith, ap (λ (b : Slots). b.count) er);
          start = ap (λ (b : Slots). b.start) er;
          displaced = ap (λ (b : Slots). b.displaced) er;
          within = rw er (displaced_run_within g t T i.0 d l (rw ed (link_lt g t T z sound)));
          are = λ s laid. basic_answer s g laid (decode g t) i.0 p.0 _ (nth_displaced g t T i.0 l h z over last_is sound p.0 run d ed er low);
        }

    pub long_under : LongRow → Stands g t (λ s. retrieve_basic s (decode g t) i.0 p.0) (Ok (spot.Under i run p))
    long_under r = under_row g t T.proper run r.within i l p _ r.are r.holds

    pub long_slot : LongRow → (at : ℕ) → at ≡ basic_slot g i.0 p.0 → run.start + g.link ≤ at → Stands g t (λ s. retrieve_basic s (decode g t) i.0 p.0) (Ok (spot.Slot i at))
    unfolding basic_slot
    long_slot r at e o =
        in_row g t T.proper run r.within i l p _ r.are r.holds at (omega (arith, r.start)) (omega (arith, r.displaced))

-- ---- a slot of overflow block j, which names list i

-- whether the list, which has an end, has the block
pub record Listed (g : Layout) (t : List ℕ) (i j : ℕ) (x : Bool) : Type 0 where
  pub list : Content
  pub is : content g (decode g t) i ≡ some list
  pub has : ltb 0 (occurs j list.blocks) ≡ x

-- a list with overflow blocks from h on that was followed to its end
pub list_listed : (g : Layout) (t : List ℕ) (T : Table g t) (i : ℕ) → i < g.lists → (h : ℕ) → Overflows g (decode g t) i h
    → last_from g i g.nob (decode g t).overflow h < g.nob → (j : ℕ) (x : Bool) → has_block g g.nob (decode g t).overflow h j ≡ x → Listed g t i j x
list_listed g t T i l h over low j x e =
    record {
      list = _;
      is = list_content g t T i l h _ over refl low;
      has = has_own g (decode g t).overflow j (list_own g t T i l h _ over refl low) x e;
    }

module _ (g : Layout) (t : List ℕ) (i : ListNumber) (j : ℕ) (k : SlotNumber) (owner-is : i.0 ≡ (overflow_at (decode g t).overflow j).owner) where
  pub list_damaged : content g (decode g t) i.0 ≡ none → Stands g t (λ s. retrieve_overflow s (decode g t) j k.0) (Err (record {}))
  list_damaged e = record { are = λ s laid. overflow_as s g laid (decode g t) i.0 j k.0 owner-is none e; readable = tt }

  -- the list does not have the block
  pub not_listed : Listed g t i.0 j false → Stands g t (λ s. retrieve_overflow s (decode g t) j k.0) (Ok spot.Empty)
  not_listed v = record { are = λ s laid. unlisted s g laid (decode g t) i.0 j k.0 owner-is v.list v.is v.has; readable = tt }

  pub no_blocks : (basic_at (decode g t).basic i.0).counter ≤ g.sib → Stands g t (λ s. retrieve_overflow s (decode g t) j k.0) (Ok spot.Empty)
  no_blocks h = not_listed (record { list = _; is = content_short g (decode g t) i.0 h; has = refl })

  -- it has the block: the counter decides
  module _ (T : Table g t) (l : i.0 < g.lists) (jl : j < g.nob) (kl : k.0 < g.sio) (v : Listed g t i.0 j true) (c : ℕ) (ec : c ≡ (overflow_at (decode g t).overflow j).counter) where
    block_row : (s : Settings) → layout_of s ≡ g
        → on_nth s i.0 (stands (nth_of g (slots_in g t (overflow_run g j c)) k.0)) none_behind ≡ retrieve_overflow s (decode g t) j k.0
    block_row s laid =
        ap (λ (xs : List ℕ). on_nth s i.0 (stands (nth_of g xs k.0)) none_behind)
        (ap (λ (n : ℕ). slots_in g t (overflow_run g j n)) ec ∙ overflow_slots_in g t T j (overflow_at (decode g t).overflow j).counter jl)
        ∙ slot_answer s g laid (decode g t) i.0 j k.0 owner-is v.list v.is v.has (sized g t T j jl) kl

    pub block_empty : c < k.0 → Stands g t (λ s. retrieve_overflow s (decode g t) j k.0) (Ok spot.Empty)
    unfolding overflow_run
    block_empty h = past_row g t T.proper (overflow_run g j c) (overflow_run_within g t T j c jl) i l k _ block_row (omega arith)

    pub block_slot_lem : (at : ℕ) → at ≡ overflow_slot g j k.0 → k.0 ≤ c → Stands g t (λ s. retrieve_overflow s (decode g t) j k.0) (Ok (spot.Slot i at))
    unfolding overflow_run overflow_slot
    block_slot_lem at e h = in_row g t T.proper (overflow_run g j c) (overflow_run_within g t T j c jl) i l k _ block_row (omega arith) at e (omega arith)

-- ---- the call, by its refusals

module _ (s : Settings) (t : List ℕ) (n : ℕ) where
  abbrev number_due : List Due
  number_due = due (not (ltb n (capacity (layout_of s)))) refusal.Slot ∷ []

  abbrev found : RecordAnswer
  found = retrieve_in s (decode (layout_of s) t) n

  pub call_illegal : legal s ≡ false → Err refusal.Settings ≡ retrieve_call s t n
  unfolding retrieve_call
  call_illegal h = sym (due_settings Err s (length t) number_due found h)

  module _ (g : Layout) (h : legal s ≡ true) (laid : layout_of s ≡ g) where
    pub call_short : length t < g.bytes → Err refusal.Short ≡ retrieve_call s t n
    unfolding retrieve_call
    call_short l = sym (due_short Err s (length t) number_due found g h laid l)

    module _ (room : g.bytes ≤ length t) where
      later : retrieve_call s t n ≡ unless_due number_due Err found
      unfolding retrieve_call
      later = due_later Err s (length t) number_due found g h laid room

      pub call_past : capacity g ≤ n → Err refusal.Slot ≡ retrieve_call s t n
      call_past l = sym (later ∙ rw (le-ltb n (capacity (layout_of s)) (rw (← laid) at l)))

      pub call_slot : n < capacity g → retrieve_in s (decode g t) n ≡ retrieve_call s t n
      call_slot l =
          ap (λ (x : Layout). retrieve_in s (decode x t) n) (sym laid)
          ∙ sym (later ∙ rw (lt-ltb n (capacity (layout_of s)) (rw (← laid) at l)))
