-- Updates keep a state formed, where what is stored fits its bits.
use Rattle.std.specs.Prelude.{◌≡◌, refl, List, [], ℕ, zero, suc, ◌+◌, ◌*◌, ◌/◌, ◌%◌, ◌^◌, ◌≤◌, ◌<◌}
use Rattle.std.proofs.Common.{ap, mod-lt, arith, pow_pos}
use Rattle.std.proofs.Math.Pow.{shr_lt}
use Rattle.settings.specs.Proper.{Proper}
use Rattle.settings.specs.declared.layout.Layout.{Layout}
use Rattle.table.specs.Arrays.{unpacked, padded}
use Rattle.table.specs.State.{Basic, Overflow, State, empty_block, rest_bits, unpack, head_of, rest_of, own_slots, basic_of}
use Rattle.table.specs.Updates.{with_counter, with_link, with_slot, with_basic_front, with_free, over_basic, over_overflow}
use Rattle.table.specs.theory.Formed.{all_nil, all_cons, Each, each_set, Fits, BasicFits, OverflowFits, Formed}
use Rattle.table.specs.theory.Written.{packed_fits}

-- ---- rows

pub unpacked_each : (w n v : ℕ) → Each (Fits w) n (unpacked w n v)
unpacked_each w zero v = record { long = refl; all = all_nil }
unpacked_each w (suc n) v =
    let r = unpacked_each w n (v % 2 ^ (n * w)) in
    record { long = ap suc r.long; all = all_cons (mod-lt (v / 2 ^ (n * w)) (pow_pos w)) r.all }

pub zeros_each : (w n : ℕ) → Each (Fits w) n (padded n [])
zeros_each w zero = record { long = refl; all = all_nil }
zeros_each w (suc n) =
    let r = zeros_each w n in
    record { long = ap suc r.long; all = all_cons (pow_pos w) r.all }

-- the slots of a basic block, whatever its bits
pub unpack_each : (g : Layout) (h r : ℕ) → Each (Fits g.slot) g.sib (unpack g h r)
unfolding unpack
unpack_each g h r = unpacked_each g.slot g.sib (h * 2 ^ rest_bits g + r)

pub own_fits : (g : Layout) (b : Basic) → Each (Fits g.slot) g.sib (own_slots g b)
own_fits g b = unpack_each g b.head b.rest

pub rest_fits : (g : Layout) (es : List ℕ) → Fits (rest_bits g) (rest_of g es)
unfolding rest_of
rest_fits g es = mod-lt _ (pow_pos (rest_bits g))

module _ {g : Layout} where
  -- ---- a change of one block, or of the free start

  pub formed_free : {st : State} {f : ℕ} → Formed g st → Fits g.basic.start f → Formed g (with_free f st)
  formed_free w h = record { free = h; basic = w.basic; overflow = w.overflow }

  pub formed_basic : {st : State} {b : Basic} (i : ℕ) → Formed g st → BasicFits g b → Formed g (over_basic i (λ _. b) st)
  formed_basic i w h = record { free = w.free; basic = each_set w.basic i h; overflow = w.overflow }

  pub formed_overflow : {st : State} {o : Overflow} (j : ℕ) → Formed g st → OverflowFits g o → Formed g (over_overflow j (λ _. o) st)
  formed_overflow j w h = record { free = w.free; basic = w.basic; overflow = each_set w.overflow j h }

  -- ---- a change of one field

  pub counter_fits : {o : Overflow} {n : ℕ} → Fits g.overflow.counter n → OverflowFits g o → OverflowFits g (with_counter n o)
  counter_fits h w = record { counter = h; link = w.link; owner = w.owner; slots = w.slots }

  pub link_fits : {o : Overflow} {l : ℕ} → Fits g.link l → OverflowFits g o → OverflowFits g (with_link l o)
  link_fits h w = record { counter = w.counter; link = h; owner = w.owner; slots = w.slots }

  pub slot_fits : {o : Overflow} (q : ℕ) {x : ℕ} → Fits g.slot x → OverflowFits g o → OverflowFits g (with_slot q x o)
  slot_fits q h w = record { counter = w.counter; link = w.link; owner = w.owner; slots = each_set w.slots q h }

  pub empty_fits : {l i : ℕ} → Fits g.link l → Fits g.owner i → OverflowFits g (empty_block g l i)
  empty_fits h k = record { counter = pow_pos g.overflow.counter; link = h; owner = k; slots = zeros_each g.slot g.sio }

  pub front_fits : {b : Basic} {n h : ℕ} → Fits g.basic.counter n → Fits g.link h → BasicFits g b → BasicFits g (with_basic_front n h b)
  front_fits hn hh w = record { counter = hn; head = hh; rest = w.rest }

module _ {g : Layout} (F : Proper g) where
  -- numbers of blocks fit the link and the free start
  pub block_link : {j : ℕ} → j < g.nob → Fits g.link j
  block_link h = omega (arith, F.link_holds)

  pub block_free : {j : ℕ} → j ≤ g.nob → Fits g.basic.start j
  block_free h = omega (arith, F.free_holds)

  -- the number of a list fits the owner
  pub list_owner : {i : ℕ} → i < g.lists → Fits g.owner i
  list_owner h = omega (arith, F.owner_holds)

  pub head_fits : {es : List ℕ} → Each (Fits g.slot) g.sib es → Fits g.link (head_of g es)
  unfolding head_of
  head_fits e =
      let s : g.sib * g.slot ≡ g.link + rest_bits g = omega (arith, F.link_fits) in
      shr_lt g.link (rest_bits g) (rw s at (packed_fits g.slot e))

  -- a basic block with these slots
  pub body_fits : {n : ℕ} {es : List ℕ} → Fits g.basic.counter n → Each (Fits g.slot) g.sib es → BasicFits g (basic_of g n es)
  body_fits {es = es} h e = record { counter = h; head = head_fits e; rest = rest_fits g es }
