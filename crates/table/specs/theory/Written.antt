-- A formed state written into a table's bits is read back; and what a write leaves as it was.
use Rattle.std.specs.Prelude.{◌≡◌, refl, List, ◌∷◌, map, ℕ, suc, ◌+◌, ◌*◌, ◌/◌, ◌%◌, ◌^◌, ◌≤◌, length}
use Rattle.std.proofs.Common.{sym, ap₂, ◌∙◌, inr, arith, pow_pos, pow-add}
use Rattle.std.proofs.Math.Path.{ap}
use Rattle.std.proofs.lemmas.List.{length-map}
use Rattle.std.proofs.Math.Pow.{high, low}
use Rattle.std.proofs.Math.Arith.{digits_lt}
use Rattle.bits.specs.Bytes.{Bytes}
use Rattle.bits.specs.Field.{field}
use Rattle.bits.specs.Put.{put_field}
use Rattle.bits.specs.theory.Puts.{put_same, put_own, put_out, put_length, put_bytes}
use Rattle.settings.specs.Proper.{Proper}
use Rattle.settings.specs.declared.layout.Layout.{Layout}
use Rattle.table.specs.Arrays.{packed}
use Rattle.table.specs.State.{Basic, Overflow, State, rest_bits}
use Rattle.table.specs.Decode.{decode, pack_basic, pack_overflow, image, written}
use Rattle.table.specs.theory.Decode.{image_decode}
use Rattle.table.specs.theory.Formed.{All, all_nil, all_cons, all_map, Each, Fits, BasicFits, OverflowFits, Formed, decode_formed}

-- ---- two numbers side by side, the second one of n bits

pub join_fits : {x y : ℕ} (m n : ℕ) → Fits m x → Fits n y → Fits (m + n) (x * 2 ^ n + y)
join_fits m n p q = rw (pow-add 2 m n) (digits_lt p q)

pub join_inj : (n x x' : ℕ) {y y' : ℕ} → Fits n y → Fits n y' → x * 2 ^ n + y ≡ x' * 2 ^ n + y' → (x ≡ x') × (y ≡ y')
join_inj n x x' p q e = (
  sym (high x n p) ∙ ap (λ (z : ℕ). z / 2 ^ n) e ∙ high x' n q,
  sym (low x n p) ∙ ap (λ (z : ℕ). z % 2 ^ n) e ∙ low x' n q,
)

-- ---- numbers of w bits packed into one

all_packed : (w : ℕ) {xs : List ℕ} → All (Fits w) xs → Fits (length xs * w) (packed w xs)
all_packed w all_nil = pow_pos (0 * w)
all_packed w (all_cons {xs = xs} p ps) =
    let e : suc (length xs) * w ≡ w + length xs * w = omega arith in
    rw e (join_fits w (length xs * w) p (all_packed w ps))

pub packed_fits : (w : ℕ) {n : ℕ} {xs : List ℕ} → Each (Fits w) n xs → Fits (n * w) (packed w xs)
packed_fits w e = rw e.long at (all_packed w e.all)

all_packed_inj : (w : ℕ) {xs ys : List ℕ} → All (Fits w) xs → All (Fits w) ys → length xs ≡ length ys → packed w xs ≡ packed w ys → xs ≡ ys
all_packed_inj w all_nil all_nil l e = refl
all_packed_inj w all_nil (all_cons q qs) l e = absurd (omega arith)
all_packed_inj w (all_cons p ps) all_nil l e = absurd (omega arith)
all_packed_inj w (all_cons {x = x} {xs = xs} p ps) (all_cons {x = y} {xs = ys} q qs) l e =
    let k : length xs ≡ length ys = omega arith in
    let z = ap (λ (m : ℕ). 2 ^ (m * w)) k in
    let two = join_inj (length ys * w) x y (rw k at (all_packed w ps)) (all_packed w qs) (ap (λ (m : ℕ). x * m + packed w xs) (sym z) ∙ e) in
    ap₂ ◌∷◌ two.0 (all_packed_inj w ps qs k two.1)

pub packed_inj : (w : ℕ) {n : ℕ} {xs ys : List ℕ} → Each (Fits w) n xs → Each (Fits w) n ys → packed w xs ≡ packed w ys → xs ≡ ys
packed_inj w p q e = all_packed_inj w p.all q.all (p.long ∙ sym q.long) e

-- lists that f maps alike are the same where f tells their members apart
pub map_inj : {A B : Type 0} {P : A → Type 0} (f : A → B) → ((a b : A) → P a → P b → f a ≡ f b → a ≡ b)
    → {xs ys : List A} → All P xs → All P ys → map f xs ≡ map f ys → xs ≡ ys
map_inj f h all_nil all_nil e = refl
map_inj f h all_nil (all_cons q qs) e = absurd (omega (arith, ap length e))
map_inj f h (all_cons p ps) all_nil e = absurd (omega (arith, ap length e))
map_inj f h (all_cons {x = x} p ps) (all_cons {x = y} q qs) e =
    ap₂ ◌∷◌ (h x y p q (cc)) (map_inj f h ps qs (cc))

-- ---- a formed state as one number

module _ (g : Layout) (F : Proper g) where
  basic_bits : g.basic.bits ≡ g.basic.counter + g.link + rest_bits g
  basic_bits = omega (arith, F.basic_is, F.link_fits)

  pub basic_image : (b : Basic) → BasicFits g b → Fits g.basic.bits (pack_basic g b)
  basic_image b f = rw basic_bits (join_fits (g.basic.counter + g.link) (rest_bits g) (join_fits g.basic.counter g.link f.counter f.head) f.rest)

  pub basic_inj : (a b : Basic) → BasicFits g a → BasicFits g b → pack_basic g a ≡ pack_basic g b → a ≡ b
  basic_inj a b p q e =
      let two = join_inj (rest_bits g) (a.counter * 2 ^ g.link + a.head) (b.counter * 2 ^ g.link + b.head) p.rest q.rest e in
      let top = join_inj g.link a.counter b.counter p.head q.head two.0 in
      λ k. record { counter = top.0 k; head = top.1 k; rest = two.1 k }

  pub overflow_image : (o : Overflow) → OverflowFits g o → Fits g.overflow.bits (pack_overflow g o)
  overflow_image o f =
      let e : g.overflow.counter + (g.link + g.owner) ≡ g.overflow.counter + g.link + g.owner = omega arith in
      rw F.overflow_is
      (join_fits (g.overflow.counter + (g.link + g.owner)) (g.sio * g.slot)
      (rw e (join_fits (g.overflow.counter + g.link) g.owner (join_fits g.overflow.counter g.link f.counter f.link) f.owner))
      (packed_fits g.slot f.slots))

  pub overflow_inj : (a b : Overflow) → OverflowFits g a → OverflowFits g b → pack_overflow g a ≡ pack_overflow g b → a ≡ b
  overflow_inj a b p q e =
      let two =
      join_inj (g.sio * g.slot) ((a.counter * 2 ^ g.link + a.link) * 2 ^ g.owner + a.owner)
      ((b.counter * 2 ^ g.link + b.link) * 2 ^ g.owner + b.owner) (packed_fits g.slot p.slots) (packed_fits g.slot q.slots) e in
      let front = join_inj g.owner (a.counter * 2 ^ g.link + a.link) (b.counter * 2 ^ g.link + b.link) p.owner q.owner two.0 in
      let top = join_inj g.link a.counter b.counter p.link q.link front.0 in
      let row = packed_inj g.slot p.slots q.slots two.1 in
      λ k. record { counter = top.0 k; link = top.1 k; owner = front.1 k; slots = row k }

  basics : {bs : List Basic} → Each (BasicFits g) g.lists bs → Each (Fits g.basic.bits) g.lists (map (pack_basic g) bs)
  basics {bs} e = record { long = length-map bs (pack_basic g) ∙ e.long; all = all_map (pack_basic g) basic_image e.all }

  overflows : {os : List Overflow} → Each (OverflowFits g) g.nob os → Each (Fits g.overflow.bits) g.nob (map (pack_overflow g) os)
  overflows {os} e = record { long = length-map os (pack_overflow g) ∙ e.long; all = all_map (pack_overflow g) overflow_image e.all }

  pub image_fits : {st : State} → Formed g st → Fits g.bits (image g st)
  unfolding image
  image_fits f =
      let e : g.bits ≡ g.basic.start + g.lists * g.basic.bits + g.nob * g.overflow.bits = omega (arith, F.bits_is, F.start_is) in
      rw e
      (join_fits (g.basic.start + g.lists * g.basic.bits) (g.nob * g.overflow.bits)
      (join_fits g.basic.start (g.lists * g.basic.bits) f.free (packed_fits g.basic.bits (basics f.basic)))
      (packed_fits g.overflow.bits (overflows f.overflow)))

  -- formed states with one image are the same
  pub image_inj : {a b : State} → Formed g a → Formed g b → image g a ≡ image g b → a ≡ b
  unfolding image
  image_inj {a} {b} p q e =
      let two =
      join_inj (g.nob * g.overflow.bits)
      (a.free * 2 ^ (g.lists * g.basic.bits) + packed g.basic.bits (map (pack_basic g) a.basic))
      (b.free * 2 ^ (g.lists * g.basic.bits) + packed g.basic.bits (map (pack_basic g) b.basic))
      (packed_fits g.overflow.bits (overflows p.overflow)) (packed_fits g.overflow.bits (overflows q.overflow)) e in
      let top =
      join_inj (g.lists * g.basic.bits) a.free b.free
      (packed_fits g.basic.bits (basics p.basic)) (packed_fits g.basic.bits (basics q.basic)) two.0 in
      let bs = map_inj (pack_basic g) basic_inj p.basic.all q.basic.all (packed_inj g.basic.bits (basics p.basic) (basics q.basic) top.1) in
      let os = map_inj (pack_overflow g) overflow_inj p.overflow.all q.overflow.all (packed_inj g.overflow.bits (overflows p.overflow) (overflows q.overflow) two.1) in
      λ k. record { free = top.0 k; basic = bs k; overflow = os k }

  -- ---- writing a state

  -- a formed state is read back
  pub decode_written : {st : State} (t : List ℕ) → Formed g st → g.bits ≤ 8 * length t → decode g (written g t st) ≡ st
  unfolding written
  decode_written {st} t f l =
      image_inj (decode_formed g (written g t st)) f
      (image_decode g F (written g t st) ∙ put_same t 0 g.bits (image g st) (omega arith) (image_fits f))

  -- the state that the bytes hold already changes nothing
  pub written_own : (t : List ℕ) → written g t (decode g t) ≡ t
  unfolding written
  written_own t = ap (put_field t 0 g.bits) (image_decode g F t) ∙ put_own t 0 g.bits

module _ (g : Layout) (t : List ℕ) where
  pub written_length : (st : State) → length (written g t st) ≡ length t
  unfolding written
  written_length st = put_length t 0 g.bits (image g st)

  pub written_bytes : (st : State) → Bytes t → Bytes (written g t st)
  unfolding written
  written_bytes st b = put_bytes t 0 g.bits (image g st) b

  -- the bits behind the table stay
  pub written_outside : (st : State) (o m : ℕ) → g.bits ≤ 8 * length t → g.bits ≤ o → field (written g t st) o m ≡ field t o m
  unfolding written
  written_outside st o m l h = put_out t 0 g.bits (image g st) o m (omega arith) (inr (omega arith))
