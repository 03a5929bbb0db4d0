-- Lists whose members all have a property; and formed states, whose every field fits its bits.
use Rattle.std.specs.Prelude.{◌≡◌, List, [], ◌∷◌, ◌++◌, map, ℕ, zero, suc, ◌+◌, ◌*◌, ◌^◌, ◌<◌, length, get_or, take, drop, set}
use Rattle.std.proofs.Common.{◌∙◌, arith, length-set}
use Rattle.bits.specs.theory.Fields.{field_lt}
use Rattle.settings.specs.declared.layout.Layout.{Layout}
use Rattle.table.specs.Arrays.{tabulate}
use Rattle.table.specs.State.{Basic, Overflow, State, basic_at, overflow_at, rest_bits, empty_basic, absent_block}
use Rattle.table.specs.Decode.{block_at, basic_slots, link_at, owner_at, overflow_slots, read_basic, read_overflow, decode}
use Rattle.table.specs.theory.Arrays.{length_tab}

-- ---- lists whose members all have a property

pub data All {A : Type 0} (P : A → Type 0) : List A → Type 0 where
  all_nil : All P []
  all_cons : {x : A} {xs : List A} → P x → All P xs → All P (x ∷ xs)

module _ {A : Type 0} {P : A → Type 0} where
  -- the member at a place; past the end, the default
  pub all_at : {xs : List A} → All P xs → (d : A) (i : ℕ) → i < length xs → P (get_or xs i d)
  all_at all_nil d i h = absurd (omega arith)
  all_at (all_cons p ps) d zero h = p
  all_at (all_cons p ps) d (suc i) h = all_at ps d i (omega arith)

  pub all_get_d : {xs : List A} {d : A} → All P xs → P d → (i : ℕ) → P (get_or xs i d)
  all_get_d all_nil q i = q
  all_get_d (all_cons p ps) q zero = p
  all_get_d (all_cons p ps) q (suc i) = all_get_d ps q i

  -- with one member replaced
  pub all_set : {xs : List A} {a : A} → All P xs → (i : ℕ) → P a → All P (set xs i a)
  all_set all_nil i q = all_nil
  all_set (all_cons p ps) zero q = all_cons q ps
  all_set (all_cons p ps) (suc i) q = all_cons p (all_set ps i q)

  pub all_take : {xs : List A} (n : ℕ) → All P xs → All P (take n xs)
  all_take zero ps = all_nil
  all_take (suc n) all_nil = all_nil
  all_take (suc n) (all_cons {x = x} {xs = xs} p ps) = all_cons p (all_take {xs = xs} n ps)

  pub all_drop : {xs : List A} (n : ℕ) → All P xs → All P (drop n xs)
  all_drop zero ps = ps
  all_drop (suc n) all_nil = all_nil
  all_drop (suc n) (all_cons {x = x} {xs = xs} p ps) = all_drop {xs = xs} n ps

  pub all_append : {xs ys : List A} → All P xs → All P ys → All P (xs ++ ys)
  all_append all_nil qs = qs
  all_append (all_cons p ps) qs = all_cons p (all_append ps qs)

  pub all_tab : (n : ℕ) (f : ℕ → A) → ((i : ℕ) → i < n → P (f i)) → All P (tabulate n f)
  all_tab zero f h = all_nil
  all_tab (suc n) f h = all_cons (h 0 (omega arith)) (all_tab n (λ i. f (suc i)) (λ i l. h (suc i) (omega arith)))

  pub all_map : {B : Type 0} {Q : B → Type 0} (f : A → B) {xs : List A} → ((a : A) → P a → Q (f a)) → All P xs → All Q (map f xs)
  all_map f h all_nil = all_nil
  all_map f h (all_cons {x = x} p ps) = all_cons (h x p) (all_map f h ps)

-- n members, each with the property P
pub record Each {A : Type 0} (P : A → Type 0) (n : ℕ) (xs : List A) : Type 0 where
  pub long : length xs ≡ n
  pub all : All P xs

module _ {A : Type 0} {P : A → Type 0} {n : ℕ} where
  pub each_at : {xs : List A} → Each P n xs → (d : A) (i : ℕ) → i < n → P (get_or xs i d)
  each_at e d i h = all_at e.all d i (omega (arith, e.long))

  pub each_set : {xs : List A} {a : A} → Each P n xs → (i : ℕ) → P a → Each P n (set xs i a)
  each_set {xs} {a} e i q = record { long = length-set xs i a ∙ e.long; all = all_set e.all i q }

  pub each_tab : (f : ℕ → A) → ((i : ℕ) → i < n → P (f i)) → Each P n (tabulate n f)
  each_tab f h = record { long = length_tab n f; all = all_tab n f h }

-- the number x is one of w bits
abbrev pub Fits : ℕ → ℕ → Type 0
Fits w x = x < 2 ^ w

-- ---- formed states

module _ (g : Layout) where
  pub record BasicFits (b : Basic) : Type 0 where
    pub counter : Fits g.basic.counter b.counter
    pub head : Fits g.link b.head
    pub rest : Fits (rest_bits g) b.rest

  pub record OverflowFits (o : Overflow) : Type 0 where
    pub counter : Fits g.overflow.counter o.counter
    pub link : Fits g.link o.link
    pub owner : Fits g.owner o.owner
    pub slots : Each (Fits g.slot) g.sio o.slots

  -- every field of the state fits its bits, and there are as many blocks of each kind as the layout has
  pub record Formed (st : State) : Type 0 where
    pub free : Fits g.basic.start st.free
    pub basic : Each BasicFits g.lists st.basic
    pub overflow : Each OverflowFits g.nob st.overflow

  -- a block by its number
  pub basic_fits : {st : State} → Formed st → (i : ℕ) → i < g.lists → BasicFits (basic_at st.basic i)
  basic_fits f i h = each_at f.basic empty_basic i h

  pub overflow_fits : {st : State} → Formed st → (j : ℕ) → j < g.nob → OverflowFits (overflow_at st.overflow j)
  overflow_fits f j h = each_at f.overflow absent_block j h

  -- what bits are decoded to is formed, whatever they are
  pub read_basic_lem : (t : List ℕ) (i : ℕ) → BasicFits (read_basic g t i)
  unfolding read_basic
  read_basic_lem t i =
      record {
        counter = field_lt t (block_at g.basic i) g.basic.counter;
        head = field_lt t (basic_slots g i) g.link;
        rest = field_lt t (basic_slots g i + g.link) (rest_bits g);
      }

  pub read_overflow_lem : (t : List ℕ) (j : ℕ) → OverflowFits (read_overflow g t j)
  unfolding read_overflow
  read_overflow_lem t j =
      record {
        counter = field_lt t (block_at g.overflow j) g.overflow.counter;
        link = field_lt t (link_at g j) g.link;
        owner = field_lt t (owner_at g j) g.owner;
        slots = each_tab _ (λ k h. field_lt t (overflow_slots g j + k * g.slot) g.slot);
      }

  pub decode_formed : (t : List ℕ) → Formed (decode g t)
  unfolding decode
  decode_formed t =
      record {
        free = field_lt t 0 g.basic.start;
        basic = each_tab (read_basic g t) (λ i h. read_basic_lem t i);
        overflow = each_tab (read_overflow g t) (λ j h. read_overflow_lem t j);
      }

module _ (g : Layout) (t : List ℕ) where
  -- as many blocks are decoded as there are
  pub basics : length (decode g t).basic ≡ g.lists
  basics = (decode_formed g t).basic.long

  pub overflows : length (decode g t).overflow ≡ g.nob
  overflows = (decode_formed g t).overflow.long
