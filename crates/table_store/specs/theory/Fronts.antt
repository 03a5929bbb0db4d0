-- Two fields of a block stored together: its counter and the L bits behind it, or an overflow block's link and owner.
use Rattle.std.specs.Prelude.{◌≡◌, List, ℕ, suc, ◌+◌, ◌*◌, ◌^◌, ◌≤◌, ◌<◌}
use Rattle.std.proofs.Math.Path.{refl, ap}
use Rattle.std.proofs.Common.{ap₂, ◌∙◌, arith, lt_of_lt_of_le, add_assoc, pow_mono}
use Rattle.std.proofs.Math.Pow.{high, low}
use Rattle.table.specs.theory.Formed.{basics, overflows}
use Rattle.table.specs.Updates.{with_counter, with_link, with_front, with_basic_counter, with_head, with_basic_front, over_basic, over_overflow}
use Rattle.bits.specs.Put.{put_field}
use Rattle.bits.specs.theory.Puts.{put_cat}
use Rattle.settings.specs.declared.layout.Layout.{Layout}
use Rattle.table.specs.State.{empty_block}
use Rattle.table.specs.Decode.{block_at, link_at, owner_at, decode}
use Rattle.table.specs.Table.{Table}
use Rattle.table_store.specs.Stores.{basic_counter_put, head_put, overflow_counter_put, link_put, owner_put, emptied, Stored}
use Rattle.table.specs.theory.Written.{join_fits}
use Rattle.table_store.specs.theory.StoreLaws.{with_owner, basic_twice, overflow_twice, stored_then, stored_as, stored_basic_counter, stored_head, stored_overflow_counter, stored_link, stored_owner, stored_zeros}

-- two fields side by side as one number
pub front_small : (n l m k : ℕ) → n < 2 ^ m → l < 2 ^ k → m ≤ 16 → k ≤ 32 → n * 2 ^ k + l < 2 ^ 64
front_small n l m k hn hl hm hk = lt_of_lt_of_le (join_fits m k hn hl) (pow_mono {j = 64} (omega arith))

pub front_put : (t : List ℕ) (at m k n l : ℕ) → l < 2 ^ k → put_field t at (m + k) (n * 2 ^ k + l) ≡ put_field (put_field t at m n) (at + m) k l
front_put t at m k n l hl =
    put_cat t at m k (n * 2 ^ k + l) ∙ ap₂ (λ (x y : ℕ). put_field (put_field t at m x) (at + m) k y) (high n k hl) (low n k hl)

module _ (g : Layout) (t : List ℕ) (T : Table g t) (u : List ℕ) where
  pub stored_basic_front : (i n h : ℕ) → i < g.lists → n ≤ suc g.sib → h < 2 ^ g.link → u ≡ head_put g (basic_counter_put g t i n) i h
      → Stored g t u (over_basic i (with_basic_front n h) (decode g t))
  stored_basic_front i n h hi hn hh e =
      let a = basic_counter_put g t i n in
      let s = stored_basic_counter g t T i hi (basic_counter_put g t i n) n (omega (arith, T.proper.basic_holds)) refl in
      stored_as (over_basic i (with_basic_front n h) (decode g t))
      (stored_then (over_basic i (with_head h)) s (stored_head g a s.table i hi u h hh e))
      (basic_twice i (with_head h) (with_basic_counter n) (decode g t) (omega (arith, basics g t)))

  pub stored_overflow_front : (j n l : ℕ) → j < g.nob → n ≤ g.sio → l < 2 ^ g.link → u ≡ link_put g (overflow_counter_put g t j n) j l
      → Stored g t u (over_overflow j (with_front n l) (decode g t))
  stored_overflow_front j n l hj hn hl e =
      let a = overflow_counter_put g t j n in
      let s = stored_overflow_counter g t T j hj (overflow_counter_put g t j n) n (omega (arith, T.proper.overflow_holds)) refl in
      stored_as (over_overflow j (with_front n l) (decode g t))
      (stored_then (over_overflow j (with_link l)) s (stored_link g a s.table j hj u l hl e))
      (overflow_twice j (with_link l) (with_counter n) (decode g t) (omega (arith, overflows g t)))

  -- a block cleared, and then given link and owner side by side
  pub stored_emptied : (j l i : ℕ) → j < g.nob → l < 2 ^ g.link → i < 2 ^ g.owner → u ≡ emptied g t j l i
      → Stored g t u (over_overflow j (λ o. empty_block g l i) (decode g t))
  unfolding emptied link_put owner_put link_at owner_at
  stored_emptied j l i hj hl hi e =
      let z = put_field t (block_at g.overflow j) g.overflow.bits 0 in
      let at = block_at g.overflow j + g.overflow.counter in
      let a = stored_zeros g t T j hj in
      let b = stored_link g z a.table j hj (put_field z at g.link l) l hl refl in
      let c =
      stored_owner g (put_field z at g.link l) b.table j hj u i hi
      (e ∙ front_put z at g.link g.owner l i hi ∙ ap (λ (p : ℕ). put_field (put_field z at g.link l) p g.owner i) (add_assoc (block_at g.overflow j) g.overflow.counter g.link)) in
      stored_as (over_overflow j (λ o. empty_block g l i) (decode g t))
      (stored_then (over_overflow j (with_owner i)) (stored_then (over_overflow j (with_link l)) a b) c)
      (ap (over_overflow j (with_owner i)) (overflow_twice j (with_link l) (λ o. empty_block g 0 0) (decode g t) (omega (arith, overflows g t)))
      ∙ overflow_twice j (with_owner i) (λ o. empty_block g l 0) (decode g t) (omega (arith, overflows g t)))
