-- Bytes with more behind them hold the same table, and agree with the same set.
use Rattle.std.specs.Prelude.{◌≡◌, List, [], ◌∷◌, ◌++◌, ℕ, zero, suc, ◌+◌, ◌-◌, ◌*◌, ◌/◌, ◌≤◌, ◌<◌, length, take, drop, eqb}
use Rattle.std.proofs.Common.{sym, ap, ◌∙◌, arith, length-append}
use Rattle.std.proofs.Math.ListN.{get_or-append}
use Rattle.bits.specs.Bytes.{Bytes}
use Rattle.bits.specs.Field.{bit_at, field}
use Rattle.bits.specs.theory.Fields.{field_ext}
use Rattle.settings.specs.declared.settings.Settings.{Settings}
use Rattle.settings.specs.declared.layout.Layout.{Layout}
use Rattle.settings.specs.Proper.{Proper}
use Rattle.settings.specs.Sizes.{table_bytes}
use Rattle.settings.specs.Legal.{Legal}
use Rattle.settings.specs.Layout.{layout_of}
use Rattle.settings.specs.theory.Proper.{layout_proper}
use Rattle.table.specs.Decode.{decode}
use Rattle.plain_set.specs.Rebuilt.{Pair}
use Rattle.table.specs.Check.{fill_zero}
use Rattle.table.specs.theory.Decode.{image_decode}
use Rattle.table.specs.theory.Formed.{decode_formed}
use Rattle.table.specs.theory.Written.{image_inj}
use Rattle.plain_set.proofs.Agree.{Agree}
use Rattle.plain_set.proofs.Stored.{bits_room}

-- Bytes with more behind them -------------------------------------------------------------------------------------------------

-- what stands in the first bytes, stands there whatever is behind
bit_append : (u v : List ℕ) (i : ℕ) → i < 8 * length u → bit_at (u ++ v) i ≡ bit_at u i
unfolding bit_at
bit_append u v i h = rw (get_or-append u v 0 (i / 8) (omega arith))

field_append : (u v : List ℕ) (off n : ℕ) → off + n ≤ 8 * length u → field (u ++ v) off n ≡ field u off n
field_append u v off n h = field_ext (u ++ v) u off n (λ i l m. bit_append u v i (omega arith))

-- two lists of bytes, one behind the other, are bytes; and so are their parts
pub bytes_append : (u v : List ℕ) → Bytes u → Bytes v → Bytes (u ++ v)
bytes_append [] v a b i = b i
bytes_append (x ∷ u) v a b zero = a 0
bytes_append (x ∷ u) v a b (suc i) = bytes_append u v (λ j. a (suc j)) b i

pub bytes_take : (n : ℕ) (t : List ℕ) → Bytes t → Bytes (take n t)
bytes_take zero t a i = omega arith
bytes_take (suc n) [] a i = omega arith
bytes_take (suc n) (x ∷ t) a zero = a 0
bytes_take (suc n) (x ∷ t) a (suc i) = bytes_take n t (λ j. a (suc j)) i

pub bytes_drop : (n : ℕ) (t : List ℕ) → Bytes t → Bytes (drop n t)
bytes_drop zero t a i = a i
bytes_drop (suc n) [] a i = omega arith
bytes_drop (suc n) (x ∷ t) a i = bytes_drop n t (λ j. a (suc j)) i

pub decode_append : (g : Layout) → Proper g → (u v : List ℕ) → g.bits ≤ 8 * length u → decode g (u ++ v) ≡ decode g u
decode_append g F u v h =
    image_inj g F (decode_formed g (u ++ v)) (decode_formed g u)
    (image_decode g F (u ++ v) ∙ field_append u v 0 g.bits (omega arith) ∙ sym (image_decode g F u))

pub fill_append : (s : Settings) (u v : List ℕ) → table_bytes s ≤ length u → fill_zero (layout_of s) (u ++ v) ≡ fill_zero (layout_of s) u
unfolding fill_zero layout_of table_bytes
fill_append s u v h = ap (λ (n : ℕ). eqb n 0) (field_append u v (layout_of s).bits (8 * (layout_of s).bytes - (layout_of s).bits) (omega arith))

-- Agreement, with more bytes and with fewer -------------------------------------------------------------------------------------

module _ {s : Settings} (right : Legal s) (u v : List ℕ) {T : List (List ℕ)} {ps : List Pair} where
  pub agree_append : Agree s u T ps → Bytes v → Agree s (u ++ v) T ps
  agree_append a b =
      record {
        bytes = bytes_append u v a.bytes b;
        room = omega (arith, a.room, length-append u v);
        stores = rw (decode_append (layout_of s) (layout_proper s right) u v (bits_room s u a.room)) a.stores;
        stands = a.stands;
        fill = fill_append s u v a.room ∙ a.fill;
      }

  pub agree_front : Agree s (u ++ v) T ps → Bytes u → table_bytes s ≤ length u → Agree s u T ps
  agree_front a b room =
      record {
        bytes = b;
        room = room;
        stores = rw (decode_append (layout_of s) (layout_proper s right) u v (bits_room s u room)) at a.stores;
        stands = a.stands;
        fill = sym (fill_append s u v room) ∙ a.fill;
      }
