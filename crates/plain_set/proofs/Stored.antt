-- A state that holds lists, written into bytes: the bytes agree with the set that the lists stand for.
use Rattle.std.specs.Prelude.{◌≡◌, true, List, ℕ, ◌-◌, ◌*◌, ◌≤◌, length}
use Rattle.std.proofs.Common.{le_refl, arith}
use Rattle.bits.specs.Bytes.{Bytes}
use Rattle.settings.specs.declared.settings.Settings.{Settings}
use Rattle.settings.specs.Sizes.{table_bytes}
use Rattle.settings.specs.Legal.{Legal}
use Rattle.settings.specs.Layout.{layout_of}
use Rattle.settings.specs.theory.Proper.{layout_proper}
use Rattle.table.specs.State.{State}
use Rattle.table.specs.Decode.{written}
use Rattle.plain_set.specs.Rebuilt.{Pair}
use Rattle.table.specs.Check.{fill_zero}
use Rattle.table.specs.theory.Formed.{Formed}
use Rattle.table.specs.theory.Written.{decode_written, written_length, written_bytes, written_outside}
use Rattle.plain_set.specs.theory.Rep.{Stores}
use Rattle.plain_set.proofs.Lists.{Stands}
use Rattle.plain_set.proofs.Agree.{Agree}

-- the table's bits are within the lent bytes
pub bits_room : (s : Settings) (t : List ℕ) → table_bytes s ≤ length t → (layout_of s).bits ≤ 8 * length t
unfolding layout_of table_bytes
bits_room s t h = omega arith

-- a state that holds lists, written into bytes
pub agree_written : {s : Settings} (t : List ℕ) {st : State} {T : List (List ℕ)} {ps : List Pair} → Legal s → Bytes t → table_bytes s ≤ length t
    → fill_zero (layout_of s) t ≡ true → Formed (layout_of s) st → Stores (layout_of s) st T → Stands s T ps → Agree s (written (layout_of s) t st) T ps
unfolding fill_zero
agree_written {s} t {st} right bytes long fill f o w =
    let room = bits_room s t long in
    record {
      bytes = written_bytes (layout_of s) t st bytes;
      room = rw (written_length (layout_of s) t st) long;
      stores = rw (decode_written (layout_of s) (layout_proper s right) t f room) o;
      stands = w;
      fill = rw (written_outside (layout_of s) t st (layout_of s).bits (8 * (layout_of s).bytes - (layout_of s).bits) room (le_refl (layout_of s).bits)) fill;
    }
