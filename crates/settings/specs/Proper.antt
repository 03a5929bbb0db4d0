-- What holds of the layout of legal settings: the facts that the functions on a table start from.
use Rattle.std.specs.Prelude.{◌≡◌, suc, ◌+◌, ◌*◌, ◌/◌, ◌^◌, ◌<◌, ◌≤◌}
use Rattle.settings.specs.Legal.{most_bytes}
use Rattle.settings.specs.declared.layout.Layout.{Layout}

pub record Proper (g : Layout) : Type 0 where
  pub slot_is : g.slot ≡ g.bie + g.val
  pub bie_low : 1 ≤ g.bie
  pub bie_high : g.bie ≤ 128
  pub val_high : g.val ≤ 32
  pub sib_low : 1 ≤ g.sib
  pub sib_high : g.sib ≤ 255
  pub nob_high : g.nob ≤ 65535
  pub sio_low : 1 ≤ g.sio
  pub sio_high : g.sio ≤ 15
  pub lists_low : 1 ≤ g.lists
  pub lists_high : g.lists ≤ 65536
  pub link_high : g.link ≤ 16
  pub owner_high : g.owner ≤ 16
  pub free_high : g.basic.start ≤ 16
  pub basic_high : g.basic.counter ≤ 9
  pub overflow_high : g.overflow.counter ≤ 4
  -- clause 2.3: a link fits in the slots
  pub link_fits : g.link ≤ g.sib * g.slot
  pub basic_is : g.basic.bits ≡ g.basic.counter + g.sib * g.slot
  pub overflow_is : g.overflow.bits ≡ g.overflow.counter + (g.link + g.owner) + g.sio * g.slot
  pub start_is : g.overflow.start ≡ g.basic.start + g.lists * g.basic.bits
  pub bits_is : g.bits ≡ g.overflow.start + g.nob * g.overflow.bits
  pub bytes_is : g.bytes ≡ (g.bits + 7) / 8
  pub bytes_high : g.bytes ≤ most_bytes
  -- each field holds the largest number that belongs in it
  pub basic_holds : suc g.sib < 2 ^ g.basic.counter
  pub overflow_holds : g.sio < 2 ^ g.overflow.counter
  pub link_holds : g.nob ≤ 2 ^ g.link
  pub free_holds : g.nob < 2 ^ g.basic.start
  -- and the list's number of an overflow block is that of a list, whatever it is
  pub owner_holds : g.lists ≡ 2 ^ g.owner
