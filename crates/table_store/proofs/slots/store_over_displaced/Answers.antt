-- Each store is the definition's, on the bytes that the one before left.
use mathlib.Core.Path.{◌≡◌}
use native.Mathlib.Omega.{arith}
use lib.ListN.{length}
use Rattle.bits.specs.theory.Fields.{field_lt}
use Rattle.keys.specs.Key.{key_number}
use Rattle.table_store.specs.theory.StoreLaws.{stored_over}
use Rattle.table_store.proofs.slots.store_over_displaced.Goals as goal

pub put_slot-requires : goal.put_slot-requires
unfolding key_number
put_slot-requires c =
    let l : length c.put.new.s ≡ length c.args.t.now = c.put.auto.s in
    (omega (arith, c.requires.val_bound.0, l), c.requires.val_bound.1, c.requires.val_bound.2, c.requires.val_bound.3, c.requires.val_bound.4, c.requires.val_bound.5)

pub put-requires-2-clause-v_bound : goal.put-requires-2-clause-v_bound
put-requires-2-clause-v_bound c = rw c.get-old.ensures (field_lt _ _ _)

pub returns : goal.returns
unfolding key_number
returns c =
    stored_over _ _ c.args.t.now _ _ _ _ _ _ _ _ _ c.get-old.ensures c.put.ensures c.put_slot.ensures c.get-new.ensures c.put-2.ensures
