-- Behind the displaced bits the slot's fields are those of the bytes as they stand.
use mathlib.Core.Path.{refl, sym, ap, ◌∙◌}
use Prim.Native.Nat.{◌+◌, ◌*◌, ◌≤◌}
use native.Mathlib.Omega.{arith}
use Rattle.bits.specs.theory.Fields.{field_fits}
use Rattle.keys.specs.Key.{key_of}
use Rattle.table_read.specs.Steps.{FieldWithin}
use Rattle.table_read.specs.theory.Reads.{restored_bytes_out, slot_inside, entry_in, label_in_lem, entry_within}
use Rattle.table_cursor.proofs.walk.held.Goals as goal
use Rattle.table_cursor.proofs.walk.held.Goals.{Start}

inside : (s : Start) → s.args.b.start + s.args.j.0 * s.args.g.slot + s.args.g.slot ≤ s.args.b.start + s.args.b.count * s.args.g.slot
inside s = slot_inside s.args.g s.args.t.now s.args.b s.args.j.0 s.requires.2

entry_fits : (s : Start) → FieldWithin s.args.t.now s.args.b (s.args.b.start + s.args.j.0 * s.args.g.slot) s.args.g.bie
entry_fits s = entry_within s.args.g s.args.t.now s.args.b s.requires.0 s.requires.1 s.args.j.0 _ s.requires.2 refl

label_fits : (s : Start) → FieldWithin s.args.t.now s.args.b (s.args.b.start + s.args.j.0 * s.args.g.slot + s.args.g.bie) s.args.g.val
label_fits s =
    let R = s.requires.1 in
    record {
      from = omega arith;
      ends = omega (arith, inside s, R.ends, s.requires.0.slot_is);
      near = omega (arith, inside s, R.near, s.requires.0.slot_is);
      block = R.block;
      narrow = R.narrow;
      fits = R.fits;
    }

pub overflow_cast-result : goal.overflow_cast-result
overflow_cast-result c =
    let f = field_fits c.args.t.now (c.args.b.start + c.args.j.0 * c.args.g.slot + c.args.g.bie) c.args.g.val 32 c.requires.0.val_high in
    record { fits = rw c.get.ensures f }

pub returns : goal.returns
returns c =
    let g = c.args.g in
    let t = c.args.t.now in
    let b = c.args.b in
    let j = c.args.j.0 in
    let at = b.start + j * g.slot in
    record {
      entry = c.key_at.ensures
          ∙ ap key_of (restored_bytes_out t b at g.bie (entry_fits (goal.at.returns c).Start) (omega (arith, c.if-at-b.false)) ∙ sym (entry_in g t b c.requires.0 j c.requires.2));
      label = c.get.ensures
          ∙ restored_bytes_out t b (at + g.bie) g.val (label_fits (goal.at.returns c).Start) (omega (arith, c.if-at-b.false)) ∙ sym (label_in_lem g t b c.requires.0 j c.requires.2);
    }
