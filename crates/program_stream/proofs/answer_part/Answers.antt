-- What `answer_line` says of the parts that it is lent, said of the whole.
use Prim.Native.Nat.{◌≤◌}
use native.Mathlib.Omega.{arith}
use lib.ListN.{length, length-take, length-drop}
use Rattle.program_stream.proofs.Copies.{part_written}
use Rattle.program_stream.proofs.answer_part.Goals as goal

pub returns : goal.returns
returns c =
    let a = c.args in
    let p = c.answer_line in
    let room : p.result ≤ length p.new.out = omega (arith, p.ensures.text.room, simp (length-take, length-drop) at p.auto.out) in
    record {
      upper_bound = omega (arith, p.ensures.text.room);
      t_after = p.ensures.bytes;
      out_after = part_written a.out.now p.new.out _ _ a.made p.result (omega arith) room p.ensures.text.is;
    }
