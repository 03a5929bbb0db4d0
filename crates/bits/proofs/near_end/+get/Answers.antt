-- All but the bits in the last byte, and these behind them, make up the field (`field_two`).
use Rattle.std.proofs.Common.{◌≡◌, ◌^◌, ◌+◌, ◌-◌, ◌*◌, ◌%◌, ◌∙◌, arith}
use Rattle.bits.specs.Field.{field}
use Rattle.bits.specs.theory.Fields.{field_fits}
use Rattle.bits.specs.theory.Words.{field_two}
use Rattle.bits.proofs.near_end.+get.Goals as goal
use Rattle.bits.proofs.near_end.+get.Goals.{After-get-3}

whole : (t : _) (c : After-get-3 t) → c.get-2.result * 2 ^ ((c.args.off % 8 + c.args.n - 1) % 8 + 1) + c.get-3.result ≡ field c.args.s.now c.args.off c.args.n
whole t c =
    rw (c.get-2.ensures, c.get-3.ensures)
    (field_two c.args.s.now _ _ _ _ c.args.off c.args.n (omega arith) (omega arith) (omega arith))

pub join-requires : goal.join-requires
join-requires t c = (omega arith, rw (whole t (goal.at.join-requires t c).After-get-3) (field_fits c.args.s.now c.args.off c.args.n 64 (omega arith)))

pub returns : goal.returns
returns t c = c.join.ensures ∙ whole t (goal.at.returns t c).After-get-3
