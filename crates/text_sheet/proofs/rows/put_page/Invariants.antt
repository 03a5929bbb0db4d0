-- After n turns the first n of the records ahead stand behind the heading.
use mathlib.Core.Path.{◌≡◌}
use Prim.Native.Nat.{◌+◌, ◌*◌}
use Rattle.table_cursor.specs.Ahead.{ahead, Good}
use Rattle.text_sheet.proofs.PageLaws.{Upto}
use Rattle.text_sheet.proofs.rows.put_page.Given as goal

abbrev pub invariant-loop-n : goal.invariant-loop-n
invariant-loop-n l =
    Good l.g l.t l.c × (l.end ≡ 51 + 51 * l._n) × Upto (ahead l.s l.t l.initial.c) l._n (ahead l.s l.t l.c) l.initial.out l.out
