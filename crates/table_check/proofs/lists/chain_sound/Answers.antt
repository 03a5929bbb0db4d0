-- An empty chain, or a walk from the free start.
use mathlib.Core.Path.{sym, ap, ◌∙◌}
use Prim.Native.Nat.{ℕ}
use borrow.Author.Tests.{eq-eqb, ne_eqb}
use Rattle.table.specs.Decode.{decode}
use Rattle.table_check.specs.Walk.{chain_step, walk}
use Rattle.table_check.specs.Lists.{chain_walk}
use Rattle.table_check.proofs.lists.chain_sound.Goals as goal

pub returns-then-first-none : goal.returns-then-first-none
unfolding chain_walk
returns-then-first-none c =
    rw (eq-eqb (decode c.args.g c.args.t.now).free c.args.g.nob (sym c.free_start-first.ensures ∙ c.if-first-none.true))

pub returns : goal.returns
unfolding chain_walk
returns c =
    rw (ne_eqb (decode c.args.g c.args.t.now).free c.args.g.nob (λ q. c.if-first-none.false (c.free_start-first.ensures ∙ q)))
    (ap (λ (b : ℕ). walk c.args.g (chain_step c.args.g (decode c.args.g c.args.t.now).overflow) c.args.g.nob b c.args.marks.now) (sym c.free_start-first.ensures)
    ∙ c.mark_from.ensures)
