-- The counter says which case it is.
use mathlib.Core.Path.{◌≡◌, sym, ap, ◌∙◌}
use mathlib.Core.Bool.{Bool, true, false}
use Prim.Native.Nat.{ℕ}
use native.Mathlib.Omega.{arith}
use Rattle.table.specs.State.{basic_at}
use Rattle.table.specs.Decode.{decode}
use Rattle.table_check.specs.Walk.{found, list_step, walk}
use Rattle.table_check.specs.Lists.{provided, long_apart, list_walk}
use Rattle.table_check.proofs.ListLaws.{list_short, list_high, list_over}
use Rattle.table_check.proofs.lists.list_sound.Goals as goal
use Rattle.table_check.proofs.lists.list_sound.Goals.{After-mark_from}

pub returns-then-n-g : goal.returns-then-n-g
returns-then-n-g c =
    list_short c.args.g (decode c.args.g c.args.t.now).overflow c.args.i.0 (basic_at (decode c.args.g c.args.t.now).basic c.args.i.0) c.args.marks.now (omega (arith, c.basic_counter-n.ensures))
    ∙ ap (λ (q : Bool). found q c.args.marks.now) (sym c.short_sound.ensures)

pub returns-then-n-g-2 : goal.returns-then-n-g-2
returns-then-n-g-2 c =
    list_high c.args.g (decode c.args.g c.args.t.now).overflow c.args.i.0 (basic_at (decode c.args.g c.args.t.now).basic c.args.i.0) c.args.marks.now
    (omega (arith, c.basic_counter-n.ensures)) (λ e. c.if-n-g-2.true (omega (arith, c.basic_counter-n.ensures)))

-- a list that overflows
over : (c : After-mark_from) (q : Bool) → c.mark_from.result ≡ q → let s = c.args in
    let st = decode s.g s.t.now in
    list_walk s.g st.overflow s.i.0 (basic_at st.basic s.i.0) s.marks.now
    ≡ provided (long_apart s.g st.overflow s.i.0 (basic_at st.basic s.i.0)) (found q c.mark_from.new.marks)
over c q e =
    let g = c.args.g in
    let st = decode g c.args.t.now in
    let b = basic_at st.basic c.args.i.0 in
    list_over g st.overflow c.args.i.0 b c.args.marks.now (omega (arith, c.basic_counter-n.ensures, c.if-n-g-2.false))
    ∙ ap (provided (long_apart g st.overflow c.args.i.0 b))
    (ap (λ (x : ℕ). walk g (list_step g st.overflow c.args.i.0) g.nob x c.args.marks.now) (sym c.basic_head.ensures)
    ∙ c.mark_from.ensures
    ∙ ap (λ (r : Bool). found r c.mark_from.new.marks) e)

pub returns-then-not-mark_from : goal.returns-then-not-mark_from
returns-then-not-mark_from c = over (goal.at.returns-then-not-mark_from c).After-mark_from false c.if-not-mark_from.true

pub returns : goal.returns
returns c =
    over (goal.at.returns c).After-mark_from true c.if-not-mark_from.false ∙ ap (λ (q : Bool). found q c.mark_from.new.marks) (sym c.long_apart.ensures)
