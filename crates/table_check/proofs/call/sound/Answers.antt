-- The walk over the lists and the free chain, the marks, and the fill.
use mathlib.Core.Path.{◌≡◌, sym, ap, ap₂, ◌∙◌}
use mathlib.Core.Bool.{Bool, false, ◌&&◌}
use mathlib.Core.List.{List}
use mathlib.Core.Option.{Option}
use Prim.Native.Nat.{ℕ, ◌≤◌}
use native.Mathlib.Omega.{arith}
use Rattle.table.specs.Decode.{decode}
use Rattle.table.specs.Table.{Table}
use Rattle.table.specs.Check.{fill_zero, table_sound}
use Rattle.table_check.specs.Walk.{found}
use Rattle.table_check.specs.Lists.{and_then, lists_walk, chain_walk}
use Rattle.settings.specs.declared.layout.Layout.{Layout}
use Rattle.settings.specs.Proper.{Proper}
use lib.ListN.{length}
use Rattle.table_check.proofs.Sound.{clear_marks, table_none, table_some}
use Rattle.table_check.proofs.call.sound.Goals as goal
use Rattle.table_check.proofs.call.sound.Goals.{After-all_marked, After-chain_sound}

table : (g : Layout) (t : List ℕ) → Proper g → g.bytes ≤ length t → Table g t
table g t P h = record { proper = P; room = omega (arith, P.bytes_is) }

pub returns-then-not-lists_sound : goal.returns-then-not-lists_sound
returns-then-not-lists_sound c =
    sym
    (table_none c.args.g c.args.t.now c.args.marks.now (table c.args.g c.args.t.now c.requires.0 c.requires.1) (clear_marks c.args.g.nob c.args.marks.now c.requires.2 c.requires.3)
    (ap (λ (o : Option (List ℕ)). and_then o (chain_walk c.args.g (decode c.args.g c.args.t.now)))
    (c.lists_sound.ensures ∙ ap (λ (q : Bool). found q c.lists_sound.new.marks) c.if-not-lists_sound.true)))

-- the lists, and then the free chain
walked : (k : After-chain_sound) (q : Bool) → k.chain_sound.result ≡ q → let s = k.args in
    and_then (lists_walk s.g (decode s.g s.t.now) s.g.lists s.marks.now) (chain_walk s.g (decode s.g s.t.now))
    ≡ found q k.chain_sound.new.marks
walked k q e =
    ap (λ (o : Option (List ℕ)). and_then o (chain_walk k.args.g (decode k.args.g k.args.t.now)))
    (k.lists_sound.ensures ∙ ap (λ (r : Bool). found r k.lists_sound.new.marks) k.if-not-lists_sound.false)
    ∙ k.chain_sound.ensures
    ∙ ap (λ (r : Bool). found r k.chain_sound.new.marks) e

pub returns-then-not-chain_sound : goal.returns-then-not-chain_sound
returns-then-not-chain_sound c =
    sym (table_none c.args.g c.args.t.now c.args.marks.now (table c.args.g c.args.t.now c.requires.0 c.requires.1) (clear_marks c.args.g.nob c.args.marks.now c.requires.2 c.requires.3) (walked (goal.at.returns-then-not-chain_sound c).After-chain_sound false c.if-not-chain_sound.true))

-- every block marked, and the fill
ends : (a : After-all_marked) → (a.all_marked.result && fill_zero a.args.g a.args.t.now) ≡ table_sound a.args.g a.args.t.now
ends a =
    ap (λ (q : Bool). q && fill_zero a.args.g a.args.t.now) a.all_marked.ensures
    ∙ sym
    (table_some a.args.g a.args.t.now a.args.marks.now (table a.args.g a.args.t.now a.requires.0 a.requires.1) (clear_marks a.args.g.nob a.args.marks.now a.requires.2 a.requires.3) a.chain_sound.new.marks
    (ap (λ (o : Option (List ℕ)). and_then o (chain_walk a.args.g (decode a.args.g a.args.t.now)))
    (a.lists_sound.ensures ∙ ap (λ (r : Bool). found r a.lists_sound.new.marks) a.if-not-lists_sound.false)
    ∙ a.chain_sound.ensures
    ∙ ap (λ (r : Bool). found r a.chain_sound.new.marks) a.if-not-chain_sound.false))

pub returns-then-not-all_marked : goal.returns-then-not-all_marked
returns-then-not-all_marked c =
    ap (λ (q : Bool). q && fill_zero c.args.g c.args.t.now) (sym c.if-not-all_marked.true) ∙ ends (goal.at.returns-then-not-all_marked c).After-all_marked

pub returns : goal.returns
unfolding fill_zero
returns c =
    ap₂ ◌&&◌ (sym c.if-not-all_marked.false) c.zeros.ensures ∙ ends (goal.at.returns c).After-all_marked
