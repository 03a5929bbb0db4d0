-- The invariant: spaces stand from `from` up to i, and all else is as it was.
use mathlib.Core.Path.{◌≡◌, sym, ap, ◌∙◌}
use mathlib.Core.List.{List, ◌++◌}
use Prim.Native.Nat.{ℕ, ◌-◌}
use native.Mathlib.Omega.{arith}
use lib.ListN.{take, drop, set, replicate, take-append-drop}
use Rattle.text_sheet.proofs.Fills.{space_more}
use Rattle.text_sheet.proofs.row.put_spaces.Goals as goal

pub loop-i-init : goal.loop-i-init
loop-i-init c =
    let a = c.args in
    let e : 0 ≡ a.from - a.from = omega arith in
    sym (take-append-drop a.from a.line.now) ∙ ap (λ (k : ℕ). take a.from a.line.now ++ (replicate k 32 ++ drop a.from a.line.now)) e

pub loop-i-preserved : goal.loop-i-preserved
loop-i-preserved c =
    let a = c.args in
    let i = c.loop-i.i in
    ap (λ (x : List ℕ). set x i 32) c.loop-i.invariant ∙ space_more a.line.now a.from i (omega arith) (omega arith)

pub returns : goal.returns
returns c =
    let a = c.args in
    let e : c.loop-i.i ≡ a.to = omega arith in
    c.loop-i.invariant ∙ ap (λ (k : ℕ). take a.from a.line.now ++ (replicate (k - a.from) 32 ++ drop k a.line.now)) e
