-- The bytes of the text have been put as far as i, and those behind them stay.
use mathlib.Core.Path.{◌≡◌, refl, sym, ap, ◌∙◌}
use mathlib.Core.List.{List, ◌++◌, append-nil}
use Prim.Native.Nat.{ℕ, ◌+◌}
use native.Mathlib.Nat.{add-zero}
use native.Mathlib.Omega.{arith}
use lib.ListN.{length, get_or, take}
use lib.Seq.{take-length, drop-set-lt}
use Rattle.program_answers.proofs.Puts.{put_more, rest_more}
use Rattle.program_answers.proofs.text.put.Goals as goal

pub loop-i-init : goal.loop-i-init
loop-i-init c =
    let a = c.args in
    record { is = ap (λ (n : ℕ). take n a.out.now) (add-zero a.at) ∙ sym (append-nil (take a.at a.out.now)); rest = refl }

pub loop-i-preserved : goal.loop-i-preserved
loop-i-preserved c =
    let a = c.args in
    let i = c.loop-i.i in
    record {
      is = put_more a.text.now a.out.now c.loop-i.out a.at i (omega arith) (omega arith) c.loop-i.invariant.is;
      rest =
          drop-set-lt (a.at + (i + 1)) c.loop-i.out (a.at + i) (get_or a.text.now i 0) (omega arith)
          ∙ rest_more (a.at + i) (a.at + (i + 1)) c.loop-i.out a.out.now (omega arith) c.loop-i.invariant.rest;
    }

pub returns : goal.returns
returns c =
    let a = c.args in
    let e : c.loop-i.i ≡ length a.text.now = omega arith in
    record {
      end = refl;
      is = rw (← e) (c.loop-i.invariant.is ∙ ap (λ (l : List ℕ). take a.at a.out.now ++ l) (ap (λ (n : ℕ). take n a.text.now) e ∙ take-length a.text.now));
      rest = rw (← e) c.loop-i.invariant.rest;
    }
