-- The tests are those of the definition.
use mathlib.Core.Path.{sym}
use native.Mathlib.Omega.{arith}
use Rattle.table.specs.theory.Ways.{step_last, step_further, step_damage}
use Rattle.table_read.proofs.blocks.step_of.Goals as goal

pub returns-then-front-sio : goal.returns-then-front-sio
returns-then-front-sio c = sym (step_last _ _ _ c.if-front-sio.true)

pub returns-then-front-sio-2 : goal.returns-then-front-sio-2
returns-then-front-sio-2 c = sym (step_damage _ _ _ c.if-front-sio-2.true)

pub returns : goal.returns
returns c = sym (step_further _ _ _ (omega arith))
