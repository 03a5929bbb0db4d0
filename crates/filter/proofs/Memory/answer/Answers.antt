-- What `consume` says, and where what is left stands afterwards.
use mathlib.Core.Path.{refl}
use native.Mathlib.Omega.{arith}
use lib.Seq.{length-take-le}
use Rattle.program_answers.specs.theory.Program.{program_bytes_lem}
use Rattle.filter.proofs.Parts.{come, answers_of, answers_moved, waits_moved}
use Rattle.filter.proofs.Memory.answer.Goals as goal

pub returns-in-More : goal.returns-in-More
returns-in-More c =
    let a = c.args in
    let p = c.requires in
    let e = c.in-More.ensures in
    record {
      says = answers_of a.self.now.buf a.self.now.t a.s.at a.s.end a.s.skip _ _ _ p.order p.within e;
      waits = λ f. cc;
      room = λ f. cc;
      fits = e.fits;
      placed = record { order = come a.self.now.buf a.self.now.t a.s.at a.s.end a.s.skip _ _ _ p.order p.within e; within = p.within };
    }

pub returns-in-Rest : goal.returns-in-Rest
returns-in-Rest c =
    let a = c.args in
    let p = c.requires in
    let e = c.in-Rest.ensures in
    let m = c.keep.ensures in
    record {
      says = answers_moved a.self.now.buf a.self.now.t a.s.at a.s.end a.s.skip _ _ _ p.order p.within e _ c.keep.result m.0 m.1;
      waits = λ _. waits_moved a.self.now.buf a.self.now.t a.s.at a.s.end a.s.skip _ _ _ p.order p.within e _ c.keep.result m.0 m.1 refl;
      room = λ _. omega (arith, m.0, e.short refl, length-take-le a.s.end a.self.now.buf p.within);
      fits = e.fits;
      placed = record { order = omega arith; within = omega (arith, m.0, c.keep.auto, p.within) };
    }

pub consume-m-requires-clause-room : goal.consume-m-requires-clause-room
consume-m-requires-clause-room c = omega (arith, program_bytes_lem)
