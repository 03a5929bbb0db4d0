-- Each step leads from where the loop stands to where it stands then.
use Rattle.std.proofs.Common.{◌≡◌, ℕ, List, [], true, false, refl, sym, ◌∙◌, arith, Option, Result, Ok, Err, is_ok}
use Rattle.std.specs.Prelude.{MatchResult}
use Rattle.std.specs.declared.io.Error.{Error}
use Rattle.std.proofs.lemmas.Result.{err_from_is_err_and}
use Rattle.program_stream.specs.theory.Runs.{starts}
use Rattle.filter.specs.World.{given_none, taken_none, Erred, erred}
use Rattle.program_stream.specs.Steps.{Waits}
use Rattle.filter.specs.Loop.{state, reads, unanswered, Stands, Read}
use Rattle.filter.specs.declared.Next.{Next}
use Rattle.filter.specs.declared.Next.TheVariants as next
use Rattle.filter.specs.declared.State.{State}
use Rattle.filter.specs.declared.Failure.{Failure}
use Rattle.filter.proofs.Standing.{stands_wrote, stands_read, waits_still, failed_wrote, ran_stopped}
use Rattle.filter.proofs.Memory.answer_input.Goals as goal
use Rattle.filter.proofs.Memory.answer_input.Goals.{After-map_err, in-Answer, in-Read+in_ok-more-in-Read+in-Some}

-- a read comes next
module _ {t buf : List ℕ} {n : Next} {r : State} (e : n ≡ next.Read r) (f : Stands (state n) buf t) (w : reads n ≡ true → Waits (unanswered (state n) buf)) where
  to_read : Stands r buf t
  to_read = rw e at f

  to_wait : Waits (unanswered r buf)
  to_wait = let g : reads n ≡ true = rw e refl in rw e at (w g)

-- what `read_more` says, where its answer was handed on
module _ (s : State) (buf buf' : List ℕ) where
  read_told : (r : Result (Option State) Error) (v : Option State) {r' : Result (Option State) Failure} (Q : Error → Type 0)
      → MatchResult r (λ x. r' ≡ Ok x) Q → is_ok r' ≡ is_ok r → r' ≡ Ok v → Read s buf r buf' → Read s buf (Ok v) buf'
  read_told (Ok x) v Q m i e t = let h : x ≡ v = cc in rw h at t
  read_told (Err y) v Q m i e t = let h : true ≡ false = rw e at i in cc

  read_erred : (r : Result (Option State) Error) → Read s buf r buf' → is_ok r ≡ false → Erred
  read_erred (Ok x) t e = cc
  read_erred (Err y) t e = t.0

pub loop-init : goal.loop-init
loop-init c =
    record {
      pieces = [];
      out = [];
      given = given_none;
      taken = taken_none;
      sofar = starts c.requires;
      placed = record { order = omega arith; within = omega arith };
    }

pub returns-in_err-map_err : goal.returns-in_err-map_err
returns-in_err-map_err c =
    let p = err_from_is_err_and c.from_residual.result c.from_residual.ensures.1 in
    rw p.1 (failed_wrote c.loop.invariant c.answer-due.ensures c.write_out.ensures (sym (rw c.in_err-map_err.was at c.map_err.ensures.variant)))

-- all that was due was written
wrote : (c : After-map_err) → is_ok c.map_err.result ≡ true → Stands (state c.answer-due.result.next) c.answer-due.new.self.buf c.answer-due.new.self.t
wrote c e = stands_wrote c.loop.invariant c.answer-due.ensures c.write_out.ensures (sym c.map_err.ensures.variant ∙ e)

pub returns-in_err-more-in-Read : goal.returns-in_err-more-in-Read
returns-in_err-more-in-Read c =
    let p = err_from_is_err_and c.from_residual-in_err-more-in-Read.result c.from_residual-in_err-more-in-Read.ensures.1 in
    let f = to_read c.in-Read.is (wrote (goal.at.returns-in_err-more-in-Read c).After-map_err (rw c.in_ok-map_err.was refl)) c.answer-due.ensures.waits in
    rw p.1 (ran_stopped f (read_erred _ _ _ _ c.read_more.ensures (sym (rw c.in_err-more-in-Read.was at c.map_err-in-Read.ensures.variant))))

pub returns-in-None : goal.returns-in-None
returns-in-None c =
    let f = wrote (goal.at.returns-in-None c).After-map_err (rw c.in_ok-map_err.was refl) in
    let w = to_wait c.in-Read.is f c.answer-due.ensures.waits in
    let m = c.map_err-in-Read.ensures in
    let e = rw c.in-None.is at (read_told _ _ _ _ _ _ m.cases m.variant c.in_ok-more-in-Read.was c.read_more.ensures) in
    (stands_read (to_read c.in-Read.is f c.answer-due.ensures.waits) w e, waits_still w e)

pub loop-preserved : goal.loop-preserved
loop-preserved c =
    let f = wrote (goal.at.loop-preserved c).After-map_err (rw c.in_ok-map_err.was refl) in
    elim c.match-due.branch [
      | in-Answer w ↦ rw (w.self-is, w.s-is) (rw w.in-Answer.is at f)
      | in-Read+in_ok-more-in-Read+in-Some w ↦
          let m = w.map_err-in-Read.ensures in
          let e = rw w.in-Some.is at (read_told _ _ _ _ _ _ m.cases m.variant w.in_ok-more-in-Read.was w.read_more.ensures) in
          rw (w.self-is, w.s-is)
          (stands_read (to_read w.in-Read.is f c.answer-due.ensures.waits) (to_wait w.in-Read.is f c.answer-due.ensures.waits) e)
    ]

pub returns : goal.returns
returns c = ran_stopped c.loop.invariant erred
