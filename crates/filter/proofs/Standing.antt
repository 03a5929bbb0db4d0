-- Where the loop stands after each of its steps, and how a run ends.
use mathlib.Core.Path.{◌≡◌, refl, sym, ap, subst, ◌∙◌}
use mathlib.Core.List.{List, [], ◌∷◌, ◌++◌, append_assoc, append-nil}
use mathlib.Core.Bool.{Bool, true, false}
use Prim.Native.Nat.{ℕ, ◌-◌}
use native.Mathlib.Omega.{arith}
use lib.ListN.{take, drop, take-append-drop}
use Rattle.program_stream.specs.Output.{program_output}
use Rattle.program_stream.specs.Steps.{due, Waits}
use Rattle.program_stream.specs.Run.{joined, Sofar}
use Rattle.program_stream.specs.theory.Whole.{whole_program}
use Rattle.program_stream.specs.theory.Runs.{then_answered, then_read, then_ended, so_far}
use Rattle.filter.specs.World.{Taken, Takes, Erred, Wrote}
use Rattle.filter.specs.Loop.{part, unanswered, state, Answered, Came, Stands, Ran, whole, stopped}
use Rattle.filter.specs.declared.State.{State}
use Rattle.filter.specs.declared.Due.{Due}

-- ---- steps

stands_answered : {s : State} {r : Due} {buf t buf' t' out' : List ℕ} → Stands s buf t → Answered s buf t r buf' t' out' → Takes (take r.made out') → Stands (state r.next) buf' t'
stands_answered f e h =
    record {
      pieces = f.pieces;
      out = _;
      given = f.given;
      taken = h f.out f.taken;
      sofar = then_answered f.sofar e.says;
      placed = e.placed;
    }

-- all of what is due was taken
pub stands_wrote : {s : State} {r : Due} {buf t buf' t' out' : List ℕ} {ok : Bool} → Stands s buf t → Answered s buf t r buf' t' out' → Wrote (take r.made out') ok → ok ≡ true
    → Stands (state r.next) buf' t'
stands_wrote f e h k = stands_answered f e (subst Takes (h.whole k) h.takes)

pub stands_read : {s r : State} {buf t buf' : List ℕ} → Stands s buf t → Waits (unanswered s buf) → Came s buf r buf' → Stands r buf' t
stands_read {s} {r} {buf} {t} {buf'} f w e =
    let c = part s.end r.end buf' in
    let ps = f.pieces ++ c ∷ [] in
    record {
      pieces = ps;
      out = f.out;
      given = e.gives f.pieces f.given;
      taken = f.taken;
      sofar =
          subst (λ (x : Bool). Sofar ps f.out t x (unanswered r buf')) (sym e.skip)
          (subst (λ (x : List ℕ). Sofar ps f.out t s.skip x) (sym e.says) (then_read f.sofar c w));
      placed = e.placed;
    }

-- nothing has come
pub waits_still : {s : State} {buf buf' : List ℕ} → Waits (unanswered s buf) → Came s buf s buf' → Waits (unanswered s buf')
waits_still {s} {buf} {buf'} w e =
    let n : s.end - s.end ≡ 0 = omega arith in
    let same : unanswered s buf' ≡ unanswered s buf =
    e.says ∙ ap (λ (m : ℕ). unanswered s buf ++ take m (drop s.end buf')) n ∙ append-nil (unanswered s buf) in
    subst Waits (sym same) w

-- ---- errors

-- of what is due for the pieces so far, all that was written before and a part of the rest was taken
begins : {pieces : List (List ℕ)} {out t : List ℕ} {skip : Bool} {left : List ℕ} → Sofar pieces out t skip left → program_output (joined pieces) ≡ out ++ due t skip left
begins {pieces} {out} {t} {skip} {left} f =
    ap program_output (sym (append-nil (joined pieces))) ∙ so_far f [] ∙ ap (λ (x : List ℕ). out ++ due t skip x) (append-nil left)

parted : (out w x : List ℕ) (n : ℕ) → (out ++ take n w) ++ (drop n w ++ x) ≡ (out ++ w) ++ x
parted out w x n =
    append_assoc out (take n w) (drop n w ++ x) ∙ ap (λ (y : List ℕ). out ++ y) (sym (append_assoc (take n w) (drop n w) x) ∙ ap (λ (y : List ℕ). y ++ x) (take-append-drop n w))
    ∙ sym (append_assoc out w x)

-- a write has failed
pub failed_wrote : {s : State} {r : Due} {buf t buf' t' out' : List ℕ} {ok : Bool} → Stands s buf t → Answered s buf t r buf' t' out' → Wrote (take r.made out') ok → ok ≡ false → Ran false
failed_wrote {r = r} {buf' = buf'} {t' = t'} {out' = out'} f e h k =
    let w = take r.made out' in
    let d = due t' (state r.next).skip (unanswered (state r.next) buf') in
    stopped f.pieces (f.out ++ take h.much w) (drop h.much w ++ d) (h.errs k) f.given (h.takes f.out f.taken)
    (parted f.out w d h.much ∙ sym (begins (then_answered f.sofar e.says)))

-- ---- the end

-- the loop has ended without the end of the input
pub ran_stopped : {s : State} {buf t : List ℕ} → Stands s buf t → Erred → Ran false
ran_stopped {s} {buf} {t} f g = stopped f.pieces f.out (due t s.skip (unanswered s buf)) g f.given f.taken (sym (begins f.sofar))

-- at the end of the input
pub ran_whole : {s : State} {buf t : List ℕ} (ok : Bool) → Stands s buf t → Waits (unanswered s buf) → Wrote (due t s.skip (unanswered s buf)) ok → Ran ok
ran_whole {s} {buf} {t} true f k h =
    let d = due t s.skip (unanswered s buf) in
    let all : f.out ++ d ≡ program_output (joined f.pieces) = whole_program (then_ended f.sofar k refl) in
    whole f.pieces f.given (subst Taken all (subst Takes (h.whole refl) h.takes f.out f.taken))
ran_whole {s} {buf} {t} false f k h =
    let d = due t s.skip (unanswered s buf) in
    stopped f.pieces (f.out ++ take h.much d) (drop h.much d) (h.errs refl) f.given (h.takes f.out f.taken)
    (ap (λ (y : List ℕ). (f.out ++ take h.much d) ++ y) (sym (append-nil (drop h.much d))) ∙ parted f.out d [] h.much ∙ append-nil (f.out ++ d) ∙ sym (begins f.sofar))
