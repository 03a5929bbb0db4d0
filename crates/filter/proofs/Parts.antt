-- Parts of the buffer, and what each step of the loop comes to, from what its callees say.
use mathlib.Core.Path.{◌≡◌, refl, sym, ap, subst, ◌∙◌}
use mathlib.Core.List.{List, [], ◌++◌}
use mathlib.Core.Bool.{Bool, false}
use Prim.Native.Nat.{ℕ, ◌+◌, ◌-◌, ◌≤◌}
use native.Mathlib.Nat.{sub-zero}
use native.Mathlib.Omega.{arith}
use lib.ListN.{length, take, drop, length-take, length-drop, length-append}
use lib.Seq.{take-add, drop-drop, take_at, drop_at, length-take-le, take-append-le}
use Rattle.program_stream.specs.Steps.{Answers, Waits, Consumed, place, goes_on}
use Rattle.program_stream.specs.declared.Step.{Step}
use Rattle.filter.specs.World.{Gives}
use Rattle.filter.specs.Loop.{part, Came}
use Rattle.filter.specs.declared.State.{State}

-- ---- parts

part_of : (a e : ℕ) (l : List ℕ) → a ≤ e → e ≤ length l → drop a (take e l) ≡ part a e l
part_of a e l h k =
    let s : e ≡ a + (e - a) = omega arith in
    ap (λ (n : ℕ). drop a (take n l)) s ∙ ap (drop a) (take-add a (e - a) l) ∙ drop_at (take a l) (take (e - a) (drop a l)) a (length-take-le a l (omega arith))

front : (n : ℕ) (l : List ℕ) → part 0 n l ≡ take n l
front n l = ap (λ (k : ℕ). take k l) (sub-zero n)

-- a part, and the one behind it
parts_join : (a e f : ℕ) (l : List ℕ) → a ≤ e → e ≤ f → part a f l ≡ part a e l ++ part e f l
parts_join a e f l h k =
    let s : f - a ≡ (e - a) + (f - e) = omega arith in
    let d : a + (e - a) ≡ e = omega arith in
    ap (λ (n : ℕ). take n (drop a l)) s ∙ take-add (e - a) (f - e) (drop a l)
    ∙ ap (λ (x : List ℕ). part a e l ++ take (f - e) x) (drop-drop (e - a) a l ∙ ap (λ (n : ℕ). drop n l) d)

-- what stands behind a part does not matter to it
part_kept : (a e : ℕ) (l x : List ℕ) → a ≤ e → e ≤ length l → part a e (take e l ++ x) ≡ part a e l
part_kept a e l x h k =
    let n : length (take e l) ≡ e = length-take-le e l k in
    sym (part_of a e (take e l ++ x) h (omega (arith, length-append (take e l) x))) ∙ ap (drop a) (take_at (take e l) x e n) ∙ part_of a e l h k

-- ---- answers

module _ (buf t : List ℕ) (at end : ℕ) (skip : Bool) (r : Step) (t' out' : List ℕ) (h : at ≤ end) (k : end ≤ length buf)
    (c : Consumed (take end buf) at skip t r t' out') where
  pub come : (place r).at ≤ end
  come = omega (arith, c.within, length-take-le end buf k)

  pub answers_of : Answers t skip (part at end buf) (take (place r).made out') t' (place r).skip (part (place r).at end buf)
  answers_of = record { says = λ rest. rw (← part_of at end buf h k, ← part_of (place r).at end buf come k) (c.says rest) }

  waits_of : goes_on r ≡ false → Waits (part (place r).at end buf)
  waits_of f =
      record {
        none = rw (← part_of (place r).at end buf come k) (c.none f);
        short = simp (length-take, length-drop) (omega (arith, c.short f, length-take-le end buf k));
      }

  -- what is left has moved to the start
  module _ (buf' : List ℕ) (have : ℕ) (e : have ≡ end - (place r).at) (m : take have buf' ≡ take (end - (place r).at) (drop (place r).at buf)) where
    moved : part 0 have buf' ≡ part (place r).at end buf
    moved = front have buf' ∙ m

    pub answers_moved : Answers t skip (part at end buf) (take (place r).made out') t' (place r).skip (part 0 have buf')
    answers_moved = rw moved answers_of

    pub waits_moved : goes_on r ≡ false → Waits (part 0 have buf')
    waits_moved f = rw moved (waits_of f)

-- ---- reads

-- n bytes have come behind the first `end`, which are as they were
pub behind : (at end n : ℕ) (buf x : List ℕ) → at ≤ end → end ≤ length buf
    → part at (end + n) (take end buf ++ x) ≡ part at end buf ++ part end (end + n) (take end buf ++ x)
behind at end n buf x h k =
    parts_join at end (end + n) (take end buf ++ x) h (omega arith)
    ∙ ap (λ (l : List ℕ). l ++ part end (end + n) (take end buf ++ x)) (part_kept at end buf x h k)

-- they are the first n of what stands there
pub came : (end n : ℕ) (buf y z : List ℕ) → end ≤ length buf → n ≤ length y → part end (end + n) (take end buf ++ (y ++ z)) ≡ take n y
came end n buf y z h k =
    let e : end + n - end ≡ n = omega arith in
    ap (λ (m : ℕ). take m (drop end (take end buf ++ (y ++ z)))) e ∙ ap (take n) (drop_at (take end buf) (y ++ z) end (length-take-le end buf h)) ∙ take-append-le n y z k

pub fits_behind : (end n : ℕ) (buf y z : List ℕ) → end ≤ length buf → n ≤ length y → end + n ≤ length (take end buf ++ (y ++ z))
fits_behind end n buf y z h k = omega (arith, length-append (take end buf) (y ++ z), length-append y z, length-take-le end buf h)

-- a read of n bytes, told of the state; where none have come, it is as it was
pub came_behind : (s : State) (n : ℕ) (buf y z : List ℕ) → s.at ≤ s.end → s.end ≤ length buf → n ≤ length y → Gives (take n y)
    → Came s buf (record { at = s.at; end = s.end + n; skip = s.skip }) (take s.end buf ++ (y ++ z))
came_behind s n buf y z o k h g =
    record {
      says = behind s.at s.end n buf (y ++ z) o k;
      skip = refl;
      gives = subst Gives (sym (came s.end n buf y z k h)) g;
      placed = record { order = omega (arith, o); within = fits_behind s.end n buf y z k h };
    }

pub came_none : (s : State) (buf y z : List ℕ) → s.at ≤ s.end → s.end ≤ length buf → Gives [] → Came s buf s (take s.end buf ++ (y ++ z))
came_none s buf y z o k g = let e : s.end + 0 ≡ s.end = omega arith in rw e at (came_behind s 0 buf y z o k (omega arith) g)
