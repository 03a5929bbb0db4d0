-- The tests come in the order of the refusals.
use Rattle.std.specs.Prelude.{Err, Ok}
use mathlib.Core.Path.{◌≡◌, sym, ap, ◌∙◌}
use mathlib.Core.Bool.{false, true}
use mathlib.Core.List.{List, [], ◌∷◌}
use Prim.Native.Nat.{ℕ, ◌≤◌, ◌<◌}
use native.Mathlib.Omega.{arith}
use lib.ListN.{length}
use lib.Dec.{eqb}
use borrow.Author.Tests.{eq-eqb, ne_eqb}
use Rattle.settings.specs.declared.settings.Settings.{Settings}
use Rattle.settings.specs.declared.refusal.Refusal.TheVariants as refusal
use Rattle.settings.specs.declared.layout.Layout.{Layout}
use Rattle.settings.specs.Made.{laid_of}
use Rattle.settings.specs.Due.{unless_due, width_due}
use Rattle.settings.specs.theory.Legal.{laid_layout}
use Rattle.table.specs.theory.Opened.{due_short, due_later}
use Rattle.text_read.specs.Answers.{reading_of}
use Rattle.text_read.specs.theory.Answers.{read_refused}
use Rattle.text_calls.specs.TextCalls.{key_read, text_due}
use Rattle.text_calls.specs.Admits.{admitted_of}
use Rattle.text_calls.proofs.calls.admit.Goals as goal
use Rattle.std.specs.declared.result.Result.{Result}
use Rattle.settings.specs.declared.refusal.Refusal.{Refusal}
use Rattle.keys.specs.declared.Key.{Key}

-- reading refuses with 4 alone, so that the last refusal is what was read
read_due : (x : List ℕ) (p : Result Key Refusal) → reading_of x ≡ p → unless_due (text_due x ∷ []) Err (Ok (key_read (reading_of x))) ≡ p
read_due x (Ok k) e = rw e
read_due x (Err why) e = rw e (ap Err (read_refused x why e))

module _ (s : Settings) (t x : List ℕ) (g : Layout) (e : laid_of s ≡ Ok g) where
  -- what goes on behind refusals 1 to 4
  abbrev on : Result Key Refusal
  on = Ok (key_read (reading_of x))

  short : length t < g.bytes → admitted_of s t x ≡ Err refusal.Short
  unfolding admitted_of
  short l =
      let q = laid_layout s g e in
      due_short Err s (length t) (width_due s ∷ text_due x ∷ []) on g q.0 q.1 l

  module _ (l : g.bytes ≤ length t) where
    later : admitted_of s t x ≡ unless_due (width_due s ∷ text_due x ∷ []) Err on
    unfolding admitted_of
    later =
        let q = laid_layout s g e in
        due_later Err s (length t) (width_due s ∷ text_due x ∷ []) on g q.0 q.1 l

    narrow : eqb s.w 128 ≡ false → admitted_of s t x ≡ Err refusal.Width
    narrow w = later ∙ rw w

    wide : eqb s.w 128 ≡ true → (p : Result Key Refusal) → reading_of x ≡ p → admitted_of s t x ≡ p
    wide w p r = later ∙ rw w (read_due x p r)

pub returns-then-t-g : goal.returns-then-t-g
returns-then-t-g c =
    let a = c.args in
    sym (short a.s a.t.now a.text.now a.g c.requires (omega arith))

pub returns-then-s-ne128 : goal.returns-then-s-ne128
returns-then-s-ne128 c =
    let a = c.args in
    sym (narrow a.s a.t.now a.text.now a.g c.requires (omega arith) (ne_eqb a.s.w 128 c.if-s-ne128.true))

pub returns : goal.returns
returns c =
    let a = c.args in
    sym
    (wide a.s a.t.now a.text.now a.g c.requires (omega arith) (eq-eqb a.s.w 128 c.if-s-ne128.false) c.read.result (sym c.read.ensures))
