-- The tests come in the order of the refusals.
use Rattle.std.specs.Prelude.{Err, Ok}
use mathlib.Core.Path.{◌≡◌, sym, ap, ◌∙◌}
use mathlib.Core.Bool.{true, false}
use mathlib.Core.List.{[], ◌∷◌}
use Prim.Native.Nat.{◌^◌}
use native.Mathlib.Omega.{arith}
use lib.ListN.{length}
use lib.Dec.{ltb}
use Rattle.settings.specs.Legal.{legal}
use Rattle.settings.specs.Layout.{layout_of}
use Rattle.settings.specs.Due.{unless_due, key_due}
use Rattle.keys.specs.Key.{key_number}
use Rattle.settings.specs.theory.Legal.{legal_means, laid_layout}
use Rattle.table.specs.theory.Opened.{due_short, due_later}
use Rattle.table_find.specs.Seek.{open_of}
use Rattle.table_find.proofs.admit.Goals as goal
use Rattle.table_find.proofs.admit.Goals.{After-within, Start}

-- the settings are legal, and the layout is theirs
is_laid : (s : Start) → (legal s.args.s ≡ true) × (layout_of s.args.s ≡ s.args.g)
is_laid s = laid_layout s.args.s s.args.g s.requires

is_laid_at_after_within : (s : After-within) → (legal s.args.s ≡ true) × (layout_of s.args.s ≡ s.args.g)
is_laid_at_after_within s = laid_layout s.args.s s.args.g s.requires

-- the bytes are enough: what is left is the test of the key
long : (c : After-within) → let a = c.args in
    open_of a.s (length a.t.now) a.key ≡ unless_due (key_due a.s (key_number a.key) ∷ []) Err (Ok (layout_of a.s))
unfolding open_of
long c =
    let a = c.args in
    due_later Err a.s (length a.t.now) (key_due a.s (key_number a.key) ∷ []) (Ok (layout_of a.s))
    a.g (is_laid_at_after_within c).0 (is_laid_at_after_within c).1 (omega arith)

pub returns-then-t-g : goal.returns-then-t-g
unfolding open_of
returns-then-t-g c =
    let a = c.args in
    sym
    (due_short Err a.s (length a.t.now) (key_due a.s (key_number a.key) ∷ []) (Ok (layout_of a.s))
    a.g (is_laid (goal.at.returns-then-t-g c).Start).0 (is_laid (goal.at.returns-then-t-g c).Start).1 (omega arith))

pub within-requires : goal.within-requires
within-requires c =
    (legal_means c.args.s (is_laid (goal.at.within-requires c).Start).0).ranges.w_high

pub returns-then-not-within : goal.returns-then-not-within
returns-then-not-within c =
    let a = c.args in
    let w : ltb (key_number a.key) (2 ^ a.s.w) ≡ false = sym c.within.ensures ∙ c.if-not-within.true in
    sym (long (goal.at.returns-then-not-within c).After-within ∙ rw w)

pub returns : goal.returns
returns c =
    let a = c.args in
    let w : ltb (key_number a.key) (2 ^ a.s.w) ≡ true = sym c.within.ensures ∙ c.if-not-within.false in
    sym (long (goal.at.returns c).After-within ∙ rw w (ap Ok (is_laid (goal.at.returns c).Start).1))
