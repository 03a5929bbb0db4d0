-- What the call answers and leaves in the marks, behind each of its tests.
use Rattle.std.specs.Prelude.{◌≡◌, ℕ, ◌*◌, ◌<◌, Bool, cond, not, List, [], ◌∷◌, length, replicate, leb, Err, Ok, false, true}
use Rattle.bits.specs.Field.{field}
use Rattle.settings.specs.declared.layout.Layout.{Layout}
use Rattle.settings.specs.declared.refusal.Refusal.TheVariants as refusal
use Rattle.settings.specs.Due.{due}
use Rattle.settings.specs.Reply.{Reply, reply, called}
use Rattle.table.specs.Check.{table_sound, mark_bytes, marks_after}
use Rattle.std.specs.declared.result.Result.{Result}
use Rattle.settings.specs.declared.refusal.Refusal.{Refusal}

-- no block has a mark
abbrev pub Clear : List ℕ → Type 0
Clear m = (j : ℕ) → j < 8 * length m → field m j 1 ≡ 0

pub record Audited (g : Layout) (t m after : List ℕ) (r : Bool) : Type 0 where
  pub answer : r ≡ table_sound g t
  pub marks : after ≡ replicate (length m) 0

-- the call, once the layout is known
unfoldable pub checked_call : Layout → List ℕ → List ℕ → Reply (Result Bool Refusal)
checked_call g t m =
    called Err m
    (due (not (leb g.bytes (length t))) refusal.Short ∷ due (not (leb (mark_bytes g) (length m))) refusal.Marks ∷ [])
    (reply (Ok (table_sound g t)) (marks_after g m))
