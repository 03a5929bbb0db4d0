-- Clauses 6.15 and 6.16: relabel.
use Rattle.std.specs.Prelude.{ℕ, cond, Err}
use Rattle.std.proofs.Math.Option.{Option, none, some}
use Rattle.settings.specs.declared.layout.Layout.{Layout}
use Rattle.settings.specs.declared.refusal.Refusal.TheVariants as refusal
use Rattle.table.specs.State.{State, slot_of}
use Rattle.table.specs.Follow.{Content, content}
use Rattle.table.specs.Find.{position, is_held, label_at, compared_in, number_at}
use Rattle.table.specs.Done.{done, Answered, unchanged, answered}
use Rattle.table.specs.Store.{store_at}
use Rattle.table.specs.Answer.{said}
use Rattle.table.specs.declared.answers.Word.TheVariants as word

module _ (g : Layout) where
  -- the same entry with the new label, in the place where it stands first
  unfoldable pub relabel_followed : State → ℕ → ℕ → ℕ → Option Content → Answered
  relabel_followed st i e label none = unchanged (Err refusal.Damage)
  relabel_followed st i e label (some v) =
      let es = v.slots in
      cond (is_held g e es)
      (answered (said word.Relabelled (label_at g e es) (compared_in g e es) (number_at g i e v))
      (done (store_at g st i v.blocks (position g e es) (slot_of g e label))))
      (unchanged (said word.None 0 (compared_in g e es) 0))

  -- relabel of the entry e in list i
  unfoldable pub relabel_in : State → ℕ → ℕ → ℕ → Answered
  relabel_in st i e label = relabel_followed st i e label (content g st i)
