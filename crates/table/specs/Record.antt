-- Clause 6.9: record.
use Rattle.std.specs.Prelude.{ℕ, suc, ◌-◌, cond, List, [], ◌∷◌, length, get_or, ltb, Err, None, Ok}
use Rattle.std.proofs.Math.Option.{Option, none, some}
use Rattle.settings.specs.declared.settings.Settings.{Settings}
use Rattle.settings.specs.declared.refusal.Refusal.TheVariants as refusal
use Rattle.keys.specs.Key.{key_of, rebuilt}
use Rattle.settings.specs.Layout.{layout_of}
use Rattle.table.specs.State.{Basic, Overflow, State, entry_of, label_of}
use Rattle.table.specs.Follow.{Content, content_of}
use Rattle.table.specs.Answer.{RecordAnswer, recorded}

module _ (s : Settings) where
  abbrev pub record_of : ℕ → ℕ → RecordAnswer
  record_of i x = recorded (key_of (rebuilt s i (entry_of (layout_of s) x))) (label_of (layout_of s) x)

  -- record n of the lists from list i on
  unfoldable pub record_from : ℕ → List Basic → List Overflow → ℕ → RecordAnswer
  record_from i [] os n = Ok None
  record_from i (b ∷ bs) os n = go (content_of (layout_of s) i b os) (λ m. record_from (suc i) bs os m)
    where
      go : Option Content → (ℕ → RecordAnswer) → RecordAnswer
      go none on = Err refusal.Damage
      go (some v) on = cond (ltb n (length v.slots)) (record_of i (get_or v.slots n 0)) (on (n - length v.slots))

  unfoldable pub record_in : State → ℕ → RecordAnswer
  record_in st n = record_from 0 st.basic st.overflow n
