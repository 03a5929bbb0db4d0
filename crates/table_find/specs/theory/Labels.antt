-- A call with a label.
use Rattle.std.specs.Prelude.{◌≡◌, refl, false, List, [], ◌∷◌, ℕ, ◌^◌, ◌≤◌, ◌<◌, length, ltb, Err}
use Rattle.std.proofs.Common.{ap, arith, lt_of_lt_of_le, pow_mono}
use Rattle.settings.specs.declared.settings.Settings.{Settings}
use Rattle.settings.specs.declared.layout.Layout.{Layout}
use Rattle.settings.specs.declared.refusal.Refusal.TheVariants as refusal
use Rattle.settings.specs.Layout.{layout_of}
use Rattle.settings.specs.Due.{label_due}
use Rattle.settings.specs.Reply.{Gives}
use Rattle.settings.specs.theory.Legal.{legal_means}
use Rattle.keys.specs.declared.Key.{Key}
use Rattle.table.specs.Calls.{Verb, verb_due, key_call}
use Rattle.table_find.specs.theory.Seeks.{Opened, open_call}

-- it is refused, once the table is opened for the key
pub label_refused : {s : Settings} {k : Key} {g : Layout} (t : List ℕ) (v : Verb) (label : ℕ) → verb_due s v ≡ label_due s label ∷ [] → Opened s (length t) k g
    → ltb label (2 ^ s.val) ≡ false → Gives (key_call s t v k) (Err refusal.Label) t
label_refused {s} {k} t v label d o h = rw (open_call s k t v o, d, h) (record { answer = refl; bytes = refl })

module _ {s : Settings} {n : ℕ} {k : Key} {g : Layout} (o : Opened s n k g) where
  pub val_high : s.val ≤ 32
  val_high = (legal_means s o.lawful).ranges.val_high

  -- a label that the settings allow fits a word
  pub label_word : {label : ℕ} → label < 2 ^ s.val → label < 2 ^ 32
  label_word h = lt_of_lt_of_le h (pow_mono val_high)

-- a label that the settings allow fits a slot
pub label_slot : {s : Settings} {n : ℕ} {k : Key} {g : Layout} → Opened s n k g → {label : ℕ} → label < 2 ^ s.val → label < 2 ^ g.val
unfolding layout_of
label_slot {s} {g = g} o h =
    let w : 2 ^ (layout_of s).val ≡ 2 ^ g.val = ap (λ (x : Layout). 2 ^ x.val) o.layout in
    omega arith
