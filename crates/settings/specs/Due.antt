-- Clauses 7.1 to 7.3: the refusals of a call, in the order in which one wins over the next.
use Rattle.std.specs.Prelude.{ℕ, ◌^◌, Bool, cond, not, List, [], ◌∷◌, ◌==◌, nat_le, nat_lt}
use Rattle.settings.specs.declared.settings.Settings.{Settings}
use Rattle.settings.specs.declared.refusal.Refusal.{Refusal}
use Rattle.settings.specs.declared.refusal.Refusal.TheVariants as refusal
use Rattle.settings.specs.Sizes.{table_bytes}
use Rattle.settings.specs.Legal.{legal}

-- a refusal, and whether it is due
pub record Due : Type 0 where
  pub is : Bool
  pub why : Refusal

abbrev pub due : Bool → Refusal → Due
due b why = record { is = b; why = why }

-- the first of the refusals that is due, or what the call comes to if none is
abbrev pub unless_due : {A : Type 0} → List Due → (Refusal → A) → A → A
unless_due [] refuse on = on
unless_due (d ∷ ds) refuse on = cond d.is (refuse d.why) (unless_due ds refuse on)

module _ (s : Settings) where
  -- 1: the settings are not legal
  abbrev pub settings_due : Due
  settings_due = due (not (legal s)) refusal.Settings

  -- 2: the lent table, of n bytes, is smaller than its size
  abbrev pub short_due : ℕ → Due
  short_due n = due (not (nat_le (table_bytes s) n)) refusal.Short

  -- 3: a text, and w is not 128
  abbrev pub width_due : Due
  width_due = due (not (s.w == 128)) refusal.Width

  -- 5: the key is 2^w or more
  abbrev pub key_due : ℕ → Due
  key_due k = due (not (nat_lt k (2 ^ s.w))) refusal.Key

  -- 6: the label is 2^val or more
  abbrev pub label_due : ℕ → Due
  label_due label = due (not (nat_lt label (2 ^ s.val))) refusal.Label
