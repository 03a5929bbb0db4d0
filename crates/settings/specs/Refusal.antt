-- Clause 7.1: the number of each refusal.
use Rattle.std.specs.Prelude.{ℕ}
use Rattle.settings.specs.declared.refusal.Refusal.{Refusal}
use Rattle.settings.specs.declared.refusal.Refusal.TheVariants as refusal

abbrev pub number_of : Refusal → ℕ
number_of refusal.Settings = 1
number_of refusal.Short = 2
number_of refusal.Width = 3
number_of refusal.Text = 4
number_of refusal.Key = 5
number_of refusal.Label = 6
number_of refusal.Damage = 7
number_of refusal.NoBlock = 8
number_of refusal.Output = 9
number_of refusal.Marks = 10
number_of refusal.Line = 11
number_of refusal.Known = 12
number_of refusal.Page = 13
number_of refusal.Slot = 14
