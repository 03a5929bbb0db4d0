-- What the functions below record are asked and answer.
use Rattle.std.specs.Prelude.{◌≡◌, ℕ, ◌+◌, ◌-◌, ◌*◌, ◌^◌, ◌≤◌, ◌<◌, cond, List, length, get_or, drop, ltb, Ok, Err, Some, None}
use Rattle.std.specs.declared.result.Result.{Result}
use Rattle.std.proofs.Math.Option.{Option, none, some}
use Rattle.settings.specs.Legal.{Legal, most_bits}
use Rattle.settings.specs.Layout.{layout_of}
use Rattle.bits.specs.Field.{field}
use Rattle.keys.specs.Key.{key_number, key_of, rebuilt}
use Rattle.settings.specs.declared.settings.Settings.{Settings}
use Rattle.keys.specs.declared.Key.{Key}
use Rattle.settings.specs.declared.layout.Layout.{Layout}
use Rattle.settings.specs.declared.refusal.Refusal.TheVariants as refusal
use Rattle.table.specs.State.{State, entry_of, label_of}
use Rattle.table.specs.Table.{Table}
use Rattle.table.specs.Follow.{Content}
use Rattle.table.specs.Record.{record_of, record_from}
use Rattle.table_read.specs.Steps.{SlotsWithin, slots_in}
use Rattle.table.specs.Answer.{RecordAnswer}
use Rattle.table.specs.declared.answers.Record.{Record}
use Rattle.table.specs.declared.damage.Damage.{Damage}
use Rattle.table_record.specs.declared.Nth.{Nth}
use Rattle.table_record.specs.declared.Nth.TheVariants as nth
use Rattle.table_record.specs.declared.slot.Spot.{Spot}
use Rattle.table_record.specs.declared.slot.Spot.TheVariants as spot

-- the settings s are legal, g is their layout, and the bytes t hold a table of it
pub record Ready (s : Settings) (g : Layout) (t : List ℕ) : Type 0 where
  pub legal : Legal s
  pub laid : layout_of s ≡ g
  pub table : Table g t

module _ (g : Layout) where
  abbrev pub slot_nth : ℕ → Nth
  slot_nth x = nth.Slot (key_of (entry_of g x)) (label_of g x)

  -- slot n of the slots es, or the number that is left behind them
  unfoldable pub nth_of : List ℕ → ℕ → Nth
  nth_of es n = cond (ltb n (length es)) (slot_nth (get_or es n 0)) (nth.Past (n - length es))

  -- slot n of a list's content
  unfoldable pub nth_in : Option Content → ℕ → Result Nth Damage
  nth_in none n = Err (record {})
  nth_in (some v) n = Ok (nth_of v.slots n)

  -- an entry has bie bits
  abbrev pub Bounded : Nth → Type 0
  Bounded (nth.Slot k label) = key_number k < 2 ^ g.bie
  Bounded (nth.Past m) = Unit {0}

-- the record of an entry in list i
abbrev pub found_record : Settings → ℕ → Key → ℕ → Record
found_record s i k label = record { key = key_of (rebuilt s i (key_number k)); label = label }

-- the answer with what stands at a number in list i: its record; behind the list's slots, what `on` says of the number that is left
abbrev pub on_nth : Settings → ℕ → Result Nth Damage → (ℕ → RecordAnswer) → RecordAnswer
on_nth s i (Ok (nth.Slot k l)) on = Ok (Some (found_record s i k l))
on_nth s i (Ok (nth.Past m)) on = on m
on_nth s i (Err _) on = Err refusal.Damage

-- record n of the lists from list i on
unfoldable pub records_from : Settings → State → ℕ → ℕ → RecordAnswer
records_from s st i n = record_from s i (drop i st.basic) st.overflow n

module _ (g : Layout) (t : List ℕ) where
  -- the answer with what stands at a spot
  abbrev pub at_spot : Settings → Result Spot Damage → RecordAnswer
  at_spot s (Ok (spot.Slot i at)) = record_of s i.0 (field t at g.slot)
  at_spot s (Ok (spot.Under i run j)) = record_of s i.0 (get_or (slots_in g t run) j.0 0)
  at_spot s (Ok spot.Empty) = Ok None
  at_spot s (Err _) = Err refusal.Damage

  -- a spot is one of a list's, and can be read
  abbrev pub Readable : Result Spot Damage → Type 0
  Readable (Ok (spot.Slot i at)) = (i.0 < g.lists) × (at + g.slot ≤ 8 * length t) × (at + g.slot ≤ most_bits)
  Readable (Ok (spot.Under i run j)) = (i.0 < g.lists) × SlotsWithin g t run × (j.0 < run.count)
  Readable (Ok spot.Empty) = Unit {0}
  Readable (Err _) = Unit {0}

  -- what stands at the spot r is the answer that the settings give, whichever have this layout
  pub record Stands (answers : Settings → RecordAnswer) (r : Result Spot Damage) : Type 0 where
    pub are : (s : Settings) → layout_of s ≡ g → at_spot s r ≡ answers s
    pub readable : Readable r
