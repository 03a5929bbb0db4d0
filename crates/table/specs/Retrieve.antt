-- Clauses 6.18 and 6.19: retrieve, from the number of a slot back to its key and label.
use Rattle.std.specs.Prelude.{ℕ, suc, ◌-◌, ◌/◌, ◌%◌, Bool, cond, ◌&&◌, length, get_or, ltb, Err, None, Ok}
use Rattle.std.proofs.Math.Option.{Option, none, some}
use Rattle.settings.specs.declared.settings.Settings.{Settings}
use Rattle.settings.specs.declared.refusal.Refusal.TheVariants as refusal
use Rattle.settings.specs.Layout.{layout_of}
use Rattle.table.specs.State.{Overflow, State, overflow_at}
use Rattle.table.specs.Follow.{Content, content}
use Rattle.table.specs.Take.{occurs}
use Rattle.table.specs.Numbers.{basic_capacity}
use Rattle.table.specs.Record.{record_of}
use Rattle.table.specs.Answer.{RecordAnswer}

-- slot k of block o, whose number is j, is in use: the list contains the block, and the counter says so (clause 4.5)
abbrev pub in_use : ℕ → ℕ → Overflow → Content → Bool
in_use j k o v = ltb 0 (occurs j v.blocks) && ltb k (suc o.counter)

module _ (s : Settings) where
  -- slot p of the basic block of list i, which was followed
  abbrev pub basic_found : ℕ → ℕ → Option Content → RecordAnswer
  basic_found i p none = Err refusal.Damage
  basic_found i p (some v) = cond (ltb p (length v.slots)) (record_of s i (get_or v.slots p 0)) (Ok None)

  -- slot k of overflow block j, which is o; its owner was followed
  abbrev pub overflow_found : ℕ → ℕ → Overflow → Option Content → RecordAnswer
  overflow_found j k o none = Err refusal.Damage
  overflow_found j k o (some v) = cond (in_use j k o v) (record_of s o.owner (get_or o.slots k 0)) (Ok None)

  unfoldable pub retrieve_basic : State → ℕ → ℕ → RecordAnswer
  retrieve_basic st i p = basic_found i p (content (layout_of s) st i)

  -- the list that the block names is followed, whether it contains the block or not
  unfoldable pub retrieve_overflow : State → ℕ → ℕ → RecordAnswer
  retrieve_overflow st j k =
      let o = overflow_at st.overflow j in
      overflow_found j k o (content (layout_of s) st o.owner)

  -- slot number n
  unfoldable pub retrieve_in : State → ℕ → RecordAnswer
  retrieve_in st n =
      let g = layout_of s in
      let m = n - basic_capacity g in
      cond (ltb n (basic_capacity g))
      (retrieve_basic st (n / g.sib) (n % g.sib))
      (retrieve_overflow st (m / g.sio) (m % g.sio))
