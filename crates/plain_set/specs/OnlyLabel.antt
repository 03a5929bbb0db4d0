-- Clause 6.16: relabel changes a label, and nothing else.
use Rattle.std.specs.Prelude.{◌≡◌, ◌≢◌, List, ℕ, ◌-◌, ◌<◌, length, get_or, set}
use Rattle.std.proofs.Math.Option.{some}
use Rattle.settings.specs.declared.settings.Settings.{Settings}
use Rattle.settings.specs.declared.layout.Layout.{Layout}
use Rattle.settings.specs.Layout.{layout_of}
use Rattle.settings.specs.Reply.{Reply}
use Rattle.keys.specs.Key.{list_number, entry}
use Rattle.table.specs.State.{State, basic_at, overflow_at, entry_of, label_of}
use Rattle.table.specs.Follow.{Content, mk_content, content}
use Rattle.table.specs.Sound.{Chain}
use Rattle.table.specs.Calls.{held}
use Rattle.table.specs.Answer.{said, Answer}
use Rattle.table.specs.declared.answers.Word.TheVariants as word

-- no counter is another
abbrev pub SameCounters : State → State → Type 0
SameCounters before after =
    (j : ℕ)
    → ((basic_at after.basic j).counter ≡ (basic_at before.basic j).counter)
    × ((overflow_at after.overflow j).counter ≡ (overflow_at before.overflow j).counter)

module _ (g : Layout) where
  -- the slot x holds the entry e with a label
  abbrev pub HasLabel : ℕ → ℕ → ℕ → Type 0
  HasLabel x e label = (entry_of g x ≡ e) × (label_of g x ≡ label)

  -- the states before and after, where the entry e in place p of list i had the label `was` and has the label `now`
  pub record OnlyLabel (before after : State) (i e p was now : ℕ) : Type 0 where
    -- the free start is the same, and so is the free chain
    pub start : after.free ≡ before.free
    pub chain : (fs : List ℕ) → Chain g before.overflow before.free fs → Chain g after.overflow after.free fs
    pub counters : SameCounters before after
    -- every other list has the same blocks and slots
    pub others : (j : ℕ) → j < g.lists → j ≢ i → content g after j ≡ content g before j
    -- list i has the same blocks, and the same slots but for that in place p, which holds the same entry
    pub list : Content
    pub slot : ℕ
    pub had : content g before i ≡ some list
    pub has : content g after i ≡ some (mk_content list.blocks (set list.slots p slot))
    pub place : p < length list.slots
    pub old : HasLabel (get_or list.slots p 0) e was
    pub new : HasLabel slot e now

-- the reply r to a relabel of the key k with a label on the table t, if it is "relabelled": the entry that was compared last had the label that is
-- answered, and has the one that was given
abbrev pub RelabelsOnly : Settings → List ℕ → ℕ → ℕ → Reply Answer → Type 0
RelabelsOnly s t k label r =
    (was n slot : ℕ) → r.answer ≡ said word.Relabelled was n slot
    → (0 < n) × OnlyLabel (layout_of s) (held s t) (held s r.bytes) (list_number s k) (entry s k) (n - 1) was label
