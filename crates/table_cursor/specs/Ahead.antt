-- What a cursor means: the pairs ahead of it.
use Rattle.std.specs.Prelude.{◌≡◌, ℕ, suc, ◌^◌, ◌<◌, List, [], ◌∷◌, ◌++◌, drop, Some, None}
use Rattle.std.specs.declared.option.Option.{Option}
use Rattle.settings.specs.Layout.{layout_of}
use Rattle.settings.specs.declared.settings.Settings.{Settings}
use Rattle.settings.specs.declared.layout.Layout.{Layout}
use Rattle.keys.specs.Key.{key_number, rebuilt}
use Rattle.table.specs.State.{Overflow}
use Rattle.table.specs.Decode.{decode}
use Rattle.table.specs.declared.step.Step.{Step}
use Rattle.table.specs.declared.step.Step.TheVariants as step
use Rattle.table_read.specs.Steps.{SlotsWithin, slots_in, Followed, gather_from}
use Rattle.plain_set.specs.Rebuilt.{Pair, pair, pairs_of, rebuilt_from}
use Rattle.table_cursor.specs.declared.places.Cursor.{Cursor}
use Rattle.table_cursor.specs.declared.places.Next.{Next}

module _ (g : Layout) (os : List Overflow) where
  -- the slots in use of the overflow blocks that a step leads to
  abbrev pub gather_behind : Step → List ℕ
  gather_behind (step.Further b) = gather_from g g.nob os b.0
  gather_behind step.Last = []
  gather_behind step.Damage = []

  -- where a step leads on, the list has an end
  abbrev pub Leads : Step → Type 0
  Leads (step.Further b) = Followed g g.nob os b.0
  Leads step.Last = Unit {0}
  Leads step.Damage = Unit {0}

-- the slots of its list that are ahead of a cursor: the rest of its run, and those of the blocks behind the run
unfoldable pub slots_ahead : Layout → List ℕ → Cursor → List ℕ
slots_ahead g t c = drop c.passed (slots_in g t c.run) ++ gather_behind g (decode g t).overflow c.behind

module _ (s : Settings) (t : List ℕ) where
  -- the pairs of the lists from list i on
  unfoldable pub pairs_from : ℕ → List Pair
  pairs_from i = rebuilt_from s i (drop i (decode (layout_of s) t).basic) (decode (layout_of s) t).overflow

  -- the pairs ahead of a cursor: those of its list, and then those of the lists behind it
  unfoldable pub ahead : Cursor → List Pair
  ahead c = pairs_of s c.list.0 (slots_ahead (layout_of s) t c) ++ pairs_from (suc c.list.0)

module _ (g : Layout) (t : List ℕ) where
  -- a cursor that can be moved on
  pub record Good (c : Cursor) : Type 0 where
    pub list : c.list.0 < g.lists
    pub run : SlotsWithin g t c.run
    pub behind : Leads g (decode g t).overflow c.behind

  -- the cursor c stands before entry n of list i, whatever settings have this layout
  pub record Before (i n : ℕ) (c : Cursor) : Type 0 where
    pub good : Good c
    pub are : (s : Settings) → layout_of s ≡ g → ahead s t c ≡ drop n (pairs_from s t i)

  -- of the pairs ps the first is that of the list, the entry and the label; the others are ahead of the cursor behind it
  pub record Gives (ps : Settings → List Pair) (r : Next) : Type 0 where
    pub list : r.list.0 < g.lists
    pub entry : key_number r.entry < 2 ^ g.bie
    pub label : r.label < 2 ^ g.val
    pub good : Good r.cursor
    pub are : (s : Settings) → layout_of s ≡ g → ps s ≡ pair (rebuilt s r.list.0 (key_number r.entry)) r.label ∷ ahead s t r.cursor

  -- there are no pairs
  pub record Ends (ps : Settings → List Pair) : Type 0 where
    pub are : (s : Settings) → layout_of s ≡ g → ps s ≡ []

  -- what is answered of the pairs ps: the first of them, or that there is none
  abbrev pub Answers : (Settings → List Pair) → Option Next → Type 0
  Answers ps (Some r) = Gives ps r
  Answers ps None = Ends ps
