-- What it means that a state holds lists of slots T, with list i in the overflow blocks B i, and with the free chain fs; and soundness, by
-- counting.
use Rattle.std.specs.Prelude.{◌≡◌, List, [], ◌∷◌, ℕ, suc, ◌+◌, ◌-◌, ◌≤◌, ◌<◌, length, get_or, drop, eqb, ltb}
use Rattle.laws.specs.Folds.{count}
use Rattle.settings.specs.declared.layout.Layout.{Layout}
use Rattle.table.specs.Arrays.{padded}
use Rattle.table.specs.State.{Basic, Overflow, State, basic_at, overflow_at, empty_block, unpack, own_slots, entry_of}
use Rattle.table.specs.Updates.{with_counter, with_slots}
use Rattle.table.specs.Take.{occurs}
use Rattle.table.specs.theory.Formed.{All, Fits}
use Rattle.plain_set.specs.theory.Count.{one, sum}

module _ (g : Layout) (i : ℕ) where
  -- an overflow block of list i with the counter n, the link l and the slots ys
  abbrev pub block_with : ℕ → ℕ → List ℕ → Overflow
  block_with n l ys = with_counter n (with_slots ys (empty_block g l i))

  -- the slots es stand in the overflow blocks b, bs of list i: all full but the last, zeros behind; the last one's link holds d
  abbrev pub Tail : List Overflow → ℕ → List ℕ → List ℕ → ℕ → Type 0
  Tail os b [] es d = (0 < length es) × (length es ≤ g.sio) × (overflow_at os b ≡ block_with (length es - 1) d (padded g.sio es))
  Tail os b (c ∷ cs) es d =
      (g.sio < length es) × (overflow_at os b ≡ block_with g.sio c (padded g.sio es)) × Tail os c cs (drop g.sio es) d

  -- the slots es of list i stand in the basic block b and the overflow blocks bs; if there are any, their last link holds the first bits d of the
  -- basic block's slots
  abbrev pub Holds : Basic → List Overflow → List ℕ → List ℕ → Type 0
  Holds b os [] es = (length es ≤ g.sib) × (b.counter ≡ length es) × (own_slots g b ≡ padded g.sib es)
  Holds b os (c ∷ cs) es =
      (d : ℕ)
      × (g.sib < length es)
      × (b.counter ≡ suc g.sib)
      × (b.head ≡ c)
      × (unpack g d b.rest ≡ padded g.sib es)
      × Tail os c cs (drop g.sib es) d

module _ (g : Layout) where
  -- zeroed blocks f, fs, each linked to the next and the last to itself
  abbrev pub Links : List Overflow → ℕ → List ℕ → Type 0
  Links os f [] = overflow_at os f ≡ empty_block g f 0
  Links os f (n ∷ ns) = (overflow_at os f ≡ empty_block g n 0) × Links os n ns

  -- the free chain fs, with the free start f
  abbrev pub Chain : List Overflow → ℕ → List ℕ → Type 0
  Chain os f [] = f ≡ g.nob
  Chain os f (n ∷ ns) = (f ≡ n) × Links os n ns

  -- the state holds the lists T in the blocks B, and the free chain fs
  pub record Rep (st : State) (T : List (List ℕ)) (B : List (List ℕ)) (fs : List ℕ) : Type 0 where
    pub basics : length st.basic ≡ g.lists
    pub overs : length st.overflow ≡ g.nob
    pub lists : length T ≡ g.lists
    pub blocks : length B ≡ g.lists
    pub each : (i : ℕ) → i < g.lists → Holds g i (basic_at st.basic i) st.overflow (get_or B i []) (get_or T i [])
    pub fits : (i : ℕ) → i < g.lists → All (Fits g.slot) (get_or T i [])
    pub chain : Chain st.overflow st.free fs
    -- every overflow block stands exactly once, in one list or in the free chain
    pub once : (j : ℕ) → sum (occurs j) B + occurs j fs ≡ one (ltb j g.nob)

  -- the state holds the lists T, in some blocks
  pub record Stores (st : State) (T : List (List ℕ)) : Type 0 where
    pub B : List (List ℕ)
    pub fs : List ℕ
    pub rep : Rep st T B fs

  -- how many slots have the entry e, and that none stands twice
  abbrev pub entries : ℕ → List ℕ → ℕ
  entries e es = count (λ x. eqb (entry_of g x) e) es

  abbrev pub Single : List ℕ → Type 0
  Single es = (e : ℕ) → entries e es ≤ 1

  -- a sound state
  pub record Sound (st : State) : Type 0 where
    pub T : List (List ℕ)
    pub B : List (List ℕ)
    pub fs : List ℕ
    pub rep : Rep st T B fs
    pub single : (i : ℕ) → i < g.lists → Single (get_or T i [])
