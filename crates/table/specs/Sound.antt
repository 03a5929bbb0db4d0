-- Clause 6.10: when a table is sound, point by point.
use Rattle.std.specs.Prelude.{◌≡◌, ◌≢◌, List, [], ◌∷◌, ℕ, ◌+◌, ◌-◌, ◌*◌, ◌≤◌, ◌<◌, length, get_or}
use Rattle.std.proofs.Math.Option.{some}
use Rattle.laws.specs.Folds.{sum_below}
use Rattle.bits.specs.Field.{field}
use Rattle.settings.specs.declared.layout.Layout.{Layout}
use Rattle.table.specs.State.{Overflow, State, basic_at, overflow_at, own_slots, entry_of}
use Rattle.table.specs.Decode.{decode}
use Rattle.table.specs.Follow.{Content, content}
use Rattle.table.specs.Take.{occurs}

module _ (g : Layout) where
  -- each link leads to an overflow block; the last block links to itself
  abbrev pub Linked : List Overflow → ℕ → List ℕ → Type 0
  Linked os f [] = (overflow_at os f).link ≡ f
  Linked os f (c ∷ cs) = ((overflow_at os f).link ≡ c) × (c < g.nob) × Linked os c cs

  -- the free chain that starts at f, which is nob if it is empty
  abbrev pub Chain : List Overflow → ℕ → List ℕ → Type 0
  Chain os f [] = f ≡ g.nob
  Chain os f (c ∷ cs) = (f ≡ c) × (c < g.nob) × Linked os c cs

  pub record SoundState (st : State) : Type 0 where
    -- each list, followed to its end; the free chain
    pub lists : ℕ → Content
    pub chain : List ℕ
    -- no list is damaged; so each of its blocks has its number
    pub undamaged : (i : ℕ) → i < g.lists → content g st i ≡ some (lists i)
    -- free start is at most nob, and the free chain ends in a block that links to itself
    pub start : st.free ≤ g.nob
    pub linked : Chain st.overflow st.free chain
    -- every overflow block stands exactly once, in one list or in the free chain
    pub once : (j : ℕ) → j < g.nob → sum_below g.lists (λ i. occurs j (lists i).blocks) + occurs j chain ≡ 1
    -- clause 4.12: zeros
    pub basic_zero : (i k : ℕ) → i < g.lists → (basic_at st.basic i).counter ≤ g.sib → (basic_at st.basic i).counter ≤ k
        → get_or (own_slots g (basic_at st.basic i)) k 0 ≡ 0
    pub overflow_zero : (i j k : ℕ) → i < g.lists → 0 < occurs j (lists i).blocks → (overflow_at st.overflow j).counter < k
        → get_or (overflow_at st.overflow j).slots k 0 ≡ 0
    pub free_counter : (j : ℕ) → 0 < occurs j chain → (overflow_at st.overflow j).counter ≡ 0
    pub free_owner : (j : ℕ) → 0 < occurs j chain → (overflow_at st.overflow j).owner ≡ 0
    pub free_zero : (j k : ℕ) → 0 < occurs j chain → get_or (overflow_at st.overflow j).slots k 0 ≡ 0
    -- no entry stands twice in a list
    pub single : (i p q : ℕ) → i < g.lists → p < q → q < length (lists i).slots
        → entry_of g (get_or (lists i).slots p 0) ≢ entry_of g (get_or (lists i).slots q 0)

  pub record Sound (t : List ℕ) : Type 0 where
    pub state : SoundState (decode g t)
    -- clause 4.7: the fill is zero
    pub fill : field t g.bits (8 * g.bytes - g.bits) ≡ 0
