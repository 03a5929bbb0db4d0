-- What the functions below the calls are asked and answer. Only contracts of functions cite these; the calls' own do not.
use Rattle.std.specs.Prelude.{◌≡◌, ℕ, suc, ◌+◌, ◌*◌, ◌^◌, ◌≤◌, ◌<◌, min, cond, List, [], ◌∷◌, ltb, length, Ok, Err}
use Rattle.std.proofs.Math.Option.{Option, none, some}
use Rattle.std.specs.declared.result.Result.{Result}
use Rattle.keys.specs.declared.BlockNumber.{BlockNumber}
use Rattle.settings.specs.Legal.{most_bits}
use Rattle.bits.specs.Field.{field}
use Rattle.bits.specs.Put.{put_field}
use Rattle.settings.specs.declared.layout.Layout.{Layout}
use Rattle.table.specs.Arrays.{tabulate}
use Rattle.table.specs.State.{Overflow, State, basic_at}
use Rattle.table.specs.Decode.{basic_slots, overflow_slots}
use Rattle.table.specs.Follow.{last_of, follow, gather, own_blocks}
use Rattle.table.specs.Find.{position, is_held, label_at}
use Rattle.table_read.specs.declared.slots.Slots.{Slots}
use Rattle.table.specs.declared.damage.Damage.{Damage}
use Rattle.table.specs.Answer.{said, Answer}
use Rattle.table.specs.declared.answers.Word.TheVariants as word

-- the bytes in which the first bits of the slots b are what they count as
unfoldable pub restored_bytes : List ℕ → Slots → List ℕ
restored_bytes t b = put_field t b.start b.displaced b.value

-- the n bits from bit at on can be read in those bytes
pub record FieldWithin (t : List ℕ) (b : Slots) (at n : ℕ) : Type 0 where
  pub from : b.start ≤ at
  pub ends : at + n ≤ 8 * length t
  pub near : at + n ≤ most_bits
  pub block : b.start + b.displaced ≤ 8 * length t
  pub narrow : b.displaced ≤ 16
  pub fits : b.value < 2 ^ b.displaced

-- n bits of each of `count` slots, those of slot 0 at bit `at`, with `step` bits from one slot to the next: r is the first slot that has the
-- bits q; count if none has
pub record First (t : List ℕ) (at step n q count : ℕ) (r : ℕ) : Type 0 where
  pub high : r ≤ count
  pub before : (k : ℕ) → k < r → field t (at + k * step) n ≡ q → ⊥
  pub found : r < count → field t (at + r * step) n ≡ q

module _ (g : Layout) where
  -- the slots b are within the bytes
  pub record SlotsWithin (t : List ℕ) (b : Slots) : Type 0 where
    pub ends : b.start + b.count * g.slot ≤ 8 * length t
    pub near : b.start + b.count * g.slot ≤ most_bits
    pub block : b.start + b.displaced ≤ 8 * length t
    pub narrow : b.displaced ≤ 16
    pub fits : b.value < 2 ^ b.displaced
    pub few : b.count ≤ 255

  -- the numbers in the slots b
  unfoldable pub slots_in : List ℕ → Slots → List ℕ
  slots_in t b = tabulate b.count (λ k. field (restored_bytes t b) (b.start + k * g.slot) g.slot)

  -- the first n slots of basic block i, as they stand
  unfoldable pub basic_run : ℕ → ℕ → Slots
  basic_run i n = record { start = basic_slots g i; count = n; displaced = 0; value = 0 }

  -- the slots of basic block i, whose first L bits count as h
  unfoldable pub displaced_run : ℕ → ℕ → Slots
  displaced_run i h = record { start = basic_slots g i; count = g.sib; displaced = g.link; value = h }

  -- the slots in use of overflow block j, whose counter is c
  unfoldable pub overflow_run : ℕ → ℕ → Slots
  overflow_run j c = record { start = overflow_slots g j; count = min (suc c) g.sio; displaced = 0; value = 0 }

  -- the last of the blocks that were followed; nob, which is no block, where there is damage
  abbrev pub last_in : Option (List ℕ) → ℕ
  last_in none = g.nob
  last_in (some []) = g.nob
  last_in (some (c ∷ cs)) = last_of c cs

  -- the last block of list i, which goes on at block b, where at most n blocks are followed
  unfoldable pub last_from : ℕ → ℕ → List Overflow → ℕ → ℕ
  last_from i n os b = last_in (own_blocks i os (follow g n os b))

  -- block b as a list's last; nob and above is no block
  unfoldable pub last_as : ℕ → Result BlockNumber Damage
  last_as b = cond (ltb b g.nob) (Ok (record { 0 = b })) (Err (record {}))

  -- the list that goes on at block b has an end
  pub record Followed (n : ℕ) (os : List Overflow) (b : ℕ) : Type 0 where
    pub blocks : List ℕ
    pub are : follow g n os b ≡ some blocks

  -- the same of list i, and all its blocks have its number
  pub record OwnFollowed (i n : ℕ) (os : List Overflow) (b : ℕ) : Type 0 where
    pub blocks : List ℕ
    pub are : own_blocks i os (follow g n os b) ≡ some blocks

  -- list i goes on in overflow blocks, at block `first`
  pub record Overflows (st : State) (i first : ℕ) : Type 0 where
    pub counter : (basic_at st.basic i).counter ≡ suc g.sib
    pub head : first ≡ (basic_at st.basic i).head

  abbrev pub gather_in : List Overflow → Option (List ℕ) → List ℕ
  gather_in os none = []
  gather_in os (some bs) = gather g os bs

  -- the slots in use of the overflow blocks from block b on
  unfoldable pub gather_from : ℕ → List Overflow → ℕ → List ℕ
  gather_from n os b = gather_in os (follow g n os b)

  -- what find answers of the entry e in the slots es, where k slots stand before them and do not hold it, and `number` numbers
  -- their places
  unfoldable pub find_from : (ℕ → ℕ) → ℕ → List ℕ → ℕ → Answer
  find_from number e es k =
      cond (is_held g e es) (said word.Held (label_at g e es) (k + suc (position g e es)) (number (position g e es)))
      (said word.None 0 (k + length es) 0)
