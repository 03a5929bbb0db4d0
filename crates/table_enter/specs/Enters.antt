-- What the functions below enter are asked and answer. Only their contracts cite these; the call's own does not.
use Rattle.std.specs.Prelude.{ℕ, suc, ◌<◌, ◌≡◌, cond, List, length, eqb, ltb, Ok, Err}
use Rattle.std.proofs.Math.Option.{Option, none, some}
use Rattle.keys.specs.Key.{key_number}
use Rattle.settings.specs.declared.layout.Layout.{Layout}
use Rattle.std.specs.declared.result.Result.{Result}
use Rattle.settings.specs.declared.refusal.Refusal.{Refusal}
use Rattle.settings.specs.declared.refusal.Refusal.TheVariants as refusal
use Rattle.table.specs.State.{State, basic_at, overflow_at, slot_of}
use Rattle.table.specs.Decode.{decode}
use Rattle.table.specs.Table.{Table}
use Rattle.table.specs.Follow.{Content, content}
use Rattle.table.specs.Take.{next_free}
use Rattle.table.specs.Enter.{append, end_number}
use Rattle.table_read.specs.Steps.{last_from}
use Rattle.table.specs.Done.{Done, Answered, answered, replied}
use Rattle.table.specs.Check.{blocks_of}
use Rattle.settings.specs.Reply.{Gives}
use Rattle.table.specs.Answer.{said, Answer}
use Rattle.table.specs.declared.answers.Word.TheVariants as word
use Rattle.table_store.specs.Stores.{Slotted}
use Rattle.table_enter.specs.declared.append.Item.{Item}
use Rattle.table_enter.specs.declared.append.Free.{Free}

abbrev pub slot_for : Layout → Item → ℕ
slot_for g v = slot_of g (key_number v.entry) v.label

-- block f is the first free one, and n is the free start once it is taken
abbrev pub free_block : ℕ → ℕ → Result Free Refusal
free_block f n = Ok (record { number = record { 0 = f }; next = record { 0 = n } })

module _ (g : Layout) where
  -- the first free block and the free start once it is taken, or why there is none
  unfoldable pub free_of : State → Result Free Refusal
  free_of st =
      cond (ltb g.nob st.free) (Err refusal.Damage)
      (cond (eqb st.free g.nob) (Err refusal.NoBlock)
      (cond (ltb (overflow_at st.overflow st.free).link g.nob)
      (free_block st.free (next_free g st.overflow st.free))
      (Err refusal.Damage)))

  -- what appending v to list i comes to
  unfoldable pub append_to : State → ℕ → Item → Done
  append_to st i v = append g st i (blocks_of (content g st i)) (slot_for g v)

  -- the number of the slot that is appended to list i
  abbrev pub end_in : State → ℕ → Option Content → ℕ
  end_in st i none = 0
  end_in st i (some w) = end_number g st i w

  unfoldable pub number_for : State → ℕ → ℕ
  number_for st i = end_in st i (content g st i)

  abbrev pub appending : State → ℕ → Item → Answered
  appending st i v = answered (said word.Added v.label v.compared (number_for st i)) (append_to st i v)

pub record Appendable (g : Layout) (t : List ℕ) (i : ℕ) (v : Item) : Type 0 where
  pub table : Table g t
  pub list : i < g.lists
  pub slotted : Slotted g (key_number v.entry) v.label

-- u and r are what appending v to list i of t comes to
abbrev pub Appended : Layout → List ℕ → List ℕ → ℕ → Item → Answer → Type 0
Appended g t u i v r = Gives (replied g t (appending g (decode g t) i v)) r u

-- list i overflows into the blocks from h on, of which j is the last
pub record EndsIn (g : Layout) (st : State) (i h j : ℕ) : Type 0 where
  pub full : (basic_at st.basic i).counter ≡ suc g.sib
  pub head : h ≡ (basic_at st.basic i).head
  pub last : j ≡ last_from g i g.nob st.overflow h
  pub low : j < g.nob

-- list i can be followed to its end, and has n entries
pub record Readable (g : Layout) (st : State) (i n : ℕ) : Type 0 where
  pub followed : Content
  pub is : content g st i ≡ some followed
  pub long : n ≡ length followed.slots
