-- The number of a slot and the key that it holds, on lent bytes: retrieve gives the key, with the label that the set has for it. And what becomes of
-- numbers in a call, with a key or a text, whatever its inputs, that is lent the first bytes of a memory.
use Rattle.std.specs.Prelude.{◌≡◌, refl, false, List, [], ◌++◌, ℕ, ◌^◌, ◌≤◌, ◌<◌, length, get_or, Err}
use Rattle.std.proofs.Common.{sym, ap, ◌∙◌, le-leb, lt-ltb}
use Rattle.std.proofs.Math.Option.{Option, none, some}
use Rattle.laws.specs.Options.{nothing}
use Rattle.bits.specs.Bytes.{Bytes}
use Rattle.settings.specs.declared.settings.Settings.{Settings}
use Rattle.settings.specs.declared.layout.Layout.{Layout}
use Rattle.settings.specs.Sizes.{table_bytes}
use Rattle.settings.specs.Legal.{Legal}
use Rattle.settings.specs.Layout.{layout_of}
use Rattle.settings.specs.Reply.{Reply, reply, called}
use Rattle.settings.specs.theory.Dues.{NoneDue, by_dues}
use Rattle.settings.specs.theory.Legal.{legal_if}
use Rattle.settings.specs.theory.Proper.{layout_proper}
use Rattle.keys.specs.Key.{key_of, list_number, entry}
use Rattle.table.specs.State.{State, entry_of, label_of}
use Rattle.table.specs.Follow.{Content, mk_content}
use Rattle.table.specs.Numbers.{slot_number, capacity}
use Rattle.table.specs.Record.{record_of}
use Rattle.table.specs.Done.{bytes_with}
use Rattle.table.specs.Calls.{Verb, list_call, verb_due, held, retrieve_call}
use Rattle.table.specs.theory.Formed.{Formed, decode_formed}
use Rattle.table.specs.theory.FormedCalls.{Holds, holds_none, holds_some}
use Rattle.table.specs.theory.Written.{decode_written, written_length}
use Rattle.plain_set.specs.Rebuilt.{Pair}
use Rattle.plain_set.specs.Set.{Given, key_given, call, call_due}
use Rattle.plain_set.specs.Numbers.{number_in, is_gone, Gives}
use Rattle.plain_set.specs.theory.Change.{rep_content}
use Rattle.plain_set.specs.theory.Numbers.{number_below, number_retrieves}
use Rattle.plain_set.specs.theory.Keys.{in_table, key_of_entry}
use Rattle.plain_set.proofs.Refusals.{legal_call, none_due}
use Rattle.plain_set.proofs.Lists.{row_of, lookup_at}
use Rattle.plain_set.proofs.StateSteps.{state_after, call_formed}
use Rattle.plain_set.proofs.NumberSteps.{Numbered, call_keeps}
use Rattle.plain_set.proofs.Agree.{Agree}
use Rattle.plain_set.proofs.Stored.{bits_room}
use Rattle.plain_set.proofs.Longer.{decode_append, agree_front}
use Rattle.table.specs.Answer.{recorded, Answer}

module _ (s : Settings) where
  -- n is the number of a slot of the table in t, and that slot holds the key k
  pub record Belongs (t : List ℕ) (k n : ℕ) : Type 0 where
    pub key : k < 2 ^ s.w
    pub slot : Numbered (layout_of s) (held s t) (list_number s k) (entry s k) n

  -- the reply r to a call with the key k on the bytes t
  pub record Numbers (t : List ℕ) (k : ℕ) (r : Reply Answer) : Type 0 where
    -- unless it took an entry out, each key keeps its number
    pub stays : is_gone r.answer ≡ false → (j n : ℕ) → Belongs t j n → Belongs r.bytes j n
    -- and a number that it answers is the key's
    pub told : (n : ℕ) → number_in r.answer ≡ some n → Belongs r.bytes k n

-- Retrieve ---------------------------------------------------------------------------------------------------------------------

-- the number of place p of list i
retrieve_number : {s : Settings} → Legal s → {t : List ℕ} {T : List (List ℕ)} {ps : List Pair} (a : Agree s t T ps)
    → (i : ℕ) → i < (layout_of s).lists → (p : ℕ) → p < length (get_or T i [])
    → retrieve_call s t (slot_number (layout_of s) i (get_or a.stores.B i []) p) ≡ record_of s i (get_or (get_or T i []) p 0)
unfolding retrieve_call
retrieve_number {s} right {t} a i h p l =
    rw (
      legal_if s right,
      le-leb (table_bytes s) (length t) a.room,
      lt-ltb (slot_number (layout_of s) i (get_or a.stores.B i []) p) (capacity (layout_of s)) (number_below s a.stores.rep i h p l),
    )
    (number_retrieves s a.stores.rep i h p l)

module _ {s : Settings} (right : Legal s) {t : List ℕ} {T : List (List ℕ)} {ps : List Pair} (a : Agree s t T ps)
    {k n : ℕ} (b : Belongs s t k n) where
  abbrev g : Layout
  g = layout_of s

  abbrev i : ℕ
  i = list_number s k

  below : i < g.lists
  below = in_table s right k b.key

  -- the slot, in the list that the bytes hold
  list_is : b.slot.list ≡ mk_content (get_or a.stores.B i []) (get_or T i [])
  list_is = let e = rep_content a.stores.rep i below in let f = b.slot.followed in cc

  abbrev p : ℕ
  p = b.slot.place

  abbrev x : ℕ
  x = get_or (row_of s T k) p 0

  there : p < length (get_or T i [])
  there = rw list_is at b.slot.there

  has_entry_lem : entry_of g x ≡ entry s k
  has_entry_lem = ap (λ (c : Content). entry_of g (get_or c.slots p 0)) (sym list_is) ∙ b.slot.entry

  number_is : n ≡ slot_number g i (get_or a.stores.B i []) p
  number_is = b.slot.number ∙ ap (λ (c : Content). slot_number g i c.blocks p) list_is

  -- where bytes and set agree, the number of a key's slot is good
  pub belongs_gives : Gives s t ps k n
  belongs_gives =
      record {
        label = label_of g x;
        holds = lookup_at s right T ps a.stands k b.key p there has_entry_lem;
        gives =
            ap (retrieve_call s t) number_is
            ∙ retrieve_number right a i below p there
            ∙ ap (λ (m : ℕ). recorded (key_of m) (label_of g x)) (key_of_entry s right k x b.key has_entry_lem);
      }

-- A call -----------------------------------------------------------------------------------------------------------------------

-- the bytes with the state in them that a call leaves: they hold it, and are as many
module _ (s : Settings) (t : List ℕ) where
  held_after : Legal s → table_bytes s ≤ length t → {o : Option State} → Holds (Formed (layout_of s)) o
      → held s (bytes_with (layout_of s) t o) ≡ state_after (held s t) o
  held_after right room holds_none = refl
  held_after right room (holds_some f) = decode_written (layout_of s) (layout_proper s right) t f (bits_room s t room)

  room_after : table_bytes s ≤ length t → (o : Option State) → table_bytes s ≤ length (bytes_with (layout_of s) t o)
  room_after room none = room
  room_after room (some st) = rw (written_length (layout_of s) t st) room

-- with a legal key and label
legal_numbers : {s : Settings} → Legal s → {t : List ℕ} {T : List (List ℕ)} {ps : List Pair} → Agree s t T ps → (k : ℕ) → k < 2 ^ s.w
    → (v : Verb) → NoneDue (verb_due s v) → Numbers s t k (legal_call s t v k)
legal_numbers {s} right {t} a k ok v d =
    let c = call_keeps s right a.stores k ok v d in
    let e = held_after s t right a.room (call_formed s right k ok (decode_formed (layout_of s) t) v d) in
    record {
      stays = λ q j n b.
          record { key = b.key; slot = rw e (c.stays q (list_number s j) (entry s j) n (in_table s right j b.key) b.slot) };
      told = λ n q. record { key = ok; slot = rw e (c.told n q) };
    }

-- Lent the first bytes of a memory ---------------------------------------------------------------------------------------------

module _ {s : Settings} (right : Legal s) (u rest : List ℕ) (room : table_bytes s ≤ length u) where
  same_state : held s (u ++ rest) ≡ held s u
  same_state = decode_append (layout_of s) (layout_proper s right) u rest (bits_room s u room)

  belongs_append : {k n : ℕ} → Belongs s u k n → Belongs s (u ++ rest) k n
  belongs_append b = record { key = b.key; slot = rw same_state b.slot }

  belongs_front : {k n : ℕ} → Belongs s (u ++ rest) k n → Belongs s u k n
  belongs_front b = record { key = b.key; slot = rw same_state at b.slot }

-- with whatever is given, and lent u, the first bytes of a memory
pub lent_numbers : {s : Settings} → Legal s → (u rest : List ℕ) → Bytes u → {T : List (List ℕ)} {ps : List Pair}
    → Agree s (u ++ rest) T ps → (v : Verb) (o : Given)
    → let r : Reply Answer = called Err u (call_due s (length u) (call v o)) (legal_call s u v (key_given o)) in
    Numbers s (u ++ rest) (key_given o) (reply r.answer (r.bytes ++ rest))
lent_numbers {s} right u rest bytes a v o =
    let k : ℕ = key_given o in
    by_dues (λ choose.
    let r : Reply Answer = choose (Reply Answer) (λ why. reply (Err why) u) (legal_call s u v k) in
    Numbers s (u ++ rest) k (reply r.answer (r.bytes ++ rest)))
    (call_due s (length u) (call v o))
    (λ why. record { stays = λ q j n b. b; told = λ n q. nothing q })
    (λ d.
    let l = none_due s (length u) v o d in
    let w = legal_numbers right (agree_front right u rest a bytes l.room) k l.key v l.label in
    let room = room_after s u l.room (list_call (layout_of s) (held s u) (list_number s k) (entry s k) v).after in
    record {
      stays = λ q j n b. belongs_append right (legal_call s u v k).bytes rest room (w.stays q j n (belongs_front right u rest l.room b));
      told = λ n q. belongs_append right (legal_call s u v k).bytes rest room (w.told n q);
    })
