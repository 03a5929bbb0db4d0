-- What is written for a command is its call's answer as the set would print it: the address is that of the key read, and `compared` is counted on
-- the key's list.
use Rattle.std.specs.Prelude.{◌≡◌, List, ◌∷◌, length, Err, Ok}
use Rattle.std.proofs.Math.Path.{refl}
use Rattle.std.proofs.Math.Option.{Option, none, some}
use Prim.Native.Nat.{ℕ, ◌^◌, ◌≤◌, ◌<◌}
use Rattle.settings.specs.declared.layout.Layout.{Layout}
use Rattle.settings.specs.Layout.{layout_of}
use Rattle.settings.specs.Due.{settings_due, short_due, key_due}
use Rattle.settings.specs.Reply.{Reply, reply}
use Rattle.settings.specs.theory.Dues.{by_dues}
use Rattle.keys.specs.declared.Key.{Key}
use Rattle.keys.specs.Key.{key_number, entry, list_number}
use Rattle.keys.specs.theory.Keys.{key_number_lem}
use Rattle.table.specs.State.{State, slot_of}
use Rattle.table.specs.Follow.{Content, content}
use Rattle.table.specs.Answer.{said}
use Rattle.table.specs.Find.{position, is_held, label_at, compared_in, find_followed, find_in}
use Rattle.table.specs.Done.{Done, damage, no_block, done, Answered, answered, replied}
use Rattle.table.specs.Enter.{append, end_number, enter_followed, enter_in}
use Rattle.table.specs.Relabel.{relabel_followed, relabel_in}
use Rattle.table.specs.Delete.{take_out, delete_followed, delete_in}
use Rattle.plain_set.specs.Rebuilt.{slots_of}
use Rattle.table.specs.Calls.{Verb, find, enter, relabel, delete, list_call, verb_due, held, key_call}
use Rattle.table.specs.theory.FormedCalls.{either}
use Rattle.table.specs.Answer as table
use Rattle.table.specs.declared.answers.Word.{Word}
use Rattle.table.specs.declared.answers.Word.TheVariants as word
use Rattle.text_read.specs.Answers.{reading_of}
use Rattle.text_calls.specs.theory.RoundTrip.{reading_fits}
use Rattle.program_commands.specs.Command.{Command}
use Rattle.program_answers.specs.Program.{program, program_bytes}
use Rattle.program_answers.specs.Outcome.{verb_of, command_call}
use Rattle.program_answers.specs.Answer.{answer_text, command_reply}
use Rattle.program_answers.specs.theory.Applies.{text_key, text_unread}
use Rattle.plain_set.specs.Plain.{plain}
use Rattle.text_calls.specs.Asked.{by_text, table_call}
use Rattle.program_set.specs.Claim.{key_named, compared_on, printed}
use Rattle.std.specs.declared.result.Result.{Result}
use Rattle.settings.specs.declared.refusal.Refusal.{Refusal}

-- `compared` is counted on the key's list, on any table ------------------------------------------------------------------------

-- an answer that says a word says it with the number n
abbrev Counts : ℕ → table.Answer → Type 0
Counts n (Ok said) = said.compared ≡ n
Counts n (Err why) = Unit {0}

change_counts : (w : Word) (label n x : ℕ) (d : Done) → Counts n (answered (said w label n x) d).answer
change_counts w label n x damage = tt
change_counts w label n x no_block = tt
change_counts w label n x (done st) = refl

module _ (g : Layout) (st : State) (i e : ℕ) where
  find_counts : (o : Option Content) → Counts (compared_in g e (slots_of o)) (find_followed g i e o)
  unfolding find_followed
  find_counts none = tt
  find_counts (some v) = either (Counts (compared_in g e v.slots)) (is_held g e v.slots) (λ q. refl) (λ q. refl)

  enter_counts : (label : ℕ) (o : Option Content) → Counts (compared_in g e (slots_of o)) (enter_followed g st i e label o).answer
  unfolding enter_followed
  enter_counts label none = tt
  enter_counts label (some v) =
      either (λ (a : Answered). Counts (compared_in g e v.slots) a.answer) (is_held g e v.slots) (λ q. tt)
      (λ q. change_counts word.Added label (compared_in g e v.slots) (end_number g st i v) (append g st i v.blocks (slot_of g e label)))

  relabel_counts : (label : ℕ) (o : Option Content) → Counts (compared_in g e (slots_of o)) (relabel_followed g st i e label o).answer
  unfolding relabel_followed
  relabel_counts label none = tt
  relabel_counts label (some v) =
      either (λ (a : Answered). Counts (compared_in g e v.slots) a.answer) (is_held g e v.slots) (λ q. refl) (λ q. refl)

  delete_counts : (o : Option Content) → Counts (compared_in g e (slots_of o)) (delete_followed g st i e o).answer
  unfolding delete_followed
  delete_counts none = tt
  delete_counts (some v) =
      either (λ (a : Answered). Counts (compared_in g e v.slots) a.answer) (is_held g e v.slots)
      (λ q. change_counts word.Gone (label_at g e v.slots) (compared_in g e v.slots) 0 (take_out g st i v (position g e v.slots)))
      (λ q. refl)

  list_counts : (v : Verb) → Counts (compared_in g e (slots_of (content g st i))) (list_call g st i e v).answer
  unfolding list_call find_in enter_in relabel_in delete_in
  list_counts find = find_counts (content g st i)
  list_counts (enter label) = enter_counts label (content g st i)
  list_counts (relabel label) = relabel_counts label (content g st i)
  list_counts delete = delete_counts (content g st i)

-- The line -----------------------------------------------------------------------------------------------------------------------

module _ (t : List ℕ) where
  key_counts : (v : Verb) (k : Key) → Counts (compared_on t (key_number k)) (key_call program t v k).answer
  unfolding key_call
  key_counts v k =
      let i : ℕ = list_number program (key_number k) in
      let e : ℕ = entry program (key_number k) in
      by_dues (λ choose.
      Counts (compared_on t (key_number k))
      (choose (Reply table.Answer) (λ why. reply (Err why) t)
      (replied (layout_of program) t (list_call (layout_of program) (held program t) i e v))).answer)
      (settings_due program ∷ short_due program (length t) ∷ key_due program (key_number k) ∷ verb_due program v) (λ why. tt)
      (λ d. list_counts (layout_of program) (held program t) i e v)

  answer_printed : (k : Key) → k.low < 2 ^ 64 → (a : table.Answer) → Counts (compared_on t (key_number k)) a
      → answer_text k a ≡ printed t (key_number k) (plain a)
  unfolding answer_text
  answer_printed k low (Ok said) c = rw (c, key_number_lem k low)
  answer_printed k low (Err why) c = refl

  pub command_printed : program_bytes ≤ length t → (c : Command)
      → (command_reply t (some c)).answer
      ≡ printed t (key_named (some c)) (plain (table_call program t (by_text (verb_of c.op c.label) c.address)).answer)
  unfolding command_reply command_call answer_text
  command_printed room c = go (reading_of c.address) refl
    where
      v : Verb
      v = verb_of c.op c.label

      go : (p : Result Key Refusal) → reading_of c.address ≡ p
          → (command_reply t (some c)).answer ≡ printed t (key_named (some c)) (plain (table_call program t (by_text v c.address)).answer)
      go (Ok k) e =
          rw (text_key t room v c.address k e, e)
          (answer_printed k (reading_fits c.address k e).low_below (key_call program t v k).answer (key_counts v k))
      go (Err why) e = rw (text_unread t room v c.address why e)
