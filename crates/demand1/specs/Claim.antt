-- Demand 1, clauses 6.13 and 7.1: what a call leaves in the bytes that it is lent.
use Rattle.std.specs.Prelude.{◌≡◌, List, ℕ, ◌+◌, ◌/◌, length, drop, Bool, Err, None, Ok, false, true, ⊤}
use Rattle.settings.specs.declared.settings.Settings.{Settings}
use Rattle.settings.specs.declared.refusal.Refusal.{Refusal}
use Rattle.settings.specs.Reply.{Reply}
use Rattle.keys.specs.declared.Key.{Key}
use Rattle.table.specs.Calls.{enter, relabel, delete, make_call, record_call, retrieve_call, check_call}
use Rattle.table.specs.Answer as table
use Rattle.table.specs.declared.answers.Word.{Word}
use Rattle.table.specs.declared.answers.Word.TheVariants as word
use Rattle.text_read.specs.Answers.{reading_of}
use Rattle.text_write.specs.Writing.{written}
use Rattle.text_write.specs.Answers.{write_call}
use Rattle.text_calls.specs.Asked.{Asked, verb_asked, table_call}
use Rattle.text_sheet.specs.Pages.{page_text}
use Rattle.text_sheet.specs.Answers.{records, page_call}
use Rattle.std.specs.declared.result.Result.{Result}
use Rattle.table.specs.Answer.{RecordAnswer, recorded}

-- The calls of the specification ------------------------------------------------------------------------------------------------

pub data Call : Type 0 where
  make : Call
  -- find, enter, relabel and delete, with a key or a text
  ask : Asked → Call
  record_at : ℕ → Call
  slot_at : ℕ → Call
  check : Call
  read_text : List ℕ → Call
  write_text : Key → Call
  page_at : ℕ → Call

-- what a call is lent: the table, and check's marks or the buffer for a text or a page
pub record Lent : Type 0 where
  pub table : List ℕ
  pub buffer : List ℕ

-- What each answers: a refusal, or which of the answers that the law tells apart ----------------------------------------------

pub data Said : Type 0 where
  refused : Refusal → Said
  made : Said
  worded : Word → Said
  -- a record, check's answer, a key that was read, the length of a text or a page
  told : Said

abbrev pub of_make : Result ⊤ Refusal → Said
of_make (Ok done) = made
of_make (Err why) = refused why

abbrev pub of_key : table.Answer → Said
of_key (Ok said) = worded said.word
of_key (Err why) = refused why

abbrev pub of_record : RecordAnswer → Said
of_record (Ok found) = told
of_record (Err why) = refused why

abbrev pub of_check : Result Bool Refusal → Said
of_check (Ok sound) = told
of_check (Err why) = refused why

abbrev pub of_read : Result Key Refusal → Said
of_read (Ok k) = told
of_read (Err why) = refused why

abbrev pub of_written : Result ℕ Refusal → Said
of_written (Ok n) = told
of_written (Err why) = refused why

abbrev pub of_page : Result ℕ Refusal → Said
of_page (Ok n) = told
of_page (Err why) = refused why

-- The answer and all lent bytes after it, by the definitions that the contracts of the calls cite -----------------------------

pub record Outcome : Type 0 where
  pub said : Said
  pub after : Lent

module _ (s : Settings) (l : Lent) where
  -- a call that may write the table; one that may write the buffer; one that may write neither. What a function is lent to read only (`&[u8]`)
  -- the language keeps
  abbrev pub on_table : {A : Type 0} → (A → Said) → Reply A → Outcome
  on_table f r = record { said = f r.answer; after = record { table = r.bytes; buffer = l.buffer } }

  abbrev pub on_buffer : {A : Type 0} → (A → Said) → Reply A → Outcome
  on_buffer f r = record { said = f r.answer; after = record { table = l.table; buffer = r.bytes } }

  abbrev pub on_nothing : Said → Outcome
  on_nothing a = record { said = a; after = l }

  abbrev pub outcome : Call → Outcome
  outcome make = on_table of_make (make_call s l.table)
  outcome (ask q) = on_table of_key (table_call s l.table q)
  outcome (record_at n) = on_nothing (of_record (record_call s l.table n))
  outcome (slot_at n) = on_nothing (of_record (retrieve_call s l.table n))
  outcome check = on_buffer of_check (check_call s l.table l.buffer)
  outcome (read_text x) = on_nothing (of_read (reading_of x))
  outcome (write_text k) = on_buffer of_written (write_call k l.buffer)
  outcome (page_at k) = on_buffer of_page (page_call s l.table k l.buffer)

-- The words of the claim -----------------------------------------------------------------------------------------------------

-- clause 6.13: what writes the table
pub data Writes : Call → Said → Type 0 where
  makes : Writes make made
  enters : (q : Asked) (label : ℕ) → verb_asked q ≡ enter label → Writes (ask q) (worded word.Added)
  relabels : (q : Asked) (label : ℕ) → verb_asked q ≡ relabel label → Writes (ask q) (worded word.Relabelled)
  deletes : (q : Asked) → verb_asked q ≡ delete → Writes (ask q) (worded word.Gone)

-- how many bytes of the buffer a call may write: the marks of clause 6.11, or those of the text or the page
abbrev pub buffer_bytes : Settings → List ℕ → Call → ℕ
buffer_bytes s t make = 0
buffer_bytes s t (ask q) = 0
buffer_bytes s t (record_at n) = 0
buffer_bytes s t (slot_at n) = 0
buffer_bytes s t check = (s.nob + 7) / 8
buffer_bytes s t (read_text x) = 0
buffer_bytes s t (write_text k) = length (written k.high k.low)
buffer_bytes s t (page_at k) = length (page_text (records s t) k)

-- bytes beyond the first n stay, and none comes or goes
pub record Untouched (n : ℕ) (before after : List ℕ) : Type 0 where
  pub long : length after ≡ length before
  pub beyond : drop n after ≡ drop n before
