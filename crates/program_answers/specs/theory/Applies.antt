-- A command on the program's table: no key is refused, and a text that is read asks for what its key does.
use Rattle.std.specs.Prelude.{◌≡◌, List, ℕ, ◌^◌, ◌≤◌, ◌<◌, length, Err, Ok}
use borrow.Author.Tests.{le-leb}
use Rattle.settings.specs.Sizes.{table_bytes}
use Rattle.settings.specs.Layout.{layout_of}
use Rattle.settings.specs.Reply.{reply, answering}
use Rattle.settings.specs.declared.refusal.Refusal.{Refusal}
use Rattle.settings.specs.declared.refusal.Refusal.TheVariants as refusal
use Rattle.keys.specs.theory.Keys.{key_below}
use Rattle.keys.specs.declared.Key.{Key}
use Rattle.table.specs.Answer.{no_key}
use Rattle.table.specs.Calls.{Verb, key_call}
use Rattle.table_find.specs.Seek.{open_of}
use Rattle.table_find.specs.theory.Seeks.{open_if}
use Rattle.text_read.specs.Answers.{reading_of}
use Rattle.text_calls.specs.TextCalls.{for_key, text_call}
use Rattle.program_answers.specs.Program.{program, program_bytes}
use Rattle.program_answers.specs.theory.Program.{program_legal}

module _ (t : List ℕ) (h : program_bytes ≤ length t) where
  pub program_opens : (k : Key) → k.high < 2 ^ 64 → k.low < 2 ^ 64 → open_of program (length t) k ≡ Ok (layout_of program)
  unfolding program_bytes
  program_opens k a b = open_if program k (length t) program_legal h (key_below k a b)

  module _ (v : Verb) (x : List ℕ) where
    pub text_key : (k : Key) → reading_of x ≡ Ok k → text_call program t v x ≡ answering (for_key k) (key_call program t v k)
    unfolding program_bytes text_call
    text_key k e = rw (program_legal, le-leb (table_bytes program) (length t) h, e)

    pub text_unread : (why : Refusal) → reading_of x ≡ Err why → text_call program t v x ≡ reply (for_key no_key (Err refusal.Text)) t
    unfolding program_bytes text_call
    text_unread why e = rw (program_legal, le-leb (table_bytes program) (length t) h, e)
