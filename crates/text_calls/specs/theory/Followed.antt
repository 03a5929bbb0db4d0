-- A call that takes a text for a table takes the whole text: bytes behind its run are refused.
use Rattle.std.specs.Prelude.{◌≡◌, true, List, ℕ, ◌≤◌, ◌<◌, length, Err}
use Rattle.std.proofs.Common.{le-leb, eq-eqb}
use Rattle.settings.specs.declared.settings.Settings.{Settings}
use Rattle.settings.specs.declared.refusal.Refusal.TheVariants as refusal
use Rattle.settings.specs.Legal.{legal}
use Rattle.settings.specs.Sizes.{table_bytes}
use Rattle.settings.specs.Reply.{reply}
use Rattle.table.specs.Answer.{no_key}
use Rattle.table.specs.Calls.{Verb}
use Rattle.text_run.specs.Run.{run}
use Rattle.text_run.proofs.Takes.{followed_refused}
use Rattle.text_calls.specs.TextCalls.{for_key, text_call}

-- "every call that takes a text for a table, still refuse 4 if bytes follow the run": where none of 1 to 3 is due
pub followed_call : (s : Settings) (t : List ℕ) (v : Verb) (x : List ℕ) → legal s ≡ true → table_bytes s ≤ length t → s.w ≡ 128
    → length (run x) < length x → text_call s t v x ≡ reply (for_key no_key (Err refusal.Text)) t
unfolding text_call
followed_call s t v x l h w f = rw (l, le-leb (table_bytes s) (length t) h, eq-eqb s.w 128 w, followed_refused x f)
