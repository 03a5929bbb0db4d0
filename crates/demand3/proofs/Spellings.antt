-- Clause 8.10, lists of calls that differ only in legal spellings of the same addresses: for every settings,
-- legal or not, and every memory.
use Rattle.std.specs.Prelude.{◌≡◌, List, [], ◌∷◌, ◌++◌, map, ℕ, take, drop}
use Rattle.std.proofs.Math.Path.{refl}
use Rattle.std.proofs.Common.{ap, ap₂, ◌∙◌}
use Rattle.settings.specs.declared.settings.Settings.{Settings}
use Rattle.settings.specs.Reply.{Reply}
use Rattle.table.specs.Calls.{Verb}
use Rattle.table.specs.Answer as table
use Rattle.text_read.specs.Answers.{reading_of}
use Rattle.text_read.specs.Grammar.{Dotted}
use Rattle.text_write.specs.Ascii.{ascii}
use Rattle.text_calls.specs.theory.Mapped.{bare_mapped}
use Rattle.text_calls.specs.TextCalls.{text_call}
use Rattle.plain_set.specs.Set.{Answer}
use Rattle.plain_set.specs.Plain.{plain}
use Rattle.text_calls.specs.Asked.{Asked, by_text, table_call}
use Rattle.demand3.specs.Claim.{Lending, memory_after}

-- Lists of calls that differ only in spellings ----------------------------------------------------------------------------------

-- the same call, or the same verb with another text that is read as the same
pub data SameCall : Asked → Asked → Type 0 where
  same : {c : Asked} → SameCall c c
  respelled : {v : Verb} {x y : List ℕ} → reading_of x ≡ reading_of y → SameCall (by_text v x) (by_text v y)

abbrev pub lending : Asked → ℕ → Lending
lending c n = record { call = c; lent = n }

-- call by call the same, and lent as many bytes
pub data SameCalls : List Lending → List Lending → Type 0 where
  no_calls : SameCalls [] []
  one_more : {c d : Asked} {n : ℕ} {cs ds : List Lending} → SameCall c d → SameCalls cs ds → SameCalls (lending c n ∷ cs) (lending d n ∷ ds)

-- a bare dotted text, and the same behind "::ffff:"
pub bare_spelling : (v : Verb) {x l : List ℕ} → Dotted x l → SameCall (by_text v (ascii "::ffff:" ++ x)) (by_text v x)
bare_spelling v d = respelled (bare_mapped d)

module _ (s : Settings) where
  -- What a list of calls answers and leaves -------------------------------------------------------------------------------------

  -- the answers as the calls give them, with `compared` and the slot's number
  abbrev pub replies : List ℕ → List Lending → List table.Answer
  replies t [] = []
  replies t (c ∷ cs) = (table_call s (take c.lent t) c.call).answer ∷ replies (memory_after s t c) cs

  -- and without
  abbrev pub answers : List ℕ → List Lending → List Answer
  answers t cs = map plain (replies t cs)

  abbrev pub memory_after_all : List ℕ → List Lending → List ℕ
  memory_after_all t [] = t
  memory_after_all t (c ∷ cs) = memory_after_all (memory_after s t c) cs

  -- They are the same -----------------------------------------------------------------------------------------------------------

  same_call : (t : List ℕ) {c d : Asked} → SameCall c d → table_call s t c ≡ table_call s t d
  unfolding text_call
  same_call t same = refl
  same_call t (respelled e) = rw e

  same_front : (t : List ℕ) {c d : Asked} (n : ℕ) → SameCall c d → memory_after s t (lending c n) ≡ memory_after s t (lending d n)
  same_front t n w = ap (λ (r : Reply table.Answer). r.bytes ++ drop n t) (same_call (take n t) w)

  pub same_replies : (t : List ℕ) {cs ds : List Lending} → SameCalls cs ds → replies t cs ≡ replies t ds
  same_replies t no_calls = refl
  same_replies t (one_more {c = c} {d = d} {n = n} {cs = cs} w ws) =
      ap₂ ◌∷◌ (ap (λ (r : Reply table.Answer). r.answer) (same_call (take n t) w))
      (ap (λ (u : List ℕ). replies u cs) (same_front t n w) ∙ same_replies (memory_after s t (lending d n)) ws)

  pub same_answers : (t : List ℕ) {cs ds : List Lending} → SameCalls cs ds → answers t cs ≡ answers t ds
  same_answers t w = ap (map plain) (same_replies t w)

  pub same_memory : (t : List ℕ) {cs ds : List Lending} → SameCalls cs ds → memory_after_all t cs ≡ memory_after_all t ds
  same_memory t no_calls = refl
  same_memory t (one_more {c = c} {d = d} {n = n} {cs = cs} w ws) =
      ap (λ (u : List ℕ). memory_after_all u cs) (same_front t n w) ∙ same_memory (memory_after s t (lending d n)) ws

  -- A bare dotted text ------------------------------------------------------------------------------------------------------

  -- it and its mapped spelling are one entry: a call with the one is the call with the other, in answer and bytes, on any table
  pub one_entry : (t : List ℕ) (v : Verb) {x l : List ℕ} → Dotted x l → table_call s t (by_text v (ascii "::ffff:" ++ x)) ≡ table_call s t (by_text v x)
  one_entry t v d = same_call t (bare_spelling v d)
