-- A call with a text is the refusal that comes before its text is read, or the call with the text's key on a table that is opened for it.
use Rattle.std.specs.Prelude.{◌≡◌, refl, true, false, List, [], ◌∷◌, ℕ, ◌^◌, ◌<◌, length, eqb, leb, Err, Ok}
use Rattle.std.proofs.Math.Path.{sym, ap}
use Rattle.std.proofs.Common.{◌∙◌, arith, leb-true, eqb-true}
use Rattle.laws.specs.Cases.{never}
use Rattle.settings.specs.declared.settings.Settings.{Settings}
use Rattle.settings.specs.declared.refusal.Refusal.{Refusal}
use Rattle.settings.specs.declared.layout.Layout.{Layout}
use Rattle.settings.specs.Sizes.{table_bytes}
use Rattle.settings.specs.Legal.{legal}
use Rattle.settings.specs.Made.{laid_of}
use Rattle.settings.specs.Due.{settings_due, short_due, width_due}
use Rattle.settings.specs.theory.Dues.{by_dues, due_through, passed}
use Rattle.settings.specs.theory.Legal.{laid_layout, laid_refused}
use Rattle.settings.specs.Reply.{Reply, reply, answering, Gives}
use Rattle.keys.specs.declared.Key.{Key}
use Rattle.keys.specs.Key.{key_number}
use Rattle.keys.specs.theory.Keys.{key_below}
use Rattle.table.specs.Answer.{no_key, Answer}
use Rattle.table.specs.Calls.{Verb, key_call}
use Rattle.table.specs.theory.Opened.{due_settings}
use Rattle.table_find.specs.Seek.{open_of}
use Rattle.table_find.specs.theory.Seeks.{open_if}
use Rattle.text_read.specs.Answers.{reading_of}
use Rattle.text_calls.specs.declared.calls.TextAnswer.{TextAnswer}
use Rattle.text_calls.specs.TextCalls.{key_read, not_read, text_due, for_key, text_call}
use Rattle.text_calls.specs.Admits.{admitted_of}
use Rattle.text_calls.specs.theory.RoundTrip.{reading_fits}
use Rattle.std.specs.declared.result.Result.{Result}

-- a text that is not refused was read as a key
read_key : (p : Result Key Refusal) → not_read p ≡ false → p ≡ Ok (key_read p)
read_key (Ok k) e = refl
read_key (Err why) e = never (sym e)

-- refused, and not refused
refused_key : {X : Type 0} (why : Refusal) (k : Key) → Err why ≡ Ok k → X
refused_key why k e = absurd (let z : ◌≡◌ {A = ℕ} 0 1 = cc in omega arith)

module _ (s : Settings) (t x : List ℕ) where
  -- none of refusals 1 to 4 is due, and k is the text's key
  record Read (k : Key) : Type 0 where
    lawful : legal s ≡ true
    long : leb (table_bytes s) (length t) ≡ true
    wide : eqb s.w 128 ≡ true
    is : reading_of x ≡ Ok k

  admitted_read : (k : Key) → admitted_of s t x ≡ Ok k → Read k
  unfolding admitted_of
  admitted_read k =
      by_dues (λ choose. choose (Result Key Refusal) Err (Ok (key_read (reading_of x))) ≡ Ok k → Read k)
      (settings_due s ∷ short_due s (length t) ∷ width_due s ∷ text_due x ∷ [])
      (λ why e. refused_key why k e)
      (λ d e.
      record { lawful = passed d.0; long = passed d.1.0; wide = passed d.1.1.0; is = read_key (reading_of x) d.1.1.1.0 ∙ e })

  -- an admitted key is below 2 ^ 128, and the table is opened for it
  pub admitted_open : {g : Layout} {k : Key} → laid_of s ≡ Ok g → admitted_of s t x ≡ Ok k → open_of s (length t) k ≡ Ok g
  admitted_open {g} {k} l e =
      let r = admitted_read k e in
      let f = reading_fits x k r.is in
      let b : key_number k < 2 ^ s.w = rw (eqb-true s.w 128 r.wide) (key_below k f.high_below f.low_below) in
      open_if s k (length t) r.lawful (leb-true (table_bytes s) (length t) r.long) b ∙ ap Ok (laid_layout s g l).1

  -- 1: the settings are not legal
  pub admitted_illegal : (why : Refusal) → laid_of s ≡ Err why → admitted_of s t x ≡ Err why
  unfolding admitted_of
  admitted_illegal why e =
      let q = laid_refused s why e in
      due_settings Err s (length t) (width_due s ∷ text_due x ∷ []) (Ok (key_read (reading_of x))) q.0 ∙ ap Err q.1

  module _ (v : Verb) where
    -- what was admitted decides the call
    abbrev pub by_admitted : Result Key Refusal → Reply TextAnswer
    by_admitted (Ok k) = answering (for_key k) (key_call s t v k)
    by_admitted (Err why) = reply (for_key no_key (Err why)) t

    pub admitted_call : (a : Result Key Refusal) → admitted_of s t x ≡ a → text_call s t v x ≡ by_admitted a
    unfolding text_call admitted_of
    admitted_call a e =
        sym
        (due_through by_admitted (settings_due s ∷ short_due s (length t) ∷ width_due s ∷ text_due x ∷ []) Err
        (Ok (key_read (reading_of x))))
        ∙ ap by_admitted e

    -- a key: the call with it
    pub admitted_key : {k : Key} {r : Answer} {u : List ℕ} → admitted_of s t x ≡ Ok k → Gives (key_call s t v k) r u → Gives (text_call s t v x) (for_key k r) u
    admitted_key {k} e g = rw (admitted_call (Ok k) e) (record { answer = ap (for_key k) g.answer; bytes = g.bytes })

    -- a refusal, which leaves every byte
    pub admitted_refused : {why : Refusal} {r : TextAnswer} → admitted_of s t x ≡ Err why → r ≡ for_key no_key (Err why) → Gives (text_call s t v x) r t
    admitted_refused {why} e g = rw (admitted_call (Err why) e) (record { answer = g; bytes = refl })
