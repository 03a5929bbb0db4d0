-- Every call, with a key or a text, whatever its inputs, lent any number of a memory's first bytes: if its inputs are legal, it is the call with a
-- legal key on the table that the memory holds; if not, table and set give the same refusal, and nothing changes.
use Rattle.std.specs.Prelude.{◌≡◌, refl, false, List, [], ◌∷◌, ◌++◌, ℕ, length, take, drop, eqb, leb, Err, Ok}
use Rattle.std.proofs.Common.{ap, take-append-drop}
use Rattle.std.proofs.Math.Option.{Option, none, some}
use Rattle.laws.specs.Cases.{cases}
use Rattle.settings.specs.declared.settings.Settings.{Settings}
use Rattle.settings.specs.declared.refusal.Refusal.TheVariants as refusal
use Rattle.settings.specs.Sizes.{table_bytes}
use Rattle.settings.specs.Legal.{legal, Legal}
use Rattle.settings.specs.Due.{due, unless_due, settings_due, short_due, width_due}
use Rattle.settings.specs.Reply.{Reply, reply, called, answering}
use Rattle.table.specs.Answer.{no_key}
use Rattle.table.specs.Calls.{Verb, key_call}
use Rattle.plain_set.specs.Rebuilt.{Pair}
use Rattle.table.specs.Answer as table
use Rattle.text_read.specs.Answers.{reading_of}
use Rattle.text_calls.specs.TextCalls.{key_read, not_read, for_key, text_call}
use Rattle.plain_set.specs.Set.{Call, call, text, key_given, refused, Step, step, key_step, call_due, set_step}
use Rattle.plain_set.proofs.Refusals.{legal_call, key_refused, none_due}
use Rattle.settings.specs.theory.Dues.{by_dues}
use Rattle.plain_set.proofs.Agree.{Agree}
use Rattle.plain_set.proofs.Longer.{bytes_take, bytes_drop, agree_append, agree_front}
use Rattle.text_calls.specs.Asked.{Asked, by_key, by_text, table_call}
use Rattle.demand3.specs.Claim.{Lending, memory_after, as_read, given, set_after}
use Rattle.demand3.proofs.KeySteps.{Follows, legal_follows}
use Rattle.std.specs.declared.result.Result.{Result}
use Rattle.settings.specs.declared.refusal.Refusal.{Refusal}
use Rattle.keys.specs.declared.Key.{Key}

-- Keys and texts -------------------------------------------------------------------------------------------------------------

-- the call with a text that is read as p: behind codes 1 to 4 the call with its key tests 1 and 2 again, which are not due then
reading_is : (s : Settings) (t : List ℕ) (v : Verb) (p : Result Key Refusal)
    → answering (λ a. a.answer)
    (called (λ why. for_key no_key (Err why)) t (settings_due s ∷ short_due s (length t) ∷ width_due s ∷ due (not_read p) refusal.Text ∷ [])
    (answering (for_key (key_read p)) (key_call s t v (key_read p))))
    ≡ called Err t (call_due s (length t) (call v (text (as_read p)))) (legal_call s t v (key_given (text (as_read p))))
unfolding key_call
reading_is s t v (Ok k) =
    cases (legal s)
    (λ e. cases (leb (table_bytes s) (length t)) (λ f. rw (e, f) (cases (eqb s.w 128) (λ h. rw h) (λ h. rw h))) (λ f. rw (e, f)))
    (λ e. rw e)
reading_is s t v (Err why) =
    cases (legal s)
    (λ e. cases (leb (table_bytes s) (length t)) (λ f. rw (e, f) (cases (eqb s.w 128) (λ h. rw h) (λ h. rw h))) (λ f. rw (e, f)))
    (λ e. rw e)

-- a call is refused for its inputs as the set refuses it; or it is the call with its key
pub call_is : (s : Settings) (t : List ℕ) (c : Asked)
    → table_call s t c ≡ called Err t (call_due s (length t) (given c)) (legal_call s t (given c).verb (key_given (given c).given))
unfolding text_call
call_is s t (by_key v k) = key_refused s t v k
call_is s t (by_text v x) = reading_is s t v (reading_of x)

-- Any number of lent bytes ---------------------------------------------------------------------------------------------------

-- the answer to a call that is lent the first bytes of the memory t, and the memory after it
abbrev pub lent_call : Settings → List ℕ → Lending → Reply table.Answer
lent_call s t c = reply (table_call s (take c.lent t) c.call).answer (memory_after s t c)

-- the key of a call that is lent n bytes, if its inputs are legal
abbrev pub legal_key : Settings → ℕ → Call → Option ℕ
legal_key s n c = unless_due (call_due s n c) (λ why. none) (some (key_given c.given))

pub lent_follows : {s : Settings} {t : List ℕ} {T : List (List ℕ)} {ps : List Pair} → Legal s → Agree s t T ps → (c : Lending)
    → Follows s T (given c.call).verb (legal_key s (length (take c.lent t)) (given c.call)) (lent_call s t c) (set_after s t ps c)
unfolding set_step
lent_follows {s} {t} {T} {ps} right a c =
    let u : List ℕ = take c.lent t in
    let rest : List ℕ = drop c.lent t in
    let whole : Agree s (u ++ rest) T ps = rw (take-append-drop c.lent t) a in
    let v : Verb = (given c.call).verb in
    let k : ℕ = key_given (given c.call).given in
    rw (call_is s u c.call)
    (by_dues (λ choose.
    let r : Reply table.Answer = choose (Reply table.Answer) (λ why. reply (Err why) u) (legal_call s u v k) in
    Follows s T v (choose (Option ℕ) (λ why. none) (some k)) (reply r.answer (r.bytes ++ rest))
    (choose Step (λ why. step (refused why) ps) (key_step s ps v k)))
    (call_due s (length u) (given c.call))
    (λ why. record { answers = refl; after = T; agree = whole; own = λ i h. refl })
    (λ n.
    let l = none_due s (length u) v (given c.call).given n in
    let w = legal_follows right (agree_front right u rest whole (bytes_take c.lent t a.bytes) l.room) k l.key v l.label in
    record {
      answers = w.answers;
      after = w.after;
      agree = agree_append right (legal_call s u v k).bytes rest w.agree (bytes_drop c.lent t a.bytes);
      own = w.own;
    }))

-- with settings that are not legal every call is refused 1 by table and set, and both stay
pub record Refuses (s : Settings) (t : List ℕ) (ps : List Pair) (c : Lending) : Type 0 where
  pub call : lent_call s t c ≡ reply (Err refusal.Settings) t
  pub set : set_after s t ps c ≡ step (refused refusal.Settings) ps

pub illegal_refuses : (s : Settings) → legal s ≡ false → (t : List ℕ) (ps : List Pair) (c : Lending) → Refuses s t ps c
unfolding set_step
illegal_refuses s e t ps c =
    record {
      call = rw (call_is s (take c.lent t) c.call, e) (ap (reply (Err refusal.Settings)) (take-append-drop c.lent t));
      set = rw e;
    }
