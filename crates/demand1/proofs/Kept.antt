-- What each call that may write leaves in the bytes that it may write.
use Rattle.std.specs.Prelude.{◌≡◌, refl, ◌⊎◌, ◌≢◌, cond, not, List, [], ◌∷◌, ◌++◌, length, drop, replicate, leb, Bool, Err, Ok, false, true, ⊤}
use Rattle.std.proofs.Common.{◌∙◌, inl, inr, arith, length-append, length-drop, drop-set-lt, leb-true}
use Rattle.std.proofs.Math.Option.{Option, none, some}
use Prim.Native.Nat.{ℕ, zero, suc, ◌+◌, ◌*◌, ◌/◌, ◌≤◌}
use Rattle.std.proofs.lemmas.List.{length-replicate}
use Rattle.std.proofs.Math.Seq.{drop-append_seam}
use Rattle.bits.specs.Put.{put_bit, put_field}
use Rattle.settings.specs.declared.settings.Settings.{Settings}
use Rattle.settings.specs.declared.refusal.Refusal.{Refusal}
use Rattle.settings.specs.declared.refusal.Refusal.TheVariants as refusal
use Rattle.settings.specs.Sizes.{table_bits, table_bytes}
use Rattle.settings.specs.Layout.{layout_of}
use Rattle.settings.specs.Due.{due, settings_due, short_due, width_due, key_due}
use Rattle.settings.specs.Reply.{Reply, reply, answering}
use Rattle.settings.specs.theory.Dues.{by_dues, passed}
use Rattle.settings.specs.theory.Legal.{legal_means}
use Rattle.keys.specs.declared.Key.{Key}
use Rattle.keys.specs.Key.{key_number, list_number, entry}
use Rattle.table.specs.Arrays.{cleared}
use Rattle.table.specs.State.{State, slot_of}
use Rattle.table.specs.Decode.{image, written}
use Rattle.table.specs.Follow.{Content, content}
use Rattle.table.specs.Find.{position, is_held, label_at, compared_in, number_at}
use Rattle.table.specs.Done.{Done, damage, no_block, done, answered, replied}
use Rattle.table.specs.Enter.{append, end_number, enter_followed, enter_in}
use Rattle.table.specs.Relabel.{relabel_followed, relabel_in}
use Rattle.table.specs.Delete.{take_out, delete_followed, delete_in}
use Rattle.table.specs.Store.{store_at}
use Rattle.table.specs.New.{new_state, new_bytes}
use Rattle.table.specs.Check.{table_sound, mark_bytes, marks_after}
use Rattle.table.specs.Answer.{said, no_key}
use Rattle.table.specs.Calls.{Verb, find, enter, relabel, delete, list_call, verb_due, held, make_call, key_call, check_call}
use Rattle.table.specs.Answer as table
use Rattle.table.specs.declared.answers.Word.TheVariants as word
use Rattle.table.specs.theory.FormedCalls.{either}
use Rattle.table.specs.theory.Written.{written_length}
use Rattle.text_read.specs.Answers.{reading_of}
use Rattle.text_write.specs.Writing as text
use Rattle.text_write.specs.Answers.{write_call}
use Rattle.text_calls.specs.TextCalls.{key_read, text_due, for_key, text_call}
use Rattle.text_calls.specs.declared.calls.TextAnswer.{TextAnswer}
use Rattle.text_calls.specs.Asked.{Asked, by_key, by_text, verb_asked, table_call}
use Rattle.text_sheet.specs.Pages.{page_text}
use Rattle.text_sheet.specs.Answers.{page_room, records, damage_due, page_due, page_call}
use Rattle.text_sheet.proofs.Sheet.{page_fits}
use Rattle.demand1.specs.Claim.{Said, refused, told, of_make, of_key, of_check, of_written, of_page, make, ask, Writes, makes, enters, relabels, deletes, Untouched}
use Rattle.std.specs.declared.result.Result.{Result}

-- Bytes beyond -----------------------------------------------------------------------------------------------------------------

pub untouched : (n : ℕ) (t : List ℕ) → Untouched n t t
untouched n t = record { long = refl; beyond = refl }

-- a field within the first k bytes
put_beyond : (s : List ℕ) (off n v k : ℕ) → off + n ≤ 8 * k → drop k (put_field s off n v) ≡ drop k s
unfolding put_field put_bit
put_beyond s off zero v k h = refl
put_beyond s off (suc n) v k h =
    drop-set-lt k (put_field s off n (v / 2)) ((off + n) / 8) _ (omega arith) ∙ put_beyond s off n (v / 2) k (omega arith)

-- other bytes in the place of the first ones
front_untouched : (xs t : List ℕ) → length xs ≤ length t → Untouched (length xs) t (xs ++ drop (length xs) t)
front_untouched xs t h =
    record {
      long = omega (arith, length-append xs (drop (length xs) t), length-drop (length xs) t);
      beyond = drop-append_seam xs (drop (length xs) t);
    }

cleared_untouched : (n : ℕ) (t : List ℕ) → n ≤ length t → Untouched n t (cleared n t)
cleared_untouched n t h =
    let zeros : List ℕ = replicate n 0 in
    let z : length zeros ≡ n = length-replicate {A = ℕ} n 0 in
    rw z at (front_untouched zeros t (omega arith))

-- a state written in the table's bits
written_untouched : (s : Settings) (t : List ℕ) (st : State) → Untouched (table_bytes s) t (written (layout_of s) t st)
unfolding written layout_of table_bytes
written_untouched s t st =
    record {
      long = written_length (layout_of s) t st;
      beyond = put_beyond t 0 (table_bits s) (image (layout_of s) st) ((table_bits s + 7) / 8) (omega arith);
    }

-- A call that may write -------------------------------------------------------------------------------------------------------

-- the reply r of a call that is lent the bytes t, may write the first n, and writes only with answers of which W holds
pub record Kept (n : ℕ) (t : List ℕ) (W : Said → Type 0) (r : Reply Said) : Type 0 where
  pub unless : (r.bytes ≡ t) ⊎ W r.answer
  pub untouched : Untouched n t r.bytes

module _ {n : ℕ} {t : List ℕ} {W : Said → Type 0} where
  stays : (a : Said) → Kept n t W (reply a t)
  stays a = record { unless = inl refl; untouched = untouched n t }

  writes : {a : Said} {u : List ℕ} → W a → Untouched n t u → Kept n t W (reply a u)
  writes w o = record { unless = inr w; untouched = o }

module _ (s : Settings) (t : List ℕ) where
  pub make_kept : Kept (table_bytes s) t (Writes make) (answering of_make (make_call s t))
  unfolding make_call new_bytes layout_of
  make_kept =
      by_dues (λ choose.
      Kept (table_bytes s) t (Writes make)
      (answering of_make (choose (Reply (Result ⊤ Refusal)) (λ why. reply (Err why) t) (reply (Ok tt) (new_bytes (layout_of s) t)))))
      (settings_due s ∷ short_due s (length t) ∷ [])
      (λ why. stays (refused why))
      (λ d.
      let c = cleared_untouched (table_bytes s) t (leb-true (table_bytes s) (length t) (passed d.1.0)) in
      let w = written_untouched s (cleared (table_bytes s) t) (new_state (layout_of s)) in
      writes makes (record { long = w.long ∙ c.long; beyond = w.beyond ∙ c.beyond }))

  -- Find, enter, relabel and delete ----------------------------------------------------------------------------------------

  module _ (q : Asked) where
    -- what a change leaves that answers x if it is done
    done_kept : (x : table.Answer) → Writes (ask q) (of_key x) → (d : Done)
        → Kept (table_bytes s) t (Writes (ask q)) (answering of_key (replied (layout_of s) t (answered x d)))
    done_kept x w damage = stays (refused refusal.Damage)
    done_kept x w no_block = stays (refused refusal.NoBlock)
    done_kept x w (done st) = writes w (written_untouched s t st)

    enter_kept : (i e label : ℕ) → verb_asked q ≡ enter label → (o : Option Content)
        → Kept (table_bytes s) t (Writes (ask q))
        (answering of_key (replied (layout_of s) t (enter_followed (layout_of s) (held s t) i e label o)))
    unfolding enter_followed
    enter_kept i e label h none = stays (refused refusal.Damage)
    enter_kept i e label h (some v) =
        either (λ a. Kept (table_bytes s) t (Writes (ask q)) (answering of_key (replied (layout_of s) t a)))
        (is_held (layout_of s) e v.slots) (λ b. stays _)
        (λ b.
        done_kept (said word.Added label (compared_in (layout_of s) e v.slots) (end_number (layout_of s) (held s t) i v)) (enters q label h)
        (append (layout_of s) (held s t) i v.blocks (slot_of (layout_of s) e label)))

    relabel_kept : (i e label : ℕ) → verb_asked q ≡ relabel label → (o : Option Content)
        → Kept (table_bytes s) t (Writes (ask q))
        (answering of_key (replied (layout_of s) t (relabel_followed (layout_of s) (held s t) i e label o)))
    unfolding relabel_followed
    relabel_kept i e label h none = stays (refused refusal.Damage)
    relabel_kept i e label h (some v) =
        either (λ a. Kept (table_bytes s) t (Writes (ask q)) (answering of_key (replied (layout_of s) t a)))
        (is_held (layout_of s) e v.slots)
        (λ b.
        done_kept (said word.Relabelled (label_at (layout_of s) e v.slots) (compared_in (layout_of s) e v.slots) (number_at (layout_of s) i e v)) (relabels q label h)
        (done (store_at (layout_of s) (held s t) i v.blocks (position (layout_of s) e v.slots) (slot_of (layout_of s) e label))))
        (λ b. stays _)

    delete_kept : (i e : ℕ) → verb_asked q ≡ delete → (o : Option Content)
        → Kept (table_bytes s) t (Writes (ask q))
        (answering of_key (replied (layout_of s) t (delete_followed (layout_of s) (held s t) i e o)))
    unfolding delete_followed
    delete_kept i e h none = stays (refused refusal.Damage)
    delete_kept i e h (some v) =
        either (λ a. Kept (table_bytes s) t (Writes (ask q)) (answering of_key (replied (layout_of s) t a)))
        (is_held (layout_of s) e v.slots)
        (λ b.
        done_kept (said word.Gone (label_at (layout_of s) e v.slots) (compared_in (layout_of s) e v.slots) 0) (deletes q h)
        (take_out (layout_of s) (held s t) i v (position (layout_of s) e v.slots)))
        (λ b. stays _)

    list_kept : (i e : ℕ) (v : Verb) → verb_asked q ≡ v
        → Kept (table_bytes s) t (Writes (ask q)) (answering of_key (replied (layout_of s) t (list_call (layout_of s) (held s t) i e v)))
    unfolding list_call enter_in relabel_in delete_in
    list_kept i e find h = stays _
    list_kept i e (enter label) h = enter_kept i e label h (content (layout_of s) (held s t) i)
    list_kept i e (relabel label) h = relabel_kept i e label h (content (layout_of s) (held s t) i)
    list_kept i e delete h = delete_kept i e h (content (layout_of s) (held s t) i)

    key_kept : (v : Verb) (k : Key) → verb_asked q ≡ v → Kept (table_bytes s) t (Writes (ask q)) (answering of_key (key_call s t v k))
    unfolding key_call
    key_kept v k h =
        let i : ℕ = list_number s (key_number k) in
        let e : ℕ = entry s (key_number k) in
        by_dues (λ choose.
        Kept (table_bytes s) t (Writes (ask q))
        (answering of_key
        (choose (Reply table.Answer) (λ why. reply (Err why) t)
        (replied (layout_of s) t (list_call (layout_of s) (held s t) i e v)))))
        (settings_due s ∷ short_due s (length t) ∷ key_due s (key_number k) ∷ verb_due s v)
        (λ why. stays (refused why))
        (λ d. list_kept i e v h)

    text_kept : (v : Verb) (x : List ℕ) → verb_asked q ≡ v → Kept (table_bytes s) t (Writes (ask q)) (answering of_key (table_call s t (by_text v x)))
    unfolding text_call
    text_kept v x h =
        let k : Key = key_read (reading_of x) in
        by_dues (λ choose.
        Kept (table_bytes s) t (Writes (ask q))
        (answering (λ a. of_key a.answer)
        (choose (Reply TextAnswer) (λ why. reply (for_key no_key (Err why)) t) (answering (for_key k) (key_call s t v k)))))
        (settings_due s ∷ short_due s (length t) ∷ width_due s ∷ text_due x ∷ [])
        (λ why. stays (refused why))
        (λ d. key_kept v k h)

  pub ask_kept : (q : Asked) → Kept (table_bytes s) t (Writes (ask q)) (answering of_key (table_call s t q))
  ask_kept (by_key v k) = key_kept (by_key v k) v k refl
  ask_kept (by_text v x) = text_kept (by_text v x) v x refl

-- Marks and text buffers --------------------------------------------------------------------------------------------------------

-- no refusal
abbrev pub Accepted : Said → Type 0
Accepted a = (why : Refusal) → a ≢ refused why

told_accepted : Accepted told
told_accepted why e = absurd (let z : ◌≡◌ {A = ℕ} 0 1 = cc in omega arith)

pub check_kept : (s : Settings) (t m : List ℕ) → Kept ((s.nob + 7) / 8) m Accepted (answering of_check (check_call s t m))
unfolding check_call marks_after mark_bytes layout_of
check_kept s t m =
    by_dues (λ choose.
    Kept ((s.nob + 7) / 8) m Accepted
    (answering of_check
    (choose (Reply (Result Bool Refusal)) (λ why. reply (Err why) m)
    (reply (Ok (table_sound (layout_of s) t)) (marks_after (layout_of s) m)))))
    (settings_due s ∷ short_due s (length t) ∷ due (not (leb (mark_bytes (layout_of s)) (length m))) refusal.Marks ∷ [])
    (λ why. stays (refused why))
    (λ d.
    let o = cleared_untouched ((s.nob + 7) / 8) m (leb-true ((s.nob + 7) / 8) (length m) (passed d.1.1.0)) in
    writes told_accepted o)

pub write_kept : (k : Key) (b : List ℕ) → Kept (length (text.written k.high k.low)) b Accepted (answering of_written (write_call k b))
unfolding write_call
write_kept k b =
    let x : List ℕ = text.written k.high k.low in
    by_dues (λ choose.
    Kept (length x) b Accepted
    (answering of_written
    (choose (Reply (Result ℕ Refusal)) (λ why. reply (Err why) b) (reply (Ok (length x)) (x ++ drop (length x) b)))))
    (due (not (leb (length x) (length b))) refusal.Output ∷ [])
    (λ why. stays (refused why))
    (λ d. writes told_accepted (front_untouched x b (leb-true (length x) (length b) (passed d.0))))

pub page_kept : (s : Settings) (t : List ℕ) (k : ℕ) (b : List ℕ)
    → Kept (length (page_text (records s t) k)) b Accepted (answering of_page (page_call s t k b))
unfolding page_call
page_kept s t k b =
    let x : List ℕ = page_text (records s t) k in
    by_dues (λ choose.
    Kept (length x) b Accepted
    (answering of_page
    (choose (Reply (Result ℕ Refusal)) (λ why. reply (Err why) b) (reply (Ok (length x)) (x ++ drop (length x) b)))))
    (
    settings_due s
    ∷ short_due s (length t)
    ∷ width_due s
    ∷ due (not (leb page_room (length b))) refusal.Output
    ∷ damage_due s t
    ∷ page_due s t k
    ∷ []
    )
    (λ why. stays (refused why))
    (λ d.
    let fits = page_fits s t (legal_means s (passed d.0)) k in
    let room = leb-true page_room (length b) (passed d.1.1.1.0) in
    writes told_accepted (front_untouched x b (omega arith)))
