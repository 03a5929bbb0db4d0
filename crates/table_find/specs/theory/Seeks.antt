-- What holds once a table is opened for a key, and what a call with the key comes to then.
use Rattle.std.specs.Prelude.{◌≡◌, true, List, [], ◌∷◌, ℕ, ◌^◌, ◌≤◌, ◌<◌, length, leb, ltb, Err, Ok}
use Rattle.std.proofs.Math.Path.{sym, ap}
use Rattle.std.proofs.Common.{◌∙◌, arith}
use borrow.Author.Tests.{le-leb, lt-ltb}
use Rattle.settings.specs.declared.settings.Settings.{Settings}
use Rattle.settings.specs.declared.refusal.Refusal.{Refusal}
use Rattle.settings.specs.declared.layout.Layout.{Layout}
use Rattle.settings.specs.Sizes.{table_bytes}
use Rattle.settings.specs.Legal.{legal}
use Rattle.settings.specs.Layout.{layout_of}
use Rattle.settings.specs.Made.{laid_of}
use Rattle.settings.specs.Due.{settings_due, short_due, key_due}
use Rattle.settings.specs.theory.Dues.{by_dues, passed}
use Rattle.settings.specs.theory.Legal.{laid_refused}
use Rattle.table.specs.theory.Opened.{due_settings}
use Rattle.settings.specs.Reply.{Reply, reply, called}
use Rattle.keys.specs.declared.Key.{Key}
use Rattle.keys.specs.Key.{key_number, list_number, entry}
use Rattle.table.specs.Done.{replied}
use Rattle.table.specs.Calls.{Verb, find, list_call, verb_due, held, key_call}
use Rattle.table_find.specs.Seek.{open_of, sought_of}
use Rattle.std.specs.declared.result.Result.{Result}
use Rattle.table.specs.Answer.{Answer}

-- none of refusals 1, 2 and 5 is due, and g is the layout
pub record Opened (s : Settings) (n : ℕ) (k : Key) (g : Layout) : Type 0 where
  pub lawful : legal s ≡ true
  pub layout : layout_of s ≡ g
  pub long : leb (table_bytes s) n ≡ true
  pub low : ltb (key_number k) (2 ^ s.w) ≡ true

-- refused and not refused
refused_laid : {X : Type 0} (why : Refusal) (g : Layout) → Err why ≡ Ok g → X
refused_laid why g e = absurd (let z : ◌≡◌ {A = ℕ} 0 1 = cc in omega arith)

laid_layout : (g h : Layout) → ◌≡◌ {A = Result Layout Refusal} (Ok g) (Ok h) → g ≡ h
laid_layout g h e = cc

laid_why : (why r : Refusal) → ◌≡◌ {A = Result Layout Refusal} (Err why) (Err r) → why ≡ r
laid_why why r e = cc

module _ (s : Settings) (k : Key) where
  pub open_means : (n : ℕ) (g : Layout) → open_of s n k ≡ Ok g → Opened s n k g
  unfolding open_of
  open_means n g =
      by_dues (λ choose. choose (Result Layout Refusal) Err (Ok (layout_of s)) ≡ Ok g → Opened s n k g)
      (settings_due s ∷ short_due s n ∷ key_due s (key_number k) ∷ [])
      (λ why e. refused_laid why g e)
      (λ d e. record { lawful = passed d.0; layout = laid_layout (layout_of s) g e; long = passed d.1.0; low = passed d.1.1.0 })

  -- 1: the settings are not legal
  pub open_illegal : (n : ℕ) (why : Refusal) → laid_of s ≡ Err why → open_of s n k ≡ Err why
  unfolding open_of
  open_illegal n why e =
      let q = laid_refused s why e in
      due_settings Err s n (key_due s (key_number k) ∷ []) (Ok (layout_of s)) q.0 ∙ ap Err q.1

  pub open_if : (n : ℕ) → legal s ≡ true → table_bytes s ≤ n → key_number k < 2 ^ s.w → open_of s n k ≡ Ok (layout_of s)
  unfolding open_of
  open_if n a b c = rw (a, le-leb (table_bytes s) n b, lt-ltb (key_number k) (2 ^ s.w) c)

  module _ (t : List ℕ) (v : Verb) where
    -- a call on a table that cannot be opened for its key is refused
    pub open_refused : (why : Refusal) → open_of s (length t) k ≡ Err why → key_call s t v k ≡ reply (Err why) t
    unfolding open_of key_call
    open_refused why =
        by_dues (λ choose.
        choose (Result Layout Refusal) Err (Ok (layout_of s)) ≡ Err why
        → choose (Reply Answer) (λ r. reply (Err r) t)
        (called Err t (verb_due s v)
        (replied (layout_of s) t (list_call (layout_of s) (held s t) (list_number s (key_number k)) (entry s (key_number k)) v)))
        ≡ reply (Err why) t)
        (settings_due s ∷ short_due s (length t) ∷ key_due s (key_number k) ∷ [])
        (λ r e. ap (λ (q : Refusal). reply (Err q) t) (laid_why r why e))
        (λ d e. refused_laid why (layout_of s) (sym e))

    -- else only a label can be refused before the list is looked at
    pub open_call : {g : Layout} → Opened s (length t) k g
        → key_call s t v k
        ≡ called Err t (verb_due s v)
        (replied (layout_of s) t (list_call (layout_of s) (held s t) (list_number s (key_number k)) (entry s (key_number k)) v))
    unfolding key_call
    open_call o = rw (o.lawful, o.long, o.low)

  -- what is found in a table that is opened is what find answers
  pub found_call : (t : List ℕ) {g : Layout} → open_of s (length t) k ≡ Ok g → (sought_of s t k).found ≡ (key_call s t find k).answer
  unfolding sought_of list_call
  found_call t {g} e = sym (ap (λ (o : Reply Answer). o.answer) (open_call t find (open_means (length t) g e)))
