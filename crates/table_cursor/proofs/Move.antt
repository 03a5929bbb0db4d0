-- What is ahead of a cursor: at a slot of its run, at the run's end, and some slots on.
use mathlib.Core.Path.{◌≡◌, refl, sym, ap, ap₂, ◌∙◌}
use mathlib.Core.List.{List, [], ◌∷◌, ◌++◌}
use Prim.Native.Nat.{ℕ, suc, ◌≤◌, ◌<◌}
use native.Mathlib.Omega.{arith}
use native.Mathlib.Nat.{mod-lt}
use lib.ListN.{length, get_or, drop_of_length-le}
use lib.Seq.{drop-cons}
use lib.Pow.{pow_pos}
use Rattle.settings.specs.Proper.{Proper}
use Rattle.settings.specs.Layout.{layout_of}
use Rattle.settings.specs.declared.settings.Settings.{Settings}
use Rattle.std.specs.Prelude.{Option, Some, None}
use Rattle.table_cursor.specs.declared.places.Next.{Next}
use Rattle.settings.specs.declared.layout.Layout.{Layout}
use Rattle.keys.specs.Key.{key_number, key_of, rebuilt}
use Rattle.keys.specs.theory.Keys.{number_key}
use Rattle.keys.specs.declared.Key.{Key}
use Rattle.keys.specs.declared.BlockNumber.{BlockNumber}
use Rattle.table.specs.State.{Overflow, entry_of, label_of}
use Rattle.table.specs.Decode.{decode}
use Rattle.table.specs.Follow.{content}
use Rattle.table.specs.declared.step.Step.{Step}
use Rattle.table.specs.declared.step.Step.TheVariants as step
use Rattle.table_read.specs.Steps.{slots_in, gather_from}
use Rattle.table_read.specs.theory.Reads.{slots_length, entry_bound}
use Rattle.plain_set.specs.Rebuilt.{Pair, pair, slots_of, pairs_of}
use Rattle.table_cursor.specs.Ahead.{gather_behind, slots_ahead, pairs_from, ahead, Good, Gives, Ends, Answers}
use Rattle.table_cursor.specs.Steps.{Begins, pairs_behind, Reaches}
use Rattle.table_cursor.specs.theory.Pairs.{pairs_on_lem, pairs_end}
use Rattle.table_cursor.specs.declared.places.Cursor.{Cursor}
use Rattle.table_cursor.specs.declared.places.Next.{Next}
use Rattle.table_cursor.proofs.Begin.{cursor}

-- a step that is no further one leads to no slots
pub none_behind : (g : Layout) (os : List Overflow) (n : Step) → ((b : BlockNumber) → n ≡ step.Further b → ⊥) → gather_behind g os n ≡ []
none_behind g os (step.Further b) p = absurd (p b refl)
none_behind g os step.Last p = refl
none_behind g os step.Damage p = refl

module _ (g : Layout) (t : List ℕ) where
  module _ (s : Settings) (laid : layout_of s ≡ g) where
    pub ahead_as : (c : Cursor) → ahead s t c ≡ pairs_of s c.list.0 (slots_ahead g t c) ++ pairs_from s t (suc c.list.0)
    unfolding ahead
    ahead_as c = ap (λ (x : Layout). pairs_of s c.list.0 (slots_ahead x t c) ++ pairs_from s t (suc c.list.0)) laid

    -- at the start of some slots of list i, these and the lists behind it
    ahead_begins : (i : ℕ) (es : List ℕ) (c : Cursor) → Begins g t i es c → ahead s t c ≡ pairs_of s i es ++ pairs_from s t (suc i)
    ahead_begins i es c B =
        ahead_as c
        ∙ ap₂ (λ (n : ℕ) (xs : List ℕ). pairs_of s n xs ++ pairs_from s t (suc n)) B.list B.slots

  -- ---- what is answered: of the same pairs the same

  pub gives_same : (ps qs : Settings → List Pair) → ((s : Settings) → layout_of s ≡ g → ps s ≡ qs s) → (r : Next) → Gives g t qs r → Gives g t ps r
  gives_same ps qs e r A =
      record { list = A.list; entry = A.entry; label = A.label; good = A.good; are = λ s h. e s h ∙ A.are s h }

  pub answers_same : (ps qs : Settings → List Pair) → ((s : Settings) → layout_of s ≡ g → ps s ≡ qs s) → (r : Option Next) → Answers g t qs r → Answers g t ps r
  answers_same ps qs e (Some r) A =
      record { list = A.list; entry = A.entry; label = A.label; good = A.good; are = λ s h. e s h ∙ A.are s h }
  answers_same ps qs e None A = record { are = λ s h. e s h ∙ A.are s h }

  pub reaches_same : (ps qs : Settings → List Pair) → ((s : Settings) → layout_of s ≡ g → ps s ≡ qs s) → (c : Cursor) → Reaches g t qs c → Reaches g t ps c
  reaches_same ps qs e c R =
      record { good = R.good; are = λ h s l. e s l ∙ R.are h s l; none = λ h. record { are = λ s l. e s l ∙ (R.none h).are s l } }

  -- where there are pairs, and where there are none
  pub reaches_at : (ps : Settings → List Pair) (c : Cursor) → Good g t c → c.passed < c.run.count
      → ((s : Settings) → layout_of s ≡ g → ps s ≡ ahead s t c) → Reaches g t ps c
  reaches_at ps c G l e = record { good = λ h. G; are = λ h. e; none = λ h. absurd (omega arith) }

  pub reaches_end : (ps : Settings → List Pair) (c : Cursor) → c.run.count ≤ c.passed → Ends g t ps → Reaches g t ps c
  reaches_end ps c l E = record { good = λ h. absurd (omega arith); are = λ h. absurd (omega arith); none = λ h. E }

  -- ---- at a slot of the run

  module _ (F : Proper g) (c : Cursor) (G : Good g t c) (l : c.passed < c.run.count) where
    abbrev slot : ℕ
    slot = get_or (slots_in g t c.run) c.passed 0

    slots_taken : slots_ahead g t c ≡ slot ∷ slots_ahead g t (cursor c.list (suc c.passed) c.run c.behind)
    unfolding slots_ahead
    slots_taken =
        ap (◌++ gather_behind g (decode g t).overflow c.behind)
        (drop-cons (slots_in g t c.run) c.passed 0 (omega (arith, slots_length g t c.run)))

    pub gives_slot : (k : Key) (m n : ℕ) → k ≡ key_of (entry_of g slot) → m ≡ label_of g slot → n ≡ suc c.passed
        → Gives g t (λ s. ahead s t c) (record { list = c.list; entry = k; label = m; cursor = cursor c.list n c.run c.behind })
    gives_slot k m n ek em en =
        record {
          list = G.list;
          entry = entry_bound g t c.run F c.passed l k ek;
          label = rw em (mod-lt slot (pow_pos g.val));
          good = record { list = G.list; run = G.run; behind = G.behind };
          are = pairs;
        }
      where
        pairs : (s : Settings) → layout_of s ≡ g
            → ahead s t c ≡ pair (rebuilt s c.list.0 (key_number k)) m ∷ ahead s t (cursor c.list n c.run c.behind)
        pairs s e =
            let d : Cursor = cursor c.list n c.run c.behind in
            let a : key_number k ≡ entry_of g slot = ap key_number ek ∙ number_key (entry_of g slot) in
            let w : slots_ahead g t c ≡ slot ∷ slots_ahead g t d =
            slots_taken ∙ ap (λ (x : ℕ). slot ∷ slots_ahead g t (cursor c.list x c.run c.behind)) (sym en) in
            ahead_as s e c
            ∙ ap (λ (xs : List ℕ). pairs_of s c.list.0 xs ++ pairs_from s t (suc c.list.0)) w
            ∙ ap₂ (λ (x : Pair) (ps : List Pair). x ∷ ps)
            (ap (λ (x : Layout). pair (rebuilt s c.list.0 (entry_of x slot)) (label_of x slot)) e
            ∙ ap₂ (λ (x y : ℕ). pair (rebuilt s c.list.0 x) y) (sym a) (sym em))
            (sym (ahead_as s e d))

  -- ---- at the end of the run

  module _ (c : Cursor) (over : c.run.count ≤ c.passed) where
    slots_over : slots_ahead g t c ≡ gather_behind g (decode g t).overflow c.behind
    unfolding slots_ahead
    slots_over =
        let h : length (slots_in g t c.run) ≤ c.passed = omega (arith, slots_length g t c.run) in
        ap (◌++ gather_behind g (decode g t).overflow c.behind) (drop_of_length-le (slots_in g t c.run) h)

    pub ahead_behind : (s : Settings) → layout_of s ≡ g → ahead s t c ≡ pairs_behind s g t c.list.0 c.behind
    unfolding pairs_behind
    ahead_behind s e =
        ahead_as s e c
        ∙ ap (λ (xs : List ℕ). pairs_of s c.list.0 xs ++ pairs_from s t (suc c.list.0)) slots_over

  -- behind it, those of the next block
  pub behind_block : (i : ℕ) (n : Step) (d : Cursor) → (b : BlockNumber) → n ≡ step.Further b
      → Begins g t i (gather_from g g.nob (decode g t).overflow b.0) d → (s : Settings) → layout_of s ≡ g → pairs_behind s g t i n ≡ ahead s t d
  unfolding pairs_behind
  behind_block i n d b f B s e =
      ap (λ (m : Step). pairs_of s i (gather_behind g (decode g t).overflow m) ++ pairs_from s t (suc i)) f
      ∙ sym (ahead_begins s e i (gather_from g g.nob (decode g t).overflow b.0) d B)

  -- there is none: those of the next list
  pub behind_list : (i : ℕ) (n : Step) → gather_behind g (decode g t).overflow n ≡ [] → (m : ℕ) → m ≡ suc i → (s : Settings)
      → pairs_behind s g t i n ≡ pairs_from s t m
  unfolding pairs_behind
  behind_list i n h m em s =
      ap (λ (xs : List ℕ). pairs_of s i xs ++ pairs_from s t (suc i)) h
      ∙ ap (pairs_from s t) (sym em)

  -- ---- at the start of a list

  -- its cursor has the pairs from that list on
  pub pairs_begins : (i : ℕ) → i < g.lists → (c : Cursor) → Begins g t i (slots_of (content g (decode g t) i)) c
      → (s : Settings) → layout_of s ≡ g → pairs_from s t i ≡ ahead s t c
  pairs_begins i h c B s e = pairs_on_lem g t s e i h ∙ sym (ahead_begins s e i (slots_of (content g (decode g t) i)) c B)

  -- a list with an empty run has no pairs
  pub pairs_empty : (i : ℕ) → i < g.lists → (c : Cursor) → Begins g t i (slots_of (content g (decode g t) i)) c → c.run.count ≡ 0
      → (n : ℕ) → n ≡ suc i → (s : Settings) → layout_of s ≡ g → pairs_from s t i ≡ pairs_from s t n
  pairs_empty i h c B z n en s e =
      pairs_on_lem g t s e i h
      ∙ ap (λ (xs : List ℕ). pairs_of s i xs ++ pairs_from s t (suc i)) (B.empty z)
      ∙ ap (pairs_from s t) (sym en)

  pub pairs_over : (i : ℕ) → g.lists ≤ i → Ends g t (λ s. pairs_from s t i)
  pairs_over i h = record { are = λ s e. pairs_end g t s e i h }
