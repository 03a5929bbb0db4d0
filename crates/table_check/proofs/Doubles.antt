-- No entry twice in a list: in slots and in the blocks that follow them, one by one.
use mathlib.Core.Path.{◌≡◌, refl, sym, ◌∙◌}
use mathlib.Core.Bool.{Bool, true, false, cond, ◌&&◌}
use mathlib.Core.List.{List, [], ◌∷◌, ◌++◌}
use mathlib.Core.Option.{Option, none, some}
use Prim.Native.Nat.{ℕ, zero, suc, ◌≤◌, ◌<◌, min}
use native.Mathlib.Omega.{arith}
use lib.ListN.{length, get_or, take}
use lib.Dec.{eqb, ltb, leb-suc-suc}
use borrow.Author.Tests.{eq-eqb, ne_eqb, lt-ltb, le-ltb, ltb-true}
use Rattle.laws.specs.Folds.{every_below}
use Rattle.laws.specs.Cases.{cases, both_true, never, iff, true_both}
use Rattle.laws.specs.Tests.{below_at, below_all}
use Rattle.laws.specs.Options.{nothing}
use Rattle.keys.specs.declared.BlockNumber.{BlockNumber}
use Rattle.settings.specs.declared.layout.Layout.{Layout}
use Rattle.table.specs.State.{Overflow, overflow_at, entry_of}
use Rattle.table.specs.Find.{position}
use Rattle.table.specs.Follow.{cons?, follow, gather, go_on, step_at}
use Rattle.table.specs.Check.{has_entry, no_entry_twice}
use Rattle.table.specs.theory.Every.{has_at, has_none}
use Rattle.table_check.specs.Entries.{slots_from, alone, slots_after}
use Rattle.table.specs.theory.Ways.{Way, ends, goes, breaks, way}
use Rattle.table.specs.declared.step.Step.{Step}
use Rattle.table.specs.declared.step.Step.TheVariants.{Last, Further, Damage}

-- ---- an entry in slots

module _ (g : Layout) (e : ℕ) where
  pub held_position : (xs : List ℕ) → has_entry g e xs ≡ ltb (position g e xs) (length xs)
  unfolding position
  held_position [] = sym (le-ltb 0 0 (omega arith))
  held_position (x ∷ xs) =
      cases (eqb (entry_of g x) e)
      (λ p. rw p (sym (lt-ltb 0 (suc (length xs)) (omega arith))))
      (λ p. rw p (held_position xs ∙ sym (leb-suc-suc (suc (position g e xs)) (length xs))))

  pub held_left : (xs ys : List ℕ) → has_entry g e xs ≡ true → has_entry g e (xs ++ ys) ≡ true
  held_left [] ys = λ h. never h
  held_left (x ∷ xs) ys = cases (eqb (entry_of g x) e) (λ p. rw p (λ h. refl)) (λ p. rw p (held_left xs ys))

  pub held_right : (xs ys : List ℕ) → has_entry g e xs ≡ false → has_entry g e (xs ++ ys) ≡ has_entry g e ys
  held_right [] ys = λ h. refl
  held_right (x ∷ xs) ys = cases (eqb (entry_of g x) e) (λ p. rw p (λ h. never (sym h))) (λ p. rw p (held_right xs ys))

  -- the entry stands in slot i, and in none of the first j slots
  pub position_at : (xs : List ℕ) (i : ℕ) → i < length xs → entry_of g (get_or xs i 0) ≡ e → position g e xs ≤ i
  unfolding position
  position_at [] i h q = omega arith
  position_at (x ∷ xs) zero h q = rw (eq-eqb (entry_of g x) e q) (omega arith)
  position_at (x ∷ xs) (suc i) h q =
      cases (eqb (entry_of g x) e)
      (λ p. rw p (omega arith))
      (λ p. rw p (omega (arith, position_at xs i (omega arith) q)))

  pub position_from : (xs : List ℕ) (j : ℕ) → j ≤ length xs → ((i : ℕ) → i < j → entry_of g (get_or xs i 0) ≡ e → ⊥) → j ≤ position g e xs
  unfolding position
  position_from [] j h f = h
  position_from (x ∷ xs) zero h f = omega arith
  position_from (x ∷ xs) (suc j) h f =
      rw (ne_eqb (entry_of g x) e (f 0 (omega arith))) (omega (arith, position_from xs j (omega arith) (λ i l. f (suc i) (omega arith))))

-- ---- slots, each with an entry that stands neither before it nor in ys

module _ (g : Layout) (ys : List ℕ) where
  alone_first : (x : ℕ) (xs : List ℕ) → alone g (x ∷ xs) ys 0 ≡ cond (has_entry g (entry_of g x) ys) false true
  unfolding alone
  alone_first x xs = rw (le-ltb (position g (entry_of g x) (x ∷ xs)) 0 (omega arith))

  alone_met : (x : ℕ) (xs : List ℕ) (i : ℕ) → entry_of g x ≡ entry_of g (get_or xs i 0) → alone g (x ∷ xs) ys (suc i) ≡ false
  unfolding alone position
  alone_met x xs i e =
      rw (eq-eqb (entry_of g x) (entry_of g (get_or xs i 0)) e, lt-ltb 0 (suc i) (omega arith))

  alone_rest : (x : ℕ) (xs : List ℕ) (i : ℕ) → (entry_of g x ≡ entry_of g (get_or xs i 0) → ⊥) → alone g (x ∷ xs) ys (suc i) ≡ alone g xs ys i
  unfolding alone position
  alone_rest x xs i f =
      rw (ne_eqb (entry_of g x) (entry_of g (get_or xs i 0)) f, leb-suc-suc (suc (position g (entry_of g (get_or xs i 0)) xs)) i)

  cond_not : (q r : Bool) → cond q false r ≡ true → (q ≡ false) × (r ≡ true)
  cond_not true r e = never e
  cond_not false r e = (refl, e)

  held_none : (e : ℕ) (xs : List ℕ) → has_entry g e (xs ++ ys) ≡ false → (has_entry g e xs ≡ false) × (has_entry g e ys ≡ false)
  held_none e xs h =
      cases (has_entry g e xs)
      (λ p. never (sym h ∙ held_left g e xs ys p))
      (λ p. (p, sym (held_right g e xs ys p) ∙ h))

  apart_then : (xs : List ℕ) → no_entry_twice g (xs ++ ys) ≡ true → every_below (length xs) (alone g xs ys) && no_entry_twice g ys ≡ true
  apart_then [] h = h
  apart_then (x ∷ xs) h =
      let a = cond_not (has_entry g (entry_of g x) (xs ++ ys)) (no_entry_twice g (xs ++ ys)) h in
      let n = held_none (entry_of g x) xs a.0 in
      let r = both_true (every_below (length xs) (alone g xs ys)) (no_entry_twice g ys) (apart_then xs a.1) in
      true_both
      (true_both
      (alone_first x xs ∙ rw n.1)
      (below_all (length xs) (λ i. alone g (x ∷ xs) ys (suc i))
      (λ i l. alone_rest x xs i (λ q. has_at g (entry_of g x) xs i n.0 l (sym q)) ∙ below_at (length xs) (alone g xs ys) r.0 i l)))
      r.1

  apart_if : (xs : List ℕ) → every_below (length xs) (alone g xs ys) && no_entry_twice g ys ≡ true → no_entry_twice g (xs ++ ys) ≡ true
  apart_if [] h = h
  apart_if (x ∷ xs) h =
      let a = both_true (every_below (suc (length xs)) (alone g (x ∷ xs) ys)) (no_entry_twice g ys) h in
      let b = both_true (alone g (x ∷ xs) ys 0) (every_below (length xs) (λ i. alone g (x ∷ xs) ys (suc i))) a.0 in
      let f : (i : ℕ) → i < length xs → entry_of g x ≡ entry_of g (get_or xs i 0) → ⊥ =
      λ i l q. let z : false ≡ true = sym (alone_met x xs i q) ∙ below_at (length xs) (λ j. alone g (x ∷ xs) ys (suc j)) b.1 i l in never z in
      let n : has_entry g (entry_of g x) xs ≡ false = has_none g (entry_of g x) xs (λ i l q. f i l (sym q)) in
      let m : has_entry g (entry_of g x) ys ≡ false = (cond_not (has_entry g (entry_of g x) ys) true (sym (alone_first x xs) ∙ b.0)).0 in
      rw (held_right g (entry_of g x) xs ys n, m)
      (apart_if xs
      (true_both
      (below_all (length xs) (alone g xs ys)
      (λ i l. sym (alone_rest x xs i (f i l)) ∙ below_at (length xs) (λ j. alone g (x ∷ xs) ys (suc j)) b.1 i l))
      a.1))

  pub apart_both : (xs : List ℕ) → (every_below (length xs) (alone g xs ys) && no_entry_twice g ys) ≡ no_entry_twice g (xs ++ ys)
  apart_both xs = iff (every_below (length xs) (alone g xs ys) && no_entry_twice g ys) (no_entry_twice g (xs ++ ys)) (apart_if xs) (apart_then xs)

-- ---- the slots of blocks, one block after the other

module _ (g : Layout) (os : List Overflow) where
  pub slots_out : (n b : ℕ) → n ≡ 0 → slots_from g n os b ≡ []
  unfolding slots_from
  slots_out n b h = rw h

  pub slots_high : (n b : ℕ) → g.nob ≤ b → slots_from g n os b ≡ []
  unfolding slots_from
  slots_high zero b h = refl
  slots_high (suc n) b h = rw (le-ltb b g.nob h)

  pub slots_on : (n k b : ℕ) → n ≡ suc k → b < g.nob
      → slots_from g n os b ≡ take (suc (min (overflow_at os b).counter g.sio)) (overflow_at os b).slots ++ slots_after g k os (step_at g os b)
  unfolding slots_from slots_after
  slots_on n k b h l = rw h (rw (lt-ltb b g.nob l))

  -- a step leads to a block, or to none
  pub after_further : (n : ℕ) (s : Step) (c : BlockNumber) → s ≡ Further c → slots_after g n os s ≡ slots_from g n os c.0
  unfolding slots_after
  after_further n s c e = rw e

  pub after_none : (n : ℕ) (s : Step) → ((c : BlockNumber) → s ≡ Further c → ⊥) → slots_after g n os s ≡ []
  unfolding slots_after
  after_none n Last f = refl
  after_none n (Further c) f = absurd (f c refl)
  after_none n Damage f = refl

  gather_on : (b : ℕ) (bs : List ℕ) (slots : List ℕ) (o : Option (List ℕ)) → (overflow_at os b).counter ≡ g.sio
      → ((cs : List ℕ) → o ≡ some cs → slots ≡ gather g os cs) → cons? b o ≡ some bs
      → take (suc (min (overflow_at os b).counter g.sio)) (overflow_at os b).slots ++ slots ≡ gather g os bs
  gather_on b bs slots none h f e = nothing e
  gather_on b bs slots (some cs) h f e =
      let q : bs ≡ b ∷ cs = cc in
      let m : min (overflow_at os b).counter g.sio ≡ (overflow_at os b).counter = omega arith in
      rw (q, m, f cs refl)

  step_gather : (n b : ℕ) (bs : List ℕ) → ((c : ℕ) (cs : List ℕ) → follow g n os c ≡ some cs → slots_from g n os c ≡ gather g os cs)
      → (s : Step) → Way g.sio (overflow_at os b).counter (overflow_at os b).link s → go_on s (b ∷ []) (λ c. cons? b (follow g n os c)) ≡ some bs
      → take (suc (min (overflow_at os b).counter g.sio)) (overflow_at os b).slots ++ slots_after g n os s ≡ gather g os bs
  unfolding slots_after
  step_gather n b bs ih Last (ends l) e =
      let m : min (overflow_at os b).counter g.sio ≡ (overflow_at os b).counter = omega arith in
      let w : bs ≡ b ∷ [] = cc in
      rw (m, w)
  step_gather n b bs ih (Further c) (goes z) e =
      gather_on b bs (slots_from g n os (overflow_at os b).link) (follow g n os (overflow_at os b).link) z (ih (overflow_at os b).link) e
  step_gather n b bs ih Damage (breaks l) e = nothing e

  -- where following them meets no damage, they are the slots that are gathered
  pub slots_gather : (n b : ℕ) (bs : List ℕ) → follow g n os b ≡ some bs → slots_from g n os b ≡ gather g os bs
  slots_gather zero b bs = λ e. nothing e
  slots_gather (suc n) b bs =
      cases (ltb b g.nob)
      (λ p. rw p (λ e.
      slots_on (suc n) n b refl (ltb-true b g.nob p)
      ∙ step_gather n b bs (slots_gather n) (step_at g os b) (way g.sio (overflow_at os b).counter (overflow_at os b).link) e))
      (λ p. rw p (λ e. nothing e))
