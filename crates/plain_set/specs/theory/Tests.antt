-- The parts of check's test: what holds of each element, no entry twice by counting, and the blocks and slots of all lists.
use Rattle.std.specs.Prelude.{◌≡◌, refl, true, false, List, [], ◌∷◌, ℕ, zero, suc, ◌<◌, length, get_or, eqb}
use Rattle.std.proofs.Common.{sym, ap, subst, arith, eq-eqb, eqb-true}
use Rattle.std.proofs.Math.Option.{Option}
use Rattle.laws.specs.Folds.{sum_below}
use Rattle.laws.specs.Cases.{cases, never}
use Rattle.settings.specs.declared.layout.Layout.{Layout}
use Rattle.table.specs.Arrays.{tabulate}
use Rattle.table.specs.State.{State, entry_of}
use Rattle.table.specs.Follow.{Content, content}
use Rattle.table.specs.Take.{occurs}
use Rattle.plain_set.specs.Rebuilt.{slots_of}
use Rattle.table.specs.Check.{blocks_of, has_entry, no_entry_twice, occurs_in_lists}
use Rattle.table.specs.theory.Arrays.{length_tab, get_or_tab}
use Rattle.plain_set.specs.theory.Count.{one, sum}
use Rattle.plain_set.specs.theory.Rep.{entries, Single}

module _ (g : Layout) where
  has_entry_none : (e : ℕ) (es : List ℕ) → has_entry g e es ≡ false → entries g e es ≡ 0
  has_entry_none e [] = λ h. refl
  has_entry_none e (x ∷ es) =
      cases (eqb (entry_of g x) e)
      (λ q. rw q (λ h. never (sym h)))
      (λ q. rw q (λ h. omega (arith, has_entry_none e es h)))

  none_has_entry : (e : ℕ) (es : List ℕ) → entries g e es ≡ 0 → has_entry g e es ≡ false
  none_has_entry e [] = λ h. refl
  none_has_entry e (x ∷ es) =
      cases (eqb (entry_of g x) e)
      (λ q. rw q (λ h. absurd (omega arith)))
      (λ q. rw q (λ h. none_has_entry e es (omega arith)))

  -- no entry twice in a list: the test, and every entry at most once
  pub once_single : (es : List ℕ) → no_entry_twice g es ≡ true → Single g es
  once_single [] = λ h e. omega arith
  once_single (x ∷ es) =
      cases (has_entry g (entry_of g x) es)
      (λ q. rw q (λ h. never h))
      (λ q. rw q (λ h e.
      cases (eqb (entry_of g x) e)
      (λ p.
      let z : entries g e es ≡ 0 = subst (λ (n : ℕ). entries g n es ≡ 0) (eqb-true (entry_of g x) e p) (has_entry_none (entry_of g x) es q) in
      omega (arith, ap one p))
      (λ p. omega (arith, ap one p, once_single es h e))))

  pub single_once : (es : List ℕ) → Single g es → no_entry_twice g es ≡ true
  single_once [] h = refl
  single_once (x ∷ es) h =
      let z : entries g (entry_of g x) es ≡ 0 = omega (arith, h (entry_of g x), ap one (eq-eqb (entry_of g x) (entry_of g x) refl)) in
      rw (none_has_entry (entry_of g x) es z) (single_once es (λ e. omega (arith, h e)))

  -- each list, followed to its end: what f makes of it
  abbrev pub each_list : {A : Type 0} → (Option Content → A) → State → List A
  each_list f st = tabulate g.lists (λ i. f (content g st i))

  pub get_or_each : {A : Type 0} (f : Option Content → A) (st : State) (i : ℕ) (d : A) → i < g.lists
      → get_or (each_list f st) i d ≡ f (content g st i)
  get_or_each f st i d h = get_or_tab g.lists (λ i. f (content g st i)) i d h

  pub length_each : {A : Type 0} (f : Option Content → A) (st : State) → length (each_list f st) ≡ g.lists
  length_each f st = length_tab g.lists (λ i. f (content g st i))

  -- the overflow blocks and the slots of all lists
  abbrev pub all_blocks : State → List (List ℕ)
  all_blocks = each_list blocks_of

  abbrev pub all_slots : State → List (List ℕ)
  all_slots = each_list slots_of

  pub occurs_in_lists_sum : (j : ℕ) (st : State) → occurs_in_lists g j st ≡ sum (occurs j) (all_blocks st)
  occurs_in_lists_sum j st = sum_below_tab g.lists (occurs j) (λ i. blocks_of (content g st i))
    where
      sum_below_tab : (n : ℕ) (f : List ℕ → ℕ) (h : ℕ → List ℕ) → sum_below n (λ i. f (h i)) ≡ sum f (tabulate n h)
      sum_below_tab zero f h = refl
      sum_below_tab (suc n) f h = omega (arith, sum_below_tab n f (λ i. h (suc i)))
