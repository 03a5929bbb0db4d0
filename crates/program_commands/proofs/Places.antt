-- Where a byte stands first, and where the space before a label can stand.
use mathlib.Core.Path.{◌≡◌, sym, ap, ◌∙◌}
use mathlib.Core.Bool.{true, false}
use mathlib.Core.List.{List, [], ◌∷◌, ◌++◌}
use Prim.Native.Nat.{ℕ, zero, suc, ◌+◌, ◌-◌, ◌≤◌, ◌<◌, min}
use native.Mathlib.Nat.{zero-add}
use native.Mathlib.Omega.{arith}
use lib.ListN.{length, get_or, take, drop, length-take, length-drop}
use lib.Seq.{get_or-drop, drop-drop, split_at}
use lib.Dec.{eqb, ltb}
use borrow.Author.Tests.{eqb-true, eq-eqb, ne_eqb, ltb-true, ltb-false, lt-ltb, le-ltb}
use Rattle.laws.specs.Cases.{cases}
use Rattle.settings.specs.declared.refusal.Refusal.TheVariants as refusal
use Rattle.program_lines.specs.Ends.{before, first_from}
use Rattle.program_commands.specs.Fields.{space}
use Rattle.program_commands.specs.Steps.{label_room, spaceless, address_in, unread_for}

module _ (b : ℕ) where
  -- at the first b stands b
  before_at : (s : List ℕ) → before b s < length s → get_or s (before b s) 0 ≡ b
  unfolding before
  before_at [] h = absurd (omega arith)
  before_at (x ∷ s) h =
      cases (eqb x b) (λ t. rw t (eqb-true x b t))
      (λ t. let k : suc (before b s) < suc (length s) = rw t at h in rw t (before_at s (omega arith)))

  -- past a front without b
  before_drop : (k : ℕ) (s : List ℕ) → k ≤ before b s → k + before b (drop k s) ≡ before b s
  unfolding before
  before_drop zero s h = zero-add (before b s)
  before_drop (suc k) [] h = absurd (omega arith)
  before_drop (suc k) (x ∷ s) h =
      cases (eqb x b) (λ t. let p : suc k ≤ 0 = rw t at h in absurd (omega arith))
      (λ t. let p : suc k ≤ suc (before b s) = rw t at h in rw t (omega (arith, before_drop k s (omega arith))))

  -- in a front
  before_take : (k : ℕ) (s : List ℕ) → before b (take k s) ≡ min k (before b s)
  unfolding before
  before_take zero s = omega arith
  before_take (suc k) [] = omega arith
  before_take (suc k) (x ∷ s) =
      cases (eqb x b) (λ t. rw t (omega arith)) (λ t. rw t (omega (arith, before_take k s)))

  pub first_at : (s : List ℕ) (at : ℕ) → first_from b s at < length s → get_or s (first_from b s at) 0 ≡ b
  unfolding first_from
  first_at s at h =
      sym (get_or-drop at s (before b (drop at s)) 0) ∙ before_at (drop at s) (omega (arith, length-drop at s))

  -- the first b from `at` on is also the first from any place up to it
  pub first_same : (s : List ℕ) (at k : ℕ) → at ≤ k → k ≤ first_from b s at → first_from b s k ≡ first_from b s at
  unfolding first_from
  first_same s at k h l =
      let e : at + (k - at) ≡ k = omega arith in
      let d : drop (k - at) (drop at s) ≡ drop k s = drop-drop (k - at) at s ∙ ap (λ (n : ℕ). drop n s) e in
      let p = before_drop (k - at) (drop at s) (omega arith) in
      omega (arith, rw d at p)

-- The address ----------------------------------------------------------------------------------------------------------

module _ (l : List ℕ) (e : ℕ) (low : 2 ≤ e) (high : e ≤ length l) where
  pub address_length : length (address_in l e) ≡ e - 2
  address_length = omega (arith, length-take (e - 2) (drop 2 l), length-drop 2 l)

  spaces : before space (address_in l e) ≡ min (e - 2) (before space (drop 2 l))
  spaces = before_take space (e - 2) (drop 2 l)

  -- it has no space if the line's first from 2 on does not precede its end
  pub address_spaceless : e ≤ first_from space l 2 → spaceless (address_in l e) ≡ true
  unfolding spaceless first_from
  address_spaceless h = eq-eqb (before space (address_in l e)) (length (address_in l e)) (omega (arith, address_length, spaces))

  pub address_space : first_from space l 2 < e → spaceless (address_in l e) ≡ false
  unfolding spaceless first_from
  address_space h = ne_eqb (before space (address_in l e)) (length (address_in l e)) (λ q. omega (arith, address_length, spaces))

  pub unread_line : first_from space l 2 < e → refusal.Line ≡ unread_for (address_in l e)
  unfolding unread_for
  unread_line h = rw (address_space h)

  pub unread_text : e ≤ first_from space l 2 → refusal.Text ≡ unread_for (address_in l e)
  unfolding unread_for
  unread_text h = rw (address_spaceless h)

-- what follows the first two bytes: an address, a space and a label
pub parted : (l : List ℕ) (e : ℕ) → 2 ≤ e → e < length l → get_or l e 0 ≡ space → drop 2 l ≡ address_in l e ++ space ∷ drop (e + 1) l
parted l e h k p =
    let a : 2 + (e - 2) ≡ e = omega arith in
    let b : 2 + suc (e - 2) ≡ e + 1 = omega arith in
    let g : get_or (drop 2 l) (e - 2) 0 ≡ space = get_or-drop 2 l (e - 2) 0 ∙ ap (λ (n : ℕ). get_or l n 0) a ∙ p in
    let d : drop (suc (e - 2)) (drop 2 l) ≡ drop (e + 1) l = drop-drop (suc (e - 2)) 2 l ∙ ap (λ (n : ℕ). drop n l) b in
    split_at (drop 2 l) (e - 2) 0 (omega (arith, length-drop 2 l)) ∙ rw (g, d)

-- The room of a label --------------------------------------------------------------------------------------------------

module _ (n : ℕ) where
  pub room_short : n < 6 → label_room n ≡ 2
  unfolding label_room
  room_short h = rw (lt-ltb n 6 h)

  pub room_long : 6 ≤ n → label_room n ≡ n - 4
  unfolding label_room
  room_long h = rw (le-ltb n 6 h)

-- k is one of the last four places of a line of n bytes, and the first of them if it is not 2
pub record Room (n k : ℕ) : Type 0 where
  pub low : 2 ≤ k
  pub high : k ≤ n
  pub near : n ≤ k + 4
  pub far : 2 < k → k + 4 ≤ n

pub room : (n : ℕ) → 3 ≤ n → Room n (label_room n)
room n h =
    cases (ltb n 6)
    (λ t. let l = ltb-true n 6 t in
    rw (room_short n l) (record { low = omega arith; high = omega arith; near = omega arith; far = λ q. absurd (omega arith) }))
    (λ t. let l = ltb-false n 6 t in
    rw (room_long n l) (record { low = omega arith; high = omega arith; near = omega arith; far = λ q. omega arith }))
