-- Laws of the walk with marks: its turns, and what it says of the blocks.
use mathlib.Core.Path.{◌≡◌, refl, ap, ◌∙◌}
use mathlib.Core.Logic.{◌⊎◌, inl, inr}
use mathlib.Core.Bool.{cond}
use mathlib.Core.List.{List, [], ◌∷◌}
use mathlib.Core.Option.{Option, none, some}
use Prim.Native.Nat.{ℕ, zero, suc, ◌+◌, ◌*◌, ◌≤◌, ◌<◌}
use native.Mathlib.Omega.{arith}
use native.Mathlib.Decide.{dec_le, ℕ_discrete}
use lib.ListN.{length}
use lib.Dec.{eqb, ltb}
use borrow.Author.Tests.{eq-eqb, ne_eqb, eqb-false, lt-ltb, le-ltb, ltb-true}
use Rattle.laws.specs.Cases.{cases}
use Rattle.laws.specs.Options.{nothing}
use Rattle.bits.specs.Field.{field}
use Rattle.bits.specs.Put.{put_field}
use Rattle.bits.specs.theory.Fields.{field_lt}
use Rattle.bits.specs.theory.Puts.{put_length, put_same, put_out}
use Rattle.settings.specs.declared.layout.Layout.{Layout}
use Rattle.table.specs.Follow.{cons?, go_on}
use Rattle.table.specs.Take.{occurs}
use Rattle.table_check.specs.Walk.{walk}
use Rattle.table.specs.declared.step.Step.{Step}
use Rattle.table.specs.declared.step.Step.TheVariants.{Last, Further, Damage}

-- ---- the turns of the walk

module _ (g : Layout) (step : ℕ → Step) where
  pub walk_out : (n b : ℕ) (m : List ℕ) → n ≡ 0 → walk g step n b m ≡ none
  unfolding walk
  walk_out n b m h = rw h

  pub walk_high : (n b : ℕ) (m : List ℕ) → g.nob ≤ b → walk g step n b m ≡ none
  unfolding walk
  walk_high zero b m h = refl
  walk_high (suc n) b m h = rw (le-ltb b g.nob h)

  pub walk_met : (n b : ℕ) (m : List ℕ) → field m b 1 ≡ 1 → walk g step n b m ≡ none
  unfolding walk
  walk_met zero b m h = refl
  walk_met (suc n) b m h = cases (ltb b g.nob) (λ p. rw (p, eq-eqb (field m b 1) 1 h)) (λ p. rw p)

  -- a turn, which leaves k more: r is the mark that was read, u the marks with the new one, s what the block says
  pub walk_on : (n k b : ℕ) (m u : List ℕ) (r : ℕ) (s : Step) → n ≡ suc k → b < g.nob → r ≡ field m b 1 → (r ≡ 1 → ⊥) → u ≡ put_field m b 1 1 → step b ≡ s
      → walk g step n b m ≡ go_on s u (λ c. walk g step k c u)
  unfolding walk
  walk_on n k b m u r s h l e f w q = rw (h, w) (rw (lt-ltb b g.nob l, ne_eqb (field m b 1) 1 (λ p. f (e ∙ p)), q))

-- ---- the blocks that a walk passes

-- the blocks from b on, at most n of them
abbrev pub blocks_on : ℕ → Step → (ℕ → Option (List ℕ)) → Option (List ℕ)
blocks_on b s on = go_on s (b ∷ []) (λ c. cons? b (on c))

module _ (g : Layout) (step : ℕ → Step) where
  unfoldable pub trail : ℕ → ℕ → Option (List ℕ)
  trail zero b = none
  trail (suc n) b = let on = blocks_on b (step b) (λ c. trail n c) in cond (ltb b g.nob) on none

-- each block's mark in m is how often it was counted
pub record Marks (nob : ℕ) (count : ℕ → ℕ) (m : List ℕ) : Type 0 where
  pub room : nob ≤ 8 * length m
  pub bit : (j : ℕ) → j < nob → field m j 1 ≡ count j

pub marks_as : (nob : ℕ) (c d : ℕ → ℕ) (m : List ℕ) → ((j : ℕ) → c j ≡ d j) → Marks nob c m → Marks nob d m
marks_as nob c d m e k = record { room = k.room; bit = λ j h. k.bit j h ∙ e j }

one_more : (nob : ℕ) (c : ℕ → ℕ) (m : List ℕ) (b : ℕ) → b < nob → (field m b 1 ≡ 1 → ⊥) → Marks nob c m
    → Marks nob (λ j. c j + occurs j (b ∷ [])) (put_field m b 1 1)
one_more nob c m b h f k =
    record {
      room = omega (arith, put_length m b 1 1, k.room);
      bit = λ j l. pick j l (ℕ_discrete j b);
    }
  where
    room : b + 1 ≤ 8 * length m
    room = omega (arith, k.room)

    zero_there : c b ≡ 0
    zero_there = omega (arith, field_lt m b 1, k.bit b h)

    pick : (j : ℕ) → j < nob → Dec (j ≡ b) → field (put_field m b 1 1) j 1 ≡ c j + occurs j (b ∷ [])
    pick j l (yes e) =
        rw (e, eq-eqb b b refl) (put_same m b 1 1 room (omega arith) ∙ omega (arith, zero_there))
    pick j l (no e) =
        rw (ne_eqb j b e)
        (put_out m b 1 1 j 1 room (pick_side (dec_le j b)) ∙ k.bit j l ∙ omega arith)
      where
        pick_side : Dec (j ≤ b) → (j + 1 ≤ b) ⊎ (b + 1 ≤ j)
        pick_side (yes q) = inl (omega arith)
        pick_side (no q) = inr (omega arith)

-- ---- a walk that comes to an end has marked the blocks of its trail

pub record Passed (nob : ℕ) (c : ℕ → ℕ) (after : List ℕ) (o : Option (List ℕ)) : Type 0 where
  pub blocks : List ℕ
  pub are : o ≡ some blocks
  pub marks : Marks nob (λ j. c j + occurs j blocks) after

module _ (nob : ℕ) (c : ℕ → ℕ) (b : ℕ) (u after : List ℕ) where
  passed_on : (s : Step) (on trace : ℕ → Option (List ℕ)) → Marks nob (λ j. c j + occurs j (b ∷ [])) u
      → ((k : ℕ) → on k ≡ some after → Passed nob (λ j. c j + occurs j (b ∷ [])) after (trace k))
      → go_on s u on ≡ some after → Passed nob c after (blocks_on b s trace)
  passed_on Last on trace k ih e =
      let q : u ≡ after = cc in
      record { blocks = b ∷ []; are = refl; marks = rw q at k }
  passed_on (Further x) on trace k ih e =
      let p = ih x.0 e in
      record {
        blocks = b ∷ p.blocks;
        are = ap (cons? b) p.are;
        marks = marks_as nob _ (λ j. c j + occurs j (b ∷ p.blocks)) after (λ j. omega arith) p.marks;
      }
  passed_on Damage on trace k ih e = nothing e

module _ (g : Layout) (step : ℕ → Step) (after : List ℕ) where
  pub walk_passed : (n b : ℕ) (c : ℕ → ℕ) (m : List ℕ) → Marks g.nob c m → walk g step n b m ≡ some after
      → Passed g.nob c after (trail g step n b)
  unfolding walk trail
  walk_passed zero b c m k = λ e. nothing e
  walk_passed (suc n) b c m k =
      cases (ltb b g.nob)
      (λ p. cases (eqb (field m b 1) 1)
      (λ q. rw (p, q) (λ e. nothing e))
      (λ q. rw (p, q) (passed_on g.nob c b (put_field m b 1 1) after (step b) (λ x. walk g step n x (put_field m b 1 1)) (λ x. trail g step n x)
      (one_more g.nob c m b (ltb-true b g.nob p) (eqb-false (field m b 1) 1 q) k)
      (λ x e. walk_passed n x (λ j. c j + occurs j (b ∷ [])) (put_field m b 1 1) (one_more g.nob c m b (ltb-true b g.nob p) (eqb-false (field m b 1) 1 q) k) e))))
      (λ p. rw p (λ e. nothing e))

-- ---- a trail whose blocks have no mark yet, and none of which comes twice, is walked to its end

pub record Some (o : Option (List ℕ)) : Type 0 where
  pub value : List ℕ
  pub is : o ≡ some value

pub record Begins (b : ℕ) (bs : List ℕ) : Type 0 where
  pub rest : List ℕ
  pub is : bs ≡ b ∷ rest

begins_cons : (b : ℕ) (o : Option (List ℕ)) (bs : List ℕ) → cons? b o ≡ some bs → Begins b bs
begins_cons b none bs e = nothing e
begins_cons b (some cs) bs e = record { rest = cs; is = cc }

begins_on : (b : ℕ) (s : Step) (trace : ℕ → Option (List ℕ)) (bs : List ℕ) → blocks_on b s trace ≡ some bs → Begins b bs
begins_on b Last trace bs e = record { rest = []; is = cc }
begins_on b (Further x) trace bs e = begins_cons b (trace x.0) bs e
begins_on b Damage trace bs e = nothing e

module _ (g : Layout) (step : ℕ → Step) where
  pub trail_begins : (n b : ℕ) (bs : List ℕ) → trail g step n b ≡ some bs → Begins b bs
  unfolding trail
  trail_begins zero b bs = λ e. nothing e
  trail_begins (suc n) b bs = cases (ltb b g.nob) (λ p. rw p (begins_on b (step b) (λ x. trail g step n x) bs)) (λ p. rw p (λ e. nothing e))

-- how often b comes in a list that begins with it
occurs_first : (b : ℕ) (bs : List ℕ) → Begins b bs → 1 ≤ occurs b bs
occurs_first b bs f = rw (f.is, eq-eqb b b refl) (omega arith)

-- the rest of the trail, counted after its first block
rest_counts : (b : ℕ) (o : Option (List ℕ)) (bs : List ℕ) → cons? b o ≡ some bs → (cs : List ℕ) → o ≡ some cs → (j : ℕ) → occurs j bs ≡ occurs j (b ∷ []) + occurs j cs
rest_counts b o bs e cs w j =
    let q : cons? b (some cs) ≡ some bs = rw w at e in
    let r : bs ≡ b ∷ cs = cc in
    rw r (omega arith)

cons_some : (b : ℕ) (o : Option (List ℕ)) (bs : List ℕ) → cons? b o ≡ some bs → Some o
cons_some b none bs e = nothing e
cons_some b (some cs) bs e = record { value = cs; is = refl }

complete_on : (nob : ℕ) (c : ℕ → ℕ) (b : ℕ) (u : List ℕ) (s : Step) (on trace : ℕ → Option (List ℕ)) (bs : List ℕ)
    → ((j : ℕ) → j < nob → c j + occurs j bs ≤ 1)
    → ((k : ℕ) (cs : List ℕ) → trace k ≡ some cs → ((j : ℕ) → j < nob → c j + occurs j (b ∷ []) + occurs j cs ≤ 1) → Some (on k))
    → blocks_on b s trace ≡ some bs → Some (go_on s u on)
complete_on nob c b u Last on trace bs few ih e = record { value = u; is = refl }
complete_on nob c b u (Further x) on trace bs few ih e =
    let f = cons_some b (trace x.0) bs e in
    ih x.0 f.value f.is (λ j l. omega (arith, few j l, rest_counts b (trace x.0) bs e f.value f.is j))
complete_on nob c b u Damage on trace bs few ih e = nothing e

module _ (g : Layout) (step : ℕ → Step) where
  pub walk_completes : (n b : ℕ) (c : ℕ → ℕ) (m bs : List ℕ) → Marks g.nob c m → ((j : ℕ) → j < g.nob → c j + occurs j bs ≤ 1)
      → trail g step n b ≡ some bs → Some (walk g step n b m)
  unfolding walk trail
  walk_completes zero b c m bs k few = λ e. nothing e
  walk_completes (suc n) b c m bs k few =
      cases (ltb b g.nob)
      (λ p. rw p (λ e.
      let l : b < g.nob = ltb-true b g.nob p in
      let f : field m b 1 ≡ 1 → ⊥ = λ q. omega (arith, few b l, occurs_first b bs (begins_on b (step b) (λ x. trail g step n x) bs e), k.bit b l) in
      let w = one_more g.nob c m b l f k in
      rw (ne_eqb (field m b 1) 1 f)
      (complete_on g.nob c b (put_field m b 1 1) (step b) (λ x. walk g step n x (put_field m b 1 1)) (λ x. trail g step n x) bs few
      (λ x cs q r. walk_completes n x (λ j. c j + occurs j (b ∷ [])) (put_field m b 1 1) cs w r q) e)))
      (λ p. rw p (λ e. nothing e))
