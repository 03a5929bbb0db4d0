-- Laws of following a list: its turns, its end, and what it finds.
use Rattle.std.specs.Prelude.{◌≡◌, true, List, [], ◌∷◌, ◌++◌, length, take, ltb}
use Rattle.std.proofs.Math.Path.{refl}
use Rattle.std.proofs.Common.{◌∙◌, append-nil}
use Rattle.std.proofs.Math.Option.{Option, none, some}
use Prim.Native.Nat.{ℕ, zero, suc, ◌-◌, ◌≤◌, ◌<◌}
use native.Mathlib.Omega.{arith}
use borrow.Author.Tests.{eq-eqb, ne_eqb, lt-ltb, le-ltb, ltb-true}
use Rattle.laws.specs.Folds.{every}
use Rattle.laws.specs.Cases.{cases}
use Rattle.laws.specs.Options.{nothing}
use Rattle.settings.specs.declared.layout.Layout.{Layout}
use Rattle.table.specs.State.{Overflow, State, basic_at, overflow_at, unpack, own_slots}
use Rattle.table.specs.Follow.{mk_content, last_of, cons?, follow, is_own, own_blocks, content_over, content, go_on, step_at}
use Rattle.table_read.specs.Steps.{last_in, last_from, Followed, OwnFollowed, gather_from}
use Rattle.table.specs.declared.step.Step.{Step}
use Rattle.table.specs.declared.step.Step.TheVariants.{Last, Further, Damage}
use Rattle.table.specs.theory.Ways.{Way, way, step_last, step_further, step_damage}
use Rattle.table.specs.theory.Ways as ways

module _ (g : Layout) (os : List Overflow) where
  -- ---- the turns

  pub follow_high : (n b : ℕ) → g.nob ≤ b → follow g n os b ≡ none
  follow_high zero b h = refl
  follow_high (suc n) b h = rw (le-ltb b g.nob h)

  pub follow_here : (n b : ℕ) → 0 < n → b < g.nob → (overflow_at os b).counter < g.sio → follow g n os b ≡ some (b ∷ [])
  follow_here zero b h l e = absurd (omega arith)
  follow_here (suc n) b h l e = rw (lt-ltb b g.nob l, step_last g.sio (overflow_at os b).counter (overflow_at os b).link e)

  pub follow_bad : (n b : ℕ) → g.sio < (overflow_at os b).counter → follow g n os b ≡ none
  follow_bad zero b e = refl
  follow_bad (suc n) b e =
      cases (ltb b g.nob) (λ p. rw (p, step_damage g.sio (overflow_at os b).counter (overflow_at os b).link e)) (λ p. rw p)

  pub follow_on : (n m b : ℕ) → n ≡ suc m → b < g.nob → (overflow_at os b).counter ≡ g.sio
      → follow g n os b ≡ cons? b (follow g m os (overflow_at os b).link)
  follow_on n m b h l e =
      rw h (rw (lt-ltb b g.nob l, step_further g.sio (overflow_at os b).counter (overflow_at os b).link e))

  -- ---- what is found: nothing, or blocks from b on to the list's end

  -- blocks b and then cs, each full but the last
  pub data Chain : ℕ → List ℕ → Type 0 where
    ends : {b : ℕ} → b < g.nob → (overflow_at os b).counter < g.sio → Chain b []
    more : {b : ℕ} {cs : List ℕ} → b < g.nob → (overflow_at os b).counter ≡ g.sio → Chain (overflow_at os b).link cs
        → Chain b ((overflow_at os b).link ∷ cs)

  pub last_low : {b : ℕ} {cs : List ℕ} → Chain b cs → last_of b cs < g.nob
  last_low (ends h l) = h
  last_low (more h e c) = last_low c

  -- what following at most n blocks from b on comes to
  pub data Walk (n b : ℕ) : Option (List ℕ) → Type 0 where
    lost : Walk n b none
    ended : {cs : List ℕ} → Chain b cs → length cs < n → Walk n b (some (b ∷ cs))

  walk_on : {n b : ℕ} {o : Option (List ℕ)} → b < g.nob → (overflow_at os b).counter ≡ g.sio → Walk n (overflow_at os b).link o
      → Walk (suc n) b (cons? b o)
  walk_on h e lost = lost
  walk_on h e (ended c l) = ended (more h e c) (omega arith)

  walk_step : (n b : ℕ) → b < g.nob → (s : Step) → Way g.sio (overflow_at os b).counter (overflow_at os b).link s
      → ((c : ℕ) → Walk n c (follow g n os c)) → Walk (suc n) b (go_on s (b ∷ []) (λ c. cons? b (follow g n os c)))
  walk_step n b h Last (ways.ends l) f = ended (ends h l) (omega arith)
  walk_step n b h (Further c) (ways.goes e) f = walk_on h e (f (overflow_at os b).link)
  walk_step n b h Damage (ways.breaks l) f = lost

  pub walk : (n b : ℕ) → Walk n b (follow g n os b)
  walk zero b = lost
  walk (suc n) b =
      cases (ltb b g.nob)
      (λ p. rw p (walk_step n b (ltb-true b g.nob p) (step_at g os b) (way g.sio (overflow_at os b).counter (overflow_at os b).link) (walk n)))
      (λ p. rw p lost)

  -- ---- the last block of list i

  module _ (i : ℕ) where
    -- the same of the list's own blocks
    own_as : {n b : ℕ} {o : Option (List ℕ)} → Walk n b o → Walk n b (own_blocks i os o)
    own_as lost = lost
    own_as {n} {b} (ended {cs} c l) = cases (every (is_own i os) (b ∷ cs)) (λ e. rw e (ended c l)) (λ e. rw e lost)

    pub own_walk : (n b : ℕ) → Walk n b (own_blocks i os (follow g n os b))
    own_walk n b = own_as (walk n b)

    last_on : (b : ℕ) {n c : ℕ} {o : Option (List ℕ)} → (overflow_at os b).owner ≡ i → Walk n c o
        → last_in g (own_blocks i os (cons? b o)) ≡ last_in g (own_blocks i os o)
    last_on b e lost = refl
    last_on b {c = c} e (ended {cs} w l) =
        cases (every (is_own i os) (c ∷ cs)) (λ q. rw (eq-eqb (overflow_at os b).owner i e, q)) (λ q. rw (eq-eqb (overflow_at os b).owner i e, q))

    pub last_high : (n b : ℕ) → g.nob ≤ b → last_from g i n os b ≡ g.nob
    unfolding last_from
    last_high n b h = rw (follow_high n b h)

    pub last_out : (n b : ℕ) → n ≡ 0 → last_from g i n os b ≡ g.nob
    unfolding last_from
    last_out n b h = rw h

    other_as : {n b : ℕ} {o : Option (List ℕ)} → ((overflow_at os b).owner ≡ i → ⊥) → Walk n b o → last_in g (own_blocks i os o) ≡ g.nob
    other_as ne lost = refl
    other_as {b = b} ne (ended c l) = rw (ne_eqb (overflow_at os b).owner i ne)

    -- a block with another list's number
    pub last_other : (n b : ℕ) → ((overflow_at os b).owner ≡ i → ⊥) → last_from g i n os b ≡ g.nob
    unfolding last_from
    last_other n b ne = other_as ne (walk n b)

    pub last_here : (n b : ℕ) → 0 < n → b < g.nob → (overflow_at os b).owner ≡ i → (overflow_at os b).counter < g.sio → last_from g i n os b ≡ b
    unfolding last_from
    last_here n b h l o e = rw (follow_here n b h l e, eq-eqb (overflow_at os b).owner i o)

    pub last_bad : (n b : ℕ) → g.sio < (overflow_at os b).counter → last_from g i n os b ≡ g.nob
    unfolding last_from
    last_bad n b e = rw (follow_bad n b e)

    pub last_further : (n m b : ℕ) → n ≡ suc m → b < g.nob → (overflow_at os b).owner ≡ i → (overflow_at os b).counter ≡ g.sio
        → last_from g i n os b ≡ last_from g i m os (overflow_at os b).link
    unfolding last_from
    last_further n m b h l o e =
        rw (follow_on n m b h l e)
        (last_on b o (walk m (overflow_at os b).link))

    followed_as : (n b : ℕ) {o : Option (List ℕ)} → Walk n b o → own_blocks i os (follow g n os b) ≡ o → last_in g o < g.nob → OwnFollowed g i n os b
    followed_as n b lost e h = absurd (omega arith)
    followed_as n b (ended {cs} c l) e h = record { blocks = b ∷ cs; are = e }

    -- a last block below nob is the end of a list without damage
    pub followed : (n b : ℕ) → last_from g i n os b < g.nob → OwnFollowed g i n os b
    unfolding last_from
    followed n b h = followed_as n b (own_walk n b) refl h

    damaged_as : {n b : ℕ} {o : Option (List ℕ)} → Walk n b o → g.nob ≤ last_in g o → o ≡ none
    damaged_as lost h = refl
    damaged_as (ended c l) h = absurd (omega (arith, last_low c))

    pub damaged : (n b : ℕ) → g.nob ≤ last_from g i n os b → own_blocks i os (follow g n os b) ≡ none
    unfolding last_from
    damaged n b h = damaged_as (own_walk n b) h

    -- what a list's own blocks tell
    pub record Owns (n b : ℕ) (bs : List ℕ) : Type 0 where
      pub found : follow g n os b ≡ some bs
      pub own : every (is_own i os) bs ≡ true

    owns_as : (n b : ℕ) (bs : List ℕ) (o : Option (List ℕ)) → follow g n os b ≡ o → own_blocks i os o ≡ some bs → Owns n b bs
    owns_as n b bs none w = λ e. nothing e
    owns_as n b bs (some cs) w =
        cases (every (is_own i os) cs)
        (λ q. rw q (λ e. let z : cs ≡ bs = cc in record { found = rw (← z) w; own = rw (← z) q }))
        (λ q. rw q (λ e. nothing e))

    pub owns : {n b : ℕ} (f : OwnFollowed g i n os b) → Owns n b f.blocks
    owns {n} {b} f = owns_as n b f.blocks (follow g n os b) refl f.are

    -- and back
    pub owned : {n b : ℕ} {bs : List ℕ} → Owns n b bs → OwnFollowed g i n os b
    owned {bs = bs} w = record { blocks = bs; are = rw (w.found, w.own) }

    pub ended_own : {n b : ℕ} → OwnFollowed g i n os b → Followed g n os b
    ended_own f = record { blocks = f.blocks; are = (owns f).found }

  -- ---- one block of a list without damage

  pub record OneStep (n b : ℕ) : Type 0 where
    pub fuel : 0 < n
    pub low : b < g.nob
    pub count : (overflow_at os b).counter ≤ g.sio
    pub last : (overflow_at os b).counter < g.sio → gather_from g n os b ≡ take (suc (overflow_at os b).counter) (overflow_at os b).slots
    pub on : (overflow_at os b).counter ≡ g.sio → Followed g (n - 1) os (overflow_at os b).link
    pub more : (overflow_at os b).counter ≡ g.sio
        → gather_from g n os b ≡ take (suc (overflow_at os b).counter) (overflow_at os b).slots ++ gather_from g (n - 1) os (overflow_at os b).link

  one_step_on : (n b : ℕ) (bs : List ℕ) → b < g.nob → (overflow_at os b).counter ≡ g.sio → (o : Option (List ℕ)) → follow g n os (overflow_at os b).link ≡ o
      → cons? b o ≡ some bs → OneStep (suc n) b
  unfolding gather_from
  one_step_on n b bs h z none w e = nothing e
  one_step_on n b bs h z (some cs) w e =
      let k : suc n - 1 ≡ n = omega arith in
      record {
        fuel = omega arith;
        low = h;
        count = omega arith;
        last = λ x. absurd (omega arith);
        on = λ x. rw k (record { blocks = cs; are = w });
        more = λ x. rw (k, follow_on (suc n) n b refl h z, w);
      }

  one_step_by : (n b : ℕ) (bs : List ℕ) → b < g.nob → (s : Step) → Way g.sio (overflow_at os b).counter (overflow_at os b).link s
      → go_on s (b ∷ []) (λ c. cons? b (follow g n os c)) ≡ some bs → OneStep (suc n) b
  unfolding gather_from
  one_step_by n b bs h Last (ways.ends l) e =
      record {
        fuel = omega arith;
        low = h;
        count = omega arith;
        last = λ _. rw (follow_here (suc n) b (omega arith) h l) (append-nil (take (suc (overflow_at os b).counter) (overflow_at os b).slots));
        on = λ z. absurd (omega arith);
        more = λ z. absurd (omega arith);
      }
  one_step_by n b bs h (Further c) (ways.goes z) e = one_step_on n b bs h z (follow g n os (overflow_at os b).link) refl e
  one_step_by n b bs h Damage (ways.breaks l) e = nothing e

  one_step_from : (n b : ℕ) (bs : List ℕ) → follow g n os b ≡ some bs → OneStep n b
  one_step_from zero b bs = λ e. nothing e
  one_step_from (suc n) b bs =
      cases (ltb b g.nob)
      (λ p. rw p (one_step_by n b bs (ltb-true b g.nob p) (step_at g os b) (way g.sio (overflow_at os b).counter (overflow_at os b).link)))
      (λ p. rw p (λ e. nothing e))

  pub one_step : (n b : ℕ) → Followed g n os b → OneStep n b
  one_step n b f = one_step_from n b f.blocks f.are

-- ---- a list's content, by its basic block's counter

module _ (g : Layout) (st : State) (i : ℕ) where
  pub content_short : (basic_at st.basic i).counter ≤ g.sib
      → content g st i ≡ some (mk_content [] (take (basic_at st.basic i).counter (own_slots g (basic_at st.basic i))))
  unfolding content
  content_short h = rw (lt-ltb (basic_at st.basic i).counter (suc g.sib) (omega arith))

  pub content_high : suc g.sib < (basic_at st.basic i).counter → content g st i ≡ none
  unfolding content
  content_high h =
      rw (
        le-ltb (basic_at st.basic i).counter (suc g.sib) (omega arith),
        ne_eqb (basic_at st.basic i).counter (suc g.sib) (λ q. omega arith),
      )

  pub content_over_lem : (basic_at st.basic i).counter ≡ suc g.sib
      → content g st i
      ≡ content_over g (basic_at st.basic i) st.overflow (own_blocks i st.overflow (follow g g.nob st.overflow (basic_at st.basic i).head))
  unfolding content
  content_over_lem h =
      rw (
        le-ltb (basic_at st.basic i).counter (suc g.sib) (omega arith),
        eq-eqb (basic_at st.basic i).counter (suc g.sib) h,
      )

  pub content_bad : (basic_at st.basic i).counter ≡ suc g.sib → g.nob ≤ last_from g i g.nob st.overflow (basic_at st.basic i).head
      → content g st i ≡ none
  content_bad h l = content_over_lem h ∙ rw (damaged g st.overflow i g.nob (basic_at st.basic i).head l)

  long_as : (b : ℕ) {o : Option (List ℕ)} → Walk g st.overflow g.nob b o → (bs : List ℕ)
      → own_blocks i st.overflow (follow g g.nob st.overflow b) ≡ o → o ≡ some bs → follow g g.nob st.overflow b ≡ some bs
      → content_over g (basic_at st.basic i) st.overflow o
      ≡ some (mk_content bs (unpack g (overflow_at st.overflow (last_from g i g.nob st.overflow b)).link (basic_at st.basic i).rest ++ gather_from g g.nob st.overflow b))
  unfolding last_from gather_from
  long_as b lost bs e w f = nothing w
  long_as b (ended {cs} c l) bs e w f = let z : b ∷ cs ≡ bs = cc in rw (e, f, ← z)

  pub content_long : (basic_at st.basic i).counter ≡ suc g.sib → (f : OwnFollowed g i g.nob st.overflow (basic_at st.basic i).head)
      → content g st i
      ≡ some
      (mk_content f.blocks
      (unpack g (overflow_at st.overflow (last_from g i g.nob st.overflow (basic_at st.basic i).head)).link (basic_at st.basic i).rest
      ++ gather_from g g.nob st.overflow (basic_at st.basic i).head))
  content_long h f =
      content_over_lem h
      ∙ long_as (basic_at st.basic i).head
      (own_walk g st.overflow i g.nob (basic_at st.basic i).head) f.blocks refl f.are (owns g st.overflow i f).found
