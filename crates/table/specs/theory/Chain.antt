-- The free chain: the blocks that the test follows are those that clause 4.11 links, and the other way round.
use Rattle.std.specs.Prelude.{◌≡◌, refl, List, [], ◌∷◌, ℕ, zero, suc, ◌≤◌, ◌<◌, eqb, ltb, length}
use Rattle.std.proofs.Common.{sym, ◌∙◌, arith, ltb-true, eqb-true, eq-eqb, ne_eqb, lt-ltb}
use Rattle.std.proofs.Math.Option.{Option, some}
use Rattle.laws.specs.Sums.{occurs_head}
use Rattle.settings.specs.declared.layout.Layout.{Layout}
use Rattle.table.specs.State.{Overflow, State, overflow_at}
use Rattle.table.specs.Follow.{cons?}
use Rattle.table.specs.Take.{occurs}
use Rattle.table.specs.Check.{chain_from, free_chain}
use Rattle.table.specs.Sound.{Linked, Chain}
use Rattle.table.specs.theory.Formed.{All, all_nil, all_cons}
use Rattle.table.specs.theory.FormedCalls.{either, Holds, holds_none, holds_some, Below}
use Rattle.table.specs.theory.Occurs.{few_below}

module _ (g : Layout) where
  -- blocks of the table from f to one that links to itself
  data Run (os : List Overflow) (f : ℕ) : List ℕ → Type 0 where
    run : {cs : List ℕ} → f < g.nob → Linked g os f cs → Run os f (f ∷ cs)

  cons_run : (os : List Overflow) (f : ℕ) {o : Option (List ℕ)} → f < g.nob → Holds (Run os (overflow_at os f).link) o
      → Holds (Run os f) (cons? f o)
  cons_run os f h holds_none = holds_none
  cons_run os f h (holds_some (run {cs = cs} l r)) = holds_some (run {cs = (overflow_at os f).link ∷ cs} h (refl, l, r))

  chain_run : (n : ℕ) (os : List Overflow) (f : ℕ) → Holds (Run os f) (chain_from g n os f)
  chain_run zero os f = holds_none
  chain_run (suc n) os f =
      either (Holds (Run os f)) (ltb f g.nob)
      (λ e. either (Holds (Run os f)) (eqb (overflow_at os f).link f)
      (λ c. holds_some (run (ltb-true f g.nob e) (eqb-true (overflow_at os f).link f c)))
      (λ c. cons_run os f (ltb-true f g.nob e) (chain_run n os (overflow_at os f).link)))
      (λ e. holds_none)

  -- the free chain of a state, in the words of clause 4.11
  pub record FreeChain (st : State) (fs : List ℕ) : Type 0 where
    pub start : st.free ≤ g.nob
    pub linked : Chain g st.overflow st.free fs

  free_run : (st : State) {fs : List ℕ} → Run st.overflow st.free fs → FreeChain st fs
  free_run st (run h l) = record { start = omega arith; linked = (refl, h, l) }

  of_run : (st : State) {o : Option (List ℕ)} → Holds (Run st.overflow st.free) o → Holds (FreeChain st) o
  of_run st holds_none = holds_none
  of_run st (holds_some w) = holds_some (free_run st w)

  -- what the test follows is linked so
  pub free_chain_lem : (st : State) → Holds (FreeChain st) (free_chain g st)
  free_chain_lem st =
      either (Holds (FreeChain st)) (eqb st.free g.nob)
      (λ e. let q = eqb-true st.free g.nob e in holds_some (record { start = omega arith; linked = q }))
      (λ e. of_run st (chain_run g.nob st.overflow st.free))

  -- what is linked so is followed, in as many steps as it has blocks: no block but the last links to itself, or it would stand twice
  linked_chain : (n : ℕ) (os : List Overflow) (f : ℕ) (cs : List ℕ) → f < g.nob → Linked g os f cs
      → ((j : ℕ) → j < g.nob → occurs j (f ∷ cs) ≤ 1) → length cs < n → chain_from g n os f ≡ some (f ∷ cs)
  linked_chain zero os f cs h l d m = absurd (omega arith)
  linked_chain (suc n) os f [] h l d m = rw (lt-ltb f g.nob h, eq-eqb (overflow_at os f).link f l)
  linked_chain (suc n) os f (c ∷ cs) h l d m =
      rw (
        lt-ltb f g.nob h,
        ne_eqb (overflow_at os f).link f (λ q.
            let e : c ≡ f = sym l.0 ∙ q in
            let again : 0 < occurs f (c ∷ cs) = rw e (occurs_head f cs) in
            omega (arith, d f h, occurs_head f [])),
        l.0,
        linked_chain n os c cs l.1 l.2 (λ j k. omega (arith, d j k)) (omega arith),
      )

  -- its blocks are blocks of the table
  linked_below : (os : List Overflow) (f : ℕ) (cs : List ℕ) → f < g.nob → Linked g os f cs → All (Below g.nob) (f ∷ cs)
  linked_below os f [] h l = all_cons h all_nil
  linked_below os f (c ∷ cs) h l = all_cons h (linked_below os c cs l.1 l.2)

  pub chain_below : (os : List Overflow) (f : ℕ) (fs : List ℕ) → Chain g os f fs → All (Below g.nob) fs
  chain_below os f [] l = all_nil
  chain_below os f (c ∷ cs) l = linked_below os c cs l.1 l.2

  -- the test's bound of nob steps is enough, for no block stands twice
  pub chain_free : (st : State) (fs : List ℕ) → Chain g st.overflow st.free fs → ((j : ℕ) → j < g.nob → occurs j fs ≤ 1) → free_chain g st ≡ some fs
  chain_free st [] l d = rw (eq-eqb st.free g.nob l)
  chain_free st (c ∷ cs) l d =
      rw (ne_eqb st.free g.nob (λ q. omega (arith, l.0, l.1)), l.0)
      (linked_chain g.nob st.overflow c cs l.1 l.2 d (few_below g.nob (chain_below st.overflow st.free (c ∷ cs) l) d))
