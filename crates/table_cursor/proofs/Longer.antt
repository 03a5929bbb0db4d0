-- Following with more steps than are needed finds the same, and a list that was followed has a last block.
use mathlib.Core.Path.{◌≡◌, sym, ap, ◌∙◌}
use mathlib.Core.List.{List, ◌∷◌}
use mathlib.Core.Option.{Option, some}
use Prim.Native.Nat.{ℕ, ◌-◌, ◌≤◌, ◌<◌}
use native.Mathlib.Omega.{arith}
use lib.ListN.{length}
use Rattle.laws.specs.Options.{nothing}
use Rattle.settings.specs.declared.layout.Layout.{Layout}
use Rattle.table.specs.State.{Overflow}
use Rattle.table.specs.Follow.{cons?, follow}
use Rattle.table_read.specs.Steps.{last_in, last_from, Followed, OwnFollowed, gather_in, gather_from}
use Rattle.table_read.specs.theory.Walks.{follow_here, follow_on, Chain, ends, more, Walk, lost, ended, walk, own_walk, last_low}

module _ (g : Layout) (os : List Overflow) where
  chain_follow : (n : ℕ) {b : ℕ} {cs : List ℕ} → Chain g os b cs → length cs < n → follow g n os b ≡ some (b ∷ cs)
  chain_follow n {b} (ends h l) k = follow_here g os n b (omega arith) h l
  chain_follow n {b} (more h e c) k =
      follow_on g os n (n - 1) b (omega arith) h e ∙ ap (cons? b) (chain_follow (n - 1) c (omega arith))

  longer : (n m b : ℕ) → n ≤ m → {o : Option (List ℕ)} → Walk g os n b o → (bs : List ℕ) → o ≡ some bs → follow g m os b ≡ some bs
  longer n m b h lost bs e = nothing e
  longer n m b h (ended c l) bs e = chain_follow m c (omega arith) ∙ e

  module _ (n m b : ℕ) (h : n ≤ m) (f : Followed g n os b) where
    pub followed_longer : Followed g m os b
    followed_longer = record { blocks = f.blocks; are = longer n m b h (walk g os n b) f.blocks f.are }

    pub gather_longer : gather_from g n os b ≡ gather_from g m os b
    unfolding gather_from followed_longer
    gather_longer = ap (gather_in g os) (f.are ∙ sym followed_longer.are)

  last_as : (n b : ℕ) {o : Option (List ℕ)} → Walk g os n b o → (bs : List ℕ) → o ≡ some bs → last_in g o < g.nob
  last_as n b lost bs e = nothing e
  last_as n b (ended c l) bs e = last_low g os c

  pub last_within : (i n b : ℕ) → OwnFollowed g i n os b → last_from g i n os b < g.nob
  unfolding last_from
  last_within i n b f = last_as n b (own_walk g os i n b) f.blocks f.are
