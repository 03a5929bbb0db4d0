-- A new table holds empty lists, and all its blocks are free.
use Rattle.std.specs.Prelude.{◌≡◌, ◌≢◌, ℕ, zero, suc, ◌+◌, ◌≤◌, ◌<◌, replicate, eqb, ltb}
use Rattle.std.proofs.Math.Path.{refl, ap}
use Rattle.std.proofs.Common.{sym, eq-eqb, ne_eqb, eqb-true, lt-ltb, le-ltb, ltb-true, ltb-false}
use mathlib.Core.List.{List, [], ◌∷◌}
use native.Mathlib.Omega.{arith}
use Rattle.std.proofs.Math.ListN.{length-replicate}
use Rattle.std.proofs.lemmas.Bool.{eqb-false}
use Rattle.laws.specs.Cases.{cases}
use Rattle.laws.specs.Lists.{replicate_at}
use Rattle.settings.specs.declared.layout.Layout.{Layout}
use Rattle.table.specs.Arrays.{tabulate}
use Rattle.table.specs.State.{Overflow, overflow_at, empty_basic, absent_block}
use Rattle.table.specs.Take.{occurs}
use Rattle.table.specs.New.{new_overflow, new_state}
use Rattle.table.specs.theory.Arrays.{length_tab, get_or_tab}
use Rattle.table.specs.theory.Formed.{all_nil}
use Rattle.plain_set.specs.theory.Count.{one, sum}
use Rattle.plain_set.specs.theory.Slots.{unpack_zero}
use Rattle.plain_set.specs.theory.Rep.{Links, Chain, Rep}

-- k, k + 1, .. k + n - 1
abbrev pub up_from : ℕ → ℕ → List ℕ
up_from k zero = []
up_from k (suc n) = k ∷ up_from (suc k) n

lt_suc : (j k : ℕ) → one (ltb j (suc k)) ≡ one (eqb j k) + one (ltb j k)
lt_suc j k =
    cases (ltb j k)
    (λ e. let l = ltb-true j k e in omega (arith, ap one e, ap one (lt-ltb j (suc k) (omega arith)), ap one (ne_eqb j k (λ q. omega arith))))
    (λ e. let l = ltb-false j k e in
    cases (eqb j k)
    (λ q. let z = eqb-true j k q in omega (arith, ap one e, ap one q, ap one (lt-ltb j (suc k) (omega arith))))
    (λ q. let z = eqb-false j k q in omega (arith, ap one e, ap one q, ap one (le-ltb j (suc k) (above j k l z)))))
  where
    above : (a b : ℕ) → b ≤ a → a ≢ b → suc b ≤ a
    above a b l z = omega arith

occurs_up_from : (j k n : ℕ) → occurs j (up_from k n) + one (ltb j k) ≡ one (ltb j (k + n))
occurs_up_from j k zero = let e : k + 0 ≡ k = omega arith in rw e (omega arith)
occurs_up_from j k (suc n) =
    let e : suc k + n ≡ k + suc n = omega arith in
    let ih : occurs j (up_from (suc k) n) + one (ltb j (suc k)) ≡ one (ltb j (k + suc n)) = rw e at (occurs_up_from j (suc k) n) in
    omega (arith, lt_suc j k)

sum_none : (j n : ℕ) → sum (occurs j) (replicate n []) ≡ 0
sum_none j zero = refl
sum_none j (suc n) = omega (arith, sum_none j n)

module _ (g : Layout) where
  new_links : (os : List Overflow) (f n : ℕ) → ((j : ℕ) → j < g.nob → overflow_at os j ≡ new_overflow g j) → suc (f + n) ≡ g.nob
      → Links g os f (up_from (suc f) n)
  new_links os f zero h e = rw (eq-eqb (suc f) g.nob (omega arith)) at (h f (omega arith))
  new_links os f (suc n) h e =
      (rw (ne_eqb (suc f) g.nob (λ q. omega arith)) at (h f (omega arith)), new_links os (suc f) n h (omega arith))

  new_chain : (n : ℕ) → g.nob ≡ n → Chain g (tabulate g.nob (new_overflow g)) 0 (up_from 0 n)
  new_chain zero e = sym e
  new_chain (suc n) e = (
    refl,
    new_links (tabulate g.nob (new_overflow g)) 0 n
        (λ j l. get_or_tab g.nob (new_overflow g) j absent_block l)
        (omega arith),
  )

  -- all lists are empty and use no block; the free chain is 0, 1, .. nob - 1
  pub new_rep : Rep g (new_state g) (replicate g.lists []) (replicate g.lists []) (up_from 0 g.nob)
  unfolding new_state
  new_rep =
      record {
        basics = length_tab g.lists (λ i. empty_basic);
        overs = length_tab g.nob (new_overflow g);
        lists = length-replicate g.lists [];
        blocks = length-replicate g.lists [];
        each = λ i h.
            rw (get_or_tab g.lists (λ i. empty_basic) i empty_basic h, replicate_at {A = List ℕ} g.lists i [])
            (omega arith, refl, unpack_zero g);
        fits = λ i h. rw (replicate_at {A = List ℕ} g.lists i []) all_nil;
        chain = new_chain g.nob refl;
        once = λ j.
            let e : 0 + g.nob ≡ g.nob = omega arith in
            omega (arith, sum_none j g.lists, ap one (le-ltb j 0 (omega arith)), rw e at (occurs_up_from j 0 g.nob));
      }
