-- A basic block's slots as one number, cut into its first bits and the rest: what is put in comes out again.
use Rattle.std.specs.Prelude.{◌≡◌, length, set}
use Rattle.std.proofs.Math.Path.{refl, ap}
use Rattle.std.proofs.Common.{sym, ◌∙◌, mod-eq_of_lt}
use mathlib.Core.List.{List, [], ◌∷◌}
use Prim.Native.Nat.{ℕ, zero, suc, ◌+◌, ◌*◌, ◌^◌, ◌<◌}
use native.Mathlib.Omega.{arith}
use Rattle.std.proofs.Math.Nat.{zero-div, zero-mod}
use Rattle.std.proofs.Math.Pow.{split, high, low}
use Rattle.settings.specs.declared.layout.Layout.{Layout}
use Rattle.table.specs.Arrays.{packed, unpacked, padded}
use Rattle.table.specs.State.{rest_bits, unpack, head_of, rest_of}
use Rattle.table.specs.theory.Formed.{All, all_nil, all_cons, Each, each_set, Fits}
use Rattle.table.specs.theory.Written.{packed_fits}
use Rattle.table.specs.theory.FormedUpdates.{unpack_each}

-- numbers of w bits that are packed come out again
unpacked_packed : (w : ℕ) {xs : List ℕ} → All (Fits w) xs → unpacked w (length xs) (packed w xs) ≡ xs
unpacked_packed w all_nil = refl
unpacked_packed w (all_cons {x = x} {xs = xs} p ps) =
    let l : packed w xs < 2 ^ (length xs * w) = packed_fits w (record { long = refl; all = ps }) in
    rw (high x (length xs * w) l, low x (length xs * w) l, mod-eq_of_lt p, unpacked_packed w ps)

module _ (g : Layout) where
  -- what is packed comes out again
  unpack_pack : {es : List ℕ} → Each (Fits g.slot) g.sib es → unpack g (head_of g es) (rest_of g es) ≡ es
  unfolding unpack head_of rest_of
  unpack_pack {es} f =
      ap (unpacked g.slot g.sib) (split (packed g.slot es) (rest_bits g))
      ∙ ap (λ (n : ℕ). unpacked g.slot n (packed g.slot es)) (sym f.long)
      ∙ unpacked_packed g.slot f.all

  -- a slot of a block's slots overwritten, packed again
  pub unpack_set : (h r p x : ℕ) → Fits g.slot x
      → unpack g (head_of g (set (unpack g h r) p x)) (rest_of g (set (unpack g h r) p x)) ≡ set (unpack g h r) p x
  unpack_set h r p x f = unpack_pack (each_set (unpack_each g h r) p f)

  -- zero bits are empty slots
  pub unpack_zero : unpack g 0 0 ≡ padded g.sib []
  unfolding unpack
  unpack_zero = let e : 0 * 2 ^ rest_bits g + 0 ≡ 0 = omega arith in rw e (zeros g.sib)
    where
      zeros : (n : ℕ) → unpacked g.slot n 0 ≡ padded n []
      zeros zero = refl
      zeros (suc n) = rw (zero-div, zero-mod (2 ^ g.slot), zero-mod (2 ^ (n * g.slot))) (ap (0 ∷◌) (zeros n))
