-- The pairs of the lists from one on.
use Rattle.std.specs.Prelude.{◌≡◌, ℕ, suc, ◌≤◌, ◌<◌, drop}
use Rattle.std.proofs.Math.Path.{ap}
use Rattle.std.proofs.Common.{◌∙◌, arith, drop_of_length-le, drop-cons}
use mathlib.Core.List.{List, [], ◌++◌}
use Rattle.std.proofs.Math.ListN.{length}
use Rattle.settings.specs.Layout.{layout_of}
use Rattle.settings.specs.declared.settings.Settings.{Settings}
use Rattle.settings.specs.declared.layout.Layout.{Layout}
use Rattle.table.specs.State.{Basic, basic_at, empty_basic}
use Rattle.table.specs.Decode.{decode}
use Rattle.table.specs.Follow.{content_of, content}
use Rattle.table.specs.theory.Formed.{decode_formed}
use Rattle.plain_set.specs.Rebuilt.{slots_of, pairs_of, rebuilt_from, rebuilt_pairs}
use Rattle.table_cursor.specs.Ahead.{pairs_from}

module _ (g : Layout) (t : List ℕ) (s : Settings) (laid : layout_of s ≡ g) where
  pub pairs_on_lem : (i : ℕ) → i < g.lists → pairs_from s t i ≡ pairs_of s i (slots_of (content g (decode g t) i)) ++ pairs_from s t (suc i)
  unfolding pairs_from content
  pairs_on_lem i h =
      let k : i < length (decode (layout_of s) t).basic = omega (arith, (decode_formed (layout_of s) t).basic.long, ap (λ (x : Layout). x.lists) laid) in
      ap (λ (bs : List Basic). rebuilt_from s i bs (decode (layout_of s) t).overflow) (drop-cons (decode (layout_of s) t).basic i empty_basic k)
      ∙ ap (λ (x : Layout). pairs_of s i (slots_of (content_of x i (basic_at (decode x t).basic i) (decode x t).overflow))
      ++ rebuilt_from s (suc i) (drop (suc i) (decode (layout_of s) t).basic) (decode (layout_of s) t).overflow) laid

  pub pairs_end : (i : ℕ) → g.lists ≤ i → pairs_from s t i ≡ []
  unfolding pairs_from
  pairs_end i h =
      let k : length (decode (layout_of s) t).basic ≤ i =
      omega (arith, (decode_formed (layout_of s) t).basic.long, ap (λ (x : Layout). x.lists) laid) in
      ap (λ (bs : List Basic). rebuilt_from s i bs (decode (layout_of s) t).overflow) (drop_of_length-le (decode (layout_of s) t).basic k)

  pub pairs_all : pairs_from s t 0 ≡ rebuilt_pairs s (decode g t)
  unfolding pairs_from rebuilt_pairs
  pairs_all = ap (λ (x : Layout). rebuilt_from s 0 (decode x t).basic (decode x t).overflow) laid
