-- The test that no list is damaged and the words for it agree.
use Rattle.std.specs.Prelude.{◌≡◌, refl, ◌≢◌, true, false, List, ℕ, ◌<◌}
use Rattle.std.proofs.Common.{sym, ap}
use Rattle.std.proofs.Math.Option.{Option, none, some}
use Rattle.laws.specs.Cases.{never}
use Rattle.laws.specs.Tests.{below_at, below_all, below_not}
use Rattle.laws.specs.Options.{nothing}
use Rattle.settings.specs.declared.layout.Layout.{Layout}
use Rattle.table.specs.Decode.{decode}
use Rattle.table.specs.Follow.{Content, content}
use Rattle.plain_set.specs.Nth.{Undamaged}
use Rattle.table_cursor.specs.Undamaged.{has_end, undamaged}

-- ---- one list

end_some : (o : Option Content) → has_end o ≡ true → o ≢ none
end_some none e = never e
end_some (some v) e = λ n. nothing (sym n)

some_end : (o : Option Content) → o ≢ none → has_end o ≡ true
some_end none n = absurd (n refl)
some_end (some v) n = refl

-- ---- all lists

module _ (g : Layout) (t : List ℕ) where
  pub test_undamaged : undamaged g (decode g t) ≡ true → Undamaged g (decode g t)
  unfolding undamaged
  test_undamaged e i h = end_some (content g (decode g t) i) (below_at g.lists (λ i. has_end (content g (decode g t) i)) e i h)

  pub undamaged_test : Undamaged g (decode g t) → undamaged g (decode g t) ≡ true
  unfolding undamaged
  undamaged_test u = below_all g.lists (λ i. has_end (content g (decode g t) i)) (λ i h. some_end (content g (decode g t) i) (u i h))

  -- one damaged list fails the test
  pub damaged_test : (i : ℕ) → i < g.lists → content g (decode g t) i ≡ none → undamaged g (decode g t) ≡ false
  unfolding undamaged
  damaged_test i h e = below_not g.lists (λ i. has_end (content g (decode g t) i)) i h (ap has_end e)
