-- On the way to entry n of a list: a cursor before the last of its slots, so many of which are to pass yet.
use mathlib.Core.Path.{◌≡◌, refl, sym, ap, ◌∙◌}
use mathlib.Core.List.{List, [], ◌∷◌, ◌++◌}
use Prim.Native.Nat.{ℕ, zero, suc, ◌+◌, ◌-◌, ◌≤◌, ◌<◌}
use native.Mathlib.Omega.{arith}
use lib.ListN.{length, drop, length-append}
use lib.Seq.{drop-append-le, drop-append-add}
use Rattle.settings.specs.declared.settings.Settings.{Settings}
use Rattle.settings.specs.declared.layout.Layout.{Layout}
use Rattle.keys.specs.declared.BlockNumber.{BlockNumber}
use Rattle.keys.specs.declared.ListNumber.{ListNumber}
use Rattle.table.specs.Decode.{decode}
use Rattle.table.specs.Follow.{content}
use Rattle.table.specs.declared.step.Step.TheVariants as step
use Rattle.table_read.specs.Steps.{slots_in, gather_from}
use Rattle.table_read.specs.theory.Reads.{slots_length}
use Rattle.plain_set.specs.Rebuilt.{Pair, slots_of, pairs_of}
use Rattle.table_cursor.specs.Ahead.{gather_behind, slots_ahead, pairs_from, ahead, Before}
use Rattle.table_cursor.specs.Steps.{Begins}
use Rattle.table_cursor.specs.theory.Pairs.{pairs_on_lem}
use Rattle.table_cursor.specs.declared.places.Cursor.{Cursor}
use Rattle.table_cursor.proofs.Begin.{cursor}
use Rattle.table_cursor.proofs.Move.{ahead_as}

-- the cursor c stands before the slots `slots`; entry n of list i is entry m of these
pub record Toward (g : Layout) (t : List ℕ) (i n : ℕ) (c : Cursor) (m : ℕ) : Type 0 where
  pub slots : List ℕ
  pub begins : Begins g t i slots c
  pub within : m ≤ length slots
  pub same : drop m slots ≡ drop n (slots_of (content g (decode g t) i))

pairs_drop : (s : Settings) (i n : ℕ) (es : List ℕ) (ps : List Pair) → n ≤ length es → drop n (pairs_of s i es ++ ps) ≡ pairs_of s i (drop n es) ++ ps
pairs_drop s i zero es ps h = refl
pairs_drop s i (suc n) [] ps h = absurd (omega arith)
pairs_drop s i (suc n) (x ∷ es) ps h = pairs_drop s i n es ps (omega arith)

module _ (g : Layout) (t : List ℕ) (i : ListNumber) (n : ℕ) where
  pub toward_first : (c : Cursor) → Begins g t i.0 (slots_of (content g (decode g t) i.0)) c → n ≤ length (slots_of (content g (decode g t) i.0)) → Toward g t i.0 n c n
  toward_first c B h = record { slots = slots_of (content g (decode g t) i.0); begins = B; within = h; same = refl }

  module _ (c : Cursor) (m : ℕ) (T : Toward g t i.0 n c m) where
    -- the run comes first
    run_first : T.slots ≡ slots_in g t c.run ++ gather_behind g (decode g t).overflow c.behind
    unfolding slots_ahead
    run_first =
        sym T.begins.slots
        ∙ ap (λ (k : ℕ). drop k (slots_in g t c.run) ++ gather_behind g (decode g t).overflow c.behind) T.begins.passed

    long : length T.slots ≡ c.run.count + length (gather_behind g (decode g t).overflow c.behind)
    long =
        ap length run_first
        ∙ length-append (slots_in g t c.run) (gather_behind g (decode g t).overflow c.behind)
        ∙ ap (◌+ length (gather_behind g (decode g t).overflow c.behind)) (slots_length g t c.run)

    -- behind the last run there are none to pass
    pub run_last : gather_behind g (decode g t).overflow c.behind ≡ [] → m ≤ c.run.count
    run_last e = omega (arith, T.within, long, ap length e)

    -- past the run
    pub toward_block : c.run.count < m → (b : BlockNumber) → c.behind ≡ step.Further b → (d : Cursor)
        → Begins g t i.0 (gather_from g g.nob (decode g t).overflow b.0) d → Toward g t i.0 n d (m - c.run.count)
    toward_block h b f d B =
        let e = ap (gather_behind g (decode g t).overflow) f in
        let l = slots_length g t c.run in
        let k : m ≡ length (slots_in g t c.run) + (m - c.run.count) = omega arith in
        record {
          slots = gather_from g g.nob (decode g t).overflow b.0;
          begins = B;
          within = omega (arith, T.within, long, ap length e);
          same = sym (drop-append-add (slots_in g t c.run) (gather_from g g.nob (decode g t).overflow b.0) (m - c.run.count))
              ∙ ap (λ (k : ℕ). drop k (slots_in g t c.run ++ gather_from g g.nob (decode g t).overflow b.0)) (sym k)
              ∙ ap (λ (es : List ℕ). drop m (slots_in g t c.run ++ es)) (sym e)
              ∙ ap (drop m) (sym run_first)
              ∙ T.same;
        }

    ahead_here : m ≤ c.run.count → slots_ahead g t (cursor i m c.run c.behind) ≡ drop m T.slots
    unfolding slots_ahead
    ahead_here h =
        sym (drop-append-le m (slots_in g t c.run) (gather_behind g (decode g t).overflow c.behind) (omega (arith, slots_length g t c.run)))
        ∙ ap (drop m) (sym run_first)

    -- within the run
    pub toward_here : m ≤ c.run.count → i.0 < g.lists → n ≤ length (slots_of (content g (decode g t) i.0)) → (k : ℕ) → k ≡ m
        → Before g t i.0 n (cursor i k c.run c.behind)
    toward_here h l few k ek =
        record {
          good = record { list = l; run = T.begins.good.run; behind = T.begins.good.behind };
          are = λ s e.
              ap (λ (x : ℕ). ahead s t (cursor i x c.run c.behind)) ek
              ∙ ahead_as g t s e (cursor i m c.run c.behind)
              ∙ ap (λ (es : List ℕ). pairs_of s i.0 es ++ pairs_from s t (suc i.0)) (ahead_here h ∙ T.same)
              ∙ sym (pairs_drop s i.0 n (slots_of (content g (decode g t) i.0)) (pairs_from s t (suc i.0)) few)
              ∙ ap (drop n) (sym (pairs_on_lem g t s e i.0 l));
        }
