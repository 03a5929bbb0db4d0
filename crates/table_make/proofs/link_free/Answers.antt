-- After j turns the first j blocks are linked.
use Rattle.std.proofs.Common.{◌≡◌, List, ℕ, suc, ◌<◌, arith, refl, ap, ap₂, ◌∙◌}
use native.Mathlib.Numerals.{add-one}
use Rattle.bits.specs.Put.{put_field}
use Rattle.settings.specs.declared.layout.Layout.{Layout}
use Rattle.table.specs.Decode.{link_at}
use Rattle.table.specs.New.{new_overflow}
use Rattle.table_store.specs.Stores.{link_put}
use Rattle.table_make.specs.NewSteps.{linked}
use Rattle.table_make.proofs.New.{new_link_fits}
use Rattle.table_make.proofs.link_free.Goals as goal

-- one more block
more : (g : Layout) (t u v : List ℕ) (j l : ℕ) → u ≡ linked g j t → l ≡ (new_overflow g j).link → v ≡ link_put g u j l → v ≡ linked g (suc j) t
unfolding linked link_put
more g t u v j l eu el ev = ev ∙ ap₂ (λ (x : List ℕ) (y : ℕ). put_field x (link_at g j) g.link y) eu el

pub loop-j-init : goal.loop-j-init
unfolding linked
loop-j-init c = refl

pub loop-j-preserved : goal.loop-j-preserved
loop-j-preserved c =
    let j = c.loop-j.j in
    rw (add-one j)
    (more c.args.g c.args.t.now c.loop-j.t c.put_overflow_link.new.t j c.free_link-link.result.0 c.loop-j.invariant c.free_link-link.ensures c.put_overflow_link.ensures)
