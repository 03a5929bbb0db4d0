-- The layout's answer and the length decide the call's; zeroed and linked bytes are the new table's (`new_bytes_lem`).
use Rattle.std.specs.Prelude.{Err, Ok, ⊤}
use mathlib.Core.Path.{◌≡◌, refl, sym, ap, ◌∙◌}
use mathlib.Core.Bool.{true}
use mathlib.Core.List.{List, [], ◌++◌}
use Prim.Native.Nat.{ℕ, ◌≤◌}
use native.Mathlib.Omega.{arith}
use lib.ListN.{length, take, drop, replicate}
use lib.Seq.{length-take-le}
use Rattle.settings.specs.Legal.{legal}
use Rattle.settings.specs.Layout.{layout_of}
use Rattle.settings.specs.theory.Legal.{laid_layout, laid_refused}
use Rattle.settings.specs.declared.layout.Layout.{Layout}
use Rattle.settings.specs.declared.settings.Settings.{Settings}
use Rattle.settings.specs.Reply.{Reply, reply}
use Rattle.table.specs.New.{new_bytes}
use Rattle.table_make.specs.NewSteps.{linked}
use Rattle.table.specs.Calls.{make_call}
use Rattle.table_make.proofs.New.{zero_length, new_bytes_lem}
use Rattle.table.specs.theory.Opened.{due_settings, due_short, due_later, opened_table}
use Rattle.std.proofs.lemmas.Result.{err_from_is_err_and}
use Rattle.table_make.proofs.make.Goals as goal
use Rattle.table_make.proofs.make.Goals.{After-zero_bytes, In_ok-g}
use Rattle.std.specs.declared.result.Result.{Result}
use Rattle.settings.specs.declared.refusal.Refusal.{Refusal}

-- what the call comes to if nothing is refused
abbrev made : Settings → List ℕ → Reply (Result ⊤ Refusal)
made s t = reply (Ok tt) (new_bytes (layout_of s) t)

-- the settings are legal, and the layout is theirs
laid : (c : In_ok-g) → let a = c.args in (legal a.s ≡ true) × (layout_of a.s ≡ c.in_ok-g.g)
laid c = laid_layout c.args.s c.in_ok-g.g (sym c.layout.ensures ∙ c.in_ok-g.was)

pub returns-then-t-n : goal.returns-then-t-n
unfolding make_call
returns-then-t-n c =
    let a = c.args in
    let t = a.t.now in
    rw (due_short (λ why. reply (Err why) t) a.s (length t) [] (made a.s t) c.in_ok-g.g (laid (goal.at.returns-then-t-n c).In_ok-g).0 (laid (goal.at.returns-then-t-n c).In_ok-g).1 c.if-t-n.true)
    (record { answer = refl; bytes = refl })

-- the first bytes zero, and the others as they were
zeroed : (z : After-zero_bytes) → let g = z.in_ok-g.g in let t = z.args.t.now in
    z.zero_bytes.new.s ++ drop g.bytes t ≡ replicate g.bytes 0 ++ drop g.bytes t
zeroed z =
    let g = z.in_ok-g.g in
    let t = z.args.t.now in
    let l : length (take g.bytes t) ≡ g.bytes = length-take-le g.bytes t z.if-t-n.false in
    ap (◌++ drop g.bytes t) (z.zero_bytes.ensures ∙ ap (λ (n : ℕ). replicate n 0) l)

pub link_free-requires : goal.link_free-requires
link_free-requires c =
    let a = c.args in
    let g = c.in_ok-g.g in
    opened_table a.s g (laid (goal.at.link_free-requires c).In_ok-g).0 (laid (goal.at.link_free-requires c).In_ok-g).1 _ (omega (arith, ap length (zeroed (goal.at.link_free-requires c).After-zero_bytes), zero_length g.bytes a.t.now c.if-t-n.false, c.if-t-n.false))

pub returns : goal.returns
unfolding make_call
returns c =
    let a = c.args in
    let g = c.in_ok-g.g in
    let t = a.t.now in
    let l : g.bytes ≤ length t = c.if-t-n.false in
    rw (due_later (λ why. reply (Err why) t) a.s (length t) [] (made a.s t) g (laid (goal.at.returns c).In_ok-g).0 (laid (goal.at.returns c).In_ok-g).1 l)
    (record {
      answer = refl;
      bytes =
          c.link_free.ensures
          ∙ ap (linked g g.nob) (zeroed (goal.at.returns c).After-zero_bytes)
          ∙ new_bytes_lem g (opened_table a.s g (laid (goal.at.returns c).In_ok-g).0 (laid (goal.at.returns c).In_ok-g).1 t l).proper t l (λ j. omega (arith, c.slice_known-1.given j))
          ∙ ap (λ (x : Layout). new_bytes x t) (sym (laid (goal.at.returns c).In_ok-g).1);
    })

pub returns-in_err-g : goal.returns-in_err-g
unfolding make_call
returns-in_err-g c =
    let a = c.args in
    let t = a.t.now in
    let p = err_from_is_err_and c.from_residual.result c.from_residual.ensures.1 in
    let e = laid_refused a.s _ (sym c.layout.ensures ∙ c.in_err-g.was) in
    rw (p.1, p.2, due_settings (λ why. reply (Err why) t) a.s (length t) [] (made a.s t) e.0)
    (record { answer = ap Err (sym e.1); bytes = refl })
