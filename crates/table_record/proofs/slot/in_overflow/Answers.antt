-- The list that the block names is followed, and then asked whether it has the block.
use mathlib.Core.Path.{◌≡◌, refl, sym, ◌∙◌}
use mathlib.Core.Bool.{Bool, true, false}
use native.Mathlib.Omega.{arith}
use Rattle.std.proofs.lemmas.Result.{err_from_is_err_and}
use Rattle.table.specs.Decode.{decode}
use Rattle.table_read.specs.theory.Lasts.{ends_at, no_end}
use Rattle.table_read.specs.theory.Walks.{content_high}
use Rattle.table_record.proofs.Records.{goes_on, list_unended, list_followed}
use Rattle.table_record.proofs.Retrievals.{Listed, named, no_blocks, list_damaged, list_listed, not_listed, block_empty, block_slot_lem}
use Rattle.table_record.proofs.slot.in_overflow.Goals as goal
use Rattle.table_record.proofs.slot.in_overflow.Goals.{After-list_has_block}

-- whether block j is among the list's blocks
listed : (c : After-list_has_block) (x : Bool) → c.list_has_block.result ≡ x → let a = c.args in
    Listed a.g a.t.now c.owned_front-fields.result.owner.0 a.j.0 x
listed c x e =
    let g = c.args.g in
    let t = c.args.t.now in
    let i = c.owned_front-fields.result.owner.0 in
    let over = goes_on g (decode g t) i _ _ c.basic_front-front.ensures.0 c.basic_front-front.ensures.1 c.if-front-g.false c.if-front-g-2.false in
    let end = ends_at _ _ _ (sym c.follow.ensures ∙ c.in_ok-follow.was) in
    list_listed g t c.requires.0 i (named g t c.requires.0 c.args.j.0 c.requires.1 i c.owned_front-fields.ensures.2) c.basic_front-front.result.link over
    (omega (arith, end.is, end.low)) c.args.j.0 x (sym c.list_has_block.ensures ∙ e)

pub basic_front-front-requires : goal.basic_front-front-requires
basic_front-front-requires c =
    (c.requires.0, named c.args.g c.args.t.now c.requires.0 c.args.j.0 c.requires.1 _ c.owned_front-fields.ensures.2)

pub returns-then-front-g : goal.returns-then-front-g
returns-then-front-g c =
    no_blocks c.args.g c.args.t.now c.owned_front-fields.result.owner c.args.j.0 c.args.k c.owned_front-fields.ensures.2
    (omega (arith, c.basic_front-front.ensures.0, c.if-front-g.true))

pub returns-then-front-g-2 : goal.returns-then-front-g-2
returns-then-front-g-2 c =
    list_damaged c.args.g c.args.t.now c.owned_front-fields.result.owner c.args.j.0 c.args.k c.owned_front-fields.ensures.2
    (content_high c.args.g _ _ (omega (arith, c.basic_front-front.ensures.0, c.if-front-g-2.true)))

pub returns-in_err-follow : goal.returns-in_err-follow
returns-in_err-follow c =
    let g = c.args.g in
    let t = c.args.t.now in
    let i = c.owned_front-fields.result.owner in
    let over = goes_on g (decode g t) i.0 _ _ c.basic_front-front.ensures.0 c.basic_front-front.ensures.1 c.if-front-g.false c.if-front-g-2.false in
    rw ((err_from_is_err_and c.from_residual.result c.from_residual.ensures.1).1)
    (list_damaged g t i c.args.j.0 c.args.k c.owned_front-fields.ensures.2
    (list_unended g t c.requires.0 i.0 (named g t c.requires.0 c.args.j.0 c.requires.1 i.0 c.owned_front-fields.ensures.2) c.basic_front-front.result.link _ over refl
    (no_end g _ (sym c.follow.ensures ∙ c.in_err-follow.was))))

pub list_has_block-requires : goal.list_has_block-requires
list_has_block-requires c =
    let g = c.args.g in
    let t = c.args.t.now in
    let i = c.owned_front-fields.result.owner.0 in
    let over = goes_on g (decode g t) i _ _ c.basic_front-front.ensures.0 c.basic_front-front.ensures.1 c.if-front-g.false c.if-front-g-2.false in
    let end = ends_at _ _ _ (sym c.follow.ensures ∙ c.in_ok-follow.was) in (
      c.requires.0,
      list_followed g t c.requires.0 i (named g t c.requires.0 c.args.j.0 c.requires.1 i c.owned_front-fields.ensures.2) c.basic_front-front.result.link _ over end.is end.low,
    )

pub returns-then-not-list_has_block : goal.returns-then-not-list_has_block
returns-then-not-list_has_block c =
    not_listed c.args.g c.args.t.now c.owned_front-fields.result.owner c.args.j.0 c.args.k c.owned_front-fields.ensures.2
    (listed (goal.at.returns-then-not-list_has_block c).After-list_has_block false c.if-not-list_has_block.true)

pub returns-then-k-fields : goal.returns-then-k-fields
returns-then-k-fields c =
    block_empty c.args.g c.args.t.now c.owned_front-fields.result.owner c.args.j.0 c.args.k c.owned_front-fields.ensures.2 c.requires.0
    (named c.args.g c.args.t.now c.requires.0 c.args.j.0 c.requires.1 _ c.owned_front-fields.ensures.2)
    c.requires.1 c.requires.2 (listed (goal.at.returns-then-k-fields c).After-list_has_block true c.if-not-list_has_block.false) c.owned_front-fields.result.front.counter c.owned_front-fields.ensures.0
    (omega (arith, c.if-k-fields.true))

pub returns : goal.returns
returns c =
    block_slot_lem c.args.g c.args.t.now c.owned_front-fields.result.owner c.args.j.0 c.args.k c.owned_front-fields.ensures.2 c.requires.0
    (named c.args.g c.args.t.now c.requires.0 c.args.j.0 c.requires.1 _ c.owned_front-fields.ensures.2)
    c.requires.1 c.requires.2 (listed (goal.at.returns c).After-list_has_block true c.if-not-list_has_block.false) c.owned_front-fields.result.front.counter c.owned_front-fields.ensures.0
    c.overflow_slot.result c.overflow_slot.ensures (omega (arith, c.if-k-fields.false))
