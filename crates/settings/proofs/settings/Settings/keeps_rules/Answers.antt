-- The code's `&` is the definition's `&&`, and a basic block without its counter is its slots.
use Rattle.std.proofs.Common.{◌≡◌, ◌+◌, ◌-◌, ◌*◌, ◌&&◌, leb, arith}
use Rattle.settings.specs.Sizes.{slot_bits, basic_block_bits}
use Rattle.settings.specs.Legal.{fits}
use Rattle.settings.specs.Layout.{layout_of}
use Rattle.settings.specs.declared.settings.Settings.{Settings}
use Rattle.settings.specs.declared.layout.Layout.{Layout}
use Rattle.settings.proofs.settings.Settings.keeps_rules.Goals as goal

module _ (s : Settings) (g : Layout) (e : g ≡ layout_of s) where
  -- the bits of a basic block are its counter's and its slots'
  slots : g.basic.bits ≡ g.basic.counter + s.sib * slot_bits s
  unfolding layout_of basic_block_bits
  slots = rw e

  same : (leb g.link (g.basic.bits - g.basic.counter) && leb g.bytes 16777216) ≡ fits s
  unfolding layout_of fits
  same =
      let h : g.basic.bits - g.basic.counter ≡ s.sib * slot_bits s = omega (arith, slots) in
      rw (h, e)

pub overflow_sub-result : goal.overflow_sub-result
overflow_sub-result c =
    omega (arith, slots c.args.self c.args.g c.requires.1)

pub returns : goal.returns
returns c =
    same c.args.self c.args.g c.requires.1
