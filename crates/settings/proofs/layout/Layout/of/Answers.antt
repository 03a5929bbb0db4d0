-- Each number is what its callee promises, and all sums are linear.
use Rattle.std.proofs.Common.{◌≡◌, ℕ, ◌+◌, ◌-◌, ◌*◌, ◌/◌, ◌^◌, ◌≤◌, ap, arith, pow_mono}
use Rattle.settings.specs.Log.{ceil_log2}
use Rattle.settings.specs.Sizes.{link_bits, lists, overflow_start, table_bits, table_bytes}
use Rattle.settings.specs.Layout.{basic_blocks, overflow_blocks, layout_of}
use Rattle.settings.specs.theory.Proper.{widths_small}
use Rattle.settings.specs.declared.settings.Settings.{Settings}
use Rattle.settings.specs.declared.layout.Blocks.{Blocks}
use Rattle.settings.proofs.layout.Layout.of.Goals as goal
use Rattle.settings.proofs.layout.Layout.of.Goals.{After-struct_known-2-1, After-struct_known-3-1}

pub blocks_bits-requires : goal.blocks_bits-requires
blocks_bits-requires c =
    (omega (arith, c.lists_of-lists.ensures.0, pow_mono c.requires.bii_high), c.basic-basic.ensures.2)

-- what the overflow blocks stand behind
behind : (s : Settings) (b : Blocks) (n m : ℕ) → b ≡ basic_blocks s → n ≡ 2 ^ s.bii → m ≡ n * b.bits → b.start + m ≡ overflow_start s
unfolding lists overflow_start
behind s b n m eb en em = rw (em, en, eb)

behind_is : (c : After-struct_known-2-1) → c.basic-basic.result.start + c.blocks_bits.result ≡ overflow_start c.args.s
behind_is c =
    behind _ _ _ _ c.basic-basic.ensures.0 c.lists_of-lists.ensures.0 c.blocks_bits.ensures.0

pub overflow_add-link : goal.overflow_add-link
unfolding link_bits
overflow_add-link c =
    omega (arith, c.ceil_log2-link.ensures, c.wide.ensures, c.requires.bii_high, (widths_small c.args.s c.requires).0)

pub overflow-overflow-requires : goal.overflow-overflow-requires
unfolding link_bits
overflow-overflow-requires c = (
  c.requires,
  omega (arith, c.wide-bie.ensures, c.wide-val.ensures),
  omega (arith, c.ceil_log2-link.ensures, c.wide.ensures),
  behind_is (goal.at.overflow-overflow-requires c).After-struct_known-2-1,
)

-- the start that the overflow blocks were given
given : (c : After-struct_known-3-1) → c.overflow-overflow.result.start ≤ 2676228112
given c =
    omega (
      arith,
      ap (λ (b : Blocks). b.start) c.overflow-overflow.ensures.0,
      behind _ _ _ _ c.basic-basic.ensures.0 c.lists_of-lists.ensures.0 c.blocks_bits.ensures.0,
      c.basic-basic.ensures.1,
      c.blocks_bits.ensures.1,
    )

pub overflow_add-bits : goal.overflow_add-bits
overflow_add-bits c = omega (arith, given (goal.at.overflow_add-bits c).After-struct_known-3-1, c.blocks_bits-2.ensures.1)

pub overflow_cast-result : goal.overflow_cast-result
overflow_cast-result c =
    omega (arith, c.lists_of-lists.ensures.0, pow_mono c.requires.bii_high)

pub overflow_add-result : goal.overflow_add-result
overflow_add-result c = omega (arith, given (goal.at.overflow_add-result c).After-struct_known-3-1, c.blocks_bits-2.ensures.1)

-- the layout from its numbers, each as the code computes it from those before
laid : (s : Settings) (e v b n o p l m : ℕ) (basic overflow : Blocks)
    → e ≡ s.w - s.bii → v ≡ s.val → b ≡ s.sib → n ≡ s.nob → o ≡ s.sio → p ≡ 2 ^ s.bii → l ≡ ceil_log2 s.nob
    → basic ≡ basic_blocks s → overflow ≡ overflow_blocks s → m ≡ n * overflow.bits
    → record {
      bie = e;
      val = v;
      slot = e + v;
      sib = b;
      nob = n;
      sio = o;
      lists = p;
      link = l;
      owner = s.bii;
      basic = basic;
      overflow = overflow;
      bits = overflow.start + m;
      bytes = (overflow.start + m + 7) / 8;
    } ≡ layout_of s
unfolding layout_of link_bits lists table_bits table_bytes
laid s e v b n o p l m basic overflow ee ev eb en eo ep el eB eO em = rw (em, eO, eB, el, ep, eo, en, eb, ev, ee)

pub returns : goal.returns
returns c =
    laid _ _ _ _ _ _ _ _ _ _ _
    c.wide-bie.ensures
    c.wide-val.ensures
    c.wide-2.ensures
    c.wide-nob.ensures
    c.wide-3.ensures
    c.lists_of-lists.ensures.0
    c.ceil_log2-link.ensures
    c.basic-basic.ensures.0
    c.overflow-overflow.ensures.0
    c.blocks_bits-2.ensures.0
