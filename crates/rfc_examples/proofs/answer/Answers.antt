-- The text that was written fits the array, by what the writer promises.
use Rattle.std.proofs.Common.{sym, ◌∙◌, arith, length-take-le}
use Rattle.text_write.specs.theory.Answered.{length_fits}
use Rattle.rfc_examples.proofs.answer.Goals as goal

pub slice_bounds-text-end : goal.slice_bounds-text-end
slice_bounds-text-end c = omega (arith, length_fits _ _ _ (sym c.write.ensures.answer ∙ c.in-Ok-write.is))

pub slice_bounds-write_all-end : goal.slice_bounds-write_all-end
slice_bounds-write_all-end c = sym (length-take-le _ _ (omega (arith, length_fits _ _ _ (sym c.write.ensures.answer ∙ c.in-Ok-write.is))))
