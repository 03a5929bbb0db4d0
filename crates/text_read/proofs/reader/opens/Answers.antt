-- A colon at either place.
use mathlib.Core.Path.{◌∙◌, sym}
use borrow.Author.Tests.{eq-eqb, ne_eqb}
use lib.ListN.{get_or}
use Rattle.text_read.specs.Class.{class_of, colon}
use Rattle.text_read.proofs.Parts.{opens_short, opens_long}
use Rattle.text_read.proofs.reader.opens.Goals as goal

pub returns-then-text-lt2 : goal.returns-then-text-lt2
returns-then-text-lt2 c = sym (opens_short c.args.text.now c.if-text-lt2.true)

pub returns-then-class-ne-COLON : goal.returns-then-class-ne-COLON
returns-then-class-ne-COLON c =
    let s = c.args.text.now in
    sym (opens_long s c.if-text-lt2.false ∙ rw (ne_eqb (class_of (get_or s 0 0)) colon (λ q. c.if-class-ne-COLON.true (c.class.ensures ∙ q))))

pub returns : goal.returns
returns c =
    let s = c.args.text.now in
    sym (opens_long s c.if-text-lt2.false ∙ rw (eq-eqb (class_of (get_or s 0 0)) colon (sym c.class.ensures ∙ c.if-class-ne-COLON.false), sym c.class-2.ensures))
