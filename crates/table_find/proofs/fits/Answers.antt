-- The quotient is 0 where no bit stands above.
use Rattle.table_find.proofs.Bits.{fits_is}
use Rattle.table_find.proofs.fits.Goals as goal

pub returns : goal.returns
returns c = fits_is c.args.label c.args.val
