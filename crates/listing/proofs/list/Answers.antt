use native.Mathlib.Omega.{arith}
use Rattle.print.proofs.Places.{whole}
use Rattle.listed.proofs.Fits.{text-fits}
use Rattle.listing.proofs.list.Goals as goal

pub returns-clause-text : goal.returns-clause-text
returns-clause-text c = (whole _ _ _ _ (omega (arith, text-fits c.args.file.now, c.requires)) c.put_listing.ensures).1
