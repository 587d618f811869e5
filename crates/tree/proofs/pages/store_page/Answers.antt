use Rattle.std.proofs.Common.{mul-le-mul_right, arith}
use Rattle.tree.proofs.Imaging.{writing_page}
use Rattle.tree.proofs.pages.store_page.Goals as goal

pub write_page-requires-clause-fits : goal.write_page-requires-clause-fits
write_page-requires-clause-fits g c = omega (arith, mul-le-mul_right g.L.Entry.Codec.width c.requires.few, g.met.L.Level.fits)

pub returns : goal.returns
returns g c = writing_page g.L.Entry.Codec.width g.L.Entry.Codec.decode g.L.Level.read g.met.L.Level.reads c.write_page.ensures
