use Rattle.std.proofs.Common.{sym, ◌∙◌}
use Rattle.tree.proofs.Imaging.{page_fits}
use Rattle.tree.proofs.pages.load_page.Goals as goal

pub read_page-requires-clause-fits : goal.read_page-requires-clause-fits
read_page-requires-clause-fits g c = page_fits g.L.Entry.Codec.width g.L.Entry.Codec.decode g.L.Level.read g.met.L.Level.reads g.L.Level.most g.met.L.Level.fits ((g.W.Store.memory c.args.m.now).block c.args.b) c.requires.few

pub returns-clause-after : goal.returns-clause-after
returns-clause-after g c = c.read_page.ensures.after ∙ sym (g.met.L.Level.reads _)
