use Rattle.std.proofs.Common.{sym}
use Rattle.page.proofs.Pages.{long}
use Rattle.page.proofs.page.Page.len.Goals as goal

pub returns-clause-len : goal.returns-clause-len
returns-clause-len g c = sym (long g.C.Codec.width g.C.Codec.decode c.self.inside.len c.self.inside.words c.self.view_is)
