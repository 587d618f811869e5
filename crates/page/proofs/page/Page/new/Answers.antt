use Rattle.std.proofs.Common.{refl}
use Rattle.page.specs.Layout.{rows}
use Rattle.page.proofs.page.Page.new.Goals as goal

pub returns : goal.returns
unfolding rows
returns g c = record { len = refl; after = refl }
