use Rattle.page.specs.Readers.{first_key}
use Rattle.page.proofs.kind.table.TablesKind.leaf_summary.Goals as goal

pub returns : goal.returns
returns c = first_key c.args.page.now c.get.result c.requires c.get.ensures.value
