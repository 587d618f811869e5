use Rattle.shrink.proofs.Evening.{pages_read, left_few, right_few, left_some, left_counted, right_counted, evened_above}
use Rattle.shrink.proofs.share.share.Goals as goal

pub store_page-requires-clause-few : goal.store_page-requires-clause-few
store_page-requires-clause-few g c =
    let s = c.requires.sharable in
    left_few s _ c.even_out-right.result (pages_read s c.most.ensures c.load_page-left.ensures.after c.load_page-right.ensures.after c.load_page-left.ensures.same _ c.even_out-right.result c.even_out-right.ensures)

pub page_entry-first-requires-clause-some : goal.page_entry-first-requires-clause-some
page_entry-first-requires-clause-some g c =
    let s = c.requires.sharable in
    left_some s _ c.even_out-right.result g.met.L.Level.wide (pages_read s c.most.ensures c.load_page-left.ensures.after c.load_page-right.ensures.after c.load_page-left.ensures.same _ c.even_out-right.result c.even_out-right.ensures)

pub page_entry-first-requires-clause-few : goal.page_entry-first-requires-clause-few
page_entry-first-requires-clause-few g c =
    let s = c.requires.sharable in
    left_counted s _ g.met.L.Level.adds c.even_out-right.result (pages_read s c.most.ensures c.load_page-left.ensures.after c.load_page-right.ensures.after c.load_page-left.ensures.same _ c.even_out-right.result c.even_out-right.ensures)

pub keep_or_release-second-requires-clause-few : goal.keep_or_release-second-requires-clause-few
keep_or_release-second-requires-clause-few g c =
    let s = c.requires.sharable in
    right_few s _ c.even_out-right.result (pages_read s c.most.ensures c.load_page-left.ensures.after c.load_page-right.ensures.after c.load_page-left.ensures.same _ c.even_out-right.result c.even_out-right.ensures)

pub keep_or_release-second-requires-clause-counted : goal.keep_or_release-second-requires-clause-counted
keep_or_release-second-requires-clause-counted g c =
    let s = c.requires.sharable in
    right_counted s _ g.met.L.Level.adds c.even_out-right.result (pages_read s c.most.ensures c.load_page-left.ensures.after c.load_page-right.ensures.after c.load_page-left.ensures.same _ c.even_out-right.result c.even_out-right.ensures)

pub returns-clause-above : goal.returns-clause-above
returns-clause-above g c =
    let s = c.requires.sharable in
    let v = pages_read s c.most.ensures c.load_page-left.ensures.after c.load_page-right.ensures.after c.load_page-left.ensures.same _ c.even_out-right.result c.even_out-right.ensures in
    evened_above s c.load_page-left.ensures.same c.load_page-right.ensures.same c.store_page.ensures g.L.Level.entry _ c.page_entry-first.ensures.value c.even_out-right.result v
    _ c.keep_or_release-second.ensures.value _ c.keep_or_release-second.ensures.after
