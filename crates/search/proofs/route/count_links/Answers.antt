use Rattle.std.proofs.Common.{◌+◌, ◌<◌, length, sym, subst, arith}
use Rattle.routes.proofs.Links.{rank}
use Rattle.sheet.specs.Sheets.{distance_of, link_of}
use Rattle.search.specs.Trails.{Walked}
use Rattle.search.proofs.Walks.{read_link, rank_below, walked_none, walked_rank, walked_more}
use Rattle.search.proofs.route.count_links.Goals as goal

pub loop-place-init : goal.loop-place-init
loop-place-init g c =
    let laws = g.met.C.Cost.lawful in
    let sheet = c.args.sheet.now in
    (walked_none laws sheet c.args.start c.args.target c.requires.found, (omega (arith, rank_below laws (length sheet) (distance_of sheet) c.args.target c.requires.found.0)))

pub loop-place-preserved : goal.loop-place-preserved
loop-place-preserved g c =
    let laws = g.met.C.Cost.lawful in
    let K = g.C.Cost.kind in
    let sheet = c.args.sheet.now in
    let start = c.args.start in
    let target = c.args.target in
    let place = c.loop-place.place in
    let k = c.loop-place.links in
    let walked = c.loop-place.invariant.0 in
    let away = c.loop-place-test.true in
    let falls = walked_rank laws sheet start target place k walked c.requires.leads away in
    let near : k + 1 + rank K (length sheet) (distance_of sheet) (link_of sheet place) < length sheet = omega (arith, c.loop-place.invariant.1) in
    subst (λ p. Walked sheet start target p (k + 1) × (k + 1 + rank K (length sheet) (distance_of sheet) p < length sheet)) (sym (read_link sheet place c.index-sheet-place.result walked.led.0 c.index-sheet-place.is))
    (walked_more laws sheet start target place k walked c.requires.leads away (omega arith), near)
