use Rattle.std.proofs.Common.{◌≡◌, ◌-◌, ◌<◌, ◌≤◌, ◌++◌, length, drop, sym, ap, ◌∙◌, subst, arith}
use Rattle.sheet.specs.Sheets.{link_of}
use Rattle.search.specs.Trails.{walk, trail}
use Rattle.search.proofs.Walks.{read_link, walk_zero, trail_zero, walk_back, write_back}
use Rattle.search.proofs.route.write_places.Goals as goal

pub loop-at-init : goal.loop-at-init
loop-at-init g c =
    let link = link_of c.args.sheet.now in
    let target = c.args.target in
    let n = c.args.count in
    let none : n - n ≡ 0 = omega arith in (
      sym (ap (λ k. walk link k target) none ∙ walk_zero link target),
      sym (ap (λ ps. ps ++ drop n c.args.list.now) (ap (λ k. trail link k target) none ∙ trail_zero link target)),
    )

pub loop-at-preserved : goal.loop-at-preserved
loop-at-preserved g c =
    let sheet = c.args.sheet.now in
    let link = link_of sheet in
    let target = c.args.target in
    let n = c.args.count in
    let left = c.loop-at.at in
    let some : 0 < left = omega arith in
    let fits : left ≤ n = omega arith in
    let is = c.loop-at.invariant.0 in
    let listed : c.loop-at.place < length sheet = subst (λ p. p < length sheet) (sym is) (c.requires.places (n - left) (omega arith)) in (
      read_link sheet c.loop-at.place c.index-sheet-place.result listed c.index-sheet-place.is ∙ walk_back link target n left some fits c.loop-at.place is,
      write_back link target n left some fits c.loop-at.list (drop n c.args.list.now) c.loop-at.place (omega (arith, c.requires.room, c.loop-at.auto.list)) is c.loop-at.invariant.1,
    )
