use Rattle.std.proofs.Common.{◌≡◌, ◌<◌, ◌++◌, length, get_or, take, drop, sym, ◌∙◌, subst, arith, rules, length-take}
use Rattle.std.proofs.lemmas.List.{take_at}
use Rattle.cost.specs.Lengths.{Within}
use Rattle.sheet.specs.Sheets.{estimate_of}
use Rattle.search.specs.Searches.{Searched}
use Rattle.search.proofs.Sweeps.{read_distance}
use Rattle.search.proofs.Ends.{clear_estimates, links_lead, answer_within, marked_within, searched_all}
use Rattle.search.proofs.search.Goals as goal

pub offset_bounds-sheet-target : goal.offset_bounds-sheet-target
offset_bounds-sheet-target g c = let h : c.args.target < length c.args.sheet.now = omega (arith, c.requires.memory.0, c.requires.named.1) in search rules

pub tell_route-count-requires-clause-leads : goal.tell_route-count-requires-clause-leads
tell_route-count-requires-clause-leads g c =
    let m = g.S.Site.meaning c.args.site.now in
    let sheet = c.explore-opened.new.sheet in
    let long : length sheet ≡ m.places = omega (arith, c.places.ensures, length-take c.places.result c.args.sheet.now) in
    links_lead g.met.S.Cost.Cost.lawful g.met.S.Cost.PositiveCost.positive (g.met.S.Site.lawful c.args.site.now) c.args.start c.requires.named.0 sheet _ c.explore-opened.ensures.linked long

pub raise-requires : goal.raise-requires
raise-requires g c =
    let laws = g.met.S.Cost.Cost.lawful in
    let positive = g.met.S.Cost.PositiveCost.positive in
    let m = g.S.Site.meaning c.args.site.now in
    let lawful = g.met.S.Site.lawful c.args.site.now in
    let before = take c.places.result c.args.sheet.now in
    let sheet = c.explore-opened.new.sheet in
    let target = c.args.target in
    let long : length sheet ≡ m.places = omega (arith, c.places.ensures, length-take c.places.result c.args.sheet.now) in
    let same = clear_estimates before c.clear.new.sheet c.clear.ensures in
    let listed : target < length sheet = omega (arith, c.requires.named.1) in
    record {
      answer = subst (Within g.S.Cost.Cost.kind) (sym (read_distance sheet target c.index-sheet-target.result listed c.index-sheet-target.is)) (answer_within laws positive lawful c.args.start target c.requires.named.0 c.requires.named.1 before (estimate_of c.clear.new.sheet) same sheet sheet c.explore-opened.result c.explore-opened.ensures long);
      marked = marked_within laws positive lawful c.args.start target c.requires.named.0 c.requires.named.1 before (estimate_of c.clear.new.sheet) same sheet sheet c.explore-opened.result c.explore-opened.ensures long;
    }

pub returns-clause-searched : goal.returns-clause-searched
returns-clause-searched g c =
    let K = g.S.Cost.Cost.kind in
    let m = g.S.Site.meaning c.args.site.now in
    let n = c.places.result in
    let before = take n c.args.sheet.now in
    let sheet = c.explore-opened.new.sheet in
    let after = c.raise.new.sheet in
    let start = c.args.start in
    let target = c.args.target in
    let list = c.args.list.now in
    let list' = c.tell_route-count.new.list in
    let opened = c.explore-opened.result in
    let count = c.tell_route-count.result in
    let answer = (get_or sheet target c.index-sheet-target.result).distance in
    let long : length sheet ≡ m.places = omega (arith, c.places.ensures, length-take n c.args.sheet.now) in
    let same = clear_estimates before c.clear.new.sheet c.clear.ensures in
    let listed : target < length sheet = omega (arith, c.requires.named.1) in
    let front : take m.places (after ++ drop n c.args.sheet.now) ≡ after = take_at after (drop n c.args.sheet.now) m.places (c.raise.auto.sheet ∙ long) in
    let all = searched_all g.met.S.Cost.Cost.lawful g.met.S.Cost.PositiveCost.positive (g.met.S.Site.lawful c.args.site.now) start target c.requires.named.0 c.requires.named.1 before (estimate_of c.clear.new.sheet) same sheet after opened c.explore-opened.ensures long
    answer (read_distance sheet target c.index-sheet-target.result listed c.index-sheet-target.is) c.raise.ensures list list' count c.tell_route-count.ensures in
    subst (λ k. Searched K m start target (take k c.args.sheet.now) (take m.places (after ++ drop n c.args.sheet.now)) list list' answer opened count) c.places.ensures
    (subst (λ t. Searched K m start target before t list list' answer opened count) (sym front) all)
