use Rattle.std.proofs.Common.{◌≡◌, ◌+◌, ◌∷◌, ◌++◌, drop, sym, refl, ap, ◌∙◌, add-one}
use Rattle.cost.proofs.LengthLemmas.{infinite_not_finite}
use Rattle.sheet.specs.Sheets.{link_of}
use Rattle.search.specs.Trails.{trail}
use Rattle.search.proofs.Sweeps.{read_distance}
use Rattle.search.proofs.Walks.{trail_front}
use Rattle.search.proofs.route.tell_route.Goals as goal

pub returns-in-Finite : goal.returns-in-Finite
returns-in-Finite g c =
    let sheet = c.args.sheet.now in
    let link = link_of sheet in
    let target = c.args.target in
    let k = c.count_links-links.result in
    let near = sym (read_distance sheet target c.index-sheet-target.result c.requires.place c.index-sheet-target.is) ∙ c.in-Finite.is in
    let front : trail link (k + 1) target ≡ c.args.start ∷ trail link k target = ap (λ j. trail link j target) (add-one k) ∙ trail_front link k target ∙ ap (λ p. p ∷ trail link k target) c.count_links-links.ensures.here in
    record {
      some = λ d e. record { links = k; counted = refl; walked = c.count_links-links.ensures; placed = c.write_places.ensures ∙ ap (λ ps. ps ++ drop (k + 1) c.args.list.now) front };
      none = λ far. absurd (infinite_not_finite (sym far ∙ near));
    }
