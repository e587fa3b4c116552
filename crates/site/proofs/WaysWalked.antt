-- One step of a walk over the ways out of a place.
use Rattle.std.proofs.Common.{◌≡◌, ℕ, ◌+◌, ◌<◌, ◌∷◌, drop, map, get_or, Some, sym, ◌∙◌, ap, subst}
use Rattle.std.proofs.lemmas.Bool.{lt-ltb, cond-true}
use Rattle.std.proofs.lemmas.List.{drop_more, length-map, get_or-map}
use Rattle.routes.specs.Sites.{Meaning}
use Rattle.site.specs.declared.Way.{Way}
use Rattle.site.specs.Questions.{WayAt}
use Rattle.site.specs.WaysOut.{way_from, ways_of}

pub next_way : {C : Type 0} (m : Meaning C) (p i : ℕ) (w : Way) → WayAt m p i (Some w) → drop i (ways_of m p) ≡ w ∷ drop (i + 1) (ways_of m p)
next_way m p i w at =
    let all : ways_of m p ≡ map way_from (m.ways p) = cond-true _ _ _ (lt-ltb p m.places at.0) in
    let found : get_or (map way_from (m.ways p)) i (way_from (0, 0)) ≡ w = get_or-map way_from (m.ways p) i (0, 0) (way_from (0, 0)) at.1 ∙ ap way_from at.2 in
    let step : drop i (map way_from (m.ways p)) ≡ w ∷ drop (i + 1) (map way_from (m.ways p)) = drop_more (map way_from (m.ways p)) i (way_from (0, 0)) (subst (λ n. i < n) (sym (length-map (m.ways p) way_from)) at.1) ∙ ap (λ v. v ∷ drop (i + 1) (map way_from (m.ways p))) found in
    subst (λ ws. drop i ws ≡ w ∷ drop (i + 1) ws) (sym all) step
