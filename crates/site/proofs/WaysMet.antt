-- What a walk over the ways out of a place meets. Assumes nothing.
use Rattle.std.proofs.Common.{◌≡◌, ℕ, ◌<◌, List, length, map, get_or, Option, Some, None, sym, ap, ◌∙◌, subst}
use Rattle.std.proofs.lemmas.Bool.{lt-ltb, cond-true}
use Rattle.std.proofs.lemmas.List.{length-map, get_or-map, get_or_default}
use Rattle.std.specs.Iterator.{Yields, YieldsFirst}
use Rattle.std.proofs.lemmas.Iterator.{YieldsList}
use Rattle.std.proofs.lemmas.Iterator.Consumers.{YieldsList-from_first, YieldsList-turn, YieldsList-end}
use Rattle.routes.specs.Sites.{Meaning}
use Rattle.site.specs.declared.Way.{Way}
use Rattle.site.specs.declared.Ways.{Ways}
use Rattle.site.specs.Questions.{WayAt}
use Rattle.site.specs.WaysOut.{way_from, ways_of, ways_left}

module _ {C : Type 0} (m : Meaning C) (p : ℕ) (place : p < m.places) where
  ways_all : ways_of m p ≡ map way_from (m.ways p)
  ways_all = cond-true _ _ _ (lt-ltb p m.places place)

  pub ways_count : length (ways_of m p) ≡ length (m.ways p)
  ways_count = ap length ways_all ∙ length-map (m.ways p) way_from

  -- the walk's next way answers the question of its index
  pub way_met : (i : ℕ) (w : Way) → (i < length (ways_of m p)) × (w ≡ get_or (ways_of m p) i w) → WayAt m p i (Some w)
  way_met i w next =
      let l : i < length (m.ways p) = subst (λ n. i < n) ways_count next.0 in
      let is : w ≡ way_from (get_or (m.ways p) i (0, 0)) =
      next.1 ∙ get_or_default (ways_of m p) i w (way_from (0, 0)) next.0 ∙ ap (λ ws. get_or ws i (way_from (0, 0))) ways_all ∙ get_or-map way_from (m.ways p) i (0, 0) (way_from (0, 0)) l in
      (place, l, λ t. ((sym is t).end, (sym is t).segment))

-- the same of a walk by `for` from its beginning, s, that gave the ways xs and stands at t
module _ {C S : Type 0} (meaning : S → Meaning C) (m : Meaning C) (p : ℕ) (place : p < m.places) (made s : Ways S) (all : ways_left meaning made ≡ ways_of m p) (into : s ≡ made)
    (xs : List Way) (t : Ways S) (yielded : Yields (YieldsFirst (ways_left meaning)) s xs t) (r : Option Way) (u : Ways S) (step : YieldsFirst (ways_left meaning) t r u) where
  ways_given : YieldsList (YieldsFirst (ways_left meaning)) (λ w. w) s (ways_of m p)
  ways_given = YieldsList-from_first (λ w. w) (ways_left meaning) (ways_of m p) (ap (ways_left meaning) into ∙ all)

  pub walk_meets : (w : Way) → r ≡ Some w → WayAt m p (length xs) (Some w)
  walk_meets w is = way_met m p place (length xs) w (YieldsList-turn ways_given xs t yielded r u w is step)

  pub walk_ends : r ≡ None → length xs ≡ length (m.ways p)
  walk_ends is = (YieldsList-end ways_given xs t yielded r u is step).1 ∙ ways_count m p place
