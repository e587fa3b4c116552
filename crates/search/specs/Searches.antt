-- What a search answers and leaves. Assumes nothing.
use Rattle.std.specs.Prelude.{◌≡◌, ℕ, ◌+◌, ◌<◌, List, ◌∷◌, ◌++◌, length, drop}
use Rattle.cost.specs.declared.lengths.Length.{Length}
use Rattle.cost.specs.declared.lengths.Length.TheVariants.{Finite, Infinite}
use Rattle.cost.specs.Costs.{Kind}
use Rattle.routes.specs.Sites.{Meaning}
use Rattle.routes.specs.Routes.{distance, Route, route_cost}
use Rattle.routes.specs.Estimates.{searched}
use Rattle.routes.specs.Loops.{Outcome, Along}
use Rattle.routes.specs.Counts.{count}
use Rattle.sheet.specs.declared.Entry.{Entry}
use Rattle.sheet.specs.Sheets.{estimate_of, distance_of, link_of, mark_of}
use Rattle.search.specs.Trails.{trail, Walked}

-- The list begins with the n places that the links lead through from the start to the target; the entries after them are kept.
pub record Written {C : Type 0} (sheet : List (Entry C)) (start target : ℕ) (list after : List ℕ) (n : ℕ) : Type 0 where
  pub links : ℕ
  pub counted : n ≡ links + 1
  pub walked : Walked sheet start target start links
  pub placed : after ≡ (start ∷ trail (link_of sheet) links target) ++ drop n list

-- the same where the target has a distance; else nothing is written
pub record Told {C : Type 0} (sheet : List (Entry C)) (start target : ℕ) (list after : List ℕ) (n : ℕ) : Type 0 where
  pub some : (c : C) → distance_of sheet target ≡ Finite c → Written sheet start target list after n
  pub none : distance_of sheet target ≡ Infinite → (n ≡ 0) × (after ≡ list)

-- A search from the start to the target, on the records of the places before and after it.
pub record Searched {C : Type 0} (K : Kind C) (m : Meaning C) (start target : ℕ) (before after : List (Entry C)) (list list' : List ℕ) (answer : Length C) (opened n : ℕ) : Type 0 where
  pub answered : answer ≡ distance K m start target
  -- the marks, distances and links
  pub outcome : Outcome K m start target (estimate_of before) (distance_of after) (mark_of after) (link_of after)
  pub estimates : (s : ℕ) → s < m.places → estimate_of after s ≡ searched K m start target (estimate_of before) s
  pub counted : opened ≡ count (mark_of after) m.places
  -- the list begins with a cheapest route, start first, of marked places but for the last; its other entries are kept
  pub route : (c : C) → answer ≡ Finite c → (ps : List ℕ) × (list' ≡ (start ∷ ps) ++ drop n list) × (n ≡ length ps + 1) × Route m start target ps × (route_cost K m start ps ≡ answer) × Along (mark_of after) start ps
  pub no_route : answer ≡ Infinite → (n ≡ 0) × (list' ≡ list)
