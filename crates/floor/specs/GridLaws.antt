-- Grids and the lone place are lawful sites, and their directories leave out no way. Assumes nothing.
use Rattle.std.proofs.Common.{◌≡◌, ℕ, ◌+◌, ◌*◌, ◌/◌, ◌%◌, ◌<◌, ◌≤◌, true, leb, get_or, sym, refl, ap, ◌∙◌, subst, mul-zero, mul-one, mul-add, arith}
use mathlib.Core.List.Memᴰ
use mathlib.Core.List.{Memᴰ}
use Rattle.std.proofs.lemmas.Nat.{mul-le, div-mul-add, mod-mul-add}
use Rattle.std.proofs.lemmas.List.{length-map}
use Rattle.std.proofs.lemmas.Bool.{le-leb, and_from}
use Rattle.std.proofs.lemmas.Bool.Decides.{nat_tests}
use Rattle.cost.specs.Milliseconds.{ms, milliseconds}
use Rattle.cost.specs.declared.milliseconds.Milliseconds.{Milliseconds}
use Rattle.cost.specs.declared.lengths.Length.{Length}
use Rattle.cost.specs.declared.lengths.Length.TheVariants.{Finite, Infinite}
use Rattle.cost.proofs.LengthLemmas.{infinite_not_finite}
use Rattle.routes.specs.Sites.{Lawful, Way}
use Rattle.site.specs.Directories.{Indexed}
use Rattle.tables.specs.Floors.{is_cell, between, longest_segment}
use Rattle.tables.specs.States.{Cell}
use Rattle.tables.specs.declared.State.TheVariants.{Closed, Open}
use Rattle.floor.specs.declared.grid.Grid.{Grid}
use Rattle.floor.specs.Grids.{neighbours, into, apart, cell_length, grid_directory}
use Rattle.floor.specs.Floors.{lone_place}
use Rattle.floor.specs.FloorSites.{head_of, grid_of, no_directory}
use Rattle.floor.specs.GridWays.{way_into, few_neighbours, neighbour_of, each_around, row_inside, column_inside, neighbour_inside, neighbour_back}

-- a step of one cell changes the hint by at most the free time
step_hint : (free x y : ℕ) → x ≤ 1 + y → free * x ≤ free + free * y
step_hint free x y h = omega (arith, mul-le free x free (1 + y) (omega arith) h, mul-add free 1 y, mul-one free)

-- an open cell in its range
open_cell : (free : ℕ) (x : Cell) (c : Milliseconds) → is_cell free x ≡ true → cell_length x ≡ Finite c → between free longest_segment c.count ≡ true
open_cell free Closed c ok is = absurd (infinite_not_finite is)
open_cell free (Open time) c ok is = ap (between free longest_segment) (sym (ap count_of is)) ∙ ok
  where
    count_of : Length Milliseconds → ℕ
    count_of (Finite a) = a.count
    count_of Infinite = 0

module _ (g : Grid) where
  -- rows apart + columns apart
  steps : ℕ → ℕ → ℕ
  steps s t = apart (s / g.columns) (t / g.columns) + apart (s % g.columns) (t % g.columns)

  Near : ℕ → ℕ → ℕ → Type 0
  Near s t u = leb (g.free * steps s t) (g.free + g.free * steps u t) ≡ true

  near : (s t row column : ℕ) → column < g.columns → apart (s / g.columns) (t / g.columns) + apart (s % g.columns) (t % g.columns) ≤ 1 + (apart row (t / g.columns) + apart column (t % g.columns)) → Near s t (row * g.columns + column)
  unfolding Near steps
  near s t row column c less =
      rw (div-mul-add row g.columns column c, mod-mul-add row g.columns column c)
      (le-leb _ _ (step_hint g.free _ _ less))

  entered : (s u f : ℕ) → Way (grid_of g) s u f → Memᴰ u (neighbours g.rows g.columns s) × (f ≡ u)
  entered s u f way = way_into (neighbours g.rows g.columns s) u f way

  pub few_cells : g.rows * g.columns ≤ 4096
  few_cells = omega (arith, mul-le g.rows g.columns 64 64 g.rows_ranged.1 g.columns_ranged.1)

  pub some_cell : 1 ≤ g.rows * g.columns
  some_cell = omega (arith, mul-le 1 1 g.rows g.columns g.rows_ranged.0 g.columns_ranged.0)

  ranged : (f : ℕ) → f < g.rows * g.columns → is_cell g.free (get_or g.cells.now f Closed) ≡ true
  ranged f low = g.cells_ranged f Closed (let n = g.cells_counted in omega arith)

  pub grid_lawful : Lawful milliseconds (grid_of g)
  unfolding Near steps
  grid_lawful = record {
    places_some = some_cell;
    places_few = few_cells;
    segments_few = omega (arith, few_cells);
    ways_few = λ s. omega (arith, few_neighbours g.rows g.columns s, length-map (neighbours g.rows g.columns s) into);
    way_place = λ s u f way. neighbour_inside g.rows g.columns s u (entered s u f way).0;
    way_segment = λ s u f way. let e = entered s u f way in let same = e.1 in let inside = neighbour_inside g.rows g.columns s u e.0 in omega arith;
    floor_segment = λ f low. and_from _ _ (le-leb 1 g.free g.free_ranged.0) (le-leb g.free longest_segment g.free_ranged.1);
    state_segment = λ f c low is. let ok = open_cell g.free (get_or g.cells.now f Closed) c (ranged f low) is in let some = g.free_ranged.0 in grind (arith, nat_tests);
    state_floor = λ f c low is. let ok = open_cell g.free (get_or g.cells.now f Closed) c (ranged f low) is in grind (arith, nat_tests);
    hint_within = λ s t hs ht.
        let rs = row_inside g.rows g.columns s hs in
        let cs = column_inside g.rows g.columns s hs in
        let rt = row_inside g.rows g.columns t ht in
        let ct = column_inside g.rows g.columns t ht in
        let few : apart (s / g.columns) (t / g.columns) + apart (s % g.columns) (t % g.columns) ≤ 126 = omega (arith, g.rows_ranged.1, g.columns_ranged.1) in
        le-leb _ _ (omega (arith, mul-le g.free (apart (s / g.columns) (t / g.columns) + apart (s % g.columns) (t % g.columns)) longest_segment 126 g.free_ranged.1 few));
    hint_self = λ t low. ap ms (ap (λ n. g.free * n) (let z : apart (t / g.columns) (t / g.columns) + apart (t % g.columns) (t % g.columns) ≡ 0 = omega arith in z) ∙ mul-zero g.free);
    hint_way = λ s u f t hs ht way.
        let from = neighbour_of g.rows g.columns s u (entered s u f way).0 in
        let r = row_inside g.rows g.columns s hs in
        let c = column_inside g.rows g.columns s hs in
        each_around g.rows g.columns (s / g.columns) (s % g.columns) (Near s t)
        (λ e. near s t _ _ c (omega arith))
        (λ e. near s t _ _ e (omega arith))
        (λ e. near s t _ _ c (omega arith))
        (λ e. near s t _ _ (omega arith) (omega arith))
        u from.1;
  }

  pub grid_indexed : Indexed (grid_of g) (grid_directory (head_of g))
  grid_indexed = record {
    sources_few = λ u. omega (arith, few_neighbours g.rows g.columns u);
    users_few = λ f. omega (arith, few_neighbours g.rows g.columns f);
    sources_places = λ u s is. neighbour_inside g.rows g.columns u s is;
    users_places = λ f s is. neighbour_inside g.rows g.columns f s is;
    source_found = λ s u f low way other. neighbour_back g.rows g.columns s u (entered s u f way).0;
    user_found = λ s u f low way other. let e = entered s u f way in subst (λ k. Memᴰ s (neighbours g.rows g.columns k)) (sym e.1) (neighbour_back g.rows g.columns s u e.0);
  }

pub lone_lawful : Lawful milliseconds lone_place
lone_lawful = record {
  places_some = omega arith;
  places_few = omega arith;
  segments_few = omega arith;
  ways_few = λ s. omega arith;
  way_place = λ s u f way. absurd (Memᴰ.not-nil way);
  way_segment = λ s u f way. absurd (Memᴰ.not-nil way);
  floor_segment = λ f h. absurd (omega arith);
  state_segment = λ f c h is. absurd (omega arith);
  state_floor = λ f c h is. absurd (omega arith);
  hint_within = λ s t hs ht. refl;
  hint_self = λ t h. refl;
  hint_way = λ s u f t hs ht way. absurd (Memᴰ.not-nil way);
}

pub lone_indexed : Indexed lone_place no_directory
lone_indexed = record {
  sources_few = λ u. omega arith;
  users_few = λ f. omega arith;
  sources_places = λ u s is. absurd (Memᴰ.not-nil is);
  users_places = λ f s is. absurd (Memᴰ.not-nil is);
  source_found = λ s u f low way other. absurd (Memᴰ.not-nil way);
  user_found = λ s u f low way other. absurd (Memᴰ.not-nil way);
}
