-- A grid of cells. The cell at row r, column c is number r × columns + c: a place, and the segment that is used to enter it. Assumes nothing.
use Rattle.std.specs.Prelude.{ℕ, ◌+◌, ◌-◌, ◌*◌, ◌/◌, ◌%◌, true, cond, List, [], ◌∷◌, map, Option, nat_lt, slice_index_or}
use Rattle.std.specs.Bool.{then_some}
use Rattle.std.specs.List.{filter_map}
use Rattle.cost.specs.Milliseconds.{ms}
use Rattle.cost.specs.declared.milliseconds.Milliseconds.{Milliseconds}
use Rattle.cost.specs.declared.lengths.Length.{Length}
use Rattle.cost.specs.declared.lengths.Length.TheVariants.{Finite, Infinite}
use Rattle.routes.specs.Sites.{Meaning}
use Rattle.site.specs.Directories.{Directory}
use Rattle.tables.specs.States.{Cell}
use Rattle.tables.specs.declared.State.TheVariants.{Closed, Open}
use Rattle.tables.specs.declared.FloorHead.{FloorHead}

-- the cells up, right, down and left of a cell, each where there is one
abbrev pub around : ℕ → ℕ → ℕ → ℕ → List (Option ℕ)
around rows columns row column =
    then_some (nat_lt 0 row) ((row - 1) * columns + column)
    ∷ then_some (nat_lt (column + 1) columns) (row * columns + (column + 1))
    ∷ then_some (nat_lt (row + 1) rows) ((row + 1) * columns + column)
    ∷ then_some (nat_lt 0 column) (row * columns + (column - 1))
    ∷ []

-- what is there of a list of options, in order
abbrev pub present : {X : Type 0} → List (Option X) → List X
present xs = filter_map (λ x. x) xs

-- the neighbours of cell p, in that order; a number that is no cell has none
abbrev pub neighbours : ℕ → ℕ → ℕ → List ℕ
neighbours rows columns p = cond (nat_lt p (rows * columns)) (present (around rows columns (p / columns) (p % columns))) []

-- a way uses the segment with the number of the cell entered
abbrev pub into : ℕ → ℕ × ℕ
into cell = (cell, cell)

-- the present cost of entering a cell
abbrev pub cell_length : Cell → Length Milliseconds
cell_length Closed = Infinite
cell_length (Open time) = Finite (ms time)

-- how far two numbers are apart
abbrev pub apart : ℕ → ℕ → ℕ
apart a b = (a - b) + (b - a)

-- The site of a floor with these numbers and cells: a place and a segment for each cell, ways to its neighbours, and all segments settable. Every floor cost is the free time, and the hint is that × (rows apart + columns apart).
abbrev pub grid : FloorHead → List Cell → Meaning Milliseconds
grid head cells = record {
  places = head.rows * head.columns;
  segments = head.rows * head.columns;
  ways = λ p. map into (neighbours head.rows head.columns p);
  floor = λ _. ms head.free;
  state = λ f. cell_length (slice_index_or cells f Closed);
  settable = λ _. true;
  hint = λ s t. ms (head.free * (apart (s / head.columns) (t / head.columns) + apart (s % head.columns) (t % head.columns)));
}

-- each way into a cell comes from a neighbour
abbrev pub grid_directory : FloorHead → Directory
grid_directory head = record {
  sources = neighbours head.rows head.columns;
  users = neighbours head.rows head.columns;
}
