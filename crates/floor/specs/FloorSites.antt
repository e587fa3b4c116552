-- What a floor means: its grid, or one place where it has none. Assumes nothing.
use Rattle.std.specs.Prelude.{[], Option, Some, None}
use Rattle.cost.specs.declared.milliseconds.Milliseconds.{Milliseconds}
use Rattle.routes.specs.Sites.{Meaning}
use Rattle.site.specs.Directories.{Directory}
use Rattle.tables.specs.declared.FloorHead.{FloorHead}
use Rattle.floor.specs.declared.grid.Grid.{Grid}
use Rattle.floor.specs.declared.Floor.{Floor}
use Rattle.floor.specs.Grids.{grid, grid_directory}
use Rattle.floor.specs.Floors.{lone_place}

-- the numbers that a grid keeps
abbrev pub head_of : Grid → FloorHead
head_of g = record { rows = g.rows; columns = g.columns; free = g.free }

-- the site of a grid
abbrev pub grid_of : Grid → Meaning Milliseconds
grid_of g = grid (head_of g) g.cells.now

-- the site of a grid, or one place where there is none
abbrev pub grid_or_place : Option Grid → Meaning Milliseconds
grid_or_place (Some g) = grid_of g
grid_or_place None = lone_place

abbrev pub floor_meaning : Floor → Meaning Milliseconds
floor_meaning s = grid_or_place s.grid

-- one place has no way into it
abbrev pub no_directory : Directory
no_directory = record { sources = λ _. []; users = λ _. [] }

abbrev pub directory_of : Option Grid → Directory
directory_of (Some g) = grid_directory (head_of g)
directory_of None = no_directory

abbrev pub floor_directory : Floor → Directory
floor_directory s = directory_of s.grid
