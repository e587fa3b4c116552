-- Floors keep the rules of sites, and leave out no way. Assumes nothing.
use Rattle.std.specs.Prelude.{Option, Some, None}
use Rattle.cost.specs.Milliseconds.{milliseconds}
use Rattle.routes.specs.Sites.{Lawful}
use Rattle.site.specs.Directories.{Indexed}
use Rattle.floor.specs.declared.grid.Grid.{Grid}
use Rattle.floor.specs.declared.Floor.{Floor}
use Rattle.floor.specs.FloorSites.{grid_or_place, floor_meaning, directory_of, floor_directory}
use Rattle.floor.specs.GridLaws.{grid_lawful, grid_indexed, lone_lawful, lone_indexed}

lawful_if_grid : (g : Option Grid) → Lawful milliseconds (grid_or_place g)
lawful_if_grid (Some g) = grid_lawful g
lawful_if_grid None = lone_lawful

pub floor_lawful : (s : Floor) → Lawful milliseconds (floor_meaning s)
floor_lawful s = lawful_if_grid s.grid

indexed_if_grid : (g : Option Grid) → Indexed (grid_or_place g) (directory_of g)
indexed_if_grid (Some g) = grid_indexed g
indexed_if_grid None = lone_indexed

pub floor_indexed : (s : Floor) → Indexed (floor_meaning s) (floor_directory s)
floor_indexed s = indexed_if_grid s.grid
