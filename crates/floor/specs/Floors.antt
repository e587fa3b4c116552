-- Which heads and tables describe a floor, and which site stands on any of them. Assumes nothing.
use Rattle.std.specs.Prelude.{◌≡◌, ℕ, ◌*◌, Bool, false, ◌&&◌, List, [], take}
use Rattle.std.specs.List.{list_all}
use Rattle.cost.specs.Milliseconds.{ms}
use Rattle.cost.specs.declared.milliseconds.Milliseconds.{Milliseconds}
use Rattle.cost.specs.declared.lengths.Length.TheVariants.{Infinite}
use Rattle.routes.specs.Sites.{Meaning}
use Rattle.tables.specs.Floors.{is_side, is_free_time, is_cell, KeepsRanges}
use Rattle.tables.specs.States.{Cell}
use Rattle.tables.specs.declared.FloorHead.{FloorHead}
use Rattle.floor.specs.Grids.{grid}

-- are the head's numbers in their ranges?
abbrev pub is_head : FloorHead → Bool
is_head head = is_side head.rows && is_side head.columns && is_free_time head.free

-- is each of these cells in its range?
abbrev pub are_cells : ℕ → List Cell → Bool
are_cells free cells = list_all (is_cell free) cells

-- the entries that are cells of the floor: the first rows × columns of them
abbrev pub cells_of : FloorHead → List Cell → List Cell
cells_of head table = take (head.rows * head.columns) table

-- The head's numbers are in their ranges, the table has an entry for each cell, and these are in their ranges. Entries past the cells may hold anything.
abbrev pub SoundFloor : FloorHead → List Cell → Type 0
SoundFloor head table = KeepsRanges (record { head = head; cells = cells_of head table })

-- the site of one place and no segment
abbrev pub lone_place : Meaning Milliseconds
lone_place = record {
  places = 1;
  segments = 0;
  ways = λ _. [];
  floor = λ _. ms 1;
  state = λ _. Infinite;
  settable = λ _. false;
  hint = λ _ _. ms 0;
}

-- the site that stands on a head and a table: the grid that they describe, or one place where they break the rules
pub record SiteOver (head : FloorHead) (table : List Cell) (site : Meaning Milliseconds) : Type 0 where
  pub sound : SoundFloor head table → site ≡ grid head (cells_of head table)
  pub faulty : (SoundFloor head table → ⊥) → site ≡ lone_place
