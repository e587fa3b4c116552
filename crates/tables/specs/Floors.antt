-- What may stand in a floor's head and cells. Assumes nothing.
use Rattle.std.specs.Prelude.{◌≡◌, ℕ, ◌*◌, Bool, true, ◌&&◌, List, length, nat_le}
use Rattle.std.specs.List.{AllByRecursion}
use Rattle.tables.specs.States.{Cell}
use Rattle.tables.specs.declared.State.TheVariants.{Closed, Open}
use Rattle.tables.specs.declared.FloorHead.{FloorHead}

-- is n at least `lowest` and at most `highest`?
abbrev pub between : ℕ → ℕ → ℕ → Bool
between lowest highest n = nat_le lowest n && nat_le n highest

-- the most milliseconds that a segment may cost
abbrev pub longest_segment : ℕ
longest_segment = 1000000

-- rows and columns: 1 to 64
abbrev pub is_side : ℕ → Bool
is_side n = between 1 64 n

-- the free time: 1 to 1,000,000
abbrev pub is_free_time : ℕ → Bool
is_free_time n = between 1 longest_segment n

-- a cell is closed, or takes from the free time to 1,000,000
abbrev pub is_cell : ℕ → Cell → Bool
is_cell free Closed = true
is_cell free (Open time) = between free longest_segment time

abbrev pub AreCells : ℕ → List Cell → Type 0
AreCells free cells = AllByRecursion (λ cell. is_cell free cell ≡ true) cells

-- a floor, described: its numbers, and its cells row by row
pub record FloorDescription : Type 0 where
  pub head : FloorHead
  pub cells : List Cell

pub record KeepsRanges (d : FloorDescription) : Type 0 where
  pub rows_ranged : is_side d.head.rows ≡ true
  pub columns_ranged : is_side d.head.columns ≡ true
  pub free_ranged : is_free_time d.head.free ≡ true
  pub cells_counted : length d.cells ≡ d.head.rows * d.head.columns
  pub cells_ranged : AreCells d.head.free d.cells
