-- The file of a floor. Assumes nothing.
use Rattle.std.specs.Prelude.{◌≡◌, ℕ, ◌*◌, ◌≤◌, Bool, true, cond, ◌||◌, nat_le, List, [], ◌∷◌, ◌++◌, length, drop, Ok, Err, Result, ◌==◌}
use Rattle.tables.specs.States.{Cell}
use Rattle.tables.specs.declared.State.TheVariants.{Closed, Open}
use Rattle.tables.specs.declared.FloorHead.{FloorHead}
use Rattle.tables.specs.Floors.{between, longest_segment, is_side, is_free_time, is_cell, FloorDescription, KeepsRanges}
use Rattle.sitefile.specs.declared.fault.Fault.{Fault}
use Rattle.sitefile.specs.Faults.{small_table}
use Rattle.sitefile.specs.Numbers.{encode}
use Rattle.sitefile.specs.Formats.{Format, ended, check, field, FirstFault}
use Rattle.sitefile.specs.Records.{Records, encode_all, many}

-- the byte that a floor's file begins with
abbrev pub floor_kind : ℕ
floor_kind = 0x46

-- a cell is stored as its time, or 0 for closed
abbrev pub cell_number : Cell → ℕ
cell_number Closed = 0
cell_number (Open time) = time

abbrev pub number_cell : ℕ → Cell
number_cell n = cond (n == 0) Closed (Open n)

abbrev pub is_cell_number : ℕ → ℕ → Bool
is_cell_number free n = n == 0 || between free longest_segment n

-- the cells of a floor with this free time
abbrev pub cells : ℕ → Records Cell
cells free = record {
  encode = λ cell rest. encode (cell_number cell) ++ rest;
  format = λ _ next. field (is_cell_number free) (λ n. next (number_cell n));
  allowed = λ _ cell. is_cell free cell;
}

abbrev pub encode_head : FloorHead → List ℕ → List ℕ
encode_head head rest = encode head.rows ++ (encode head.columns ++ (encode head.free ++ rest))

-- rows, columns, free time, then each cell row by row
abbrev pub floor_bytes : FloorDescription → List ℕ
floor_bytes d = encode_head d.head (encode_all (cells d.head.free) d.cells [])

-- the kind, and then those
abbrev pub floor_layout : FloorDescription → List ℕ
floor_layout d = floor_kind ∷ floor_bytes d

-- what follows the first byte, where the table of cells has `entries` entries: that is asked as soon as the sides are known
abbrev pub floor_format : ℕ → Format
floor_format entries =
    field is_side (λ rows. field is_side (λ columns. check (nat_le (rows * columns) entries) small_table (field is_free_time (λ free. many (cells free) (rows * columns) [] (λ _. ended)))))

-- the head of a floor, for which the table is large enough
pub record HeadRead (entries : ℕ) (bytes : List ℕ) (head : FloorHead) (rest : List ℕ) : Type 0 where
  pub form : bytes ≡ encode_head head rest
  pub rows_ranged : is_side head.rows ≡ true
  pub columns_ranged : is_side head.columns ≡ true
  pub free_ranged : is_free_time head.free ≡ true
  pub roomy : nat_le (head.rows * head.columns) entries ≡ true

-- What reading a floor after the first byte comes to: a floor that the bytes describe, whose cells then stand in the table, or the first fault.
abbrev pub LoadsFloor : ℕ → List ℕ → List Cell → List Cell → Result FloorHead Fault → Type 0
LoadsFloor size bytes table table' (Ok head) =
    (d : FloorDescription) × KeepsRanges d × (bytes ≡ floor_bytes d) × (length d.cells ≤ length table) × (head ≡ d.head) × (table' ≡ d.cells ++ drop (length d.cells) table)
LoadsFloor size bytes table table' (Err f) = FirstFault size (floor_format (length table)) bytes f × (table' ≡ table)
