-- What the question on a head and a table asks, part by part. Assumes nothing.
use Rattle.std.proofs.Common.{◌≡◌, ℕ, ◌*◌, ◌≤◌, true, List, [], ◌∷◌, length, refl, arith}
use Rattle.std.proofs.lemmas.List.{length-take}
use Rattle.std.proofs.lemmas.Bool.{and_parts, and_from}
use Rattle.std.proofs.lemmas.Grind.{common_steps}
use Rattle.tables.specs.Floors.{is_cell, AreCells}
use Rattle.tables.specs.States.{Cell}
use Rattle.tables.specs.declared.FloorHead.{FloorHead}
use Rattle.floor.specs.Floors.{is_head, are_cells, cells_of, SoundFloor}

cells_ranged : (free : ℕ) (xs : List Cell) → are_cells free xs ≡ true → AreCells free xs
cells_ranged free [] ok = tt
cells_ranged free (x ∷ xs) ok = let parts = and_parts (is_cell free x) (are_cells free xs) ok in (parts.0, cells_ranged free xs parts.1)

ranged_cells : (free : ℕ) (xs : List Cell) → AreCells free xs → are_cells free xs ≡ true
ranged_cells free [] ok = refl
ranged_cells free (x ∷ xs) ok = and_from (is_cell free x) (are_cells free xs) ok.0 (ranged_cells free xs ok.1)

module _ (h : FloorHead) (table : List Cell) where
  pub sound_parts : SoundFloor h table → (is_head h ≡ true) × (h.rows * h.columns ≤ length table) × (are_cells h.free (cells_of h table) ≡ true)
  sound_parts ok = (grind (arith, common_steps), omega (arith, length-take (h.rows * h.columns) table, ok.cells_counted), ranged_cells h.free (cells_of h table) ok.cells_ranged)

  pub sound_from : is_head h ≡ true → h.rows * h.columns ≤ length table → are_cells h.free (cells_of h table) ≡ true → SoundFloor h table
  sound_from head count cells = record {
    rows_ranged = grind (arith, common_steps);
    columns_ranged = grind (arith, common_steps);
    free_ranged = grind (arith, common_steps);
    cells_counted = omega (arith, length-take (h.rows * h.columns) table);
    cells_ranged = cells_ranged h.free (cells_of h table) cells;
  }
