-- The cells of a floor. Assumes nothing.
use Rattle.std.proofs.Common.{◌≡◌, ℕ, ◌<◌, ◌≤◌, true, false, eqb, ◌⊎◌, List, ◌++◌, sym, refl, ap, ◌∙◌, subst, arith}
use Rattle.std.proofs.lemmas.Bool.{or_from, or_right, ne_eqb, cond-false}
use Rattle.tables.specs.States.{Cell}
use Rattle.tables.specs.declared.State.TheVariants.{Closed, Open}
use Rattle.tables.specs.Floors.{longest_segment, is_cell}
use Rattle.sitefile.specs.Numbers.{encode}
use Rattle.sitefile.specs.Formats.{FieldRead}
use Rattle.sitefile.specs.Floors.{cell_number, number_cell, is_cell_number, cells}
use Rattle.sitefile.proofs.Forms.{encode_same}
use Rattle.sitefile.proofs.Fields.{not_between, at_least, at_most, field_read}
use Rattle.sitefile.proofs.Runs.{RecordLaws}

pub no_cell : (free n : ℕ) → (n ≡ 0 → ⊥) → (n < free) ⊎ ((free ≤ n) × (longest_segment < n)) → is_cell_number free n ≡ false
no_cell free n some e = or_from _ _ (ne_eqb n 0 some) (not_between free longest_segment n e)

cell_field : (free : ℕ) (cell : Cell) (rest : List ℕ) → is_cell free cell ≡ true → FieldRead (is_cell_number free) (encode (cell_number cell) ++ rest) (cell_number cell) rest
cell_field free Closed rest e = field_read refl (omega arith) refl
cell_field free (Open time) rest e = field_read (or_right _ _ e) (omega (arith, at_most free longest_segment time e)) refl

-- a cell's number gives the cell back
cell_back : (free : ℕ) (cell : Cell) → 1 ≤ free → is_cell free cell ≡ true → number_cell (cell_number cell) ≡ cell
cell_back free Closed some e = refl
cell_back free (Open time) some e = cond-false (eqb time 0) Closed (Open time) (ne_eqb time 0 (λ z. omega (arith, at_least free longest_segment time e)))

pub cells_laws : (free : ℕ) → 1 ≤ free → RecordLaws (cells free)
cells_laws free some = record {
  carried = λ size T c before x next rest ok t.
      c.over_field (is_cell_number free) (λ n. next (number_cell n)) (encode (cell_number x) ++ rest) (cell_number x) rest (cell_field free x rest ok) (subst (λ y. T (next y) rest) (sym (cell_back free x some ok)) t);
  same = λ before x y r s a b e.
      let one = encode_same 4 (cell_number x) (cell_number y) r s e in
      (sym (cell_back free x some a) ∙ ap number_cell one.0 ∙ cell_back free y some b, one.1);
}
