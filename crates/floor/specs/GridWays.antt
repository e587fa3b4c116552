-- The ways of a grid: where they lead, and from where they are found. Assumes nothing.
use Rattle.std.proofs.Common.{◌≡◌, ℕ, ◌+◌, ◌-◌, ◌*◌, ◌/◌, ◌%◌, ◌<◌, ◌≤◌, Bool, true, List, [], ◌∷◌, map, length, Some, sym, ap, ◌∙◌, subst, ⊎_elim, mul-zero, arith}
use mathlib.Core.List.Memᴰ
use mathlib.Core.List.{Memᴰ}
use Rattle.std.specs.Bool.{then_some}
use Rattle.std.proofs.lemmas.Nat.{mul-add-lt, div-add-mod', div-mul-add, mod-mul-add, div_below, mod_below}
use Rattle.std.proofs.lemmas.Bool.{ltb-true, lt-ltb, le-ltb, cond-true, cond-false, cases_lt}
use Rattle.floor.specs.Grids.{around, present, neighbours, into}
use Rattle.floor.specs.Presence.{length_present, present_from, from_present, some_if, if_some}

-- a way into u over f, among those into some cells
pub way_into : (cells : List ℕ) (u f : ℕ) → Memᴰ (u, f) (map into cells) → Memᴰ u cells × (f ≡ u)
way_into [] u f h = absurd (Memᴰ.not-nil h)
way_into (x ∷ cells) u f h = ⊎_elim
    (λ (e : (u, f) ≡ into x). (Memᴰ.head (ap (λ w. w.0) e), ap (λ w. w.1) e ∙ sym (ap (λ w. w.0) e)))
    (λ later. let r = way_into cells u f later in (Memᴰ.tail r.0, r.1))
    (Memᴰ.cases_cons h)

module _ (rows columns p : ℕ) where
  pub cell_neighbours : p < rows * columns → neighbours rows columns p ≡ present (around rows columns (p / columns) (p % columns))
  cell_neighbours h = cond-true _ _ _ (lt-ltb p (rows * columns) h)

  pub no_neighbours : rows * columns ≤ p → neighbours rows columns p ≡ []
  no_neighbours h = cond-false _ _ _ (le-ltb p (rows * columns) h)

  pub few_neighbours : length (neighbours rows columns p) ≤ 4
  few_neighbours = ⊎_elim
      (λ h. let few = length_present (around rows columns (p / columns) (p % columns)) in subst (λ ws. length ws ≤ 4) (sym (cell_neighbours h)) (omega arith))
      (λ h. subst (λ (ws : List ℕ). length ws ≤ 4) (sym (no_neighbours h)) (omega arith))
      (cases_lt p (rows * columns))

  -- only a cell has a neighbour
  pub neighbour_of : (u : ℕ) → Memᴰ u (neighbours rows columns p) → (p < rows * columns) × Memᴰ u (present (around rows columns (p / columns) (p % columns)))
  neighbour_of u is = ⊎_elim
      (λ h. (h, subst (Memᴰ u) (cell_neighbours h) is))
      (λ h. absurd (Memᴰ.not-nil (subst (Memᴰ u) (no_neighbours h) is)))
      (cases_lt p (rows * columns))

module _ (rows columns row column : ℕ) where
  -- what holds of the cells up, right, down and left holds of each neighbour
  pub each_around :
      (P : ℕ → Type 0)
      → (0 < row → P ((row - 1) * columns + column))
      → (column + 1 < columns → P (row * columns + (column + 1)))
      → (row + 1 < rows → P ((row + 1) * columns + column))
      → (0 < column → P (row * columns + (column - 1)))
      → (u : ℕ) → Memᴰ u (present (around rows columns row column)) → P u
  each_around P up right down left u is =
      let one : (b : Bool) (x : ℕ) → (b ≡ true → P x) → Some u ≡ then_some b x → P u = λ b x holds e. let h = some_if b x u e in subst P (sym h.1) (holds h.0) in
      ⊎_elim (one _ _ (λ e. up (ltb-true 0 row e)))
      (λ rest. ⊎_elim (one _ _ (λ e. right (ltb-true (column + 1) columns e)))
      (λ rest. ⊎_elim (one _ _ (λ e. down (ltb-true (row + 1) rows e)))
      (λ rest. ⊎_elim (one _ _ (λ e. left (ltb-true 0 column e)))
      (λ none. absurd (Memᴰ.not-nil none))
      (Memᴰ.cases_cons rest)) (Memᴰ.cases_cons rest)) (Memᴰ.cases_cons rest)) (Memᴰ.cases_cons (from_present u (around rows columns row column) is))

  -- the four neighbours, each where there is one
  up_there : 0 < row → Memᴰ ((row - 1) * columns + column) (present (around rows columns row column))
  up_there h = present_from _ (around rows columns row column) (Memᴰ.head (if_some _ _ (lt-ltb 0 row h)))

  right_there : column + 1 < columns → Memᴰ (row * columns + (column + 1)) (present (around rows columns row column))
  right_there h = present_from _ (around rows columns row column) (Memᴰ.tail (Memᴰ.head (if_some _ _ (lt-ltb (column + 1) columns h))))

  down_there : row + 1 < rows → Memᴰ ((row + 1) * columns + column) (present (around rows columns row column))
  down_there h = present_from _ (around rows columns row column) (Memᴰ.tail (Memᴰ.tail (Memᴰ.head (if_some _ _ (lt-ltb (row + 1) rows h)))))

  left_there : 0 < column → Memᴰ (row * columns + (column - 1)) (present (around rows columns row column))
  left_there h = present_from _ (around rows columns row column) (Memᴰ.tail (Memᴰ.tail (Memᴰ.tail (Memᴰ.head (if_some _ _ (lt-ltb 0 column h))))))

  -- the neighbours of the cell at a row and a column
  pub neighbours_at : row < rows → column < columns → neighbours rows columns (row * columns + column) ≡ present (around rows columns row column)
  neighbours_at r c =
      let inside : row * columns + column < rows * columns = omega (arith, mul-add-lt row columns column rows r c) in
      cell_neighbours rows columns (row * columns + column) inside
      ∙ (λ i. present (around rows columns (div-mul-add row columns column c i) (mod-mul-add row columns column c i)))

-- a cell by its row and column
module _ (rows columns s : ℕ) (inside : s < rows * columns) where
  some_column : 0 < columns
  some_column = ⊎_elim (λ h. h) (λ none. absurd (omega (arith, ap (λ n. rows * n) (let z : columns ≡ 0 = omega arith in z), mul-zero rows))) (cases_lt 0 columns)

  pub row_inside : s / columns < rows
  row_inside = div_below s columns rows some_column inside

  pub column_inside : s % columns < columns
  column_inside = mod_below s columns some_column

module _ (rows columns s u : ℕ) (next : Memᴰ u (neighbours rows columns s)) where
  -- a neighbour is a cell
  pub neighbour_inside : u < rows * columns
  neighbour_inside =
      let from = neighbour_of rows columns s u next in
      let r = row_inside rows columns s from.0 in
      let c = column_inside rows columns s from.0 in
      let cell : (row column : ℕ) → row < rows → column < columns → row * columns + column < rows * columns = λ row column p q. omega (arith, mul-add-lt row columns column rows p q) in
      each_around rows columns (s / columns) (s % columns) (λ v. v < rows * columns)
      (λ h. cell _ _ (omega arith) c)
      (λ h. cell _ _ r h)
      (λ h. cell _ _ h c)
      (λ h. cell _ _ r (omega arith))
      u from.1

  -- a cell is a neighbour of each of its neighbours
  pub neighbour_back : Memᴰ s (neighbours rows columns u)
  neighbour_back =
      let from = neighbour_of rows columns s u next in
      let row = s / columns in
      let column = s % columns in
      let r : row < rows = row_inside rows columns s from.0 in
      let c : column < columns = column_inside rows columns s from.0 in
      let whole : row * columns + column ≡ s = div-add-mod' s columns in
      let found : (row' column' x : ℕ) → row' < rows → column' < columns → x ≡ row * columns + column → Memᴰ x (present (around rows columns row' column')) → Memᴰ s (neighbours rows columns (row' * columns + column')) =
      λ row' column' x r' c' e is. subst (Memᴰ s) (sym (neighbours_at rows columns row' column' r' c')) (subst (λ y. Memᴰ y (present (around rows columns row' column'))) (e ∙ whole) is) in
      each_around rows columns row column (λ v. Memᴰ s (neighbours rows columns v))
      (λ h. found (row - 1) column _ (omega arith) c (ap (λ n. n * columns + column) (let e : row - 1 + 1 ≡ row = omega arith in e)) (down_there rows columns (row - 1) column (omega arith)))
      (λ h. found row (column + 1) _ r h (ap (λ n. row * columns + n) (let e : column + 1 - 1 ≡ column = omega arith in e)) (left_there rows columns row (column + 1) (omega arith)))
      (λ h. found (row + 1) column _ h c (ap (λ n. n * columns + column) (let e : row + 1 - 1 ≡ row = omega arith in e)) (up_there rows columns (row + 1) column (omega arith)))
      (λ h. found row (column - 1) _ r (omega arith) (ap (λ n. row * columns + n) (let e : column - 1 + 1 ≡ column = omega arith in e)) (right_there rows columns row (column - 1) (omega arith)))
      u from.1
