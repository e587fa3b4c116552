-- The file of a floor after its first byte. Assumes nothing.
use Rattle.std.proofs.Common.{◌≡◌, ℕ, ◌*◌, ◌≤◌, true, leb, List, [], ◌∷◌, ◌++◌, length, take, drop, Ok, sym, refl, ap, ◌∙◌, subst, arith}
use Rattle.std.proofs.lemmas.List.{length-take-le}
use Rattle.std.proofs.lemmas.Bool.{leb-true, le-leb}
use Rattle.tables.specs.States.{Cell}
use Rattle.tables.specs.declared.FloorHead.{FloorHead}
use Rattle.tables.specs.Floors.{longest_segment, AreCells, FloorDescription, KeepsRanges}
use Rattle.sitefile.specs.declared.fault.Fault.{Fault}
use Rattle.sitefile.specs.declared.reader.Reader.{Reader}
use Rattle.sitefile.specs.Readers.{ahead}
use Rattle.sitefile.specs.Numbers.{encode}
use Rattle.sitefile.specs.Formats.{ended, FirstFault, later}
use Rattle.sitefile.specs.Records.{encode_all, AllAllowed, many, ReadAll, Walked}
use Rattle.sitefile.specs.Floors.{cells, encode_head, floor_bytes, floor_format, HeadRead, LoadsFloor}
use Rattle.sitefile.proofs.Forms.{encode_same}
use Rattle.sitefile.proofs.Fields.{at_least, at_most, field_read, check_passed, Holds, to_the_end, with_check, with_field}
use Rattle.sitefile.proofs.Cells.{cells_laws}
use Rattle.sitefile.proofs.Runs.{records_hold, records_same}

-- a table that is large enough has so many first entries
pub first_entries : {X : Type 0} (count : ℕ) (table : List X) → leb count (length table) ≡ true → length (take count table) ≡ count
first_entries count table room = length-take-le count table (leb-true _ _ room)

-- a fault after the head
pub after_head : {size entries : ℕ} {bytes rest : List ℕ} {head : FloorHead} {f : Fault} →
    HeadRead entries bytes head rest → FirstFault size (many (cells head.free) (head.rows * head.columns) [] (λ _. ended)) rest f → FirstFault size (floor_format entries) bytes f
after_head {rest = rest} {head = head} h x =
    let rows = at_most 1 64 head.rows h.rows_ranged in
    let columns = at_most 1 64 head.columns h.columns_ranged in
    let free = at_most 1 longest_segment head.free h.free_ranged in
    later head.rows (encode head.columns ++ (encode head.free ++ rest)) (field_read h.rows_ranged (omega arith) h.form)
    (later head.columns (encode head.free ++ rest) (field_read h.columns_ranged (omega arith) refl)
    (check_passed h.roomy (later head.free rest (field_read h.free_ranged (omega arith) refl) x)))

-- cells in range are allowed, whatever stands before them, and the other way round
all_allowed : (free : ℕ) (before cs : List Cell) → AreCells free cs → AllAllowed (cells free) before cs
all_allowed free before [] all = tt
all_allowed free before (c ∷ cs) all = (all.0, all_allowed free (before ++ c ∷ []) cs all.1)

are_cells : (free : ℕ) (before cs : List Cell) → AllAllowed (cells free) before cs → AreCells free cs
are_cells free before [] all = tt
are_cells free before (c ∷ cs) all = (all.0, are_cells free (before ++ c ∷ []) cs all.1)

-- a floor that was read
pub floor_loaded : (size : ℕ) {count : ℕ} {bytes end : List ℕ} {head : FloorHead} {mid walk : Reader} {table filled : List Cell} →
    HeadRead (length table) bytes head (ahead mid) → count ≡ head.rows * head.columns → Walked (cells head.free) count mid walk → ahead walk ≡ [] →
    length filled ≡ count → ReadAll (cells head.free) (ahead mid) filled end →
    LoadsFloor size bytes table (filled ++ drop count table) (Ok head)
floor_loaded size {count} {bytes = bytes} {end = end} {head = head} {mid = mid} {walk = walk} {table = table} {filled = filled} h counted w none long read =
    let some = at_least 1 longest_segment head.free h.free_ranged in
    let same = records_same (cells head.free) (cells_laws head.free some) filled w.values end (ahead walk) (long ∙ sym w.counted) read.all_allowed w.read.all_allowed (sym read.form ∙ w.read.form) in
    let rest : ahead mid ≡ encode_all (cells head.free) filled [] = read.form ∙ ap (encode_all (cells head.free) filled) (same.1 ∙ none) in
    let room = leb-true _ _ h.roomy in (
      record { head = head; cells = filled },
      record {
        rows_ranged = h.rows_ranged;
        columns_ranged = h.columns_ranged;
        free_ranged = h.free_ranged;
        cells_counted = long ∙ counted;
        cells_ranged = are_cells head.free [] filled read.all_allowed;
      },
      h.form ∙ ap (encode_head head) rest,
      omega arith,
      refl,
      ap (λ n. filled ++ drop n table) (sym long),
    )

-- the layout of a floor has no fault
pub floor_holds : (size entries : ℕ) (d : FloorDescription) → KeepsRanges d → length d.cells ≤ entries → Holds size (floor_format entries) (floor_bytes d)
floor_holds size entries d k few =
    let rows = at_most 1 64 d.head.rows k.rows_ranged in
    let columns = at_most 1 64 d.head.columns k.columns_ranged in
    let free = at_most 1 longest_segment d.head.free k.free_ranged in
    let some = at_least 1 longest_segment d.head.free k.free_ranged in
    let all = encode_all (cells d.head.free) d.cells [] in
    with_field d.head.rows (encode d.head.columns ++ (encode d.head.free ++ all)) (field_read k.rows_ranged (omega arith) refl)
    (with_field d.head.columns (encode d.head.free ++ all) (field_read k.columns_ranged (omega arith) refl)
    (with_check (le-leb _ _ (omega (arith, k.cells_counted)))
    (with_field d.head.free all (field_read k.free_ranged (omega arith) refl)
    (records_hold (cells d.head.free) (cells_laws d.head.free some) size d.cells _ (λ _. ended) [] k.cells_counted (all_allowed d.head.free [] d.cells k.cells_ranged) to_the_end))))

-- no bytes describe two floors
pub floor_same : (d e : FloorDescription) → KeepsRanges d → KeepsRanges e → floor_bytes d ≡ floor_bytes e → d ≡ e
floor_same d e a b same =
    let rows = encode_same 4 d.head.rows e.head.rows _ _ same in
    let columns = encode_same 4 d.head.columns e.head.columns _ _ rows.1 in
    let free = encode_same 4 d.head.free e.head.free _ _ columns.1 in
    let counts : d.head.rows * d.head.columns ≡ e.head.rows * e.head.columns = (λ i. rows.0 i * columns.0 i) in
    let some = at_least 1 longest_segment d.head.free a.free_ranged in
    let one = records_same (cells d.head.free) (cells_laws d.head.free some) d.cells e.cells [] []
    (a.cells_counted ∙ counts ∙ sym b.cells_counted)
    (all_allowed d.head.free [] d.cells a.cells_ranged)
    (all_allowed d.head.free [] e.cells (subst (λ n. AreCells n e.cells) (sym free.0) b.cells_ranged))
    (free.1 ∙ ap (λ n. encode_all (cells n) e.cells []) (sym free.0)) in
    (λ i. record { head = record { rows = rows.0 i; columns = columns.0 i; free = free.0 i }; cells = one.0 i })
