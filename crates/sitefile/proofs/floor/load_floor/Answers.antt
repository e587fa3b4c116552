use Rattle.std.proofs.Common.{◌*◌, length, take, refl, ◌∙◌}
use Rattle.std.proofs.lemmas.Result.{err_from_is_err_and}
use Rattle.tables.specs.Floors.{longest_segment}
use Rattle.sitefile.specs.Floors.{cells}
use Rattle.sitefile.specs.Formats.{ended}
use Rattle.sitefile.proofs.Fields.{at_least, fault_at}
use Rattle.sitefile.proofs.Cells.{cells_laws}
use Rattle.sitefile.proofs.Runs.{fault_among, after_many, no_second_fault}
use Rattle.sitefile.proofs.FloorFiles.{first_entries, after_head, floor_loaded}
use Rattle.sitefile.proofs.floor.load_floor.Goals as goal

pub returns-in_err-pass_over : goal.returns-in_err-pass_over
returns-in_err-pass_over c =
    let head = c.in_ok-head.ensures in
    let told = c.in_err-pass_over.ensures in
    let p = err_from_is_err_and c.from_residual-in_err-pass_over.result c.from_residual-in_err-pass_over.ensures.1 in
    let free = c.in_ok-head.head.free in
    rw (p.1, p.2) (after_head head.read (fault_at head.size (fault_among (cells free) (cells_laws free (at_least 1 longest_segment free head.read.free_ranged)) told (λ _. ended))), refl)

pub returns-in_err-end : goal.returns-in_err-end
returns-in_err-end c =
    let head = c.in_ok-head.ensures in
    let walk = c.in_ok-pass_over.ensures in
    let told = c.in_err-end.ensures in
    let p = err_from_is_err_and c.from_residual-in_err-end.result c.from_residual-in_err-end.ensures.1 in
    let free = c.in_ok-head.head.free in
    rw (p.1, p.2) (after_head head.read (fault_at head.size (after_many (cells free) (cells_laws free (at_least 1 longest_segment free head.read.free_ranged)) walk (λ _. ended) told)), refl)

pub returns-in_err-fill : goal.returns-in_err-fill
returns-in_err-fill c =
    let head = c.in_ok-head.ensures in
    let walk = c.in_ok-pass_over.ensures in
    let told = c.in_err-fill.ensures.read in
    let free = c.in_ok-head.head.free in
    absurd (no_second_fault (cells free) (cells_laws free (at_least 1 longest_segment free head.read.free_ranged)) (length (take (c.in_ok-head.head.rows * c.in_ok-head.head.columns) c.args.table.now))
    (first_entries _ c.args.table.now head.read.roomy) walk told)

pub returns : goal.returns
returns c =
    let head = c.in_ok-head.ensures in
    let walk = c.in_ok-pass_over.ensures in
    let none = c.in_ok-end.ensures in
    let fills = c.in_ok-fill.ensures.read in
    floor_loaded 0 head.read refl walk none (c.fill.auto.table ∙ first_entries _ c.args.table.now head.read.roomy) fills
