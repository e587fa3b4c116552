use Rattle.std.proofs.Common.{◌≡◌, ◌<◌, ◌∷◌, length, get_or, sym, refl, ap, ◌∙◌, arith, rules}
use Rattle.std.proofs.lemmas.Slice.{first_rest}
use Rattle.std.proofs.lemmas.Result.{err_from_is_err_and}
use Rattle.sitefile.specs.Readers.{ahead}
use Rattle.sitefile.specs.Floors.{floor_kind}
use Rattle.sitefile.specs.Tapes.{tape_kind}
use Rattle.sitefile.specs.Sites.{unknown}
use Rattle.sitefile.proofs.SiteFiles.{load_faulty, floor_loads, floor_faults, tape_loads, tape_faults}
use Rattle.sitefile.proofs.loader.load.Goals as goal

pub returns-in_err-head-in-70 : goal.returns-in_err-head-in-70
returns-in_err-head-in-70 c =
    let some : 0 < length c.args.file.now = search rules in
    let kind : get_or c.args.file.now 0 0 ≡ floor_kind = search rules in
    let reader = c.after_kind.ensures in
    let whole : c.args.file.now ≡ floor_kind ∷ ahead c.after_kind.result = first_rest c.args.file.now 0 some ∙ (λ i. kind i ∷ sym reader.ahead i) in
    let p = err_from_is_err_and c.from_residual.result c.from_residual.ensures.1 in
    rw (p.1, p.2) (floor_faults c.args.places.now c.args.lanes.now whole (omega (arith, ap length whole, reader.at)) c.in_err-head-in-70.ensures)

pub returns-in_ok-head-in-70 : goal.returns-in_ok-head-in-70
returns-in_ok-head-in-70 c =
    let some : 0 < length c.args.file.now = search rules in
    let kind : get_or c.args.file.now 0 0 ≡ floor_kind = search rules in
    let reader = c.after_kind.ensures in
    let whole : c.args.file.now ≡ floor_kind ∷ ahead c.after_kind.result = first_rest c.args.file.now 0 some ∙ (λ i. kind i ∷ sym reader.ahead i) in
    floor_loads 0 c.args.places.now c.args.lanes.now whole c.in_ok-head-in-70.ensures

pub returns-in_err-head-in-84 : goal.returns-in_err-head-in-84
returns-in_err-head-in-84 c =
    let some : 0 < length c.args.file.now = search rules in
    let kind : get_or c.args.file.now 0 0 ≡ tape_kind = search rules in
    let reader = c.after_kind-in-84.ensures in
    let whole : c.args.file.now ≡ tape_kind ∷ ahead c.after_kind-in-84.result = first_rest c.args.file.now 0 some ∙ (λ i. kind i ∷ sym reader.ahead i) in
    let p = err_from_is_err_and c.from_residual-in_err-head-in-84.result c.from_residual-in_err-head-in-84.ensures.1 in
    rw (p.1, p.2) (tape_faults c.args.cells.now whole (omega (arith, ap length whole, reader.at)) c.in_err-head-in-84.ensures)

pub returns-in_ok-head-in-84 : goal.returns-in_ok-head-in-84
returns-in_ok-head-in-84 c =
    let some : 0 < length c.args.file.now = search rules in
    let kind : get_or c.args.file.now 0 0 ≡ tape_kind = search rules in
    let reader = c.after_kind-in-84.ensures in
    let whole : c.args.file.now ≡ tape_kind ∷ ahead c.after_kind-in-84.result = first_rest c.args.file.now 0 some ∙ (λ i. kind i ∷ sym reader.ahead i) in
    tape_loads 0 c.args.cells.now whole c.in_ok-head-in-84.ensures

pub returns-in_default-kind : goal.returns-in_default-kind
returns-in_default-kind c =
    let some : 0 < length c.args.file.now = search rules in
    rw c.at-in_default-kind.ensures (load_faulty (unknown _ _ (first_rest c.args.file.now 0 some) (search rules) (search rules) refl))
