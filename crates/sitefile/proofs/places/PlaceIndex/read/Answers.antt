use Rattle.std.proofs.Common.{◌≡◌, ◌+◌, min, sym, arith}
use Rattle.sitefile.proofs.Fields.{passed_on}
use Rattle.sitefile.proofs.PlaceIndexes.{stops_further, noted_block, places_found}
use Rattle.sitefile.proofs.places.PlaceIndex.read.Goals as goal
use Rattle.sitefile.proofs.places.PlaceIndex.read.Goals.{else-loop-first-test, then-loop-first-test+in_ok-pass_over+else-count-first-gt64}

pub returns-in_err-pass_over : goal.returns-in_err-pass_over
returns-in_err-pass_over c =
    passed_on _ _ c.from_residual.result c.from_residual.ensures.1 (stops_further c.loop-first.invariant.1.walk (omega arith) c.in_err-pass_over.ensures)

pub loop-first-preserved : goal.loop-first-preserved
loop-first-preserved c =
    let first = c.loop-first.first in
    let before : min first c.args.count ≡ first = omega arith in
    let after : min (first + 64) c.args.count ≡ first + c.min.result = omega arith in
    (omega arith, rw (c.push.ensures.items, after) (noted_block first c.loop-first.invariant.0 (rw before at c.loop-first.invariant.1) (omega arith) (omega arith) c.in_ok-pass_over.ensures))

pub returns : goal.returns
returns c = elim c.loop-first-test.branch [
  | else-loop-first-test w ↦
      let done : min c.loop-first.first c.args.count ≡ c.args.count = omega arith in
      rw w.reader-is (places_found _ (rw (done, sym w.starts-is) at c.loop-first.invariant.1))
  | then-loop-first-test+in_ok-pass_over+else-count-first-gt64 w ↦
      let first = c.loop-first.first in
      let before : min first c.args.count ≡ first = omega arith in
      let done : first + w.min.result ≡ c.args.count = omega arith in
      let block = noted_block first c.loop-first.invariant.0 (rw before at c.loop-first.invariant.1) (omega arith) (omega arith) w.in_ok-pass_over.ensures in
      rw w.reader-is (places_found _ (rw (done, sym w.push.ensures.items, sym w.starts-is) at block))
]
