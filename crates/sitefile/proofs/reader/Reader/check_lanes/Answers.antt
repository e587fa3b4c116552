use Rattle.std.proofs.Common.{◌≡◌, ◌-◌, [], length, ap, ◌∙◌, subst, arith}
use Rattle.std.proofs.lemmas.Bool.{ltb-true}
use Rattle.sitefile.specs.Faults.{broken_rule}
use Rattle.sitefile.specs.Readers.{ahead, size}
use Rattle.sitefile.specs.Records.{Walked}
use Rattle.sitefile.specs.Tapes.{lanes}
use Rattle.sitefile.proofs.Fields.{passed_on}
use Rattle.sitefile.proofs.TapeRecords.{ranged, number_fault, rule_fault}
use Rattle.sitefile.proofs.Rules.{lanes_none, lanes_more}
use Rattle.sitefile.proofs.reader.Reader.check_lanes.Goals as goal

pub loop-i-init : goal.loop-i-init
loop-i-init c = λ ps at. lanes_none c.args.places.now.count ps c.args.self.now

pub with_lane-requires : goal.with_lane-requires
with_lane-requires c =
    let in_range = ranged c.args.places.now.count c.in_ok-lane.lane (c.in_ok-lane.ensures.read []).0 in
    record { from = ltb-true _ _ in_range.from_place; to = ltb-true _ _ in_range.to_place }

pub loop-i-preserved : goal.loop-i-preserved
loop-i-preserved c = λ ps at.
    let walked = c.loop-i.invariant ps at in
    let kept = c.in-Some.ensures ps walked.walk.values at walked.run_of in
    lanes_more walked c.in_ok-lane.ensures kept.0 kept.1

pub returns-in_err-lane : goal.returns-in_err-lane
returns-in_err-lane c = λ ps at.
    let told = c.in_err-lane.ensures in
    passed_on _ _ c.from_residual.result c.from_residual.ensures.1 (number_fault c.args.places.now.count ps (c.loop-i.invariant ps at).walk (omega arith) told)

pub returns-in_default : goal.returns-in_default
returns-in_default c = λ ps at.
    let walked = c.loop-i.invariant ps at in
    let broken = c.in_default.ensures ps walked.walk.values at walked.run_of in
    let first : c.loop-i.self.at ≡ size c.loop-i.self - length (ahead c.loop-i.self) = omega arith in
    rule_fault c.args.places.now.count ps c.args.places.now.few walked.walk (omega arith) c.in_ok-lane.ensures broken (c.at.ensures ∙ ap broken_rule first)

pub returns : goal.returns
returns c = λ ps at.
    let done : c.loop-i._i ≡ c.args.count = omega arith in
    subst (λ n. Walked (lanes c.args.places.now.count ps) n c.args.self.now c.loop-i.self) done (c.loop-i.invariant ps at).walk
