use Rattle.std.proofs.Common.{◌∙◌}
use Rattle.sitefile.proofs.PlaceIndexes.{reaches, find_one}
use Rattle.sitefile.proofs.places.PlaceIndex.find.Goals as goal

pub returns-in_err-ok : goal.returns-in_err-ok
returns-in_err-ok c = λ ps at.
    let passed = (reaches at c.args.number c.index-starts-index.result c.pass_over.new.self c.pass_over.result c.requires c.as_slice-starts.ensures.value c.index-starts-index.is c.pass_over.ensures).0 in
    let none = c.from_residual.ensures in
    let was = c.in_err-ok.was in
    let value = c.ok.ensures.value in
    cc

pub returns : goal.returns
returns c = λ ps at.
    let there = (reaches at c.args.number c.index-starts-index.result c.pass_over.new.self c.pass_over.result c.requires c.as_slice-starts.ensures.value c.index-starts-index.is c.pass_over.ensures).1 in
    c.ok-2.ensures.value ∙ find_one at c.args.number c.read.result c.requires there c.read.ensures
