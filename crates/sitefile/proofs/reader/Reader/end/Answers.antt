use Rattle.std.proofs.Common.{◌<◌, length, arith, rules}
use Rattle.sitefile.proofs.Fields.{more_left}
use Rattle.sitefile.proofs.reader.Reader.end.Goals as goal

pub returns-in-len1-up : goal.returns-in-len1-up
returns-in-len1-up c =
    let some : 0 < length c.args.self.now.left.now = search rules in
    rw c.at.ensures (more_left _ _ _ some (omega arith))
