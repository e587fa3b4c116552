use Rattle.std.proofs.Common.{arith, rules}
use Rattle.sitefile.proofs.Fields.{passed_on}
use Rattle.sitefile.proofs.Forms.{ends_here, fault_after, zero_after, fits_with, great_group}
use Rattle.sitefile.proofs.reader.Reader.+groups.Goals as goal

pub returns-then-byte-lt-CONTINUED-clause-read : goal.returns-then-byte-lt-CONTINUED-clause-read
returns-then-byte-lt-CONTINUED-clause-read t c = ends_here (omega arith) c.in_ok-byte.ensures.read c.if-byte-lt-CONTINUED.true

pub returns-in_err-higher-clause-read : goal.returns-in_err-higher-clause-read
returns-in_err-higher-clause-read t c =
    let byte = c.in_ok-byte.ensures in
    passed_on _ _ c.from_residual-in_err-higher.result c.from_residual-in_err-higher.ensures.1 (fault_after (omega arith) byte.read byte.size c.if-byte-lt-CONTINUED.false c.in_err-higher.ensures.read)

pub returns-then-higher-eq0-clause-read : goal.returns-then-higher-eq0-clause-read
returns-then-higher-eq0-clause-read t c = rw c.at-malformed.ensures (zero_after (omega arith) c.in_ok-byte.ensures.read c.if-byte-lt-CONTINUED.false c.if-higher-eq0.true c.in_ok-higher.ensures.read)

pub overflow_mul-result : goal.overflow_mul-result
overflow_mul-result t c =
    let fits = fits_with (omega arith) c.in_ok-byte.ensures.read c.requires c.in_ok-higher.ensures.read in
    search rules

pub overflow_add-result : goal.overflow_add-result
overflow_add-result t c =
    let fits = fits_with (omega arith) c.in_ok-byte.ensures.read c.requires c.in_ok-higher.ensures.read in
    search rules

pub returns-then-byte-gt-LAST_GROUP-clause-read : goal.returns-then-byte-gt-LAST_GROUP-clause-read
returns-then-byte-gt-LAST_GROUP-clause-read t c = rw c.at-malformed.ensures (great_group c.if-more-eq0.true c.in_ok-byte.ensures.read (omega arith))
