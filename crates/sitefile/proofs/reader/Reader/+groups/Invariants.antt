use Rattle.sitefile.proofs.reader.Reader.+groups.Given as goal

abbrev pub decreases-groups : goal.decreases-groups
decreases-groups l = l.more
