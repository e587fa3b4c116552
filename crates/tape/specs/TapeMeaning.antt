-- What a tape means: the site that its tables describe. Assumes nothing.
use Rattle.cost.specs.declared.crossings_first.CrossingsFirst.{CrossingsFirst}
use Rattle.routes.specs.Sites.{Meaning}
use Rattle.site.specs.Directories.{Directory}
use Rattle.tape.specs.TapeTables.{tables_site, tables_directory}
use Rattle.tape.specs.declared.Tape.{Tape}

abbrev pub tape_meaning : Tape → Meaning CrossingsFirst
tape_meaning s = tables_site s.places.now s.lanes.now

-- where to look for its ways
abbrev pub tape_directory : Tape → Directory
tape_directory s = tables_directory s.places.now s.lanes.now
