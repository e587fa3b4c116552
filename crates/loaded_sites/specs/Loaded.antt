-- A site made over the tables that a file was loaded into is the site that the file describes. Assumes nothing.
use Rattle.std.specs.Prelude.{◌≡◌, ℕ, List, Result}
use Rattle.cost.specs.declared.milliseconds.Milliseconds.{Milliseconds}
use Rattle.cost.specs.declared.crossings_first.CrossingsFirst.{CrossingsFirst}
use Rattle.routes.specs.Sites.{Meaning}
use Rattle.tables.specs.Floors.{FloorDescription}
use Rattle.tables.specs.Tapes.{SoundTape}
use Rattle.sitefile.specs.declared.fault.Fault.{Fault}
use Rattle.sitefile.specs.declared.loader.SiteHead.{SiteHead}
use Rattle.sitefile.specs.Tapes.{TapeDescription, tape_head}
use Rattle.sitefile.specs.Sites.{Tables, a_floor, a_tape, Accepts, Loads}
use Rattle.floor.specs.Floors.{SoundFloor, SiteOver as FloorOver}
use Rattle.floor.specs.Grids.{grid}
use Rattle.tape.specs.TapeSites.{tape_site, SiteOver as TapeOver}

-- the tables are sound, and a floor over them is the grid of the cells that the file tells
abbrev pub FloorsMeanTheirFiles : Type 0
FloorsMeanTheirFiles = (file : List ℕ) (before after : Tables) (r : Result SiteHead Fault) (d : FloorDescription) → Loads file before after r → Accepts file before (a_floor d) →
    SoundFloor d.head after.cells × ((site : Meaning Milliseconds) → FloorOver d.head after.cells site → site ≡ grid d.head d.cells)

-- the tables are sound, and a tape over them is the one of the places and lanes that the file tells
abbrev pub TapesMeanTheirFiles : Type 0
TapesMeanTheirFiles = (file : List ℕ) (before after : Tables) (r : Result SiteHead Fault) (d : TapeDescription) → Loads file before after r → Accepts file before (a_tape d) →
    SoundTape (tape_head d) after.places after.lanes × ((site : Meaning CrossingsFirst) → TapeOver (tape_head d) after.places after.lanes site → site ≡ tape_site (tape_head d) d.places_told d.lanes_told)
