-- Site files of every kind: what they describe, their first fault, and what a load leaves. Assumes nothing.
use Rattle.std.specs.Prelude.{◌≡◌, ℕ, ◌≤◌, List, [], ◌∷◌, ◌++◌, length, drop, Ok, Err, Result, MatchResult, ◌≢◌}
use Rattle.tables.specs.States.{Cell}
use Rattle.tables.specs.declared.tape.Place.{Place}
use Rattle.tables.specs.declared.tape.Lane.{Lane}
use Rattle.tables.specs.Floors.{FloorDescription, KeepsRanges}
use Rattle.sitefile.specs.declared.fault.Fault.{Fault}
use Rattle.sitefile.specs.declared.loader.SiteHead.{SiteHead}
use Rattle.sitefile.specs.declared.loader.SiteHead.TheVariants.{Floor, Tape}
use Rattle.sitefile.specs.Faults.{missing_byte, unknown_kind}
use Rattle.sitefile.specs.Formats.{FirstFault}
use Rattle.sitefile.specs.Floors.{floor_kind, floor_layout, floor_format}
use Rattle.sitefile.specs.Tapes.{tape_kind, TapeDescription, tape_head, KeepsTapeRules, tape_layout, tape_format}

pub data SiteDescription : Type 0 where
  a_floor : FloorDescription → SiteDescription
  a_tape : TapeDescription → SiteDescription

-- the customer's tables
pub record Tables : Type 0 where
  pub cells : List Cell
  pub places : List Place
  pub lanes : List Lane

abbrev pub tables_of : List Cell → List Place → List Lane → Tables
tables_of cells places lanes = record { cells = cells; places = places; lanes = lanes }

abbrev pub layout : SiteDescription → List ℕ
layout (a_floor d) = floor_layout d
layout (a_tape d) = tape_layout d

-- a description keeps all rules of its kind
abbrev pub Keeps : SiteDescription → Type 0
Keeps (a_floor d) = KeepsRanges d
Keeps (a_tape d) = KeepsTapeRules d

-- the tables are large enough for it
abbrev pub Roomy : Tables → SiteDescription → Type 0
Roomy t (a_floor d) = length d.cells ≤ length t.cells
Roomy t (a_tape d) = (length d.places_told ≤ length t.places) × (length d.lanes_told ≤ length t.lanes)

-- its numbers, as a load returns them
abbrev pub head_of : SiteDescription → SiteHead
head_of (a_floor d) = Floor d.head
head_of (a_tape d) = Tape (tape_head d)

-- the tables with its entries in front, those after them kept
abbrev pub filled : SiteDescription → Tables → Tables
filled (a_floor d) t = record { cells = d.cells ++ drop (length d.cells) t.cells; places = t.places; lanes = t.lanes }
filled (a_tape d) t = record {
  cells = t.cells;
  places = d.places_told ++ drop (length d.places_told) t.places;
  lanes = d.lanes_told ++ drop (length d.lanes_told) t.lanes;
}

-- the file describes the site d, and the tables are large enough for it
pub record Accepts (file : List ℕ) (t : Tables) (d : SiteDescription) : Type 0 where
  pub keeps : Keeps d
  pub laid_out : file ≡ layout d
  pub roomy : Roomy t d

-- f is the first fault of a file that is read into the tables
pub data FileFault (file : List ℕ) (t : Tables) (f : Fault) : Type 0 where
  empty : file ≡ [] → f ≡ missing_byte 0 → FileFault file t f
  unknown : (kind : ℕ) (rest : List ℕ) → file ≡ kind ∷ rest → (kind ≢ floor_kind) → (kind ≢ tape_kind) → f ≡ unknown_kind → FileFault file t f
  in_floor : (rest : List ℕ) → file ≡ floor_kind ∷ rest → FirstFault (length file) (floor_format (length t.cells)) rest f → FileFault file t f
  in_tape : (rest : List ℕ) → file ≡ tape_kind ∷ rest → FirstFault (length file) (tape_format (length t.places) (length t.lanes)) rest f → FileFault file t f

-- The load: a file that describes a site is accepted, and the tables hold that description, their other entries kept; any other has a first fault, which is told, and the tables are unchanged.
pub record Loads (file : List ℕ) (t t' : Tables) (r : Result SiteHead Fault) : Type 0 where
  -- one of the two is so
  pub answer : MatchResult r (λ head. (d : SiteDescription) × Accepts file t d × (head ≡ head_of d)) (λ f. FileFault file t f)
  pub accepted : (d : SiteDescription) → Accepts file t d → (r ≡ Ok (head_of d)) × (t' ≡ filled d t)
  pub faulty : (f : Fault) → FileFault file t f → (r ≡ Err f) × (t' ≡ t)
