-- Faults: the number of each cause and each layer, and which cause is told where by which layer. Assumes nothing.
use Rattle.std.specs.Prelude.{ℕ, List, ◌++◌, codes, decimal}
use Rattle.sitefile.specs.declared.fault.Cause.{Cause}
use Rattle.sitefile.specs.declared.fault.Cause.TheVariants.{MissingByte, MalformedNumber, UnknownKind, OutOfRange, BrokenRule, SmallTable, BytesLeft}
use Rattle.sitefile.specs.declared.fault.Layer.{Layer}
use Rattle.sitefile.specs.declared.fault.Layer.TheVariants.{Number, Record, Site}
use Rattle.sitefile.specs.declared.fault.Fault.{Fault}

abbrev pub cause_number : Cause → ℕ
cause_number MissingByte = 21
cause_number MalformedNumber = 22
cause_number UnknownKind = 23
cause_number OutOfRange = 24
cause_number BrokenRule = 25
cause_number SmallTable = 26
cause_number BytesLeft = 27

abbrev pub layer_number : Layer → ℕ
layer_number Number = 1
layer_number Record = 2
layer_number Site = 3

-- the layer that finds it
abbrev pub layer_of : Cause → Layer
layer_of MissingByte = Number
layer_of MalformedNumber = Number
layer_of UnknownKind = Site
layer_of OutOfRange = Record
layer_of BrokenRule = Record
layer_of SmallTable = Site
layer_of BytesLeft = Site

-- the fault of a cause at a byte
abbrev pub told_at : Cause → ℕ → Fault
told_at cause byte = record { cause = cause; byte = byte; layer = layer_of cause }

-- a file of `size` bytes ends where a byte is needed
abbrev pub missing_byte : ℕ → Fault
missing_byte size = told_at MissingByte size

-- the number that begins at `first` is malformed
abbrev pub malformed_number : ℕ → Fault
malformed_number first = told_at MalformedNumber first

abbrev pub unknown_kind : Fault
unknown_kind = told_at UnknownKind 0

-- the number that begins at `first` is out of its range
abbrev pub out_of_range : ℕ → Fault
out_of_range first = told_at OutOfRange first

-- the record that begins at `first` breaks a rule
abbrev pub broken_rule : ℕ → Fault
broken_rule first = told_at BrokenRule first

abbrev pub small_table : Fault
small_table = told_at SmallTable 0

-- the first byte after the last record is at `first`
abbrev pub bytes_left : ℕ → Fault
bytes_left first = told_at BytesLeft first

-- a fault as it is printed
abbrev pub fault_line : Fault → List ℕ
fault_line f = codes "fault " ++ (decimal (cause_number f.cause) ++ (codes " at " ++ (decimal f.byte ++ (codes " layer " ++ decimal (layer_number f.layer)))))
