-- What a file holds front to back, and the first fault of bytes that do not hold it. Assumes nothing.
use Rattle.std.specs.Prelude.{◌≡◌, ℕ, ◌-◌, Bool, true, false, List, ◌∷◌, length}
use Rattle.sitefile.specs.declared.fault.Fault.{Fault}
use Rattle.sitefile.specs.Faults.{out_of_range, bytes_left}
use Rattle.sitefile.specs.Numbers.{Begins, NumberFault}

pub data Format : Type 0 where
  -- nothing more
  ended : Format
  -- what the position of the next byte leads to
  position : (ℕ → Format) → Format
  -- a question with its answer, the fault if that is no, and then more
  check : Bool → Fault → Format → Format
  -- a number that passes the test of its range, and then what that number leads to
  field : (ℕ → Bool) → (ℕ → Format) → Format

-- the bytes begin with a number n in its range
pub record FieldRead (ranged : ℕ → Bool) (bytes : List ℕ) (n : ℕ) (rest : List ℕ) : Type 0 where
  pub begins : Begins bytes n rest
  pub in_range : ranged n ≡ true

-- the bytes, with which a file of `size` bytes ends, do not
pub data FieldFault (size : ℕ) (ranged : ℕ → Bool) (bytes : List ℕ) (f : Fault) : Type 0 where
  no_number : NumberFault size bytes f → FieldFault size ranged bytes f
  outside : (n : ℕ) (rest : List ℕ) → Begins bytes n rest → ranged n ≡ false → f ≡ out_of_range (size - length bytes) → FieldFault size ranged bytes f

-- f is the first fault of the bytes with which a file of `size` bytes ends
pub data FirstFault (size : ℕ) : Format → List ℕ → Fault → Type 0 where
  here : {ranged : ℕ → Bool} {next : ℕ → Format} {bytes : List ℕ} {f : Fault} → FieldFault size ranged bytes f → FirstFault size (field ranged next) bytes f
  later : {ranged : ℕ → Bool} {next : ℕ → Format} {bytes : List ℕ} {f : Fault} (n : ℕ) (rest : List ℕ) → FieldRead ranged bytes n rest → FirstFault size (next n) rest f → FirstFault size (field ranged next) bytes f
  at_position : {next : ℕ → Format} {bytes : List ℕ} {f : Fault} → FirstFault size (next (size - length bytes)) bytes f → FirstFault size (position next) bytes f
  failed : {next : Format} {bytes : List ℕ} {f : Fault} → FirstFault size (check false f next) bytes f
  passed : {next : Format} {bytes : List ℕ} {f g : Fault} → FirstFault size next bytes f → FirstFault size (check true g next) bytes f
  goes_on : (b : ℕ) (bytes : List ℕ) → FirstFault size ended (b ∷ bytes) (bytes_left (size - length (b ∷ bytes)))
