-- A number in a file: groups of seven bits, lowest first, in the shortest form. The high bit of a byte says that another follows. Assumes nothing.
use Rattle.std.specs.Prelude.{◌≡◌, ℕ, zero, suc, ◌+◌, ◌-◌, ◌*◌, ◌/◌, ◌%◌, ◌<◌, ◌≤◌, cond, List, [], ◌∷◌, ◌++◌, length, Ok, Err, Result, MatchResult, nat_lt}
use Rattle.std.specs.List.{AllByRecursion}
use Rattle.sitefile.specs.declared.fault.Fault.{Fault}
use Rattle.sitefile.specs.declared.reader.Reader.{Reader}
use Rattle.sitefile.specs.Faults.{missing_byte, malformed_number}
use Rattle.sitefile.specs.Readers.{ahead, size}

-- What is said by `more` speaks of a number from one of its groups on, where at most `more` groups follow that one: 4 follow the first.

-- n in a group and at most `more` after it
abbrev pub encode_by : ℕ → ℕ → List ℕ
encode_by zero n = n ∷ []
encode_by (suc more) n = cond (nat_lt n 128) (n ∷ []) ((n % 128 + 128) ∷ encode_by more (n / 128))

-- how n is stored
abbrev pub encode : ℕ → List ℕ
encode n = encode_by 4 n

abbrev pub greatest : ℕ
greatest = 4294967295

-- the bytes begin with the number n, and `rest` comes after it
pub record Begins (bytes : List ℕ) (n : ℕ) (rest : List ℕ) : Type 0 where
  pub small : n ≤ greatest
  pub form : bytes ≡ encode n ++ rest

-- the numbers below this one are those whose fifth byte, if any, is at most 0F
abbrev pub limit_by : ℕ → ℕ
limit_by zero = 16
limit_by (suc more) = 128 * limit_by more

pub record BeginsBy (more : ℕ) (bytes : List ℕ) (n : ℕ) (rest : List ℕ) : Type 0 where
  pub small : n < limit_by more
  pub form : bytes ≡ encode_by more n ++ rest

-- each of the bytes says that another follows
abbrev pub Continued : List ℕ → Type 0
Continued bytes = AllByRecursion (λ b. 128 ≤ b) bytes

-- the bytes end before the number does
pub record EndsInside (more : ℕ) (bytes : List ℕ) : Type 0 where
  pub few : length bytes ≤ more
  pub continued : Continued bytes

-- the bytes begin with what looks like a number and is none
pub data Malformed (more : ℕ) (bytes : List ℕ) : Type 0 where
  -- its last group is empty, so a shorter form would do
  not_shortest : (front rest : List ℕ) → Continued front → 1 ≤ length front → length front ≤ more → bytes ≡ front ++ 0 ∷ rest → Malformed more bytes
  -- its fifth byte is above 0F: it is above the greatest number, or a sixth byte would follow
  too_great : (front rest : List ℕ) (fifth : ℕ) → Continued front → length front ≡ more → 15 < fifth → bytes ≡ front ++ fifth ∷ rest → Malformed more bytes

-- f is the fault of a number that begins at `first` of a file of `size` bytes, which ends with `bytes`
pub data FaultBy (more first size : ℕ) (bytes : List ℕ) (f : Fault) : Type 0 where
  missing : EndsInside more bytes → f ≡ missing_byte size → FaultBy more first size bytes f
  malformed : Malformed more bytes → f ≡ malformed_number first → FaultBy more first size bytes f

abbrev pub NumberFault : ℕ → List ℕ → Fault → Type 0
NumberFault size bytes f = FaultBy 4 (size - length bytes) size bytes f

-- A number is read, or its fault is told and the reader stays where it stood.
pub record ReadsNumber (before after : Reader) (r : Result ℕ Fault) : Type 0 where
  -- one of the two is so
  pub answer : MatchResult r (λ n. (rest : List ℕ) × Begins (ahead before) n rest) (λ f. NumberFault (size before) (ahead before) f)
  pub read : (n : ℕ) (rest : List ℕ) → Begins (ahead before) n rest → (r ≡ Ok n) × (ahead after ≡ rest) × (after.at ≡ before.at + length (encode n))
  pub faulty : (f : Fault) → NumberFault (size before) (ahead before) f → (r ≡ Err f) × (after ≡ before)
