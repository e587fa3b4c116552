-- Records of a file, one after another: cells, places, lanes. Assumes nothing.
use Rattle.std.specs.Prelude.{◌≡◌, ℕ, zero, suc, ◌<◌, Bool, true, List, [], ◌∷◌, ◌++◌, length, Result, MatchResult}
use Rattle.sitefile.specs.declared.fault.Fault.{Fault}
use Rattle.sitefile.specs.declared.reader.Reader.{Reader}
use Rattle.sitefile.specs.Readers.{ahead, size}
use Rattle.sitefile.specs.Formats.{Format, FirstFault}

-- How records of one kind stand for values. What is expected of a record may depend on those before it.
pub record Records (X : Type 0) : Type 0 where
  -- the bytes of a value, and what follows
  pub encode : X → List ℕ → List ℕ
  -- what a file holds there, and then what the value leads to
  pub format : List X → (X → Format) → Format
  -- may the value come after those before it?
  pub allowed : List X → X → Bool

module _ {X : Type 0} (R : Records X) where
  -- the bytes of values one after another, and what follows
  abbrev pub encode_all : List X → List ℕ → List ℕ
  encode_all [] rest = rest
  encode_all (x ∷ xs) rest = R.encode x (encode_all xs rest)

  -- each of the values may come where it does
  abbrev pub AllAllowed : List X → List X → Type 0
  AllAllowed before [] = Unit {0}
  AllAllowed before (x ∷ xs) = (R.allowed before x ≡ true) × AllAllowed (before ++ x ∷ []) xs

  -- `count` records, and then what all of them lead to
  abbrev pub many : ℕ → List X → (List X → Format) → Format
  many zero before next = next before
  many (suc count) before next = R.format before (λ x. many count (before ++ x ∷ []) next)

  -- the bytes are the layout of values that are allowed, and what follows
  pub record ReadAll (bytes : List ℕ) (xs : List X) (rest : List ℕ) : Type 0 where
    pub form : bytes ≡ encode_all xs rest
    pub all_allowed : AllAllowed [] xs

  -- A record was read, or its fault is told: the same whatever follows, and whatever stands before.
  pub record Reads (from to : Reader) (r : Result X Fault) : Type 0 where
    pub read : (before : List X) → MatchResult r (λ x. (R.allowed before x ≡ true) × (ahead from ≡ R.encode x (ahead to))) (λ f. (next : X → Format) → FirstFault (size from) (R.format before next) (ahead from) f)
    pub same_size : size to ≡ size from

  -- a reader has come from one place to another over `count` records
  pub record Walked (count : ℕ) (from to : Reader) : Type 0 where
    pub values : List X
    pub counted : length values ≡ count
    pub read : ReadAll (ahead from) values (ahead to)
    pub same_size : size to ≡ size from

  -- after fewer than `count` records there is one with the fault f, the same whatever follows
  pub record StopsAmong (count : ℕ) (from : Reader) (f : Fault) : Type 0 where
    pub done : ℕ
    pub mid : Reader
    pub few : done < count
    pub walk : Walked done from mid
    pub fault : (next : X → Format) → FirstFault (size mid) (R.format walk.values next) (ahead mid) f
