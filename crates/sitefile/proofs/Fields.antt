-- Numbers in their ranges, and the first fault of a format. Assumes nothing.
use Rattle.std.proofs.Common.{◌≡◌, ℕ, ◌-◌, ◌<◌, ◌≤◌, Bool, true, false, ◌⊎◌, List, [], ◌∷◌, ◌++◌, length, Ok, Err, Result, MatchResult, IsErrAnd, sym, refl, ap, ◌∙◌, subst, ⊎_elim, arith}
use Rattle.std.proofs.lemmas.Bool.{lt-leb, le-leb, leb-true, and_from, and_left, and_right, and_parts, both_ways}
use Rattle.tables.specs.Floors.{between}
use Rattle.sitefile.specs.declared.fault.Fault.{Fault}
use Rattle.sitefile.specs.Faults.{bytes_left}
use Rattle.sitefile.specs.Numbers.{encode, greatest}
use Rattle.sitefile.specs.Formats.{Format, ended, position, check, field, FieldRead, FieldFault, no_number, outside, FirstFault, here, later, at_position, failed, passed, goes_on}
use Rattle.sitefile.proofs.Forms.{begins_same, no_fault, number_same}

pub not_between : (lowest highest n : ℕ) → (n < lowest) ⊎ ((lowest ≤ n) × (highest < n)) → between lowest highest n ≡ false
not_between lowest highest n e = ⊎_elim (λ h. and_left _ _ (lt-leb lowest n h)) (λ h. and_right _ _ (lt-leb n highest h.1)) e

pub is_between : (lowest highest n : ℕ) → lowest ≤ n → n ≤ highest → between lowest highest n ≡ true
is_between lowest highest n low high = and_from _ _ (le-leb lowest n low) (le-leb n highest high)

pub at_least : (lowest highest n : ℕ) → between lowest highest n ≡ true → lowest ≤ n
at_least lowest highest n e = leb-true lowest n (and_parts _ _ e).0

pub at_most : (lowest highest n : ℕ) → between lowest highest n ≡ true → n ≤ highest
at_most lowest highest n e = leb-true n highest (and_parts _ _ e).1

pub field_read : {ranged : ℕ → Bool} {bytes rest : List ℕ} {n : ℕ} → ranged n ≡ true → n ≤ greatest → bytes ≡ encode n ++ rest → FieldRead ranged bytes n rest
field_read in_range small form = record { begins = record { small = small; form = form }; in_range = in_range }

-- what `?` passes on of a call is what the call told
pub passed_on : {A : Type 0} (P : A → Type 0) (Q : Fault → Type 0) {f : Fault} (r : Result A Fault) → IsErrAnd r (λ x. x ≡ f) → Q f → MatchResult r P Q
passed_on P Q (Ok x) e told = absurd e
passed_on P Q (Err g) e told = subst Q (sym e) told

-- a fault is the same whatever the reader's name for the file's size
pub field_at : {size size' : ℕ} {ranged : ℕ → Bool} {bytes : List ℕ} {f : Fault} → size' ≡ size → FieldFault size' ranged bytes f → FieldFault size ranged bytes f
field_at {ranged = ranged} {bytes = bytes} {f = f} e x = subst (λ s. FieldFault s ranged bytes f) e x

pub fault_at : {size size' : ℕ} {format : Format} {bytes : List ℕ} {f : Fault} → size' ≡ size → FirstFault size' format bytes f → FirstFault size format bytes f
fault_at {format = format} {bytes = bytes} {f = f} e x = subst (λ s. FirstFault s format bytes f) e x

pub check_passed : {size : ℕ} {next : Format} {bytes : List ℕ} {f g : Fault} {t : Bool} → t ≡ true → FirstFault size next bytes f → FirstFault size (check t g next) bytes f
check_passed {size} {next} {bytes} {f} {g} e x = subst (λ b. FirstFault size (check b g next) bytes f) (sym e) (passed x)

pub check_failed : {size : ℕ} {next : Format} {bytes : List ℕ} {f : Fault} {t : Bool} → t ≡ false → FirstFault size (check t f next) bytes f
check_failed {size} {next} {bytes} {f} e = subst (λ b. FirstFault size (check b f next) bytes f) (sym e) failed

pub more_left : (size at : ℕ) (bytes : List ℕ) → 0 < length bytes → at ≡ size - length bytes → FirstFault size ended bytes (bytes_left at)
more_left size at [] some e = absurd (omega arith)
more_left size at (b ∷ bytes) some e = subst (λ p. FirstFault size ended (b ∷ bytes) (bytes_left p)) (sym e) (goes_on b bytes)

-- Bytes have one first fault at most.

field_same : {size : ℕ} {ranged : ℕ → Bool} {bytes : List ℕ} {f g : Fault} → FieldFault size ranged bytes f → FieldFault size ranged bytes g → f ≡ g
field_same (no_number x) (no_number y) = number_same x y
field_same (no_number x) (outside n rest b out e) = absurd (no_fault x b)
field_same (outside n rest b out e) (no_number x) = absurd (no_fault x b)
field_same (outside n rest b out e) (outside n' rest' b' out' e') = e ∙ sym e'

not_both : {size : ℕ} {ranged : ℕ → Bool} {bytes rest : List ℕ} {n : ℕ} {f : Fault} → FieldFault size ranged bytes f → FieldRead ranged bytes n rest → ⊥
not_both (no_number x) r = no_fault x r.begins
not_both {ranged = ranged} (outside n rest b out e) r = both_ways _ out (ap ranged (begins_same b r.begins).0 ∙ r.in_range)

pub fault_same : {size : ℕ} {format : Format} {bytes : List ℕ} {f g : Fault} → FirstFault size format bytes f → FirstFault size format bytes g → f ≡ g
fault_same (here x) (here y) = field_same x y
fault_same (here x) (later n rest r y) = absurd (not_both x r)
fault_same (later n rest r x) (here y) = absurd (not_both y r)
fault_same {size} {g = g} (later {next = next} n rest r x) (later m rest' r' y) =
    let same = begins_same r'.begins r.begins in
    fault_same x (subst (λ l. FirstFault size (next n) l g) same.1 (subst (λ k. FirstFault size (next k) rest' g) same.0 y))
fault_same (at_position x) (at_position y) = fault_same x y
fault_same failed failed = refl
fault_same (passed x) (passed y) = fault_same x y
fault_same (goes_on b bytes) (goes_on b' bytes') = refl

-- Bytes that hold what a format says have no fault.
pub data Holds (size : ℕ) : Format → List ℕ → Type 0 where
  to_the_end : Holds size ended []
  with_position : {next : ℕ → Format} {bytes : List ℕ} → Holds size (next (size - length bytes)) bytes → Holds size (position next) bytes
  with_check : {next : Format} {bytes : List ℕ} {g : Fault} {t : Bool} → t ≡ true → Holds size next bytes → Holds size (check t g next) bytes
  with_field : {ranged : ℕ → Bool} {next : ℕ → Format} {bytes : List ℕ} (n : ℕ) (rest : List ℕ) → FieldRead ranged bytes n rest → Holds size (next n) rest → Holds size (field ranged next) bytes

pub faultless : {size : ℕ} {format : Format} {bytes : List ℕ} {f : Fault} → FirstFault size format bytes f → Holds size format bytes → ⊥
faultless (here x) (with_field n rest r h) = not_both x r
faultless {size} (later {next = next} n rest r x) (with_field m rest' r' h) =
    let same = begins_same r'.begins r.begins in
    faultless x (subst (Holds size (next n)) same.1 (subst (λ k. Holds size (next k) rest') same.0 h))
faultless (at_position x) (with_position h) = faultless x h
faultless failed (with_check e h) = both_ways _ refl e
faultless (passed x) (with_check e h) = faultless x h
faultless {size = size} (goes_on b bytes) h = elim h [ ]

-- What a number in its range, a question that is passed and a position carry from what follows to what stands before it: a fault, and the lack of one.
pub record Carries (size : ℕ) (T : Format → List ℕ → Type 0) : Type 0 where
  pub over_field : (ranged : ℕ → Bool) (next : ℕ → Format) (bytes : List ℕ) (n : ℕ) (rest : List ℕ) → FieldRead ranged bytes n rest → T (next n) rest → T (field ranged next) bytes
  pub over_check : (t : Bool) (g : Fault) (next : Format) (bytes : List ℕ) → t ≡ true → T next bytes → T (check t g next) bytes
  pub over_position : (next : ℕ → Format) (bytes : List ℕ) → T (next (size - length bytes)) bytes → T (position next) bytes

pub carries_fault : (size : ℕ) (f : Fault) → Carries size (λ format bytes. FirstFault size format bytes f)
carries_fault size f = record {
  over_field = λ ranged next bytes n rest r x. later n rest r x;
  over_check = λ t g next bytes e x. check_passed e x;
  over_position = λ next bytes x. at_position x;
}

pub carries_holding : (size : ℕ) → Carries size (Holds size)
carries_holding size = record {
  over_field = λ ranged next bytes n rest r h. with_field n rest r h;
  over_check = λ t g next bytes e h. with_check e h;
  over_position = λ next bytes h. with_position h;
}
