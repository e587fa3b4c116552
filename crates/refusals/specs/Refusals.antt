-- The numbers of the questions that calls put, and which of them decides a call. Assumes nothing.
use Rattle.std.specs.Prelude.{ℕ, Bool, true, false, cond, List, [], ◌∷◌, Ok, Err, Result}
use Rattle.refusals.specs.declared.Refusal.{Refusal}
use Rattle.refusals.specs.declared.Refusal.TheVariants.{NotOpened, UnknownPlace, UnknownSegment, NotSettable, CostOutsideLimits, StampGoingBack, ShortMemory, UnsoundSheet, BarsFull}

-- the number of the question that was answered no
abbrev pub refusal_number : Refusal → ℕ
refusal_number NotOpened = 1
refusal_number UnknownPlace = 2
refusal_number UnknownSegment = 3
refusal_number NotSettable = 4
refusal_number CostOutsideLimits = 5
refusal_number StampGoingBack = 6
refusal_number ShortMemory = 7
refusal_number UnsoundSheet = 8
refusal_number BarsFull = 9

-- What a call answers that puts these questions in this order, each with the refusal for a no: the first refusal, or granted where all are answered yes.
abbrev pub first_no : List (Bool × Refusal) → Result (Unit {0}) Refusal
first_no [] = Ok tt
first_no (q ∷ qs) = cond q.0 (first_no qs) (Err q.1)

-- was the call granted?
abbrev pub is_granted : {X : Type 0} → Result X Refusal → Bool
is_granted (Ok x) = true
is_granted (Err e) = false
