-- What the calls of a planner answer and leave. Assumes nothing.
use Rattle.std.specs.Prelude.{◌≡◌, ℕ, ◌<◌, ◌≤◌, true, ◌⊎◌, List, length, take, drop, Some, Option, Ok, Err, Result, MatchOption}
use Rattle.std.specs.Option.{option_map}
use Rattle.cost.specs.Costs.{Kind}
use Rattle.routes.specs.Sites.{Meaning}
use Rattle.routes.specs.Estimates.{opened, retargeted, Sound}
use Rattle.sheet.specs.declared.Entry.{Entry}
use Rattle.sheet.specs.Sheets.{estimate_of, Filled}
use Rattle.search.specs.declared.Found.{Found}
use Rattle.search.specs.Searches.{Searched}
use Rattle.refusals.specs.Refusals.{is_granted}
use Rattle.refusals.specs.declared.Refusal.{Refusal}
use Rattle.refusals.specs.declared.Refusal.TheVariants.{NotOpened, UnknownPlace, ShortMemory, UnsoundSheet}
use Rattle.planner.specs.declared.Trip.{Trip}
use Rattle.planner.specs.declared.Planner.{Planner}
use Rattle.planner.specs.Trips.{trip_of}

-- a question that is answered yes, and then the rest; or no, and then that is the answer of the call
abbrev pub Asks : {X : Type 0} → Result X Refusal → Type 0 → Refusal → Type 0 → Type 0
Asks r P refusal rest = (P × rest) ⊎ ((P → ⊥) × (r ≡ Err refusal))

abbrev pub Granted : {X : Type 0} → Result X Refusal → Type 0
Granted r = is_granted r ≡ true

-- the trip of a planner that is opened, and then the rest; or none, and then that is the answer of the call
abbrev pub AsksTrip : {X : Type 0} → Result X Refusal → Option Trip → (Trip → Type 0) → Type 0
AsksTrip r trip rest = MatchOption trip (r ≡ Err NotOpened) rest

module _ {S C : Type 0} (K : Kind C) (m : Meaning C) (p : Planner S) where
  abbrev pub OpenAnswer : ℕ → ℕ → ℕ → Result (Unit {0}) Refusal → Type 0
  OpenAnswer start target sheet r =
      Asks r ((start < m.places) × (target < m.places)) UnknownPlace
      (Asks r (m.places ≤ sheet) ShortMemory
      (Granted r))

  abbrev pub MoveAnswer : ℕ → Result (Unit {0}) Refusal → Type 0
  MoveAnswer start r =
      AsksTrip r (trip_of m p) (λ t.
      Asks r (start < m.places) UnknownPlace
      (Granted r))

  abbrev pub RetargetAnswer : ℕ → List (Entry C) → Result (Unit {0}) Refusal → Type 0
  RetargetAnswer target sheet r =
      AsksTrip r (trip_of m p) (λ t.
      Asks r (target < m.places) UnknownPlace
      (Asks r (m.places ≤ length sheet) ShortMemory
      (Asks r (Sound K m t.target (estimate_of sheet)) UnsoundSheet
      (Granted r))))

  abbrev pub SearchAnswer : List (Entry C) → List ℕ → List ℕ → Result (Found C) Refusal → Type 0
  SearchAnswer sheet queue list r =
      AsksTrip r (trip_of m p) (λ t.
      Asks r ((m.places ≤ length sheet) × (m.places ≤ length queue) × (m.places ≤ length list)) ShortMemory
      (Asks r (Sound K m t.target (estimate_of sheet)) UnsoundSheet
      (Granted r)))

  -- Open takes the start and the target, and each estimate becomes the hint.
  abbrev pub Opens : ℕ → ℕ → Result (Unit {0}) Refusal → Planner S → List (Entry C) → List (Entry C) → Type 0
  Opens start target (Ok _) after before sheet =
      (after.site ≡ p.site)
      × (after.trip ≡ Some (record { start = start; target = target; stamp = 0 }))
      × Filled (opened K m target) m.places before sheet
  Opens start target (Err _) after before sheet = (after ≡ p) × (sheet ≡ before)

  -- Move changes only the start.
  abbrev pub Moves : ℕ → Result (Unit {0}) Refusal → Planner S → Type 0
  Moves start (Ok _) after =
      (after.site ≡ p.site)
      × (after.trip ≡ option_map (λ t. record { start = start; target = t.target; stamp = t.stamp }) (trip_of m p))
  Moves start (Err _) after = after ≡ p

  -- Retarget takes the target, and turns the estimates to it.
  abbrev pub Retargets : ℕ → Result (Unit {0}) Refusal → Planner S → List (Entry C) → List (Entry C) → Type 0
  Retargets target (Ok _) after before sheet =
      (after.site ≡ p.site)
      × (after.trip ≡ option_map (λ t. record { start = t.start; target = target; stamp = t.stamp }) (trip_of m p))
      × Filled (retargeted K m target (estimate_of before)) m.places before sheet
  Retargets target (Err _) after before sheet = (after ≡ p) × (sheet ≡ before)

  -- Search changes the first records of the sheet, the route in the list, and the queue, which is free then.
  abbrev pub Searches : Result (Found C) Refusal → List (Entry C) → List (Entry C) → List ℕ → List ℕ → List ℕ → List ℕ → Type 0
  Searches (Ok found) before sheet queue queue' list list' =
      MatchOption (trip_of m p) ⊥ (λ t. Searched K m t.start t.target (take m.places before) (take m.places sheet) list list' found.answer found.opened found.count)
      × (drop m.places sheet ≡ drop m.places before)
  Searches (Err _) before sheet queue queue' list list' = (sheet ≡ before) × (queue' ≡ queue) × (list' ≡ list)
