-- What holds of a planner and its sheet while a call is granted. Assumes nothing.
use Rattle.std.proofs.Common.{◌≡◌, ℕ, ◌<◌, Bool, true, false, cond, List, take, Some, None, Option, Ok, Err, Result, is_ok, sym, ap, ◌∙◌, subst, true≢false, arith}
use Rattle.std.specs.Option.{is_some}
use Rattle.std.proofs.lemmas.Map.Entries.{option_filter}
use Rattle.std.proofs.lemmas.Option.{cond_some}
use Rattle.std.proofs.lemmas.List.{get_or-take}
use Rattle.std.proofs.lemmas.Bool.Decides.{nat_tests}
use Rattle.cost.specs.declared.lengths.Length.TheVariants.{Finite}
use Rattle.cost.specs.Costs.{Kind}
use Rattle.cost.specs.Lengths.{AtMost, Within, sum}
use Rattle.routes.specs.Sites.{Meaning, Lawful}
use Rattle.routes.specs.Estimates.{Sound}
use Rattle.sheet.specs.declared.Entry.{Entry}
use Rattle.refusals.specs.declared.Refusal.{Refusal}
use Rattle.soundness.specs.Checks.{Tells}
use Rattle.planner.specs.declared.Trip.{Trip}
use Rattle.planner.specs.Trips.{has_places}
use Rattle.planner.specs.Calls.{AsksTrip}
use Rattle.sheet.specs.Sheets.{blank, estimate_of}

-- start and target of the trip of a planner that is opened are places
pub trip_named : (n : ℕ) (trip : Option Trip) (t : Trip) → option_filter (has_places n) trip ≡ Some t → (t.start < n) × (t.target < n)
trip_named n (Some x) t is =
    let h = cond_some (has_places n x) x t is in
    let named : has_places n t ≡ true = subst (λ y. has_places n y ≡ true) h.1 h.0 in
    grind (arith, nat_tests, named)
trip_named n None t is = absurd (true≢false (sym (ap is_some is)))

-- what an answer tells that was yes
pub told : {P : Type 0} (answer : Bool) (refusal : Refusal) → ◌≡◌ {A = Result (Unit {0}) Refusal} (Ok tt) (cond answer (Ok tt) (Err refusal)) → Tells answer P → P
told true refusal e h = h
told false refusal e h = absurd (true≢false (ap is_ok e))

-- what a planner that is opened answers
pub on_trip : {X : Type 0} (r : Result X Refusal) (trip : Option Trip) (t : Trip) (rest : Trip → Type 0) → trip ≡ Some t → rest t → AsksTrip r trip rest
on_trip r trip t rest is h = subst (λ x. AsksTrip r x rest) (sym is) h

-- soundness looks only at the records of the places
module _ {C : Type 0} {K : Kind C} {m : Meaning C} (lawful : Lawful K m) (target : ℕ) (place : target < m.places) (sheet : List (Entry C)) where
  front : (s : ℕ) → s < m.places → estimate_of (take m.places sheet) s ≡ estimate_of sheet s
  front s h = ap (λ (t : Entry C). t.estimate) (get_or-take m.places sheet s blank h)

  pub sound_front : Sound K m target (estimate_of sheet) → Sound K m target (estimate_of (take m.places sheet))
  sound_front sound = record {
    target_zero = front target place ∙ sound.target_zero;
    within = λ s h. subst (Within K) (sym (front s h)) (sound.within s h);
    consistent = λ s u f c h way costs.
        subst (λ a. AtMost K a (sum K (Finite c) (estimate_of (take m.places sheet) u))) (sym (front s h))
        (subst (λ b. AtMost K (estimate_of sheet s) (sum K (Finite c) b)) (sym (front u (lawful.way_place s u f way))) (sound.consistent s u f c h way costs));
  }
