-- What the tests of a sheet tell. Assumes nothing.
use Rattle.std.proofs.Common.{◌≡◌, ℕ, ◌+◌, ◌<◌, ◌≤◌, Bool, true, false, List, length, map, take, get_or, MatchBool, ap, sym, refl, ◌∙◌, subst, true≢false, arith}
use Rattle.cost.specs.declared.lengths.Length.{Length}
use Rattle.cost.specs.declared.lengths.Length.TheVariants.{Finite, Infinite}
use Rattle.cost.specs.Costs.{Kind, Laws}
use Rattle.cost.specs.Lengths.{AtMost, Within, length_le, length_within, sum, origin}
use Rattle.routes.specs.Sites.{Meaning, Way}
use Rattle.routes.specs.Estimates.{Sound}
use Rattle.cost.proofs.LengthLemmas.{at_most_antisym, origin_least, at_most_of_eq, within_finite, within_infinite}
use Rattle.routes.proofs.Estimates.{consistent_way}
use Rattle.sheet.specs.declared.Entry.{Entry}
use Rattle.site.specs.declared.Way.{Way as WayOut}
use Rattle.sheet.specs.Sheets.{blank, estimate_of}
use Rattle.site.specs.WaysOut.{way_from, ways_of}
use Rattle.soundness.specs.Checks.{Tells, AllWithin as AllEstimatesWithin, ConsistentFrom, is_way_consistent}
use Rattle.std.specs.List.{AllWithin, HoldsAt, range_with_len}
use Rattle.std.proofs.lemmas.List.FromFn.{length-range_with_len, get_or-range_with_len}
use Rattle.std.proofs.lemmas.Bool.{lt-ltb, cond-true}
use Rattle.std.proofs.lemmas.List.{get_or_default, length-map, get_or-map, get_or-take, length-take-le}
use Rattle.site.proofs.WaysOut.{way_found, ways_each}

-- what an answer tells that was yes
pub told : {P : Type 0} {b : Bool} → b ≡ true → Tells b P → P
told {P} e h = subst (λ b. Tells b P) e h

-- what an answer tells that was no
pub told_not : {P : Type 0} {b : Bool} → b ≡ false → Tells b P → P → ⊥
told_not {P} e h = subst (λ b. Tells b P) e h

module _ {C : Type 0} {K : Kind C} (laws : Laws K) where
  pub within_told : (a : Length C) → length_within K a ≡ true → Within K a
  within_told (Finite c) h = within_finite laws h
  within_told Infinite h = within_infinite laws

  pub within_tells : (a : Length C) → Within K a → length_within K a ≡ true
  within_tells (Finite c) h = h.fits c refl
  within_tells Infinite h = refl

  pub zero_told : (a : Length C) → length_le K a (origin K) ≡ true → a ≡ origin K
  zero_told a h = let p : AtMost K a (origin K) = record { holds = h } in at_most_antisym laws p (origin_least laws a)

  pub zero_tells : (a : Length C) → a ≡ origin K → length_le K a (origin K) ≡ true
  zero_tells a e = (at_most_of_eq laws e).holds

  -- the question whether the estimate at a place is zero
  pub zero_asked : (sheet : List (Entry C)) (t : ℕ) (old : Entry C) → t < length sheet → {b : Bool} {z : Length C} → b ≡ length_le K (get_or sheet t old).estimate z → z ≡ origin K → length_le K (estimate_of sheet t) (origin K) ≡ b
  zero_asked sheet t old inside asked zero = ap (λ (e : Entry C). length_le K e.estimate (origin K)) (get_or_default sheet t blank old inside) ∙ ap (length_le K (get_or sheet t old).estimate) (sym zero) ∙ sym asked

  -- what a walk over the first n entries tells
  module _ (sheet : List (Entry C)) (n : ℕ) (room : n ≤ length sheet) where
    pub walked : (r : Bool)
        → MatchBool r (AllWithin (λ e. true ≡ length_within K e.estimate) (take n sheet) 0 (length (take n sheet))) ((k : ℕ) × (k < length (take n sheet)) × HoldsAt (λ e. false ≡ length_within K e.estimate) (take n sheet) k)
        → Tells r (AllEstimatesWithin K n sheet)
    walked true all = λ s h. within_told (estimate_of sheet s) (ap (λ e. length_within K e.estimate) (sym (get_or-take n sheet s blank h)) ∙ sym (all s blank (omega arith) (omega (arith, length-take-le n sheet room))))
    walked false w = let k = w.0 in let inside : k < n = omega (arith, length-take-le n sheet room, w.1) in
        λ (all : AllEstimatesWithin K n sheet). true≢false (sym (within_tells (estimate_of sheet k) (all k inside)) ∙ ap (λ e. length_within K e.estimate) (sym (get_or-take n sheet k blank inside)) ∙ sym (w.2 blank))

module _ {C : Type 0} (K : Kind C) (m : Meaning C) (sheet : List (Entry C)) (s : ℕ) (place : s < m.places) where
  listed : ways_of m s ≡ map way_from (m.ways s)
  listed = cond-true _ _ _ (lt-ltb s m.places place)

  long : length (ways_of m s) ≡ length (m.ways s)
  long = ap length listed ∙ length-map (m.ways s) way_from

  read : (k : ℕ) (d : WayOut) → k < length (ways_of m s) → get_or (ways_of m s) k d ≡ way_from (get_or (m.ways s) k (0, 0))
  read k d inside = ap (λ ws. get_or ws k d) listed ∙ get_or-map way_from (m.ways s) k (0, 0) d (omega (arith, long))

  -- a way that a walk meets is a way out of the place
  pub met : (k : ℕ) (w : WayOut) → k < length (ways_of m s) → w ≡ get_or (ways_of m s) k w → Way m s w.end w.segment
  met k w inside at = let e = at ∙ read k w inside in way_found m s k w (place, omega (arith, long), sym (ap (λ (x : WayOut). (x.end, x.segment)) e))

  -- what a walk over the ways tells
  pub consistent_told : (r : Bool)
      → MatchBool r (AllWithin (λ w. true ≡ is_way_consistent K m sheet s w) (ways_of m s) 0 (length (ways_of m s))) ((k : ℕ) × (k < length (ways_of m s)) × HoldsAt (λ w. false ≡ is_way_consistent K m sheet s w) (ways_of m s) k)
      → Tells r (ConsistentFrom K m sheet s)
  consistent_told true all = ways_each m (λ w. AtMost K (estimate_of sheet s) (sum K (m.state w.1) (estimate_of sheet w.0))) s (length (ways_of m s)) (omega (arith, long))
      (λ j h. record { holds = ap (is_way_consistent K m sheet s) (sym (read j (way_from (0, 0)) h)) ∙ sym (all j (way_from (0, 0)) (omega arith) h) })
  consistent_told false w =
      let x = get_or (ways_of m s) w.0 (way_from (0, 0)) in
      let at : x ≡ get_or (ways_of m s) w.0 x = read w.0 (way_from (0, 0)) w.1 ∙ sym (read w.0 x w.1) in
      λ (all : ConsistentFrom K m sheet s). true≢false (sym (all x.end x.segment (met w.0 x w.1 at)).holds ∙ sym (w.2 (way_from (0, 0))))

module _ {C : Type 0} {K : Kind C} (laws : Laws K) (m : Meaning C) (target : ℕ) (sheet : List (Entry C)) where
  pub sound_from : Sound K m target (estimate_of sheet) → (s : ℕ) → s < m.places → ConsistentFrom K m sheet s
  sound_from sound s h u f way = consistent_way laws m (estimate_of sheet) sound.consistent s u f h way

  zero_plus : (k : ℕ) → 0 + k ≡ k
  zero_plus k = omega arith

  -- what a walk over the places tells
  pub sound_told : length_le K (estimate_of sheet target) (origin K) ≡ true → AllEstimatesWithin K m.places sheet → (r : Bool)
      → MatchBool r (AllWithin (ConsistentFrom K m sheet) (range_with_len 0 m.places) 0 (length (range_with_len 0 m.places))) ((k : ℕ) × (k < length (range_with_len 0 m.places)) × HoldsAt (λ s. ConsistentFrom K m sheet s → ⊥) (range_with_len 0 m.places) k)
      → Tells r (Sound K m target (estimate_of sheet))
  sound_told zero within true all = record {
    target_zero = zero_told laws (estimate_of sheet target) zero;
    within = within;
    consistent = λ s u f c h way opened. subst (λ x. AtMost K (estimate_of sheet s) (sum K x (estimate_of sheet u))) opened (at s h u f way);
  }
    where
      at : (s : ℕ) → s < m.places → ConsistentFrom K m sheet s
      at s h = subst (ConsistentFrom K m sheet) (get_or-range_with_len 0 m.places s 0 h ∙ zero_plus s) (all s 0 (omega arith) (omega (arith, length-range_with_len 0 m.places)))
  sound_told zero within false w =
      let inside : w.0 < m.places = omega (arith, length-range_with_len 0 m.places, w.1) in
      λ (sound : Sound K m target (estimate_of sheet)). w.2 0 (subst (ConsistentFrom K m sheet) (sym (get_or-range_with_len 0 m.places w.0 0 inside)) (sound_from sound (0 + w.0) (omega (arith, inside))))
