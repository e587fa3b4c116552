-- The places and lanes of a tape. Assumes nothing.
use Rattle.std.proofs.Common.{◌≡◌, ℕ, suc, ◌+◌, ◌-◌, ◌*◌, ◌/◌, ◌%◌, ◌<◌, ◌≤◌, true, false, cond, ◌&&◌, eqb, ltb, List, [], ◌++◌, length, ℤ, pos, negsuc, inr, Ok, Err, sym, refl, ap, ◌∙◌, subst, ⊎_elim, arith}
use Rattle.std.proofs.lemmas.Bool.{eq-eqb, ne_eqb, eqb-true, cond-true, cond-false, and_from, and_parts, leb-true, ltb-true, lt-ltb, le-ltb, cases_lt}
use Rattle.tables.specs.declared.tape.Place.{Place}
use Rattle.tables.specs.declared.tape.Lane.{Lane}
use Rattle.tables.specs.declared.tape.LaneCost.{LaneCost}
use Rattle.tables.specs.States.{LaneState}
use Rattle.tables.specs.declared.State.TheVariants.{Closed, Open}
use Rattle.tables.specs.Floors.{between, longest_segment}
use Rattle.tables.specs.Tapes.{farthest, most_places, most_crossings, is_coordinate, is_place, is_lane_cost, unnoted_place, unnoted_lane}
use Rattle.sitefile.specs.declared.reader.Reader.{Reader}
use Rattle.sitefile.specs.Readers.{ahead, size}
use Rattle.sitefile.specs.Numbers.{encode}
use Rattle.sitefile.specs.declared.fault.Fault.{Fault}
use Rattle.sitefile.specs.Faults.{broken_rule}
use Rattle.sitefile.specs.Formats.{Format, check, field, FieldRead, FieldFault, no_number, outside, FirstFault, later, at_position}
use Rattle.sitefile.specs.Records.{Reads, Walked, StopsAmong}
use Rattle.sitefile.specs.Tapes.{zigzag, unzigzag, no_notes_at, is_coordinate_number, places, no_notes_on, costs, states, cost_format, encode_cost, state_format, encode_state, lane_format, encode_lane, is_state_ranged, is_lane_ranged, lane_numbers, keeps_rules, lanes}
use Rattle.sitefile.proofs.Forms.{encode_same}
use Rattle.sitefile.proofs.Fields.{not_between, is_between, at_most, field_read, check_failed, Carries, carries_fault}
use Rattle.sitefile.proofs.Runs.{RecordLaws}

-- Coordinates

pub zigzag_back : (z : ℤ) → unzigzag (zigzag z) ≡ z
zigzag_back (pos n) = let e : (2 * n) % 2 ≡ 0 = omega arith in let q : (2 * n) / 2 ≡ n = omega arith in cond-true (eqb ((2 * n) % 2) 0) (pos ((2 * n) / 2)) (negsuc ((2 * n) / 2)) (eq-eqb ((2 * n) % 2) 0 e) ∙ ap pos q
zigzag_back (negsuc n) = let q : (2 * n + 1) / 2 ≡ n = omega arith in cond-false (eqb ((2 * n + 1) % 2) 0) (pos ((2 * n + 1) / 2)) (negsuc ((2 * n + 1) / 2)) (ne_eqb ((2 * n + 1) % 2) 0 (λ z. omega arith)) ∙ ap negsuc q

zigzag_small : (z : ℤ) → is_coordinate z ≡ true → zigzag z ≤ 2 * farthest
zigzag_small (pos n) e = omega (arith, leb-true n farthest e)
zigzag_small (negsuc n) e = omega (arith, leb-true (suc n) farthest e)

coordinate_field : (z : ℤ) (rest : List ℕ) → is_coordinate z ≡ true → FieldRead is_coordinate_number (encode (zigzag z) ++ rest) (zigzag z) rest
coordinate_field z rest e = let h = zigzag_small z e in field_read (is_between 0 (2 * farthest) (zigzag z) (omega arith) h) (omega arith) refl

-- Places

placed_back : (p : Place) → no_notes_at p ≡ true → unnoted_place (unzigzag (zigzag p.x)) (unzigzag (zigzag p.y)) ≡ p
placed_back p none =
    let a = and_parts _ _ none in
    let b = and_parts _ _ a.0 in
    let c = and_parts _ _ b.0 in
    (λ i. record {
      x = zigzag_back p.x i;
      y = zigzag_back p.y i;
      first = sym (eqb-true p.first 0 c.0) i;
      ways = sym (eqb-true p.ways 0 c.1) i;
      entry_first = sym (eqb-true p.entry_first 0 b.1) i;
      entries = sym (eqb-true p.entries 0 a.1) i;
    })

place_carried : (size : ℕ) (T : Format → List ℕ → Type 0) → Carries size T → (p : Place) (next : Place → Format) (rest : List ℕ) → is_place p && no_notes_at p ≡ true → T (next p) rest → T (field is_coordinate_number (λ x. field is_coordinate_number (λ y. next (unnoted_place (unzigzag x) (unzigzag y))))) (encode (zigzag p.x) ++ (encode (zigzag p.y) ++ rest))
place_carried size T c p next rest ok t =
    let both = and_parts _ _ ok in
    let on = and_parts _ _ both.0 in
    let last = encode (zigzag p.y) ++ rest in
    c.over_field is_coordinate_number (λ x. field is_coordinate_number (λ y. next (unnoted_place (unzigzag x) (unzigzag y)))) (encode (zigzag p.x) ++ last) (zigzag p.x) last (coordinate_field p.x last on.0)
    (c.over_field is_coordinate_number (λ y. next (unnoted_place (unzigzag (zigzag p.x)) (unzigzag y))) last (zigzag p.y) rest (coordinate_field p.y rest on.1)
    (subst (λ q. T (next q) rest) (sym (placed_back p both.1)) t))

place_same : (p q : Place) (r s : List ℕ) → is_place p && no_notes_at p ≡ true → is_place q && no_notes_at q ≡ true → encode (zigzag p.x) ++ (encode (zigzag p.y) ++ r) ≡ encode (zigzag q.x) ++ (encode (zigzag q.y) ++ s) → (p ≡ q) × (r ≡ s)
place_same p q r s a b e =
    let one = encode_same 4 (zigzag p.x) (zigzag q.x) _ _ e in
    let two = encode_same 4 (zigzag p.y) (zigzag q.y) _ _ one.1 in
    (sym (placed_back p (and_parts _ _ a).1) ∙ (λ i. unnoted_place (unzigzag (one.0 i)) (unzigzag (two.0 i))) ∙ placed_back q (and_parts _ _ b).1, two.1)

pub places_laws : RecordLaws places
places_laws = record {
  carried = λ size T c before p next rest ok t. place_carried size T c p next rest ok t;
  same = λ before p q r s a b e. place_same p q r s a b e;
}

-- Costs and states

cost_carried : (size : ℕ) (T : Format → List ℕ → Type 0) → Carries size T → (k : LaneCost) (next : LaneCost → Format) (rest : List ℕ) → is_lane_cost k ≡ true → T (next k) rest → T (cost_format next) (encode_cost k rest)
cost_carried size T c k next rest ok t =
    let both = and_parts _ _ ok in
    let few = leb-true k.crossings most_crossings both.0 in
    let short = at_most 1 longest_segment k.milliseconds both.1 in
    let last = encode k.milliseconds ++ rest in
    c.over_field (between 0 most_crossings) (λ crossings. field (between 1 longest_segment) (λ time. next (record { crossings = crossings; milliseconds = time }))) (encode k.crossings ++ last) k.crossings last (field_read (is_between 0 most_crossings k.crossings (omega arith) few) (omega arith) refl)
    (c.over_field (between 1 longest_segment) (λ time. next (record { crossings = k.crossings; milliseconds = time })) last k.milliseconds rest (field_read both.1 (omega arith) refl) t)

cost_same : (k l : LaneCost) (r s : List ℕ) → encode_cost k r ≡ encode_cost l s → (k ≡ l) × (r ≡ s)
cost_same k l r s e =
    let one = encode_same 4 k.crossings l.crossings _ _ e in
    let two = encode_same 4 k.milliseconds l.milliseconds _ _ one.1 in
    ((λ i. record { crossings = one.0 i; milliseconds = two.0 i }), two.1)

state_carried : (size : ℕ) (T : Format → List ℕ → Type 0) → Carries size T → (k : LaneState) (next : LaneState → Format) (rest : List ℕ) → is_state_ranged k ≡ true → T (next k) rest → T (state_format next) (encode_state k rest)
state_carried size T c Closed next rest ok t =
    c.over_field (between 0 1) (λ state. cond (eqb state 0) (next Closed) (cost_format (λ cost. next (Open cost)))) (encode 0 ++ rest) 0 rest (field_read refl (omega arith) refl) t
state_carried size T c (Open k) next rest ok t =
    c.over_field (between 0 1) (λ state. cond (eqb state 0) (next Closed) (cost_format (λ cost. next (Open cost)))) (encode 1 ++ encode_cost k rest) 1 (encode_cost k rest) (field_read refl (omega arith) refl)
    (cost_carried size T c k (λ cost. next (Open cost)) rest ok t)

state_same : (k l : LaneState) (r s : List ℕ) → encode_state k r ≡ encode_state l s → (k ≡ l) × (r ≡ s)
state_same Closed Closed r s e = (refl, (encode_same 4 0 0 r s e).1)
state_same Closed (Open l) r s e = absurd (omega (arith, (encode_same 4 0 1 r (encode_cost l s) e).0))
state_same (Open k) Closed r s e = absurd (omega (arith, (encode_same 4 1 0 (encode_cost k r) s e).0))
state_same (Open k) (Open l) r s e = let one = cost_same k l r s (encode_same 4 1 1 (encode_cost k r) (encode_cost l s) e).1 in (ap Open one.0, one.1)

-- Lanes

lane_back : (l : Lane) → no_notes_on l ≡ true → unnoted_lane l.from l.to l.floor l.state ≡ l
lane_back l none =
    let a = and_parts _ _ none in
    (λ i. record { from = l.from; to = l.to; floor = l.floor; state = l.state; entering = sym (eqb-true l.entering 0 a.0) i; slot = sym (eqb-true l.slot 0 a.1) i })

-- the numbers of a lane in range, one by one
pub record Ranged (count : ℕ) (l : Lane) : Type 0 where
  pub from_place : ltb l.from count ≡ true
  pub to_place : ltb l.to count ≡ true
  pub floor_ranged : is_lane_cost l.floor ≡ true
  pub state_ranged : is_state_ranged l.state ≡ true
  pub no_notes : no_notes_on l ≡ true

pub ranged : (count : ℕ) (l : Lane) → is_lane_ranged count l ≡ true → Ranged count l
ranged count l ok =
    let a = and_parts _ _ ok in
    let b = and_parts _ _ a.0 in
    let c = and_parts _ _ b.0 in
    let d = and_parts _ _ c.0 in
    record { from_place = d.0; to_place = d.1; floor_ranged = c.1; state_ranged = b.1; no_notes = a.1 }

lane_carried : (count size : ℕ) → count ≤ most_places → (T : Format → List ℕ → Type 0) → Carries size T → (l : Lane) (next : Lane → Format) (rest : List ℕ) → is_lane_ranged count l ≡ true → T (next l) rest → T (lane_format count next) (encode_lane l rest)
lane_carried count size few T c l next rest ok t =
    let a = ranged count l ok in
    let from = ltb-true l.from count a.from_place in
    let to = ltb-true l.to count a.to_place in
    let last = encode_state l.state rest in
    let mid = encode_cost l.floor last in
    c.over_field (λ n. ltb n count) (λ from. field (λ n. ltb n count) (λ to. cost_format (λ floor. state_format (λ state. next (unnoted_lane from to floor state))))) (encode l.from ++ (encode l.to ++ mid)) l.from (encode l.to ++ mid) (field_read a.from_place (omega arith) refl)
    (c.over_field (λ n. ltb n count) (λ to. cost_format (λ floor. state_format (λ state. next (unnoted_lane l.from to floor state)))) (encode l.to ++ mid) l.to mid (field_read a.to_place (omega arith) refl)
    (cost_carried size T c l.floor (λ floor. state_format (λ state. next (unnoted_lane l.from l.to floor state))) last a.floor_ranged
    (state_carried size T c l.state (λ state. next (unnoted_lane l.from l.to l.floor state)) rest a.state_ranged
    (subst (λ k. T (next k) rest) (sym (lane_back l a.no_notes)) t))))

lane_same : (count : ℕ) (k l : Lane) (r s : List ℕ) → is_lane_ranged count k ≡ true → is_lane_ranged count l ≡ true → encode_lane k r ≡ encode_lane l s → (k ≡ l) × (r ≡ s)
lane_same count k l r s a b e =
    let from = encode_same 4 k.from l.from _ _ e in
    let to = encode_same 4 k.to l.to _ _ from.1 in
    let floor = cost_same k.floor l.floor _ _ to.1 in
    let state = state_same k.state l.state r s floor.1 in
    (sym (lane_back k (ranged count k a).no_notes) ∙ (λ i. unnoted_lane (from.0 i) (to.0 i) (floor.0 i) (state.0 i)) ∙ lane_back l (ranged count l b).no_notes, state.1)

pub lane_numbers_laws : (count : ℕ) → count ≤ most_places → RecordLaws (lane_numbers count)
lane_numbers_laws count few = record {
  carried = λ size T c before l next rest ok t. lane_carried count size few T c l next rest ok t;
  same = λ before k l r s a b e. lane_same count k l r s a b e;
}

pub lanes_laws : (count : ℕ) (ps : List Place) → count ≤ most_places → RecordLaws (lanes count ps)
lanes_laws count ps few = record {
  carried = λ size T c before l next rest ok t.
      let both = and_parts _ _ ok in
      c.over_position (λ at. lane_format count (λ l. check (keeps_rules ps before l) (broken_rule at) (next l))) (encode_lane l rest)
      (let first = size - length (encode_lane l rest) in
      lane_carried count size few T c l (λ k. check (keeps_rules ps before k) (broken_rule first) (next k)) rest both.0 (c.over_check (keeps_rules ps before l) (broken_rule first) (next l) rest both.1 t));
  same = λ before k l r s a b e. lane_same count k l r s (and_parts _ _ a).0 (and_parts _ _ b).0 e;
}

-- an odd number stands for a coordinate below zero
pub below_zero : {n : ℕ} {bytes rest : List ℕ} (z : ℤ) → z ≡ negsuc (n / 2) → (n % 2 ≡ 0 → ⊥) → FieldRead is_coordinate_number bytes n rest → FieldRead is_coordinate_number bytes (zigzag z) rest
below_zero {n} {bytes} {rest} z e odd r =
    let back : n ≡ zigzag z = (let m : n ≡ 2 * (n / 2) + 1 = omega arith in m ∙ sym (ap zigzag e)) in
    subst (λ m. FieldRead is_coordinate_number bytes m rest) back r

-- a state that is not 0 is 1, and a cost follows
pub open_then : {size n : ℕ} {bytes rest : List ℕ} {f : Fault} (next : LaneState → Format) → FieldRead (between 0 1) bytes n rest → (n ≡ 0 → ⊥) → FirstFault size (cost_format (λ c. next (Open c))) rest f → FirstFault size (state_format next) bytes f
open_then {size} {n} {bytes} {rest} {f} next r some x = later n rest r (subst (λ b. FirstFault size (cond b (next Closed) (cost_format (λ c. next (Open c)))) rest f) (sym (ne_eqb n 0 some)) x)

pub open_read : {n : ℕ} {k : LaneCost} {from mid to : Reader} → size mid ≡ size from → FieldRead (between 0 1) (ahead from) n (ahead mid) → (n ≡ 0 → ⊥) → Reads costs mid to (Ok k) → Reads states from to (Ok (Open k))
open_read {n} {to = to} same r some cost =
    let one : n ≡ 1 = omega (arith, at_most 0 1 n r.in_range) in
    record {
      read = λ before. ((cost.read []).0, r.begins.form ∙ (λ i. encode (one i) ++ (cost.read []).1 i));
      same_size = cost.same_size ∙ same;
    }

-- a fault after a lane's floor
pub after_cost : {size : ℕ} {bytes rest : List ℕ} {k : LaneCost} {f : Fault} (next : LaneCost → Format) → is_lane_cost k ≡ true → bytes ≡ encode_cost k rest → FirstFault size (next k) rest f → FirstFault size (cost_format next) bytes f
after_cost {size} {bytes} {rest} {k} {f} next ok e x = subst (λ l. FirstFault size (cost_format next) l f) (sym e) (cost_carried size (λ format b. FirstFault size format b f) (carries_fault size f) k next rest ok x)

-- a lane whose four parts were read one after another
pub lane_read : (count : ℕ) {a c d e : Reader} {mid : List ℕ} {from to : ℕ} {floor : LaneCost} {state : LaneState} {l : Lane} →
    FieldRead (λ p. ltb p count) (ahead a) from mid → FieldRead (λ p. ltb p count) mid to (ahead c) → size c ≡ size a → Reads costs c d (Ok floor) → Reads states d e (Ok state) → l ≡ unnoted_lane from to floor state → Reads (lane_numbers count) a e (Ok l)
lane_read count {a} {e = e} {from = from} {to = to} {floor = floor} {state = state} {l = l} at_from at_to same at_floor at_state is =
    let cost = at_floor.read [] in
    let last = at_state.read [] in
    let form : ahead a ≡ encode_lane (unnoted_lane from to floor state) (ahead e) = at_from.begins.form ∙ ap (λ b. encode from ++ b) (at_to.begins.form ∙ ap (λ b. encode to ++ b) (cost.1 ∙ ap (encode_cost floor) last.1)) in
    record {
      read = λ before. (
        ap (is_lane_ranged count) is ∙ and_from _ _ (and_from _ _ (and_from _ _ (and_from _ _ at_from.in_range at_to.in_range) cost.0) last.0) refl,
        form ∙ ap (λ k. encode_lane k (ahead e)) (sym is),
      );
      same_size = at_state.same_size ∙ at_floor.same_size ∙ same;
    }

-- a fault among the numbers of a lane
pub number_fault : (count : ℕ) (ps : List Place) {done m : ℕ} {from mid to : Reader} {f : Fault} → Walked (lanes count ps) done from mid → done < m → Reads (lane_numbers count) mid to (Err f) → StopsAmong (lanes count ps) m from f
number_fault count ps {done} {mid = mid} w few r = record {
  done = done;
  mid = mid;
  few = few;
  walk = w;
  fault = λ then. at_position (r.read w.values (λ l. check (keeps_rules ps w.values l) (broken_rule (size mid - length (ahead mid))) (then l)));
}

-- a lane that breaks a rule
pub rule_fault : (count : ℕ) (ps : List Place) {done m : ℕ} {from mid to : Reader} {l : Lane} {f : Fault} → count ≤ most_places → (w : Walked (lanes count ps) done from mid) → done < m → Reads (lane_numbers count) mid to (Ok l) → keeps_rules ps w.values l ≡ false → f ≡ broken_rule (size mid - length (ahead mid)) → StopsAmong (lanes count ps) m from f
rule_fault count ps {done} {mid = mid} {to = to} {l = l} small w few r broken is = record {
  done = done;
  mid = mid;
  few = few;
  walk = w;
  fault = λ then.
      let first = size mid - length (ahead mid) in
      let read = r.read w.values in
      let next : Lane → Format = λ k. check (keeps_rules ps w.values k) (broken_rule first) (then k) in
      let told : FirstFault (size mid) (next l) (ahead to) (broken_rule first) = check_failed broken in
      let carried = lane_carried count (size mid) small (λ format b. FirstFault (size mid) format b (broken_rule first)) (carries_fault (size mid) (broken_rule first)) l next (ahead to) read.0 told in
      at_position (subst (λ g. FirstFault (size mid) (lane_format count next) (ahead mid) g) (sym is) (subst (λ b. FirstFault (size mid) (lane_format count next) b (broken_rule first)) (sym read.1) carried));
}

-- the number of one of `count` places is one from 0 to count - 1
pub below_count : (count n : ℕ) → 1 ≤ count → between 0 (count - 1) n ≡ ltb n count
below_count count n some = ⊎_elim
    (λ (low : n < count). is_between 0 (count - 1) n (omega arith) (omega arith) ∙ sym (lt-ltb n count low))
    (λ (high : count ≤ n). not_between 0 (count - 1) n (inr (omega arith, omega arith)) ∙ sym (le-ltb n count high))
    (cases_lt n count)

pub number_read : {count n : ℕ} {bytes rest : List ℕ} → 1 ≤ count → FieldRead (between 0 (count - 1)) bytes n rest → FieldRead (λ p. ltb p count) bytes n rest
number_read {count} {n} some r = record { begins = r.begins; in_range = sym (below_count count n some) ∙ r.in_range }

pub number_refused : {count size : ℕ} {bytes : List ℕ} {f : Fault} → 1 ≤ count → FieldFault size (between 0 (count - 1)) bytes f → FieldFault size (λ p. ltb p count) bytes f
number_refused some (no_number x) = no_number x
number_refused {count} some (outside n rest b out e) = outside n rest b (sym (below_count count n some) ∙ out) e
