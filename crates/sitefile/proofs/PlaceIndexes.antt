-- Places found by their numbers. Assumes nothing.
use Rattle.std.proofs.Common.{◌≡◌, ℕ, zero, suc, ◌+◌, ◌*◌, ◌/◌, ◌%◌, ◌<◌, ◌≤◌, true, ◌&&◌, List, [], ◌∷◌, ◌++◌, length, drop, slice_index_or, Some, Ok, Err, Result, MatchResult, sym, refl, ap, ◌∙◌, ⊎_elim, length-append, arith}
use Rattle.std.specs.Result.{result_ok}
use Rattle.std.proofs.lemmas.List.{drop_more, drop_all, drop-append-le, get_or_append_left, get_or_at, length_push}
use Rattle.std.proofs.lemmas.Bool.{cases_lt}
use Rattle.tables.specs.declared.tape.Place.{Place}
use Rattle.tables.specs.Tapes.{is_place, no_place, place_at}
use Rattle.sitefile.specs.declared.fault.Fault.{Fault}
use Rattle.sitefile.specs.declared.reader.Reader.{Reader}
use Rattle.sitefile.specs.declared.places.PlaceIndex.{PlaceIndex}
use Rattle.sitefile.specs.Readers.{ahead}
use Rattle.sitefile.specs.Records.{encode_all, AllAllowed, Reads, Walked, StopsAmong}
use Rattle.sitefile.specs.Tapes.{no_notes_at, places}
use Rattle.sitefile.specs.TapeParts.{PlacesAt, PlacesWalked, PlacesFound}
use Rattle.sitefile.proofs.TapeRecords.{places_laws}
use Rattle.sitefile.proofs.Runs.{reads_expected}

-- walks one after another

all_join : (before other xs ys : List Place) → AllAllowed places before xs → AllAllowed places other ys → AllAllowed places before (xs ++ ys)
all_join before other [] [] a b = tt
all_join before other [] (y ∷ ys) a b = (b.0, all_join (before ++ y ∷ []) (other ++ y ∷ []) [] ys tt b.1)
all_join before other (x ∷ xs) ys a b = (a.0, all_join (before ++ x ∷ []) other xs ys a.1 b)

encode_join : (xs ys : List Place) (rest : List ℕ) → encode_all places xs (encode_all places ys rest) ≡ encode_all places (xs ++ ys) rest
encode_join [] ys rest = refl
encode_join (x ∷ xs) ys rest = ap (places.encode x) (encode_join xs ys rest)

unfoldable further : {i j : ℕ} {from mid to : Reader} → Walked places i from mid → Walked places j mid to → Walked places (i + j) from to
further {to = to} w v = record {
  values = w.values ++ v.values;
  counted = length-append w.values v.values ∙ (λ k. w.counted k + v.counted k);
  read = record {
    form = w.read.form ∙ ap (encode_all places w.values) v.read.form ∙ encode_join w.values v.values (ahead to);
    all_allowed = all_join [] [] w.values v.values w.read.all_allowed v.read.all_allowed;
  };
  same_size = v.same_size ∙ w.same_size;
}

-- a fault on a later walk
pub stops_further : {i j count : ℕ} {from mid : Reader} {f : Fault} → Walked places i from mid → i + j ≤ count → StopsAmong places j mid f → StopsAmong places count from f
stops_further {i} w few s =
    let fewer = s.few in
    record { done = i + s.done; mid = s.mid; few = omega arith; walk = further w s.walk; fault = λ next. s.fault next }

ahead_of_block : (k : ℕ) {i j : ℕ} {from mid to : Reader} (w : Walked places i from mid) (v : Walked places j mid to) → 64 * k ≤ i → encode_all places (drop (64 * k) w.values) (ahead mid) ≡ encode_all places (drop (64 * k) (w.values ++ v.values)) (ahead to)
ahead_of_block k {to = to} w v low =
    ap (encode_all places (drop (64 * k) w.values)) v.read.form
    ∙ encode_join (drop (64 * k) w.values) v.values (ahead to)
    ∙ ap (λ l. encode_all places l (ahead to)) (sym (drop-append-le (64 * k) w.values v.values (omega (arith, w.counted))))

-- a walk over at most 64 places more, from a reader that is noted
pub noted_block : (first : ℕ) {m : ℕ} {from mid to : Reader} {starts : List Reader} → first % 64 ≡ 0 → PlacesWalked first from mid starts → 0 < m → m ≤ 64 → Walked places m mid to → PlacesWalked (first + m) from to (starts ++ mid ∷ [])
unfolding further
noted_block first {m} {from} {mid} {to} {starts} on n some few v =
    let noted = n.noted in
    let w = n.walk in
    record {
      walk = further w v;
      noted = omega (arith, length_push starts mid);
      found = λ k d h. ⊎_elim
          (λ (before : k < length starts). ap ahead (get_or_append_left starts (mid ∷ []) d k before) ∙ n.found k d (omega arith) ∙ ahead_of_block k w v (omega arith))
          (λ (last : length starts ≤ k).
          let none : drop (64 * k) w.values ≡ [] = drop_all (64 * k) w.values (omega (arith, w.counted)) in
          ap ahead (get_or_at starts mid [] d k (omega arith)) ∙ sym (ap (λ l. encode_all places l (ahead mid)) none) ∙ ahead_of_block k w v (omega arith))
          (cases_lt k (length starts));
    }

pub places_found : {from to : Reader} (index : PlaceIndex) → PlacesWalked index.count from to index.starts.items → PlacesFound index.count from to index
places_found {to = to} index n = record {
  walk = n.walk;
  at = record {
    counted = n.walk.counted;
    all_allowed = n.walk.read.all_allowed;
    rest = ahead to;
    found = λ k d h. n.found k d (omega (arith, n.walk.counted));
  };
}

pub same_count : {count : ℕ} {from to : Reader} {index : PlaceIndex} → PlacesFound count from to index → index.count ≡ count
same_count f = sym f.at.counted ∙ f.walk.counted

-- The place at a number

allowed_at : (before ps : List Place) (i : ℕ) → AllAllowed places before ps → i < length ps → is_place (place_at ps i) && no_notes_at (place_at ps i) ≡ true
allowed_at before [] i all h = absurd (omega arith)
allowed_at before (p ∷ ps) zero all h = all.0
allowed_at before (p ∷ ps) (suc i) all h = allowed_at (before ++ p ∷ []) ps i all.1 (omega arith)

module _ {ps : List Place} {index : PlaceIndex} (at : PlacesAt ps index) where
  here_is : (i : ℕ) {bytes : List ℕ} → i < length ps → bytes ≡ encode_all places (drop i ps) at.rest → bytes ≡ places.encode (place_at ps i) (encode_all places (drop (i + 1) ps) at.rest)
  here_is i few e = e ∙ ap (λ l. encode_all places l at.rest) (drop_more ps i no_place few)

  no_fault_there : (i : ℕ) {from to : Reader} {f : Fault} → i < index.count → ahead from ≡ encode_all places (drop i ps) at.rest → Reads places from to (Err f) → ⊥
  no_fault_there i {f = f} few e r =
      let low : i < length ps = omega (arith, at.counted) in
      reads_expected places places_laws [] (place_at ps i) (encode_all places (drop (i + 1) ps) at.rest) (Err f) r (allowed_at [] ps i at.all_allowed low) (here_is i low e)

  -- the record that stands there is read
  pub find_one : (i : ℕ) {from to : Reader} (r : Result Place Fault) → i < index.count → ahead from ≡ encode_all places (drop i ps) at.rest → Reads places from to r → result_ok r ≡ Some (place_at ps i)
  find_one i (Ok p) few e r =
      let low : i < length ps = omega (arith, at.counted) in
      ap Some (reads_expected places places_laws [] (place_at ps i) (encode_all places (drop (i + 1) ps) at.rest) (Ok p) r (allowed_at [] ps i at.all_allowed low) (here_is i low e)).0
  find_one i (Err f) few e r = absurd (no_fault_there i few e r)

  -- where a walk over the places that stand there ends
  walked_to : (i : ℕ) (before xs : List Place) {rest : List ℕ} → i + length xs ≤ index.count → AllAllowed places before xs → encode_all places xs rest ≡ encode_all places (drop i ps) at.rest → rest ≡ encode_all places (drop (i + length xs) ps) at.rest
  walked_to i before [] few all e = e ∙ ap (λ j. encode_all places (drop j ps) at.rest) (omega arith)
  walked_to i before (p ∷ xs) {rest} few all e =
      let low : i < length ps = omega (arith, at.counted) in
      let one = places_laws.same before p (place_at ps i) (encode_all places xs rest) (encode_all places (drop (i + 1) ps) at.rest) all.0 (allowed_at [] ps i at.all_allowed low) (here_is i low e) in
      walked_to (i + 1) (before ++ p ∷ []) xs (omega arith) all.1 one.1 ∙ ap (λ j. encode_all places (drop j ps) at.rest) (omega arith)

  place_after : (i : ℕ) {count : ℕ} {from to : Reader} → i + count ≤ index.count → ahead from ≡ encode_all places (drop i ps) at.rest → Walked places count from to → ahead to ≡ encode_all places (drop (i + count) ps) at.rest
  place_after i few e w =
      walked_to i [] w.values (omega (arith, w.counted)) w.read.all_allowed (sym w.read.form ∙ e)
      ∙ ap (λ n. encode_all places (drop (i + n) ps) at.rest) w.counted

  -- the records that stand there are walked over
  pass_some : (i count : ℕ) (from to : Reader) (r : Result Unit Fault) → i + count ≤ index.count → ahead from ≡ encode_all places (drop i ps) at.rest → MatchResult r (λ _. Walked places count from to) (λ f. StopsAmong places count from f) → (result_ok r ≡ Some tt) × (ahead to ≡ encode_all places (drop (i + count) ps) at.rest)
  pass_some i count from to (Ok x) few e w = (refl, place_after i few e w)
  pass_some i count from to (Err f) few e s =
      let done = s.done in
      let fewer = s.few in
      absurd (no_fault_there (i + done) {from = s.mid} {to = s.mid} (omega arith) (place_after i (omega arith) e s.walk) (record { read = λ before next. s.fault next; same_size = refl }))

  -- from the noted reader before it a place is reached
  pub reaches : (number : ℕ) {starts : List Reader} (start to : Reader) (r : Result Unit Fault) → number < index.count → starts ≡ index.starts.items → start ≡ slice_index_or starts (number / 64) start → MatchResult r (λ _. Walked places (number % 64) start to) (λ f. StopsAmong places (number % 64) start f) → (result_ok r ≡ Some tt) × (ahead to ≡ encode_all places (drop number ps) at.rest)
  reaches number start to r few same is told =
      let first : ahead start ≡ encode_all places (drop (64 * (number / 64)) ps) at.rest = ap ahead is ∙ ap (λ l. ahead (slice_index_or l (number / 64) start)) same ∙ at.found (number / 64) start (omega (arith, at.counted)) in
      let passed = pass_some (64 * (number / 64)) (number % 64) start to r (omega arith) first told in
      (passed.0, passed.1 ∙ ap (λ j. encode_all places (drop j ps) at.rest) (omega arith))
