-- Records one after another, of any kind. Assumes nothing.
use Rattle.std.proofs.Common.{◌≡◌, ℕ, zero, suc, ◌+◌, ◌<◌, true, false, List, [], ◌∷◌, ◌++◌, length, get_or, drop, set, IsErrAnd, Ok, Err, Result, sym, refl, ap, ◌∙◌, subst, append_assoc, append-nil, arith}
use Rattle.std.proofs.lemmas.List.{drop_more, set_at, length_push}
use Rattle.sitefile.specs.declared.fault.Fault.{Fault}
use Rattle.sitefile.specs.declared.reader.Reader.{Reader}
use Rattle.sitefile.specs.Readers.{ahead, size}
use Rattle.sitefile.specs.Faults.{out_of_range}
use Rattle.sitefile.specs.Formats.{Format, ended, check, FirstFault, failed}
use Rattle.sitefile.specs.Records.{Records, encode_all, AllAllowed, many, Reads, Walked, StopsAmong}
use Rattle.sitefile.proofs.Fields.{fault_at, fault_same, Holds, Carries, carries_fault, carries_holding}

-- What a kind of records owes: an allowed value's bytes are what the format expects, and no other's.
pub record RecordLaws {X : Type 0} (R : Records X) : Type 1 where
  pub carried : (size : ℕ) (T : Format → List ℕ → Type 0) → Carries size T → (before : List X) (x : X) (next : X → Format) (rest : List ℕ) → R.allowed before x ≡ true → T (next x) rest → T (R.format before next) (R.encode x rest)
  pub same : (before : List X) (x y : X) (r s : List ℕ) → R.allowed before x ≡ true → R.allowed before y ≡ true → R.encode x r ≡ R.encode y s → (x ≡ y) × (r ≡ s)

module _ {X : Type 0} (R : Records X) where
  -- f is a fault of one of the first `count` records, the same whatever follows them
  abbrev pub FaultAmong : ℕ → Reader → Fault → Type 0
  FaultAmong count from f = (next : List X → Format) → FirstFault (size from) (many R count [] next) (ahead from) f

  -- a walk over `count` records, which are also as many of the table's first entries
  pub record Filled (count : ℕ) (from to : Reader) (table table' : List X) : Type 0 where
    pub walk : Walked R count from to
    pub filled : table' ≡ walk.values ++ drop count table

  pub encode_push : (xs : List X) (x : X) (rest : List ℕ) → encode_all R xs (R.encode x rest) ≡ encode_all R (xs ++ x ∷ []) rest
  encode_push [] x rest = refl
  encode_push (y ∷ xs) x rest = ap (R.encode y) (encode_push xs x rest)

  pub allowed_push : (before xs : List X) (x : X) → AllAllowed R before xs → R.allowed (before ++ xs) x ≡ true → AllAllowed R before (xs ++ x ∷ [])
  allowed_push before [] x all one = (subst (λ l. R.allowed l x ≡ true) (append-nil before) one, tt)
  allowed_push before (y ∷ xs) x all one = (all.0, allowed_push (before ++ y ∷ []) xs x all.1 (subst (λ l. R.allowed l x ≡ true) (sym (append_assoc before (y ∷ []) xs)) one))

  -- a walk that has not begun, and one record more
  unfoldable pub stands : (r : Reader) → Walked R 0 r r
  stands r = record { values = []; counted = refl; read = record { form = refl; all_allowed = tt }; same_size = refl }

  unfoldable pub walked_more : {count : ℕ} {from mid to : Reader} {x : X} (w : Walked R count from mid) → R.allowed w.values x ≡ true → ahead mid ≡ R.encode x (ahead to) → size to ≡ size mid → Walked R (count + 1) from to
  walked_more {to = to} {x = x} w ok form same = record {
    values = w.values ++ x ∷ [];
    counted = length_push w.values x ∙ ap (λ n. n + 1) w.counted;
    read = record {
      form = w.read.form ∙ ap (encode_all R w.values) form ∙ encode_push w.values x (ahead to);
      all_allowed = allowed_push [] w.values x w.read.all_allowed ok;
    };
    same_size = same ∙ w.same_size;
  }

  -- a record is not read, since one of its parts is not
  pub not_read : {from to : Reader} {f : Fault} (r : Result X Fault) → IsErrAnd r (λ x. x ≡ f) → size to ≡ size from → ((before : List X) (next : X → Format) → FirstFault (size from) (R.format before next) (ahead from) f) → Reads R from to r
  not_read (Ok x) e same fault = absurd e
  not_read {from} (Err g) e same fault = record { read = λ before next. subst (λ f. FirstFault (size from) (R.format before next) (ahead from) f) (sym e) (fault before next); same_size = same }

  -- a walk that a fault ends
  pub stops : {i count : ℕ} {from mid to : Reader} {f : Fault} (w : Walked R i from mid) → i < count → Reads R mid to (Err f) → StopsAmong R count from f
  stops {i} {mid = mid} w few r = record { done = i; few = few; mid = mid; walk = w; fault = r.read w.values }

  -- a record more
  unfoldable pub one_more : {i : ℕ} {from mid to : Reader} {x : X} → Walked R i from mid → Reads R mid to (Ok x) → Walked R (i + 1) from to
  unfolding walked_more
  one_more w r = walked_more w (r.read w.values).0 (r.read w.values).1 r.same_size

  -- the table that a loop fills

  set_next : (xs table : List X) (x : X) (i : ℕ) → length xs ≡ i → i < length table → set (xs ++ drop i table) i x ≡ (xs ++ x ∷ []) ++ drop (i + 1) table
  set_next xs table x i long few =
      ap (λ l. set (xs ++ l) i x) (drop_more table i x few)
      ∙ set_at xs (get_or table i x) (drop (i + 1) table) x i long
      ∙ sym (append_assoc xs (x ∷ []) (drop (i + 1) table))

  pub filled_none : (r : Reader) (table : List X) → Filled 0 r r table table
  unfolding stands
  filled_none r table = record { walk = stands r; filled = refl }

  pub filled_more : {i : ℕ} {from mid to : Reader} {table table' : List X} {x : X} (f : Filled i from mid table table') → i < length table → Reads R mid to (Ok x) → Filled (i + 1) from to table (set table' i x)
  unfolding one_more
  filled_more {i} {table = table} {x = x} f few r = record {
    walk = one_more f.walk r;
    filled = ap (λ t. set t i x) f.filled ∙ set_next f.walk.values table x i f.walk.counted few;
  }

  module _ (laws : RecordLaws R) where
    -- what holds after the records holds before them
    carry_all : (size : ℕ) (T : Format → List ℕ → Type 0) → Carries size T → (before xs : List X) (count : ℕ) (next : List X → Format) (rest : List ℕ) → length xs ≡ count → AllAllowed R before xs → T (next (before ++ xs)) rest → T (many R count before next) (encode_all R xs rest)
    carry_all size T c before [] zero next rest long all x = subst (λ l. T (next l) rest) (append-nil before) x
    carry_all size T c before [] (suc count) next rest long all x = absurd (omega arith)
    carry_all size T c before (y ∷ xs) zero next rest long all x = absurd (omega arith)
    carry_all size T c before (y ∷ xs) (suc count) next rest long all x =
        laws.carried size T c before y (λ z. many R count (before ++ z ∷ []) next) (encode_all R xs rest) all.0
        (carry_all size T c (before ++ y ∷ []) xs count next rest (omega arith) all.1 (subst (λ l. T (next l) rest) (sym (append_assoc before (y ∷ []) xs)) x))

    -- a fault at a record after some others
    at_one : (size : ℕ) (before xs : List X) (count : ℕ) (next : List X → Format) (mid : List ℕ) (f : Fault) → length xs < count → AllAllowed R before xs → ((then : X → Format) → FirstFault size (R.format (before ++ xs) then) mid f) → FirstFault size (many R count before next) (encode_all R xs mid) f
    at_one size before xs zero next mid f few all x = absurd (omega arith)
    at_one size before [] (suc count) next mid f few all x =
        let P : List X → Type 0 = λ l. FirstFault size (R.format l (λ z. many R count (before ++ z ∷ []) next)) mid f in
        subst P (append-nil before) (x (λ z. many R count (before ++ z ∷ []) next))
    at_one size before (y ∷ xs) (suc count) next mid f few all x =
        laws.carried size (λ format bytes. FirstFault size format bytes f) (carries_fault size f) before y (λ z. many R count (before ++ z ∷ []) next) (encode_all R xs mid) all.0
        (at_one size (before ++ y ∷ []) xs count next mid f (omega arith) all.1 (λ then. subst (λ l. FirstFault size (R.format l then) mid f) (sym (append_assoc before (y ∷ []) xs)) (x then)))

    same_from : (before xs ys : List X) (r s : List ℕ) → length xs ≡ length ys → AllAllowed R before xs → AllAllowed R before ys → encode_all R xs r ≡ encode_all R ys s → (xs ≡ ys) × (r ≡ s)
    same_from before [] [] r s long a b e = (refl, e)
    same_from before [] (y ∷ ys) r s long a b e = absurd (omega arith)
    same_from before (x ∷ xs) [] r s long a b e = absurd (omega arith)
    same_from before (x ∷ xs) (y ∷ ys) r s long a b e =
        let one = laws.same before x y (encode_all R xs r) (encode_all R ys s) a.0 b.0 e in
        let all = same_from (before ++ x ∷ []) xs ys r s (omega arith) a.1 (subst (λ z. AllAllowed R (before ++ z ∷ []) ys) (sym one.0) b.1) one.1 in
        ((λ i. one.0 i ∷ all.0 i), all.1)

    -- The same for what a reader has ahead

    pub after_many : {count : ℕ} {from to : Reader} {f : Fault} (w : Walked R count from to) (next : List X → Format) → FirstFault (size to) (next w.values) (ahead to) f → FirstFault (size from) (many R count [] next) (ahead from) f
    after_many {count} {from} {to} {f} w next x =
        subst (λ l. FirstFault (size from) (many R count [] next) l f) (sym w.read.form)
        (carry_all (size from) (λ format bytes. FirstFault (size from) format bytes f) (carries_fault (size from) f) [] w.values count next (ahead to) w.counted w.read.all_allowed (fault_at w.same_size x))

    pub fault_among : {count : ℕ} {from : Reader} {f : Fault} → StopsAmong R count from f → FaultAmong count from f
    fault_among {count} {from} {f} s next =
        let w = s.walk in
        let few = s.few in
        subst (λ l. FirstFault (size from) (many R count [] next) l f) (sym w.read.form)
        (at_one (size from) [] w.values count next (ahead s.mid) f (omega (arith, w.counted)) w.read.all_allowed (λ then. fault_at w.same_size (s.fault then)))

    pub records_hold : (size : ℕ) (xs : List X) (count : ℕ) (next : List X → Format) (rest : List ℕ) → length xs ≡ count → AllAllowed R [] xs → Holds size (next xs) rest → Holds size (many R count [] next) (encode_all R xs rest)
    records_hold size xs count next rest long all h = carry_all size (Holds size) (carries_holding size) [] xs count next rest long all h

    pub records_same : (xs ys : List X) (r s : List ℕ) → length xs ≡ length ys → AllAllowed R [] xs → AllAllowed R [] ys → encode_all R xs r ≡ encode_all R ys s → (xs ≡ ys) × (r ≡ s)
    records_same xs ys r s long a b e = same_from [] xs ys r s long a b e

    -- What one walk found has no fault in the next: a fault whatever follows would be told of two bytes.
    pub no_second_fault : (again : ℕ) {count : ℕ} {from to : Reader} {f : Fault} → again ≡ count → Walked R count from to → StopsAmong R again from f → ⊥
    no_second_fault again {from = from} {f = f} e w told_again =
        let x = subst (λ n. FaultAmong n from f) e (fault_among told_again) in
        let next : ℕ → List X → Format = λ n _. check false (out_of_range n) ended in
        let told : (n : ℕ) → f ≡ out_of_range n = λ n. fault_same (x (next n)) (after_many w (next n) failed) in
        let apart : ◌≡◌ {A = ℕ} 0 1 = ap (λ (g : Fault). g.byte) (sym (told 0) ∙ told 1) in
        omega arith

    -- what a reader makes of a record that is known to stand there
    abbrev pub Expected : (x : X) (rest : List ℕ) (to : Reader) → Result X Fault → Type 0
    Expected x rest to (Ok y) = (y ≡ x) × (ahead to ≡ rest)
    Expected x rest to (Err f) = ⊥

    pub reads_expected : (before : List X) (x : X) (rest : List ℕ) {from to : Reader} (r : Result X Fault) → Reads R from to r → R.allowed before x ≡ true → ahead from ≡ R.encode x rest → Expected x rest to r
    reads_expected before x rest {from} {to} (Ok y) told ok e =
        let read = told.read before in
        let one = laws.same before y x (ahead to) rest read.0 ok (sym read.1 ∙ e) in (one.0, one.1)
    reads_expected before x rest {from} {to} (Err f) told ok e =
        let next : ℕ → X → Format = λ n _. check false (out_of_range n) ended in
        let at : (n : ℕ) → f ≡ out_of_range n = λ n. fault_same (told.read before (next n)) (subst (λ l. FirstFault (size from) (R.format before (next n)) l (out_of_range n)) (sym e)
        (laws.carried (size from) (λ format bytes. FirstFault (size from) format bytes (out_of_range n)) (carries_fault (size from) (out_of_range n)) before x (next n) rest ok failed)) in
        let apart : ◌≡◌ {A = ℕ} 0 1 = ap (λ (g : Fault). g.byte) (sym (at 0) ∙ at 1) in
        omega arith
