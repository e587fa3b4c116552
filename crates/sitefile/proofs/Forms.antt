-- The groups of a number, one byte at a time. Assumes nothing.
use Rattle.std.proofs.Common.{◌≡◌, ℕ, zero, suc, ◌+◌, ◌-◌, ◌*◌, ◌/◌, ◌%◌, ◌<◌, ◌≤◌, List, [], ◌∷◌, ◌++◌, length, sym, refl, ap, ◌∙◌, subst, ⊎_elim, arith, length-append}
use Rattle.std.proofs.lemmas.Bool.{lt-ltb, le-ltb, cases_lt, cond-true, cond-false}
use Rattle.sitefile.specs.declared.fault.Fault.{Fault}
use Rattle.sitefile.specs.Faults.{missing_byte, malformed_number}
use Rattle.sitefile.specs.Numbers.{encode_by, limit_by, Continued, EndsInside, Malformed, not_shortest, too_great, Begins, BeginsBy, FaultBy, missing, malformed, NumberFault}

pub encode_low : (more n : ℕ) → n < 128 → encode_by more n ≡ n ∷ []
encode_low zero n low = refl
encode_low (suc more) n low = cond-true _ _ _ (lt-ltb n 128 low)

pub encode_high : (more n : ℕ) → 128 ≤ n → encode_by (suc more) n ≡ (n % 128 + 128) ∷ encode_by more (n / 128)
encode_high more n high = cond-false _ _ _ (le-ltb n 128 high)

head_same : (a b : ℕ) (r s : List ℕ) → (a ∷ r) ≡ (b ∷ s) → (a ≡ b) × (r ≡ s)
head_same a b r s e = (cc, cc)

-- no form is the front of another
pub encode_same : (more m n : ℕ) (r s : List ℕ) → encode_by more m ++ r ≡ encode_by more n ++ s → (m ≡ n) × (r ≡ s)
encode_same zero m n r s e = head_same m n r s e
encode_same (suc more) m n r s e =
    ⊎_elim
    (λ ml. ⊎_elim
    (λ nl. head_same m n r s (rw (encode_low (suc more) m ml, encode_low (suc more) n nl) at e))
    (λ nh. let h = head_same _ _ _ _ (rw (encode_low (suc more) m ml, encode_high more n nh) at e) in absurd (omega arith))
    (cases_lt n 128))
    (λ mh. ⊎_elim
    (λ nl. let h = head_same _ _ _ _ (rw (encode_high more m mh, encode_low (suc more) n nl) at e) in absurd (omega arith))
    (λ nh.
    let h = head_same _ _ _ _ (rw (encode_high more m mh, encode_high more n nh) at e) in
    let t = encode_same more (m / 128) (n / 128) r s h.1 in
    (omega arith, t.1))
    (cases_lt n 128))
    (cases_lt m 128)

limit_least : (more : ℕ) → 16 ≤ limit_by more
limit_least zero = omega arith
limit_least (suc more) = omega (arith, limit_least more)

limit_below : (more : ℕ) → more ≤ 4 → limit_by more ≤ limit_by 4
limit_below zero h = omega arith
limit_below (suc zero) h = omega arith
limit_below (suc (suc zero)) h = omega arith
limit_below (suc (suc (suc zero))) h = omega arith
limit_below (suc (suc (suc (suc zero)))) h = omega arith
limit_below (suc (suc (suc (suc (suc more))))) h = absurd (omega arith)

-- what follows a byte that says that more follow
higher_groups : (more b n : ℕ) (rest left : List ℕ) → 128 ≤ b → (b ∷ rest) ≡ encode_by (suc more) n ++ left → (128 ≤ n) × (rest ≡ encode_by more (n / 128) ++ left)
higher_groups more b n rest left high e =
    ⊎_elim
    (λ nl. let h = head_same _ _ _ _ (rw (encode_low (suc more) n nl) at e) in absurd (omega arith))
    (λ nh. let h = head_same _ _ _ _ (rw (encode_high more n nh) at e) in (nh, h.1))
    (cases_lt n 128)

-- the group b, with at most `more` + 1 groups after it, of which `bytes` begin with the first
module _ (more b : ℕ) (bytes : List ℕ) where
  last : b < 128 → BeginsBy (suc more) (b ∷ bytes) b bytes
  last low = record { small = omega (arith, limit_least more); form = sym (ap (λ l. l ++ bytes) (encode_low (suc more) b low)) }

  ends_more : 128 ≤ b → EndsInside more bytes → EndsInside (suc more) (b ∷ bytes)
  ends_more high c = record { few = omega (arith, c.few); continued = (high, c.continued) }

  malformed_more : 128 ≤ b → Malformed more bytes → Malformed (suc more) (b ∷ bytes)
  malformed_more high (not_shortest front rest goes some few e) = not_shortest (b ∷ front) rest (high, goes) (omega arith) (omega arith) (ap (λ l. b ∷ l) e)
  malformed_more high (too_great front rest fifth goes long big e) = too_great (b ∷ front) rest fifth (high, goes) (omega arith) big (ap (λ l. b ∷ l) e)

  -- a number whose highest group is zero is not in its shortest form
  zero_more : (after : List ℕ) → 128 ≤ b → BeginsBy more bytes 0 after → Malformed (suc more) (b ∷ bytes)
  zero_more after high z = not_shortest (b ∷ []) after (high, tt) (omega arith) (omega arith) (ap (λ l. b ∷ l) (z.form ∙ ap (λ l. l ++ after) (encode_low more 0 (omega arith))))

-- the fifth byte

pub great_group : {more first size b : ℕ} {bytes mid : List ℕ} → more ≡ 0 → bytes ≡ b ∷ mid → 15 < b → FaultBy more first size bytes (malformed_number first)
great_group {b = b} {mid = mid} none byte big = malformed (too_great [] mid b tt (sym none) big byte) refl

-- the same where `bytes` are what a reader has before it, and `more` is not 0
module _ {more b : ℕ} {bytes mid : List ℕ} (some : 0 < more) (byte : bytes ≡ b ∷ mid) where
  less : suc (more - 1) ≡ more
  less = omega arith

  pub ends_here : b < 128 → BeginsBy more bytes b mid
  ends_here low = subst (λ l. BeginsBy more l b mid) (sym byte) (subst (λ k. BeginsBy k (b ∷ mid) b mid) less (last (more - 1) b mid low))

  pub fault_after : {first size size' : ℕ} {f : Fault} → size' ≡ size → 128 ≤ b → FaultBy (more - 1) first size' mid f → FaultBy more first size bytes f
  fault_after same high (missing c e) = missing (subst (EndsInside more) (sym byte) (subst (λ k. EndsInside k (b ∷ mid)) less (ends_more (more - 1) b mid high c))) (e ∙ ap missing_byte same)
  fault_after same high (malformed w e) = malformed (subst (Malformed more) (sym byte) (subst (λ k. Malformed k (b ∷ mid)) less (malformed_more (more - 1) b mid high w))) e

  pub zero_after : {first size n : ℕ} {end : List ℕ} → 128 ≤ b → n ≡ 0 → BeginsBy (more - 1) mid n end → FaultBy more first size bytes (malformed_number first)
  zero_after {end = end} high z s =
      malformed (subst (Malformed more) (sym byte) (subst (λ k. Malformed k (b ∷ mid)) less (zero_more (more - 1) b mid end high (subst (λ n. BeginsBy (more - 1) mid n end) z s)))) refl

  -- the number after b, b's group and all, fits 32 bits
  pub fits_with : {n : ℕ} {end : List ℕ} → more ≤ 4 → BeginsBy (more - 1) mid n end → 128 * n + 127 < limit_by 4
  fits_with {n} few s =
      let top = limit_below more few in
      let step : 128 * limit_by (more - 1) ≡ limit_by more = ap limit_by less in
      omega (arith, s.small)

-- the whole of a number
pub begins : {bytes rest : List ℕ} {n : ℕ} → BeginsBy 4 bytes n rest → Begins bytes n rest
begins s = record { small = omega (arith, s.small); form = s.form }

begins_by : {bytes rest : List ℕ} {n : ℕ} → Begins bytes n rest → BeginsBy 4 bytes n rest
begins_by s = record { small = omega (arith, s.small); form = s.form }

pub begins_same : {bytes r s : List ℕ} {m n : ℕ} → Begins bytes m r → Begins bytes n s → (m ≡ n) × (r ≡ s)
begins_same {r = r} {s = s} {m = m} {n = n} a b = encode_same 4 m n r s (sym a.form ∙ b.form)

-- No bytes begin with a number, end inside one and are malformed, two at a time.

ends_none : (more n : ℕ) (bytes rest : List ℕ) → length bytes ≤ more → Continued bytes → bytes ≡ encode_by more n ++ rest → ⊥
ends_none zero n bytes rest few goes e = omega (arith, ap length e)
ends_none (suc more) n [] rest few goes e =
    ⊎_elim (λ low. omega (arith, ap length (rw (encode_low (suc more) n low) at e))) (λ high. omega (arith, ap length (rw (encode_high more n high) at e))) (cases_lt n 128)
ends_none (suc more) n (b ∷ bytes) rest few goes e =
    let h = higher_groups more b n bytes rest goes.0 e in
    ends_none more (n / 128) bytes rest (omega arith) goes.1 h.1

zero_none : (more n : ℕ) (front rest left : List ℕ) → Continued front → 1 ≤ length front → length front ≤ more → front ++ 0 ∷ rest ≡ encode_by more n ++ left → ⊥
zero_none zero n front rest left goes some few e = omega arith
zero_none (suc more) n [] rest left goes some few e = omega arith
zero_none (suc more) n (b ∷ []) rest left goes some few e =
    let h = higher_groups more b n (0 ∷ rest) left goes.0 e in
    let z = encode_same more 0 (n / 128) rest left (ap (λ l. l ++ rest) (encode_low more 0 (omega arith)) ∙ h.1) in
    omega arith
zero_none (suc more) n (b ∷ (d ∷ front)) rest left goes some few e =
    let h = higher_groups more b n ((d ∷ front) ++ 0 ∷ rest) left goes.0 e in
    zero_none more (n / 128) (d ∷ front) rest left goes.1 (omega arith) (omega arith) h.1

great_none : (more n : ℕ) (front rest left : List ℕ) (fifth : ℕ) → n < limit_by more → Continued front → length front ≡ more → 15 < fifth → front ++ fifth ∷ rest ≡ encode_by more n ++ left → ⊥
great_none zero n [] rest left fifth small goes long big e = let h = head_same _ _ _ _ e in omega arith
great_none zero n (b ∷ front) rest left fifth small goes long big e = omega arith
great_none (suc more) n [] rest left fifth small goes long big e = omega arith
great_none (suc more) n (b ∷ front) rest left fifth small goes long big e =
    let h = higher_groups more b n (front ++ fifth ∷ rest) left goes.0 e in
    great_none more (n / 128) front rest left fifth (omega arith) goes.1 (omega arith) big h.1

malformed_none : {more n : ℕ} {bytes rest : List ℕ} → Malformed more bytes → BeginsBy more bytes n rest → ⊥
malformed_none {more} {n} {rest = rest} (not_shortest front left goes some few e) s = zero_none more n front left rest goes some few (sym e ∙ s.form)
malformed_none {more} {n} {rest = rest} (too_great front left fifth goes long big e) s = great_none more n front left rest fifth s.small goes long big (sym e ∙ s.form)

continued_low : (front rest : List ℕ) (b : ℕ) → b < 128 → Continued (front ++ b ∷ rest) → ⊥
continued_low [] rest b low goes = omega (arith, goes.0)
continued_low (d ∷ front) rest b low goes = continued_low front rest b low goes.1

ends_well : {more : ℕ} {bytes : List ℕ} → Malformed more bytes → EndsInside more bytes → ⊥
ends_well (not_shortest front rest goes some few e) c = continued_low front rest 0 (omega arith) (subst Continued e c.continued)
ends_well (too_great front rest fifth goes long big e) c = omega (arith, c.few, ap length e ∙ length-append front (fifth ∷ rest))

pub no_fault : {size n : ℕ} {bytes rest : List ℕ} {f : Fault} → NumberFault size bytes f → Begins bytes n rest → ⊥
no_fault {n = n} {bytes = bytes} {rest = rest} (missing c e) s = ends_none 4 n bytes rest c.few c.continued s.form
no_fault (malformed w e) s = malformed_none w (begins_by s)

pub number_same : {size : ℕ} {bytes : List ℕ} {f g : Fault} → NumberFault size bytes f → NumberFault size bytes g → f ≡ g
number_same (missing c e) (missing c' e') = e ∙ sym e'
number_same (missing c e) (malformed w e') = absurd (ends_well w c)
number_same (malformed w e) (missing c e') = absurd (ends_well w c)
number_same (malformed w e) (malformed w' e') = e ∙ sym e'

-- a number's first byte is where the bytes ahead begin
pub first_of : {first size : ℕ} {bytes : List ℕ} {f : Fault} → first ≡ size - length bytes → FaultBy 4 first size bytes f → NumberFault size bytes f
first_of e (missing c is) = missing c is
first_of e (malformed w is) = malformed w (is ∙ ap malformed_number e)
