-- The laws of lengths, from the laws of a cost kind.
use Rattle.std.proofs.Common.{◌≡◌, ℕ, zero, suc, ◌<◌, Bool, true, false, ◌⊎◌, List, [], ◌∷◌, ◌++◌, sym, refl, ap, ◌∙◌, subst, inl, inr, ⊎_elim, true≢false, not-suc-le-zero, arith}
use mathlib.Core.Bool.{false≢true}
use mathlib.Core.List.{Memᴰ}
use native.Mathlib.Decide.{dec_lt}
use Rattle.cost.specs.declared.lengths.Length.{Length}
use Rattle.cost.specs.declared.lengths.Length.TheVariants.{Finite, Infinite}
use Rattle.cost.specs.Costs.{Kind, Laws}
use Rattle.cost.specs.Lengths.{AtMost, Within, length_le, sum, remainder, cut_length, lesser, greater, origin, least, least_below, LengthLaws}

-- a test with its answer
pub tested : (b : Bool) → (b ≡ true) ⊎ (b ≡ false)
tested true = inl refl
tested false = inr refl

pub last_or_below : (n t : ℕ) → t < suc n → (t ≡ n) ⊎ (t < n)
last_or_below n t h = elim (dec_lt t n) [ yes l ↦ inr l | no g ↦ inl (omega arith) ]

pub finite_inj : {C : Type 0} {a b : C} → Path (Length C) (Finite a) (Finite b) → a ≡ b
finite_inj e = cc

pub infinite_not_finite : {C : Type 0} {c : C} → Path (Length C) Infinite (Finite c) → ⊥
infinite_not_finite e = let z : ◌≡◌ {A = ℕ} 0 1 = cc in omega arith

-- infinite, or a cost
pub length_cases : {C : Type 0} (a : Length C) → (a ≡ Infinite) ⊎ ((c : C) × (a ≡ Finite c))
length_cases (Finite c) = inr (c, refl)
length_cases Infinite = inl refl

-- the parts of a finite sum
pub sum_finite : {C : Type 0} (K : Kind C) (a b : Length C) (c : C) → sum K a b ≡ Finite c → (x : C) × (y : C) × (a ≡ Finite x) × (b ≡ Finite y) × (K.add x y ≡ c)
sum_finite K (Finite a) (Finite b) c e = (a, b, refl, refl, finite_inj e)
sum_finite K (Finite a) Infinite c e = absurd (infinite_not_finite e)
sum_finite K Infinite b c e = absurd (infinite_not_finite e)

module _ {C : Type 0} {K : Kind C} (laws : Laws K) where
  le_refl : (a : C) → K.le a a ≡ true
  le_refl a = ⊎_elim (λ h. h) (λ h. h) (laws.order_total a a)

  -- what is not at most is above
  le_of_not : (a b : C) → K.le b a ≡ false → K.le a b ≡ true
  le_of_not a b above = ⊎_elim (λ h. h) (λ h. absurd (false≢true (sym above ∙ h))) (laws.order_total a b)

  length_le_refl : (a : Length C) → length_le K a a ≡ true
  length_le_refl (Finite a) = le_refl a
  length_le_refl Infinite = refl

  length_le_trans : (a b c : Length C) → length_le K a b ≡ true → length_le K b c ≡ true → length_le K a c ≡ true
  length_le_trans (Finite a) (Finite b) (Finite c) p q = laws.order_transitive a b c p q
  length_le_trans (Finite a) (Finite b) Infinite p q = refl
  length_le_trans (Finite a) Infinite (Finite c) p q = absurd (false≢true q)
  length_le_trans (Finite a) Infinite Infinite p q = refl
  length_le_trans Infinite (Finite b) c p q = absurd (false≢true p)
  length_le_trans Infinite Infinite c p q = q

  length_le_antisym : (a b : Length C) → length_le K a b ≡ true → length_le K b a ≡ true → a ≡ b
  length_le_antisym (Finite a) (Finite b) p q = ap Finite (laws.order_antisymmetric a b p q)
  length_le_antisym (Finite a) Infinite p q = absurd (false≢true q)
  length_le_antisym Infinite (Finite b) p q = absurd (false≢true p)
  length_le_antisym Infinite Infinite p q = refl

  length_le_of_not : (a b : Length C) → length_le K a b ≡ false → length_le K b a ≡ true
  length_le_of_not (Finite a) (Finite b) above = le_of_not b a above
  length_le_of_not (Finite a) Infinite above = absurd (true≢false above)
  length_le_of_not Infinite (Finite b) above = refl
  length_le_of_not Infinite Infinite above = refl

  pub at_most_refl : (a : Length C) → AtMost K a a
  at_most_refl a = record { holds = length_le_refl a }

  pub at_most_trans : {a b c : Length C} → AtMost K a b → AtMost K b c → AtMost K a c
  at_most_trans {a} {b} {c} p q = record { holds = length_le_trans a b c p.holds q.holds }

  pub at_most_antisym : {a b : Length C} → AtMost K a b → AtMost K b a → a ≡ b
  at_most_antisym {a} {b} p q = length_le_antisym a b p.holds q.holds

  pub at_most_of_eq : {a b : Length C} → a ≡ b → AtMost K a b
  at_most_of_eq {a} {b} e = subst (λ x. AtMost K a x) e (at_most_refl a)

  pub at_most_of_not : {a b : Length C} → length_le K a b ≡ false → AtMost K b a
  at_most_of_not {a} {b} above = record { holds = length_le_of_not a b above }

  -- either way round
  pub at_most_total : (a b : Length C) → AtMost K a b ⊎ AtMost K b a
  at_most_total a b = ⊎_elim (λ h. inl (record { holds = h })) (λ h. inr (at_most_of_not h)) (tested (length_le K a b))

  infinite_above : (a : Length C) → length_le K a Infinite ≡ true
  infinite_above (Finite a) = refl
  infinite_above Infinite = refl

  pub at_most_infinite : (a : Length C) → AtMost K a Infinite
  at_most_infinite a = record { holds = infinite_above a }

  -- what is at most a cost is a cost
  pub finite_below : (a : Length C) (c : C) → AtMost K a (Finite c) → (d : C) × (a ≡ Finite d)
  finite_below (Finite d) c p = (d, refl)
  finite_below Infinite c p = absurd (false≢true p.holds)

  pub infinite_at_most : {a : Length C} → AtMost K Infinite a → a ≡ Infinite
  infinite_at_most {a} p = at_most_antisym (at_most_infinite a) p

  -- sums
  pub sum_assoc : (a b c : Length C) → sum K (sum K a b) c ≡ sum K a (sum K b c)
  sum_assoc (Finite a) (Finite b) (Finite c) = ap Finite (laws.sum_associative a b c)
  sum_assoc (Finite a) (Finite b) Infinite = refl
  sum_assoc (Finite a) Infinite c = refl
  sum_assoc Infinite b c = refl

  pub sum_comm : (a b : Length C) → sum K a b ≡ sum K b a
  sum_comm (Finite a) (Finite b) = ap Finite (laws.sum_commutative a b)
  sum_comm (Finite a) Infinite = refl
  sum_comm Infinite (Finite b) = refl
  sum_comm Infinite Infinite = refl

  pub sum_infinite : (a : Length C) → sum K a Infinite ≡ Infinite
  sum_infinite (Finite a) = refl
  sum_infinite Infinite = refl

  pub origin_sum : (a : Length C) → sum K (origin K) a ≡ a
  origin_sum (Finite a) = ap Finite (laws.zero_neutral a)
  origin_sum Infinite = refl

  pub sum_origin : (a : Length C) → sum K a (origin K) ≡ a
  sum_origin a = sum_comm a (origin K) ∙ origin_sum a

  origin_below : (a : Length C) → length_le K (origin K) a ≡ true
  origin_below (Finite a) = laws.zero_least a
  origin_below Infinite = refl

  pub origin_least : (a : Length C) → AtMost K (origin K) a
  origin_least a = record { holds = origin_below a }

  add_mono : (a b v : C) → K.le a b ≡ true → K.le (K.add a v) (K.add b v) ≡ true
  add_mono a b v p = ⊎_elim (λ q. subst (λ x. K.le (K.add a v) (K.add x v) ≡ true) (laws.order_antisymmetric a b p q) (le_refl (K.add a v))) (λ q. le_of_not (K.add a v) (K.add b v) (laws.sum_strict a b v q)) (tested (K.le b a))

  add_cancel : (a b v : C) → K.le (K.add a v) (K.add b v) ≡ true → K.le a b ≡ true
  add_cancel a b v p = ⊎_elim (λ q. q) (λ q. absurd (true≢false (sym p ∙ laws.sum_strict b a v q))) (tested (K.le a b))

  sum_mono : (a b v : Length C) → length_le K a b ≡ true → length_le K (sum K a v) (sum K b v) ≡ true
  sum_mono (Finite a) (Finite b) (Finite v) p = add_mono a b v p
  sum_mono (Finite a) (Finite b) Infinite p = refl
  sum_mono (Finite a) Infinite v p = infinite_above (sum K (Finite a) v)
  sum_mono Infinite (Finite b) v p = absurd (false≢true p)
  sum_mono Infinite Infinite v p = refl

  pub sum_left : {a b : Length C} (v : Length C) → AtMost K a b → AtMost K (sum K a v) (sum K b v)
  sum_left {a} {b} v p = record { holds = sum_mono a b v p.holds }

  pub sum_right : {a b : Length C} (v : Length C) → AtMost K a b → AtMost K (sum K v a) (sum K v b)
  sum_right {a} {b} v p = rw (sum_comm v a, sum_comm v b) (sum_left v p)

  pub sum_both : {a b c d : Length C} → AtMost K a b → AtMost K c d → AtMost K (sum K a c) (sum K b d)
  sum_both {a} {b} {c} {d} p q = at_most_trans (sum_left c p) (sum_right b q)

  sum_grows : (a v : Length C) → AtMost K a (sum K v a)
  sum_grows a v = subst (λ x. AtMost K x (sum K v a)) (origin_sum a) (sum_left a (origin_least v))

  pub at_most_sum_right : (v a : Length C) → AtMost K a (sum K v a)
  at_most_sum_right v a = sum_grows a v

  pub at_most_sum_left : (a v : Length C) → AtMost K a (sum K a v)
  at_most_sum_left a v = rw (sum_comm a v) (sum_grows a v)

  -- a cost on both sides is taken off
  sum_cancel : (a b : Length C) (v : C) → length_le K (sum K a (Finite v)) (sum K b (Finite v)) ≡ true → length_le K a b ≡ true
  sum_cancel (Finite a) (Finite b) v p = add_cancel a b v p
  sum_cancel (Finite a) Infinite v p = refl
  sum_cancel Infinite (Finite b) v p = absurd (false≢true p)
  sum_cancel Infinite Infinite v p = refl

  pub at_most_cancel : {a b : Length C} (v : C) → AtMost K (sum K a (Finite v)) (sum K b (Finite v)) → AtMost K a b
  at_most_cancel {a} {b} v p = record { holds = sum_cancel a b v p.holds }

  -- the remainder: f ≤ g + v exactly when (f less g) ≤ v
  pub remainder_adjoint : (f g v : Length C) → length_le K f (sum K g v) ≡ length_le K (remainder K f g) v
  remainder_adjoint (Finite f) (Finite g) (Finite v) = laws.remainder_adjoint f g v
  remainder_adjoint (Finite f) (Finite g) Infinite = refl
  remainder_adjoint Infinite (Finite g) (Finite v) = refl
  remainder_adjoint Infinite (Finite g) Infinite = refl
  remainder_adjoint f Infinite v = infinite_above f ∙ sym (origin_below v)

  pub remainder_le : {f v : Length C} (g : Length C) → AtMost K f (sum K g v) → AtMost K (remainder K f g) v
  remainder_le {f} {v} g p = record { holds = sym (remainder_adjoint f g v) ∙ p.holds }

  pub le_remainder : {f v : Length C} (g : Length C) → AtMost K (remainder K f g) v → AtMost K f (sum K g v)
  le_remainder {f} {v} g p = record { holds = remainder_adjoint f g v ∙ p.holds }

  -- f ≤ g + (f less g)
  pub remainder_covers : (f g : Length C) → AtMost K f (sum K g (remainder K f g))
  remainder_covers f g = le_remainder g (at_most_refl (remainder K f g))

  pub remainder_self : (f : Length C) → remainder K f f ≡ origin K
  remainder_self f = at_most_antisym (remainder_le f (at_most_of_eq (sym (sum_origin f)))) (origin_least (remainder K f f))

  -- lesser and greater
  pub lesser_left : (a b : Length C) → AtMost K (lesser K a b) a
  lesser_left a b = ⊎_elim (λ h. rw h (at_most_refl a)) (λ h. rw h (at_most_of_not h)) (tested (length_le K a b))

  pub lesser_right : (a b : Length C) → AtMost K (lesser K a b) b
  lesser_right a b = ⊎_elim (λ h. rw h (record { holds = h })) (λ h. rw h (at_most_refl b)) (tested (length_le K a b))

  -- one of the two
  pub lesser_one : (a b : Length C) → (lesser K a b ≡ a) ⊎ (lesser K a b ≡ b)
  lesser_one a b = ⊎_elim (λ h. inl (rw h)) (λ h. inr (rw h)) (tested (length_le K a b))

  pub greater_left : (a b : Length C) → AtMost K a (greater K a b)
  greater_left a b = ⊎_elim (λ h. rw h (record { holds = h })) (λ h. rw h (at_most_refl a)) (tested (length_le K a b))

  pub greater_right : (a b : Length C) → AtMost K b (greater K a b)
  greater_right a b = ⊎_elim (λ h. rw h (at_most_refl b)) (λ h. rw h (at_most_of_not h)) (tested (length_le K a b))

  pub greater_one : (a b : Length C) → (greater K a b ≡ a) ⊎ (greater K a b ≡ b)
  greater_one a b = ⊎_elim (λ h. inr (rw h)) (λ h. inl (rw h)) (tested (length_le K a b))

  pub greater_le : {a b c : Length C} → AtMost K a c → AtMost K b c → AtMost K (greater K a b) c
  greater_le {a} {b} {c} p q = ⊎_elim (λ h. rw h p) (λ h. rw h q) (greater_one a b)

  pub le_lesser : {a b c : Length C} → AtMost K c a → AtMost K c b → AtMost K c (lesser K a b)
  le_lesser {a} {b} {c} p q = ⊎_elim (λ h. rw h p) (λ h. rw h q) (lesser_one a b)

  -- the lesser where one is known to be at most the other
  pub lesser_of_le : {a b : Length C} → AtMost K a b → lesser K a b ≡ a
  lesser_of_le {a} {b} p = at_most_antisym (lesser_left a b) (le_lesser (at_most_refl a) p)

  pub lesser_comm : (a b : Length C) → lesser K a b ≡ lesser K b a
  lesser_comm a b = at_most_antisym (le_lesser (lesser_right a b) (lesser_left a b)) (le_lesser (lesser_right b a) (lesser_left b a))

  pub lesser_assoc : (a b c : Length C) → lesser K (lesser K a b) c ≡ lesser K a (lesser K b c)
  lesser_assoc a b c = at_most_antisym
      (le_lesser (at_most_trans (lesser_left (lesser K a b) c) (lesser_left a b)) (le_lesser (at_most_trans (lesser_left (lesser K a b) c) (lesser_right a b)) (lesser_right (lesser K a b) c)))
      (le_lesser (le_lesser (lesser_left a (lesser K b c)) (at_most_trans (lesser_right a (lesser K b c)) (lesser_left b c))) (at_most_trans (lesser_right a (lesser K b c)) (lesser_right b c)))

  -- what keeps the order goes into the lesser of two
  pub lesser_map : (f : Length C → Length C) → ((a b : Length C) → AtMost K a b → AtMost K (f a) (f b)) → (a b : Length C) → f (lesser K a b) ≡ lesser K (f a) (f b)
  lesser_map f mono a b = at_most_antisym
      (le_lesser (mono (lesser K a b) a (lesser_left a b)) (mono (lesser K a b) b (lesser_right a b)))
      (⊎_elim (λ e. rw e (lesser_left (f a) (f b))) (λ e. rw e (lesser_right (f a) (f b))) (lesser_one a b))

  pub sum_lesser : (d a b : Length C) → sum K d (lesser K a b) ≡ lesser K (sum K d a) (sum K d b)
  sum_lesser d a b = lesser_map (sum K d) (λ x y p. sum_right d p) a b

  -- the least of a list and one more
  pub least_push : {A : Type 0} (f : A → Length C) (xs : List A) (x : A) → least K f (xs ++ (x ∷ [])) ≡ lesser K (least K f xs) (f x)
  least_push f [] x = lesser_comm (f x) Infinite
  least_push f (y ∷ xs) x = ap (lesser K (f y)) (least_push f xs x) ∙ sym (lesser_assoc (f y) (least K f xs) (f x))

  -- the least of a list
  pub least_le : {A : Type 0} (f : A → Length C) {x : A} {xs : List A} → Memᴰ x xs → AtMost K (least K f xs) (f x)
  least_le f {x} (Memᴰ.head {x = y} {xs = ys} e) = rw e (lesser_left (f y) (least K f ys))
  least_le f {x} (Memᴰ.tail {x = y} {xs = ys} h) = at_most_trans (lesser_right (f y) (least K f ys)) (least_le f h)

  pub le_least : {A : Type 0} (f : A → Length C) (xs : List A) {v : Length C} → ((x : A) → Memᴰ x xs → AtMost K v (f x)) → AtMost K v (least K f xs)
  le_least f [] {v} h = at_most_infinite v
  le_least f (x ∷ xs) h = le_lesser (h x (Memᴰ.head refl)) (le_least f xs (λ y m. h y (Memᴰ.tail m)))

  -- the least is that of an element, or infinite
  pub least_one : {A : Type 0} (f : A → Length C) (xs : List A) → (least K f xs ≡ Infinite) ⊎ ((x : A) × Memᴰ x xs × (least K f xs ≡ f x))
  least_one f [] = inl refl
  least_one {A} f (x ∷ xs) = ⊎_elim (λ e. inr (x, Memᴰ.head refl, e)) (λ e. ⊎_elim (λ i. inl (e ∙ i)) (λ w. inr (w.0, Memᴰ.tail w.1, e ∙ w.2)) (least_one f xs)) (lesser_one (f x) (least K f xs))

  -- the least over the numbers below n
  pub least_below_le : (f : ℕ → Length C) (n t : ℕ) → t < n → AtMost K (least_below K f n) (f t)
  least_below_le f zero t h = absurd (not-suc-le-zero h)
  least_below_le f (suc n) t h = ⊎_elim (λ e. rw e (lesser_left (f n) (least_below K f n))) (λ l. at_most_trans (lesser_right (f n) (least_below K f n)) (least_below_le f n t l)) (last_or_below n t h)

  pub le_least_below : (f : ℕ → Length C) (n : ℕ) {v : Length C} → ((t : ℕ) → t < n → AtMost K v (f t)) → AtMost K v (least_below K f n)
  le_least_below f zero {v} h = at_most_infinite v
  le_least_below f (suc n) h = le_lesser (h n (omega arith)) (le_least_below f n (λ t l. h t (omega arith)))

  -- within the ceiling
  pub within_finite : {c : C} → K.within c ≡ true → Within K (Finite c)
  within_finite {c} h = record { fits = λ d e. subst (λ x. K.within x ≡ true) (finite_inj e) h }

  pub within_infinite : Within K Infinite
  within_infinite = record { fits = λ c e. absurd (infinite_not_finite e) }

  pub within_greater : {a b : Length C} → Within K a → Within K b → Within K (greater K a b)
  within_greater {a} {b} p q = ⊎_elim (λ h. rw h p) (λ h. rw h q) (greater_one a b)

  pub within_lesser : {a b : Length C} → Within K a → Within K b → Within K (lesser K a b)
  within_lesser {a} {b} p q = ⊎_elim (λ h. rw h p) (λ h. rw h q) (lesser_one a b)

  pub within_origin : Within K (origin K)
  within_origin = within_finite (laws.segments_within [] tt (omega arith))

  -- one segment cost is a sum of one
  pub within_segment : {c : C} → K.segment c ≡ true → Within K (Finite c)
  within_segment {c} h =
      within_finite (subst (λ x. K.within x ≡ true) (laws.sum_commutative c K.zero ∙ laws.zero_neutral c) (laws.segments_within (c ∷ []) (h, tt) (omega arith)))

  pub within_remainder : (f g : Length C) → Within K f → Within K (remainder K f g)
  within_remainder f Infinite p = within_origin
  within_remainder (Finite f) (Finite g) p = within_finite (laws.remainder_within f g (p.fits f refl))
  within_remainder Infinite (Finite g) p = within_infinite

  -- cuts
  cut_le : (v : Length C) → length_le K (cut_length K v) v ≡ true
  cut_le (Finite v) = laws.cut_not_above v
  cut_le Infinite = refl

  pub cut_length_le : (v : Length C) → AtMost K (cut_length K v) v
  cut_length_le v = record { holds = cut_le v }

  pub cut_length_within : (v : Length C) → Within K (cut_length K v)
  cut_length_within (Finite v) = within_finite (laws.cut_within v)
  cut_length_within Infinite = within_infinite

  le_cut : (a v : Length C) → Within K a → length_le K a v ≡ true → length_le K a (cut_length K v) ≡ true
  le_cut (Finite a) (Finite v) w p = laws.cut_greatest a v (w.fits a refl) p
  le_cut Infinite (Finite v) w p = p
  le_cut a Infinite w p = p

  pub cut_length_greatest : {a v : Length C} → Within K a → AtMost K a v → AtMost K a (cut_length K v)
  cut_length_greatest {a} {v} w p = record { holds = le_cut a v w p.holds }

  cut_add : (c v : Length C) → length_le K (cut_length K (sum K c v)) (sum K c (cut_length K v)) ≡ true
  cut_add (Finite c) (Finite v) = laws.cut_of_sum c v
  cut_add (Finite c) Infinite = refl
  cut_add Infinite v = refl

  pub cut_sum : (c v : Length C) → AtMost K (cut_length K (sum K c v)) (sum K c (cut_length K v))
  cut_sum c v = record { holds = cut_add c v }

  pub cut_length_mono : {a b : Length C} → AtMost K a b → AtMost K (cut_length K a) (cut_length K b)
  cut_length_mono {a} {b} p = cut_length_greatest (cut_length_within a) (at_most_trans (cut_length_le a) p)

  pub cut_lesser : (a b : Length C) → cut_length K (lesser K a b) ≡ lesser K (cut_length K a) (cut_length K b)
  cut_lesser a b = lesser_map (cut_length K) (λ x y p. cut_length_mono p) a b

  -- a cost added to both sides keeps what is below
  sum_below : (a b : Length C) (v : C) → length_le K b a ≡ false → length_le K (sum K b (Finite v)) (sum K a (Finite v)) ≡ false
  sum_below (Finite a) (Finite b) v p = laws.sum_strict a b v p
  sum_below (Finite a) Infinite v p = refl
  sum_below Infinite b v p = absurd (true≢false (sym (infinite_above b) ∙ p))

  pub length_laws : LengthLaws K
  length_laws = record {
    order_total = at_most_total;
    order_transitive = λ a b c p q. at_most_trans p q;
    order_antisymmetric = λ a b p q. at_most_antisym p q;
    infinite_above_costs = λ c. refl;
    infinite_greatest = at_most_infinite;
    sum_associative = sum_assoc;
    sum_commutative = sum_comm;
    sum_with_infinite = sum_infinite;
    zero_neutral = origin_sum;
    zero_least = origin_least;
    zero_within = within_origin;
    sum_monotone = λ a b v p. sum_left v p;
    sum_strict = sum_below;
    remainder_adjoint = remainder_adjoint;
    infinite_less_cost = λ c. refl;
    less_infinite = λ a. refl;
    remainder_within = within_remainder;
    cut_infinite = refl;
    cut_within = cut_length_within;
    cut_not_above = cut_length_le;
    cut_greatest = λ a v w p. cut_length_greatest w p;
    cut_of_sum = cut_sum;
    lesser_at_most_first = lesser_left;
    lesser_at_most_second = lesser_right;
    lesser_greatest = λ a b v p q. le_lesser p q;
    greater_at_least_first = greater_left;
    greater_at_least_second = greater_right;
    greater_least = λ a b v p q. greater_le p q;
  }
