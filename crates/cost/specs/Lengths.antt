-- Lengths: a cost of one kind, or infinite, which is above every cost.
use Rattle.std.specs.Prelude.{◌≡◌, ℕ, zero, suc, Bool, true, false, cond, ◌⊎◌, List, [], ◌∷◌}
use Rattle.cost.specs.declared.lengths.Length.{Length}
use Rattle.cost.specs.declared.lengths.Length.TheVariants.{Finite, Infinite}
use Rattle.cost.specs.Costs.{Kind}

module _ {C : Type 0} (K : Kind C) where
  -- is the first at most the second?
  abbrev pub length_le : Length C → Length C → Bool
  length_le (Finite a) (Finite b) = K.le a b
  length_le (Finite a) Infinite = true
  length_le Infinite (Finite b) = false
  length_le Infinite Infinite = true

  -- is it infinite, or a cost within the ceiling?
  abbrev pub length_within : Length C → Bool
  length_within (Finite a) = K.within a
  length_within Infinite = true

  -- a sum with an infinite length is infinite
  abbrev pub sum : Length C → Length C → Length C
  sum (Finite a) (Finite b) = Finite (K.add a b)
  sum (Finite a) Infinite = Infinite
  sum Infinite b = Infinite

  -- any length less an infinite one is zero, and an infinite length less a cost is infinite
  abbrev pub remainder : Length C → Length C → Length C
  remainder f Infinite = Finite K.zero
  remainder (Finite f) (Finite g) = Finite (K.less f g)
  remainder Infinite (Finite g) = Infinite

  -- the greatest length within the ceiling that is not above a given one
  abbrev pub cut_length : Length C → Length C
  cut_length (Finite a) = Finite (K.cut a)
  cut_length Infinite = Infinite

  -- the lesser of two
  abbrev pub lesser : Length C → Length C → Length C
  lesser a b = cond (length_le a b) a b

  -- the greater of two
  abbrev pub greater : Length C → Length C → Length C
  greater a b = cond (length_le a b) b a

  -- the length zero
  abbrev pub origin : Length C
  origin = Finite K.zero

  -- the least of f over a list; infinite where the list is empty
  abbrev pub least : {A : Type 0} → (A → Length C) → List A → Length C
  least f [] = Infinite
  least f (x ∷ xs) = lesser (f x) (least f xs)

  -- the least of f over the numbers below n
  abbrev pub least_below : (ℕ → Length C) → ℕ → Length C
  least_below f zero = Infinite
  least_below f (suc n) = lesser (f n) (least_below f n)

-- a ≤ b
pub record AtMost {C : Type 0} (K : Kind C) (a b : Length C) : Type 0 where
  pub holds : length_le K a b ≡ true

-- an infinite length, or a cost within the ceiling
pub record Within {C : Type 0} (K : Kind C) (a : Length C) : Type 0 where
  pub fits : (c : C) → a ≡ Finite c → K.within c ≡ true

-- The laws of lengths, which follow from those of the kind.
pub record LengthLaws {C : Type 0} (K : Kind C) : Type 0 where
  pub order_total : (a b : Length C) → AtMost K a b ⊎ AtMost K b a
  pub order_transitive : (a b c : Length C) → AtMost K a b → AtMost K b c → AtMost K a c
  pub order_antisymmetric : (a b : Length C) → AtMost K a b → AtMost K b a → a ≡ b
  pub infinite_above_costs : (c : C) → length_le K Infinite (Finite c) ≡ false
  pub infinite_greatest : (a : Length C) → AtMost K a Infinite
  pub sum_associative : (a b c : Length C) → sum K (sum K a b) c ≡ sum K a (sum K b c)
  pub sum_commutative : (a b : Length C) → sum K a b ≡ sum K b a
  pub sum_with_infinite : (a : Length C) → sum K a Infinite ≡ Infinite
  pub zero_neutral : (a : Length C) → sum K (origin K) a ≡ a
  pub zero_least : (a : Length C) → AtMost K (origin K) a
  pub zero_within : Within K (origin K)
  pub sum_monotone : (a b v : Length C) → AtMost K a b → AtMost K (sum K a v) (sum K b v)
  -- if a < b, then a + v < b + v for every cost v
  pub sum_strict : (a b : Length C) (v : C) → length_le K b a ≡ false → length_le K (sum K b (Finite v)) (sum K a (Finite v)) ≡ false
  -- f ≤ g + v holds exactly when (f less g) ≤ v
  pub remainder_adjoint : (f g v : Length C) → length_le K f (sum K g v) ≡ length_le K (remainder K f g) v
  pub infinite_less_cost : (c : C) → remainder K Infinite (Finite c) ≡ Infinite
  pub less_infinite : (a : Length C) → remainder K a Infinite ≡ origin K
  pub remainder_within : (f g : Length C) → Within K f → Within K (remainder K f g)
  pub cut_infinite : cut_length K Infinite ≡ Infinite
  -- cut v is the greatest length within the ceiling that is not above v
  pub cut_within : (v : Length C) → Within K (cut_length K v)
  pub cut_not_above : (v : Length C) → AtMost K (cut_length K v) v
  pub cut_greatest : (a v : Length C) → Within K a → AtMost K a v → AtMost K a (cut_length K v)
  -- cut(a + v) ≤ a + cut v
  pub cut_of_sum : (a v : Length C) → AtMost K (cut_length K (sum K a v)) (sum K a (cut_length K v))
  -- the lesser of two is the greatest that is at most each, the greater the least that is at least each
  pub lesser_at_most_first : (a b : Length C) → AtMost K (lesser K a b) a
  pub lesser_at_most_second : (a b : Length C) → AtMost K (lesser K a b) b
  pub lesser_greatest : (a b v : Length C) → AtMost K v a → AtMost K v b → AtMost K v (lesser K a b)
  pub greater_at_least_first : (a b : Length C) → AtMost K a (greater K a b)
  pub greater_at_least_second : (a b : Length C) → AtMost K b (greater K a b)
  pub greater_least : (a b v : Length C) → AtMost K a v → AtMost K b v → AtMost K (greater K a b) v
