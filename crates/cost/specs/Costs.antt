-- What a cost kind is: the operations on its costs, and the laws that they keep.
use Rattle.std.specs.Prelude.{◌≡◌, ℕ, ◌≤◌, Bool, true, false, ◌⊎◌, List, [], ◌∷◌, length}

-- The operations of a kind whose costs are the values of C. Since the order is total, `le b a ≡ false` says that a is below b.
pub record Kind (C : Type 0) : Type 0 where
  -- is the first at most the second?
  pub le : C → C → Bool
  pub add : C → C → C
  pub zero : C
  -- the remainder `less f g`: the least v with f at most g + v
  pub less : C → C → C
  pub ceiling : C
  -- does a cost lie within the ceiling? One that is at most the ceiling need not.
  pub within : C → Bool
  -- can it be the cost of one segment?
  pub segment : C → Bool
  -- the greatest cost within the ceiling that is not above a given one
  pub cut : C → C

-- A cheapest route has at most this many steps, since it enters none of at most 4,096 places twice.
abbrev pub most_steps : ℕ
most_steps = 4_095

-- each of the costs can be that of a segment
abbrev pub Segments : {C : Type 0} → Kind C → List C → Type 0
Segments K [] = Unit {0}
Segments K (c ∷ cs) = (K.segment c ≡ true) × Segments K cs

-- the sum of a list of costs
abbrev pub total : {C : Type 0} → Kind C → List C → C
total K [] = K.zero
total K (c ∷ cs) = K.add c (total K cs)

-- The laws of every kind.
pub record Laws {C : Type 0} (K : Kind C) : Type 0 where
  pub order_total : (a b : C) → (K.le a b ≡ true) ⊎ (K.le b a ≡ true)
  pub order_transitive : (a b c : C) → K.le a b ≡ true → K.le b c ≡ true → K.le a c ≡ true
  pub order_antisymmetric : (a b : C) → K.le a b ≡ true → K.le b a ≡ true → a ≡ b
  pub sum_associative : (a b c : C) → K.add (K.add a b) c ≡ K.add a (K.add b c)
  pub sum_commutative : (a b : C) → K.add a b ≡ K.add b a
  pub zero_neutral : (a : C) → K.add K.zero a ≡ a
  pub zero_least : (a : C) → K.le K.zero a ≡ true
  -- if a < b, then a + v < b + v
  pub sum_strict : (a b v : C) → K.le b a ≡ false → K.le (K.add b v) (K.add a v) ≡ false
  -- f ≤ g + v holds exactly when (f less g) ≤ v
  pub remainder_adjoint : (f g v : C) → K.le f (K.add g v) ≡ K.le (K.less f g) v
  pub remainder_within : (f g : C) → K.within f ≡ true → K.within (K.less f g) ≡ true
  pub segments_within : (cs : List C) → Segments K cs → length cs ≤ most_steps → K.within (total K cs) ≡ true
  pub ceiling_within : K.within K.ceiling ≡ true
  pub ceiling_greatest : (c : C) → K.within c ≡ true → K.le c K.ceiling ≡ true
  -- cut v is the greatest cost within the ceiling that is not above v
  pub cut_within : (v : C) → K.within (K.cut v) ≡ true
  pub cut_not_above : (v : C) → K.le (K.cut v) v ≡ true
  pub cut_greatest : (c v : C) → K.within c ≡ true → K.le c v ≡ true → K.le c (K.cut v) ≡ true
  -- cut(c + v) ≤ c + cut v
  pub cut_of_sum : (c v : C) → K.le (K.cut (K.add c v)) (K.add c (K.cut v)) ≡ true

-- Apart from the laws, since the first part of a kind that is made of two may lack just this: every segment cost is above zero.
pub record Positive {C : Type 0} (K : Kind C) : Type 0 where
  pub segment_above_zero : (c : C) → K.segment c ≡ true → K.le c K.zero ≡ false
