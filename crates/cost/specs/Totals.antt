-- Bounds on the sum of a list of costs.
use Rattle.std.specs.Prelude.{◌≡◌, ℕ, ◌+◌, ◌*◌, ◌≤◌, Bool, true, false, ◌⊎◌, List, [], ◌∷◌, length, refl}
use Rattle.std.proofs.Common.{inl, inr, arith, mul-suc}
use Rattle.cost.specs.Costs.{Kind, Segments, total}

-- A number read off a cost, if it adds up as the costs do and is at most `most` in a segment, is at most `most` times their count in a sum of segments.
pub total_at_most : {C : Type 0} (K : Kind C) (part : C → ℕ) (most : ℕ) → part K.zero ≡ 0 → ((a b : C) → part (K.add a b) ≡ part a + part b) → ((c : C) → K.segment c ≡ true → part c ≤ most) → (cs : List C) → Segments K cs → part (total K cs) ≤ most * length cs
total_at_most K part most none sum each [] all = omega (arith, none)
total_at_most K part most none sum each (c ∷ cs) all =
    omega (arith, sum c (total K cs), each c all.0, total_at_most K part most none sum each cs all.1, mul-suc most (length cs))

-- Of two tests one passes, where the second passes if the first fails.
pub one_passes : (p q : Bool) → (p ≡ false → q ≡ true) → (p ≡ true) ⊎ (q ≡ true)
one_passes true q h = inl refl
one_passes false q h = inr (h refl)
