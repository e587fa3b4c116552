-- What a way out of a place tells of the lane it goes over. Assumes nothing.
use Rattle.std.proofs.Common.{◌≡◌, ℕ, suc, ◌+◌, ◌<◌, eqb, List, [], ◌∷◌, length, ap, ◌∙◌, subst, ⊎_elim, arith}
use mathlib.Core.List.Memᴰ
use mathlib.Core.List.{Memᴰ}
use Rattle.std.proofs.lemmas.Bool.{cases_Bool, cond-true, cond-false, eqb-true}
use Rattle.tables.specs.Tapes.{leaving, lane_at}
use Rattle.tables.specs.declared.tape.Lane.{Lane}

-- (u, f) is one of the lanes that leave p, the first of which has the number k
pub record Leaves (p u f k : ℕ) (xs : List Lane) : Type 0 where
  pub index : ℕ
  pub inside : index < length xs
  pub numbered : f ≡ k + index
  pub leaves : (lane_at xs index).from ≡ p
  pub ends : u ≡ (lane_at xs index).to

later : (p u f k : ℕ) (x : Lane) (xs : List Lane) → Leaves p u f (k + 1) xs → Leaves p u f k (x ∷ xs)
later p u f k x xs l = record { index = suc l.index; inside = omega arith; numbered = omega arith; leaves = l.leaves; ends = l.ends }

pub leaving_lane : (p u f k : ℕ) (xs : List Lane) → Memᴰ (u, f) (leaving p k xs) → Leaves p u f k xs
leaving_lane p u f k [] h = absurd (Memᴰ.not-nil h)
leaving_lane p u f k (x ∷ xs) h =
    ⊎_elim
    (λ e.
    ⊎_elim
    (λ is. record { index = 0; inside = omega arith; numbered = ap (λ (q : ℕ × ℕ). q.1) is ∙ (let z : k ≡ k + 0 = omega arith in z); leaves = eqb-true _ _ e; ends = ap (λ (q : ℕ × ℕ). q.0) is })
    (λ more. later p u f k x xs (leaving_lane p u f (k + 1) xs more))
    (Memᴰ.cases_cons (subst (Memᴰ (u, f)) (cond-true (eqb x.from p) ((x.to, k) ∷ leaving p (k + 1) xs) (leaving p (k + 1) xs) e) h)))
    (λ e. later p u f k x xs (leaving_lane p u f (k + 1) xs (subst (Memᴰ (u, f)) (cond-false (eqb x.from p) ((x.to, k) ∷ leaving p (k + 1) xs) (leaving p (k + 1) xs) e) h)))
    (cases_Bool (eqb x.from p))
