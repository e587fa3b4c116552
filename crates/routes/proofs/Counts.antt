-- Facts about counts of the numbers that pass a test.
use mathlib.Core.Path.{◌≡◌, refl, subst}
use mathlib.Core.Bool.{Bool, true, false, cond}
use mathlib.Core.Logic.{◌⊎◌, inl, inr, ⊎_elim}
use Prim.Native.Nat.{ℕ, zero, suc, ◌≤◌, ◌<◌}
use native.Mathlib.Omega.{arith}
use native.Mathlib.Nat.{not-suc-le-zero}
use Rattle.routes.specs.Counts.{count}
use Rattle.cost.proofs.LengthLemmas.{tested, last_or_below}

one : {b : Bool} → b ≡ true → ◌≡◌ {A = ℕ} (cond b 1 0) 1
one e = rw e

none : {b : Bool} → b ≡ false → ◌≡◌ {A = ℕ} (cond b 1 0) 0
none e = rw e

count_mono : (p q : ℕ → Bool) (n : ℕ) → ((y : ℕ) → p y ≡ true → q y ≡ true) → count p n ≤ count q n
unfolding count
count_mono p q zero h = omega arith
count_mono p q (suc n) h = let r = count_mono p q n h in ⊎_elim
    (λ a. omega (arith, one a, one (h n a)))
    (λ a. omega (arith, none a))
    (tested (p n))

-- a number that passes the second test only makes a difference
pub count_strict : (p q : ℕ → Bool) (n x : ℕ) → x < n → ((y : ℕ) → p y ≡ true → q y ≡ true) → p x ≡ false → q x ≡ true → count p n < count q n
unfolding count
count_strict p q zero x l h a b = absurd (not-suc-le-zero l)
count_strict p q (suc n) x l h a b = go (λ k. count_strict p q n x k h a b) (last_or_below n x l) (tested (p n))
  where
    go : (x < n → count p n < count q n) → (x ≡ n) ⊎ (x < n) → (p n ≡ true) ⊎ (p n ≡ false) → count p (suc n) < count q (suc n)
    go ih (inl e) w =
        let r = count_mono p q n h in
        omega (arith, none (subst (λ y. p y ≡ false) e a), one (subst (λ y. q y ≡ true) e b))
    go ih (inr k) (inl c) = let r = ih k in omega (arith, one c, one (h n c))
    go ih (inr k) (inr c) = let r = ih k in omega (arith, none c)

pub count_all : (n : ℕ) → count (λ _. true) n ≡ n
unfolding count
count_all zero = refl
count_all (suc n) = let r = count_all n in omega arith
