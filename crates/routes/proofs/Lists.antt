-- Lists of numbers: membership, removal, and the numbers below n.
use mathlib.Core.Path.{◌≡◌, refl, sym, ap, ◌∙◌}
use mathlib.Core.Logic.{◌⊎◌, inl, inr, ⊎_elim}
use mathlib.Core.List.Memᴰ
use mathlib.Core.List.{List, [], ◌∷◌, Memᴰ}
use Prim.Native.Nat.{ℕ, zero, suc, ◌≤◌, ◌<◌}
use native.Mathlib.Omega.{arith}
use native.Mathlib.Decide.{ℕ_discrete}
use native.Mathlib.Nat.{not-suc-le-zero}
use lib.ListN.{length}
use Rattle.cost.proofs.LengthLemmas.{last_or_below}

-- what holds of each element
abbrev pub All : {A : Type 0} → (A → Type 0) → List A → Type 0
All P [] = Unit {0}
All P (x ∷ xs) = P x × All P xs

pub all_map : {A : Type 0} {P Q : A → Type 0} → ((x : A) → P x → Q x) → (xs : List A) → All P xs → All Q xs
all_map f [] h = tt
all_map f (x ∷ xs) h = (f x h.0, all_map f xs h.1)

-- the list without u
pub remove : ℕ → List ℕ → List ℕ
remove u [] = []
remove u (x ∷ xs) = elim (ℕ_discrete x u) [ yes e ↦ remove u xs | no ne ↦ x ∷ remove u xs ]

remove_length : (u : ℕ) (xs : List ℕ) → length (remove u xs) ≤ length xs
unfolding remove
remove_length u [] = omega arith
remove_length u (x ∷ xs) = go (ℕ_discrete x u) (remove_length u xs)
  where
    go : (d : Dec (x ≡ u)) → length (remove u xs) ≤ length xs → length (elim d as (λ _. List ℕ) [ yes e ↦ remove u xs | no ne ↦ x ∷ remove u xs ]) ≤ length (x ∷ xs)
    go (yes e) h = omega arith
    go (no ne) h = omega arith

pub remove_shorter : (u : ℕ) (xs : List ℕ) → Memᴰ u xs → length (remove u xs) < length xs
unfolding remove
remove_shorter u [] h = absurd (Memᴰ.not-nil h)
remove_shorter u (x ∷ xs) h = go (ℕ_discrete x u) (remove_length u xs) (remove_shorter u xs) (Memᴰ.cases_cons h)
  where
    go : (d : Dec (x ≡ u)) → length (remove u xs) ≤ length xs → (Memᴰ u xs → length (remove u xs) < length xs) → (u ≡ x) ⊎ Memᴰ u xs → length (elim d as (λ _. List ℕ) [ yes e ↦ remove u xs | no ne ↦ x ∷ remove u xs ]) < length (x ∷ xs)
    go (yes e) h below w = omega arith
    go (no ne) h below (inl e) = absurd (ne (sym e))
    go (no ne) h below (inr w) = let k = below w in omega arith

pub remove_keeps : (u y : ℕ) (xs : List ℕ) → (y ≡ u → ⊥) → Memᴰ y xs → Memᴰ y (remove u xs)
unfolding remove
remove_keeps u y [] other h = absurd (Memᴰ.not-nil h)
remove_keeps u y (x ∷ xs) other h = go (ℕ_discrete x u) (remove_keeps u y xs other) (Memᴰ.cases_cons h)
  where
    go : (d : Dec (x ≡ u)) → (Memᴰ y xs → Memᴰ y (remove u xs)) → (y ≡ x) ⊎ Memᴰ y xs → Memᴰ y (elim d as (λ _. List ℕ) [ yes e ↦ remove u xs | no ne ↦ x ∷ remove u xs ])
    go (yes e) below (inl h) = absurd (other (h ∙ e))
    go (yes e) below (inr h) = below h
    go (no ne) below (inl h) = Memᴰ.head h
    go (no ne) below (inr h) = Memᴰ.tail (below h)

-- each in xs and other than u: each in xs without u
pub all_remove : (u : ℕ) (xs ys : List ℕ) → All (λ y. Memᴰ y xs) ys → All (λ y. y ≡ u → ⊥) ys → All (λ y. Memᴰ y (remove u xs)) ys
all_remove u xs [] p q = tt
all_remove u xs (y ∷ ys) p q = (remove_keeps u y xs q.0 p.0, all_remove u xs ys p.1 q.1)

-- the numbers below n
pub numbers : ℕ → List ℕ
numbers zero = []
numbers (suc n) = n ∷ numbers n

pub numbers_length : (n : ℕ) → length (numbers n) ≡ n
unfolding numbers
numbers_length zero = refl
numbers_length (suc n) = ap suc (numbers_length n)

pub numbers_mem : (n t : ℕ) → t < n → Memᴰ t (numbers n)
unfolding numbers
numbers_mem zero t h = absurd (not-suc-le-zero h)
numbers_mem (suc n) t h = ⊎_elim (λ e. Memᴰ.head e) (λ l. Memᴰ.tail (numbers_mem n t l)) (last_or_below n t h)
