-- What is there of a list of options. Assumes nothing.
use Rattle.std.specs.Prelude.{◌≡◌, ◌≤◌, Bool, true, false, List, [], ◌∷◌, length, Some, None, Option, refl}
use Rattle.std.proofs.Common.{⊎_elim, arith}
use mathlib.Core.List.Memᴰ
use mathlib.Core.List.{Memᴰ}
use Rattle.std.specs.Bool.{then_some}
use Rattle.floor.specs.Grids.{present}

pub length_present : {X : Type 0} (os : List (Option X)) → length (present os) ≤ length os
length_present [] = omega arith
length_present (None ∷ os) = omega (arith, length_present os)
length_present (Some x ∷ os) = omega (arith, length_present os)

-- it is what stands among the options
module _ {X : Type 0} (x : X) where
  pub present_from : (os : List (Option X)) → Memᴰ (Some x) os → Memᴰ x (present os)
  present_from [] is = absurd (Memᴰ.not-nil is)
  present_from (None ∷ os) is = ⊎_elim (λ (e : Some x ≡ None). absurd (cc)) (present_from os) (Memᴰ.cases_cons is)
  present_from (Some y ∷ os) is = ⊎_elim (λ (e : Some x ≡ Some y). Memᴰ.head (cc)) (λ later. Memᴰ.tail (present_from os later)) (Memᴰ.cases_cons is)

  pub from_present : (os : List (Option X)) → Memᴰ x (present os) → Memᴰ (Some x) os
  from_present [] is = absurd (Memᴰ.not-nil is)
  from_present (None ∷ os) is = Memᴰ.tail (from_present os is)
  from_present (Some y ∷ os) is = ⊎_elim (λ (e : x ≡ y). Memᴰ.head (cc)) (λ later. Memᴰ.tail (from_present os later)) (Memᴰ.cases_cons is)

-- one of a condition
pub some_if : {X : Type 0} (b : Bool) (x y : X) → Some y ≡ then_some b x → (b ≡ true) × (y ≡ x)
some_if true x y e = (refl, (cc))
some_if false x y e = absurd (cc)

pub if_some : {X : Type 0} (b : Bool) (x : X) → b ≡ true → Some x ≡ then_some b x
if_some true x h = refl
if_some false x h = absurd (cc)
