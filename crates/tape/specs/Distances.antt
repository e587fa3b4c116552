-- The larger coordinate difference is a distance. Assumes nothing.
use Rattle.std.proofs.Common.{◌≡◌, ◌+◌, ◌≤◌, true, leb, ℤ, ◌-ℤ◌, nat_abs, arith}
use Rattle.std.proofs.lemmas.Int.{ints}
use Rattle.std.proofs.lemmas.Bool.{and_parts, leb-true}
use Rattle.tables.specs.Tapes.{is_place, larger_difference}
use Rattle.tables.specs.declared.tape.Place.{Place}

pub record Ranged (p : Place) : Type 0 where
  pub x_ranged : nat_abs p.x ≤ 30_000
  pub y_ranged : nat_abs p.y ≤ 30_000

pub ranged : (p : Place) → is_place p ≡ true → Ranged p
ranged p ok =
    let parts = and_parts (leb (nat_abs p.x) 30_000) (leb (nat_abs p.y) 30_000) ok in
    record { x_ranged = leb-true _ _ parts.0; y_ranged = leb-true _ _ parts.1 }

difference_self : (a : ℤ) → nat_abs (a -ℤ a) ≡ 0
difference_self a = omega (arith, ints)

difference_small : (a b : ℤ) → nat_abs a ≤ 30_000 → nat_abs b ≤ 30_000 → nat_abs (a -ℤ b) ≤ 60_000
difference_small a b p q = omega (arith, ints)

difference_step : (a b c : ℤ) → nat_abs (a -ℤ c) ≤ nat_abs (a -ℤ b) + nat_abs (b -ℤ c)
difference_step a b c = omega (arith, ints)

pub larger_difference_self : (p : Place) → larger_difference p p ≡ 0
larger_difference_self p = omega (arith, difference_self p.x, difference_self p.y)

pub larger_difference_small : (p q : Place) → is_place p ≡ true → is_place q ≡ true → larger_difference p q ≤ 60_000
larger_difference_small p q a b =
    let h = ranged p a in
    let k = ranged q b in
    omega (arith, difference_small p.x q.x h.x_ranged k.x_ranged, difference_small p.y q.y h.y_ranged k.y_ranged)

-- the way round is not shorter
pub larger_difference_step : (p q r : Place) → larger_difference p r ≤ larger_difference p q + larger_difference q r
larger_difference_step p q r = omega (arith, difference_step p.x q.x r.x, difference_step p.y q.y r.y)
