-- The milliseconds keep the laws of a cost kind.
use Rattle.std.specs.Prelude.{refl}
use Rattle.std.proofs.Common.{ap, arith}
use Rattle.std.proofs.lemmas.Bool.Decides.{nat_tests}
use Rattle.cost.specs.Costs.{Laws, Positive}
use Rattle.cost.specs.Milliseconds.{ms, longest_segment, milliseconds}
use Rattle.cost.specs.Totals.{total_at_most, one_passes}

pub milliseconds_laws : Laws milliseconds
milliseconds_laws = record {
  order_total = λ a b. one_passes _ _ (grind (arith, nat_tests));
  order_transitive = λ a b c p q. grind (arith, nat_tests);
  order_antisymmetric = λ a b p q. ap ms (grind (arith, nat_tests));
  sum_associative = λ a b c. ap ms (omega arith);
  sum_commutative = λ a b. ap ms (omega arith);
  zero_neutral = λ a. ap ms (omega arith);
  zero_least = λ a. grind (arith, nat_tests);
  sum_strict = λ a b v p. grind (arith, nat_tests);
  remainder_adjoint = λ f g v. grind (arith, nat_tests);
  remainder_within = λ f g p. grind (arith, nat_tests);
  segments_within = λ cs all few.
      let short = total_at_most milliseconds (λ a. a.count) longest_segment refl (λ a b. refl) (λ c p. grind (arith, nat_tests)) cs all in
      grind (arith, nat_tests);
  ceiling_within = refl;
  ceiling_greatest = λ c p. p;
  cut_within = λ v. grind (arith, nat_tests);
  cut_not_above = λ v. grind (arith, nat_tests);
  cut_greatest = λ c v p q. grind (arith, nat_tests);
  cut_of_sum = λ c v. grind (arith, nat_tests);
}

pub milliseconds_positive : Positive milliseconds
milliseconds_positive = record { segment_above_zero = λ c p. grind (arith, nat_tests) }
