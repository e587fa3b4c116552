-- Costs by crossings first keep the laws of a cost kind.
use Rattle.std.specs.Prelude.{refl}
use Rattle.std.proofs.Common.{ap₂, arith}
use Rattle.std.proofs.lemmas.Bool.Decides.{nat_tests}
use Rattle.cost.specs.Costs.{Laws, Positive}
use Rattle.cost.specs.Milliseconds.{longest_segment}
use Rattle.cost.specs.CrossingsFirst.{pair, most_on_segment, crossings_first}
use Rattle.cost.specs.Totals.{total_at_most, one_passes}

pub crossings_first_laws : Laws crossings_first
crossings_first_laws = record {
  order_total = λ a b. one_passes _ _ (grind (arith, nat_tests));
  order_transitive = λ a b c p q. grind (arith, nat_tests);
  order_antisymmetric = λ a b p q. ap₂ pair (grind (arith, nat_tests)) (grind (arith, nat_tests));
  sum_associative = λ a b c. ap₂ pair (omega arith) (omega arith);
  sum_commutative = λ a b. ap₂ pair (omega arith) (omega arith);
  zero_neutral = λ a. ap₂ pair (omega arith) (omega arith);
  zero_least = λ a. grind (arith, nat_tests);
  sum_strict = λ a b v p. grind (arith, nat_tests);
  remainder_adjoint = λ f g v. grind (arith, nat_tests);
  remainder_within = λ f g p. grind (arith, nat_tests);
  segments_within = λ cs all few.
      let crossed = total_at_most crossings_first (λ a. a.crossings) most_on_segment refl (λ a b. refl) (λ c p. grind (arith, nat_tests)) cs all in
      let short = total_at_most crossings_first (λ a. a.time.count) longest_segment refl (λ a b. refl) (λ c p. grind (arith, nat_tests)) cs all in
      grind (arith, nat_tests);
  ceiling_within = refl;
  ceiling_greatest = λ c p. grind (arith, nat_tests);
  cut_within = λ v. grind (arith, nat_tests);
  cut_not_above = λ v. grind (arith, nat_tests);
  cut_greatest = λ c v p q. grind (arith, nat_tests);
  cut_of_sum = λ c v. grind (arith, nat_tests);
}

pub crossings_first_positive : Positive crossings_first
crossings_first_positive = record { segment_above_zero = λ c p. grind (arith, nat_tests) }
