-- Costs in milliseconds.
use Rattle.std.specs.Prelude.{ℕ, ◌+◌, ◌-◌, min, ◌&&◌, nat_le}
use Rattle.cost.specs.Costs.{Kind}
use Rattle.cost.specs.declared.milliseconds.Milliseconds.{Milliseconds}

-- a count of milliseconds, as a cost
abbrev pub ms : ℕ → Milliseconds
ms n = record { count = n }

-- the least time of one segment, so that every segment costs more than zero
abbrev pub shortest_segment : ℕ
shortest_segment = 1

-- the greatest time of one segment
abbrev pub longest_segment : ℕ
longest_segment = 1_000_000

-- the ceiling: the longest segment, as often as a cheapest route has steps
abbrev pub longest_time : ℕ
longest_time = 4_095_000_000

-- the kind: costs are compared and summed by their counts
abbrev pub milliseconds : Kind Milliseconds
milliseconds = record {
  le = λ a b. nat_le a.count b.count;
  add = λ a b. ms (a.count + b.count);
  zero = ms 0;
  -- zero where g is at least f, since `-` stops at 0
  less = λ f g. ms (f.count - g.count);
  ceiling = ms longest_time;
  within = λ a. nat_le a.count longest_time;
  segment = λ a. nat_le shortest_segment a.count && nat_le a.count longest_segment;
  cut = λ a. ms (min a.count longest_time);
}
