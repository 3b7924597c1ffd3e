-- Which calls of an object in memory fail: those whose numbers were named.
use Rattle.std.specs.Prelude.{◌≡◌, ℕ, ◌+◌, ◌-◌, ◌^◌, ◌==◌, min, List, [], Bool}
use Rattle.std.specs.List.{list_any}
use Rattle.std.specs.Option.{option_map_or}
use Rattle.outside_io.specs.declared.failing_calls.FailingCalls.{FailingCalls}

-- how many calls were made
abbrev pub calls_made : FailingCalls → ℕ
calls_made calls = calls.made

-- the numbers of the calls that are to fail
abbrev pub failing_numbers : FailingCalls → List ℕ
failing_numbers calls = option_map_or (λ vec. vec.items) calls.numbers []

-- the number of the next call, where calls are counted from 1
abbrev pub next_number : FailingCalls → ℕ
next_number calls = min (calls_made calls + 1) (2 ^ 64 - 1)

-- the next call is to fail
abbrev pub is_next_failing : FailingCalls → Bool
is_next_failing calls = list_any (λ number. number == next_number calls) (failing_numbers calls)

-- a call was made, and the same calls are to fail
pub record CallMade (old new : FailingCalls) : Type 0 where
  pub count : calls_made new ≡ next_number old
  pub same : failing_numbers new ≡ failing_numbers old
