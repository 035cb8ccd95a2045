-- A run that writes 64 bytes of value 7, and then a list.
use Rattle.std.specs.Prelude.{false, None, [], ◌∷◌, ◌==◌, bytes_eq, codes, cond, replicate}
use Rattle.execution.specs.Plan.{JobPlan}

-- each job writes one byte of "out", and "list" is written last
abbrev pub plan_of : JobPlan
plan_of = record {
  jobs = record {
    count = 64;
    name = λ _. codes "out";
    at = λ k. k;
    size = λ _. 1;
    bytes = λ _ _. 7 ∷ [];
  };
  group = λ k. k;
  marks = false;
  marking = λ _. None;
  whole = λ _ name. cond (bytes_eq (codes "list") name) (1 ∷ []) (replicate 64 7);
  output = λ i. cond (i == 0) (codes "out") (codes "list");
  last = 1;
  outputs = 2;
}
