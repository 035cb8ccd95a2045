use Rattle.std.proofs.Common.{ℕ, rules}
use Rattle.std.specs.Prelude.{nat_le}
use Rattle.std.proofs.lemmas.List.Sorted.{IsPartitionPoint-from_clause, IsPartitionedBy-leb}
use Rattle.consolidation.proofs.Jobwise.{ends_rise, located}
use Rattle.consolidation.proofs.jobs.run_of.Goals as goal

pub returns : goal.returns
returns c =
    let point = IsPartitionPoint-from_clause (λ (n : ℕ). nat_le n c.args.job) c.args.ends.now c.partition_point.result
    c.partition_point.ensures.partitioned (IsPartitionedBy-leb (λ (n : ℕ). n) _ _ (ends_rise _ _ c.requires.ends))
    (λ a r q k. search rules) in
    let at = located _ _ c.requires.ends _ _ c.requires.there c.partition_point.ensures.bound point in
    record { there = at.0; begun = at.1; unended = at.2 }
